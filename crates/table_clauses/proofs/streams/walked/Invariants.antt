use Rattle.std.proofs.Common.{◌≡◌, ◌-◌}
use Rattle.string_clauses.specs.Walks.{walk}
use Rattle.table_clauses.specs.SyntaxClauses.{ran_out, stream_turn}
use Rattle.table_clauses.proofs.streams.walked.Given as goal

-- the turns that are left come to the end of all of them
abbrev pub invariant-loop-i : goal.invariant-loop-i
invariant-loop-i l = walk (stream_turn l.tables l.cells l.at) ran_out l.i (l.count - l.i) l.scan ≡ walk (stream_turn l.tables l.cells l.at) ran_out 0 l.count l.fn.start
