use Rattle.std.proofs.Common.{◌≡◌, ◌-◌, ◌∙◌, Some, ap, sym, arith}
use Rattle.std.proofs.lemmas.Int.{to_z-of_z}
use Rattle.std.specs.declared.ops.ControlFlow.{ControlFlow}
use Rattle.std.specs.declared.ops.ControlFlow.TheVariants.{Break}
use Rattle.string_clauses.proofs.Turns.{walk_more}
use Rattle.table_clauses.specs.SyntaxClauses.{ran_out, stream_turn}
use Rattle.table_clauses.specs.declared.streams.Halt.{Halt}
use Rattle.table_clauses.specs.declared.streams.Scan.{Scan}
use Rattle.table_clauses.proofs.streams.walked.Goals as goal
use mir.Val.{SFits}
use mir.Syntax.{w64}

pub returns-in-Break-clause-value : goal.returns-in-Break-clause-value
returns-in-Break-clause-value c =
    let fits : SFits w64 c.args.at = c.ranges.at in
    let value = simp to_z-of_z at c.in_ok-halt.ensures.value in
    let inv = simp to_z-of_z at c.loop-i.invariant in
    let more = walk_more (stream_turn c.args.tables.now c.args.cells.now c.args.at) ran_out c.loop-i.i (c.args.count - c.loop-i.i) c.loop-i.scan (omega arith) in
    let step : stream_turn c.args.tables.now c.args.cells.now c.args.at c.loop-i.i c.loop-i.scan ≡ Some (Break c.in-Break.halt) = sym value ∙ ap (λ (x : ControlFlow Halt Scan). Some x) c.in-Break.is in
    simp step at (sym more ∙ inv)
