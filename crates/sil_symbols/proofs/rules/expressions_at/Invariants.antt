use Rattle.std.proofs.Common.{◌≡◌, ◌++◌, drop}
use Rattle.sil_symbols.specs.SymbolRules.{expressions_at}
use Rattle.sil_symbols.specs.HeldNames.{terms_of}
use Rattle.sil_symbols.proofs.rules.expressions_at.Given as goal

abbrev pub invariant-loop-i : goal.invariant-loop-i
invariant-loop-i l = terms_of l.expressions.items ++ expressions_at (drop l.i l.places) (drop l.i l.operands) ≡ expressions_at l.places l.operands
