use Rattle.std.proofs.Common.{◌≡◌, ◌++◌, drop}
use Rattle.sil_symbols.specs.SymbolRules.{items_in}
use Rattle.sil_symbols.specs.HeldNames.{terms_of}
use Rattle.sil_symbols.proofs.rules.push_items.Given as goal

abbrev pub invariant-loop-item : goal.invariant-loop-item
invariant-loop-item l = terms_of l.expressions.items ++ items_in (drop l.item-index l.items) ≡ terms_of l.initial.expressions.items ++ items_in l.items
