use Rattle.std.proofs.Common.{◌≡◌, map, take}
use Rattle.sil_format.specs.declared.value.Value.TheVariants.{Char}
use Rattle.rv_emulate.proofs.operands.characters.Given as goal

abbrev pub invariant-loop-k : goal.invariant-loop-k
invariant-loop-k l = l.values.items ≡ take l.k (map Char l.bytes)
