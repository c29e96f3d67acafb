use Rattle.std.proofs.Common.{◌≡◌, map, take}
use Rattle.sil_format.specs.declared.value.Value.TheVariants.{Number}
use Rattle.rv_emulate.specs.Ecalls.{words_in}
use Rattle.rv_emulate.proofs.operands.words.Given as goal

abbrev pub invariant-loop-k : goal.invariant-loop-k
invariant-loop-k l = l.values.items ≡ take l.k (map Number (words_in l.count l.bytes))
