use Rattle.std.proofs.Common.{◌≡◌, false, drop}
use Rattle.sil_operands.specs.OperandReading.{text_in}
use Rattle.sil_operands.proofs.Each.{after}
use Rattle.sil_operands.proofs.texts.read_text.Given as goal

abbrev pub invariant-loop-byte : goal.invariant-loop-byte
invariant-loop-byte l = text_in false l.bytes ≡ after l.text.items (text_in l.after_quote (drop l.byte-index l.bytes))
