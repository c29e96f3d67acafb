use Rattle.std.proofs.Common.{◌≡◌, ◌++◌, take, drop, false}
use Rattle.sil_cards.specs.CardFields.{to_open_blank}
use Rattle.sil_cards.proofs.fields.to_open_blank.Given as goal

abbrev pub invariant-loop-i : goal.invariant-loop-i
invariant-loop-i l = to_open_blank false l.text ≡ take l.i l.text ++ to_open_blank l.quoted (drop l.i l.text)
