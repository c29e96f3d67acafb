use Rattle.std.proofs.Common.{◌∙◌, sym, refl, arith, rules}
use Rattle.sil_macros.proofs.FoundLemmas.{number_below}
use Rattle.sil_base.specs.Bytes.{piece, AreBytes}
use Rattle.sil_base.proofs.Numbers.{length-piece, AreBytes-piece}
use Rattle.image_file.proofs.Parts.{number_fits}
use Rattle.image_file.proofs.SpelledEntries.{entry_name, entry_zeros, entry_again}
use Rattle.image_file.proofs.entries.read_entry.Goals as goal

pub returns-in_default : goal.returns-in_default
returns-in_default c = λ e h.
    let same = c.number_16.ensures ∙ entry_name e c.args.bytes.now h in
    let none = c.in_default.ensures.none in
    absurd (omega (arith, c.in_default.ensures.none.0 refl, same, number_below e.name))

pub returns-then-number_16-ne0 : goal.returns-then-number_16-ne0
returns-then-number_16-ne0 c = λ e h. c.if-number_16-ne0.true (c.number_16-2.ensures ∙ entry_zeros e c.args.bytes.now h)

pub returns : goal.returns
returns c =
    let fit : AreBytes c.args.bytes.now = λ i. let fits = c.type_inv.bytes i in search rules in
    let bytes = entry_again c.args.bytes.now _ _ _ c.requires fit c.number_64.ensures c.number_32.ensures (c.in-Some.ensures.numbered ∙ c.number_16.ensures) (sym c.number_16-2.ensures ∙ c.if-number_16-ne0.false) in
    let place = number_fits (piece 0 8 c.args.bytes.now) 8 (length-piece 0 8 c.args.bytes.now (omega (arith, c.requires))) (AreBytes-piece 0 8 c.args.bytes.now fit) in
    let card = number_fits (piece 8 4 c.args.bytes.now) 4 (length-piece 8 4 c.args.bytes.now (omega (arith, c.requires))) (AreBytes-piece 8 4 c.args.bytes.now fit) in
    (bytes, rw c.number_64.ensures place, rw c.number_32.ensures card)
