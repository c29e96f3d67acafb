use Rattle.std.proofs.Common.{◌≡◌, ◌∙◌, ◌++◌, refl, sym, ap, rules}
use Rattle.sil_base.specs.Bytes.{number, low_bytes}
use Rattle.image_file.specs.Spelling.{version_part}
use Rattle.image_file.proofs.Parts.{same_front, low_again, AreBytes-front}
use Rattle.image_file.proofs.head.read_version.Goals as goal

pub returns-then-number_32-ne-VERSION : goal.returns-then-number_32-ne-VERSION
returns-then-number_32-ne-VERSION c = (
  refl,
  λ rest h.
      let cut = c.in_ok-version.ensures in
      c.if-number_32-ne-VERSION.true (c.number_32.ensures ∙ ap number (same_front c.in_ok-version.version.now version_part c.in_ok-version.rest.now rest (sym cut.0 ∙ h) cut.1)),
)

pub returns : goal.returns
returns c =
    let cut = c.in_ok-version.ensures in
    let fit = AreBytes-front c.args.bytes.now c.in_ok-version.version.now c.in_ok-version.rest.now cut.0 (λ i. let fits = c.type_inv.bytes i in search rules) in
    let again : c.in_ok-version.version.now ≡ version_part = sym (low_again 4 c.in_ok-version.version.now cut.1 fit) ∙ ap (low_bytes 4) (sym c.number_32.ensures ∙ c.if-number_32-ne-VERSION.false) in
    cut.0 ∙ ap (λ xs. xs ++ c.in_ok-version.rest.now) again
