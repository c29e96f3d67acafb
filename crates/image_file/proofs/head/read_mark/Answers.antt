use Rattle.std.proofs.Common.{◌≡◌, ◌∙◌, refl, sym}
use Rattle.image_file.specs.Spelling.{mark_part}
use Rattle.image_file.proofs.Parts.{same_front}
use Rattle.image_file.proofs.head.read_mark.Goals as goal

pub returns-then-ne : goal.returns-then-ne
returns-then-ne c = (
  refl,
  λ rest h.
      let cut = c.in_ok-mark.ensures in
      let mark : c.in_ok-mark.mark.now ≡ mark_part = same_front c.in_ok-mark.mark.now mark_part c.in_ok-mark.rest.now rest (sym cut.0 ∙ h) cut.1 in
      let same = rw (mark, c.as_slice.ensures) at c.ne.ensures in
      let differs = c.if-ne.true in
      cc,
)
