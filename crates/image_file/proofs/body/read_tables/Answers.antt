use Rattle.std.proofs.Common.{◌≡◌, ◌∙◌, ◌/◌, length, refl, sym, ap, arith, length-append}
use Rattle.std.proofs.lemmas.Result.{err_from_is_err_and}
use Rattle.image_file.specs.TableEntries.{entries_fit}
use Rattle.image_file.proofs.Parts.{same_front}
use Rattle.image_file.proofs.Stops.{stops_as}
use Rattle.image_file.proofs.body.read_tables.Goals as goal

pub returns-in_err-tables : goal.returns-in_err-tables
returns-in_err-tables c =
    let p = err_from_is_err_and c.from_residual.result c.from_residual.ensures.1 in
    let size = c.table_bytes.ensures in
    rw (p.1, p.2) (stops_as _ 11 _ _ c.in_err-tables.ensures (λ short i rest h. absurd (omega (arith, ap length h.0, length-append i.tables rest, h.1))))

pub returns-then-not-are_tables : goal.returns-then-not-are_tables
returns-then-not-are_tables c = (
  refl,
  λ i rest h.
      let cut = c.in_ok-tables.ensures in
      let same = same_front c.in_ok-tables.tables.items i.tables c.in_ok-tables.rest.now rest (sym cut.0 ∙ h.0) (cut.1 ∙ c.table_bytes.ensures ∙ sym h.1) in
      let count : length i.tables / 4096 ≡ c.args.counts.now.tables = omega (arith, h.1) in
      let fit = c.are_tables.ensures ∙ ap (λ ts. entries_fit (length ts / 4096) (length ts / 16) ts) (c.deref.ensures.value ∙ same) ∙ ap (λ n. entries_fit n (length i.tables / 16) i.tables) count ∙ h.2 in
      let bad = c.if-not-are_tables.true in
      cc,
)
