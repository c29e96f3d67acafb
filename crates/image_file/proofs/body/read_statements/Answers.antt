use Rattle.std.proofs.Common.{◌≡◌, ◌∙◌, ◌++◌, ◌+◌, ◌*◌, ℕ, List, map, length, refl, sym, ap, subst, arith, All, ◌<◌, ◌^◌, length-append}
use Rattle.std.proofs.lemmas.List.{length-map}
use Rattle.std.proofs.lemmas.Result.{err_from_is_err_and}
use Rattle.std.specs.List.{flat_map}
use Rattle.sil_base.specs.declared.places.TheConstants.{FIRST_WORD}
use Rattle.sil_macros.specs.declared.names.Macro.{Macro}
use Rattle.image_file.specs.Image.{entry_of, places_rise}
use Rattle.image_file.specs.Spelling.{entry_part}
use Rattle.image_file.proofs.Agreement.{same_entries, end_of_code}
use Rattle.image_file.proofs.Fitting.{entries_fit_bytes}
use Rattle.image_file.proofs.Parts.{same_front}
use Rattle.image_file.proofs.SpelledEntries.{length-entries}
use Rattle.image_file.proofs.Stops.{stops_as}
use Rattle.image_file.proofs.body.read_statements.Goals as goal

pub returns-in_err-part : goal.returns-in_err-part
returns-in_err-part c =
    let p = err_from_is_err_and c.from_residual.result c.from_residual.ensures.1 in
    let short = c.in_err-part.ensures.1 in
    rw (p.1, p.2, c.in_err-part.ensures.0) (refl, λ i rest h. absurd (omega (arith, ap length h.0, length-append (flat_map entry_part i.statements) rest, length-entries i.statements, h.1)))

pub returns-in_err-statements : goal.returns-in_err-statements
returns-in_err-statements c =
    let p = err_from_is_err_and c.from_residual-in_err-statements.result c.from_residual-in_err-statements.ensures.1 in
    let cut = c.in_ok-part.ensures in
    rw (p.1, p.2) (stops_as _ 6 _ _ c.in_err-statements.ensures (λ none i rest h. none i.statements (same_front c.in_ok-part.part.now (flat_map entry_part i.statements) c.in_ok-part.rest.now rest (sym cut.0 ∙ h.0) (omega (arith, cut.1, length-entries i.statements, h.1)))))

pub returns-then-not-places_rise : goal.returns-then-not-places_rise
returns-then-not-places_rise c = (
  refl,
  λ i rest h.
      let cut = c.in_ok-part.ensures in
      let read = c.in_ok-statements.ensures in
      let items = c.in_ok-statements.statements.items in
      let front = same_front c.in_ok-part.part.now (flat_map entry_part i.statements) c.in_ok-part.rest.now rest (sym cut.0 ∙ h.0) (omega (arith, cut.1, length-entries i.statements, h.1)) in
      let count : length (map entry_of items) ≡ length i.statements = simp length-map (read.1 ∙ sym h.1) in
      let fit = entries_fit_bytes FIRST_WORD (FIRST_WORD + 4 * c.args.counts.now.words) i.statements (end_of_code c.args.counts.now c.requires) h.2 h.3 in
      let same : map entry_of items ≡ i.statements = same_entries (map entry_of items) i.statements read.2 fit count (sym read.0 ∙ front) in
      let rise =
      c.places_rise.ensures.places
      ∙ ap (λ xs. places_rise FIRST_WORD (FIRST_WORD + 4 * c.args.counts.now.words) (map entry_of xs)) c.deref.ensures.value
      ∙ ap (λ es. places_rise FIRST_WORD (FIRST_WORD + 4 * c.args.counts.now.words) es) same
      ∙ h.2 in
      let bad = c.if-not-places_rise.true in
      cc,
)

pub returns : goal.returns
returns c = λ settings.
    let cut = c.in_ok-part.ensures in
    let read = c.in_ok-statements.ensures in
    let items = c.in_ok-statements.statements.items in
    let Q : List (ℕ × ℕ × Macro) → Type 0 = λ xs. All (λ e. e.card < 2 ^ 32) (map entry_of xs) in (
      cut.0 ∙ ap (λ xs. xs ++ c.in_ok-part.rest.now) read.0,
      simp length-map read.1,
      ap (λ xs. places_rise FIRST_WORD (FIRST_WORD + 4 * c.args.counts.now.words) (map entry_of xs)) (sym c.deref.ensures.value) ∙ sym c.places_rise.ensures.places ∙ c.if-not-places_rise.false,
      subst Q c.deref.ensures.value (c.places_rise.ensures.cards c.if-not-places_rise.false),
    )
