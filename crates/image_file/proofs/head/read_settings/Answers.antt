use Rattle.std.proofs.Common.{◌≡◌, ℕ, List, ◌∙◌, ◌++◌, length, refl, sym, ap, arith, append_assoc, length-append}
use Rattle.std.proofs.lemmas.Result.{err_from_is_err_and}
use Rattle.layout_params.specs.Parameters.{Settings, settings_numbers}
use Rattle.image_file.specs.Spelling.{settings_part, numbers_in}
use Rattle.image_file.proofs.Agreement.{length-settings, settings_of, settings_again}
use Rattle.image_file.proofs.Fitting.{parameters_fit}
use Rattle.image_file.proofs.Parts.{same_front, same_parts, same_numbers, length-numbers_in}
use Rattle.image_file.proofs.head.read_settings.Goals as goal

pub returns-in_err-parameters : goal.returns-in_err-parameters
returns-in_err-parameters c =
    let p = err_from_is_err_and c.from_residual.result c.from_residual.ensures.1 in
    let short = c.in_err-parameters.ensures.1 in
    rw (p.1, p.2, c.in_err-parameters.ensures.0) (refl, λ s rest h legal. absurd (omega (arith, ap length h, length-append (settings_part s) rest, length-settings s legal)))

pub returns-in_err-part : goal.returns-in_err-part
returns-in_err-part c =
    let p = err_from_is_err_and c.from_residual-in_err-part.result c.from_residual-in_err-part.ensures.1 in
    let short = c.in_err-part.ensures.1 in
    let numbers = c.in_ok-parameters.ensures in
    rw (p.1, p.2, c.in_err-part.ensures.0) (refl, λ s rest h legal. absurd (omega (arith, ap length h, ap length numbers.0, length-append c.in_ok-parameters.parameters.now c.in_ok-parameters.rest.now, length-append (settings_part s) rest, length-settings s legal)))

-- fourteen numbers are in 112 bytes
fourteen : (bytes xs : List ℕ) → bytes ≡ numbers_in 8 xs → length bytes ≡ 112 → length xs ≡ 14
fourteen bytes xs e h = omega (arith, ap length e, length-numbers_in 8 xs)

pub returns-in-Some : goal.returns-in-Some
unfolding settings_part
returns-in-Some c =
    let numbers = c.in_ok-parameters.ensures in
    let date = c.in_ok-part.ensures in
    let result = c.read_parameters.result in
    let these = settings_of result c.copy_from_slice.new.self in
    let again = settings_again result c.copy_from_slice.new.self (fourteen c.in_ok-parameters.parameters.now result c.read_parameters.ensures.numbers numbers.1) in
    let same = c.in-Some.ensures.settings these (sym again) refl in
    let parameters : c.in_ok-parameters.parameters.now ≡ numbers_in 8 (settings_numbers c.in-Some.settings) = c.read_parameters.ensures.numbers ∙ ap (λ xs. numbers_in 8 xs) (sym again) ∙ ap (λ (s : Settings). numbers_in 8 (settings_numbers s)) (sym same) in
    let dates : c.in_ok-part.part.now ≡ c.in-Some.settings.date = sym c.copy_from_slice.ensures.after ∙ ap (λ (s : Settings). s.date) (sym same) in (
      numbers.0
          ∙ ap (λ xs. xs ++ c.in_ok-parameters.rest.now) parameters
          ∙ ap (λ xs. numbers_in 8 (settings_numbers c.in-Some.settings) ++ xs) (date.0 ∙ ap (λ xs. xs ++ c.in_ok-part.rest.now) dates)
          ∙ sym (append_assoc (numbers_in 8 (settings_numbers c.in-Some.settings)) c.in-Some.settings.date c.in_ok-part.rest.now),
      c.in-Some.ensures.legal,
    )

pub returns-in-None : goal.returns-in-None
unfolding settings_part
returns-in-None c = (
  refl,
  λ s rest h legal.
      let numbers = c.in_ok-parameters.ensures in
      let date = c.in_ok-part.ensures in
      let result = c.read_parameters.result in
      let count = fourteen c.in_ok-parameters.parameters.now result c.read_parameters.ensures.numbers numbers.1 in
      let two = same_parts c.in_ok-parameters.parameters.now (numbers_in 8 (settings_numbers s)) c.in_ok-parameters.rest.now (s.date ++ rest) c.args.bytes.now c.args.bytes.now refl numbers.0 (h ∙ append_assoc (numbers_in 8 (settings_numbers s)) s.date rest) (numbers.1 ∙ sym (length-numbers_in 8 (settings_numbers s))) in
      let same : result ≡ settings_numbers s = same_numbers 8 result (settings_numbers s) c.read_parameters.ensures.fit (parameters_fit s legal) count (sym c.read_parameters.ensures.numbers ∙ two.fronts) in
      let dates : c.in_ok-part.part.now ≡ s.date = same_front c.in_ok-part.part.now s.date c.in_ok-part.rest.now rest (sym date.0 ∙ two.rests) (date.1 ∙ sym legal.date.0) in
      c.in-None.ensures.settings s same (c.copy_from_slice.ensures.after ∙ dates) legal,
)
