-- What operations are linked to is near and short.
use Rattle.std.proofs.Common.{◌≡◌, ℕ, ◌-◌, ◌^◌, ◌<◌, ◌≤◌, ◌⊎◌, inl, inr, List, [], length, refl, arith}
use Rattle.std.proofs.lemmas.Bool.{cases_lt}
use Rattle.std.proofs.lemmas.List.{get_or_past}
use Rattle.std.proofs.lemmas.List.Elements.{All-get_or}
use Rattle.std.proofs.lemmas.List.Sums.{sum_by-take-le}
use Rattle.std.specs.Prelude.{All, sum_by}
use Rattle.layout_params.specs.Parameters.{Settings}
use Rattle.sil_micro.specs.declared.op.Op.{Op}
use Rattle.sil_micro.specs.declared.op.Op.TheVariants.{UnitCall}
use Rattle.sil_micro.specs.declared.op.Text.{Text}
use Rattle.sil_micro.specs.declared.op.Text.TheVariants as text
use Rattle.rv_operations.specs.declared.places.Links.{Links}
use Rattle.rv_operations.specs.Links.{format_place, format_length, text_links, links_of}
use Rattle.rv_operations.specs.Ops.{number_of}
use Rattle.rv_operations.specs.CodePlaces.{Places}

-- the number is that of the operation, and the text is near, and short
pub record IsLinked (number : ℕ) (links : Links) : Type 0 where
  pub number_is : links.number ≡ number
  pub text : links.text < 2 ^ 31 - 2 ^ 11
  pub text_len : links.text_len ≤ 256

module _ (settings : Settings) (statics : ℕ) (formats : List (List ℕ)) (places : Places) (lengths : All (λ text. length text ≤ 256) formats) (bytes : sum_by length formats ≤ 2097152) where
  place_low : (i : ℕ) → format_place formats i < 2 ^ 31 - 2 ^ 11
  place_low i = let part = sum_by-take-le length formats i in omega arith

  text_short : (i : ℕ) → format_length formats i ≤ 256
  text_short i = by_place (cases_lt i (length formats))
    where
      by_place : (i < length formats) ⊎ (length formats ≤ i) → format_length formats i ≤ 256
      by_place (inl lt) = All-get_or (λ text. length text ≤ 256) formats i [] lt lengths
      by_place (inr le) = rw (get_or_past formats i [] le) (omega arith)

  text_linked : (t : Text) → IsLinked 0 (text_links formats t)
  text_linked text.None = record { number_is = refl; text = omega arith; text_len = omega arith }
  text_linked (text.Format i) = record { number_is = refl; text = place_low i; text_len = text_short i }
  text_linked (text.Chars at len) = record { number_is = refl; text = omega arith; text_len = omega arith }

  pub linked : (op : Op) → IsLinked (number_of settings statics op) (links_of settings statics formats places op)
  linked (UnitCall call unit to t values) = text_linked t
  linked _ = record { number_is = refl; text = omega arith; text_len = omega arith }
