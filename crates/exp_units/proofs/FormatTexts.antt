-- Texts of formats, and expansions in the code's formats.
use Rattle.std.proofs.Common.{◌≡◌, ◌≢◌, ℕ, ◌+◌, ◌<◌, List, Some, sym, ap, ◌∙◌, arith}
use Rattle.std.proofs.lemmas.Bool.Decides.{nat_tests}
use Rattle.std.proofs.lemmas.Option.{same_Some}
use Rattle.std.specs.Prelude.{Bool, nat_eq, slice_get}
use Rattle.sil_model.specs.declared.program.Arg.{Arg}
use Rattle.sil_model.specs.declared.program.Specials.{Specials}
use Rattle.sil_model.specs.Effects.{Effect}
use Rattle.sil_model.specs.Sites.{Site}
use Rattle.sil_model.specs.States.{State}
use Rattle.sil_micro.specs.Codes.{MicroCode}
use Rattle.sil_micro.specs.Expands.{Expands}
use Rattle.sil_micro.proofs.Making.{by_test}
use Rattle.exp_units.specs.InFormats.{ExpandsIn}

-- one format more isn't the text
pub none_so_far : (formats : List (List ℕ)) (text bytes : List ℕ) (i : ℕ) → slice_get formats i ≡ Some bytes → bytes ≢ text → ((j : ℕ) → j < i → slice_get formats j ≢ Some text) → (j : ℕ) → j < i + 1 → slice_get formats j ≢ Some text
none_so_far formats text bytes i is other none j lt e = by_test (nat_eq j i)
    (λ yes. let same : j ≡ i = grind (arith, nat_tests, yes) in other (same_Some bytes text (sym is ∙ ap (λ n. slice_get formats n) (sym same) ∙ e)))
    (λ no. let below : j < i = grind (arith, nat_tests, no, lt) in none j below e)

-- what an expansion does in all settings, it does in those with the code's formats
pub expands_in : (old new : MicroCode) (k : ℕ) (specials : Specials) (args : List Arg) (clause : Site → State → Effect) (visits : Site → State → ℕ) (prints : Bool) → Expands old new k specials args clause visits prints → ExpandsIn old new k specials args clause visits prints
expands_in old new k specials args clause visits prints x = record { piece = x.piece; stands = x.stands; is_piece = x.is_piece; does = λ g program parameters u h same. x.does g program parameters u h }
