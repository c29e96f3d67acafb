-- Finishing units in order.
use Rattle.std.proofs.Common.{◌≡◌, ℕ, suc, ◌+◌, ◌<◌, List, [], ◌∷◌, ◌++◌, length, take, drop, get_or, set, Option, refl, sym, ap, ◌∙◌, arith, add-one, drop-cons}
use Rattle.std.specs.Option.{option_map}
use Rattle.std.proofs.lemmas.List.{take_more, take_more_set, map-append}
use Rattle.unit_io.specs.Tapes.{TapeState}
use Rattle.unit_io.specs.Units.{Seen, AllUnits, FinishesPlace, FinishesAll}
use Rattle.unit_io.specs.Slots.{seen_of, seen_by}

pub finishes-push : (us vs : AllUnits) (u v : Option Seen) (m k : ℕ) → FinishesAll us vs m → FinishesPlace u v k → FinishesAll (us ++ u ∷ []) (vs ++ v ∷ []) (m + k)
finishes-push [] vs u v m k all one = rw (all.0, all.1) (k, 0, one, (refl, refl), omega arith)
finishes-push (u0 ∷ us) [] u v m k all one = absurd all
finishes-push (u0 ∷ us) (v0 ∷ vs) u v m k all one =
    (all.0, all.1 + k, all.2, finishes-push us vs u v all.1 k all.3 one, omega (arith, all.4))

pub same_drop : {A : Type 0} (xs ys : List A) (i : ℕ) (d : A) → i < length xs → i < length ys → drop i xs ≡ drop i ys → (get_or xs i d ≡ get_or ys i d) × (drop (i + 1) xs ≡ drop (i + 1) ys)
same_drop xs ys i d x y e =
    let both : get_or xs i d ∷ drop (suc i) xs ≡ get_or ys i d ∷ drop (suc i) ys = sym (drop-cons xs i d x) ∙ (e ∙ drop-cons ys i d y) in
    (cc, rw add-one cc)

module _ {U : Type 0} (tape : U → Option TapeState) (faults : U → ℕ) where
  pub seen-more : (slots : List (Option U)) (i : ℕ) (d : Option U) → i < length slots → seen_by tape faults (take (i + 1) slots) ≡ seen_by tape faults (take i slots) ++ option_map (seen_of tape faults) (get_or slots i d) ∷ []
  seen-more slots i d within = ap (seen_by tape faults) (take_more slots i d within) ∙ map-append (option_map (seen_of tape faults)) (take i slots) (get_or slots i d ∷ [])

  pub seen-more_set : (slots : List (Option U)) (i : ℕ) (v : Option U) → i < length slots → seen_by tape faults (take (i + 1) (set slots i v)) ≡ seen_by tape faults (take i slots) ++ option_map (seen_of tape faults) v ∷ []
  seen-more_set slots i v within = ap (seen_by tape faults) (take_more_set slots i v within) ∙ map-append (option_map (seen_of tape faults)) (take i slots) (v ∷ [])
