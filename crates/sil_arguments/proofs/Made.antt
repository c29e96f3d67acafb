-- Lists that are made item by item.
use Rattle.std.proofs.Common.{◌≡◌, ℕ, ◌+◌, ◌<◌, suc, List, [], ◌∷◌, ◌++◌, length, get_or, drop, Option, Some, None, refl, sym, ap, ◌∙◌, append_assoc, add-one, arith}
use Rattle.std.specs.Prelude.{option_map, ℤ}
use Rattle.std.proofs.Math.Seq.{drop-cons}
use Rattle.sil_macros.specs.declared.shapes.Place.{Place}
use Rattle.sil_operands.specs.declared.expr.Term.{Term}
use Rattle.sil_operands.specs.declared.operand.Operand.{Operand}
use Rattle.sil_shapes.specs.ShapeRules.{Measure}
use Rattle.sil_model.specs.declared.program.Arg.{Arg}
use Rattle.sil_arguments.specs.MadeArguments.{Scope, and_before, arg_of, args_of, first_of, rest_of, place_in, places_in, location_in, locations_in}

-- the items that are made already stand before those that are made next
abbrev pub after : {A : Type 0} → List A → Option (List A) → Option (List A)
after made rest = option_map (λ xs. made ++ xs) rest

pub after_none : {A : Type 0} (rest : Option (List A)) → after [] rest ≡ rest
after_none None = refl
after_none (Some xs) = refl

pub after_push : {A : Type 0} (made : List A) (x : A) (rest : Option (List A)) → after made (and_before (Some x) rest) ≡ after (made ++ x ∷ []) rest
after_push made x None = refl
after_push made x (Some xs) = ap Some (sym (append_assoc made (x ∷ []) xs))

pub empty : {A : Type 0} (xs : List A) → length xs ≡ 0 → xs ≡ []
empty [] h = refl
empty (x ∷ xs) h = absurd (omega arith)

-- ---- operands

-- the item at a place, and those after it
pub first_left : {A : Type 0} (xs : List A) (i : ℕ) (x : A) → i < length xs → x ≡ get_or xs i x → drop i xs ≡ x ∷ drop (i + 1) xs
first_left xs i x h is = rw add-one (drop-cons xs i x h ∙ ap (λ y. y ∷ drop (suc i) xs) (sym is))

unfit_first : {A : Type 0} (o : Option A) (rest : Option (List A)) → o ≡ None → and_before o rest ≡ None
unfit_first o rest h = rw h refl

-- an operand is unfit
pub unfit : (scope : Scope) (places : List Place) (i : ℕ) (place : Place) (operands : List Operand) (made : List Arg) →
    i < length places → place ≡ get_or places i place → arg_of scope place (first_of operands) ≡ None → after made (args_of scope (drop i places) operands) ≡ None
unfit scope places i place operands made h is none =
    ap (λ ps. after made (args_of scope ps operands)) (first_left places i place h is)
    ∙ ap (after made) (unfit_first (arg_of scope place (first_of operands)) (args_of scope (drop (i + 1) places) (rest_of operands)) none)

-- an operand is made
pub fitted : (scope : Scope) (places : List Place) (i : ℕ) (place : Place) (operands : List Operand) (made : List Arg) (x : Arg) →
    i < length places → place ≡ get_or places i place → arg_of scope place (first_of operands) ≡ Some x →
    after made (args_of scope (drop i places) operands) ≡ after (made ++ x ∷ []) (args_of scope (drop (i + 1) places) (rest_of operands))
fitted scope places i place operands made x h is some =
    ap (λ ps. after made (args_of scope ps operands)) (first_left places i place h is)
    ∙ ap (λ o. after made (and_before o (args_of scope (drop (i + 1) places) (rest_of operands)))) some
    ∙ after_push made x (args_of scope (drop (i + 1) places) (rest_of operands))

-- ---- lists

pub unfit_place : (m : Measure) (items : List (Option (List Term))) (i : ℕ) (item : Option (List Term)) (made : List ℤ) →
    i < length items → item ≡ get_or items i item → place_in m item ≡ None → after made (places_in m (drop i items)) ≡ None
unfit_place m items i item made h is none =
    ap (λ xs. after made (places_in m xs)) (first_left items i item h is)
    ∙ ap (after made) (unfit_first (place_in m item) (places_in m (drop (i + 1) items)) none)

pub fitted_place : (m : Measure) (items : List (Option (List Term))) (i : ℕ) (item : Option (List Term)) (made : List ℤ) (x : ℤ) →
    i < length items → item ≡ get_or items i item → place_in m item ≡ Some x → after made (places_in m (drop i items)) ≡ after (made ++ x ∷ []) (places_in m (drop (i + 1) items))
fitted_place m items i item made x h is some =
    ap (λ xs. after made (places_in m xs)) (first_left items i item h is)
    ∙ ap (λ o. after made (and_before o (places_in m (drop (i + 1) items)))) some
    ∙ after_push made x (places_in m (drop (i + 1) items))

pub unfit_location : (m : Measure) (items : List (Option (List Term))) (i : ℕ) (item : Option (List Term)) (made : List (Option ℕ)) →
    i < length items → item ≡ get_or items i item → location_in m item ≡ None → after made (locations_in m (drop i items)) ≡ None
unfit_location m items i item made h is none =
    ap (λ xs. after made (locations_in m xs)) (first_left items i item h is)
    ∙ ap (after made) (unfit_first (location_in m item) (locations_in m (drop (i + 1) items)) none)

pub fitted_location : (m : Measure) (items : List (Option (List Term))) (i : ℕ) (item : Option (List Term)) (made : List (Option ℕ)) (x : Option ℕ) →
    i < length items → item ≡ get_or items i item → location_in m item ≡ Some x → after made (locations_in m (drop i items)) ≡ after (made ++ x ∷ []) (locations_in m (drop (i + 1) items))
fitted_location m items i item made x h is some =
    ap (λ xs. after made (locations_in m xs)) (first_left items i item h is)
    ∙ ap (λ o. after made (and_before o (locations_in m (drop (i + 1) items)))) some
    ∙ after_push made x (locations_in m (drop (i + 1) items))
