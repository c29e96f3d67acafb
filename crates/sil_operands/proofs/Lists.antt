-- Lists in brackets.
use Rattle.std.proofs.Common.{◌≡◌, ◌≢◌, ℕ, ◌+◌, ◌<◌, ◌≤◌, true, false, List, [], ◌∷◌, ◌++◌, length, Some, None, refl, ap, ◌∙◌, arith}
use Rattle.std.specs.Prelude.{count_by, nat_le, ◌==◌, option_and_then}
use Rattle.std.specs.Option.{option_map}
use Rattle.std.proofs.lemmas.Bool.Decides.{nat_tests}
use Rattle.std.proofs.lemmas.List.Splits.{length-slice_split}
use Rattle.sil_operands.specs.Limits.{card_limits}
use Rattle.sil_operands.specs.OperandReading.{each, parts_at, item_in, items_in, before_bracket, list_in}

-- ---- the number of items

few : (n m : ℕ) → n ≡ m + 1 → m < 40 → nat_le n 40 ≡ true
few n m e h = grind (arith, nat_tests)

many : (n m : ℕ) → n ≡ m + 1 → 40 ≤ m → nat_le n 40 ≡ false
many n m e h = grind (arith, nat_tests)

pub few_items : (inner : List ℕ) → count_by (λ c. c == 44) inner < 40 → items_in card_limits inner ≡ each (item_in card_limits) (parts_at 44 inner)
few_items inner h = rw (few (length (parts_at 44 inner)) (count_by (λ c. c == 44) inner) (length-slice_split (λ c. c == 44) inner) h) refl

pub many_items : (inner : List ℕ) → 40 ≤ count_by (λ c. c == 44) inner → items_in card_limits inner ≡ None
many_items inner h = rw (many (length (parts_at 44 inner)) (count_by (λ c. c == 44) inner) (length-slice_split (λ c. c == 44) inner) h) refl

-- ---- the last bracket

pub before_last : (front : List ℕ) → before_bracket (front ++ 41 ∷ []) ≡ Some front
before_last [] = refl
before_last (c ∷ []) = refl
before_last (c ∷ d ∷ cs) = ap (option_map (λ rest. c ∷ rest)) (before_last (d ∷ cs))

pub before_other : (front : List ℕ) (last : ℕ) → (last == 41) ≡ false → before_bracket (front ++ last ∷ []) ≡ None
before_other [] last h = rw h refl
before_other (c ∷ []) last h = rw h refl
before_other (c ∷ d ∷ cs) last h = ap (option_map (λ rest. c ∷ rest)) (before_other (d ∷ cs) last h)

pub list_before : (bytes inner : List ℕ) (last : ℕ) → bytes ≡ inner ++ last ∷ [] → last ≡ 41 → list_in card_limits bytes ≡ items_in card_limits inner
list_before bytes inner last e h = ap (list_in card_limits) (e ∙ ap (λ b. inner ++ b ∷ []) h) ∙ ap (option_and_then (items_in card_limits)) (before_last inner)

pub list_other : (bytes inner : List ℕ) (last : ℕ) → bytes ≡ inner ++ last ∷ [] → last ≢ 41 → list_in card_limits bytes ≡ None
list_other bytes inner last e h =
    let other : (last == 41) ≡ false = grind (arith, nat_tests) in
    ap (list_in card_limits) e ∙ ap (option_and_then (items_in card_limits)) (before_other inner last other)
