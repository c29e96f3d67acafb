-- Cuts of bytes into parts.
use Rattle.std.proofs.Common.{◌≡◌, ℕ, ◌+◌, ◌-◌, ◌<◌, ◌≤◌, Bool, true, false, cond, List, [], ◌∷◌, ◌++◌, length, take, drop, get_or, Some, None, refl, sym, ap, ◌∙◌, append_assoc, subst, arith}
use Rattle.std.specs.Prelude.{nat_lt, position, ◌==◌}
use Rattle.std.specs.List.{All, onto_first, position_or_len}
use Rattle.std.proofs.lemmas.Bool.Decides.{nat_tests}
use Rattle.std.proofs.lemmas.Option.{cond_some}
use Rattle.std.proofs.lemmas.List.{length-take-le, get_or-take, take_rest, take_more, at_drop_more}
use Rattle.std.proofs.lemmas.List.Elements.{All-from_get_or, All-head, All-tail}
use Rattle.std.proofs.lemmas.List.Splits.{slice_split_none, slice_split_at}
use Rattle.std.proofs.lemmas.List.Sums.{fails_before_first, passes_at_first, split_at_first}
use Rattle.sil_operands.specs.OperandReading.{parts_at, signed_parts, is_sign, operand_parts, separates, place_after}
use Rattle.sil_operands.specs.declared.cutting.Place.{Place}
use Rattle.sil_operands.specs.declared.cutting.Place.TheVariants.{Outside}

-- ---- the first place at which a test passes

-- a list is cut at the first element that passes
pub record IsCut (p : ℕ → Bool) (xs front : List ℕ) (y : ℕ) (back : List ℕ) : Type 0 where
  pub whole : xs ≡ front ++ y ∷ back
  pub fails : All (λ c. p c ≡ false) front
  pub passes : p y ≡ true

fails_before : (p : ℕ → Bool) (xs : List ℕ) (n : ℕ) → n ≤ position_or_len p xs → n ≤ length xs → All (λ c. p c ≡ false) (take n xs)
fails_before p xs n first within =
    All-from_get_or (λ c. p c ≡ false) (take n xs) 0
    (λ i below.
    let less : i < n = omega (arith, length-take-le n xs within) in
    rw (get_or-take n xs i 0 less) (fails_before_first p xs i 0 (omega arith)))

pub cut_at : (p : ℕ → Bool) (xs : List ℕ) (i : ℕ) → position p xs ≡ Some i → IsCut p xs (take i xs) (get_or xs i 0) (drop (i + 1) xs)
cut_at p xs i h =
    let there = cond_some (nat_lt (position_or_len p xs) (length xs)) (position_or_len p xs) i h in
    let within : position_or_len p xs < length xs = grind (arith, nat_tests) in
    let same : position_or_len p xs ≡ i = there.1 in
    record {
      whole = subst (λ (n : ℕ). xs ≡ take n xs ++ get_or xs n 0 ∷ drop (n + 1) xs) same (split_at_first p xs 0 within);
      fails = fails_before p xs i (omega arith) (omega arith);
      passes = subst (λ (n : ℕ). p (get_or xs n 0) ≡ true) same (passes_at_first p xs 0 within);
    }

none_at : (b : Bool) (n : ℕ) → cond b (Some n) None ≡ None → b ≡ false
none_at b n h = grind arith

pub cut_nowhere : (p : ℕ → Bool) (xs : List ℕ) → position p xs ≡ None → All (λ c. p c ≡ false) xs
cut_nowhere p xs h =
    let past = none_at (nat_lt (position_or_len p xs) (length xs)) (position_or_len p xs) h in
    let within : length xs ≤ position_or_len p xs = grind (arith, nat_tests) in
    All-from_get_or (λ c. p c ≡ false) xs 0 (λ i below. fails_before_first p xs i 0 (omega arith))

-- ---- parts between bytes of one value

pub parts_whole : (separator : ℕ) (xs : List ℕ) → position (λ c. c == separator) xs ≡ None → parts_at separator xs ≡ xs ∷ []
parts_whole separator xs h = slice_split_none (λ c. c == separator) xs (cut_nowhere (λ c. c == separator) xs h)

pub parts_cut : (separator : ℕ) (xs : List ℕ) (i : ℕ) → position (λ c. c == separator) xs ≡ Some i → parts_at separator xs ≡ take i xs ∷ parts_at separator (take (length xs - (i + 1)) (drop (i + 1) xs))
parts_cut separator xs i h =
    let cut = cut_at (λ c. c == separator) xs i h in
    rw (take_rest xs (i + 1)) (ap (parts_at separator) cut.whole ∙ slice_split_at (λ c. c == separator) (take i xs) (get_or xs i 0) (drop (i + 1) xs) cut.fails cut.passes)

-- ---- signs

pub signed_whole : (minus : Bool) (xs : List ℕ) → All (λ c. is_sign c ≡ false) xs → signed_parts minus xs ≡ (minus, xs) ∷ []
signed_whole minus [] h = refl
signed_whole minus (c ∷ cs) h = rw (All-head (λ c. is_sign c ≡ false) c cs h, signed_whole minus cs (All-tail (λ c. is_sign c ≡ false) c cs h)) refl

pub signed_at : (minus : Bool) (front : List ℕ) (y : ℕ) (back : List ℕ) → All (λ c. is_sign c ≡ false) front → is_sign y ≡ true → signed_parts minus (front ++ y ∷ back) ≡ (minus, front) ∷ signed_parts (y == 45) back
signed_at minus [] y back h sign = rw sign refl
signed_at minus (c ∷ cs) y back h sign =
    rw (All-head (λ c. is_sign c ≡ false) c cs h, signed_at minus cs y back (All-tail (λ c. is_sign c ≡ false) c cs h) sign) refl

pub signs_whole : (minus : Bool) (xs : List ℕ) → position is_sign xs ≡ None → signed_parts minus xs ≡ (minus, xs) ∷ []
signs_whole minus xs h = signed_whole minus xs (cut_nowhere is_sign xs h)

pub signs_cut : (minus : Bool) (xs : List ℕ) (i : ℕ) → position is_sign xs ≡ Some i → signed_parts minus xs ≡ (minus, take i xs) ∷ signed_parts (get_or xs i 0 == 45) (take (length xs - (i + 1)) (drop (i + 1) xs))
signs_cut minus xs i h =
    let cut = cut_at is_sign xs i h in
    rw (take_rest xs (i + 1)) (ap (signed_parts minus) cut.whole ∙ signed_at minus (take i xs) (get_or xs i 0) (drop (i + 1) xs) cut.fails cut.passes)

-- ---- operands

-- these bytes stand before the first part
abbrev pub before_first_part : List ℕ → List (List ℕ) → List (List ℕ)
before_first_part front [] = front ∷ []
before_first_part front (part ∷ parts) = (front ++ part) ∷ parts

pub before-onto : (front : List ℕ) (c : ℕ) (parts : List (List ℕ)) → before_first_part front (onto_first c parts) ≡ before_first_part (front ++ c ∷ []) parts
before-onto front c [] = refl
before-onto front c (part ∷ parts) = ap (λ x. x ∷ parts) (sym (append_assoc front (c ∷ []) part))

onto-front : (c : ℕ) (parts : List (List ℕ)) → before_first_part [] (onto_first c parts) ≡ onto_first c parts
onto-front c [] = refl
onto-front c (part ∷ parts) = refl

front_or : (b : Bool) (parts rest : List (List ℕ)) (c : ℕ) → before_first_part [] (cond b ([] ∷ parts) (onto_first c rest)) ≡ cond b ([] ∷ parts) (onto_first c rest)
front_or true parts rest c = refl
front_or false parts rest c = onto-front c rest

pub before-nil : (place : Place) (field : List ℕ) → before_first_part [] (operand_parts place field) ≡ operand_parts place field
before-nil place [] = refl
before-nil place (c ∷ cs) = front_or (separates place c) (operand_parts Outside cs) (operand_parts (place_after place c) cs) c

module _ (place : Place) (field : List ℕ) (i : ℕ) (within : i < length field) where
  -- a byte that separates ends the part
  pub operands_cut : separates place (get_or field i 0) ≡ true → operand_parts place (drop i field) ≡ [] ∷ operand_parts Outside (drop (i + 1) field)
  operands_cut h = at_drop_more (operand_parts place) field i 0 within ∙ rw h refl

  pub operands_on : separates place (get_or field i 0) ≡ false → operand_parts place (drop i field) ≡ onto_first (get_or field i 0) (operand_parts (place_after place (get_or field i 0)) (drop (i + 1) field))
  operands_on h = at_drop_more (operand_parts place) field i 0 within ∙ rw h refl

  -- so the part grows by the byte
  pub operands_grow : separates place (get_or field i 0) ≡ false → before_first_part (take i field) (operand_parts place (drop i field)) ≡ before_first_part (take (i + 1) field) (operand_parts (place_after place (get_or field i 0)) (drop (i + 1) field))
  operands_grow h =
      ap (before_first_part (take i field)) (operands_on h)
      ∙ before-onto (take i field) (get_or field i 0) (operand_parts (place_after place (get_or field i 0)) (drop (i + 1) field))
      ∙ ap (λ front. before_first_part front (operand_parts (place_after place (get_or field i 0)) (drop (i + 1) field))) (sym (take_more field i 0 within))
