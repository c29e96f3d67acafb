-- Parts of equal lengths, one after another: their pieces are read, and written.
use Rattle.std.proofs.Common.{◌≡◌, ℕ, zero, suc, ◌+◌, ◌*◌, ◌≤◌, List, [], ◌∷◌, ◌++◌, length, take, drop, Some, sym, ap, ◌∙◌, arith, append_assoc, length-append}
use Rattle.std.specs.Prelude.{All, slice_get, slice_set}
use Rattle.std.specs.List.{flat_map}
use Rattle.std.proofs.lemmas.List.{take-append-le, drop-append-le}
use Rattle.std.proofs.lemmas.List.Elements.{All-head, All-tail}
use Rattle.sil_base.specs.Bytes.{piece, with_piece}
use Rattle.sil_base.proofs.Numbers.{piece-append_left, piece-append_right}

-- ---- a piece is written in the first or the second of two lists

with_piece-append_left : (at : ℕ) (new xs ys : List ℕ) → at + length new ≤ length xs → with_piece at new (xs ++ ys) ≡ with_piece at new xs ++ ys
with_piece-append_left at new xs ys h =
    let low : at ≤ length xs = omega arith in
    ap (λ front. (front ++ new) ++ drop (at + length new) (xs ++ ys)) (take-append-le at xs ys low)
    ∙ ap (λ rest. (take at xs ++ new) ++ rest) (drop-append-le (at + length new) xs ys h)
    ∙ sym (append_assoc (take at xs ++ new) (drop (at + length new) xs) ys)

behind_one : (x m : ℕ) (new xs : List ℕ) → with_piece (suc m) new (x ∷ xs) ≡ x ∷ with_piece m new xs
behind_one x m new xs =
    let e : suc m + length new ≡ suc (m + length new) = omega arith in
    ap (λ k. (take (suc m) (x ∷ xs) ++ new) ++ drop k (x ∷ xs)) e

with_piece-append_right : (at : ℕ) (new xs ys : List ℕ) → with_piece (length xs + at) new (xs ++ ys) ≡ xs ++ with_piece at new ys
with_piece-append_right at new [] ys = let e : 0 + at ≡ at = omega arith in ap (λ k. with_piece k new ys) e
with_piece-append_right at new (x ∷ xs) ys =
    let e : suc (length xs) + at ≡ suc (length xs + at) = omega arith in
    ap (λ k. with_piece k new (x ∷ (xs ++ ys))) e ∙ behind_one x (length xs + at) new (xs ++ ys) ∙ ap (λ rest. x ∷ rest) (with_piece-append_right at new xs ys)

-- ---- the parts

module _ {A : Type 0} (f : A → List ℕ) (n : ℕ) where
  abbrev pub AreLong : List A → Type 0
  AreLong xs = All (λ x. length (f x) ≡ n) xs

  abbrev Has : A → Type 0
  Has x = length (f x) ≡ n

  pub parts_length : (xs : List A) → AreLong xs → length (flat_map f xs) ≡ length xs * n
  parts_length [] h = omega arith
  parts_length (x ∷ xs) h = omega (arith, length-append (f x) (flat_map f xs), All-head Has x xs h, parts_length xs (All-tail Has x xs h))

  -- behind the first part
  further : (i j : ℕ) (x : A) → length (f x) ≡ n → suc i * n + j ≡ length (f x) + (i * n + j)
  further i j x h = omega (arith, h)

  pub part_read : (xs : List A) (i j k : ℕ) (x : A) → AreLong xs → slice_get xs i ≡ Some x → j + k ≤ n → piece (i * n + j) k (flat_map f xs) ≡ piece j k (f x)
  part_read [] i j k x h e le = absurd cc
  part_read (y ∷ xs) zero j k x h e le =
      let same : y ≡ x = cc in
      let front : 0 * n + j ≡ j = omega arith in
      ap (λ q. piece q k (f y ++ flat_map f xs)) front ∙ piece-append_left j k (f y) (flat_map f xs) (omega (arith, le, All-head Has y xs h)) ∙ ap (λ z. piece j k (f z)) same
  part_read (y ∷ xs) (suc i) j k x h e le =
      ap (λ q. piece q k (f y ++ flat_map f xs)) (further i j y (All-head Has y xs h))
      ∙ piece-append_right (i * n + j) k (f y) (flat_map f xs)
      ∙ part_read xs i j k x (All-tail Has y xs h) e le

  pub part_set : (xs : List A) (i j : ℕ) (new : List ℕ) (x y : A) → AreLong xs → slice_get xs i ≡ Some x → j + length new ≤ n → f y ≡ with_piece j new (f x) → with_piece (i * n + j) new (flat_map f xs) ≡ flat_map f (slice_set xs i y)
  part_set [] i j new x y h e le is = absurd cc
  part_set (z ∷ xs) zero j new x y h e le is =
      let same : z ≡ x = cc in
      let front : 0 * n + j ≡ j = omega arith in
      ap (λ q. with_piece q new (f z ++ flat_map f xs)) front
      ∙ with_piece-append_left j new (f z) (flat_map f xs) (omega (arith, le, All-head Has z xs h))
      ∙ ap (λ w. with_piece j new (f w) ++ flat_map f xs) same
      ∙ ap (λ bytes. bytes ++ flat_map f xs) (sym is)
  part_set (z ∷ xs) (suc i) j new x y h e le is =
      ap (λ q. with_piece q new (f z ++ flat_map f xs)) (further i j z (All-head Has z xs h))
      ∙ with_piece-append_right (i * n + j) new (f z) (flat_map f xs)
      ∙ ap (λ rest. f z ++ rest) (part_set xs i j new x y (All-tail Has z xs h) e le is)
