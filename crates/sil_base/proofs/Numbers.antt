-- Laws of numbers in bytes, and of pieces of bytes.
use Rattle.std.proofs.Common.{◌≡◌, ℕ, zero, suc, ◌+◌, ◌-◌, ◌*◌, ◌/◌, ◌%◌, ◌^◌, ◌<◌, ◌≤◌, ◌⊎◌, inl, inr, List, [], ◌∷◌, ◌++◌, length, take, drop, refl, ap, ◌∙◌, arith, append_assoc, length-append}
use Rattle.std.proofs.lemmas.Bool.{cases_lt}
use Rattle.std.proofs.lemmas.List.{drop-take, drop-drop, take-take, take_at, drop_at, take-append-le, drop-append-le, length-take, length-drop, get_or-take, get_or-drop, get_or_append_left, get_or-append_right, get_or_past}
use Rattle.std.proofs.lemmas.Slice.{drop-append-drop}
use Rattle.std.proofs.Math.Nat.{pow-suc}
use Rattle.sil_base.specs.Bytes.{number, low_bytes, piece, with_piece, AreBytes}

-- ---- numbers

pub length-low_bytes : (n v : ℕ) → length (low_bytes n v) ≡ n
length-low_bytes zero v = refl
length-low_bytes (suc n) v = ap suc (length-low_bytes n (v / 256))

-- a number that fits its bytes is read back
pub number-low_bytes : (n v : ℕ) → v < 256 ^ n → number (low_bytes n v) ≡ v
number-low_bytes zero v h = omega arith
number-low_bytes (suc n) v h =
    let e : 256 ^ suc n ≡ 256 * 256 ^ n = grind (arith, pow-suc) in
    let rest = number-low_bytes n (v / 256) (omega arith) in
    rw rest (omega arith)

pub low_bytes_below : (n v : ℕ) → AreBytes (low_bytes n v)
low_bytes_below zero v i = omega arith
low_bytes_below (suc n) v zero = omega arith
low_bytes_below (suc n) v (suc i) = low_bytes_below n (v / 256) i

pub number_below : (bytes : List ℕ) → AreBytes bytes → number bytes < 256 ^ length bytes
number_below [] h = omega arith
number_below (b ∷ bytes) h =
    let e : 256 ^ suc (length bytes) ≡ 256 * 256 ^ length bytes = grind (arith, pow-suc) in
    let rest = number_below bytes (λ i. h (suc i)) in
    let low : b < 256 = h 0 in
    rw e (omega arith)

-- bytes are the lowest bytes of their number
pub low_bytes-number : (bytes : List ℕ) → AreBytes bytes → low_bytes (length bytes) (number bytes) ≡ bytes
low_bytes-number [] h = refl
low_bytes-number (b ∷ bytes) h =
    let low : b < 256 = h 0 in
    let rest = low_bytes-number bytes (λ i. h (suc i)) in
    let head : (b + 256 * number bytes) % 256 ≡ b = omega arith in
    let tail : (b + 256 * number bytes) / 256 ≡ number bytes = omega arith in
    rw (head, tail, rest) refl

-- ---- pieces

pub length-piece : (at n : ℕ) (bytes : List ℕ) → at + n ≤ length bytes → length (piece at n bytes) ≡ n
length-piece at n bytes h = omega (arith, length-take n (drop at bytes), length-drop at bytes)

pub length-with_piece : (at : ℕ) (new bytes : List ℕ) → at + length new ≤ length bytes → length (with_piece at new bytes) ≡ length bytes
length-with_piece at new bytes h =
    omega (arith, length-append (take at bytes ++ new) (drop (at + length new) bytes), length-append (take at bytes) new, length-take at bytes, length-drop (at + length new) bytes)

-- what was written is read
pub piece-with_piece : (at : ℕ) (new bytes : List ℕ) → at + length new ≤ length bytes → piece at (length new) (with_piece at new bytes) ≡ new
piece-with_piece at new bytes h =
    let long : length (take at bytes) ≡ at = omega (arith, length-take at bytes) in
    let rest = drop (at + length new) bytes in
    ap (λ xs. take (length new) (drop at xs)) (append_assoc (take at bytes) new rest)
    ∙ ap (λ xs. take (length new) xs) (drop_at (take at bytes) (new ++ rest) at long)
    ∙ take_at new rest (length new) refl

-- a piece before or behind what was written stays
pub piece-with_piece_apart : (j n at : ℕ) (new bytes : List ℕ) → at + length new ≤ length bytes → (j + n ≤ at) ⊎ (at + length new ≤ j) → piece j n (with_piece at new bytes) ≡ piece j n bytes
piece-with_piece_apart j n at new bytes h (inl before) =
    let long : length (take at bytes) ≡ at = omega (arith, length-take at bytes) in
    let rest = drop (at + length new) bytes in
    let e : at ≡ j + (at - j) = omega arith in
    let low : j ≤ length (take at bytes) = omega arith in
    let fit : n ≤ length (drop j (take at bytes)) = omega (arith, length-drop j (take at bytes)) in
    let le : n ≤ at - j = omega arith in
    ap (λ xs. take n (drop j xs)) (append_assoc (take at bytes) new rest)
    ∙ ap (λ xs. take n xs) (drop-append-le j (take at bytes) (new ++ rest) low)
    ∙ take-append-le n (drop j (take at bytes)) (new ++ rest) fit
    ∙ ap (λ k. take n (drop j (take k bytes))) e
    ∙ ap (λ xs. take n xs) (drop-take j (at - j) bytes)
    ∙ take-take n (at - j) (drop j bytes) le
piece-with_piece_apart j n at new bytes h (inr behind) =
    let front : length (take at bytes ++ new) ≡ at + length new = omega (arith, length-append (take at bytes) new, length-take at bytes) in
    ap (λ xs. take n xs) (drop-append-drop (at + length new) bytes (take at bytes ++ new) j behind front)

-- a piece of a piece
pub piece-piece : (from long at n : ℕ) (bytes : List ℕ) → at + n ≤ long → piece at n (piece from long bytes) ≡ piece (from + at) n bytes
piece-piece from long at n bytes h =
    let e : long ≡ at + (long - at) = omega arith in
    let le : n ≤ long - at = omega arith in
    ap (λ k. take n (drop at (take k (drop from bytes)))) e ∙ rw (drop-take at (long - at) (drop from bytes), take-take n (long - at) (drop at (drop from bytes)) le, drop-drop at from bytes) refl

-- a piece of the first of two lists
pub piece-append_left : (at n : ℕ) (xs ys : List ℕ) → at + n ≤ length xs → piece at n (xs ++ ys) ≡ piece at n xs
piece-append_left at n xs ys h =
    let low : at ≤ length xs = omega arith in
    let fit : n ≤ length (drop at xs) = omega (arith, length-drop at xs) in
    ap (λ zs. take n zs) (drop-append-le at xs ys low) ∙ take-append-le n (drop at xs) ys fit

-- a piece of the second of two lists
pub piece-append_right : (at n : ℕ) (xs ys : List ℕ) → piece (length xs + at) n (xs ++ ys) ≡ piece at n ys
piece-append_right at n xs ys = rw (← drop-drop at (length xs) (xs ++ ys), drop_at xs ys (length xs) refl) refl

-- ---- bytes

pub AreBytes-append : (xs ys : List ℕ) → AreBytes xs → AreBytes ys → AreBytes (xs ++ ys)
AreBytes-append xs ys p q i = elim (cases_lt i (length xs)) [ inl lt ↦ rw (get_or_append_left xs ys 0 i lt) (p i) | inr le ↦ rw (get_or-append_right xs ys (length xs) i 0 refl le) (q (i - length xs)) ]

AreBytes-drop : (n : ℕ) (xs : List ℕ) → AreBytes xs → AreBytes (drop n xs)
AreBytes-drop n xs h i = rw get_or-drop (h (n + i))

AreBytes-take : (n : ℕ) (xs : List ℕ) → AreBytes xs → AreBytes (take n xs)
AreBytes-take n xs h i = elim (cases_lt i n) [ inl lt ↦ rw (get_or-take n xs i 0 lt) (h i) | inr le ↦ rw (get_or_past (take n xs) i 0 (omega (arith, length-take n xs))) (omega arith) ]

pub AreBytes-piece : (at n : ℕ) (bytes : List ℕ) → AreBytes bytes → AreBytes (piece at n bytes)
AreBytes-piece at n bytes h = AreBytes-take n (drop at bytes) (AreBytes-drop at bytes h)

pub AreBytes-with_piece : (at : ℕ) (new bytes : List ℕ) → AreBytes new → AreBytes bytes → AreBytes (with_piece at new bytes)
AreBytes-with_piece at new bytes p q =
    AreBytes-append (take at bytes ++ new) (drop (at + length new) bytes) (AreBytes-append (take at bytes) new (AreBytes-take at bytes q) p) (AreBytes-drop (at + length new) bytes q)
