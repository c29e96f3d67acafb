-- Parts of bytes, and the numbers in them.
use Rattle.std.proofs.Common.{◌≡◌, ◌∙◌, ℕ, zero, suc, ◌+◌, ◌*◌, ◌^◌, ◌<◌, List, [], ◌∷◌, ◌++◌, length, take, drop, get_or, refl, ap, sym, arith, length-append, inl, inr}
use Rattle.std.proofs.Math.Nat.{mul-zero}
use Rattle.std.proofs.lemmas.List.{take-append-drop, take_at, drop_at, drop-drop, get_or-drop, get_or_append_left, get_or_past, length-take, length-drop}
use Rattle.std.proofs.lemmas.Bool.{cases_lt}
use Rattle.std.proofs.Math.Seq.{drop-cons}
use Rattle.sil_base.specs.Bytes.{number, low_bytes, AreBytes}
use Rattle.sil_base.proofs.Numbers.{length-low_bytes, number-low_bytes, low_bytes-number, number_below, AreBytes-piece}
use Rattle.byteorder.specs.Endian.{little_number, IsRead}
use Rattle.image_file.specs.Spelling.{numbers_in, FitAll}
use Rattle.image_file.proofs.ByteNumbers.{little_from-number}

-- two ways to cut the same bytes at one place
pub same_front : (p q more rest : List ℕ) → p ++ more ≡ q ++ rest → length p ≡ length q → p ≡ q
same_front p q more rest e h = sym (take_at p more (length q) h) ∙ ap (λ xs. take (length q) xs) e ∙ take_at q rest (length q) refl

pub same_rest : (p q more rest : List ℕ) → p ++ more ≡ q ++ rest → length p ≡ length q → more ≡ rest
same_rest p q more rest e h = sym (drop_at p more (length q) h) ∙ ap (λ xs. drop (length q) xs) e ∙ drop_at q rest (length q) refl

-- the same parts, and the same rests
pub record IsSame (p q more rest : List ℕ) : Type 0 where
  pub fronts : p ≡ q
  pub rests : more ≡ rest

pub same_parts : (p q more rest a b : List ℕ) → a ≡ b → a ≡ p ++ more → b ≡ q ++ rest → length p ≡ length q → IsSame p q more rest
same_parts p q more rest a b same e f h =
    let two : p ++ more ≡ q ++ rest = sym e ∙ same ∙ f in
    record { fronts = same_front p q more rest two h; rests = same_rest p q more rest two h }

pub more_than : (n k : ℕ) → n * suc k ≡ n + n * k
more_than n k = grind arith

pub length-numbers_in : (n : ℕ) (xs : List ℕ) → length (numbers_in n xs) ≡ n * length xs
unfolding numbers_in
length-numbers_in n [] = sym (mul-zero n)
length-numbers_in n (x ∷ xs) =
    length-append (low_bytes n x) (numbers_in n xs)
    ∙ ap (λ m. m + length (numbers_in n xs)) (length-low_bytes n x)
    ∙ ap (λ m. n + m) (length-numbers_in n xs)
    ∙ sym (more_than n (length xs))

-- one number, and its bytes
pub one_number : (n x y : ℕ) → x < 256 ^ n → y < 256 ^ n → low_bytes n x ≡ low_bytes n y → x ≡ y
one_number n x y p q e = sym (number-low_bytes n x p) ∙ ap number e ∙ number-low_bytes n y q

pub low_again : (n : ℕ) (bytes : List ℕ) → length bytes ≡ n → AreBytes bytes → low_bytes n (number bytes) ≡ bytes
low_again n bytes e h = ap (λ m. low_bytes m (number bytes)) (sym e) ∙ low_bytes-number bytes h

-- numbers that fit are those of their bytes alone
pub same_numbers : (n : ℕ) (xs ys : List ℕ) → FitAll n xs → FitAll n ys → length xs ≡ length ys → numbers_in n xs ≡ numbers_in n ys → xs ≡ ys
unfolding numbers_in
same_numbers n [] [] p q h e = refl
same_numbers n [] (y ∷ ys) p q h e = cc
same_numbers n (x ∷ xs) [] p q h e = cc
same_numbers n (x ∷ xs) (y ∷ ys) p q h e =
    let size : length (low_bytes n x) ≡ length (low_bytes n y) = length-low_bytes n x ∙ sym (length-low_bytes n y) in
    let first : x ≡ y = one_number n x y p.0 q.0 (same_front (low_bytes n x) (low_bytes n y) (numbers_in n xs) (numbers_in n ys) e size) in
    let others : xs ≡ ys = same_numbers n xs ys p.1 q.1 (omega arith) (same_rest (low_bytes n x) (low_bytes n y) (numbers_in n xs) (numbers_in n ys) e size) in
    cc

AreBytes-drop : (n : ℕ) (xs : List ℕ) → AreBytes xs → AreBytes (drop n xs)
AreBytes-drop n xs h i = rw get_or-drop (h (n + i))

no_bytes : (bytes : List ℕ) → length bytes ≡ 0 → bytes ≡ []
no_bytes [] h = refl
no_bytes (b ∷ bytes) h = cc

-- bytes are those of the numbers that were read from them
pub bytes_of_numbers : (n : ℕ) (dst bytes : List ℕ) → length bytes ≡ n * length dst → AreBytes bytes → IsRead (λ k part. little_number k part) n bytes dst → bytes ≡ numbers_in n dst
unfolding numbers_in
bytes_of_numbers n [] bytes h fit read = no_bytes bytes (h ∙ mul-zero n)
bytes_of_numbers n (d ∷ dst) bytes h fit read =
    let long : length bytes ≡ n + n * length dst = h ∙ more_than n (length dst) in
    let none : n * 0 ≡ 0 = mul-zero n in
    let first : d ≡ number (take n bytes) = read 0 (omega arith) ∙ ap (λ m. little_number n (drop m bytes)) none ∙ little_from-number 0 n bytes (omega arith) in
    let size : length (take n bytes) ≡ n = omega (arith, length-take n bytes) in
    let front : low_bytes n d ≡ take n bytes = ap (λ x. low_bytes n x) first ∙ low_again n (take n bytes) size (AreBytes-piece 0 n bytes fit) in
    let rest_long : length (drop n bytes) ≡ n * length dst = omega (arith, length-drop n bytes) in
    let others : drop n bytes ≡ numbers_in n dst = bytes_of_numbers n dst (drop n bytes) rest_long (AreBytes-drop n bytes fit) (λ k lt. read (suc k) (omega arith) ∙ ap (λ m. little_number n (drop m bytes)) (more_than n k) ∙ ap (λ part. little_number n part) (sym (drop-drop (n * k) n bytes))) in
    sym (take-append-drop n bytes) ∙ ap (λ xs. take n bytes ++ xs) others ∙ ap (λ xs. xs ++ numbers_in n dst) (sym front)

pub number_fits : (bytes : List ℕ) (n : ℕ) → length bytes ≡ n → AreBytes bytes → number bytes < 256 ^ n
number_fits bytes n e h = rw (← e) (number_below bytes h)

-- the numbers that were read fit
pub fit_of_numbers : (n : ℕ) (dst bytes : List ℕ) → length bytes ≡ n * length dst → AreBytes bytes → IsRead (λ k part. little_number k part) n bytes dst → FitAll n dst
fit_of_numbers n [] bytes h fit read = tt
fit_of_numbers n (d ∷ dst) bytes h fit read =
    let long : length bytes ≡ n + n * length dst = h ∙ more_than n (length dst) in
    let none : n * 0 ≡ 0 = mul-zero n in
    let first : d ≡ number (take n bytes) = read 0 (omega arith) ∙ ap (λ m. little_number n (drop m bytes)) none ∙ little_from-number 0 n bytes (omega arith) in
    let size : length (take n bytes) ≡ n = omega (arith, length-take n bytes) in
    let below : number (take n bytes) < 256 ^ n = number_fits (take n bytes) n size (AreBytes-piece 0 n bytes fit) in
    let rest_long : length (drop n bytes) ≡ n * length dst = omega (arith, length-drop n bytes) in
    (rw first below, fit_of_numbers n dst (drop n bytes) rest_long (AreBytes-drop n bytes fit) (λ k lt. read (suc k) (omega arith) ∙ ap (λ m. little_number n (drop m bytes)) (more_than n k) ∙ ap (λ part. little_number n part) (sym (drop-drop (n * k) n bytes))))

-- the first of bytes are bytes
pub AreBytes-front : (bytes front rest : List ℕ) → bytes ≡ front ++ rest → AreBytes bytes → AreBytes front
AreBytes-front bytes front rest e h i =
    elim (cases_lt i (length front)) [ inl lt ↦ rw (← get_or_append_left front rest 0 i lt, ← e) (h i) | inr le ↦ rw (get_or_past front i 0 le) (omega arith) ]

-- n numbers of a list, from the k-th on
abbrev pub from_place : ℕ → ℕ → List ℕ → List ℕ
from_place k zero xs = []
from_place k (suc n) xs = get_or xs k 0 ∷ from_place (suc k) n xs

pub each_place : (n k : ℕ) (xs : List ℕ) → length xs ≡ k + n → drop k xs ≡ from_place k n xs
each_place zero k xs h = no_bytes (drop k xs) (omega (arith, length-drop k xs))
each_place (suc n) k xs h = drop-cons xs k 0 (omega arith) ∙ ap (λ ys. get_or xs k 0 ∷ ys) (each_place n (suc k) xs (omega arith))
