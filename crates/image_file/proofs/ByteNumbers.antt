-- Numbers in bytes, as byteorder and as the definitions have them.
use Rattle.std.proofs.Common.{◌≡◌, ◌∙◌, ℕ, zero, suc, ◌+◌, ◌≤◌, List, ◌∷◌, length, take, drop, get_or, refl, ap, arith}
use Rattle.std.proofs.Math.Seq.{drop-cons}
use Rattle.std.proofs.lemmas.List.{take_all}
use Rattle.sil_base.specs.Bytes.{number}
use Rattle.byteorder.specs.Endian.{little_from, little_number}

-- the number in n bytes from a place on
pub little_from-number : (i n : ℕ) (xs : List ℕ) → i + n ≤ length xs → little_from i n xs ≡ number (take n (drop i xs))
little_from-number i zero xs h = refl
little_from-number i (suc n) xs h =
    let rest = little_from-number (suc i) n xs (omega arith) in
    let e : drop i xs ≡ get_or xs i 0 ∷ drop (suc i) xs = drop-cons xs i 0 (omega arith) in
    rw (e, rest) refl

pub little_number-number : (n : ℕ) (xs : List ℕ) → length xs ≡ n → little_number n xs ≡ number xs
little_number-number n xs h = little_from-number 0 n xs (omega arith) ∙ ap number (take_all n xs (omega arith))
