-- Numbers in decimal digits.
use Rattle.std.proofs.Common.{◌≡◌, ℕ, ◌+◌, ◌-◌, ◌*◌, ◌<◌, ◌≤◌, Bool, true, ◌&&◌, zero, suc, List, [], ◌∷◌, length, take, get_or, refl, arith}
use Rattle.std.specs.Char.{is_ascii_digit, digit_value}
use Rattle.std.specs.List.{list_all}
use Rattle.std.proofs.lemmas.Bool.Decides.{nat_tests}
use Rattle.std.proofs.lemmas.Int.Digits.{digits_value_more}
use Rattle.std.proofs.lemmas.Str.Parse.{digits_value-take-le}
use Rattle.sil_base.specs.Names.{is_number, value_of}

both : (a b : Bool) → (a && b) ≡ true → (a ≡ true) × (b ≡ true)
both a b h = grind arith

digit_is : (c : ℕ) → is_ascii_digit c ≡ true → (48 ≤ c) × (c ≤ 57) × (digit_value c ≡ c - 48)
digit_is c h = grind (arith, nat_tests)

list_all_at : (p : ℕ → Bool) (xs : List ℕ) (i : ℕ) → i < length xs → list_all p xs ≡ true → p (get_or xs i 0) ≡ true
list_all_at p [] i below h = absurd (omega arith)
list_all_at p (x ∷ xs) zero below h = (both (p x) (list_all p xs) h).0
list_all_at p (x ∷ xs) (suc i) below h = list_all_at p xs i (omega arith) (both (p x) (list_all p xs) h).1

pub number_digits : (bytes : List ℕ) → is_number bytes ≡ true → list_all is_ascii_digit bytes ≡ true
number_digits [] h = refl
number_digits (c ∷ cs) h = h

-- one more digit, and what it leaves of the whole
pub record IsNext (digits : List ℕ) (i : ℕ) : Type 0 where
  pub low : 48 ≤ get_or digits i 0
  pub high : get_or digits i 0 ≤ 57
  pub next : value_of (take (i + 1) digits) ≡ value_of (take i digits) * 10 + (get_or digits i 0 - 48)
  pub whole : value_of (take (i + 1) digits) ≤ value_of digits

pub next_digit : (digits : List ℕ) (i : ℕ) → is_number digits ≡ true → i < length digits → IsNext digits i
next_digit digits i h below =
    let digit = digit_is (get_or digits i 0) (list_all_at is_ascii_digit digits i below (number_digits digits h)) in
    record {
      low = digit.0;
      high = digit.1;
      next = rw (← digit.2) (digits_value_more 10 digits i below);
      whole = digits_value-take-le 10 digits (i + 1) (omega arith);
    }
