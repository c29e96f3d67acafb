-- The digits of the numbers on cards.
use Rattle.std.proofs.Common.{◌≡◌, ℕ, ◌+◌, ◌%◌, ◌^◌, ◌<◌, ◌≤◌, Bool, true, false, ◌&&◌, eqb, List, [], ◌∷◌, ◌++◌, length, refl, sym, arith}
use Rattle.std.specs.Prelude.{decimal}
use Rattle.std.specs.Char.{is_ascii_digit}
use Rattle.std.specs.List.{list_all}
use Rattle.std.proofs.lemmas.Bool.{eqb-true}
use Rattle.std.proofs.lemmas.Bool.Decides.{nat_tests}
use Rattle.std.proofs.lemmas.Fmt.{decimal_is_IsNumeral, decimal_by_steps, decimal_nonempty, length-decimal-le}
use Rattle.sil_base.specs.Names.{is_number, value_of}

pub both : (a b : Bool) → (a && b) ≡ true → (a ≡ true) × (b ≡ true)
both a b h = grind arith

differs_either : (b : Bool) (t : ℕ → Bool) (c k : ℕ) → (b ≡ true → c ≡ k) → t c ≡ true → t k ≡ false → b ≡ false
differs_either true t c k same h g = let e = same refl in absurd (let no : ⊥ = cc in no)
differs_either false t c k same h g = refl

-- what passes a test is none that doesn't
pub differs : (t : ℕ → Bool) (c k : ℕ) → t c ≡ true → t k ≡ false → eqb c k ≡ false
differs t c k h g = differs_either (eqb c k) t c k (eqb-true c k) h g

pub record AreDigits (n : ℕ) (ds : List ℕ) : Type 0 where
  pub digits : list_all is_ascii_digit ds ≡ true
  pub number : is_number ds ≡ true
  pub value : n ≡ value_of ds
  pub few : length ds ≤ 3

push : (ds : List ℕ) (d : ℕ) → list_all is_ascii_digit ds ≡ true → is_ascii_digit d ≡ true → list_all is_ascii_digit (ds ++ d ∷ []) ≡ true
push [] d h g = rw g refl
push (c ∷ ds) d h g = let p = both (is_ascii_digit c) (list_all is_ascii_digit ds) h in rw (p.0, push ds d p.1 g) refl

one_digit : (n : ℕ) → n < 10 → is_ascii_digit (48 + n) ≡ true
one_digit n h = grind (arith, nat_tests)

last_digit : (n : ℕ) → is_ascii_digit (48 + n % 10) ≡ true
last_digit n = one_digit (n % 10) (omega arith)

all_digits : (n : ℕ) → n < 2 ^ 64 → list_all is_ascii_digit (decimal n) ≡ true
all_digits n h =
    decimal_by_steps (λ n ds. list_all is_ascii_digit ds ≡ true)
    (λ n h. rw (one_digit n h) refl)
    (λ n ds h g. push ds (48 + n % 10) g (last_digit n))
    n h

number_of : (ds : List ℕ) → 0 < length ds → list_all is_ascii_digit ds ≡ true → is_number ds ≡ true
number_of [] h g = absurd (omega arith)
number_of (d ∷ ds) h g = g

pub are_digits : (n : ℕ) → n < 1000 → AreDigits n (decimal n)
are_digits n h =
    let small : n < 2 ^ 64 = omega arith in
    record {
      digits = all_digits n small;
      number = number_of (decimal n) (decimal_nonempty n small) (all_digits n small);
      value = sym (decimal_is_IsNumeral n small).1;
      few = length-decimal-le 3 n (omega arith) (omega arith) small;
    }
