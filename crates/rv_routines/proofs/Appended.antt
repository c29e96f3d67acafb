-- Code that is appended in parts.
use Rattle.std.proofs.Common.{◌≡◌, ℕ, zero, suc, ◌+◌, ◌*◌, ◌/◌, List, [], ◌∷◌, ◌++◌, refl, sym, ap, ◌∙◌, arith, append_assoc}
use Rattle.std.specs.Prelude.{pos, Result, Ok, Err, OnOk, is_ok, if◌then◌else◌}
use Rattle.rv_isa.specs.declared.instr.SOp.TheVariants.{Sd}
use Rattle.rv_isa.specs.declared.instr.Instr.{Instr}
use Rattle.rv_isa.specs.declared.instr.Instr.TheVariants.{S}
use Rattle.rv_routines.specs.RoutineCodes.{zeros_code}

-- two parts, one behind another, and three
pub in_two : {b c : List Instr} (a x y : List Instr) → b ≡ a ++ x → c ≡ b ++ y → c ≡ a ++ (x ++ y)
in_two {b} {c} a x y p q = q ∙ ap (λ k. k ++ y) p ∙ append_assoc a x y

pub in_three : {b c d : List Instr} (a x y z : List Instr) → b ≡ a ++ x → c ≡ b ++ y → d ≡ c ++ z → d ≡ a ++ ((x ++ y) ++ z)
in_three {b} {c} {d} a x y z p q r = in_two a (x ++ y) z (in_two a x y p q) r

-- a store more
zeros_more : (n j : ℕ) → zeros_code j (suc n) ≡ zeros_code j n ++ S Sd 30 0 (pos (8 * (j + n))) ∷ []
zeros_more zero j = let z : j + 0 ≡ j = omega arith in rw z refl
zeros_more (suc n) j =
    let z : j + suc n ≡ suc j + n = omega arith in
    rw z (ap (λ is. S Sd 30 0 (pos (8 * j)) ∷ is) (zeros_more n (suc j)))

pub one_more : (a : List Instr) (n : ℕ) → (a ++ zeros_code 0 n) ++ S Sd 30 0 (pos (8 * n)) ∷ [] ≡ a ++ zeros_code 0 (n + 1)
one_more a n =
    let z : n + 1 ≡ suc n = omega arith in
    let w : 0 + n ≡ n = omega arith in
    append_assoc a (zeros_code 0 n) (S Sd 30 0 (pos (8 * n)) ∷ []) ∙ ap (λ k. a ++ (zeros_code 0 n ++ S Sd 30 0 (pos (8 * k)) ∷ [])) (sym w) ∙ ap (λ is. a ++ is) (sym (zeros_more n 0)) ∙ ap (λ k. a ++ zeros_code 0 k) (sym z)

-- a front, words of zeros, and an instruction
pub with_zeros : {b c d : List Instr} (a x y : List Instr) (n m : ℕ) (i j : Instr) → x ≡ y → n ≡ m → i ≡ j → b ≡ a ++ x → c ≡ b ++ zeros_code 0 (n / 8) → d ≡ c ++ i ∷ [] → d ≡ a ++ ((y ++ zeros_code 0 (m / 8)) ++ j ∷ [])
with_zeros {b} {c} {d} a x y n m i j e f g p q r =
    in_three a y (zeros_code 0 (m / 8)) (j ∷ []) (p ∙ ap (λ k. a ++ k) e) (q ∙ ap (λ k. b ++ zeros_code 0 (k / 8)) f) (r ∙ ap (λ k. c ++ k ∷ []) g)

-- where the last part is appended, it is behind the others
pub on_ok : {E Q : Type 0} (r : Result (Unit {0}) E) (old part new : List Instr) → new ≡ (if is_ok r then old ++ part else old) → (new ≡ old ++ part → Q) → OnOk r Q
on_ok (Ok x) old part new e f = f e
on_ok (Err x) old part new e f = tt
