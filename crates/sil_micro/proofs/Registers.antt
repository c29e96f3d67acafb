-- What registers hold.
use Rattle.std.proofs.Common.{◌≡◌, ℕ, zero, suc, ◌<◌, refl, arith}
use Rattle.std.specs.Prelude.{ℤ, ◌==◌, if◌then◌else◌}
use Rattle.sil_micro.specs.MicroStates.{Registers, held, put}

-- what holds of each number below 16
below_16 : (P : ℕ → Type 0) → P 0 → P 1 → P 2 → P 3 → P 4 → P 5 → P 6 → P 7 → P 8 → P 9 → P 10 → P 11 → P 12 → P 13 → P 14 → P 15 → (n : ℕ) → n < 16 → P n
below_16 P p0 p1 p2 p3 p4 p5 p6 p7 p8 p9 p10 p11 p12 p13 p14 p15 zero lt = p0
below_16 P p0 p1 p2 p3 p4 p5 p6 p7 p8 p9 p10 p11 p12 p13 p14 p15 (suc zero) lt = p1
below_16 P p0 p1 p2 p3 p4 p5 p6 p7 p8 p9 p10 p11 p12 p13 p14 p15 (suc (suc zero)) lt = p2
below_16 P p0 p1 p2 p3 p4 p5 p6 p7 p8 p9 p10 p11 p12 p13 p14 p15 (suc (suc (suc zero))) lt = p3
below_16 P p0 p1 p2 p3 p4 p5 p6 p7 p8 p9 p10 p11 p12 p13 p14 p15 (suc (suc (suc (suc zero)))) lt = p4
below_16 P p0 p1 p2 p3 p4 p5 p6 p7 p8 p9 p10 p11 p12 p13 p14 p15 (suc (suc (suc (suc (suc zero))))) lt = p5
below_16 P p0 p1 p2 p3 p4 p5 p6 p7 p8 p9 p10 p11 p12 p13 p14 p15 (suc (suc (suc (suc (suc (suc zero)))))) lt = p6
below_16 P p0 p1 p2 p3 p4 p5 p6 p7 p8 p9 p10 p11 p12 p13 p14 p15 (suc (suc (suc (suc (suc (suc (suc zero))))))) lt = p7
below_16 P p0 p1 p2 p3 p4 p5 p6 p7 p8 p9 p10 p11 p12 p13 p14 p15 (suc (suc (suc (suc (suc (suc (suc (suc zero)))))))) lt = p8
below_16 P p0 p1 p2 p3 p4 p5 p6 p7 p8 p9 p10 p11 p12 p13 p14 p15 (suc (suc (suc (suc (suc (suc (suc (suc (suc zero))))))))) lt = p9
below_16 P p0 p1 p2 p3 p4 p5 p6 p7 p8 p9 p10 p11 p12 p13 p14 p15 (suc (suc (suc (suc (suc (suc (suc (suc (suc (suc zero)))))))))) lt = p10
below_16 P p0 p1 p2 p3 p4 p5 p6 p7 p8 p9 p10 p11 p12 p13 p14 p15 (suc (suc (suc (suc (suc (suc (suc (suc (suc (suc (suc zero))))))))))) lt = p11
below_16 P p0 p1 p2 p3 p4 p5 p6 p7 p8 p9 p10 p11 p12 p13 p14 p15 (suc (suc (suc (suc (suc (suc (suc (suc (suc (suc (suc (suc zero)))))))))))) lt = p12
below_16 P p0 p1 p2 p3 p4 p5 p6 p7 p8 p9 p10 p11 p12 p13 p14 p15 (suc (suc (suc (suc (suc (suc (suc (suc (suc (suc (suc (suc (suc zero))))))))))))) lt = p13
below_16 P p0 p1 p2 p3 p4 p5 p6 p7 p8 p9 p10 p11 p12 p13 p14 p15 (suc (suc (suc (suc (suc (suc (suc (suc (suc (suc (suc (suc (suc (suc zero)))))))))))))) lt = p14
below_16 P p0 p1 p2 p3 p4 p5 p6 p7 p8 p9 p10 p11 p12 p13 p14 p15 (suc (suc (suc (suc (suc (suc (suc (suc (suc (suc (suc (suc (suc (suc (suc zero))))))))))))))) lt = p15
below_16 P p0 p1 p2 p3 p4 p5 p6 p7 p8 p9 p10 p11 p12 p13 p14 p15 (suc (suc (suc (suc (suc (suc (suc (suc (suc (suc (suc (suc (suc (suc (suc (suc n)))))))))))))))) lt = absurd (omega (arith, lt))

module _ (r : Registers) (value : ℤ) where
  abbrev IsHeld : ℕ → ℕ → Type 0
  IsHeld i j = held (put i value r) j ≡ (if j == i then value else held r j)

  put_0 : (j : ℕ) → j < 16 → IsHeld 0 j
  put_0 = below_16 (λ j. IsHeld 0 j) refl refl refl refl refl refl refl refl refl refl refl refl refl refl refl refl

  put_1 : (j : ℕ) → j < 16 → IsHeld 1 j
  put_1 = below_16 (λ j. IsHeld 1 j) refl refl refl refl refl refl refl refl refl refl refl refl refl refl refl refl

  put_2 : (j : ℕ) → j < 16 → IsHeld 2 j
  put_2 = below_16 (λ j. IsHeld 2 j) refl refl refl refl refl refl refl refl refl refl refl refl refl refl refl refl

  put_3 : (j : ℕ) → j < 16 → IsHeld 3 j
  put_3 = below_16 (λ j. IsHeld 3 j) refl refl refl refl refl refl refl refl refl refl refl refl refl refl refl refl

  put_4 : (j : ℕ) → j < 16 → IsHeld 4 j
  put_4 = below_16 (λ j. IsHeld 4 j) refl refl refl refl refl refl refl refl refl refl refl refl refl refl refl refl

  put_5 : (j : ℕ) → j < 16 → IsHeld 5 j
  put_5 = below_16 (λ j. IsHeld 5 j) refl refl refl refl refl refl refl refl refl refl refl refl refl refl refl refl

  put_6 : (j : ℕ) → j < 16 → IsHeld 6 j
  put_6 = below_16 (λ j. IsHeld 6 j) refl refl refl refl refl refl refl refl refl refl refl refl refl refl refl refl

  put_7 : (j : ℕ) → j < 16 → IsHeld 7 j
  put_7 = below_16 (λ j. IsHeld 7 j) refl refl refl refl refl refl refl refl refl refl refl refl refl refl refl refl

  put_8 : (j : ℕ) → j < 16 → IsHeld 8 j
  put_8 = below_16 (λ j. IsHeld 8 j) refl refl refl refl refl refl refl refl refl refl refl refl refl refl refl refl

  put_9 : (j : ℕ) → j < 16 → IsHeld 9 j
  put_9 = below_16 (λ j. IsHeld 9 j) refl refl refl refl refl refl refl refl refl refl refl refl refl refl refl refl

  put_10 : (j : ℕ) → j < 16 → IsHeld 10 j
  put_10 = below_16 (λ j. IsHeld 10 j) refl refl refl refl refl refl refl refl refl refl refl refl refl refl refl refl

  put_11 : (j : ℕ) → j < 16 → IsHeld 11 j
  put_11 = below_16 (λ j. IsHeld 11 j) refl refl refl refl refl refl refl refl refl refl refl refl refl refl refl refl

  put_12 : (j : ℕ) → j < 16 → IsHeld 12 j
  put_12 = below_16 (λ j. IsHeld 12 j) refl refl refl refl refl refl refl refl refl refl refl refl refl refl refl refl

  put_13 : (j : ℕ) → j < 16 → IsHeld 13 j
  put_13 = below_16 (λ j. IsHeld 13 j) refl refl refl refl refl refl refl refl refl refl refl refl refl refl refl refl

  put_14 : (j : ℕ) → j < 16 → IsHeld 14 j
  put_14 = below_16 (λ j. IsHeld 14 j) refl refl refl refl refl refl refl refl refl refl refl refl refl refl refl refl

  put_15 : (j : ℕ) → j < 16 → IsHeld 15 j
  put_15 = below_16 (λ j. IsHeld 15 j) refl refl refl refl refl refl refl refl refl refl refl refl refl refl refl refl

  pub what_is_held : (i : ℕ) → i < 16 → (j : ℕ) → j < 16 → IsHeld i j
  what_is_held = below_16 (λ i. (j : ℕ) → j < 16 → IsHeld i j) put_0 put_1 put_2 put_3 put_4 put_5 put_6 put_7 put_8 put_9 put_10 put_11 put_12 put_13 put_14 put_15
