-- The sizes of blocks, as registers compute them.
use Rattle.std.proofs.Common.{◌≡◌, ℕ, zero, suc, ◌+◌, ◌-◌, ◌*◌, ◌<◌, ◌≤◌, ◌^◌, true, false, refl, sym, ap, ◌∙◌, arith}
use Rattle.std.proofs.lemmas.Bool.Decides.{nat_tests}
use Rattle.std.proofs.lemmas.Int.{ints, wrapping_add_is, wrapping_mul_is}
use Rattle.std.proofs.lemmas.Nat.{div-mul-add, mod-mul-add, div-add-mod', div_below}
use Rattle.std.specs.Prelude.{ℤ, pos, negsuc, int_lt, min, ◌/◌, ◌%◌, FitsSigned}
use Rattle.std.specs.Int.{w64, div_ceil, int_wrap}
use Rattle.sil_model.specs.Integers.{◌⊞◌, ◌⊟◌, wrapped_sum, wrapped_difference, wrapped_product}
use Rattle.sil_micro.specs.MicroWords.{quotient}
use Rattle.spec_clauses.specs.SpecifierClauses.{string_size}

-- ---- quotients that are rounded up

ceil_of : (n q s d : ℕ) → s < d → n ≡ q * d + s → div_ceil n d ≡ q + min 1 s
ceil_of n q s d lt e = simp (e, div-mul-add q d s lt, mod-mul-add q d s lt)

ceil_after : (n q s d : ℕ) → s < d → n ≡ q * d + s → div_ceil (n + 1) d ≡ q + 1
ceil_after n q s d lt e = go (d - (s + 1)) refl where
  go : (k : ℕ) → d - (s + 1) ≡ k → div_ceil (n + 1) d ≡ q + 1
  go zero h = ceil_of (n + 1) (q + 1) 0 d (omega arith) (omega (arith, e)) ∙ omega arith
  go (suc k) h = ceil_of (n + 1) q (s + 1) d (omega arith) (omega (arith, e)) ∙ omega arith

rounded : (x d : ℕ) → 0 < d → 1 ≤ x → div_ceil x d ≡ (x - 1) / d + 1
rounded x d some least =
    let e : x ≡ x - 1 + 1 = omega arith in
    ap (λ n. div_ceil n d) e ∙ ceil_after (x - 1) ((x - 1) / d) ((x - 1) % d) d (omega arith) (sym (div-add-mod' (x - 1) d))

-- ---- the same by operations

small_sum : (x y : ℕ) → x + y < 2 ^ 63 → pos x ⊞ pos y ≡ pos (x + y)
unfolding wrapped_sum
small_sum x y h = grind (arith, ints)

one_less : (x : ℕ) → 1 ≤ x → x < 2 ^ 63 → pos x ⊟ pos 1 ≡ pos (x - 1)
unfolding wrapped_difference
one_less x some small = grind (arith, ints)

small_quotient : (x d : ℕ) → 0 < d → x < 2 ^ 63 → d < 2 ^ 63 → quotient (pos x) (pos d) ≡ pos (x / d)
unfolding quotient
small_quotient x d some h k = grind (arith, ints, nat_tests)

times : (size y : ℕ) → size ≤ 64 → y < 2 ^ 63 → wrapped_product (pos size) (pos y) ≡ int_wrap w64 (pos (size * y))
unfolding wrapped_product
times size y h k = wrapping_mul_is w64 (pos size) (pos y) (omega arith) (omega arith)

-- so many characters, one at least, and so many cells before them
sized : (size cells x : ℕ) → 16 ≤ size → size ≤ 64 → cells ≤ 4 → 1 ≤ x → x < 2 ^ 63 →
    wrapped_product (pos size) (quotient (pos x ⊟ pos 1) (pos size) ⊞ pos (cells + 1)) ≡ int_wrap w64 (pos (size * (cells + div_ceil x size)))
sized size cells x least most few some small =
    let q = (x - 1) / size in
    let low : q < 2 ^ 59 = div_below (x - 1) size (2 ^ 59) (omega arith) (omega arith) in
    let up : q + (cells + 1) ≡ cells + div_ceil x size = omega (arith, rounded x size (omega arith) some) in
    ap (λ z. wrapped_product (pos size) (quotient z (pos size) ⊞ pos (cells + 1))) (one_less x some small)
    ∙ ap (λ z. wrapped_product (pos size) (z ⊞ pos (cells + 1))) (small_quotient (x - 1) size (omega arith) (omega arith) (omega arith))
    ∙ ap (λ z. wrapped_product (pos size) z) (small_sum q (cells + 1) (omega arith))
    ∙ times size (q + (cells + 1)) most (omega arith) ∙ ap (λ n. int_wrap w64 (pos (size * n))) up

-- whether an integer is below 1, and the size for its characters
pub by_size : {P : Type 0} (size cells : ℕ) (n : ℤ) → 16 ≤ size → size ≤ 64 → cells ≤ 4 → FitsSigned w64 n →
    (int_lt n (pos 1) ≡ true → wrapped_product (pos size) (quotient (pos 1 ⊟ pos 1) (pos size) ⊞ pos (cells + 1)) ≡ int_wrap w64 (pos (string_size size cells n)) → P) →
    (int_lt n (pos 1) ≡ false → wrapped_product (pos size) (quotient (n ⊟ pos 1) (pos size) ⊞ pos (cells + 1)) ≡ int_wrap w64 (pos (string_size size cells n)) → P) → P
unfolding string_size
by_size size cells (pos zero) least most few fits below other = below refl (sized size cells 1 least most few (omega arith) (omega arith))
by_size size cells (pos (suc x)) least most few fits below other = let small : suc x < 2 ^ 63 = grind (arith, ints, fits) in other (grind (arith, ints, nat_tests)) (sized size cells (suc x) least most few (omega arith) small)
by_size size cells (negsuc x) least most few fits below other = below refl (sized size cells 1 least most few (omega arith) (omega arith))

-- a number of bytes and one cell
pub with_cell : (v size : ℕ) → v < 2 ^ 48 → size ≤ 64 → pos v ⊞ pos size ≡ int_wrap w64 (pos (v + size))
unfolding wrapped_sum
with_cell v size h k = wrapping_add_is w64 (pos v) (pos size) (omega arith) (omega arith)

-- four cells
pub four_times : (size : ℕ) → size ≤ 64 → (pos size ⊞ pos size) ⊞ (pos size ⊞ pos size) ≡ pos (4 * size)
four_times size h = let two = small_sum size size (omega arith) in ap (λ z. z ⊞ z) two ∙ small_sum (size + size) (size + size) (omega arith) ∙ ap pos (omega arith)
