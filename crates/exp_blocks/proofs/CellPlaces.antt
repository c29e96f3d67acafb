-- Which cell an address is that of, by the tests that operations make.
use Rattle.std.proofs.Common.{◌≡◌, ℕ, zero, suc, ◌+◌, ◌-◌, ◌*◌, ◌/◌, ◌%◌, ◌<◌, ◌≤◌, ◌^◌, ◌∙◌, List, [], ◌∷◌, length, Option, Some, None, Bool, true, false, refl, sym, ap, arith}
use Rattle.std.proofs.Math.Nat.{div-add-mod, mod-lt}
use Rattle.std.proofs.lemmas.Bool.Decides.{nat_tests}
use Rattle.std.proofs.lemmas.Int.{ints}
use Rattle.std.proofs.lemmas.Nat.{div-mul-add, mod-mul-add, mul-le}
use Rattle.std.specs.Prelude.{ℤ, pos, negsuc, int_lt, nat_eq, nat_le, nat_lt, slice_get, slice_set, FitsSigned}
use Rattle.std.specs.Int.{w64}
use Rattle.layout_params.specs.declared.cell.Cell.{Cell}
use Rattle.sil_model.specs.Access.{byte_place, cell_at, cell_number, put_cell}
use Rattle.sil_model.specs.CellWords.{kind_at, kind_of}
use Rattle.sil_model.specs.Integers.{◌⊞◌, ◌⊟◌, wrapped_difference, wrapped_sum}
use Rattle.sil_model.specs.Memory.{Memory, IsMemory, AreLimits}
use Rattle.sil_micro.specs.MicroWords.{quotient, remainder, same_integer}
use Rattle.sil_micro.proofs.Making.{by_option, by_test}
use Rattle.tree_clauses.specs.PatternClauses.{whole_cells}
use Rattle.exp_common.proofs.Words.{add_pos, quotient_pos, remainder_pos}

pub difference_pos : (x y : ℕ) → y ≤ x → x < 2 ^ 63 → wrapped_difference (pos x) (pos y) ≡ pos (x - y)
unfolding wrapped_difference
difference_pos x y h k = grind (arith, ints)

none_past : {A : Type 0} (xs : List A) (i : ℕ) → length xs ≤ i → slice_get xs i ≡ None
none_past [] i h = refl
none_past (x ∷ xs) zero h = absurd (omega (arith, h))
none_past (x ∷ xs) (suc i) h = none_past xs i (omega (arith, h))

not_below : (i n : ℕ) → nat_lt i n ≡ false → n ≤ i
not_below i n h = grind (arith, nat_tests, h)

is_below : (i n : ℕ) → nat_lt i n ≡ true → i < n
is_below i n h = grind (arith, nat_tests, h)

pub some_within : {A : Type 0} (xs : List A) (i : ℕ) → i < length xs → (x : A) × (slice_get xs i ≡ Some x)
some_within [] i h = absurd (omega (arith, h))
some_within (x ∷ xs) zero h = (x, refl)
some_within (x ∷ xs) (suc i) h = some_within xs i (omega (arith, h))

-- an address below 2^63
abbrev pub at_fits : ℤ → Type 0
at_fits (pos n) = n < 2 ^ 63
at_fits (negsuc n) = Unit {0}

-- the address of a cell, and what operations make of it
pub record IsCell (m : Memory) (at : ℤ) (i : ℕ) (cell : Cell) : Type 0 where
  pub number : cell_number m at ≡ Some i
  pub there : i < length m.cells
  pub cell_is : slice_get m.cells i ≡ Some cell
  pub address : at ≡ pos (1073741824 + i * m.limits.cell_size)
  pub above : int_lt at (pos 1073741824) ≡ false
  pub whole : remainder (at ⊟ pos 1073741824) (pos m.limits.cell_size) ≡ pos 0
  pub number_is : quotient (at ⊟ pos 1073741824) (pos m.limits.cell_size) ≡ pos i
  pub kind : kind_at m (pos i) ≡ Some (pos (kind_of cell))

below_none : (m : Memory) (at : ℤ) → int_lt at (pos 1073741824) ≡ true → cell_number m at ≡ None
unfolding cell_number byte_place
below_none m (negsuc n) h = refl
below_none m (pos n) h = let t : nat_le 1073741824 n ≡ false = grind (arith, nat_tests) in rw t refl

apart_none : (m : Memory) (n : ℕ) → nat_eq ((n - 1073741824) % m.limits.cell_size) 0 ≡ false → cell_number m (pos n) ≡ None
unfolding cell_number byte_place
apart_none m n h = by_test (nat_le 1073741824 n)
    (λ t. by_test (nat_lt ((n - 1073741824) / m.limits.cell_size) (length m.cells)) (λ s. simp (t, s, h) refl) (λ s. simp (t, s) refl))
    (λ t. simp t refl)

past_none : (m : Memory) (n : ℕ) → nat_lt ((n - 1073741824) / m.limits.cell_size) (length m.cells) ≡ false → cell_number m (pos n) ≡ None
unfolding cell_number byte_place
past_none m n h = by_test (nat_le 1073741824 n) (λ t. simp (t, h) refl) (λ t. simp t refl)

past_kind : (m : Memory) (i : ℕ) → nat_lt i (length m.cells) ≡ false → kind_at m (pos i) ≡ None
unfolding kind_at
past_kind m i h = simp (none_past m.cells i (not_below i (length m.cells) h)) refl

cell_kind : (m : Memory) (i : ℕ) (cell : Cell) → slice_get m.cells i ≡ Some cell → kind_at m (pos i) ≡ Some (pos (kind_of cell))
unfolding kind_at
cell_kind m i cell h = simp h refl

number_found : (m : Memory) (n : ℕ) → nat_le 1073741824 n ≡ true → nat_lt ((n - 1073741824) / m.limits.cell_size) (length m.cells) ≡ true → nat_eq ((n - 1073741824) % m.limits.cell_size) 0 ≡ true →
    cell_number m (pos n) ≡ Some ((n - 1073741824) / m.limits.cell_size)
unfolding cell_number byte_place
number_found m n far there whole = simp (far, there, whole) refl

-- what is at no cell's address
pub no_cell_at : (m : Memory) (at : ℤ) → cell_number m at ≡ None → cell_at m at ≡ None
unfolding cell_at
no_cell_at m at h = simp h refl

pub no_put_cell : (m : Memory) (at : ℤ) (cell : Cell) → cell_number m at ≡ None → put_cell m at cell ≡ None
unfolding put_cell
no_put_cell m at cell h = simp h refl

pub is_cell_at : (m : Memory) (at : ℤ) (i : ℕ) (cell : Cell) → IsCell m at i cell → cell_at m at ≡ Some cell
unfolding cell_at
is_cell_at m at i cell h = simp (h.number, h.cell_is) refl

pub is_put_cell : (m : Memory) (at : ℤ) (i : ℕ) (was cell : Cell) → IsCell m at i was → put_cell m at cell ≡ Some (slice_set m.cells i cell)
unfolding put_cell
is_put_cell m at i was cell h = simp h.number refl

not_more : (x y : ℕ) → y ≤ x → int_lt (pos x) (pos y) ≡ false
not_more x y h = grind (arith, nat_tests, h)

is_more : (x y : ℕ) → nat_le y x ≡ false → int_lt (pos x) (pos y) ≡ true
is_more x y h = grind (arith, nat_tests, h)

-- an address lies below the first cell, or within a cell, or past the last, or it is that of a cell
pub by_cell : {P : Type 0} (m : Memory) (at : ℤ) → IsMemory m → at_fits at →
    (int_lt at (pos 1073741824) ≡ true → cell_number m at ≡ None → P) →
    (int_lt at (pos 1073741824) ≡ false → same_integer (remainder (at ⊟ pos 1073741824) (pos m.limits.cell_size)) (pos 0) ≡ false → cell_number m at ≡ None → P) →
    (int_lt at (pos 1073741824) ≡ false → remainder (at ⊟ pos 1073741824) (pos m.limits.cell_size) ≡ pos 0 → kind_at m (quotient (at ⊟ pos 1073741824) (pos m.limits.cell_size)) ≡ None → cell_number m at ≡ None → P) →
    ((i : ℕ) (cell : Cell) → IsCell m at i cell → P) → P
by_cell {P} m at h fits below apart past found = by_test (int_lt at (pos 1073741824)) (λ t. below t (below_none m at t)) (λ t. go at fits t apart past found) where
  go : (at : ℤ) → at_fits at → int_lt at (pos 1073741824) ≡ false →
      (int_lt at (pos 1073741824) ≡ false → same_integer (remainder (at ⊟ pos 1073741824) (pos m.limits.cell_size)) (pos 0) ≡ false → cell_number m at ≡ None → P) →
      (int_lt at (pos 1073741824) ≡ false → remainder (at ⊟ pos 1073741824) (pos m.limits.cell_size) ≡ pos 0 → kind_at m (quotient (at ⊟ pos 1073741824) (pos m.limits.cell_size)) ≡ None → cell_number m at ≡ None → P) →
      ((i : ℕ) (cell : Cell) → IsCell m at i cell → P) → P
  go (negsuc n) fits t apart past found = absurd cc
  go (pos n) fits t apart past found =
      let far : 1073741824 ≤ n = grind (arith, nat_tests) in
      let far_test : nat_le 1073741824 n ≡ true = grind (arith, nat_tests) in
      let d = m.limits.cell_size in
      let up : 0 < d = omega (arith, h.limits.least) in
      let less = difference_pos n 1073741824 far fits in
      let rest : remainder (pos n ⊟ pos 1073741824) (pos d) ≡ pos ((n - 1073741824) % d) = ap (λ z. remainder z (pos d)) less ∙ remainder_pos (n - 1073741824) d up in
      let count : quotient (pos n ⊟ pos 1073741824) (pos d) ≡ pos ((n - 1073741824) / d) = ap (λ z. quotient z (pos d)) less ∙ quotient_pos (n - 1073741824) d up (omega (arith, fits)) in
      by_test (nat_eq ((n - 1073741824) % d) 0)
      (λ whole.
      let none : (n - 1073741824) % d ≡ 0 = grind (arith, nat_tests) in
      by_test (nat_lt ((n - 1073741824) / d) (length m.cells))
      (λ there.
      let cell = some_within m.cells ((n - 1073741824) / d) (is_below _ _ there) in
      let all : d * ((n - 1073741824) / d) + (n - 1073741824) % d ≡ n - 1073741824 = div-add-mod (n - 1073741824) d in
      found ((n - 1073741824) / d) cell.0 (record {
        number = number_found m n far_test there whole;
        there = is_below _ _ there;
        cell_is = cell.1;
        address = ap pos (address_of n d ((n - 1073741824) / d) ((n - 1073741824) % d) far all none);
        above = t;
        whole = rest ∙ ap pos none;
        number_is = count;
        kind = cell_kind m _ cell.0 cell.1;
      }))
      (λ out. past t (rest ∙ ap pos none) (ap (kind_at m) count ∙ past_kind m _ out) (past_none m n out)))
      (λ some. apart t (ap (λ z. same_integer z (pos 0)) rest ∙ some) (apart_none m n some))
    where
      address_of : (n d q r : ℕ) → 1073741824 ≤ n → d * q + r ≡ n - 1073741824 → r ≡ 0 → n ≡ 1073741824 + q * d
      address_of n d q r far all none = let turned : d * q ≡ q * d = grind arith in omega (arith, far, all, none, turned)

pub fits_at : (x : ℤ) → FitsSigned w64 x → at_fits x
fits_at (pos n) h = omega (arith, h)
fits_at (negsuc n) h = tt

-- ---- so many bytes

whole_some : (m : Memory) (n : ℕ) → nat_eq (n % m.limits.cell_size) 0 ≡ true → nat_le (n / m.limits.cell_size) (length m.cells) ≡ true → whole_cells m (pos n) ≡ Some (n / m.limits.cell_size)
unfolding whole_cells
whole_some m n whole few = simp (whole, few) refl

whole_many : (m : Memory) (n : ℕ) → nat_le (n / m.limits.cell_size) (length m.cells) ≡ false → whole_cells m (pos n) ≡ None
unfolding whole_cells
whole_many m n many = by_test (nat_eq (n % m.limits.cell_size) 0) (λ t. simp (t, many) refl) (λ t. simp t refl)

whole_apart : (m : Memory) (n : ℕ) → nat_eq (n % m.limits.cell_size) 0 ≡ false → whole_cells m (pos n) ≡ None
unfolding whole_cells
whole_apart m n apart = simp apart refl

whole_below : (m : Memory) (x : ℤ) → int_lt x (pos 0) ≡ true → whole_cells m x ≡ None
unfolding whole_cells
whole_below m (negsuc n) h = refl
whole_below m (pos n) h = absurd (grind (arith, nat_tests, h))

-- bytes are fewer than none, or no whole cells, or more than there are, or so many cells
pub by_whole : {P : Type 0} (m : Memory) (x : ℤ) → IsMemory m → at_fits x →
    (int_lt x (pos 0) ≡ true → whole_cells m x ≡ None → P) →
    (int_lt x (pos 0) ≡ false → same_integer (remainder x (pos m.limits.cell_size)) (pos 0) ≡ false → whole_cells m x ≡ None → P) →
    (int_lt x (pos 0) ≡ false → remainder x (pos m.limits.cell_size) ≡ pos 0 → int_lt (pos (length m.cells)) (quotient x (pos m.limits.cell_size)) ≡ true → whole_cells m x ≡ None → P) →
    ((n : ℕ) → int_lt x (pos 0) ≡ false → remainder x (pos m.limits.cell_size) ≡ pos 0 → quotient x (pos m.limits.cell_size) ≡ pos n → int_lt (pos (length m.cells)) (pos n) ≡ false → n ≤ length m.cells → whole_cells m x ≡ Some n → P) → P
by_whole {P} m x h fits below apart many found = by_test (int_lt x (pos 0)) (λ t. below t (whole_below m x t)) (λ t. go x fits t apart many found) where
  go : (x : ℤ) → at_fits x → int_lt x (pos 0) ≡ false →
      (int_lt x (pos 0) ≡ false → same_integer (remainder x (pos m.limits.cell_size)) (pos 0) ≡ false → whole_cells m x ≡ None → P) →
      (int_lt x (pos 0) ≡ false → remainder x (pos m.limits.cell_size) ≡ pos 0 → int_lt (pos (length m.cells)) (quotient x (pos m.limits.cell_size)) ≡ true → whole_cells m x ≡ None → P) →
      ((n : ℕ) → int_lt x (pos 0) ≡ false → remainder x (pos m.limits.cell_size) ≡ pos 0 → quotient x (pos m.limits.cell_size) ≡ pos n → int_lt (pos (length m.cells)) (pos n) ≡ false → n ≤ length m.cells → whole_cells m x ≡ Some n → P) → P
  go (negsuc n) fits t apart many found = absurd cc
  go (pos n) fits t apart many found =
      let d = m.limits.cell_size in
      let up : 0 < d = omega (arith, h.limits.least) in
      let rest = remainder_pos n d up in
      let count = quotient_pos n d up fits in
      by_test (nat_eq (n % d) 0)
      (λ whole.
      let none : n % d ≡ 0 = grind (arith, nat_tests) in
      by_test (nat_le (n / d) (length m.cells))
      (λ few.
      let less : n / d ≤ length m.cells = grind (arith, nat_tests) in
      found (n / d) t (rest ∙ ap pos none) count (not_more (length m.cells) (n / d) less) less (whole_some m n whole few))
      (λ more. many t (rest ∙ ap pos none) (ap (int_lt (pos (length m.cells))) count ∙ is_more (length m.cells) (n / d) more) (whole_many m n more)))
      (λ some. apart t (ap (λ z. same_integer z (pos 0)) rest ∙ some) (whole_apart m n some))

-- ---- characters of a cell

place_of : (m : Memory) (i k : ℕ) → k < m.limits.cell_size → i < length m.cells → byte_place m (pos (1073741824 + i * m.limits.cell_size + k)) ≡ Some (i, k)
unfolding byte_place
place_of m i k low there =
    let d = m.limits.cell_size in
    let far : nat_le 1073741824 (1073741824 + i * d + k) ≡ true = grind (arith, nat_tests) in
    let off : 1073741824 + i * d + k - 1073741824 ≡ i * d + k = omega arith in
    let inside : nat_lt i (length m.cells) ≡ true = grind (arith, nat_tests) in
    simp (far, off, div-mul-add i d k low, mod-mul-add i d k low, inside) refl

-- the place of a character of a cell
pub char_place : (m : Memory) (at : ℤ) (i k : ℕ) → AreLimits m.limits → length m.cells ≤ 2 ^ 20 → at ≡ pos (1073741824 + i * m.limits.cell_size) → i < length m.cells → k < m.limits.cell_size → byte_place m (at ⊞ pos k) ≡ Some (i, k)
char_place m at i k limits few_cells address there low =
    let d = m.limits.cell_size in
    let few : i * d ≤ 2 ^ 20 * 64 = mul-le i d (2 ^ 20) 64 (omega (arith, there, few_cells)) limits.most in
    let sum : wrapped_sum (pos (1073741824 + i * d)) (pos k) ≡ pos (1073741824 + i * d + k) = add_pos (1073741824 + i * d) k (1073741824 + i * d + k) refl (omega (arith, few, low, limits.most)) in
    ap (λ z. byte_place m (z ⊞ pos k)) address ∙ ap (byte_place m) sum ∙ place_of m i k low there
