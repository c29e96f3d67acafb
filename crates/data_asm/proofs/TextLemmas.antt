-- Characters in cells.
use Rattle.std.proofs.Common.{◌≡◌, ℕ, zero, suc, ◌+◌, ◌-◌, ◌/◌, ◌%◌, ◌<◌, ◌≤◌, Bool, true, false, ◌⊎◌, inl, inr, List, ◌∷◌, ◌++◌, length, take, drop, replicate, refl, sym, ap, ◌∙◌, subst, arith, length-append}
use Rattle.std.specs.Prelude.{All, nat_lt}
use Rattle.std.specs.Int.{div_ceil}
use Rattle.std.proofs.lemmas.Bool.Decides.{nat_tests}
use Rattle.std.proofs.Math.Seq.{drop-append-add}
use Rattle.std.proofs.Math.Nat.{add-div_right, add-mod_right, div-eq_of_lt, mod-eq_of_lt}
use Rattle.std.proofs.lemmas.List.{drop-replicate, length-replicate, length-drop, length-take, take-replicate}
use Rattle.std.proofs.lemmas.List.Elements.{All-nil, All-cons, All-append, All-replicate, All-take, All-drop}
use Rattle.sil_model.specs.declared.limits.Limits.{Limits}
use Rattle.sil_model.specs.Memory.{FitsChars, FitsCell}
use Rattle.data_asm.specs.CharacterCells.{characters, cells_of_text, text_cells, blank_cells}

abbrev zeros : ℕ → List ℕ
zeros n = replicate n 0

pub zeros_after : (n : ℕ) → drop n (zeros 64) ≡ zeros (64 - n)
zeros_after n = drop-replicate n 64 0

abbrev blanks : ℕ → List ℕ
blanks n = replicate n 32

pub blank_line : (n : ℕ) → n ≤ 64 → take n (blanks 64) ≡ blanks n
blank_line n h = take-replicate n 64 32 h

-- ---- as many cells as a text needs

either_by : (b : Bool) (n d : ℕ) → b ≡ nat_lt n d → (n < d) ⊎ (d ≤ n)
either_by true n d h = inl (grind (arith, nat_tests))
either_by false n d h = inr (grind (arith, nat_tests))

either : (n d : ℕ) → (n < d) ⊎ (d ≤ n)
either n d = either_by (nat_lt n d) n d refl

ceil_step : (n d : ℕ) → 1 ≤ d → 1 ≤ n → div_ceil n d ≡ suc (div_ceil (n - d) d)
ceil_step n d some more = elim (either n d) [
  | inl less ↦
      let none : n - d ≡ 0 = omega arith in
      let first : n / d ≡ 0 = div-eq_of_lt less in
      let left : n % d ≡ n = mod-eq_of_lt less in
      let first_none : (n - d) / d ≡ 0 = rw none (div-eq_of_lt some) in
      let left_none : (n - d) % d ≡ 0 = rw none (mod-eq_of_lt some) in
      omega arith
  | inr least ↦
      let is : n ≡ (n - d) + d = omega arith in
      let first : n / d ≡ (n - d) / d + 1 = ap (λ k. k / d) is ∙ add-div_right (n - d) some in
      let left : n % d ≡ (n - d) % d = ap (λ k. k % d) is ∙ add-mod_right (n - d) d in
      omega arith
]

-- the first cell of a text, and the others
pub text_step : (size : ℕ) (text : List ℕ) → 1 ≤ size → 1 ≤ length text → text_cells size text ≡ characters (take size text) ∷ text_cells size (drop size text)
text_step size text some more =
    let count : div_ceil (length text) size ≡ suc (div_ceil (length (drop size text)) size) = ceil_step (length text) size some more ∙ ap (λ n. suc (div_ceil n size)) (sym (length-drop size text)) in
    ap (λ n. cells_of_text size n text) count

pub cells_count : (size n : ℕ) (text : List ℕ) → length (cells_of_text size n text) ≡ n
cells_count size zero text = refl
cells_count size (suc n) text = ap suc (cells_count size n (drop size text))

-- ---- characters fit

-- zeros after fewer characters than a cell has
zeros_past : (size : ℕ) (text : List ℕ) → length text ≤ size → drop size (text ++ zeros (64 - length text)) ≡ zeros (64 - size)
zeros_past size text short =
    let is : length text + (size - length text) ≡ size = omega arith in
    let same : 64 - length text - (size - length text) ≡ 64 - size = omega arith in
    subst (λ (n : ℕ). drop n (text ++ zeros (64 - length text)) ≡ zeros (64 - size)) is
    (drop-append-add text (zeros (64 - length text)) (size - length text) ∙ drop-replicate (size - length text) (64 - length text) 0 ∙ ap zeros same)

byte_zero : 0 < 256
byte_zero = omega arith

byte_blank : 32 < 256
byte_blank = omega arith

chars_fit : (limits : Limits) (text : List ℕ) → All (λ c. c < 256) text → length text ≤ limits.cell_size → limits.cell_size ≤ 64 → FitsChars limits (text ++ zeros (64 - length text))
chars_fit limits text bytes short few =
    let zero_count : length (zeros (64 - length text)) ≡ 64 - length text = length-replicate (64 - length text) 0 in
    record {
      size = omega (arith, length-append text (zeros (64 - length text)), zero_count);
      bytes = All-append (λ c. c < 256) text (zeros (64 - length text)) bytes (All-replicate (λ c. c < 256) (64 - length text) 0 byte_zero);
      rest = zeros_past limits.cell_size text short;
    }

pub texts_fit : (limits : Limits) (n : ℕ) (text : List ℕ) → All (λ c. c < 256) text → limits.cell_size ≤ 64 → All (FitsCell limits) (cells_of_text limits.cell_size n text)
texts_fit limits zero text bytes few = All-nil (FitsCell limits)
texts_fit limits (suc n) text bytes few =
    All-cons (FitsCell limits) (characters (take limits.cell_size text)) (cells_of_text limits.cell_size n (drop limits.cell_size text))
    (chars_fit limits (take limits.cell_size text) (All-take (λ c. c < 256) limits.cell_size text bytes) (omega (arith, length-take limits.cell_size text)) few)
    (texts_fit limits n (drop limits.cell_size text) (All-drop (λ c. c < 256) limits.cell_size text bytes) few)

pub blanks_fit : (limits : Limits) (n : ℕ) → limits.cell_size ≤ 64 → All (FitsCell limits) (blank_cells limits.cell_size n)
blanks_fit limits n few =
    let count : length (blanks limits.cell_size) ≡ limits.cell_size = length-replicate limits.cell_size 32 in
    All-replicate (FitsCell limits) (div_ceil n limits.cell_size) (characters (blanks limits.cell_size))
    (chars_fit limits (blanks limits.cell_size) (All-replicate (λ c. c < 256) limits.cell_size 32 byte_blank) (omega (arith, count)) few)
