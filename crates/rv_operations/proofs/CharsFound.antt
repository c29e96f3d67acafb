-- Characters, words and kinds of the model, by the cell around an address.
use Rattle.std.proofs.Common.{◌≡◌, ℕ, suc, ◌-◌, ◌%◌, ◌^◌, ◌≤◌, List, length, Option, Some, None, Bool, true, false, cond, ◌==◌, refl, sym, ap, subst, ◌∙◌, arith}
use Rattle.std.specs.Prelude.{ℤ, pos, negsuc, slice_get, slice_set, nat_lt, option_and_then, FitsSigned}
use Rattle.std.specs.Int.{w64, cast_unsigned, cast_signed}
use Rattle.std.proofs.lemmas.Int.{to_z-of_z}
use Rattle.std.proofs.lemmas.Option.{slice_get_past}
use Rattle.sil_base.specs.Bytes.{number, low_bytes, piece, with_piece}
use Rattle.layout_params.specs.declared.cell.Cell.{Cell}
use Rattle.layout_params.specs.declared.cell.Cell.TheVariants.{Descr, Chars}
use Rattle.sil_model.specs.Memory.{Memory}
use Rattle.sil_model.specs.Access.{◌>>=◌, byte_place, chars_of, chars_or_zeros, char_at, put_char, set_char_at, with_cell, with_cells}
use Rattle.sil_model.specs.CellWords.{kind_of, kind_at, word_place, word_at, put_word, set_word_at}
use Rattle.rv_routines.specs.Tests.{cell_around, with_chars}

-- ---- where a cell was found

pub record IsAround (m : Memory) (x i r : ℕ) (cell : Cell) : Type 0 where
  pub place : byte_place m (cast_signed w64 x) ≡ Some (i, r)
  pub member : slice_get m.cells i ≡ Some cell

around_by : (m : Memory) (x : ℕ) (o : Option (ℕ × ℕ)) (t : ℕ × ℕ × Cell) → byte_place m (cast_signed w64 x) ≡ o → option_and_then (λ (place : ℕ × ℕ). option_and_then (λ cell. Some (place.0, place.1, cell)) (slice_get m.cells place.0)) o ≡ Some t → IsAround m x t.0 t.1 t.2
around_by m x None t e h = absurd cc
around_by m x (Some p) t e h = by (slice_get m.cells p.0) refl h
  where
    by : (o : Option Cell) → slice_get m.cells p.0 ≡ o → option_and_then (λ cell. Some (p.0, p.1, cell)) o ≡ Some t → IsAround m x t.0 t.1 t.2
    by None is g = absurd cc
    by (Some cell) is g =
        let same : (p.0, p.1, cell) ≡ t = cc in
        subst (λ (q : ℕ × ℕ × Cell). IsAround m x q.0 q.1 q.2) same (record { place = e; member = is })

pub around : (m : Memory) (x : ℕ) (t : ℕ × ℕ × Cell) → cell_around m x ≡ Some t → IsAround m x t.0 t.1 t.2
around m x t h = around_by m x (byte_place m (cast_signed w64 x)) t refl h

chars_by : (m : Memory) (x : ℕ) (o : Option (ℕ × ℕ × Cell)) (t : ℕ × ℕ × List ℕ) → cell_around m x ≡ o → option_and_then with_chars o ≡ Some t → IsAround m x t.0 t.1 (Chars t.2)
chars_by m x None t e h = absurd cc
chars_by m x (Some (i, r, Descr d)) t e h = absurd cc
chars_by m x (Some (i, r, Chars cs)) t e h =
    let same : (i, r, cs) ≡ t = cc in
    subst (λ (q : ℕ × ℕ × List ℕ). IsAround m x q.0 q.1 (Chars q.2)) same (around m x (i, r, Chars cs) e)

pub chars_around : (m : Memory) (x : ℕ) (t : ℕ × ℕ × List ℕ) → option_and_then with_chars (cell_around m x) ≡ Some t → IsAround m x t.0 t.1 (Chars t.2)
chars_around m x t h = chars_by m x (cell_around m x) t refl h

-- ---- characters

pub char_is : (m : Memory) (x : ℕ) → char_at m (cast_signed w64 x) ≡ option_and_then (λ (t : ℕ × ℕ × List ℕ). slice_get t.2 t.1) (option_and_then with_chars (cell_around m x))
unfolding char_at
char_is m x = by (byte_place m (cast_signed w64 x))
  where
    cell_of : (p : ℕ × ℕ) (o : Option Cell) → (o >>= (λ cell. chars_of cell >>= (λ chars. slice_get chars p.1))) ≡ option_and_then (λ (t : ℕ × ℕ × List ℕ). slice_get t.2 t.1) (option_and_then with_chars (option_and_then (λ cell. Some (p.0, p.1, cell)) o))
    cell_of p None = refl
    cell_of p (Some (Descr d)) = refl
    cell_of p (Some (Chars cs)) = refl

    by : (o : Option (ℕ × ℕ)) → (o >>= (λ (place : ℕ × ℕ). slice_get m.cells place.0 >>= (λ cell. chars_of cell >>= (λ chars. slice_get chars place.1)))) ≡ option_and_then (λ (t : ℕ × ℕ × List ℕ). slice_get t.2 t.1) (option_and_then with_chars (option_and_then (λ (place : ℕ × ℕ). option_and_then (λ cell. Some (place.0, place.1, cell)) (slice_get m.cells place.0)) o))
    by None = refl
    by (Some p) = cell_of p (slice_get m.cells p.0)

pub set_char_is : (m : Memory) (x c : ℕ) → set_char_at m (cast_signed w64 x) c ≡ option_and_then (λ (t : ℕ × ℕ × Cell). Some (with_cell m t.0 (Chars (slice_set (chars_or_zeros t.2) t.1 c)))) (cell_around m x)
unfolding put_char
set_char_is m x c = by (byte_place m (cast_signed w64 x))
  where
    cell_of : (p : ℕ × ℕ) (o : Option Cell) → with_cells m (o >>= (λ cell. Some (slice_set m.cells p.0 (Chars (slice_set (chars_or_zeros cell) p.1 c))))) ≡ option_and_then (λ (t : ℕ × ℕ × Cell). Some (with_cell m t.0 (Chars (slice_set (chars_or_zeros t.2) t.1 c)))) (option_and_then (λ cell. Some (p.0, p.1, cell)) o)
    cell_of p None = refl
    cell_of p (Some cell) = refl

    by : (o : Option (ℕ × ℕ)) → with_cells m (o >>= (λ (place : ℕ × ℕ). slice_get m.cells place.0 >>= (λ cell. Some (slice_set m.cells place.0 (Chars (slice_set (chars_or_zeros cell) place.1 c)))))) ≡ option_and_then (λ (t : ℕ × ℕ × Cell). Some (with_cell m t.0 (Chars (slice_set (chars_or_zeros t.2) t.1 c)))) (option_and_then (λ (place : ℕ × ℕ). option_and_then (λ cell. Some (place.0, place.1, cell)) (slice_get m.cells place.0)) o)
    by None = refl
    by (Some p) = cell_of p (slice_get m.cells p.0)

-- ---- words

-- the characters around an address that is a multiple of 8
abbrev pub word_found : Memory → ℕ → Option (ℕ × ℕ × List ℕ)
word_found m x = cond (x % 8 == 0) (option_and_then with_chars (cell_around m x)) None

pub nowhere : (m : Memory) (n : ℕ) → byte_place m (negsuc n) ≡ None
unfolding byte_place
nowhere m n = refl

-- what is done with a word's place, by the two ways of finding it
module _ {B : Type 0} (m : Memory) (f : ℕ × ℕ × List ℕ → Option B) where
  abbrev via : Option (ℕ × ℕ) → Option B
  via o = o >>= (λ (place : ℕ × ℕ). slice_get m.cells place.0 >>= (λ cell. chars_of cell >>= (λ chars. f (place.0, place.1, chars))))

  abbrev around_at : ℤ → Option (ℕ × ℕ × Cell)
  around_at z = option_and_then (λ (place : ℕ × ℕ). option_and_then (λ cell. Some (place.0, place.1, cell)) (slice_get m.cells place.0)) (byte_place m z)

  cell_of : (p : ℕ × ℕ) (o : Option Cell) → (o >>= (λ cell. chars_of cell >>= (λ chars. f (p.0, p.1, chars)))) ≡ option_and_then f (option_and_then with_chars (option_and_then (λ cell. Some (p.0, p.1, cell)) o))
  cell_of p None = refl
  cell_of p (Some (Descr d)) = refl
  cell_of p (Some (Chars cs)) = refl

  by_place : (o : Option (ℕ × ℕ)) → via o ≡ option_and_then f (option_and_then with_chars (option_and_then (λ (place : ℕ × ℕ). option_and_then (λ cell. Some (place.0, place.1, cell)) (slice_get m.cells place.0)) o))
  by_place None = refl
  by_place (Some p) = cell_of p (slice_get m.cells p.0)

  by_even : (z : ℤ) (b : Bool) → via (cond b (byte_place m z) None) ≡ option_and_then f (cond b (option_and_then with_chars (around_at z)) None)
  by_even z true = by_place (byte_place m z)
  by_even z false = refl

  lost : (b : Bool) (z : ℤ) → byte_place m z ≡ None → None ≡ option_and_then f (cond b (option_and_then with_chars (around_at z)) None)
  lost true z e = sym (ap (λ o. option_and_then f (option_and_then with_chars (option_and_then (λ (place : ℕ × ℕ). option_and_then (λ cell. Some (place.0, place.1, cell)) (slice_get m.cells place.0)) o))) e)
  lost false z e = refl

  by_sign : (z : ℤ) → via (word_place m z) ≡ option_and_then f (cond (cast_unsigned w64 z % 8 == 0) (option_and_then with_chars (around_at z)) None)
  by_sign (pos n) = by_even (pos n) (n % 8 == 0)
  by_sign (negsuc n) = lost ((2 ^ 64 - suc n) % 8 == 0) (negsuc n) (nowhere m n)

  pub word_via : (z : ℤ) → FitsSigned w64 z → via (word_place m z) ≡ option_and_then f (word_found m (cast_unsigned w64 z))
  word_via z fits = by_sign z ∙ ap (λ y. option_and_then f (cond (cast_unsigned w64 z % 8 == 0) (option_and_then with_chars (around_at y)) None)) (sym (to_z-of_z w64 z fits))

pub word_is : (m : Memory) (z : ℤ) → FitsSigned w64 z → word_at m z ≡ option_and_then (λ (t : ℕ × ℕ × List ℕ). Some (cast_signed w64 (number (piece t.1 8 t.2)))) (word_found m (cast_unsigned w64 z))
unfolding word_at
word_is m z fits = word_via m (λ t. Some (cast_signed w64 (number (piece t.1 8 t.2)))) z fits

pub set_word_is : (m : Memory) (z w : ℤ) → FitsSigned w64 z → set_word_at m z w ≡ option_and_then (λ (t : ℕ × ℕ × List ℕ). Some (with_cell m t.0 (Chars (with_piece t.1 (low_bytes 8 (cast_unsigned w64 w)) t.2)))) (word_found m (cast_unsigned w64 z))
unfolding put_word
set_word_is m z w fits = outer (word_place m z) ∙ word_via m (λ t. Some (with_cell m t.0 (Chars (with_piece t.1 (low_bytes 8 (cast_unsigned w64 w)) t.2)))) z fits
  where
    inner : (p : ℕ × ℕ) (o : Option Cell) → with_cells m (o >>= (λ cell. chars_of cell >>= (λ chars. Some (slice_set m.cells p.0 (Chars (with_piece p.1 (low_bytes 8 (cast_unsigned w64 w)) chars)))))) ≡ (o >>= (λ cell. chars_of cell >>= (λ chars. Some (with_cell m p.0 (Chars (with_piece p.1 (low_bytes 8 (cast_unsigned w64 w)) chars))))))
    inner p None = refl
    inner p (Some (Descr d)) = refl
    inner p (Some (Chars cs)) = refl

    outer : (o : Option (ℕ × ℕ)) → with_cells m (o >>= (λ (place : ℕ × ℕ). slice_get m.cells place.0 >>= (λ cell. chars_of cell >>= (λ chars. Some (slice_set m.cells place.0 (Chars (with_piece place.1 (low_bytes 8 (cast_unsigned w64 w)) chars))))))) ≡ (o >>= (λ (place : ℕ × ℕ). slice_get m.cells place.0 >>= (λ cell. chars_of cell >>= (λ chars. Some (with_cell m place.0 (Chars (with_piece place.1 (low_bytes 8 (cast_unsigned w64 w)) chars)))))))
    outer None = refl
    outer (Some p) = inner p (slice_get m.cells p.0)

-- ---- kinds

pub none_past : (xs : List Cell) (n : ℕ) → nat_lt n (length xs) ≡ false → slice_get xs n ≡ None
none_past xs n e = let le : length xs ≤ n = grind arith in slice_get_past xs n le

pub far_off : (n count : ℕ) → FitsSigned w64 (negsuc n) → count ≤ 2 ^ 20 → nat_lt (2 ^ 64 - suc n) count ≡ false
far_off n count fits le = let small = fits.sfits in grind arith

-- the number of a cell, where there is one
abbrev pub number_found : Memory → ℕ → Option ℕ
number_found m x = cond (nat_lt x (length m.cells)) (Some x) None

pub kind_is : (m : Memory) (z : ℤ) → FitsSigned w64 z → length m.cells ≤ 2 ^ 20 → kind_at m z ≡ option_and_then (λ i. option_and_then (λ cell. Some (pos (kind_of cell))) (slice_get m.cells i)) (number_found m (cast_unsigned w64 z))
unfolding kind_at
kind_is m (pos n) fits few = by (nat_lt n (length m.cells)) refl
  where
    by : (b : Bool) → nat_lt n (length m.cells) ≡ b → option_and_then (λ cell. Some (pos (kind_of cell))) (slice_get m.cells n) ≡ option_and_then (λ i. option_and_then (λ cell. Some (pos (kind_of cell))) (slice_get m.cells i)) (cond b (Some n) None)
    by true e = refl
    by false e = ap (λ o. option_and_then (λ cell. Some (pos (kind_of cell))) o) (none_past m.cells n e)
kind_is m (negsuc n) fits few = sym (ap (λ b. option_and_then (λ i. option_and_then (λ cell. Some (pos (kind_of cell))) (slice_get m.cells i)) (cond b (Some (2 ^ 64 - suc n)) None)) (far_off n (length m.cells) fits few))
