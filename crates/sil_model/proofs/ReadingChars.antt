-- Characters, words and kinds that were written are read, and what is apart stays.
use Rattle.std.proofs.Common.{◌≡◌, ◌≢◌, ℕ, zero, suc, ◌%◌, ◌<◌, ◌∙◌, List, length, Option, Some, None, ℤ, pos, negsuc, refl, sym, ap, subst, arith}
use Rattle.std.specs.Prelude.{slice_get, slice_set, FitsSigned, ◌==◌, if◌then◌else◌}
use Rattle.std.specs.Int.{w64, cast_unsigned, cast_signed}
use Rattle.std.proofs.lemmas.Option.{same_Some, slice_get_within}
use Rattle.std.proofs.lemmas.Int.{to_z-of_z}
use Rattle.std.proofs.Math.Facts.{Fits-of_z, Fits-lt-pow}
use Rattle.sil_base.specs.Bytes.{number, low_bytes, piece, with_piece}
use Rattle.layout_params.specs.declared.cell.Cell.{Cell}
use Rattle.layout_params.specs.declared.cell.Cell.TheVariants.{Descr, Chars}
use Rattle.layout_params.proofs.PackingLemmas.{number_here}
use Rattle.sil_model.specs.Memory.{Memory, IsMemory, FitsCell}
use Rattle.sil_model.specs.Access.{◌>>=◌, byte_place, cell_number, cell_at, with_cell, set_cell_at, descr_of, descr_at, chars_of, chars_or_zeros, char_at, put_char, set_char_at}
use Rattle.sil_model.specs.CellWords.{kind_of, kind_at, put_kind, set_kind_at, cell_of_kind, word_place, word_at, put_word, set_word_at}
use Rattle.sil_model.proofs.Keeps.{all_at}
use Rattle.sil_model.proofs.Characters.{cell_chars_fit, word_room}
use Rattle.sil_model.proofs.Places.{set_here, set_there, place_within, place_there, number_there, same_place, same_number}
use Rattle.sil_model.proofs.Reading.{from_read, from_set_cell}

-- ---- what stays beside a cell that was written

beside_is : (cells : List Cell) (i : ℕ) (cell : Cell) (o : Option ℕ) → o ≢ Some i → (o >>= (λ j. slice_get (slice_set cells i cell) j)) ≡ (o >>= (λ j. slice_get cells j))
beside_is cells i cell None ne = refl
beside_is cells i cell (Some j) ne = set_there cells i j cell (λ same. ne (ap Some same))

beside : (m : Memory) (i : ℕ) (cell : Cell) (other : ℤ) → cell_number m other ≢ Some i → cell_at (with_cell m i cell) other ≡ cell_at m other
unfolding cell_at
beside m i cell other ne = ap (λ o. o >>= (λ j. slice_get (slice_set m.cells i cell) j)) (same_number m i cell other) ∙ beside_is m.cells i cell (cell_number m other) ne

pub cells_stay : (m m' : Memory) (at other : ℤ) (cell : Cell) → set_cell_at m at cell ≡ Some m' → cell_number m other ≢ cell_number m at → cell_at m' other ≡ cell_at m other
cells_stay m m' at other cell is ne =
    let found = from_set_cell m m' at cell is in
    subst (λ n. cell_at n other ≡ cell_at m other) found.2 (beside m found.0 cell other (λ same. ne (same ∙ sym found.1)))

-- ---- characters

-- the place of a character that was written, and the memory after
from_set_char : (m m' : Memory) (at : ℤ) (c : ℕ) → set_char_at m at c ≡ Some m' →
    (p : ℕ × ℕ) × (cell : Cell) × (byte_place m at ≡ Some p) × (slice_get m.cells p.0 ≡ Some cell) × (with_cell m p.0 (Chars (slice_set (chars_or_zeros cell) p.1 c)) ≡ m')
unfolding put_char
from_set_char m m' at c is =
    let cells = from_read _ _ m' is in
    let place = from_read _ _ cells.0 cells.1 in
    let was = from_read _ _ cells.0 place.2 in
    (place.0, was.0, place.1, was.1, ap (λ cs. record m { cells = cs }) (same_Some _ _ was.2) ∙ same_Some _ _ cells.2)

char_is : (m : Memory) (at : ℤ) (p : ℕ × ℕ) (chars : List ℕ) → byte_place m at ≡ Some p → slice_get m.cells p.0 ≡ Some (Chars chars) → char_at m at ≡ slice_get chars p.1
unfolding char_at
char_is m at p chars place cell = rw (place, cell) refl

-- the character at a place of a cell that became characters
char_in : (m : Memory) (at : ℤ) (p : ℕ × ℕ) (chars : List ℕ) → byte_place m at ≡ Some p → char_at (with_cell m p.0 (Chars chars)) at ≡ slice_get chars p.1
char_in m at p chars place = char_is (with_cell m p.0 (Chars chars)) at p chars (same_place m p.0 (Chars chars) at ∙ place) (set_here m.cells p.0 (Chars chars) (place_there m at p place))

chars_long : (m : Memory) (i : ℕ) (cell : Cell) → IsMemory m → slice_get m.cells i ≡ Some cell → length (chars_or_zeros cell) ≡ 64
chars_long m i cell h is = (cell_chars_fit m.limits cell h.limits (all_at (FitsCell m.limits) m.cells i cell h.fit is)).size

pub char_read : (m m' : Memory) (at : ℤ) (c : ℕ) → IsMemory m → set_char_at m at c ≡ Some m' → char_at m' at ≡ Some c
char_read m m' at c h is =
    let found = from_set_char m m' at c is in
    let p : ℕ × ℕ = found.0 in
    let chars : List ℕ = chars_or_zeros found.1 in
    let inside : p.1 < length chars = omega (arith, place_within m at p h found.2, h.limits.most, chars_long m p.0 found.1 h found.3) in
    subst (λ n. char_at n at ≡ Some c) found.4 (char_in m at p (slice_set chars p.1 c) found.2 ∙ set_here chars p.1 c inside)

pub chars_beside : (m m' : Memory) (at other : ℤ) (c : ℕ) (p : ℕ × ℕ) → byte_place m at ≡ Some p → set_char_at m at c ≡ Some m' → cell_number m other ≢ Some p.0 → cell_at m' other ≡ cell_at m other
chars_beside m m' at other c p place is ne =
    let found = from_set_char m m' at c is in
    let same : found.0 ≡ p = same_Some found.0 p (sym found.2 ∙ place) in
    subst (λ n. cell_at n other ≡ cell_at m other) found.4 (beside m found.0.0 _ other (λ e. ne (e ∙ ap (λ q. Some q.0) same)))

pub chars_stay : (m m' : Memory) (at other : ℤ) (c : ℕ) (p q : ℕ × ℕ) (cell : Cell) → byte_place m at ≡ Some p → byte_place m other ≡ Some q → slice_get m.cells p.0 ≡ Some cell → set_char_at m at c ≡ Some m' → q.0 ≡ p.0 → q.1 ≢ p.1 → char_at m' other ≡ slice_get (chars_or_zeros cell) q.1
chars_stay m m' at other c p q cell place place' was is same ne = by (from_set_char m m' at c is)
  where
    by : (p' : ℕ × ℕ) × (cell' : Cell) × (byte_place m at ≡ Some p') × (slice_get m.cells p'.0 ≡ Some cell') × (with_cell m p'.0 (Chars (slice_set (chars_or_zeros cell') p'.1 c)) ≡ m') → char_at m' other ≡ slice_get (chars_or_zeros cell) q.1
    by (p', cell', at_p, at_cell, left) =
        let same_p : p' ≡ p = same_Some p' p (sym at_p ∙ place) in
        let same_cell : cell' ≡ cell = same_Some cell' cell (sym at_cell ∙ ap (λ r. slice_get m.cells r.0) same_p ∙ was) in
        let home : q.0 ≡ p'.0 = same ∙ ap (λ r. r.0) (sym same_p) in
        let chars : List ℕ = slice_set (chars_or_zeros cell') p'.1 c in
        let read = subst (λ i. char_at (with_cell m i (Chars chars)) other ≡ slice_get chars q.1) home (char_in m other q chars place') in
        subst (λ n. char_at n other ≡ slice_get (chars_or_zeros cell) q.1) left (read ∙ set_there (chars_or_zeros cell') p'.1 q.1 c (λ e. ne (e ∙ ap (λ r. r.1) same_p)) ∙ ap (λ k. slice_get (chars_or_zeros k) q.1) same_cell)

none_in : (m : Memory) (other : ℤ) (i : ℕ) (chars : List ℕ) → cell_number m other ≡ Some i → descr_at (with_cell m i (Chars chars)) other ≡ None
unfolding descr_at cell_at
none_in m other i chars number =
    ap (λ o. (o >>= (λ j. slice_get (slice_set m.cells i (Chars chars)) j)) >>= descr_of) (same_number m i (Chars chars) other ∙ number)
    ∙ ap (λ o. o >>= descr_of) (set_here m.cells i (Chars chars) (number_there m other i number))

pub no_descr : (m m' : Memory) (at other : ℤ) (c : ℕ) (p : ℕ × ℕ) → byte_place m at ≡ Some p → set_char_at m at c ≡ Some m' → cell_number m other ≡ Some p.0 → descr_at m' other ≡ None
no_descr m m' at other c p place is number =
    let found = from_set_char m m' at c is in
    let same : found.0 ≡ p = same_Some found.0 p (sym found.2 ∙ place) in
    subst (λ n. descr_at n other ≡ None) found.4 (none_in m other found.0.0 _ (number ∙ ap (λ q. Some q.0) (sym same)))

-- ---- kinds

kind_read_at : (m m' : Memory) (i : ℕ) (kind : ℤ) (cell : Cell) → i < length m.cells → cell_of_kind kind ≡ Some cell → with_cell m i cell ≡ m' → kind_at m' (pos i) ≡ Some kind
unfolding kind_at
kind_read_at m m' i kind cell lt is left = subst (λ n. (slice_get n.cells i >>= (λ c. Some (pos (kind_of c)))) ≡ Some kind) left (rw (set_here m.cells i cell lt) (ap Some (kinds kind cell is)))
  where
    kinds : (kind : ℤ) (cell : Cell) → cell_of_kind kind ≡ Some cell → pos (kind_of cell) ≡ kind
    kinds (pos zero) cell is = subst (λ c. pos (kind_of c) ≡ pos 0) (same_Some _ cell is) refl
    kinds (pos (suc zero)) cell is = subst (λ c. pos (kind_of c) ≡ pos 1) (same_Some _ cell is) refl
    kinds (pos (suc (suc n))) cell is = absurd (grind (arith, is))
    kinds (negsuc n) cell is = absurd (grind (arith, is))

pub kind_read : (m m' : Memory) (i kind : ℤ) → set_kind_at m i kind ≡ Some m' → kind_at m' i ≡ Some kind
unfolding put_kind
kind_read m m' (negsuc i) kind is = absurd (grind (arith, is))
kind_read m m' (pos i) kind is =
    let cells = from_read _ _ m' is in
    let was = from_read _ _ cells.0 cells.1 in
    let new = from_read _ _ cells.0 was.2 in
    kind_read_at m m' i kind new.0 (slice_get_within m.cells i was.0 was.1) new.1 (ap (λ cs. record m { cells = cs }) (same_Some _ _ new.2) ∙ same_Some _ _ cells.2)

-- ---- words

word_is : (m : Memory) (at : ℤ) (p : ℕ × ℕ) (chars : List ℕ) → word_place m at ≡ Some p → slice_get m.cells p.0 ≡ Some (Chars chars) → word_at m at ≡ Some (cast_signed w64 (number (piece p.1 8 chars)))
unfolding word_at
word_is m at p chars place cell = rw (place, cell) refl

same_word_place : (m : Memory) (i : ℕ) (cell : Cell) (at : ℤ) → word_place (with_cell m i cell) at ≡ word_place m at
same_word_place m i cell (negsuc at) = refl
same_word_place m i cell (pos at) = ap (λ o. if at % 8 == 0 then o else None) (same_place m i cell (pos at))

word_there : (m : Memory) (at : ℤ) (p : ℕ × ℕ) → word_place m at ≡ Some p → byte_place m at ≡ Some p
word_there m (negsuc at) p is = absurd (grind (arith, is))
word_there m (pos at) p is = grind (arith, is)

pub word_read : (m m' : Memory) (at x : ℤ) → IsMemory m → FitsSigned w64 x → set_word_at m at x ≡ Some m' → word_at m' at ≡ Some x
unfolding put_word
word_read m m' at x h fits is =
    let cells = from_read _ _ m' is in
    let place = from_read _ _ cells.0 cells.1 in
    let was = from_read _ _ cells.0 place.2 in
    let held = from_read _ _ cells.0 was.2 in
    let p : ℕ × ℕ = place.0 in
    let chars : List ℕ = held.0 in
    let left = ap (λ cs. record m { cells = cs }) (same_Some _ _ held.2) ∙ same_Some _ _ cells.2 in
    let long = chars_of_long was.0 chars held.1 (chars_long m p.0 was.0 h was.1) in
    let room = word_room m at p h place.1 in
    let bits = cast_unsigned w64 x in
    let new = with_piece p.1 (low_bytes 8 bits) chars in
    let read = word_is (with_cell m p.0 (Chars new)) at p new (same_word_place m p.0 (Chars new) at ∙ place.1) (set_here m.cells p.0 (Chars new) (place_there m at p (word_there m at p place.1))) in
    subst (λ n. word_at n at ≡ Some x) left (read ∙ ap (λ b. Some (cast_signed w64 b)) (number_here p.1 8 bits chars (omega (arith, long, room, h.limits.most)) (Fits-lt-pow (Fits-of_z fits))) ∙ ap Some (to_z-of_z w64 x fits))
  where
    chars_of_long : (cell : Cell) (chars : List ℕ) → chars_of cell ≡ Some chars → length (chars_or_zeros cell) ≡ 64 → length chars ≡ 64
    chars_of_long (Descr d) chars is long = absurd (grind (arith, is))
    chars_of_long (Chars cs) chars is long = subst (λ xs. length xs ≡ 64) (same_Some cs chars is) long
