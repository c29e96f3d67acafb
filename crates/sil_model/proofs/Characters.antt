-- Cells of characters fit, whatever characters they are.
use Rattle.std.proofs.Common.{◌≡◌, ℕ, zero, suc, inl, inr, ◌+◌, ◌-◌, ◌*◌, ◌/◌, ◌%◌, ◌<◌, ◌≤◌, ◌∙◌, List, ◌++◌, length, take, replicate, Some, ℤ, pos, negsuc, ap, subst, arith, rules, length-append}
use Rattle.std.specs.Prelude.{slice_set, All}
use Rattle.std.specs.Int.{w64, cast_unsigned}
use Rattle.std.proofs.Math.ListN.{length-set}
use Rattle.std.proofs.Math.Nat.{div-add-mod, mod-lt, mul_assoc}
use Rattle.std.proofs.lemmas.Bool.{cases_lt}
use Rattle.std.proofs.lemmas.Option.{same_Some}
use Rattle.std.proofs.lemmas.List.{drop-set-lt, length-replicate, drop-replicate, length-take, get_or_past}
use Rattle.std.proofs.lemmas.List.Elements.{All-set, All-replicate, All-from_get_or}
use Rattle.std.proofs.lemmas.Slice.{drop-append-drop}
use Rattle.sil_base.specs.Bytes.{low_bytes, with_piece, AreBytes}
use Rattle.sil_base.specs.declared.places.TheConstants.{FIRST_CELL}
use Rattle.sil_base.proofs.Numbers.{length-low_bytes, low_bytes_below, AreBytes-with_piece}
use Rattle.layout_params.specs.declared.cell.Cell.{Cell}
use Rattle.layout_params.specs.declared.cell.Cell.TheVariants.{Descr, Chars}
use Rattle.layout_params.proofs.PackingLemmas.{length-with_low}
use Rattle.sil_model.specs.declared.limits.Limits.{Limits}
use Rattle.sil_model.specs.Memory.{Memory, IsMemory, AreLimits, FitsCell, FitsChars}
use Rattle.sil_model.specs.Access.{byte_place, chars_of, chars_or_zeros, put_char, set_char_at}
use Rattle.sil_model.specs.CellWords.{cell_of_kind, put_kind, set_kind_at, word_place, put_word, set_word_at}
use Rattle.sil_model.proofs.Places.{place_within}
use Rattle.sil_model.proofs.Keeps.{Writes, Puts, puts_none, puts_read, puts_set, writes_cells, all_at}

pub zeros_fit : (limits : Limits) → AreLimits limits → FitsChars limits (replicate 64 0)
zeros_fit limits legal = record {
  size = length-replicate {A = ℕ} 64 0;
  bytes = All-replicate (λ c. c < 256) 64 0 (omega arith);
  rest = drop-replicate limits.cell_size 64 0;
}

pub cell_chars_fit : (limits : Limits) (cell : Cell) → AreLimits limits → FitsCell limits cell → FitsChars limits (chars_or_zeros cell)
cell_chars_fit limits (Descr d) legal fits = zeros_fit limits legal
cell_chars_fit limits (Chars chars) legal fits = fits

char_fits : (limits : Limits) (chars : List ℕ) (i c : ℕ) → FitsChars limits chars → i < limits.cell_size → c < 256 → FitsChars limits (slice_set chars i c)
char_fits limits chars i c fits within byte = record {
  size = length-set chars i c ∙ fits.size;
  bytes = All-set (λ b. b < 256) chars i c byte fits.bytes;
  rest = drop-set-lt limits.cell_size chars i c within ∙ fits.rest;
}

pub character_fits : (limits : Limits) (cell : Cell) (i c : ℕ) → AreLimits limits → FitsCell limits cell → i < limits.cell_size → c < 256 → FitsChars limits (slice_set (chars_or_zeros cell) i c)
character_fits limits cell i c legal fits within byte = char_fits limits (chars_or_zeros cell) i c (cell_chars_fit limits cell legal fits) within byte

puts_char : (m : Memory) (at : ℤ) (c : ℕ) → IsMemory m → c < 256 → Puts m (put_char m at c)
unfolding put_char
puts_char m at c h byte =
    puts_read m _ _ (λ p is.
    puts_read m _ _ (λ cell found.
    puts_set m p.0 _ h (character_fits m.limits cell p.1 c h.limits (all_at (FitsCell m.limits) m.cells p.0 cell h.fit found) (place_within m at p h is) byte)))

pub writes_set_char : (m : Memory) (at : ℤ) (c : ℕ) → IsMemory m → c < 256 → Writes m (set_char_at m at c)
writes_set_char m at c h byte = writes_cells m (put_char m at c) h (puts_char m at c h byte)

-- ---- words

room_in : (size offset : ℕ) → 16 ≤ size → size % 8 ≡ 0 → offset % 8 ≡ 0 → offset % size + 8 ≤ size
room_in size offset least eights aligned =
    let whole : size * (offset / size) + offset % size ≡ offset = div-add-mod offset size in
    let low : offset % size < size = mod-lt offset (omega arith) in
    let units : size ≡ 8 * (size / 8) = omega arith in
    let turned : size * (offset / size) ≡ 8 * (size / 8 * (offset / size)) = ap (λ k. k * (offset / size)) units ∙ mul_assoc 8 (size / 8) (offset / size) in
    omega (arith, whole, low, units, turned)

pub word_room : (m : Memory) (at : ℤ) (p : ℕ × ℕ) → IsMemory m → word_place m at ≡ Some p → p.1 + 8 ≤ m.limits.cell_size
unfolding byte_place
word_room m (negsuc at) p h is = absurd (grind (arith, is))
word_room m (pos at) p h is = by (is_aligned m at p is)
  where
    is_aligned : (m : Memory) (at : ℕ) (p : ℕ × ℕ) → word_place m (pos at) ≡ Some p → (at % 8 ≡ 0) × (FIRST_CELL ≤ at) × ((at - FIRST_CELL) % m.limits.cell_size ≡ p.1)
    is_aligned m at p is = grind (arith, is)

    by : (at % 8 ≡ 0) × (FIRST_CELL ≤ at) × ((at - FIRST_CELL) % m.limits.cell_size ≡ p.1) → p.1 + 8 ≤ m.limits.cell_size
    by (aligned, far, is) = subst (λ r. r + 8 ≤ m.limits.cell_size) is (room_in m.limits.cell_size (at - FIRST_CELL) h.limits.least h.limits.words (omega arith))

pub bytes_of : (chars : List ℕ) → All (λ c. c < 256) chars → AreBytes chars
bytes_of chars h i = elim (cases_lt i (length chars)) [ inl lt ↦ h i 0 lt | inr le ↦ rw (get_or_past chars i 0 le) (omega arith) ]

word_fits : (limits : Limits) (chars : List ℕ) (i bits : ℕ) → AreLimits limits → FitsChars limits chars → i + 8 ≤ limits.cell_size → FitsChars limits (with_piece i (low_bytes 8 bits) chars)
word_fits limits chars i bits legal fits room =
    let long = length-low_bytes 8 bits in
    let inside : i + 8 ≤ length chars = omega (arith, fits.size, legal.most) in
    let front : length (take i chars ++ low_bytes 8 bits) ≡ i + length (low_bytes 8 bits) = omega (arith, length-append (take i chars) (low_bytes 8 bits), length-take i chars) in
    let behind : i + length (low_bytes 8 bits) ≤ limits.cell_size = omega arith in
    record {
      size = length-with_low i 8 bits chars inside ∙ fits.size;
      bytes = All-from_get_or (λ c. c < 256) (with_piece i (low_bytes 8 bits) chars) 0 (λ j lt. AreBytes-with_piece i (low_bytes 8 bits) chars (low_bytes_below 8 bits) (bytes_of chars fits.bytes) j);
      rest = drop-append-drop (i + length (low_bytes 8 bits)) chars (take i chars ++ low_bytes 8 bits) limits.cell_size behind front ∙ fits.rest;
    }

puts_word : (m : Memory) (at x : ℤ) → IsMemory m → Puts m (put_word m at x)
unfolding put_word
puts_word m at x h =
    puts_read m _ _ (λ p is.
    puts_read m _ _ (λ cell found.
    puts_read m _ _ (λ chars held.
    puts_set m p.0 _ h (word_fits m.limits chars p.1 (cast_unsigned w64 x) h.limits (held_fit m.limits cell chars held (all_at (FitsCell m.limits) m.cells p.0 cell h.fit found)) (word_room m at p h is)))))
  where
    held_fit : (limits : Limits) (cell : Cell) (chars : List ℕ) → chars_of cell ≡ Some chars → FitsCell limits cell → FitsChars limits chars
    held_fit limits (Descr d) chars is fits = absurd (grind (arith, is))
    held_fit limits (Chars cs) chars is fits = subst (FitsChars limits) (same_Some cs chars is) fits

pub writes_set_word : (m : Memory) (at x : ℤ) → IsMemory m → Writes m (set_word_at m at x)
writes_set_word m at x h = writes_cells m (put_word m at x) h (puts_word m at x h)

-- ---- kinds

kind_fits : (limits : Limits) (kind : ℤ) (cell : Cell) → AreLimits limits → cell_of_kind kind ≡ Some cell → FitsCell limits cell
kind_fits limits (pos zero) cell legal is = subst (FitsCell limits) (same_Some _ cell is) ((search rules), (omega arith), (omega arith))
kind_fits limits (pos (suc zero)) cell legal is = subst (FitsCell limits) (same_Some _ cell is) (zeros_fit limits legal)
kind_fits limits (pos (suc (suc n))) cell legal is = absurd (grind (arith, is))
kind_fits limits (negsuc n) cell legal is = absurd (grind (arith, is))

puts_kind : (m : Memory) (i kind : ℤ) → IsMemory m → Puts m (put_kind m i kind)
unfolding put_kind
puts_kind m (negsuc i) kind h = puts_none m
puts_kind m (pos i) kind h =
    puts_read m _ _ (λ was is.
    puts_read m _ _ (λ cell found. puts_set m i cell h (kind_fits m.limits kind cell h.limits found)))

pub writes_set_kind : (m : Memory) (i kind : ℤ) → IsMemory m → Writes m (set_kind_at m i kind)
writes_set_kind m i kind h = writes_cells m (put_kind m i kind) h (puts_kind m i kind h)
