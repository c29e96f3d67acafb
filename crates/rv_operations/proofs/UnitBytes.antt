-- The bytes that a call hands to a unit: texts among the constants, scratch words, and characters of cells.
use Rattle.std.proofs.Common.{◌≡◌, ℕ, zero, suc, ◌+◌, ◌-◌, ◌*◌, ◌^◌, ◌<◌, ◌≤◌, inl, inr, List, [], ◌∷◌, ◌++◌, length, take, drop, Option, Some, None, Bool, true, false, cond, refl, sym, ap, ◌∙◌, arith, append_assoc, length-append}
use Rattle.std.specs.Prelude.{ℤ, pos, negsuc, is_some, option_and_then, slice_get, sum_by, FitsSigned}
use Rattle.std.specs.List.{flat_map, fold}
use Rattle.std.specs.Int.{w64, cast_unsigned, cast_signed}
use Rattle.std.proofs.lemmas.Int.{to_z-of_z}
use Rattle.std.proofs.lemmas.List.{drop-take, drop-drop}
use Rattle.std.proofs.lemmas.Nat.{mul-le}
use Rattle.std.proofs.Math.Seq.{take-length}
use Rattle.sil_base.specs.Bytes.{number, piece}
use Rattle.sil_base.specs.declared.places.TheConstants.{FIRST_CELL, FIRST_CONSTANT, FIRST_KIND, FIRST_SCRATCH, FIRST_TABLE}
use Rattle.sil_base.proofs.Numbers.{piece-append_left, piece-append_right}
use Rattle.layout_params.specs.Sizes.{Sizes}
use Rattle.layout_params.proofs.LegalLayouts.{IsLegal}
use Rattle.sil_model.specs.Memory as abstract
use Rattle.sil_model.specs.Access.{char_at}
use Rattle.sil_model.specs.Integers.{◌⊞◌}
use Rattle.sil_micro.specs.MicroStates.{Micro}
use Rattle.sil_micro.specs.Operations.{scratch_words}
use Rattle.sil_micro.specs.UnitCalls.{chars_from, words_from, or_nothing}
use Rattle.rv_emulate.specs.Ecalls.{words_in}
use Rattle.rv_emulate.specs.EmulatorMemory as emulator
use Rattle.rv_emulate.specs.EmulatorMemory.{Memory, bytes_at, or_else, piece_from}
use Rattle.rv_routines.specs.Holds.{HoldsMemory}
use Rattle.rv_routines.specs.Tests.{cell_around, with_chars}
use Rattle.rv_routines.proofs.Cells.{place_of_byte}
use Rattle.rv_routines.proofs.CharBytes.{char_loads}
use Rattle.rv_routines.proofs.Regions.{load_cells}
use Rattle.rv_operations.specs.Links.{format_place}
use Rattle.rv_operations.specs.StandsFor.{HoldsWords}
use Rattle.rv_operations.proofs.CharsFound.{chars_around, char_is}
use Rattle.rv_operations.proofs.UnitTests.{chars_within, fits_signed, format_room, next_address, none_of}

-- ---- a region holds the bytes, or ends before them

past_region : (first : ℕ) (bytes : List ℕ) (n address : ℕ) → first + length bytes < address + n → piece_from first bytes n address ≡ None
past_region first bytes n address h = grind arith

in_region : (first : ℕ) (bytes : List ℕ) (n i : ℕ) → i + n ≤ length bytes → piece_from first bytes n (first + i) ≡ Some (piece i n bytes)
in_region first bytes n i h =
    let at : first + i - first ≡ i = omega arith in
    rw at (grind arith)

-- no bytes are none anywhere
pub bytes_none : (constants : List ℕ) (m : Memory) (at : ℕ) → bytes_at constants m 0 at ≡ []
unfolding bytes_at
bytes_none constants m at =
    empty (emulator.holds FIRST_CELL m.cells 0 at) (or_else kinds (or_else tables (or_else texts words)))
    (empty (emulator.holds FIRST_KIND m.kinds 0 at) (or_else tables (or_else texts words)) (empty (emulator.holds FIRST_TABLE m.tables 0 at) (or_else texts words) (empty (emulator.holds FIRST_CONSTANT constants 0 at) words (alone (emulator.holds FIRST_SCRATCH m.scratch 0 at)))))
  where
    kinds : Option (List ℕ)
    kinds = piece_from FIRST_KIND m.kinds 0 at

    tables : Option (List ℕ)
    tables = piece_from FIRST_TABLE m.tables 0 at

    texts : Option (List ℕ)
    texts = piece_from FIRST_CONSTANT constants 0 at

    words : Option (List ℕ)
    words = piece_from FIRST_SCRATCH m.scratch 0 at

    empty : (b : Bool) (o : Option (List ℕ)) → emulator.or_nothing o ≡ [] → emulator.or_nothing (or_else (cond b (Some []) None) o) ≡ []
    empty true o h = refl
    empty false o h = h

    alone : (b : Bool) → emulator.or_nothing (cond b (Some []) None) ≡ []
    alone true = refl
    alone false = refl

bytes_cells : (constants : List ℕ) (m : Memory) (n i : ℕ) → i + n ≤ length m.cells → bytes_at constants m n (FIRST_CELL + i) ≡ piece i n m.cells
unfolding bytes_at
bytes_cells constants m n i h = rw (in_region FIRST_CELL m.cells n i h) refl

bytes_constants : (constants : List ℕ) (m : Memory) (n i : ℕ) → length m.cells ≤ 2 ^ 26 → length m.kinds ≤ 2 ^ 20 → length m.tables ≤ 2 ^ 20 → i + n ≤ length constants → bytes_at constants m n (FIRST_CONSTANT + i) ≡ piece i n constants
unfolding bytes_at
bytes_constants constants m n i room few tables h =
    let a = past_region FIRST_CELL m.cells n (FIRST_CONSTANT + i) (omega arith) in
    let b = past_region FIRST_KIND m.kinds n (FIRST_CONSTANT + i) (omega arith) in
    let c = past_region FIRST_TABLE m.tables n (FIRST_CONSTANT + i) (omega arith) in
    rw (a, b, c, in_region FIRST_CONSTANT constants n i h) refl

bytes_scratch : (constants : List ℕ) (m : Memory) (n i : ℕ) → length m.cells ≤ 2 ^ 26 → length m.kinds ≤ 2 ^ 20 → length m.tables ≤ 2 ^ 20 → length constants ≤ 2 ^ 26 → 0 < i → i + n ≤ length m.scratch → bytes_at constants m n (FIRST_SCRATCH + i) ≡ piece i n m.scratch
unfolding bytes_at
bytes_scratch constants m n i room few tables texts some h =
    let a = past_region FIRST_CELL m.cells n (FIRST_SCRATCH + i) (omega arith) in
    let b = past_region FIRST_KIND m.kinds n (FIRST_SCRATCH + i) (omega arith) in
    let c = past_region FIRST_TABLE m.tables n (FIRST_SCRATCH + i) (omega arith) in
    let d = past_region FIRST_CONSTANT constants n (FIRST_SCRATCH + i) (omega arith) in
    rw (a, b, c, d, in_region FIRST_SCRATCH m.scratch n i h) refl

-- the sizes of the regions
record AreSmall (m : Memory) : Type 0 where
  cells : length m.cells ≤ 2 ^ 26
  kinds : length m.kinds ≤ 2 ^ 20

small_regions : (sizes : Sizes) (mm : abstract.Memory) (m : Memory) → IsLegal sizes → HoldsMemory sizes mm m → AreSmall m
small_regions sizes mm m l h =
    let all : length mm.cells * sizes.descr ≤ 2 ^ 20 * 64 = mul-le (length mm.cells) sizes.descr (2 ^ 20) 64 h.valid.count l.most in
    record { cells = omega (arith, h.size, all); kinds = omega (arith, h.kinds_size, h.valid.count) }

-- ---- texts of formats

-- the text behind those before it
text_piece : (texts : List (List ℕ)) (i : ℕ) (front text : List ℕ) → slice_get texts i ≡ Some text → piece (fold (λ a t. a + length t) (length front) (take i texts)) (length text) (front ++ flat_map (λ t. t) texts) ≡ text
text_piece [] i front text e = absurd cc
text_piece (t ∷ texts) zero front text e =
    let same : t ≡ text = cc in
    let z : length front + 0 ≡ length front = omega arith in
    ap (λ at. piece at (length text) (front ++ (t ++ flat_map (λ x. x) texts))) (sym z)
    ∙ piece-append_right 0 (length text) front (t ++ flat_map (λ x. x) texts)
    ∙ ap (λ x. piece 0 (length x) (t ++ flat_map (λ x. x) texts)) (sym same)
    ∙ piece-append_left 0 (length t) t (flat_map (λ x. x) texts) (omega arith)
    ∙ take-length t
    ∙ same
text_piece (t ∷ texts) (suc i) front text e =
    ap (λ k. piece (fold (λ a t. a + length t) k (take i texts)) (length text) (front ++ (t ++ flat_map (λ x. x) texts))) (sym (length-append front t))
    ∙ ap (λ xs. piece (fold (λ a t. a + length t) (length (front ++ t)) (take i texts)) (length text) xs) (sym (append_assoc front t (flat_map (λ x. x) texts)))
    ∙ text_piece texts i (front ++ t) text e

pub format_bytes : (sizes : Sizes) (mm : abstract.Memory) (m : Memory) (constants : List ℕ) (formats : List (List ℕ)) (i : ℕ) (text : List ℕ) → IsLegal sizes → HoldsMemory sizes mm m → constants ≡ flat_map (λ t. t) formats → slice_get formats i ≡ Some text → bytes_at constants m (length text) (format_place formats i) ≡ text
format_bytes sizes mm m constants formats i text l h is e =
    let small = small_regions sizes mm m l h in
    bytes_constants constants m (length text) (sum_by length (take i formats)) small.cells small.kinds h.tables_size (format_room constants formats i text is e)
    ∙ ap (λ xs. piece (sum_by length (take i formats)) (length text) xs) is
    ∙ text_piece formats i [] text e

-- ---- scratch words

-- a piece of words is its first one and the others
first_word : (at n : ℕ) (bytes : List ℕ) → take 8 (piece at (8 * suc n) bytes) ≡ piece at 8 bytes
first_word at n bytes =
    let more : 8 * suc n ≡ 8 + 8 * n = omega arith in
    rw more (take_in 8 (8 * n) (drop at bytes))
  where
    take_in : (a b : ℕ) (xs : List ℕ) → take a (take (a + b) xs) ≡ take a xs
    take_in zero b xs = refl
    take_in (suc a) b [] = let z : suc a + b ≡ suc (a + b) = omega arith in rw z refl
    take_in (suc a) b (x ∷ xs) = let z : suc a + b ≡ suc (a + b) = omega arith in rw z (ap (λ ys. x ∷ ys) (take_in a b xs))

other_words : (at n : ℕ) (bytes : List ℕ) → drop 8 (piece at (8 * suc n) bytes) ≡ piece (at + 8) (8 * n) bytes
other_words at n bytes =
    let more : 8 * suc n ≡ 8 + 8 * n = omega arith in
    ap (λ k. drop 8 (take k (drop at bytes))) more
    ∙ drop-take 8 (8 * n) (drop at bytes)
    ∙ ap (λ xs. take (8 * n) xs) (drop-drop 8 at bytes)

words_are : (u : Micro) (m : Memory) → HoldsWords u m → (count i : ℕ) → i + count ≤ scratch_words → words_in count (piece (8 * (i + 2)) (8 * count) m.scratch) ≡ words_from u.scratch i count
words_are u m w zero i h = refl
words_are u m w (suc n) i h =
    let at = 8 * (i + 2) in
    let lt : i < scratch_words = omega (arith, h) in
    let word : cast_signed w64 (number (take 8 (piece at (8 * suc n) m.scratch))) ≡ u.scratch i =
    ap (λ xs. cast_signed w64 (number xs)) (first_word at n m.scratch)
    ∙ ap (cast_signed w64) (w.words i lt)
    ∙ to_z-of_z w64 (u.scratch i) (w.words_fit i lt) in
    let next : at + 8 ≡ 8 * (suc i + 2) = omega arith in
    let rest : words_in n (drop 8 (piece at (8 * suc n) m.scratch)) ≡ words_from u.scratch (suc i) n =
    ap (words_in n) (other_words at n m.scratch)
    ∙ ap (λ k. words_in n (piece k (8 * n) m.scratch)) next
    ∙ words_are u m w n (suc i) (omega (arith, h)) in
    ap (λ z. z ∷ words_in n (drop 8 (piece at (8 * suc n) m.scratch))) word ∙ ap (λ zs. u.scratch i ∷ zs) rest

pub words_bytes : (sizes : Sizes) (u : Micro) (m : Memory) (constants : List ℕ) (count : ℕ) → IsLegal sizes → HoldsMemory sizes u.state.memory m → HoldsWords u m → length constants ≤ 2 ^ 26 → count ≤ 256 → words_in count (bytes_at constants m (8 * count) (FIRST_SCRATCH + 16)) ≡ words_from u.scratch 0 count
words_bytes sizes u m constants count l h w short few =
    let small = small_regions sizes u.state.memory m l h in
    ap (words_in count) (bytes_scratch constants m (8 * count) 16 small.cells small.kinds h.tables_size short (omega arith) (omega (arith, h.scratch_size, few)))
    ∙ words_are u m w count 0 (omega (arith, few))

-- ---- characters of cells

-- a piece is its first byte and the others
next_byte : (k n c : ℕ) (bytes : List ℕ) → k < length bytes → number (piece k 1 bytes) ≡ c → piece k (suc n) bytes ≡ c ∷ piece (k + 1) n bytes
next_byte k n c [] lt e = absurd (omega (arith, lt))
next_byte zero n c (b ∷ bytes) lt e = let same : b ≡ c = omega (arith, e) in ap (λ x. x ∷ take n bytes) same
next_byte (suc k) n c (b ∷ bytes) lt e =
    let z : suc k + 1 ≡ suc (k + 1) = omega arith in
    rw z (next_byte k n c bytes (omega (arith, lt)) e)

module _ (sizes : Sizes) (l : IsLegal sizes) (mm : abstract.Memory) (m : Memory) (h : HoldsMemory sizes mm m) where
  -- a character is the byte at its address
  record IsByte (x c : ℕ) : Type 0 where
    low : FIRST_CELL ≤ x
    room : x + 1 ≤ FIRST_CELL + length m.cells
    byte : number (piece (x - FIRST_CELL) 1 m.cells) ≡ c

  char_byte : (x c : ℕ) → x < 2 ^ 63 → char_at mm (pos x) ≡ Some c → IsByte x c
  char_byte x c small e =
      let z = to_z-of_z w64 (pos x) (fits_signed x small) in
      by (option_and_then with_chars (cell_around mm x)) refl (sym (char_is mm x) ∙ ap (λ y. char_at mm y) z ∙ e)
    where
      by : (o : Option (ℕ × ℕ × List ℕ)) → option_and_then with_chars (cell_around mm x) ≡ o → option_and_then (λ (t : ℕ × ℕ × List ℕ). slice_get t.2 t.1) o ≡ Some c → IsByte x c
      by None is g = absurd cc
      by (Some t) is g =
          let here = chars_around mm x t is in
          let d = sizes.descr in
          let w = place_of_byte mm d x t.0 t.1 h.limit l.least l.most h.valid.count (omega (arith, small)) here.place in
          let at : x - FIRST_CELL ≡ t.0 * d + t.1 = omega (arith, w.address) in
          let inside : t.0 * d + t.1 + 1 ≤ length m.cells = omega (arith, w.place, w.inside, h.size) in
          let two : Some (number (piece (t.0 * d + t.1) 1 m.cells)) ≡ Some c = sym (load_cells [] m 1 (t.0 * d + t.1) (omega arith) inside) ∙ char_loads [] sizes l mm m h t.0 t.1 t.2 here.member c w.place g in
          let same : number (piece (t.0 * d + t.1) 1 m.cells) ≡ c = cc in
          record {
            low = omega (arith, w.address);
            room = omega (arith, w.address, inside);
            byte = ap (λ k. number (piece k 1 m.cells)) at ∙ same;
          }

  chars_piece : (n x : ℕ) (cs : List ℕ) → x < 2 ^ 63 → chars_from mm (pos x) n ≡ Some cs → piece (x - FIRST_CELL) n m.cells ≡ cs
  unfolding chars_from
  chars_piece zero x cs small e = let same : [] ≡ cs = cc in same
  chars_piece (suc n) x cs small e = by (λ y. chars_piece n y) (char_at mm (pos x)) refl e
    where
      Again : Type 0
      Again = (y : ℕ) (more : List ℕ) → y < 2 ^ 63 → chars_from mm (pos y) n ≡ Some more → piece (y - FIRST_CELL) n m.cells ≡ more

      rest : Again → (c : ℕ) → IsByte x c → (o : Option (List ℕ)) → chars_from mm (pos x ⊞ pos 1) n ≡ o → option_and_then (λ more. Some (c ∷ more)) o ≡ Some cs → piece (x - FIRST_CELL) (suc n) m.cells ≡ cs
      rest again c here None is g = absurd cc
      rest again c here (Some more) is g =
          let same : (c ∷ more) ≡ cs = cc in
          let sizes_small = small_regions sizes mm m l h in
          let low : x < 2 ^ 62 = omega (arith, here.room, sizes_small.cells) in
          let first = next_byte (x - FIRST_CELL) n c m.cells (omega (arith, here.low, here.room)) here.byte in
          let next : x - FIRST_CELL + 1 ≡ x + 1 - FIRST_CELL = omega (arith, here.low) in
          let others = again (x + 1) more (omega (arith, low)) (ap (λ z. chars_from mm z n) (sym (next_address x low)) ∙ is) in
          first ∙ ap (λ k. c ∷ piece k n m.cells) next ∙ ap (λ ys. c ∷ ys) others ∙ same

      by : Again → (o : Option ℕ) → char_at mm (pos x) ≡ o → option_and_then (λ c. option_and_then (λ more. Some (c ∷ more)) (chars_from mm (pos x ⊞ pos 1) n)) o ≡ Some cs → piece (x - FIRST_CELL) (suc n) m.cells ≡ cs
      by again None is g = absurd cc
      by again (Some c) is g = rest again c (char_byte x c small is) (chars_from mm (pos x ⊞ pos 1) n) refl g

  found_chars : (constants : List ℕ) (z : ℤ) (n : ℕ) (cs : List ℕ) → FitsSigned w64 z → chars_from mm z n ≡ Some cs → bytes_at constants m n (cast_unsigned w64 z) ≡ cs
  unfolding chars_from
  found_chars constants z zero cs fits e = let same : [] ≡ cs = cc in bytes_none constants m (cast_unsigned w64 z) ∙ same
  found_chars constants (pos x) (suc n) cs fits e =
      let small : x < 2 ^ 63 = omega (arith, fits.sfits) in
      let w = chars_within sizes l mm m h (suc n) x small (ap is_some e) in
      elim w [
        | inl gone ↦ absurd (omega (arith, gone))
        | inr in_cells ↦
            let at : FIRST_CELL + (x - FIRST_CELL) ≡ x = omega (arith, in_cells.0) in
            ap (λ a. bytes_at constants m (suc n) a) (sym at) ∙ bytes_cells constants m (suc n) (x - FIRST_CELL) (omega (arith, in_cells.0, in_cells.1, h.size)) ∙ chars_piece (suc n) x cs small e
      ]
  found_chars constants (negsuc k) (suc n) cs fits e = absurd (none_of sizes l mm m h n k (ap is_some e))

  -- the characters from an address on are the bytes there
  pub chars_bytes : (constants : List ℕ) (z : ℤ) (n : ℕ) → FitsSigned w64 z → is_some (chars_from mm z n) ≡ true → bytes_at constants m n (cast_unsigned w64 z) ≡ or_nothing (chars_from mm z n)
  chars_bytes constants z n fits some = by (chars_from mm z n) refl some
    where
      by : (o : Option (List ℕ)) → chars_from mm z n ≡ o → is_some o ≡ true → bytes_at constants m n (cast_unsigned w64 z) ≡ or_nothing o
      by None is g = absurd cc
      by (Some cs) is g = found_chars constants z n cs fits is
