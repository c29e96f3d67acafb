-- Characters that a read leaves: the emulator's bytes stand for the memory with them.
use Rattle.std.proofs.Common.{◌≡◌, ℕ, zero, suc, ◌+◌, ◌-◌, ◌*◌, ◌%◌, ◌^◌, ◌<◌, ◌≤◌, inl, inr, List, [], ◌∷◌, length, Option, Some, None, Bool, true, false, cond, ◌==◌, refl, sym, ap, subst, ◌∙◌, arith}
use Rattle.std.specs.Prelude.{ℤ, pos, negsuc, nat_le, nat_lt, is_some, option_and_then, slice_get, slice_set, FitsSigned}
use Rattle.std.specs.List.{list_all}
use Rattle.std.specs.Int.{w64, cast_unsigned}
use Rattle.std.proofs.lemmas.Int.{to_z-of_z}
use Rattle.std.proofs.lemmas.List.{length-set}
use Rattle.std.proofs.lemmas.Option.{same_Some}
use Rattle.sil_base.specs.Bytes.{low_bytes, with_piece}
use Rattle.sil_base.specs.declared.places.TheConstants.{FIRST_CELL, FIRST_KIND, FIRST_SCRATCH, FIRST_TABLE}
use Rattle.sil_base.proofs.Numbers.{low_bytes_below}
use Rattle.layout_params.specs.Sizes.{Sizes}
use Rattle.layout_params.specs.declared.cell.Cell.{Cell}
use Rattle.layout_params.specs.declared.cell.Cell.TheVariants.{Descr, Chars}
use Rattle.layout_params.proofs.LegalLayouts.{IsLegal}
use Rattle.layout_params.proofs.LegalLemmas.{both_true}
use Rattle.unit_io.specs.Tapes.{TapeState, next_fails, next_record}
use Rattle.unit_calls.specs.CallsMade.{read}
use Rattle.sil_model.specs.Memory as abstract
use Rattle.sil_model.specs.Access.{char_at, chars_or_zeros, set_char_at, with_cell}
use Rattle.sil_model.specs.Integers.{◌⊞◌}
use Rattle.sil_micro.specs.UnitCalls.{chars_from, set_chars_from}
use Rattle.sil_micro.proofs.SetChars.{chars_first, chars_kept}
use Rattle.rv_emulate.specs.Ecalls.{bytes_read, memory_after}
use Rattle.rv_emulate.specs.EmulatorMemory.{Memory, bytes_at, holds, with_bytes}
use Rattle.rv_emulate.specs.EmulatorStates.{register}
use Rattle.rv_routines.specs.Holds.{HoldsMemory}
use Rattle.rv_routines.specs.Tests.{cell_around, with_chars}
use Rattle.rv_routines.proofs.Cells.{few_bytes, place_of_byte}
use Rattle.rv_routines.proofs.CharBytes.{chars_put, made_is, made_fits}
use Rattle.rv_routines.proofs.Pieces.{kind_written}
use Rattle.rv_operations.proofs.CharsFound.{around, char_is, set_char_is}
use Rattle.rv_operations.proofs.UnitTests.{chars_within, fits_signed, next_address, none_of}

-- ---- what the emulator leaves

pub reads_memory : (m : Memory) (ys : List ℕ) (t : TapeState) (at len : ℕ) → register ys 17 ≡ 2 → register ys 11 ≡ at → register ys 12 ≡ len → memory_after m ys t ≡ with_bytes m at (bytes_read t (bytes_at [] m len at))
reads_memory m ys t at len e7 e1 e2 =
    ap (λ a7. cond (a7 == 2) (with_bytes m (register ys 11) (bytes_read t (bytes_at [] m (register ys 12) (register ys 11)))) m) e7
    ∙ ap (λ a. with_bytes m a (bytes_read t (bytes_at [] m (register ys 12) a))) e1
    ∙ ap (λ n. with_bytes m at (bytes_read t (bytes_at [] m n at))) e2

pub read_few : (t : TapeState) → (read t).answer ≤ 4
read_few t = by (next_fails t) (is_some (next_record t))
  where
    by : (a b : Bool) → cond a 2 (cond b 0 1) ≤ 4
    by true b = omega arith
    by false true = omega arith
    by false false = omega arith

-- ---- what the operation leaves

pub by_read : (o : Option abstract.Memory) (P : Option abstract.Memory → Type 0) → P None → ((after : abstract.Memory) → o ≡ Some after → P (Some after)) → P o
by_read None P none some = none
by_read (Some after) P none some = some after refl

-- ---- bytes of a region

-- no bytes change nothing
none_put : (k : ℕ) (bytes : List ℕ) → with_piece k [] bytes ≡ bytes
none_put zero bytes = refl
none_put (suc k) [] = let z : suc k + 0 ≡ suc (k + 0) = omega arith in rw z refl
none_put (suc k) (b ∷ bytes) = let z : suc k + 0 ≡ suc (k + 0) = omega arith in rw z (ap (λ xs. b ∷ xs) (none_put k bytes))

none_written : (m : Memory) (at : ℕ) → with_bytes m at [] ≡ m
unfolding with_bytes
none_written m at = by (holds FIRST_CELL m.cells 0 at) (holds FIRST_KIND m.kinds 0 at) (holds FIRST_TABLE m.tables 0 at) (holds FIRST_SCRATCH m.scratch 0 at)
  where
    by : (a b c d : Bool) → cond a (record m { cells = with_piece (at - FIRST_CELL) [] m.cells }) (cond b (record m { kinds = with_piece (at - FIRST_KIND) [] m.kinds }) (cond c (record m { tables = with_piece (at - FIRST_TABLE) [] m.tables }) (cond d (record m { scratch = with_piece (at - FIRST_SCRATCH) [] m.scratch }) m))) ≡ m
    by true b c d = ap (λ bytes. record m { cells = bytes }) (none_put (at - FIRST_CELL) m.cells)
    by false true c d = ap (λ bytes. record m { kinds = bytes }) (none_put (at - FIRST_KIND) m.kinds)
    by false false true d = ap (λ bytes. record m { tables = bytes }) (none_put (at - FIRST_TABLE) m.tables)
    by false false false true = ap (λ bytes. record m { scratch = bytes }) (none_put (at - FIRST_SCRATCH) m.scratch)
    by false false false false = refl

-- the memory with other bytes in the cells
abbrev put : Memory → ℕ → List ℕ → Memory
put m k bytes = record m { cells = with_piece k bytes m.cells }

cells_written : (m : Memory) (x : ℕ) (cs : List ℕ) → FIRST_CELL ≤ x → x + length cs ≤ FIRST_CELL + length m.cells → with_bytes m x cs ≡ put m (x - FIRST_CELL) cs
unfolding with_bytes
cells_written m x cs low high =
    let a : nat_le FIRST_CELL x ≡ true = grind arith in
    let b : nat_le (x + length cs) (FIRST_CELL + length m.cells) ≡ true = grind arith in
    rw (a, b) refl

-- a byte, and others behind it
then_put : (k c : ℕ) (cs bytes : List ℕ) → k < length bytes → with_piece (k + 1) cs (with_piece k (c ∷ []) bytes) ≡ with_piece k (c ∷ cs) bytes
then_put k c cs [] lt = absurd (omega (arith, lt))
then_put zero c cs (b ∷ bytes) lt =
    let z : 0 + 1 + length cs ≡ suc (length cs) = omega arith in
    let w : 0 + suc (length cs) ≡ suc (length cs) = omega arith in
    rw (z, w) refl
then_put (suc k) c cs (b ∷ bytes) lt =
    let y : suc k + 1 ≡ suc (k + 1) = omega arith in
    let z : suc (k + 1) + length cs ≡ suc (k + 1 + length cs) = omega arith in
    let w : suc k + suc (length cs) ≡ suc (k + suc (length cs)) = omega arith in
    rw (y, z, w) (ap (λ xs. b ∷ xs) (then_put k c cs bytes (omega (arith, lt))))

module _ (sizes : Sizes) (l : IsLegal sizes) where
  -- ---- one character

  record IsPut (mm after : abstract.Memory) (m : Memory) (x c : ℕ) : Type 0 where
    low : FIRST_CELL ≤ x
    room : x + 1 ≤ FIRST_CELL + length m.cells
    holds : HoldsMemory sizes after (put m (x - FIRST_CELL) (c ∷ []))
    count : length after.cells ≡ length mm.cells

  put_one : (mm after : abstract.Memory) (m : Memory) (x c : ℕ) → HoldsMemory sizes mm m → x < 2 ^ 63 → c < 256 → is_some (char_at mm (pos x)) ≡ true → set_char_at mm (pos x) c ≡ Some after → IsPut mm after m x c
  put_one mm after m x c h small byte there set =
      let z = to_z-of_z w64 (pos x) (fits_signed x small) in
      by (cell_around mm x) refl (ap is_some (sym (char_is mm x) ∙ ap (λ y. char_at mm y) z) ∙ there) (sym (set_char_is mm x c) ∙ ap (λ y. set_char_at mm y c) z ∙ set)
    where
      by : (o : Option (ℕ × ℕ × Cell)) → cell_around mm x ≡ o → is_some (option_and_then (λ (t : ℕ × ℕ × List ℕ). slice_get t.2 t.1) (option_and_then with_chars o)) ≡ true → option_and_then (λ (t : ℕ × ℕ × Cell). Some (with_cell mm t.0 (Chars (slice_set (chars_or_zeros t.2) t.1 c)))) o ≡ Some after → IsPut mm after m x c
      by None e found left = absurd cc
      by (Some (i, r, Descr d)) e found left = absurd cc
      by (Some (i, r, Chars chars)) e found left =
          let here = around mm x (i, r, Chars chars) e in
          let d = sizes.descr in
          let w = place_of_byte mm d x i r h.limit l.least l.most h.valid.count (omega (arith, small)) here.place in
          let fits = made_fits sizes l mm m h i w.number (Chars chars) here.member in
          let wrote = chars_put sizes mm m m i r chars (low_bytes 1 c) h w.number fits (made_is sizes l mm m h i w.number r (Chars chars) here.member) (low_bytes_below 1 c) (omega (arith, w.place)) in
          let at : i * d + r ≡ x - FIRST_CELL = omega (arith, w.address) in
          let one : low_bytes 1 c ≡ c ∷ [] = (let e : c % 256 ≡ c = omega (arith, byte) in ap (λ b. b ∷ []) e) in
          let same : with_cell mm i (Chars (with_piece r (low_bytes 1 c) chars)) ≡ after = ap (λ cs. with_cell mm i (Chars cs)) (kind_written r c chars (omega (arith, w.place, fits.size, l.most)) byte) ∙ same_Some _ after left in
          record {
            low = omega (arith, w.address);
            room = omega (arith, w.address, w.place, w.inside, h.size);
            holds = subst (λ a. HoldsMemory sizes a (put m (x - FIRST_CELL) (c ∷ []))) same (subst (λ bytes. HoldsMemory sizes (with_cell mm i (Chars (with_piece r (low_bytes 1 c) chars))) (put m (x - FIRST_CELL) bytes)) one (subst (λ k. HoldsMemory sizes (with_cell mm i (Chars (with_piece r (low_bytes 1 c) chars))) (put m k (low_bytes 1 c))) at wrote));
            count = ap (λ a. length a.cells) (sym same) ∙ length-set mm.cells i (Chars (with_piece r (low_bytes 1 c) chars));
          }

  -- ---- characters from an address on

  record ArePut (mm after : abstract.Memory) (m : Memory) (k : ℕ) (cs : List ℕ) : Type 0 where
    holds : HoldsMemory sizes after (put m k cs)
    count : length after.cells ≡ length mm.cells

  abbrev Puts : List ℕ → Type 0
  Puts cs = (mm after : abstract.Memory) (m : Memory) (x : ℕ) → HoldsMemory sizes mm m → x < 2 ^ 63 → list_all (λ c. nat_lt c 256) cs ≡ true → is_some (chars_from mm (pos x) (length cs)) ≡ true → set_chars_from mm (pos x) cs ≡ Some after → ArePut mm after m (x - FIRST_CELL) cs

  put_all : (cs : List ℕ) → Puts cs
  unfolding set_chars_from
  put_all [] mm after m x h small bytes there set =
      let same : mm ≡ after = same_Some mm after set in
      record { holds = subst (λ a. HoldsMemory sizes a (put m (x - FIRST_CELL) [])) same (subst (λ xs. HoldsMemory sizes mm (record m { cells = xs })) (sym (none_put (x - FIRST_CELL) m.cells)) h); count = ap (λ a. length a.cells) (sym same) }
  put_all (c ∷ cs) mm after m x h small bytes there set = by (put_all cs) (set_char_at mm (pos x) c) refl set
    where
      by : Puts cs → (o : Option abstract.Memory) → set_char_at mm (pos x) c ≡ o → option_and_then (λ first. set_chars_from first (pos x ⊞ pos 1) cs) o ≡ Some after → ArePut mm after m (x - FIRST_CELL) (c ∷ cs)
      by again None e left = absurd cc
      by again (Some first) e left =
          let two = both_true (nat_lt c 256) (list_all (λ x. nat_lt x 256) cs) bytes in
          let byte : c < 256 = (let b = two.0 in grind arith) in
          let found = chars_first mm (pos x) (length cs) there in
          let one = put_one mm first m x c h small byte found.first e in
          let low : x < 2 ^ 62 = omega (arith, one.room, few_bytes sizes mm m h l.most) in
          let next = next_address x low in
          let k = x - FIRST_CELL in
          let inside : k < length m.cells = omega (arith, one.low, one.room) in
          let at : x + 1 - FIRST_CELL ≡ k + 1 = omega (arith, one.low) in
          let rest = again first after (put m k (c ∷ [])) (x + 1) one.holds (omega (arith, low)) two.1 (ap (λ z. is_some (chars_from first z (length cs))) (sym next) ∙ chars_kept mm first (pos x) (pos x ⊞ pos 1) c (length cs) e found.rest) (ap (λ z. set_chars_from first z cs) (sym next) ∙ left) in
          record {
            holds = subst (λ xs. HoldsMemory sizes after (record m { cells = xs })) (ap (λ j. with_piece j cs (with_piece k (c ∷ []) m.cells)) at ∙ then_put k c cs m.cells inside) rest.holds;
            count = rest.count ∙ one.count;
          }

  -- what a read leaves in the emulator's memory
  pub record IsRead (mm after : abstract.Memory) (m new : Memory) : Type 0 where
    pub holds : HoldsMemory sizes after new
    pub count : length after.cells ≡ length mm.cells
    pub scratch : new.scratch ≡ m.scratch
    pub tables : new.tables ≡ m.tables

  pub reads_stand : (mm after : abstract.Memory) (m : Memory) (z : ℤ) (cs : List ℕ) → HoldsMemory sizes mm m → FitsSigned w64 z → list_all (λ c. nat_lt c 256) cs ≡ true → is_some (chars_from mm z (length cs)) ≡ true → set_chars_from mm z cs ≡ Some after → IsRead mm after m (with_bytes m (cast_unsigned w64 z) cs)
  unfolding set_chars_from
  reads_stand mm after m z [] h fits bytes there set =
      let same : mm ≡ after = same_Some mm after set in
      subst (λ new. IsRead mm after m new) (sym (none_written m (cast_unsigned w64 z))) (record { holds = subst (λ a. HoldsMemory sizes a m) same h; count = ap (λ a. length a.cells) (sym same); scratch = refl; tables = refl })
  reads_stand mm after m (pos x) (c ∷ cs) h fits bytes there set =
      let small : x < 2 ^ 63 = omega (arith, fits.sfits) in
      let w = chars_within sizes l mm m h (suc (length cs)) x small there in
      elim w [
        | inl gone ↦ absurd (omega (arith, gone))
        | inr within ↦
            let all = put_all (c ∷ cs) mm after m x h small bytes there set in
            subst (λ new. IsRead mm after m new) (sym (cells_written m x (c ∷ cs) within.0 (omega (arith, within.1, h.size)))) (record { holds = all.holds; count = all.count; scratch = refl; tables = refl })
      ]
  reads_stand mm after m (negsuc k) (c ∷ cs) h fits bytes there set = absurd (none_of sizes l mm m h (length cs) k there)
