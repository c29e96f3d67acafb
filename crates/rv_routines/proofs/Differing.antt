-- Memories that differ in one cell alone.
use Rattle.std.proofs.Common.{◌≡◌, ◌≢◌, ◌⊎◌, inl, inr, ℕ, ◌+◌, ◌*◌, ◌<◌, ◌≤◌, List, length, Some, refl, sym, ap, subst, ◌∙◌, arith}
use Rattle.std.proofs.lemmas.Bool.{cases_eq, cases_lt}
use Rattle.std.proofs.lemmas.Nat.{mul-le}
use Rattle.std.proofs.lemmas.List.{length-set}
use Rattle.std.proofs.lemmas.List.Elements.{All-set}
use Rattle.std.proofs.lemmas.Option.{slice_get_within}
use Rattle.std.specs.Prelude.{slice_get, slice_set}
use Rattle.sil_base.specs.Bytes.{low_bytes, piece, with_piece, AreBytes}
use Rattle.sil_base.proofs.Numbers.{length-with_piece, low_bytes_below, piece-with_piece_apart, AreBytes-with_piece}
use Rattle.layout_params.specs.declared.cell.Cell.{Cell}
use Rattle.layout_params.specs.Packing.{IsPacked}
use Rattle.layout_params.specs.Sizes.{Sizes}
use Rattle.sil_model.specs.Memory as abstract
use Rattle.sil_model.specs.Memory.{FitsCell}
use Rattle.sil_model.specs.CellWords.{kind_of}
use Rattle.sil_model.specs.Access.{with_cell}
use Rattle.rv_emulate.specs.EmulatorMemory.{Memory}
use Rattle.rv_routines.specs.Holds.{HoldsMemory, DifferInCell}
use Rattle.rv_routines.proofs.Pieces.{piece_written, set_here, set_there, kind_written, kind_there}

-- a multiple of d is apart from the bytes of the i-th cell
pub apart_from : (d i j k n size : ℕ) → j ≢ i → k + n ≤ d → i * d + d ≤ size → (j * d + d ≤ i * d + k) ⊎ (i * d + k + n ≤ j * d)
apart_from d i j k n size ne part room = elim (cases_lt j i) [
  | inl lt ↦ inl (let all : (j + 1) * d ≤ i * d = mul-le (j + 1) d i d (omega arith) (omega arith) in omega arith)
  | inr le ↦ inr (let all : (i + 1) * d ≤ j * d = mul-le (i + 1) d j d (omega (arith, ne)) (omega arith) in omega (arith, part))
]

-- bytes of the i-th cell were written
pub differ_bytes : (d i k : ℕ) (new : List ℕ) (m : Memory) → k + length new ≤ d → i * d + d ≤ length m.cells → AreBytes new → DifferInCell d i m (record m { cells = with_piece (i * d + k) new m.cells })
differ_bytes d i k new m part room small = record {
  size = length-with_piece (i * d + k) new m.cells (omega (arith, room, part));
  kinds_size = refl;
  there = λ j ne h. piece-with_piece_apart (j * d) d (i * d + k) new m.cells (omega (arith, room, part)) (apart_from d i j k (length new) (length m.cells) ne part room);
  other = λ j ne. refl;
  tables = refl;
  scratch = refl;
  bytes = λ h. record { cells = AreBytes-with_piece (i * d + k) new m.cells small h.cells; kinds = h.kinds; tables = h.tables; scratch = h.scratch };
}

-- its kind was
pub differ_kind : (d i v : ℕ) (m : Memory) → i < length m.kinds → v < 256 → DifferInCell d i m (record m { kinds = with_piece i (low_bytes 1 v) m.kinds })
differ_kind d i v m h lt =
    let same = kind_written i v m.kinds h lt in
    record {
      size = refl;
      kinds_size = ap length same ∙ length-set m.kinds i v;
      there = λ j ne g. refl;
      other = λ j ne. ap (λ ks. slice_get ks j) same ∙ kind_there i j v m.kinds ne;
      tables = refl;
      scratch = refl;
      bytes = λ g. record { cells = g.cells; kinds = AreBytes-with_piece i (low_bytes 1 v) m.kinds (low_bytes_below 1 v) g.kinds; tables = g.tables; scratch = g.scratch };
    }

-- one write after another
pub differ_then : (d i : ℕ) (a b c : Memory) → DifferInCell d i a b → DifferInCell d i b c → DifferInCell d i a c
differ_then d i a b c f g = record {
  size = g.size ∙ f.size;
  kinds_size = g.kinds_size ∙ f.kinds_size;
  there = λ j ne h. g.there j ne (omega (arith, h, f.size)) ∙ f.there j ne h;
  other = λ j ne. g.other j ne ∙ f.other j ne;
  tables = g.tables ∙ f.tables;
  scratch = g.scratch ∙ f.scratch;
  bytes = λ h. g.bytes (f.bytes h);
}

-- the i-th cell is another one, and all others are as they were
pub holds_other : (sizes : Sizes) (mm : abstract.Memory) (m after : Memory) (i : ℕ) (cell : Cell) → HoldsMemory sizes mm m → i < length mm.cells → FitsCell mm.limits cell → DifferInCell sizes.descr i m after → IsPacked sizes cell (piece (i * sizes.descr) sizes.descr after.cells) → slice_get after.kinds i ≡ Some (kind_of cell) → HoldsMemory sizes (with_cell mm i cell) after
holds_other sizes mm m after i cell h within fits differ packed kind = record {
  limit = h.limit;
  flags = h.flags;
  values = h.values;
  valid = record { limits = h.valid.limits; count = omega (arith, h.valid.count, length-set mm.cells i cell); fit = All-set (FitsCell mm.limits) mm.cells i cell fits h.valid.fit };
  size = differ.size ∙ h.size ∙ ap (λ n. n * sizes.descr) (sym (length-set mm.cells i cell));
  kinds_size = differ.kinds_size ∙ h.kinds_size ∙ sym (length-set mm.cells i cell);
  tables_size = omega (arith, ap length differ.tables, h.tables_size);
  scratch_size = ap length differ.scratch ∙ h.scratch_size;
  packed = λ j c e. packed_at j c e (cases_eq j i);
  kinds = λ j c e. kind_at j c e (cases_eq j i);
  bytes = differ.bytes h.bytes;
}
  where
    now : (j : ℕ) (c : Cell) → slice_get (slice_set mm.cells i cell) j ≡ Some c → j ≡ i → cell ≡ c
    now j c e same = let g : slice_get (slice_set mm.cells i cell) j ≡ Some cell = subst (λ q. slice_get (slice_set mm.cells i cell) q ≡ Some cell) (sym same) (set_here mm.cells i cell within) in cc

    room : (j : ℕ) → j < length mm.cells → j * sizes.descr + sizes.descr ≤ length m.cells
    room j lt = let all : (j + 1) * sizes.descr ≤ length mm.cells * sizes.descr = mul-le (j + 1) sizes.descr (length mm.cells) sizes.descr (omega arith) (omega arith) in omega (arith, h.size)

    packed_at : (j : ℕ) (c : Cell) → slice_get (slice_set mm.cells i cell) j ≡ Some c → (j ≡ i) ⊎ (j ≢ i) → IsPacked sizes c (piece (j * sizes.descr) sizes.descr after.cells)
    packed_at j c e (inl same) = subst (λ x. IsPacked sizes x (piece (j * sizes.descr) sizes.descr after.cells)) (now j c e same) (subst (λ q. IsPacked sizes cell (piece (q * sizes.descr) sizes.descr after.cells)) (sym same) packed)
    packed_at j c e (inr ne) =
        let old = sym (set_there mm.cells i j cell ne) ∙ e in
        subst (IsPacked sizes c) (sym (differ.there j ne (room j (slice_get_within mm.cells j c old)))) (h.packed j c old)

    kind_at : (j : ℕ) (c : Cell) → slice_get (slice_set mm.cells i cell) j ≡ Some c → (j ≡ i) ⊎ (j ≢ i) → slice_get after.kinds j ≡ Some (kind_of c)
    kind_at j c e (inl same) = subst (λ x. slice_get after.kinds j ≡ Some (kind_of x)) (now j c e same) (subst (λ q. slice_get after.kinds q ≡ Some (kind_of cell)) (sym same) kind)
    kind_at j c e (inr ne) = differ.other j ne ∙ h.kinds j c (sym (set_there mm.cells i j cell ne) ∙ e)

-- the bytes of the i-th cell after a write in it
pub piece_here : (d i k : ℕ) (new bytes : List ℕ) → k + length new ≤ d → i * d + d ≤ length bytes → piece (i * d) d (with_piece (i * d + k) new bytes) ≡ with_piece k new (piece (i * d) d bytes)
piece_here d i k new bytes part room = piece_written (i * d) k d new bytes part room

-- a cell lies within the bytes of all
pub cell_room : (sizes : Sizes) (mm : abstract.Memory) (m : Memory) (i : ℕ) → HoldsMemory sizes mm m → i < length mm.cells → i * sizes.descr + sizes.descr ≤ length m.cells
cell_room sizes mm m i holds within = let all : (i + 1) * sizes.descr ≤ length mm.cells * sizes.descr = mul-le (i + 1) sizes.descr (length mm.cells) sizes.descr (omega arith) (omega arith) in omega (arith, holds.size)

pub differ_same : (d i : ℕ) (m : Memory) → DifferInCell d i m m
differ_same d i m = record { size = refl; kinds_size = refl; there = λ j ne h. refl; other = λ j ne. refl; tables = refl; scratch = refl; bytes = λ h. h }
