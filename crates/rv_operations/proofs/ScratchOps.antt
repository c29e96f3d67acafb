-- Scratch words are read and written.
use Rattle.std.proofs.Common.{◌≡◌, ◌≢◌, ◌⊎◌, inl, inr, ℕ, suc, ◌+◌, ◌-◌, ◌*◌, ◌%◌, ◌^◌, ◌<◌, ◌≤◌, List, [], ◌∷◌, length, Option, Some, None, Bool, true, false, cond, refl, sym, ap, subst, ◌∙◌, arith}
use Rattle.std.specs.Prelude.{ℤ, pos, negsuc, nat_lt, nat_eq, option_and_then, FitsSigned}
use Rattle.std.specs.Int.{w64, cast_unsigned}
use Rattle.std.proofs.lemmas.Bool.{cases_eq, cases_lt}
use Rattle.sil_base.specs.Bytes.{number, low_bytes, piece}
use Rattle.sil_base.specs.declared.places.TheConstants.{FIRST_SCRATCH}
use Rattle.sil_base.proofs.Numbers.{length-low_bytes, length-with_piece, low_bytes_below, AreBytes-with_piece}
use Rattle.layout_params.specs.Sizes.{Sizes}
use Rattle.layout_params.proofs.LegalLayouts.{legal}
use Rattle.layout_params.proofs.PackingLemmas.{number_here, number_there}
use Rattle.sil_model.specs.Memory as abstract
use Rattle.sil_micro.specs.MicroStates.{Setting, Micro, held}
use Rattle.sil_micro.specs.Operations.{load, store_scratch, scratch_word, set_scratch, with_word, scratch_words}
use Rattle.rv_emulate.specs.EmulatorMemory.{Memory, loaded, stored}
use Rattle.rv_emulate.specs.EmulatorStates.{State, register}
use Rattle.rv_emulate.specs.InstrValues.{sum64}
use Rattle.rv_straight.specs.InstrEffects.{Value, Leaves}
use Rattle.rv_straight.specs.Registers.{IsFile, Keeps, Writes, read}
use Rattle.rv_straight.specs.Straight.{◌▸◌}
use Rattle.rv_straight.proofs.Registers.{read_kept}
use Rattle.rv_straight.proofs.Reaching.{start, straight}
use Rattle.rv_straight.proofs.Leaps.{code_from}
use Rattle.rv_routines.specs.Holds.{HoldsMemory}
use Rattle.rv_routines.specs.Routines.{IsRoutine, kept}
use Rattle.rv_routines.specs.Tests.{below_test, scratch_written}
use Rattle.rv_routines.proofs.Cells.{few_bytes}
use Rattle.rv_routines.proofs.Checking.{lt_of}
use Rattle.rv_routines.proofs.Regions.{load_scratch, store_scratch as scratch_stored}
use Rattle.rv_operations.specs.Homes.{home, is_temporary}
use Rattle.rv_operations.specs.StandsFor.{StandsFor, HoldsWords}
use Rattle.rv_operations.specs.Does.{Does}
use Rattle.rv_operations.specs.WordLaws.{LawOfLoadScratch, LawOfStoreScratch}
use Rattle.rv_operations.proofs.Standing.{home_kept}
use Rattle.rv_operations.proofs.Doing.{unsigned_small, framed, moves_from}
use Rattle.rv_operations.proofs.Setting.{sets, leaves_as}

-- ---- the scratch region after a word of it was written

apart : (i j : ℕ) → j ≢ i → (8 * j + 8 ≤ 8 * i) ⊎ (8 * i + 8 ≤ 8 * j)
apart i j ne = elim (cases_lt j i) [ inl lt ↦ inl (omega arith) | inr le ↦ inr (omega (arith, ne)) ]

module _ (m : Memory) (i v : ℕ) (room : 8 * i + 8 ≤ length m.scratch) (small : v < 2 ^ 64) where
  abbrev after : Memory
  after = scratch_written m i v

  size : length after.scratch ≡ length m.scratch
  size = length-with_piece (8 * i) (low_bytes 8 v) m.scratch (omega (arith, room, length-low_bytes 8 v))

  pub holds_after : (sizes : Sizes) (mm : abstract.Memory) → HoldsMemory sizes mm m → HoldsMemory sizes mm after
  holds_after sizes mm h = record {
    limit = h.limit;
    flags = h.flags;
    values = h.values;
    valid = h.valid;
    size = h.size;
    kinds_size = h.kinds_size;
    tables_size = h.tables_size;
    scratch_size = size ∙ h.scratch_size;
    packed = h.packed;
    kinds = h.kinds;
    bytes = record { cells = h.bytes.cells; kinds = h.bytes.kinds; tables = h.bytes.tables; scratch = AreBytes-with_piece (8 * i) (low_bytes 8 v) m.scratch (low_bytes_below 8 v) h.bytes.scratch };
  }

  pub word_here : number (piece (8 * i) 8 after.scratch) ≡ v
  word_here = number_here (8 * i) 8 v m.scratch room small

  pub word_there : (j : ℕ) → j ≢ i → number (piece (8 * j) 8 after.scratch) ≡ number (piece (8 * j) 8 m.scratch)
  word_there j ne = number_there (8 * j) 8 (8 * i) 8 v m.scratch room (apart i j ne)

-- the words after one of them was set
pub set_words : (u : Micro) (m : Memory) (i : ℕ) (z : ℤ) → HoldsWords u m → i < scratch_words → 8 * (i + 2) + 8 ≤ length m.scratch → FitsSigned w64 z → HoldsWords (record u { scratch = with_word u.scratch i z }) (scratch_written m (i + 2) (cast_unsigned w64 z))
unfolding with_word
set_words u m i z w lt room fits = record {
  current = word_there m (i + 2) v room small 0 (omega arith) ∙ w.current;
  previous = word_there m (i + 2) v room small 1 (omega arith) ∙ w.previous;
  words = λ j h. words j h (cases_eq j i);
  current_fits = w.current_fits;
  previous_fits = w.previous_fits;
  words_fit = λ j h. fit j h (cases_eq j i);
}
  where
    v : ℕ
    v = cast_unsigned w64 z

    small : v < 2 ^ 64
    small = unsigned_small z fits

    words : (j : ℕ) → j < scratch_words → (j ≡ i) ⊎ (j ≢ i) → number (piece (8 * (j + 2)) 8 (scratch_written m (i + 2) v).scratch) ≡ cast_unsigned w64 (cond (nat_eq j i) z (u.scratch j))
    words j h (inl e) =
        let yes : nat_eq j i ≡ true = grind arith in
        ap (λ k. number (piece (8 * (k + 2)) 8 (scratch_written m (i + 2) v).scratch)) e ∙ word_here m (i + 2) v room small ∙ sym (ap (λ b. cast_unsigned w64 (cond b z (u.scratch j))) yes)
    words j h (inr ne) =
        let no : nat_eq j i ≡ false = grind arith in
        word_there m (i + 2) v room small (j + 2) (omega (arith, ne)) ∙ w.words j h ∙ sym (ap (λ b. cast_unsigned w64 (cond b z (u.scratch j))) no)

    fit : (j : ℕ) → j < scratch_words → (j ≡ i) ⊎ (j ≢ i) → FitsSigned w64 (cond (nat_eq j i) z (u.scratch j))
    fit j h (inl e) = let yes : nat_eq j i ≡ true = grind arith in subst (λ b. FitsSigned w64 (cond b z (u.scratch j))) (sym yes) fits
    fit j h (inr ne) = let no : nat_eq j i ≡ false = grind arith in subst (λ b. FitsSigned w64 (cond b z (u.scratch j))) (sym no) (w.words_fit j h)

-- ---- the operations, by the test of a number

abbrev word_at : Micro → ℕ → Option ℤ
word_at u x = option_and_then (λ i. Some (u.scratch i)) (cond (nat_lt x scratch_words) (Some x) None)

far_off : (n : ℕ) → FitsSigned w64 (negsuc n) → nat_lt (2 ^ 64 - suc n) scratch_words ≡ false
far_off n fits = let small = fits.sfits in grind arith

word_is : (u : Micro) (z : ℤ) → FitsSigned w64 z → scratch_word u.scratch z ≡ option_and_then (λ i. Some (u.scratch i)) (cond (nat_lt (cast_unsigned w64 z) scratch_words) (Some (cast_unsigned w64 z)) None)
word_is u (pos n) fits = by (nat_lt n scratch_words)
  where
    by : (b : Bool) → cond b (Some (u.scratch n)) None ≡ option_and_then (λ i. Some (u.scratch i)) (cond b (Some n) None)
    by true = refl
    by false = refl
word_is u (negsuc n) fits = sym (ap (λ b. option_and_then (λ i. Some (u.scratch i)) (cond b (Some (2 ^ 64 - suc n)) None)) (far_off n fits))

set_is : (u : Micro) (z w : ℤ) → FitsSigned w64 z → set_scratch u.scratch z w ≡ option_and_then (λ i. Some (with_word u.scratch i w)) (cond (nat_lt (cast_unsigned w64 z) scratch_words) (Some (cast_unsigned w64 z)) None)
set_is u (pos n) w fits = by (nat_lt n scratch_words)
  where
    by : (b : Bool) → cond b (Some (with_word u.scratch n w)) None ≡ option_and_then (λ i. Some (with_word u.scratch i w)) (cond b (Some n) None)
    by true = refl
    by false = refl
set_is u (negsuc n) w fits = sym (ap (λ b. option_and_then (λ i. Some (with_word u.scratch i w)) (cond b (Some (2 ^ 64 - suc n)) None)) (far_off n fits))

some_number : (b : Bool) (x i : ℕ) → cond b (Some x) None ≡ Some i → (b ≡ true) × (x ≡ i)
some_number true x i e = (refl, cc)
some_number false x i e = absurd cc

-- the address of a word
shifted : (x : ℕ) → x < scratch_words → x * 2 ^ 3 % 2 ^ 64 ≡ 8 * x
shifted x h = omega arith

address_is : (x : ℕ) → x < scratch_words → sum64 (8 * x) FIRST_SCRATCH ≡ FIRST_SCRATCH + 8 * x
address_is x h = omega arith

behind_stack : (x : ℕ) → x < scratch_words → sum64 (FIRST_SCRATCH + 8 * x) 16 ≡ FIRST_SCRATCH + 8 * (x + 2)
behind_stack x h = omega arith

pub loads_scratch : LawOfLoadScratch
loads_scratch image last g places to at u s to_ok at_ok texts routines b =
    let st = b.stands in
    let sizes = g.settings.sizes in
    let m = u.state.memory in
    let l = legal sizes b.settings.layout in
    let z = held u.registers at in
    let fit = st.fit at at_ok in
    let x : ℕ = cast_unsigned w64 z in
    let found = cond (nat_lt x scratch_words) (Some x) None in
    let word = λ (i : ℕ). Some (u.scratch i) in
    let same : option_and_then word found ≡ scratch_word u.scratch z = sym (word_is u z fit) in
    let r = subst (λ n. IsRoutine image last sizes n places.routines.below_scratch 6 4 (below_test scratch_words) kept) (sym st.count) routines.below_scratch in
    let p = straight (start b.code st.file) 1 (Value x ∷ []) (omega arith) (omega arith) (moves_from st at [] at_ok refl ▸ tt) in
    subst (λ o. Does image last g places false 11 (s.pc + 28) s (load o to u)) same (framed b p r refl (omega arith) places 4 11 (s.pc + 28) (λ o. load (option_and_then word o) to u) found refl refl refl (omega arith) (omega arith) (λ xs reads. ap (λ y. cond (nat_lt y scratch_words) (Some y) None) (reads 10 (omega arith))) (λ i ys is back.
    let both = some_number (nat_lt x scratch_words) x i is in
    let lt = lt_of x scratch_words both.0 in
    let x10 = back.reads 10 refl (omega arith) in
    let w = u.scratch x in
    let v : ℕ = cast_unsigned w64 w in
    let fits = st.words.words_fit x lt in
    let place : ℕ = FIRST_SCRATCH + 8 * x in
    let moved : register ys 10 * 2 ^ 3 % 2 ^ 64 ≡ 8 * x = ap (λ a. a * 2 ^ 3 % 2 ^ 64) x10 ∙ shifted x lt in
    let load_is : loaded image.constants s.memory 8 (sum64 place 16) ≡ Some v =
    ap (λ a. loaded image.constants s.memory 8 a) (behind_stack x lt)
    ∙ load_scratch image.constants s.memory (x + 2) (few_bytes sizes m s.memory st.memory l.most) (omega (arith, st.memory.kinds_size, st.memory.valid.count)) st.memory.tables_size texts (omega (arith, st.memory.scratch_size, lt))
    ∙ ap Some (st.words.words x lt) in
    let v3 = record s { pc = s.pc + 12; registers = ys } in
    let done = sets places st back.kept (start (code_from b.code 3 v3 (omega arith) refl) back.file) 4 (Value (8 * x) ∷ Value FIRST_SCRATCH ∷ Value place ∷ Value v ∷ []) to w ((28, place) ∷ (29, FIRST_SCRATCH) ∷ (28, 8 * x) ∷ []) (s.pc + 28) to_ok fits (omega arith) (omega arith) (moved ▸ refl ▸ address_is x lt ▸ (load_is, unsigned_small w fits) ▸ tt) refl refl refl (omega arith) in
    subst (λ o. Does image last g places false 4 (s.pc + 28) v3 (load o to u)) (ap word both.1) done))

-- ---- a word is written

stands_scratch : (g : Setting) (u : Micro) (s : State) (i : ℕ) (z : ℤ) (pc : ℕ) (ys : List ℕ) → StandsFor g u s → i < scratch_words → FitsSigned w64 z → IsFile ys → Keeps is_temporary s.registers ys → StandsFor g (record u { scratch = with_word u.scratch i z }) (record s { pc = pc; registers = ys; memory = scratch_written s.memory (i + 2) (cast_unsigned w64 z) })
stands_scratch g u s i z pc ys st lt fits file kept =
    let room : 8 * (i + 2) + 8 ≤ length s.memory.scratch = omega (arith, st.memory.scratch_size) in
    record {
      file = file;
      registers = λ r h. kept (home r) (home_kept r h) ∙ st.registers r h;
      fit = st.fit;
      bound = kept 25 refl ∙ st.bound;
      statement = kept 26 refl ∙ st.statement;
      left = ap (λ n. n + u.state.steps) (kept 27 refl) ∙ st.left;
      memory = holds_after s.memory (i + 2) (cast_unsigned w64 z) room (unsigned_small z fits) g.settings.sizes u.state.memory st.memory;
      count = st.count;
      words = set_words u s.memory i z st.words lt room fits;
      tables = record { bytes = st.tables.bytes; count = st.tables.count; whole = st.tables.whole };
      tapes = st.tapes;
      failed = st.failed;
    }

pub stores_scratch : LawOfStoreScratch
stores_scratch image last g places at from u s at_ok from_ok routines b =
    let st = b.stands in
    let sizes = g.settings.sizes in
    let m = u.state.memory in
    let l = legal sizes b.settings.layout in
    let z = held u.registers at in
    let w = held u.registers from in
    let fit = st.fit at at_ok in
    let fits = st.fit from from_ok in
    let x : ℕ = cast_unsigned w64 z in
    let y : ℕ = cast_unsigned w64 w in
    let found = cond (nat_lt x scratch_words) (Some x) None in
    let put = λ (i : ℕ). Some (with_word u.scratch i w) in
    let same : option_and_then put found ≡ set_scratch u.scratch z w = sym (set_is u z w fit) in
    let r = subst (λ n. IsRoutine image last sizes n places.routines.below_scratch 6 4 (below_test scratch_words) kept) (sym st.count) routines.below_scratch in
    let p = straight (start b.code st.file) 1 (Value x ∷ []) (omega arith) (omega arith) (moves_from st at [] at_ok refl ▸ tt) in
    subst (λ o. Does image last g places false 11 (s.pc + 28) s (store_scratch o u)) same (framed b p r refl (omega arith) places 4 11 (s.pc + 28) (λ o. store_scratch (option_and_then put o) u) found refl refl refl (omega arith) (omega arith) (λ xs reads. ap (λ y. cond (nat_lt y scratch_words) (Some y) None) (reads 10 (omega arith))) (λ i ys is back.
    let both = some_number (nat_lt x scratch_words) x i is in
    let lt = lt_of x scratch_words both.0 in
    let x10 = back.reads 10 refl (omega arith) in
    let place : ℕ = FIRST_SCRATCH + 8 * x in
    let moved : register ys 10 * 2 ^ 3 % 2 ^ 64 ≡ 8 * x = ap (λ a. a * 2 ^ 3 % 2 ^ 64) x10 ∙ shifted x lt in
    let after = scratch_written s.memory (x + 2) y in
    let from_is = back.kept (home from) (home_kept from from_ok) ∙ st.registers from from_ok in
    let ws : Writes = (28, place) ∷ (29, FIRST_SCRATCH) ∷ (28, 8 * x) ∷ [] in
    let read_is : read ys ws (home from) ≡ y = read_kept is_temporary ys ws (home from) refl (home_kept from from_ok) ∙ from_is in
    let store_is : stored s.memory 8 (sum64 place 16) (read ys ws (home from)) ≡ Some after =
    ap (λ a. stored s.memory 8 a (read ys ws (home from))) (behind_stack x lt)
    ∙ ap (λ v. stored s.memory 8 (FIRST_SCRATCH + 8 * (x + 2)) v) read_is
    ∙ scratch_stored s.memory (x + 2) y (few_bytes sizes m s.memory st.memory l.most) (omega (arith, st.memory.kinds_size, st.memory.valid.count)) st.memory.tables_size (omega (arith, st.memory.scratch_size, lt)) in
    let v3 = record s { pc = s.pc + 12; registers = ys } in
    let done = leaves_as places st back.kept (start (code_from b.code 3 v3 (omega arith) refl) back.file) 4 (Value (8 * x) ∷ Value FIRST_SCRATCH ∷ Value place ∷ Leaves after ∷ []) (record u { scratch = with_word u.scratch x w }) (s.pc + 28) (omega arith) (omega arith) (moved ▸ refl ▸ address_is x lt ▸ store_is ▸ tt) refl (λ zs file kept. stands_scratch g u s x w (s.pc + 28) zs st lt fits file kept) (omega arith) in
    subst (λ o. Does image last g places false 4 (s.pc + 28) v3 (store_scratch o u)) (ap put both.1) done))
