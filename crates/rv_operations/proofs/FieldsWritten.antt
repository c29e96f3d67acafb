-- StoreField does what the operation does.
use Rattle.std.proofs.Common.{◌≡◌, ◌≢◌, ℕ, ◌+◌, ◌/◌, ◌^◌, ◌<◌, List, [], ◌∷◌, ◌++◌, Option, Some, None, Bool, true, false, cond, refl, sym, ap, subst, ◌∙◌, arith}
use Rattle.std.specs.Prelude.{ℤ, pos, nat_lt, option_and_then, IsTrue, FitsSigned, slice_set}
use Rattle.std.specs.Int.{w64, cast_unsigned}
use Rattle.std.proofs.lemmas.Int.{to_z-of_z}
use Rattle.std.proofs.lemmas.List.{length-set}
use Rattle.layout_params.specs.declared.cell.Descr.{Descr as Descriptor}
use Rattle.layout_params.specs.declared.cell.Cell.TheVariants.{Descr}
use Rattle.layout_params.specs.declared.cell.Field.{Field}
use Rattle.layout_params.specs.declared.cell.Field.TheVariants.{A, F, V}
use Rattle.layout_params.specs.Areas.{all_cells}
use Rattle.layout_params.specs.Sizes.{is_legal}
use Rattle.layout_params.specs.Packing.{place_of, width_of}
use Rattle.layout_params.proofs.LegalLayouts.{legal}
use Rattle.sil_model.specs.Memory as abstract
use Rattle.sil_model.specs.Access.{descr_at, cell_number, with_cell, with_cells, put_cell, set_descr_at}
use Rattle.sil_model.specs.Integers.{within}
use Rattle.sil_micro.specs.MicroStates.{Setting, Micro, held}
use Rattle.sil_micro.specs.Operations.{store, On}
use Rattle.rv_isa.specs.declared.instr.Instr.TheVariants.{S}
use Rattle.image_file.specs.Image.{Image}
use Rattle.rv_emulate.specs.EmulatorMemory.{stored}
use Rattle.rv_emulate.specs.EmulatorStates.{State, register}
use Rattle.rv_emulate.specs.InstrValues.{sum64, s_width}
use Rattle.rv_straight.specs.InstrEffects.{Value, Leaves}
use Rattle.rv_straight.specs.Registers.{IsFile, Keeps, read}
use Rattle.rv_straight.specs.Straight.{◌▸◌}
use Rattle.rv_straight.specs.Code.{IsNext}
use Rattle.rv_straight.proofs.Reaching.{start, straight}
use Rattle.rv_straight.proofs.Leaps.{code_from}
use Rattle.rv_routines.specs.FieldCodes.{bits_of, store_op}
use Rattle.rv_routines.specs.Routines.{IsRoutine, kept}
use Rattle.rv_routines.specs.Tests.{check_test, fit_test}
use Rattle.rv_routines.proofs.Cells.{IsPlace, offset}
use Rattle.rv_routines.proofs.Checking.{lt_of}
use Rattle.rv_routines.proofs.FieldStores.{set_field, flag_within, value_within, new_memory, stores, holds_new}
use Rattle.rv_operations.specs.Homes.{home, is_temporary}
use Rattle.rv_operations.specs.CodePlaces.{Places}
use Rattle.rv_operations.specs.StandsFor.{StandsFor}
use Rattle.rv_operations.specs.OpCodes.{call_with_code}
use Rattle.rv_operations.specs.Does.{Does, Begins}
use Rattle.rv_operations.specs.Laws.{LawOfStoreField}
use Rattle.rv_operations.proofs.Standing.{home_kept, with_memory}
use Rattle.rv_operations.proofs.Doing.{unsigned_small, framed, moves_from}
use Rattle.rv_operations.proofs.Setting.{leaves}
use Rattle.rv_operations.proofs.FieldsRead.{test_is, place_is}

-- a descriptor is put where a cell was found
pub put_here : (m : abstract.Memory) (at : ℤ) (d : Descriptor) (i : ℕ) → cell_number m at ≡ Some i → set_descr_at m at d ≡ Some (with_cell m i (Descr d))
unfolding put_cell
put_here m at d i e = ap (λ o. with_cells m (option_and_then (λ j. Some (slice_set m.cells j (Descr d))) o)) e

pub number_is : (m : abstract.Memory) (z : ℤ) (d : Descriptor) (size i : ℕ) → FitsSigned w64 z → IsPlace m size (cast_unsigned w64 z) d i → cell_number m z ≡ Some i
number_is m z d size i fits at = ap (λ a. cell_number m a) (sym (to_z-of_z w64 z fits)) ∙ at.number

-- the store of a number that fits, from a state behind the test
module _ (image : Image) (last : ℕ) (g : Setting) (places : Places) (f : Field) (u : Micro) (s : State) (b : StandsFor g u s) (legal_sizes : IsTrue (is_legal g.settings.sizes)) (zt zf : ℤ) (d : Descriptor) (fit_t : FitsSigned w64 zt) (fit_f : FitsSigned w64 zf) (few : cast_unsigned w64 zf < 2 ^ bits_of g.settings.sizes f) (is : descr_at u.state.memory zt ≡ Some d) where
  abbrev memory : abstract.Memory
  memory = u.state.memory

  abbrev x : ℕ
  x = cast_unsigned w64 zt

  abbrev y : ℕ
  y = cast_unsigned w64 zf

  abbrev i : ℕ
  i = offset x / g.settings.sizes.descr

  abbrev pub left : abstract.Memory
  left = with_cell memory i (Descr (set_field f zf d))

  place : IsPlace memory g.settings.sizes.descr x d i
  place = place_is g u (legal g.settings.sizes legal_sizes) zt d fit_t b.memory.limit b.memory.valid.count is

  pub told : set_descr_at memory zt (set_field f zf d) ≡ Some left
  told = put_here memory zt (set_field f zf d) i (number_is memory zt d g.settings.sizes.descr i fit_t place)

  -- by the store of the field
  pub writes : (pc rs : ℕ) (ys : List ℕ) (c : IsNext image last (record s { pc = pc; registers = ys }) (S (store_op (width_of g.settings.sizes f)) 10 rs (pos (place_of g.settings.sizes f)) ∷ [])) (next : ℕ) → IsFile ys → Keeps is_temporary s.registers ys → register ys 10 ≡ x → register ys rs ≡ y → pc + 4 ≡ next → Does image last g places false 1 next (record s { pc = pc; registers = ys }) (On (with_memory u left))
  writes pc rs ys c next file kept e10 ers end =
      let sizes = g.settings.sizes in
      let after = new_memory sizes legal_sizes f zf fit_f few memory s.memory b.memory x i d place in
      let holds = holds_new sizes legal_sizes f zf fit_f few memory s.memory b.memory x i d place in
      let n = s_width (store_op (width_of sizes f)) in
      let effect : stored s.memory n (sum64 (register ys 10) (place_of sizes f)) (register ys rs) ≡ Some after =
      ap (λ a. stored s.memory n (sum64 a (place_of sizes f)) (register ys rs)) e10 ∙ ap (λ v. stored s.memory n (sum64 x (place_of sizes f)) v) ers ∙ stores sizes legal_sizes f zf fit_f few memory s.memory b.memory x i d place in
      leaves places b kept (start c file) 1 (Leaves after ∷ []) left next (omega arith) (omega arith) (effect ▸ tt) refl holds (length-set memory.cells i (Descr (set_field f zf d))) refl refl end

-- ---- F and V, by the test of a number

-- a number that doesn't fit leaves nothing to do
undone : (fit : Bool) (y : ℕ) (o : Option Descriptor) (put : Descriptor → ℕ → Option abstract.Memory) → option_and_then (λ d. option_and_then (put d) (cond fit (Some y) None)) (cond fit o None) ≡ option_and_then (λ d. option_and_then (put d) (cond fit (Some y) None)) o
undone true y o put = refl
undone false y None put = refl
undone false y (Some d) put = refl

some_of : (b : Bool) (o : Option Descriptor) (d : Descriptor) → cond b o None ≡ Some d → (b ≡ true) × (o ≡ Some d)
some_of true o d e = (refl, e)
some_of false o d e = absurd cc

module _ (image : Image) (last : ℕ) (g : Setting) (places : Places) (f : Field) (routine limit at from : ℕ) (u : Micro) (s : State) (at_ok : at < 16) (from_ok : from < 16) (r : IsRoutine image last g.settings.sizes (all_cells g.settings g.static_cells) routine 18 16 (fit_test (bits_of g.settings.sizes f)) kept) (b : Begins image last g (call_with_code at from s.pc routine ++ S (store_op (width_of g.settings.sizes f)) 10 12 (pos (place_of g.settings.sizes f)) ∷ []) u s) where
  abbrev m : abstract.Memory
  m = u.state.memory

  abbrev zt : ℤ
  zt = held u.registers at

  abbrev zf : ℤ
  zf = held u.registers from

  abbrev n : ℕ
  n = cast_unsigned w64 zf

  abbrev fits : Bool
  fits = nat_lt n (2 ^ bits_of g.settings.sizes f)

  -- a descriptor with the field set by its bits, and the operation by what is found
  stores_number : (put : Descriptor → ℕ → Option abstract.Memory) → ((d : Descriptor) → put d n ≡ set_descr_at m zt (set_field f zf d)) → within limit zf ≡ cond fits (Some n) None → Does image last g places false 22 (s.pc + 20) s (store (option_and_then (λ d. option_and_then (put d) (within limit zf)) (descr_at m zt)) u)
  stores_number put puts law =
      let st = b.stands in
      let x : ℕ = cast_unsigned w64 zt in
      let fit_t = st.fit at at_ok in
      let fit_f = st.fit from from_ok in
      let found = cond fits (descr_at m zt) None in
      let does = λ (o : Option Descriptor). store (option_and_then (λ d. option_and_then (put d) (cond fits (Some n) None)) o) u in
      let same = ap (λ o. store o u) (undone fits n (descr_at m zt) put ∙ ap (λ w. option_and_then (λ d. option_and_then (put d) w) (descr_at m zt)) (sym law)) in
      let r' = subst (λ c. IsRoutine image last g.settings.sizes c routine 18 16 (fit_test (bits_of g.settings.sizes f)) kept) (sym st.count) r in
      let p = straight (start b.code st.file) 2 (Value x ∷ Value n ∷ []) (omega arith) (omega arith) (moves_from st at [] at_ok refl ▸ moves_from st from ((10, x) ∷ []) from_ok refl ▸ tt) in
      let tests = λ (xs : List ℕ) (reads : (q : ℕ) → q ≢ 11 → register xs q ≡ read s.registers ((12, n) ∷ (10, x) ∷ []) q). ap (λ k. cond (nat_lt k (2 ^ bits_of g.settings.sizes f)) (check_test m xs) None) (reads 12 (omega arith)) ∙ ap (λ o. cond fits o None) (test_is m zt xs (reads 10 (omega arith)) fit_t) in
      subst (λ e. Does image last g places false 22 (s.pc + 20) s e) same (framed b p r' refl (omega arith) places 1 22 (s.pc + 20) does found refl refl refl (omega arith) (omega arith) tests (λ d ys is back.
      let both = some_of fits (descr_at m zt) d is in
      let few = lt_of n (2 ^ bits_of g.settings.sizes f) both.0 in
      let here = told image last g places f u s st b.settings.layout zt zf d fit_t fit_f few both.1 in
      let v = record s { pc = s.pc + 16; registers = ys } in
      let wrote = writes image last g places f u s st b.settings.layout zt zf d fit_t fit_f few both.1 (s.pc + 16) 12 ys (code_from b.code 4 v (omega arith) refl) (s.pc + 20) back.file back.kept (back.reads 10 refl (omega arith)) (back.reads 12 refl (omega arith)) (omega arith) in
      let done : option_and_then (put d) (cond fits (Some n) None) ≡ Some (left image last g places f u s st b.settings.layout zt zf d fit_t fit_f few both.1) = ap (λ k. option_and_then (put d) (cond k (Some n) None)) both.0 ∙ puts d ∙ here in
      subst (λ o. Does image last g places false 1 (s.pc + 20) v (store o u)) (sym done) wrote))

pub stores_field : LawOfStoreField
stores_field image last g places A at from u s at_ok from_ok routines b =
    let st = b.stands in
    let m = u.state.memory in
    let zt = held u.registers at in
    let zf = held u.registers from in
    let x : ℕ = cast_unsigned w64 zt in
    let fit_t = st.fit at at_ok in
    let fit_f = st.fit from from_ok in
    let r = subst (λ c. IsRoutine image last g.settings.sizes c places.routines.check 16 14 check_test kept) (sym st.count) routines.check in
    let p = straight (start b.code st.file) 1 (Value x ∷ []) (omega arith) (omega arith) (moves_from st at [] at_ok refl ▸ tt) in
    framed b p r refl (omega arith) places 1 22 (s.pc + 16) (λ o. store (option_and_then (λ d. set_descr_at m zt (set_field A zf d)) o) u) (descr_at m zt) refl refl refl (omega arith) (omega arith) (λ xs reads. test_is m zt xs (reads 10 (omega arith)) fit_t) (λ d ys is back.
    let few = unsigned_small zf fit_f in
    let here = told image last g places A u s st b.settings.layout zt zf d fit_t fit_f few is in
    let v = record s { pc = s.pc + 12; registers = ys } in
    let from_is = back.kept (home from) (home_kept from from_ok) ∙ st.registers from from_ok in
    let wrote = writes image last g places A u s st b.settings.layout zt zf d fit_t fit_f few is (s.pc + 12) (home from) ys (code_from b.code 3 v (omega arith) refl) (s.pc + 16) back.file back.kept (back.reads 10 refl (omega arith)) from_is (omega arith) in
    subst (λ o. Does image last g places false 1 (s.pc + 16) v (store o u)) (sym here) wrote)
stores_field image last g places F at from u s at_ok from_ok routines b =
    let st = b.stands in
    let zt = held u.registers at in
    let limit = u.state.memory.limits.flag_limit in
    let law = flag_within g.settings.sizes limit (held u.registers from) b.settings.layout st.memory.flags (st.fit from from_ok) in
    stores_number image last g places F places.routines.fit_f limit at from u s at_ok from_ok routines.fit_f b (λ d n. set_descr_at u.state.memory zt (record { a = d.a; f = n; v = d.v })) (λ d. refl) law
stores_field image last g places V at from u s at_ok from_ok routines b =
    let st = b.stands in
    let zt = held u.registers at in
    let limit = u.state.memory.limits.value_limit in
    let law = value_within g.settings.sizes limit (held u.registers from) b.settings.layout st.memory.values (st.fit from from_ok) in
    stores_number image last g places V places.routines.fit_v limit at from u s at_ok from_ok routines.fit_v b (λ d n. set_descr_at u.state.memory zt (record { a = d.a; f = d.f; v = n })) (λ d. refl) law
