-- LoadField does what the operation does.
use Rattle.std.proofs.Common.{◌≡◌, ℕ, ◌+◌, ◌/◌, ◌^◌, ◌<◌, ◌≤◌, ◌⊎◌, inl, inr, List, [], ◌∷◌, length, Some, refl, sym, ap, subst, ◌∙◌, arith}
use Rattle.std.specs.Prelude.{ℤ, pos, option_and_then, FitsSigned}
use Rattle.std.specs.Int.{w64, cast_unsigned, cast_signed}
use Rattle.std.proofs.lemmas.Int.{to_z-of_z}
use Rattle.layout_params.specs.declared.cell.Descr.{Descr as Descriptor}
use Rattle.layout_params.specs.declared.cell.Cell.TheVariants.{Descr}
use Rattle.layout_params.specs.Packing.{place_of, width_of}
use Rattle.layout_params.proofs.LegalLayouts.{IsLegal, legal}
use Rattle.sil_model.specs.Memory as abstract
use Rattle.sil_model.specs.Access.{descr_at, field_of}
use Rattle.sil_micro.specs.MicroStates.{Setting, Micro, held}
use Rattle.sil_micro.specs.Operations.{load}
use Rattle.rv_emulate.specs.EmulatorMemory.{Memory, loaded}
use Rattle.rv_emulate.specs.EmulatorStates.{register}
use Rattle.rv_emulate.specs.InstrValues.{sum64}
use Rattle.rv_straight.specs.InstrEffects.{i_effect, Gives, Value}
use Rattle.rv_straight.specs.Straight.{◌▸◌}
use Rattle.rv_straight.proofs.Reaching.{start, straight}
use Rattle.rv_straight.proofs.Leaps.{code_from}
use Rattle.rv_routines.specs.Routines.{IsRoutine, kept}
use Rattle.rv_routines.specs.FieldCodes.{load_op}
use Rattle.rv_routines.specs.Tests.{check_test}
use Rattle.rv_routines.proofs.Cells.{IsPlace, offset, place_of_found, few_bytes}
use Rattle.rv_routines.proofs.FieldPlaces.{span}
use Rattle.rv_routines.proofs.FieldLoads.{cell_fits, field_fits, field_loads}
use Rattle.rv_operations.specs.Laws.{LawOfLoadField}
use Rattle.rv_operations.proofs.Doing.{unsigned_small, framed, moves_from}
use Rattle.rv_operations.proofs.Setting.{sets}

-- the test of an address
pub test_is : (memory : abstract.Memory) (z : ℤ) (xs : List ℕ) → register xs 10 ≡ cast_unsigned w64 z → FitsSigned w64 z → check_test memory xs ≡ descr_at memory z
test_is memory z xs e fits = ap (λ y. descr_at memory (cast_signed w64 y)) e ∙ ap (λ y. descr_at memory y) (to_z-of_z w64 z fits)

-- where the descriptor is
pub place_is : (g : Setting) (u : Micro) (l : IsLegal g.settings.sizes) (z : ℤ) (d : Descriptor) → FitsSigned w64 z → u.state.memory.limits.cell_size ≡ g.settings.sizes.descr → length u.state.memory.cells ≤ 2 ^ 20 → descr_at u.state.memory z ≡ Some d → IsPlace u.state.memory g.settings.sizes.descr (cast_unsigned w64 z) d (offset (cast_unsigned w64 z) / g.settings.sizes.descr)
place_is g u l z d fits limit count is =
    let same : descr_at u.state.memory (cast_signed w64 (cast_unsigned w64 z)) ≡ Some d = ap (λ y. descr_at u.state.memory y) (to_z-of_z w64 z fits) ∙ is in
    place_of_found u.state.memory g.settings.sizes.descr (cast_unsigned w64 z) d limit l.least l.most count (unsigned_small z fits) same

-- the load of a width gives what is loaded
pub load_gives : (constants : List ℕ) (m : Memory) (n x v at : ℕ) → (n ≡ 1) ⊎ (n ≡ 2) ⊎ (n ≡ 4) ⊎ (n ≡ 8) → loaded constants m n (sum64 x at) ≡ Some v → v < 2 ^ 64 → Gives (i_effect constants m (load_op n) x (pos at)) (Value v)
load_gives constants m n x v at w e small =
    let P : ℕ → Type 0 = λ j. loaded constants m j (sum64 x at) ≡ Some v → Gives (i_effect constants m (load_op j) x (pos at)) (Value v) in
    elim w [ inl k ↦ subst P (sym k) (λ h. (h, small)) e | inr (inl k) ↦ subst P (sym k) (λ h. (h, small)) e | inr (inr (inl k)) ↦ subst P (sym k) (λ h. (h, small)) e | inr (inr (inr k)) ↦ subst P (sym k) (λ h. (h, small)) e ]

pub loads_field : LawOfLoadField
loads_field image last g places f to at u s to_ok at_ok routines b =
    let st = b.stands in
    let sizes = g.settings.sizes in
    let memory = u.state.memory in
    let l = legal sizes b.settings.layout in
    let z = held u.registers at in
    let fit = st.fit at at_ok in
    let x : ℕ = cast_unsigned w64 z in
    let r = subst (λ n. IsRoutine image last sizes n places.routines.check 16 14 check_test kept) (sym st.count) routines.check in
    let p = straight (start b.code st.file) 1 (Value x ∷ []) (omega arith) (omega arith) (moves_from st at [] at_ok refl ▸ tt) in
    framed b p r refl (omega arith) places 1 19 (s.pc + 16) (λ o. load (option_and_then (λ d. Some (field_of d f)) o) to u) (descr_at memory z) refl refl refl (omega arith) (omega arith) (λ xs reads. test_is memory z xs (reads 10 (omega arith)) fit) (λ d ys is back.
    let v : ℕ = cast_unsigned w64 (field_of d f) in
    let place = place_is g u l z d fit st.memory.limit st.memory.valid.count is in
    let fits = field_fits memory f d st.memory.valid (cell_fits memory (offset x / sizes.descr) (Descr d) st.memory.valid place.member) in
    let load_is = field_loads image.constants sizes f memory s.memory x (offset x / sizes.descr) d l st.memory (few_bytes sizes memory s.memory st.memory l.most) place in
    let load' = subst (λ y. loaded image.constants s.memory (width_of sizes f) (sum64 y (place_of sizes f)) ≡ Some v) (sym (back.reads 10 refl (omega arith))) load_is in
    let gives = load_gives image.constants s.memory (width_of sizes f) (register ys 10) v (place_of sizes f) (span sizes f l).width load' (unsigned_small (field_of d f) fits) in
    let v3 = record s { pc = s.pc + 12; registers = ys } in
    sets places st back.kept (start (code_from b.code 3 v3 (omega arith) refl) back.file) 1 (Value v ∷ []) to (field_of d f) [] (s.pc + 16) to_ok fits (omega arith) (omega arith) (gives ▸ tt) refl refl refl (omega arith))
