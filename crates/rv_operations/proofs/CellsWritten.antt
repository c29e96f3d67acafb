-- StoreCell does what the operation does.
use Rattle.std.proofs.Common.{◌≡◌, ◌≢◌, ℕ, ◌+◌, ◌^◌, List, [], ◌∷◌, Option, Some, None, Bool, true, false, cond, refl, sym, ap, subst, ◌∙◌, arith}
use Rattle.std.specs.Prelude.{ℤ, nat_lt, option_and_then, slice_set}
use Rattle.std.specs.Int.{w64, cast_unsigned, cast_signed}
use Rattle.std.proofs.lemmas.Int.{to_z-of_z}
use Rattle.std.proofs.lemmas.List.{length-set}
use Rattle.layout_params.specs.declared.cell.Descr.{Descr as Descriptor}
use Rattle.layout_params.specs.declared.cell.Cell.TheVariants.{Descr}
use Rattle.layout_params.specs.declared.cell.Field.TheVariants.{A, F, V}
use Rattle.layout_params.proofs.LegalLayouts.{legal}
use Rattle.sil_model.specs.Memory as abstract
use Rattle.sil_model.specs.Memory.{FitsDescr}
use Rattle.sil_model.specs.Access.{cell_number, with_cell, with_cells, put_cell, set_descr_at}
use Rattle.sil_model.specs.Integers.{within}
use Rattle.sil_micro.specs.MicroStates.{held}
use Rattle.sil_micro.specs.Operations.{store}
use Rattle.rv_emulate.specs.EmulatorMemory.{Memory, stored}
use Rattle.rv_emulate.specs.EmulatorStates.{register}
use Rattle.rv_emulate.specs.InstrValues.{sum64, s_width}
use Rattle.rv_straight.specs.InstrEffects.{Value, Leaves}
use Rattle.rv_straight.specs.Registers.{read}
use Rattle.rv_straight.specs.Straight.{◌▸◌}
use Rattle.rv_straight.proofs.Reaching.{start, straight}
use Rattle.rv_straight.proofs.Leaps.{code_from}
use Rattle.rv_routines.specs.FieldCodes.{bits_of, store_op}
use Rattle.rv_routines.specs.Routines.{IsRoutine}
use Rattle.rv_routines.specs.Tests.{open_test, opened}
use Rattle.rv_routines.proofs.Cells.{place_of_number, few_bytes}
use Rattle.rv_routines.proofs.CellStores.{m1, m2, m3, room, size1, size2, holds_cell}
use Rattle.rv_routines.proofs.Checking.{lt_of}
use Rattle.rv_routines.proofs.FieldPlaces.{span}
use Rattle.rv_routines.proofs.FieldStores.{flag_within, value_within, small_flag, small_value, store_span}
use Rattle.rv_operations.specs.Homes.{home}
use Rattle.rv_operations.specs.Does.{Does}
use Rattle.rv_operations.specs.Laws.{LawOfStoreCell}
use Rattle.rv_operations.proofs.Standing.{home_kept}
use Rattle.rv_operations.proofs.Doing.{unsigned_small, framed, moves_from}
use Rattle.rv_operations.proofs.Setting.{leaves}

-- a descriptor is put at an address by the number of its cell
put_is : (m : abstract.Memory) (at : ℤ) (d : Descriptor) → option_and_then (λ i. Some (with_cell m i (Descr d))) (cell_number m at) ≡ set_descr_at m at d
unfolding put_cell
put_is m at d = by (cell_number m at)
  where
    by : (o : Option ℕ) → option_and_then (λ i. Some (with_cell m i (Descr d))) o ≡ with_cells m (option_and_then (λ i. Some (slice_set m.cells i (Descr d))) o)
    by None = refl
    by (Some i) = refl

-- the operation by its three tests
by_tests : (ff fv : Bool) (m : abstract.Memory) (at a : ℤ) (f v : ℕ) → option_and_then (λ i. Some (with_cell m i (Descr (record { a = a; f = f; v = v })))) (cond ff (cond fv (cell_number m at) None) None) ≡ option_and_then (λ p. option_and_then (λ q. set_descr_at m at (record { a = a; f = p; v = q })) (cond fv (Some v) None)) (cond ff (Some f) None)
by_tests true true m at a f v = put_is m at (record { a = a; f = f; v = v })
by_tests true false m at a f v = refl
by_tests false fv m at a f v = refl

some_of : (a b : Bool) (o : Option ℕ) (i : ℕ) → cond a (cond b o None) None ≡ Some i → (a ≡ true) × (b ≡ true) × (o ≡ Some i)
some_of true true o i e = (refl, refl, e)
some_of true false o i e = absurd cc
some_of false b o i e = absurd cc

-- a store by registers that hold these
store_at : (m : Memory) (n off x y p q : ℕ) (after : Memory) → p ≡ x → q ≡ y → stored m n (sum64 x off) y ≡ Some after → stored m n (sum64 p off) q ≡ Some after
store_at m n off x y p q after e g h = ap (λ a. stored m n (sum64 a off) q) e ∙ ap (λ w. stored m n (sum64 x off) w) g ∙ h

pub stores_cell : LawOfStoreCell
stores_cell image last g places at a f v u s at_ok a_ok f_ok v_ok routines b =
    let st = b.stands in
    let sizes = g.settings.sizes in
    let layout = b.settings.layout in
    let l = legal sizes layout in
    let m = u.state.memory in
    let zt = held u.registers at in
    let za = held u.registers a in
    let zf = held u.registers f in
    let zv = held u.registers v in
    let x : ℕ = cast_unsigned w64 zt in
    let ya : ℕ = cast_unsigned w64 za in
    let yf : ℕ = cast_unsigned w64 zf in
    let yv : ℕ = cast_unsigned w64 zv in
    let fit_t = st.fit at at_ok in
    let fit_a = st.fit a a_ok in
    let fb = bits_of sizes F in
    let vb = bits_of sizes V in
    let ff = nat_lt yf (2 ^ fb) in
    let fv = nat_lt yv (2 ^ vb) in
    let e : Descriptor = record { a = za; f = yf; v = yv } in
    let found = cond ff (cond fv (cell_number m zt) None) None in
    let put = λ (p q : ℕ). set_descr_at m zt (record { a = za; f = p; v = q }) in
    let f_law = flag_within sizes m.limits.flag_limit zf layout st.memory.flags (st.fit f f_ok) in
    let v_law = value_within sizes m.limits.value_limit zv layout st.memory.values (st.fit v v_ok) in
    let same =
    ap (λ o. store o u)
    (by_tests ff fv m zt za yf yv
    ∙ ap (λ o. option_and_then (λ p. option_and_then (λ q. put p q) (cond fv (Some yv) None)) o) (sym f_law)
    ∙ ap (λ o. option_and_then (λ p. option_and_then (λ q. put p q) o) (within m.limits.flag_limit zf)) (sym v_law)) in
    let r = subst (λ n. IsRoutine image last sizes n places.routines.open_cell 16 17 (open_test fb vb) opened) (sym st.count) routines.open_cell in
    let p = straight (start b.code st.file) 3 (Value x ∷ Value yf ∷ Value yv ∷ []) (omega arith) (omega arith) (moves_from st at [] at_ok refl ▸ moves_from st f ((10, x) ∷ []) f_ok refl ▸ moves_from st v ((12, yf) ∷ (10, x) ∷ []) v_ok refl ▸ tt) in
    let tests = λ (xs : List ℕ) (reads : (q : ℕ) → q ≢ 11 → register xs q ≡ read s.registers ((13, yv) ∷ (12, yf) ∷ (10, x) ∷ []) q).
    ap (λ n. cond (nat_lt n (2 ^ fb)) (cond (nat_lt (register xs 13) (2 ^ vb)) (cell_number m (cast_signed w64 (register xs 10))) None) None) (reads 12 (omega arith))
    ∙ ap (λ n. cond ff (cond (nat_lt n (2 ^ vb)) (cell_number m (cast_signed w64 (register xs 10))) None) None) (reads 13 (omega arith))
    ∙ ap (λ n. cond ff (cond fv (cell_number m (cast_signed w64 n)) None) None) (reads 10 (omega arith))
    ∙ ap (λ z. cond ff (cond fv (cell_number m z) None) None) (to_z-of_z w64 zt fit_t) in
    subst (λ w. Does image last g places false 25 (s.pc + 32) s w) same (framed b p r refl (omega arith) places 3 25 (s.pc + 32) (λ o. store (option_and_then (λ i. Some (with_cell m i (Descr e))) o) u) found refl refl refl (omega arith) (omega arith) tests (λ i ys is back.
    let three = some_of ff fv (cell_number m zt) i is in
    let f_few = lt_of yf (2 ^ fb) three.0 in
    let v_few = lt_of yv (2 ^ vb) three.1 in
    let number : cell_number m (cast_signed w64 x) ≡ Some i = ap (λ z. cell_number m z) (to_z-of_z w64 zt fit_t) ∙ three.2 in
    let there = place_of_number m sizes.descr x i st.memory.limit l.least l.most st.memory.valid.count (unsigned_small zt fit_t) number in
    let few = few_bytes sizes m s.memory st.memory l.most in
    let space = room sizes layout m s.memory st.memory i there.1 za yf yv fit_a f_few v_few in
    let n0 = opened s.memory i in
    let n1 = m1 sizes layout m s.memory st.memory i there.1 za yf yv fit_a f_few v_few in
    let n2 = m2 sizes layout m s.memory st.memory i there.1 za yf yv fit_a f_few v_few in
    let n3 = m3 sizes layout m s.memory st.memory i there.1 za yf yv fit_a f_few v_few in
    let long1 = size1 sizes layout m s.memory st.memory i there.1 za yf yv fit_a f_few v_few in
    let long2 = size2 sizes layout m s.memory st.memory i there.1 za yf yv fit_a f_few v_few in
    let x10 : register ys 10 ≡ x = back.reads 10 refl (omega arith) in
    let xa : register ys (home a) ≡ ya = back.kept (home a) (home_kept a a_ok) ∙ st.registers a a_ok in
    let x12 : register ys 12 ≡ yf = back.reads 12 refl (omega arith) in
    let x13 : register ys 13 ≡ yv = back.reads 13 refl (omega arith) in
    let s1 = store_at n0 8 sizes.a_at x ya (register ys 10) (register ys (home a)) n1 x10 xa (store_span sizes l n0 x i sizes.a_at 8 ya (span sizes A l) there.0 space few) in
    let s2 = store_at n1 (s_width (store_op sizes.f_len)) sizes.f_at x yf (register ys 10) (register ys 12) n2 x10 x12 (store_span sizes l n1 x i sizes.f_at sizes.f_len yf (span sizes F l) there.0 (omega (arith, space, long1)) (omega (arith, few, long1))) in
    let s3 = store_at n2 (s_width (store_op sizes.v_len)) sizes.v_at x yv (register ys 10) (register ys 13) n3 x10 x13 (store_span sizes l n2 x i sizes.v_at sizes.v_len yv (span sizes V l) there.0 (omega (arith, space, long2)) (omega (arith, few, long2))) in
    let fit : FitsDescr m.limits e = (fit_a, small_flag sizes yf m.limits.flag_limit layout st.memory.flags f_few, small_value sizes yv m.limits.value_limit layout st.memory.values v_few) in
    let holds = holds_cell sizes layout m s.memory st.memory i there.1 za yf yv fit_a f_few v_few fit in
    let v5 = record s { pc = s.pc + 20; registers = ys; memory = n0 } in
    leaves places st back.kept (start (code_from b.code 5 v5 (omega arith) refl) back.file) 3 (Leaves n1 ∷ Leaves n2 ∷ Leaves n3 ∷ []) (with_cell m i (Descr e)) (s.pc + 32) (omega arith) (omega arith) (s1 ▸ s2 ▸ s3 ▸ tt) refl holds (length-set m.cells i (Descr e)) refl refl (omega arith)))
