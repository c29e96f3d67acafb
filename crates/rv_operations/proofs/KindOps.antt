-- The kinds of cells are read and set.
use Rattle.std.proofs.Common.{◌≡◌, ◌≢◌, ℕ, zero, suc, ◌+◌, ◌-◌, ◌^◌, ◌<◌, ◌≤◌, List, [], ◌∷◌, length, replicate, Option, Some, None, Bool, true, false, cond, refl, sym, ap, subst, ◌∙◌, arith}
use Rattle.std.specs.Prelude.{ℤ, pos, negsuc, slice_get, slice_set, nat_lt, option_and_then, FitsSigned}
use Rattle.std.specs.Int.{w64, cast_unsigned}
use Rattle.std.proofs.lemmas.List.{length-set}
use Rattle.sil_base.specs.declared.places.TheConstants.{FIRST_KIND}
use Rattle.layout_params.specs.declared.cell.Cell.{Cell}
use Rattle.layout_params.specs.declared.cell.Cell.TheVariants.{Descr, Chars}
use Rattle.layout_params.specs.Sizes.{Sizes}
use Rattle.layout_params.proofs.LegalLayouts.{IsLegal, legal}
use Rattle.sil_model.specs.Memory.{Memory}
use Rattle.sil_model.specs.Access.{with_cell, with_cells}
use Rattle.sil_model.specs.CellWords.{kind_of, kind_at, put_kind, set_kind_at}
use Rattle.sil_model.specs.Start.{zero_cell}
use Rattle.sil_micro.specs.MicroStates.{held}
use Rattle.sil_micro.specs.Operations.{load, store}
use Rattle.rv_emulate.specs.EmulatorMemory as emulator
use Rattle.rv_emulate.specs.EmulatorMemory.{loaded}
use Rattle.rv_emulate.specs.EmulatorStates.{register}
use Rattle.rv_emulate.specs.InstrValues.{sum64}
use Rattle.rv_straight.specs.InstrEffects.{Value}
use Rattle.rv_straight.specs.Registers.{read}
use Rattle.rv_straight.specs.Straight.{◌▸◌}
use Rattle.rv_straight.proofs.Reaching.{start, straight}
use Rattle.rv_straight.proofs.Leaps.{code_from}
use Rattle.rv_routines.specs.Routines.{IsRoutine, kept}
use Rattle.rv_routines.specs.Tests.{below_test, kind_test, kinded, cleared}
use Rattle.rv_routines.specs.Holds.{HoldsMemory}
use Rattle.rv_routines.proofs.Cells.{few_bytes}
use Rattle.rv_routines.proofs.Checking.{lt_of}
use Rattle.rv_routines.proofs.Regions.{load_kind}
use Rattle.rv_routines.proofs.CharBytes.{holds_blank, holds_zero}
use Rattle.rv_operations.specs.Does.{Does}
use Rattle.rv_operations.specs.WordLaws.{LawOfLoadKind, LawOfStoreKind}
use Rattle.rv_operations.proofs.Standing.{with_memory, stands_stored}
use Rattle.rv_operations.proofs.Doing.{framed, framed_last, moves_from}
use Rattle.rv_operations.proofs.Setting.{sets}
use Rattle.rv_operations.proofs.CharsFound.{number_found, kind_is, none_past, far_off}

some_cell : (xs : List Cell) (i : ℕ) → i < length xs → (c : Cell) × (slice_get xs i ≡ Some c)
some_cell [] i h = absurd (omega arith)
some_cell (x ∷ xs) zero h = (x, refl)
some_cell (x ∷ xs) (suc i) h = some_cell xs i (omega arith)

some_number : (b : Bool) (x i : ℕ) → cond b (Some x) None ≡ Some i → (b ≡ true) × (x ≡ i)
some_number true x i e = (refl, cc)
some_number false x i e = absurd cc

kind_byte : (cell : Cell) → kind_of cell < 2
kind_byte (Descr d) = omega arith
kind_byte (Chars cs) = omega arith

pub loads_kind : LawOfLoadKind
loads_kind image last g places to at u s to_ok at_ok routines b =
    let st = b.stands in
    let sizes = g.settings.sizes in
    let m = u.state.memory in
    let l = legal sizes b.settings.layout in
    let z = held u.registers at in
    let fit = st.fit at at_ok in
    let x : ℕ = cast_unsigned w64 z in
    let few = st.memory.valid.count in
    let kind = λ (i : ℕ). option_and_then (λ (cell : Cell). Some (pos (kind_of cell))) (slice_get m.cells i) in
    let same : option_and_then kind (number_found m x) ≡ kind_at m z = sym (kind_is m z fit few) in
    let r = subst (λ n. IsRoutine image last sizes n places.routines.below_cells 6 4 (below_test n) kept) (sym st.count) routines.below_cells in
    let p = straight (start b.code st.file) 1 (Value x ∷ []) (omega arith) (omega arith) (moves_from st at [] at_ok refl ▸ tt) in
    subst (λ o. Does image last g places false 10 (s.pc + 24) s (load o to u)) same (framed b p r refl (omega arith) places 3 10 (s.pc + 24) (λ o. load (option_and_then kind o) to u) (number_found m x) refl refl refl (omega arith) (omega arith) (λ xs reads. ap (λ y. cond (nat_lt y (length m.cells)) (Some y) None) (reads 10 (omega arith))) (λ i ys is back.
    let both = some_number (nat_lt x (length m.cells)) x i is in
    let lt = lt_of x (length m.cells) both.0 in
    let cell = some_cell m.cells x lt in
    let k = kind_of cell.0 in
    let byte = kind_byte cell.0 in
    let x10 = back.reads 10 refl (omega arith) in
    let place : ℕ = FIRST_KIND + x in
    let sum_is : sum64 0x5000_0000 (register ys 10) ≡ place = ap (λ a. sum64 0x5000_0000 a) x10 ∙ omega (arith, lt, few) in
    let near : sum64 place 0 ≡ place = omega (arith, lt, few) in
    let load_is : loaded image.constants s.memory 1 (sum64 place 0) ≡ Some k = ap (λ a. loaded image.constants s.memory 1 a) near ∙ load_kind image.constants s.memory x k (few_bytes sizes m s.memory st.memory l.most) (st.memory.kinds x cell.0 cell.1) in
    let v3 = record s { pc = s.pc + 12; registers = ys } in
    let done = sets places st back.kept (start (code_from b.code 3 v3 (omega arith) refl) back.file) 3 (Value 0x5000_0000 ∷ Value place ∷ Value k ∷ []) to (pos k) ((28, place) ∷ (28, 0x5000_0000) ∷ []) (s.pc + 24) to_ok (record { sfits = omega (arith, byte) }) (omega arith) (omega arith) (refl ▸ sum_is ▸ (load_is, omega (arith, byte)) ▸ tt) refl refl refl (omega arith) in
    let told : kind i ≡ Some (pos k) = ap kind (sym both.1) ∙ ap (λ o. option_and_then (λ (cell : Cell). Some (pos (kind_of cell))) o) cell.1 in
    subst (λ o. Does image last g places false 3 (s.pc + 24) v3 (load o to u)) (sym told) done))

-- ---- a kind is set

-- the cell of zeros of a kind
abbrev blank : ℕ → Cell
blank zero = zero_cell
blank (suc n) = Chars (replicate 64 0)

put_there : (m : Memory) (x : ℕ) (cell : Cell) → with_cells m (option_and_then (λ was. Some (slice_set m.cells x cell)) (slice_get m.cells x)) ≡ cond (nat_lt x (length m.cells)) (Some (with_cell m x cell)) None
put_there m x cell = by (nat_lt x (length m.cells)) refl
  where
    by : (b : Bool) → nat_lt x (length m.cells) ≡ b → with_cells m (option_and_then (λ was. Some (slice_set m.cells x cell)) (slice_get m.cells x)) ≡ cond b (Some (with_cell m x cell)) None
    by true e = let some = some_cell m.cells x (lt_of x (length m.cells) e) in ap (λ o. with_cells m (option_and_then (λ was. Some (slice_set m.cells x cell)) o)) some.1
    by false e = ap (λ o. with_cells m (option_and_then (λ was. Some (slice_set m.cells x cell)) o)) (none_past m.cells x e)

lost_there : (m : Memory) (o : Option Cell) → with_cells m (option_and_then (λ was. None) o) ≡ None
lost_there m None = refl
lost_there m (Some c) = refl

abbrev no_pair : Option (ℕ × ℕ)
no_pair = None

nothing : (b : Bool) → no_pair ≡ cond b no_pair no_pair
nothing true = refl
nothing false = refl

above_two : (n : ℕ) → nat_lt (suc (suc n)) 2 ≡ false
above_two n = grind arith

below_zero : (n : ℕ) → FitsSigned w64 (negsuc n) → nat_lt (2 ^ 64 - suc n) 2 ≡ false
below_zero n fits = let small = fits.sfits in grind arith

-- the cell and its kind, by their tests
abbrev kind_found : Memory → ℕ → ℕ → Option (ℕ × ℕ)
kind_found m x y = cond (nat_lt y 2) (cond (nat_lt x (length m.cells)) (Some (x, y)) None) None

abbrev put_blank : Memory → ℕ × ℕ → Option Memory
put_blank m t = Some (with_cell m t.0 (blank t.1))

one_kind : (m : Memory) (x y : ℕ) (b : Bool) → cond b (Some (with_cell m x (blank y))) None ≡ option_and_then (put_blank m) (cond b (Some (x, y)) None)
one_kind m x y true = refl
one_kind m x y false = refl

set_kind_is : (m : Memory) (z w : ℤ) → FitsSigned w64 z → FitsSigned w64 w → length m.cells ≤ 2 ^ 20 → set_kind_at m z w ≡ option_and_then (put_blank m) (kind_found m (cast_unsigned w64 z) (cast_unsigned w64 w))
unfolding put_kind
set_kind_is m (negsuc n) w f g few =
    ap (λ o. option_and_then (put_blank m) o) (nothing (nat_lt (cast_unsigned w64 w) 2))
    ∙ sym (ap (λ b. option_and_then (put_blank m) (cond (nat_lt (cast_unsigned w64 w) 2) (cond b (Some (2 ^ 64 - suc n, cast_unsigned w64 w)) None) None)) (far_off n (length m.cells) f few))
set_kind_is m (pos x) (pos zero) f g few = put_there m x zero_cell ∙ one_kind m x 0 (nat_lt x (length m.cells))
set_kind_is m (pos x) (pos (suc zero)) f g few = put_there m x (Chars (replicate 64 0)) ∙ one_kind m x 1 (nat_lt x (length m.cells))
set_kind_is m (pos x) (pos (suc (suc n))) f g few = lost_there m (slice_get m.cells x) ∙ sym (ap (λ b. option_and_then (put_blank m) (cond b (cond (nat_lt x (length m.cells)) (Some (x, suc (suc n))) None) None)) (above_two n))
set_kind_is m (pos x) (negsuc n) f g few = lost_there m (slice_get m.cells x) ∙ sym (ap (λ b. option_and_then (put_blank m) (cond b (cond (nat_lt x (length m.cells)) (Some (x, 2 ^ 64 - suc n)) None) None)) (below_zero n g))

some_kind : (a b : Bool) (x y : ℕ) (t : ℕ × ℕ) → cond a (cond b (Some (x, y)) None) None ≡ Some t → (a ≡ true) × (b ≡ true) × ((x, y) ≡ t)
some_kind true true x y t e = (refl, refl, cc)
some_kind true false x y t e = absurd cc
some_kind false b x y t e = absurd cc

holds_kind : (sizes : Sizes) (l : IsLegal sizes) (mm : Memory) (m : emulator.Memory) (i y : ℕ) → HoldsMemory sizes mm m → i < length mm.cells → y < 2 → HoldsMemory sizes (with_cell mm i (blank y)) (cleared sizes.descr i y m)
holds_kind sizes l mm m i zero holds within lt = holds_zero sizes l mm m holds i within
holds_kind sizes l mm m i (suc zero) holds within lt = holds_blank sizes l mm m holds i within
holds_kind sizes l mm m i (suc (suc n)) holds within lt = absurd (omega arith)

pub stores_kind : LawOfStoreKind
stores_kind image last g places at from u s at_ok from_ok routines b =
    let st = b.stands in
    let sizes = g.settings.sizes in
    let d = sizes.descr in
    let m = u.state.memory in
    let l = legal sizes b.settings.layout in
    let z = held u.registers at in
    let w = held u.registers from in
    let x : ℕ = cast_unsigned w64 z in
    let y : ℕ = cast_unsigned w64 w in
    let same : option_and_then (put_blank m) (kind_found m x y) ≡ set_kind_at m z w = sym (set_kind_is m z w (st.fit at at_ok) (st.fit from from_ok) st.memory.valid.count) in
    let r = subst (λ n. IsRoutine image last sizes n places.routines.kind 8 21 kind_test (kinded d)) (sym st.count) routines.kind in
    let p = straight (start b.code st.file) 2 (Value x ∷ Value y ∷ []) (omega arith) (omega arith) (moves_from st at [] at_ok refl ▸ moves_from st from ((10, x) ∷ []) from_ok refl ▸ tt) in
    let tests = λ (xs : List ℕ) (reads : (q : ℕ) → q ≢ 11 → register xs q ≡ read s.registers ((12, y) ∷ (10, x) ∷ []) q).
    ap (λ n. cond (nat_lt n 2) (cond (nat_lt (register xs 10) (length m.cells)) (Some (register xs 10, n)) None) None) (reads 12 (omega arith))
    ∙ ap (λ n. cond (nat_lt y 2) (cond (nat_lt n (length m.cells)) (Some (n, y)) None) None) (reads 10 (omega arith)) in
    subst (λ o. Does image last g places false 25 (s.pc + 16) s (store o u)) same (framed_last b p r refl (omega arith) places 25 (s.pc + 16) (λ o. store (option_and_then (put_blank m) o) u) (λ t. with_memory u (with_cell m t.0 (blank t.1))) (kind_found m x y) refl refl refl (omega arith) (omega arith) (omega arith) tests (λ t is. refl) (λ t ys is back.
    let three = some_kind (nat_lt y 2) (nat_lt x (length m.cells)) x y t is in
    let x_is : x ≡ t.0 = ap (λ (q : ℕ × ℕ). q.0) three.2 in
    let y_is : y ≡ t.1 = ap (λ (q : ℕ × ℕ). q.1) three.2 in
    let within : t.0 < length m.cells = omega (arith, x_is, lt_of x (length m.cells) three.1) in
    let small : t.1 < 2 = omega (arith, y_is, lt_of y 2 three.0) in
    let holds = holds_kind sizes l m s.memory t.0 t.1 st.memory within small in
    stands_stored g u s (with_cell m t.0 (blank t.1)) (kinded d s.memory t) (s.pc + 16) ys st back.file back.kept holds (length-set m.cells t.0 (blank t.1)) refl refl))
