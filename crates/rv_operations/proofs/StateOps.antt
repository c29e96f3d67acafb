-- The words of the state are read and written.
use Rattle.std.proofs.Common.{◌≡◌, ◌≢◌, ◌⊎◌, inl, inr, ℕ, zero, suc, ◌+◌, ◌-◌, ◌*◌, ◌%◌, ◌^◌, ◌<◌, ◌≤◌, List, [], ◌∷◌, length, Option, Some, None, Bool, true, false, cond, ◌==◌, ◌&&◌, refl, sym, ap, subst, ◌∙◌, arith}
use Rattle.std.specs.Prelude.{ℤ, pos, negsuc, nat_lt, not, option_and_then, All, FitsSigned}
use Rattle.std.specs.List.{flat_map}
use Rattle.std.specs.Int.{w64, cast_unsigned}
use Rattle.sil_base.specs.Bytes.{number, piece}
use Rattle.sil_base.specs.declared.places.TheConstants.{FIRST_SCRATCH}
use Rattle.rv_isa.specs.declared.instr.ROp.TheVariants.{Add, Sub}
use Rattle.rv_isa.specs.declared.instr.IOp.TheVariants.{Addi, Slli, Ld}
use Rattle.rv_isa.specs.declared.instr.BOp.TheVariants.{Beq, Bne}
use Rattle.rv_isa.specs.declared.instr.UOp.TheVariants.{Lui}
use Rattle.rv_isa.specs.declared.instr.Instr.{Instr}
use Rattle.rv_isa.specs.declared.instr.Instr.TheVariants.{R, I, B, U}
use Rattle.layout_params.specs.Areas.{all_cells}
use Rattle.layout_params.proofs.LegalLayouts.{legal}
use Rattle.sil_model.specs.States as abstract
use Rattle.sil_model.specs.WellFormed.{IsTable}
use Rattle.image_file.specs.Image.{Image}
use Rattle.sil_micro.specs.MicroStates.{Setting, Micro, held}
use Rattle.sil_micro.specs.Operations.{On, load, store_state, state_word, set_state_word}
use Rattle.rv_emulate.specs.EmulatorMemory.{Memory, loaded}
use Rattle.rv_emulate.specs.EmulatorStates.{State, register}
use Rattle.rv_emulate.specs.InstrValues.{sum64}
use Rattle.rv_straight.specs.InstrEffects.{Value}
use Rattle.rv_straight.specs.Registers.{IsFile, Keeps, Writes, read}
use Rattle.rv_straight.specs.Straight.{◌▸◌}
use Rattle.rv_straight.specs.Code.{IsNext}
use Rattle.rv_straight.specs.Reaching.{Reaches}
use Rattle.rv_straight.proofs.Branches.{branches as branches_way}
use Rattle.rv_straight.proofs.Reaching.{start, straight, passes, branches}
use Rattle.rv_straight.proofs.Leaps.{code_from}
use Rattle.rv_routines.specs.Routines.{IsRoutine, kept}
use Rattle.rv_routines.specs.Tests.{below_test, state_test, state_written, scratch_written}
use Rattle.rv_routines.specs.Holds.{HoldsMemory}
use Rattle.rv_routines.proofs.Cells.{few_bytes}
use Rattle.rv_routines.proofs.Checking.{lt_of}
use Rattle.rv_routines.proofs.Regions.{load_scratch}
use Rattle.rv_operations.specs.Homes.{home, is_temporary}
use Rattle.rv_operations.specs.StandsFor.{StandsFor, HoldsWords}
use Rattle.rv_operations.specs.EntryBytes.{table_part}
use Rattle.rv_operations.specs.CodePlaces.{Places}
use Rattle.rv_operations.specs.Does.{Does}
use Rattle.rv_operations.specs.WordLaws.{LawOfLoadState, LawOfStoreState}
use Rattle.rv_operations.proofs.Standing.{home_kept, stands_at}
use Rattle.rv_operations.proofs.Doing.{unsigned_small, framed, framed_last, moves_from, does_within}
use Rattle.rv_operations.proofs.Setting.{sets, lands}
use Rattle.rv_operations.proofs.ScratchOps.{holds_after, word_here, word_there}
use Rattle.rv_operations.proofs.Sums.{same_is}

-- the words by their numbers
abbrev state_of : abstract.State → ℕ → ℤ
state_of s zero = s.current
state_of s (suc zero) = s.previous
state_of s (suc (suc n)) = pos s.steps

above : (n : ℕ) → nat_lt (suc (suc (suc n))) 3 ≡ false
above n = grind arith

far_off : (n k : ℕ) → k ≤ 3 → FitsSigned w64 (negsuc n) → nat_lt (2 ^ 64 - suc n) k ≡ false
far_off n k few fits = let small = fits.sfits in grind arith

word_is : (s : abstract.State) (z : ℤ) → FitsSigned w64 z → state_word s z ≡ option_and_then (λ i. Some (state_of s i)) (cond (nat_lt (cast_unsigned w64 z) 3) (Some (cast_unsigned w64 z)) None)
word_is s (pos zero) fits = refl
word_is s (pos (suc zero)) fits = refl
word_is s (pos (suc (suc zero))) fits = refl
word_is s (pos (suc (suc (suc n)))) fits = sym (ap (λ b. option_and_then (λ i. Some (state_of s i)) (cond b (Some (suc (suc (suc n)))) None)) (above n))
word_is s (negsuc n) fits = sym (ap (λ b. option_and_then (λ i. Some (state_of s i)) (cond b (Some (2 ^ 64 - suc n)) None)) (far_off n 3 (omega arith) fits))

some_number : (b : Bool) (x i : ℕ) → cond b (Some x) None ≡ Some i → (b ≡ true) × (x ≡ i)
some_number true x i e = (refl, cc)
some_number false x i e = absurd cc

-- the steps taken, by the bound and the steps left
steps_are : (bound left steps : ℕ) → left + steps ≡ bound → bound < 2 ^ 64 → (bound + (2 ^ 64 - left)) % 2 ^ 64 ≡ steps
steps_are bound left steps e small = omega arith

steps_small : (bound left steps : ℕ) → left + steps ≡ bound → bound ≤ 2 ^ 40 → steps ≤ 2 ^ 40
steps_small bound left steps e small = omega arith

shifted : (x : ℕ) → x < 2 → x * 2 ^ 3 % 2 ^ 64 ≡ 8 * x
shifted x h = omega arith

address_is : (x : ℕ) → x < 2 → sum64 (8 * x) FIRST_SCRATCH ≡ FIRST_SCRATCH + 8 * x
address_is x h = omega arith

same_place : (x : ℕ) → x < 2 → sum64 (FIRST_SCRATCH + 8 * x) 0 ≡ FIRST_SCRATCH + 8 * x
same_place x h = omega arith

below_two : (x : ℕ) → x < 3 → (x == 2) ≡ false → x < 2
below_two x h e = grind arith

is_two : (x : ℕ) → (x == 2) ≡ true → x ≡ 2
is_two x e = grind arith

-- what words 0 and 1 hold
top_word : (u : Micro) (memory : Memory) (i : ℕ) → HoldsWords u memory → i < 2 → (number (piece (8 * i) 8 memory.scratch) ≡ cast_unsigned w64 (state_of u.state i)) × FitsSigned w64 (state_of u.state i)
top_word u memory zero w lt = (w.current, w.current_fits)
top_word u memory (suc zero) w lt = (w.previous, w.previous_fits)
top_word u memory (suc (suc n)) w lt = absurd (omega arith)

-- the instructions behind the test
abbrev tail_code : ℕ → List Instr
tail_code to =
    I Addi 28 0 (pos 2)
    ∷ B Bne 10 28 (pos 12)
    ∷ R Sub (home to) 25 27
    ∷ B Beq 0 0 (pos 20)
    ∷ I Slli 28 10 (pos 3)
    ∷ U Lui 29 0x6_C000
    ∷ R Add 28 28 29
    ∷ I Ld (home to) 28 (pos 0)
    ∷ []

module _ {image : Image} {last : ℕ} {g : Setting} (places : Places) (to x pc : ℕ) (u : Micro) (s : State) (to_ok : to < 16) (short : g.bound ≤ 2 ^ 40) (texts : length image.constants ≤ 2 ^ 26) (most : g.settings.sizes.descr ≤ 64) (st : StandsFor g u s) (ys : List ℕ) (file : IsFile ys) (kept_in : Keeps is_temporary s.registers ys) (x10 : register ys 10 ≡ x) (lt : x < 3) (c : IsNext image last (record s { pc = pc; registers = ys }) (tail_code to)) where
  abbrev from : State
  from = record s { pc = pc; registers = ys }

  p1 : Reaches c 1 1 ((28, 2) ∷ []) s.memory
  p1 = straight (start c file) 1 (Value 2 ∷ []) (omega arith) (omega arith) (refl ▸ tt)

  two_is : (b : Bool) → (x == 2) ≡ b → (register ys 10 == 2) ≡ b
  two_is b e = ap (λ y. y == 2) x10 ∙ e

  by_two : (b : Bool) → (x == 2) ≡ b → Does image last g places false 6 (pc + 32) from (load (Some (state_of u.state x)) to u)
  by_two true e =
      let v = u.state.steps in
      let left = kept_in 27 refl in
      let bound = kept_in 25 refl ∙ st.bound in
      let sum : register ys 27 + v ≡ g.bound = ap (λ n. n + v) left ∙ st.left in
      let steps_is : (register ys 25 + (2 ^ 64 - register ys 27)) % 2 ^ 64 ≡ v = ap (λ n. (n + (2 ^ 64 - register ys 27)) % 2 ^ 64) bound ∙ steps_are g.bound (register ys 27) v sum (omega (arith, short)) in
      let r = straight (passes p1 refl (omega arith) (ap not (two_is true e))) 1 (Value v ∷ []) (omega arith) (omega arith) (steps_is ▸ tt) in
      let ws : Writes = (home to, v) ∷ (28, 2) ∷ [] in
      let way = branches_way image last from (tail_code to) c 3 8 ws s.memory Beq 0 0 (pos 20) refl r.know refl (omega (arith, c.low)) in
      let few = steps_small g.bound (register ys 27) v sum short in
      let done = lands places st kept_in r 1 to (pos v) ((28, 2) ∷ []) (pc + 32) to_ok (record { sfits = omega (arith, few) }) refl r.know way in
      subst (λ k. Does image last g places false 6 (pc + 32) from (load (Some (state_of u.state k)) to u)) (sym (is_two x e)) (does_within image last g places false (pc + 32) from 4 6 (load (Some (pos v)) to u) (omega arith) done)
  by_two false e =
      let low = below_two x lt e in
      let w = state_of u.state x in
      let v : ℕ = cast_unsigned w64 w in
      let top = top_word u s.memory x st.words low in
      let place : ℕ = FIRST_SCRATCH + 8 * x in
      let moved : register ys 10 * 2 ^ 3 % 2 ^ 64 ≡ 8 * x = ap (λ a. a * 2 ^ 3 % 2 ^ 64) x10 ∙ shifted x low in
      let load_is : loaded image.constants s.memory 8 (sum64 place 0) ≡ Some v =
      ap (λ a. loaded image.constants s.memory 8 a) (same_place x low)
      ∙ load_scratch image.constants s.memory x (few_bytes g.settings.sizes u.state.memory s.memory st.memory most) (omega (arith, st.memory.kinds_size, st.memory.valid.count)) st.memory.tables_size texts (omega (arith, st.memory.scratch_size, low))
      ∙ ap Some top.0 in
      let r = branches p1 4 refl (omega arith) (omega arith) (ap not (two_is false e)) (omega (arith, c.low)) in
      sets places st kept_in r 4 (Value (8 * x) ∷ Value FIRST_SCRATCH ∷ Value place ∷ Value v ∷ []) to w ((28, place) ∷ (29, FIRST_SCRATCH) ∷ (28, 8 * x) ∷ (28, 2) ∷ []) (pc + 32) to_ok top.1 (omega arith) (omega arith) (moved ▸ refl ▸ address_is x low ▸ (load_is, unsigned_small w top.1) ▸ tt) refl refl refl (omega arith)

pub loads_state : LawOfLoadState
loads_state image last g places to at u s to_ok at_ok short texts routines b =
    let st = b.stands in
    let sizes = g.settings.sizes in
    let l = legal sizes b.settings.layout in
    let z = held u.registers at in
    let fit = st.fit at at_ok in
    let x : ℕ = cast_unsigned w64 z in
    let found = cond (nat_lt x 3) (Some x) None in
    let word = λ (i : ℕ). Some (state_of u.state i) in
    let same : option_and_then word found ≡ state_word u.state z = sym (word_is u.state z fit) in
    let r = subst (λ n. IsRoutine image last sizes n places.routines.below_state 6 4 (below_test 3) kept) (sym st.count) routines.below_state in
    let p = straight (start b.code st.file) 1 (Value x ∷ []) (omega arith) (omega arith) (moves_from st at [] at_ok refl ▸ tt) in
    subst (λ o. Does image last g places false 13 (s.pc + 44) s (load o to u)) same (framed b p r refl (omega arith) places 6 13 (s.pc + 44) (λ o. load (option_and_then word o) to u) found refl refl refl (omega arith) (omega arith) (λ xs reads. ap (λ y. cond (nat_lt y 3) (Some y) None) (reads 10 (omega arith))) (λ i ys is back.
    let both = some_number (nat_lt x 3) x i is in
    let lt = lt_of x 3 both.0 in
    let v3 = record s { pc = s.pc + 12; registers = ys } in
    let c = code_from b.code 3 v3 (omega arith) refl in
    let end : s.pc + 12 + 32 ≡ s.pc + 44 = omega arith in
    let done = by_two places to x (s.pc + 12) u s to_ok short texts l.most st ys back.file back.kept (back.reads 10 refl (omega arith)) lt c (x == 2) refl in
    subst (λ k. Does image last g places false 6 (s.pc + 44) v3 (load (Some (state_of u.state k)) to u)) both.1 (subst (λ q. Does image last g places false 6 q v3 (load (Some (state_of u.state x)) to u)) end done)))

-- ---- a word is written

abbrev set_top : abstract.State → ℕ → ℤ → abstract.State
set_top s zero w = record s { current = w }
set_top s (suc n) w = record s { previous = w }

abbrev put : abstract.State → ℤ → Option (ℕ × ℕ) → Option abstract.State
put s w None = Some s
put s w (Some (i, v)) = Some (set_top s i w)

abbrev picked : Bool → Bool → ℕ → ℕ → Option (Option (ℕ × ℕ))
picked a b x y = cond a (Some (Some (x, y))) (cond b (Some None) None)

abbrev state_found : ℕ → ℕ → ℕ → Option (Option (ℕ × ℕ))
state_found x y steps = picked (nat_lt x 2) ((x == 2) && (y == steps)) x y

above_two : (n : ℕ) → (nat_lt (suc (suc (suc n))) 2 ≡ false) × ((suc (suc (suc n)) == 2) ≡ false)
above_two n = (grind arith, grind arith)

not_two : (n : ℕ) → FitsSigned w64 (negsuc n) → (2 ^ 64 - suc n == 2) ≡ false
not_two n fits = let small = fits.sfits in grind arith

neither : (a b c : Bool) (x y : ℕ) → a ≡ false → b ≡ false → picked a (b && c) x y ≡ None
neither true b c x y e f = absurd cc
neither false true c x y e f = absurd cc
neither false false c x y e f = refl

set_is : (s : abstract.State) (z w : ℤ) → FitsSigned w64 z → FitsSigned w64 w → s.steps ≤ 2 ^ 40 → set_state_word s z w ≡ option_and_then (put s w) (state_found (cast_unsigned w64 z) (cast_unsigned w64 w) s.steps)
set_is s (pos zero) w f g few = refl
set_is s (pos (suc zero)) w f g few = refl
set_is s (pos (suc (suc zero))) w f g few =
    ap (λ b. cond b (Some s) None) (sym (same_is w (pos s.steps) g (record { sfits = omega (arith, few) }))) ∙ by (cast_unsigned w64 w == s.steps)
  where
    by : (b : Bool) → cond b (Some s) None ≡ option_and_then (put s w) (cond b (Some None) None)
    by true = refl
    by false = refl
set_is s (pos (suc (suc (suc n)))) w f g few =
    let no = above_two n in
    sym (ap (λ o. option_and_then (put s w) o) (neither (nat_lt (suc (suc (suc n))) 2) (suc (suc (suc n)) == 2) (cast_unsigned w64 w == s.steps) (suc (suc (suc n))) (cast_unsigned w64 w) no.0 no.1))
set_is s (negsuc n) w f g few =
    sym (ap (λ o. option_and_then (put s w) o) (neither (nat_lt (2 ^ 64 - suc n) 2) (2 ^ 64 - suc n == 2) (cast_unsigned w64 w == s.steps) (2 ^ 64 - suc n) (cast_unsigned w64 w) (far_off n 2 (omega arith) f) (not_two n f)))

-- what is found is a word below 2, or none
some_word : (a b : Bool) (x y : ℕ) (t : Option (ℕ × ℕ)) → picked a b x y ≡ Some t → ((a ≡ true) × (t ≡ Some (x, y))) ⊎ (t ≡ None)
some_word true b x y t e = inl (refl, cc)
some_word false true x y t e = inr cc
some_word false false x y t e = absurd cc

set_words : (u : Micro) (m : Memory) (i : ℕ) (w : ℤ) → HoldsWords u m → i < 2 → 16 ≤ length m.scratch → FitsSigned w64 w → length m.scratch ≡ 65536 → HoldsWords (record u { state = set_top u.state i w }) (scratch_written m i (cast_unsigned w64 w))
set_words u m zero w h lt room fits size = record {
  current = word_here m 0 (cast_unsigned w64 w) (omega (arith, room)) (unsigned_small w fits);
  previous = word_there m 0 (cast_unsigned w64 w) (omega (arith, room)) (unsigned_small w fits) 1 (omega arith) ∙ h.previous;
  words = λ j g. word_there m 0 (cast_unsigned w64 w) (omega (arith, room)) (unsigned_small w fits) (j + 2) (omega arith) ∙ h.words j g;
  current_fits = fits;
  previous_fits = h.previous_fits;
  words_fit = h.words_fit;
}
set_words u m (suc zero) w h lt room fits size = record {
  current = word_there m 1 (cast_unsigned w64 w) (omega (arith, room)) (unsigned_small w fits) 0 (omega arith) ∙ h.current;
  previous = word_here m 1 (cast_unsigned w64 w) (omega (arith, room)) (unsigned_small w fits);
  words = λ j g. word_there m 1 (cast_unsigned w64 w) (omega (arith, room)) (unsigned_small w fits) (j + 2) (omega arith) ∙ h.words j g;
  current_fits = h.current_fits;
  previous_fits = fits;
  words_fit = h.words_fit;
}
set_words u m (suc (suc n)) w h lt room fits size = absurd (omega arith)

-- the stack alone differs
record SameButStack (a b : abstract.State) : Type 0 where
  pub statement : b.statement ≡ a.statement
  pub memory : b.memory ≡ a.memory
  pub tables : b.tables ≡ a.tables
  pub steps : b.steps ≡ a.steps
  pub tapes : b.tapes ≡ a.tapes

stack_alone : (s : abstract.State) (i : ℕ) (w : ℤ) → SameButStack s (set_top s i w)
stack_alone s zero w = record { statement = refl; memory = refl; tables = refl; steps = refl; tapes = refl }
stack_alone s (suc n) w = record { statement = refl; memory = refl; tables = refl; steps = refl; tapes = refl }

stands_top : (g : Setting) (u : Micro) (s : State) (i : ℕ) (w : ℤ) (pc : ℕ) (ys : List ℕ) → StandsFor g u s → i < 2 → FitsSigned w64 w → IsFile ys → Keeps is_temporary s.registers ys → StandsFor g (record u { state = set_top u.state i w }) (record s { pc = pc; registers = ys; memory = scratch_written s.memory i (cast_unsigned w64 w) })
stands_top g u s i w pc ys st lt fits file kept =
    let same = stack_alone u.state i w in
    let room : 8 * i + 8 ≤ length s.memory.scratch = omega (arith, st.memory.scratch_size) in
    let after = scratch_written s.memory i (cast_unsigned w64 w) in
    record {
      file = file;
      registers = λ r h. kept (home r) (home_kept r h) ∙ st.registers r h;
      fit = st.fit;
      bound = kept 25 refl ∙ st.bound;
      statement = kept 26 refl ∙ st.statement ∙ sym same.statement;
      left = ap (λ n. n + (set_top u.state i w).steps) (kept 27 refl) ∙ ap (λ n. register s.registers 27 + n) same.steps ∙ st.left;
      memory = subst (λ m. HoldsMemory g.settings.sizes m after) (sym same.memory) (holds_after s.memory i (cast_unsigned w64 w) room (unsigned_small w fits) g.settings.sizes u.state.memory st.memory);
      count = subst (λ m. length m.cells ≡ all_cells g.settings g.static_cells) (sym same.memory) st.count;
      words = set_words u s.memory i w st.words lt (omega (arith, st.memory.scratch_size)) fits st.memory.scratch_size;
      tables = record {
        bytes = st.tables.bytes ∙ ap (λ ts. flat_map table_part ts) (sym same.tables);
        count = subst (λ ts. length ts ≤ 256) (sym same.tables) st.tables.count;
        whole = subst (λ ts. All (IsTable (length ts)) ts) (sym same.tables) st.tables.whole;
      };
      tapes = st.tapes ∙ sym same.tapes;
      failed = st.failed;
    }

abbrev new_micro : Micro → ℤ → Option (ℕ × ℕ) → Micro
new_micro u w None = u
new_micro u w (Some (i, v)) = record u { state = set_top u.state i w }

goes : (u : Micro) (w : ℤ) (t : Option (ℕ × ℕ)) → store_state (put u.state w t) u ≡ On (new_micro u w t)
goes u w None = refl
goes u w (Some (i, v)) = refl

pub stores_state : LawOfStoreState
stores_state image last g places at from u s at_ok from_ok short routines b =
    let st = b.stands in
    let sizes = g.settings.sizes in
    let z = held u.registers at in
    let w = held u.registers from in
    let fit = st.fit at at_ok in
    let fits = st.fit from from_ok in
    let x : ℕ = cast_unsigned w64 z in
    let y : ℕ = cast_unsigned w64 w in
    let few = steps_small g.bound (register s.registers 27) u.state.steps st.left short in
    let steps_is : (register s.registers 25 + (2 ^ 64 - register s.registers 27)) % 2 ^ 64 ≡ u.state.steps = ap (λ n. (n + (2 ^ 64 - register s.registers 27)) % 2 ^ 64) st.bound ∙ steps_are g.bound (register s.registers 27) u.state.steps st.left (omega (arith, short)) in
    let found = state_found x y u.state.steps in
    let same : option_and_then (put u.state w) found ≡ set_state_word u.state z w = sym (set_is u.state z w fit fits few) in
    let r = subst (λ n. IsRoutine image last sizes n places.routines.state 8 7 state_test state_written) (sym st.count) routines.state in
    let p = straight (start b.code st.file) 2 (Value x ∷ Value y ∷ []) (omega arith) (omega arith) (moves_from st at [] at_ok refl ▸ moves_from st from ((10, x) ∷ []) from_ok refl ▸ tt) in
    let tests = λ (xs : List ℕ) (reads : (q : ℕ) → q ≢ 11 → register xs q ≡ read s.registers ((12, y) ∷ (10, x) ∷ []) q).
    ap (λ n. state_found n (register xs 12) ((register xs 25 + (2 ^ 64 - register xs 27)) % 2 ^ 64)) (reads 10 (omega arith))
    ∙ ap (λ n. state_found x n ((register xs 25 + (2 ^ 64 - register xs 27)) % 2 ^ 64)) (reads 12 (omega arith))
    ∙ ap (λ n. state_found x y ((n + (2 ^ 64 - register xs 27)) % 2 ^ 64)) (reads 25 (omega arith))
    ∙ ap (λ n. state_found x y ((register s.registers 25 + (2 ^ 64 - n)) % 2 ^ 64)) (reads 27 (omega arith))
    ∙ ap (λ n. state_found x y n) steps_is in
    subst (λ o. Does image last g places false 12 (s.pc + 16) s (store_state o u)) same (framed_last b p r refl (omega arith) places 12 (s.pc + 16) (λ o. store_state (option_and_then (put u.state w) o) u) (new_micro u w) found refl refl refl (omega arith) (omega arith) (omega arith) tests (λ t is. goes u w t) (λ t ys is back.
    let Stands : Option (ℕ × ℕ) → Type 0 = λ q. StandsFor g (new_micro u w q) (record s { pc = s.pc + 16; registers = ys; memory = state_written s.memory q }) in
    elim (some_word (nat_lt x 2) ((x == 2) && (y == u.state.steps)) x y t is) [
      | inl h ↦ subst Stands (sym h.1) (stands_top g u s x w (s.pc + 16) ys st (lt_of x 2 h.0) fits back.file back.kept)
      | inr h ↦ subst Stands (sym h) (stands_at g u s (s.pc + 16) ys st back.file back.kept)
    ]))
