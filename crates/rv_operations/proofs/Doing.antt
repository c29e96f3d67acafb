-- Operations by their ways, and through a routine.
use Rattle.std.proofs.Common.{◌≡◌, ◌≢◌, ℕ, ◌+◌, ◌*◌, ◌^◌, ◌<◌, ◌≤◌, List, [], ◌∷◌, length, take, drop, Option, Some, None, Bool, true, false, refl, sym, ap, subst, ◌∙◌, arith}
use Rattle.std.specs.Prelude.{ℤ, slice_get, FitsSigned}
use Rattle.std.specs.Int.{w64, cast_unsigned}
use Rattle.rv_isa.specs.declared.instr.IOp.TheVariants.{Jalr}
use Rattle.rv_isa.specs.declared.instr.UOp.TheVariants.{Auipc}
use Rattle.rv_isa.specs.declared.instr.Instr.{Instr}
use Rattle.rv_isa.specs.declared.instr.Instr.TheVariants.{I, U}
use Rattle.sil_model.specs.Memory as abstract
use Rattle.sil_micro.specs.MicroStates.{Setting, Micro, held}
use Rattle.sil_micro.specs.Operations.{Effect, On, To, ToReturn, Over, Stuck, undefined}
use Rattle.image_file.specs.Image.{Image}
use Rattle.rv_emulate.specs.declared.end.CpuEnd.TheVariants.{Undefined}
use Rattle.rv_emulate.specs.EmulatorMemory.{Memory}
use Rattle.rv_emulate.specs.EmulatorStates as emulator
use Rattle.rv_emulate.specs.EmulatorStates.{State, Ended, register}
use Rattle.rv_emulate.specs.InstrValues.{sum64}
use Rattle.rv_straight.specs.InstalledWays.{Comes, IsBetween}
use Rattle.rv_straight.specs.Registers.{Writes, read, are}
use Rattle.rv_straight.specs.Constants.{lower_of}
use Rattle.rv_straight.specs.Jumps.{distance, far_upper}
use Rattle.rv_straight.specs.Reaching.{Reaches}
use Rattle.rv_straight.proofs.Ways.{then_comes, comes_within, comes_any}
use Rattle.rv_straight.proofs.Registers.{read_kept}
use Rattle.rv_routines.specs.Routines.{IsRoutine}
use Rattle.rv_routines.proofs.Calling.{Returned, Called, CoversScratch, called}
use Rattle.rv_operations.specs.Homes.{home, is_temporary}
use Rattle.rv_operations.specs.CodePlaces.{Places}
use Rattle.rv_operations.specs.StandsFor.{StandsFor}
use Rattle.rv_operations.specs.Does.{Does, ComesBack, Begins, return_place}
use Rattle.rv_operations.proofs.Standing.{home_kept}

pub unsigned_small : (z : ℤ) → FitsSigned w64 z → cast_unsigned w64 z < 2 ^ 64
unsigned_small z h = grind arith

-- the temporaries of operations are all that routines may change
pub covers : CoversScratch is_temporary
covers = record { scratch = λ q h. grind arith; back = refl; number = refl }

-- a way, and from there what is to be done
module _ (image : Image) (last : ℕ) (g : Setting) (places : Places) (prints : Bool) (next : ℕ) (s v : State) (a b most : ℕ) (way : Comes image last false a s (emulator.On v)) (here : IsBetween image last v) (le : a + b ≤ most) where
  behind : (p : Bool) (o : emulator.Outcome) → Comes image last p b v o → Comes image last p most s o
  behind p o h = comes_within image last p (a + b) most s o (then_comes image last p a b s v o (comes_any image last p a s (emulator.On v) way) here h) le

  back_after : (u : Micro) (o : Option ℕ) → ComesBack image last g b v u o → ComesBack image last g most s u o
  back_after u None h = behind false _ h
  back_after u (Some place) h = (h.0, behind false (emulator.On h.0) h.1, h.2, h.3)

  pub does_after : (e : Effect) → Does image last g places prints b next v e → Does image last g places prints most next s e
  does_after (On u) h = (h.0, behind prints (emulator.On h.0) h.1, h.2, h.3)
  does_after (To target u) h = (h.0, behind false (emulator.On h.0) h.1, h.2, h.3)
  does_after (ToReturn entry u) h = back_after u (return_place g places u entry) h
  does_after (Over (Some end) u) h = behind false _ h
  does_after (Over None u) h = behind prints _ h
  does_after Stuck h = tt

-- fewer instructions serve
pub does_within : (image : Image) (last : ℕ) (g : Setting) (places : Places) (prints : Bool) (next : ℕ) (s : State) (a most : ℕ) (e : Effect) → a ≤ most → Does image last g places prints a next s e → Does image last g places prints most next s e
does_within image last g places prints next s a most (On u) le h = (h.0, comes_within image last prints a most s (emulator.On h.0) h.1 le, h.2, h.3)
does_within image last g places prints next s a most (To target u) le h = (h.0, comes_within image last false a most s (emulator.On h.0) h.1 le, h.2, h.3)
does_within image last g places prints next s a most (ToReturn entry u) le h = back (return_place g places u entry) h
  where
    back : (o : Option ℕ) → ComesBack image last g a s u o → ComesBack image last g most s u o
    back None h = comes_within image last false a most s _ h le
    back (Some place) h = (h.0, comes_within image last false a most s (emulator.On h.0) h.1 le, h.2, h.3)
does_within image last g places prints next s a most (Over (Some end) u) le h = comes_within image last false a most s _ h le
does_within image last g places prints next s a most (Over None u) le h = comes_within image last prints a most s _ h le
does_within image last g places prints next s a most Stuck le h = tt

-- a micro register is moved to a temporary
pub moves_from : {g : Setting} {u : Micro} {s : State} (st : StandsFor g u s) (r : ℕ) (ws : Writes) → r < 16 → are is_temporary ws ≡ true → sum64 (read s.registers ws (home r)) 0 ≡ cast_unsigned w64 (held u.registers r)
moves_from {g} {u} {s} st r ws lt temporary =
    let small = unsigned_small (held u.registers r) (st.fit r lt) in
    let whole : sum64 (cast_unsigned w64 (held u.registers r)) 0 ≡ cast_unsigned w64 (held u.registers r) = omega arith in
    ap (λ y. sum64 y 0) (read_kept is_temporary s.registers ws (home r) temporary (home_kept r lt) ∙ st.registers r lt) ∙ whole

-- it is read where temporaries were written
pub home_read : {g : Setting} {u : Micro} {s : State} (st : StandsFor g u s) (r : ℕ) (ws : Writes) → r < 16 → are is_temporary ws ≡ true → read s.registers ws (home r) ≡ cast_unsigned w64 (held u.registers r)
home_read {g} {u} {s} st r ws lt temporary = read_kept is_temporary s.registers ws (home r) temporary (home_kept r lt) ∙ st.registers r lt

module _ {image : Image} {last : ℕ} {g : Setting} {code : List Instr} {u : Micro} {s : State} (b : Begins image last g code u s) where
  -- the end as undefined is the operation's
  pub lost : {a : ℕ} → Comes image last false a s (Ended (Some (Undefined (register s.registers 26))) s.tapes) → Comes image last false a s (Ended (Some (Undefined u.state.statement)) u.state.tapes)
  lost {a} h = subst (λ tapes. Comes image last false a s (Ended (Some (Undefined u.state.statement)) tapes)) b.stands.tapes (subst (λ k. Comes image last false a s (Ended (Some (Undefined k)) s.tapes)) b.stands.statement h)

  few : register s.registers 26 ≤ length image.statements
  few = omega (arith, b.stands.statement, b.number)

  -- the routine is called by the next two instructions: an operation that is undefined where the test fails, by what it does with what is found
  module _ {A : Type 0} {routine fail back n k : ℕ} {test : abstract.Memory → List ℕ → Option A} {after : Memory → A → Memory} {ws : Writes} (p : Reaches b.code n k ws s.memory) (r : IsRoutine image last g.settings.sizes (length u.state.memory.cells) routine fail back test after) (temporary : are is_temporary ws ≡ true) (room : k + 2 < length code) where
    abbrev pub there : List ℕ → A → State
    there ys a = record s { pc = s.pc + 4 * (k + 2); registers = ys; memory = after s.memory a }

    pub framed : (places : Places) (j most next : ℕ) (does : Option A → Effect) (found : Option A) → does None ≡ undefined u → take 1 (drop k code) ≡ U Auipc 11 (far_upper (s.pc + 4 * k) routine) ∷ [] → slice_get code (k + 1) ≡ Some (I Jalr 11 11 (lower_of (distance (s.pc + 4 * k) routine))) → n + 2 + fail ≤ most → n + 2 + back + j ≤ most → ((xs : List ℕ) → ((q : ℕ) → q ≢ 11 → register xs q ≡ read s.registers ws q) → test u.state.memory xs ≡ found) → ((d : A) (ys : List ℕ) → found ≡ Some d → Returned is_temporary s.registers ys ws → Does image last g places false j next (there ys d) (does (Some d))) → Does image last g places false most next s (does found)
    framed places j most next does found none e jump le le' same rest = by_found found refl (called covers p u.state.memory b.stands.memory few b.even r temporary (omega (arith, room)) found e jump same)
      where
        by_found : (o : Option A) → found ≡ o → Called is_temporary after image last (n + 2 + fail) (n + 2 + back) s (s.pc + 4 * (k + 2)) ws o → Does image last g places false most next s (does o)
        by_found None is h = subst (λ e. Does image last g places false most next s e) (sym none) (comes_within image last false (n + 2 + fail) most s _ (lost h) le)
        by_found (Some d) is h =
            let here = b.code.free (s.pc + 4 * (k + 2)) (omega arith) (omega (arith, room)) in
            does_after image last g places false next s (there h.0 d) (n + 2 + back) j most h.1 here le' (does (Some d)) (rest d h.0 is h.2)

  -- the same where the call is the operation's end
  module _ {A : Type 0} {routine fail back n k : ℕ} {test : abstract.Memory → List ℕ → Option A} {after : Memory → A → Memory} {ws : Writes} (p : Reaches b.code n k ws s.memory) (r : IsRoutine image last g.settings.sizes (length u.state.memory.cells) routine fail back test after) (temporary : are is_temporary ws ≡ true) (room : k + 2 ≤ length code) where
    pub framed_last : (places : Places) (most next : ℕ) (does : Option A → Effect) (new : A → Micro) (found : Option A) → does None ≡ undefined u → take 1 (drop k code) ≡ U Auipc 11 (far_upper (s.pc + 4 * k) routine) ∷ [] → slice_get code (k + 1) ≡ Some (I Jalr 11 11 (lower_of (distance (s.pc + 4 * k) routine))) → n + 2 + fail ≤ most → n + 2 + back ≤ most → s.pc + 4 * (k + 2) ≡ next → ((xs : List ℕ) → ((q : ℕ) → q ≢ 11 → register xs q ≡ read s.registers ws q) → test u.state.memory xs ≡ found) → ((d : A) → found ≡ Some d → does (Some d) ≡ On (new d)) → ((d : A) (ys : List ℕ) → found ≡ Some d → Returned is_temporary s.registers ys ws → StandsFor g (new d) (record s { pc = next; registers = ys; memory = after s.memory d })) → Does image last g places false most next s (does found)
    framed_last places most next does new found none e jump le le' end same goes stands = by_found found refl (called covers p u.state.memory b.stands.memory few b.even r temporary room found e jump same)
      where
        by_found : (o : Option A) → found ≡ o → Called is_temporary after image last (n + 2 + fail) (n + 2 + back) s (s.pc + 4 * (k + 2)) ws o → Does image last g places false most next s (does o)
        by_found None is h = subst (λ e. Does image last g places false most next s e) (sym none) (comes_within image last false (n + 2 + fail) most s _ (lost h) le)
        by_found (Some d) is h =
            let there = subst (λ q. Comes image last false (n + 2 + back) s (emulator.On (record s { pc = q; registers = h.0; memory = after s.memory d }))) end h.1 in
            subst (λ e. Does image last g places false most next s e) (sym (goes d is)) (record s { pc = next; registers = h.0; memory = after s.memory d }, comes_within image last false (n + 2 + back) most s _ there le', refl, stands d h.0 is h.2)
