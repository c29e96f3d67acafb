-- A routine is called, and comes back.
use Rattle.std.proofs.Common.{◌≡◌, ◌≢◌, ℕ, ◌+◌, ◌*◌, ◌%◌, ◌<◌, ◌≤◌, List, [], ◌∷◌, length, take, drop, Option, Some, None, Bool, true, false, refl, subst, ◌∙◌, arith}
use Rattle.std.specs.Prelude.{slice_get}
use Rattle.rv_isa.specs.declared.instr.IOp.TheVariants.{Jalr}
use Rattle.rv_isa.specs.declared.instr.UOp.TheVariants.{Auipc}
use Rattle.rv_isa.specs.declared.instr.Instr.{Instr}
use Rattle.rv_isa.specs.declared.instr.Instr.TheVariants.{I, U}
use Rattle.layout_params.specs.Sizes.{Sizes}
use Rattle.sil_model.specs.Memory as abstract
use Rattle.image_file.specs.Image.{Image}
use Rattle.rv_emulate.specs.declared.end.CpuEnd.TheVariants.{Undefined}
use Rattle.rv_emulate.specs.EmulatorMemory.{Memory}
use Rattle.rv_emulate.specs.EmulatorStates.{State, On, Ended, register}
use Rattle.rv_straight.specs.InstalledWays.{Comes}
use Rattle.rv_straight.specs.Registers.{IsFile, Keeps, Writes, read, are, Knows}
use Rattle.rv_straight.specs.Straight.{at}
use Rattle.rv_straight.specs.Code.{IsNext}
use Rattle.rv_straight.specs.Constants.{lower_of}
use Rattle.rv_straight.specs.Jumps.{distance, far_upper}
use Rattle.rv_straight.specs.Reaching.{Reaches}
use Rattle.rv_straight.proofs.Ways.{then_comes}
use Rattle.rv_straight.proofs.Registers.{knows_write, read_kept, read_other}
use Rattle.rv_straight.proofs.Reaching.{calls}
use Rattle.rv_routines.specs.Holds.{HoldsMemory}
use Rattle.rv_routines.specs.Routines.{IsRoutine, Tested, is_scratch}

-- the registers when the routine has come back
pub record Returned (free : ℕ → Bool) (xs ys : List ℕ) (ws : Writes) : Type 0 where
  pub file : IsFile ys
  pub kept : Keeps free xs ys
  pub reads : (q : ℕ) → is_scratch q ≡ false → (q ≢ 11) → register ys q ≡ read xs ws q

-- what comes of a call: back behind it with what was found, or the end as undefined at the statement in x26
abbrev pub Called : {A : Type 0} → (ℕ → Bool) → (Memory → A → Memory) → Image → ℕ → ℕ → ℕ → State → ℕ → Writes → Option A → Type 0
Called free after image last lost back s next ws None = Comes image last false lost s (Ended (Some (Undefined (register s.registers 26))) s.tapes)
Called free after image last lost back s next ws (Some a) =
    (ys : List ℕ) × Comes image last false back s (On (record s { pc = next; registers = ys; memory = after s.memory a })) × Returned free s.registers ys ws

-- registers that a routine may change are among those that are free, and x26 isn't
pub record CoversScratch (free : ℕ → Bool) : Type 0 where
  pub scratch : (q : ℕ) → free q ≡ false → is_scratch q ≡ false
  pub back : free 11 ≡ true
  pub number : free 26 ≡ false

module _ {image : Image} {last : ℕ} {sizes : Sizes} {free : ℕ → Bool} (covers : CoversScratch free) {s : State} {code : List Instr} {c : IsNext image last s code} {n k : ℕ} {ws : Writes} (p : Reaches c n k ws s.memory) (memory : abstract.Memory) (holds : HoldsMemory sizes memory s.memory) (few : register s.registers 26 ≤ length image.statements) (even : s.pc % 4 ≡ 0) {A : Type 0} {routine lost back : ℕ} {test : abstract.Memory → List ℕ → Option A} {after : Memory → A → Memory} (r : IsRoutine image last sizes (length memory.cells) routine lost back test after) (temporary : are free ws ≡ true) (room : k + 2 ≤ length code) where
  abbrev us : Writes
  us = (11, s.pc + 4 * (k + 2)) ∷ ws

  abbrev u : State
  u = at s routine us s.memory

  know : Knows s.registers us
  know = knows_write s.registers ws 11 (s.pc + 4 * (k + 2)) p.know (omega arith) (omega (arith, c.low))

  other : (q : ℕ) → q ≢ 11 → register u.registers q ≡ read s.registers ws q
  other q ne = know.reads q ∙ read_other s.registers ws 11 (s.pc + 4 * (k + 2)) q ne

  statement_is : register u.registers 26 ≡ register s.registers 26
  statement_is = other 26 (omega arith) ∙ read_kept free s.registers ws 26 temporary covers.number

  spared : are free us ≡ true
  spared = rw covers.back temporary

  tested : Tested (after s.memory) image last lost back u (test memory u.registers)
  tested =
      let come : register u.registers 11 % 2 ≡ 0 = rw (know.reads 11) (omega (arith, even)) in
      let low : register u.registers 26 ≤ length image.statements = rw statement_is few in
      r.runs memory u refl refl holds know.file low come

  returned : (ys : List ℕ) → IsFile ys → Keeps is_scratch u.registers ys → Returned free s.registers ys ws
  returned ys file keeps = record {
    file = file;
    kept = λ q fr. keeps q (covers.scratch q fr) ∙ know.reads q ∙ read_kept free s.registers us q spared fr;
    reads = λ q fr ne. keeps q fr ∙ other q ne;
  }

  -- by the next two instructions
  pub called : (found : Option A) → take 1 (drop k code) ≡ U Auipc 11 (far_upper (s.pc + 4 * k) routine) ∷ [] → slice_get code (k + 1) ≡ Some (I Jalr 11 11 (lower_of (distance (s.pc + 4 * k) routine))) → ((xs : List ℕ) → ((q : ℕ) → q ≢ 11 → register xs q ≡ read s.registers ws q) → test memory xs ≡ found) → Called free after image last (n + 2 + lost) (n + 2 + back) s (s.pc + 4 * (k + 2)) ws found
  called found e jump same = by_found found (calls p routine e jump (omega (arith, room)) r.low r.even) (subst (λ o. Tested (after s.memory) image last lost back u o) (same u.registers other) tested)
    where
      by_found : (o : Option A) → Comes image last false (n + 2) s (On u) → Tested (after s.memory) image last lost back u o → Called free after image last (n + 2 + lost) (n + 2 + back) s (s.pc + 4 * (k + 2)) ws o
      by_found None to_u h =
          let ended = subst (λ a. Comes image last false lost u (Ended (Some (Undefined a)) s.tapes)) statement_is h in
          then_comes image last false (n + 2) lost s u _ to_u r.free ended
      by_found (Some d) to_u h =
          let come = subst (λ a. Comes image last false back u (On (record u { pc = a; registers = h.0; memory = after s.memory d }))) (know.reads 11) h.1 in
          (h.0, then_comes image last false (n + 2) back s u _ to_u r.free come, returned h.0 h.2 h.3)
