-- Operations whose last instructions set a micro register, or write memory.
use Rattle.std.proofs.Common.{◌≡◌, ℕ, ◌+◌, ◌*◌, ◌<◌, ◌≤◌, List, ◌∷◌, length, take, drop, true, false, refl, subst, ◌∙◌}
use Rattle.std.specs.Prelude.{ℤ, FitsSigned}
use Rattle.std.specs.Int.{w64, cast_unsigned}
use Rattle.rv_isa.specs.declared.instr.Instr.{Instr}
use Rattle.sil_model.specs.Memory as abstract
use Rattle.sil_micro.specs.MicroStates.{Setting, Micro}
use Rattle.sil_micro.specs.Operations.{On}
use Rattle.image_file.specs.Image.{Image}
use Rattle.rv_emulate.specs.EmulatorMemory.{Memory}
use Rattle.rv_emulate.specs.EmulatorStates as emulator
use Rattle.rv_emulate.specs.EmulatorStates.{State}
use Rattle.rv_straight.specs.InstalledWays.{Comes}
use Rattle.rv_straight.specs.Registers.{IsFile, Keeps, Writes, written, are, Knows}
use Rattle.rv_straight.specs.InstrEffects.{Given}
use Rattle.rv_straight.specs.Straight.{at, Follow, writes_after, memory_after}
use Rattle.rv_straight.specs.Code.{IsNext}
use Rattle.rv_straight.specs.Reaching.{Reaches}
use Rattle.rv_straight.proofs.Registers.{read_here, read_other, read_kept}
use Rattle.rv_straight.proofs.Reaching.{runs, knows, ends}
use Rattle.rv_routines.specs.Holds.{HoldsMemory}
use Rattle.rv_operations.specs.Homes.{home, is_temporary}
use Rattle.rv_operations.specs.CodePlaces.{Places}
use Rattle.rv_operations.specs.StandsFor.{StandsFor}
use Rattle.rv_operations.specs.Does.{Does}
use Rattle.rv_operations.proofs.Standing.{home_positive, with_register, with_memory, stands_set, stands_stored}

-- the operation's last instructions, from s with other temporaries
module _ {image : Image} {last : ℕ} {g : Setting} {u : Micro} {s : State} (places : Places) (stands : StandsFor g u s) {pc : ℕ} {ys : List ℕ} (kept : Keeps is_temporary s.registers ys) {code : List Instr} {c : IsNext image last (record s { pc = pc; registers = ys }) code} {n k : ℕ} {ws : Writes} (p : Reaches c n k ws s.memory) where
  abbrev from : State
  from = record s { pc = pc; registers = ys }

  abbrev part : ℕ → List Instr
  part j = take j (drop k code)

  -- a way behind which a micro register was set, and temporaries
  pub lands : (a to : ℕ) (z : ℤ) (us : Writes) (next : ℕ) → to < 16 → FitsSigned w64 z → are is_temporary us ≡ true → Knows ys ((home to, cast_unsigned w64 z) ∷ us) → Comes image last false a (at from (pc + 4 * k) ws s.memory) (emulator.On (at from next ((home to, cast_unsigned w64 z) ∷ us) s.memory)) → Does image last g places false (n + a) next from (On (with_register u to z))
  lands a to z us next lt fits temporary know way =
      let v : ℕ = cast_unsigned w64 z in
      let all : Writes = (home to, v) ∷ us in (
        at from next all s.memory,
        ends p a _ way,
        refl,
        stands_set g u s to z next (written ys all) stands lt fits know.file (know.reads (home to) ∙ read_here ys us (home to) v (home_positive to)) (λ q ne free. know.reads q ∙ read_other ys us (home to) v q ne ∙ read_kept is_temporary ys us q temporary free ∙ kept q free),
      )

  -- the last write is the micro register's
  pub sets : (j : ℕ) (gs : List Given) (to : ℕ) (z : ℤ) (us : Writes) (next : ℕ) → to < 16 → FitsSigned w64 z → 0 < j → k + j ≤ length code → Follow image.constants ys pc k ws s.memory (part j) gs → writes_after ws (part j) gs ≡ (home to, cast_unsigned w64 z) ∷ us → memory_after s.memory (part j) gs ≡ s.memory → are is_temporary us ≡ true → pc + 4 * (k + j) ≡ next → Does image last g places false (n + j) next from (On (with_register u to z))
  sets j gs to z us next lt fits some room does writes memory temporary end =
      let all : Writes = (home to, cast_unsigned w64 z) ∷ us in
      let Way : ℕ → Writes → Memory → Type 0 = λ q w mem. Comes image last false j (at from (pc + 4 * k) ws s.memory) (emulator.On (at from q w mem)) in
      let way = runs p j gs some room does in
      let way' = subst (λ q. Way q (writes_after ws (part j) gs) (memory_after s.memory (part j) gs)) end way in
      let way'' = subst (λ w. Way next w (memory_after s.memory (part j) gs)) writes way' in
      lands j to z us next lt fits temporary (subst (λ w. Knows ys w) writes (knows p j gs room does)) (subst (λ mem. Way next all mem) memory way'')

-- and where memory was written
module _ {image : Image} {last : ℕ} {g : Setting} {u : Micro} {s : State} (places : Places) (stands : StandsFor g u s) {pc : ℕ} {ys : List ℕ} {mem : Memory} (kept : Keeps is_temporary s.registers ys) {code : List Instr} {c : IsNext image last (record s { pc = pc; registers = ys; memory = mem }) code} {n k : ℕ} {ws : Writes} (p : Reaches c n k ws mem) where
  abbrev before : State
  before = record s { pc = pc; registers = ys; memory = mem }

  abbrev rest : ℕ → List Instr
  rest j = take j (drop k code)

  -- the cells that are left are those of another memory
  pub leaves : (j : ℕ) (gs : List Given) (memory : abstract.Memory) (next : ℕ) → 0 < j → k + j ≤ length code → Follow image.constants ys pc k ws mem (rest j) gs → are is_temporary (writes_after ws (rest j) gs) ≡ true → HoldsMemory g.settings.sizes memory (memory_after mem (rest j) gs) → length memory.cells ≡ length u.state.memory.cells → (memory_after mem (rest j) gs).scratch ≡ s.memory.scratch → (memory_after mem (rest j) gs).tables ≡ s.memory.tables → pc + 4 * (k + j) ≡ next → Does image last g places false (n + j) next before (On (with_memory u memory))
  leaves j gs memory next some room does temporary holds count scratch tables end =
      let all = writes_after ws (rest j) gs in
      let after = memory_after mem (rest j) gs in
      let know = knows p j gs room does in (
        at before next all after,
        ends p j _ (subst (λ q. Comes image last false j (at before (pc + 4 * k) ws mem) (emulator.On (at before q all after))) end (runs p j gs some room does)),
        refl,
        stands_stored g u s memory after next (written ys all) stands know.file (λ q free. know.reads q ∙ read_kept is_temporary ys all q temporary free ∙ kept q free) holds count scratch tables,
      )

  -- what is left stands for another micro state
  pub leaves_as : (j : ℕ) (gs : List Given) (v : Micro) (next : ℕ) → 0 < j → k + j ≤ length code → Follow image.constants ys pc k ws mem (rest j) gs → are is_temporary (writes_after ws (rest j) gs) ≡ true → ((zs : List ℕ) → IsFile zs → Keeps is_temporary s.registers zs → StandsFor g v (record s { pc = next; registers = zs; memory = memory_after mem (rest j) gs })) → pc + 4 * (k + j) ≡ next → Does image last g places false (n + j) next before (On v)
  leaves_as j gs v next some room does temporary becomes end =
      let all = writes_after ws (rest j) gs in
      let after = memory_after mem (rest j) gs in
      let know = knows p j gs room does in (
        at before next all after,
        ends p j _ (subst (λ q. Comes image last false j (at before (pc + 4 * k) ws mem) (emulator.On (at before q all after))) end (runs p j gs some room does)),
        refl,
        becomes (written ys all) know.file (λ q free. know.reads q ∙ read_kept is_temporary ys all q temporary free ∙ kept q free),
      )
