-- Code without branches runs as is said of it.
use Rattle.std.proofs.Common.{◌≡◌, ℕ, zero, suc, ◌+◌, ◌*◌, ◌^◌, ◌<◌, ◌≤◌, List, [], ◌∷◌, length, take, drop, Some, false, refl, sym, ap, subst, ◌∙◌, arith}
use Rattle.std.specs.Prelude.{slice_get}
use Rattle.rv_isa.specs.declared.instr.Instr.{Instr}
use Rattle.rv_isa.specs.declared.instr.Instr.TheVariants.{R, I, S, B, U, J, Ecall}
use Rattle.rv_isa.specs.InstrWords.{word_of, IsInstr}
use Rattle.image_file.specs.Image.{Image}
use Rattle.rv_emulate.specs.EmulatorMemory.{Memory}
use Rattle.rv_emulate.specs.EmulatorStates.{State, On, register}
use Rattle.rv_emulate.specs.EmulatorSteps.{word_at}
use Rattle.rv_straight.specs.InstalledWays.{IsBetween, Comes}
use Rattle.rv_straight.specs.Registers.{Writes, written, read, Knows}
use Rattle.rv_straight.specs.InstrEffects.{effect, Given, Value, Leaves, Gives, target}
use Rattle.rv_straight.specs.Straight.{writes_with, memory_with, Follow, writes_after, memory_after, at}
use Rattle.rv_straight.specs.Code.{StandAt, IsNext}
use Rattle.rv_straight.specs.Laws.{after}
use Rattle.rv_straight.proofs.Ways.{step_at, is_call, silent_at, comes_now, then_comes, comes_within}
use Rattle.rv_straight.proofs.Effects.{small, given_small, acts, effect_same, knows_next}

-- ---- code that stands at a place

-- the k-th of the instructions that stand at a place
pub has : (words : List ℕ) (code : List Instr) (pc k : ℕ) (i : Instr) → StandAt words pc code → slice_get code k ≡ Some i → IsInstr i × (word_at words (pc + 4 * k) ≡ Some (word_of i))
has words [] pc k i h e = absurd cc
has words (j ∷ code) pc zero i h e =
    let same : j ≡ i = cc in
    let place : pc + 4 * 0 ≡ pc = omega arith in
    (subst IsInstr same h.0, rw place (h.1 ∙ ap (λ x. Some (word_of x)) same))
has words (j ∷ code) pc (suc k) i h e =
    let place : pc + 4 * suc k ≡ pc + 4 + 4 * k = omega arith in
    rw place (has words code (pc + 4) k i h.2 e)

first_of_drop : (k : ℕ) (code : List Instr) (i : Instr) (is : List Instr) → take (suc (length is)) (drop k code) ≡ i ∷ is → (slice_get code k ≡ Some i) × (take (length is) (drop (suc k) code) ≡ is)
first_of_drop k [] i is e = absurd (none k e)
  where
    none : (k : ℕ) → take {A = Instr} (suc (length is)) (drop k []) ≡ i ∷ is → ⊥
    none zero e = cc
    none (suc k) e = cc
first_of_drop zero (j ∷ code) i is e = (cc, cc)
first_of_drop (suc k) (j ∷ code) i is e = first_of_drop k code i is e

module _ (image : Image) (last : ℕ) (s : State) (code : List Instr) (c : IsNext image last s code) where
  -- the state before the k-th instruction
  abbrev pub here : ℕ → Writes → Memory → State
  here k ws m = at s (s.pc + 4 * k) ws m

  pub between : (k : ℕ) (ws : Writes) (m : Memory) → 0 < k → k < length code → IsBetween image last (here k ws m)
  between k ws m some lt = c.free (s.pc + 4 * k) (omega arith) (omega arith)

  next_is : (k : ℕ) (ws : Writes) (m : Memory) (i : Instr) (g : Given) → after (here k ws m) (target i) g ≡ On (here (suc k) (writes_with ws i g) (memory_with m g))
  next_is k ws m i (Value v) = let place : s.pc + 4 * k + 4 ≡ s.pc + 4 * suc k = omega arith in rw place refl
  next_is k ws m i (Leaves n) = let place : s.pc + 4 * k + 4 ≡ s.pc + 4 * suc k = omega arith in rw place refl

  no_call : (constants : List ℕ) (m : Memory) (pc : ℕ) (x : ℕ → ℕ) (i : Instr) (g : Given) → Gives (effect constants m pc x i) g → is_call i ≡ false
  no_call constants m pc x (R op rd rs1 rs2) g e = refl
  no_call constants m pc x (I op rd rs1 imm) g e = refl
  no_call constants m pc x (S op rs1 rs2 imm) g e = refl
  no_call constants m pc x (B op rs1 rs2 imm) g e = refl
  no_call constants m pc x (U op rd imm) g e = refl
  no_call constants m pc x (J rd imm) g e = refl
  no_call constants m pc x Ecall g e = absurd e

  one : (k : ℕ) (ws : Writes) (m : Memory) (i : Instr) (g : Given) → slice_get code k ≡ Some i → Knows s.registers ws → Gives (effect image.constants m (s.pc + 4 * k) (read s.registers ws) i) g → Comes image last false 1 (here k ws m) (On (here (suc k) (writes_with ws i g) (memory_with m g)))
  one k ws m i g e know h =
      let t = here k ws m in
      let word = has image.words code s.pc k i c.stands e in
      let same = effect_same image.constants m (s.pc + 4 * k) (λ q. register (written s.registers ws) q) (read s.registers ws) i know.reads in
      let gives : Gives (effect image.constants m (s.pc + 4 * k) (λ q. register (written s.registers ws) q) i) g = subst (λ x. Gives x g) (sym same) h in
      comes_now image last false t (On (here (suc k) (writes_with ws i g) (memory_with m g))) (step_at image t i word.0 word.1 ∙ acts image t i g gives ∙ next_is k ws m i g) (silent_at image t i word.0 word.1 (no_call image.constants m (s.pc + 4 * k) (read s.registers ws) i g h))

  known_after : (k : ℕ) (ws : Writes) (m : Memory) (i : Instr) (g : Given) → slice_get code k ≡ Some i → Knows s.registers ws → Gives (effect image.constants m (s.pc + 4 * k) (read s.registers ws) i) g → Knows s.registers (writes_with ws i g)
  known_after k ws m i g e know h =
      let word = has image.words code s.pc k i c.stands e in
      let low = λ (q : ℕ). subst (λ y. y < 2 ^ 64) (know.reads q) (know.file.small q) in
      let few = small image.constants m (s.pc + 4 * k) (read s.registers ws) i word.0 low in
      knows_next s.registers ws i g word.0 (λ v is. given_small (effect image.constants m (s.pc + 4 * k) (read s.registers ws) i) v few (subst (λ x. Gives (effect image.constants m (s.pc + 4 * k) (read s.registers ws) i) x) is h)) know

  -- the instructions run as is said of them
  pub straight : (k : ℕ) (ws : Writes) (m : Memory) (is : List Instr) (gs : List Given) → take (length is) (drop k code) ≡ is → 0 < length is → k + length is ≤ length code → Knows s.registers ws → Follow image.constants s.registers s.pc k ws m is gs → Comes image last false (length is) (here k ws m) (On (here (k + length is) (writes_after ws is gs) (memory_after m is gs)))
  straight k ws m [] gs e some room know h = absurd (omega (arith, some))
  straight k ws m (i ∷ is) [] e some room know h = absurd h
  straight k ws m (i ∷ []) (g ∷ gs) e some room know h =
      let place : k + 1 ≡ suc k = omega arith in
      rw place (one k ws m i g (first_of_drop k code i [] e).0 know h.0)
  straight k ws m (i ∷ j ∷ is) (g ∷ gs) e some room know h =
      let f = first_of_drop k code i (j ∷ is) e in
      let place : k + length (i ∷ j ∷ is) ≡ suc k + length (j ∷ is) = omega arith in
      let first = one k ws m i g f.0 know h.0 in
      let rest = straight (suc k) (writes_with ws i g) (memory_with m g) (j ∷ is) gs f.1 (omega arith) (omega (arith, room)) (known_after k ws m i g f.0 know h.0) h.1 in
      let both = then_comes image last false 1 (length (j ∷ is)) (here k ws m) (here (suc k) (writes_with ws i g) (memory_with m g)) _ first (between (suc k) (writes_with ws i g) (memory_with m g) (omega arith) (omega (arith, room))) rest in
      rw place (comes_within image last false (1 + length (j ∷ is)) (length (i ∷ j ∷ is)) (here k ws m) _ both (omega arith))

  -- and what is known of registers before is known after
  pub known : (k : ℕ) (ws : Writes) (m : Memory) (is : List Instr) (gs : List Given) → take (length is) (drop k code) ≡ is → Knows s.registers ws → Follow image.constants s.registers s.pc k ws m is gs → Knows s.registers (writes_after ws is gs)
  known k ws m [] gs e know h = know
  known k ws m (i ∷ is) [] e know h = absurd h
  known k ws m (i ∷ is) (g ∷ gs) e know h =
      let f = first_of_drop k code i is e in
      known (suc k) (writes_with ws i g) (memory_with m g) is gs f.1 (known_after k ws m i g f.0 know h.0) h.1
