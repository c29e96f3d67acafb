-- How the pieces of strings start: the length and the address of the first character.
use Rattle.std.proofs.Common.{◌≡◌, ℕ, zero, suc, ◌+◌, ◌≤◌, ◌<◌, ◌^◌, List, Option, Some, true, false, refl, ap, arith}
use Rattle.std.specs.Prelude.{ℤ, pos, nat_eq, nat_lt}
use Rattle.sil_model.specs.Access.{◌>>=◌}
use Rattle.sil_model.specs.Effects.{MemoryEffect, with_memory}
use Rattle.sil_model.specs.Integers.{◌⊞◌}
use Rattle.sil_model.specs.Memory.{Memory, IsMemory}
use Rattle.sil_model.specs.Settling.{settle}
use Rattle.sil_model.specs.States.{State, Step}
use Rattle.sil_micro.specs.declared.op.Op.{Op}
use Rattle.sil_micro.specs.Expands.{Makes}
use Rattle.sil_micro.specs.MicroStates.{Setting, Micro, Registers}
use Rattle.sil_micro.specs.Pieces.{joined, is_part}
use Rattle.sil_micro.proofs.Making.{more, by_way, then_part}
use Rattle.exp_common.proofs.JoinedParts.{IsFirst, IsPart}
use Rattle.exp_common.proofs.Questions.{by_read}
use Rattle.string_clauses.specs.StringClauses.{first_of, length_at}
use Rattle.string_runtime.specs.StringParts.{start_code, length_code, first_code}

pub start_first : (k statements formats : ℕ) → IsFirst k statements formats 52 (start_code k)
unfolding start_code
start_first k statements formats = record { part = refl; begins = refl; once = refl; names = refl; quiet = refl; weight = refl }

pub length_part : (statements formats : ℕ) (s : ℤ) → IsPart statements formats 44 (length_code s)
unfolding length_code
length_part statements formats s = record { part = refl; begins = refl; names = refl; quiet = refl; weight = refl }

pub first_part : (statements formats : ℕ) (s : ℤ) → IsPart statements formats 96 (first_code s)
unfolding first_code
first_part statements formats s = record { part = refl; begins = refl; names = refl; quiet = refl; weight = refl }

-- the step that an effect on memory makes
abbrev pub after_memory : State → MemoryEffect → Step
after_memory before effect = settle before (with_memory before effect)

module _ (g : Setting) (next : ℕ) (rest : List Op) (inside : is_part rest ≡ true) where
  -- the registers that stay throughout
  abbrev pub standing : ℕ → Registers → Registers
  standing size r = record r { r4 = pos 0; r5 = pos size; r11 = pos 1 }

  abbrev pub begun_at : ℕ → State → State
  begun_at k s = record s { statement = k; steps = s.steps + 1 }

  pub start_goes : (k : ℕ) (u : Micro) (step : Step) (cost : ℕ) → nat_lt u.state.steps g.bound ≡ true →
      Makes g next rest 0 (record u { state = begun_at k u.state; registers = standing u.state.memory.limits.cell_size u.registers; spent = 52 }) step cost → Makes g next (joined (start_code k) rest) 0 u step cost
  unfolding start_code
  start_goes k u step cost h go = by_way (then_part (start_code k) inside (omega arith) go) (λ f z. record { fuel = more 4 f; meets = simp h z })

  module _ (before : State) (failed : Option ℕ) (words : ℕ → ℤ) (r : Registers) (valid : IsMemory before.memory) (cost : ℕ) where
    abbrev m : Memory
    m = before.memory

    abbrev size : ℕ
    size = before.memory.limits.cell_size

    abbrev pub with : Registers → ℕ → Micro
    with registers w = record { state = record before { steps = before.steps + 1 }; registers = registers; scratch = words; failed = failed; spent = w }

    pub length_goes : (s : ℤ) (w : ℕ) (go : ℕ → MemoryEffect) → w + 44 ≤ cost →
        ((l : ℕ) → l < 2 ^ 48 → length_at m s ≡ Some l → Makes g next rest 0 (with (record (standing size r) { r1 = s ⊞ pos size; r7 = pos l }) (w + 8 + 8 + 28)) (after_memory before (go l)) cost) →
        Makes g next (joined (length_code s) rest) 0 (with (standing size r) w) (after_memory before (length_at m s >>= go)) cost
    unfolding length_code
    length_goes s w go pays exit =
        by_read m (s ⊞ pos size) valid (λ none. record { fuel = 4; meets = simp none (refl, refl, omega (arith, pays)) }) (λ a f v is read.
        by_way (then_part (length_code s) inside (omega arith) (exit v read.value (ap (λ o. o >>= (λ d. Some d.v)) is))) (λ fuel z. record { fuel = more 3 fuel; meets = simp is z }))

    pub first_goes : (s : ℤ) (n w : ℕ) (go : ℤ → MemoryEffect) → w + 96 ≤ cost → n < 2 ^ 63 →
        ((at x y z : ℤ) (w' : ℕ) → w' ≤ w + 96 → first_of n m s ≡ Some at → Makes g next rest 0 (with (record (standing size r) { r1 = x; r2 = at; r3 = y; r6 = z; r7 = pos n }) w') (after_memory before (go at)) cost) →
        Makes g next (joined (first_code s) rest) 0 (with (record (standing size r) { r7 = pos n }) w) (after_memory before (first_of n m s >>= go)) cost
    unfolding first_code
    first_goes s zero w go pays small exit =
        by_way (then_part (first_code s) inside (omega arith) (exit (pos 0) s r.r3 (s ⊞ pos size) (w + 8 + 8 + 8 + 8) (omega arith) refl)) (λ f z. record { fuel = more 4 f; meets = z })
    first_goes s (suc n) w go pays small exit =
        let z : nat_eq (suc n) 0 ≡ false = grind arith in
        by_read m s valid (λ none. record { fuel = 6; meets = simp (z, none) (refl, refl, omega (arith, pays)) }) (λ a f v is read.
        by_read m (s ⊞ pos size) valid (λ none. record { fuel = 7; meets = simp (z, is, none) (refl, refl, omega (arith, pays)) }) (λ a2 f2 v2 is2 read2.
        by_way (then_part (first_code s) inside (omega arith) (exit (a ⊞ a2) s a2 (s ⊞ pos size) (w + 8 + 8 + 8 + 8 + 28 + 28 + 8) (omega arith) (simp (is, is2) refl))) (λ f z'. record { fuel = more 7 f; meets = simp (z, is, is2) z' })))
