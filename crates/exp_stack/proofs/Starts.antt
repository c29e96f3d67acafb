-- How pieces of the stack start.
use Rattle.std.proofs.Common.{◌≡◌, ℕ, ◌+◌, ◌-◌, ◌*◌, ◌<◌, ◌≤◌, List, length, Option, Some, None, true, false, refl, arith}
use Rattle.std.proofs.Math.Nat.{mul-le-mul_left}
use Rattle.std.proofs.lemmas.Bool.Decides.{nat_tests}
use Rattle.std.specs.Prelude.{ℤ, pos, IfSome, int_lt, nat_lt, nat_le, if◌then◌else◌}
use Rattle.sil_base.specs.declared.places.TheConstants.{FIRST_CELL}
use Rattle.sil_model.specs.Effects.{Effect}
use Rattle.sil_model.specs.Integers.{◌⊞◌, ◌⊟◌, wrapped_sum, wrapped_difference, wrapped_product}
use Rattle.sil_model.specs.Settling.{settle}
use Rattle.sil_model.specs.Memory.{Memory, IsMemory}
use Rattle.flow_clauses.specs.StackClauses.{above, below, step_down, to_special}
use Rattle.sil_model.specs.States.{State, Step}
use Rattle.sil_micro.specs.declared.op.Op.{Op}
use Rattle.sil_micro.specs.Expands.{Makes}
use Rattle.sil_micro.specs.MicroStates.{Setting, Micro, Registers}
use Rattle.sil_micro.specs.Pieces.{joined, is_part}
use Rattle.sil_micro.proofs.Making.{by_test, more, by_way, then_part}
use Rattle.sil_micro.proofs.Parts.{part_joined}
use Rattle.exp_stack.specs.ListParts.{up_head, down_head, guard_code}
use Rattle.exp_stack.proofs.Arithmetic.{add_pos, difference_pos, times_size}
use Rattle.exp_common.proofs.JoinedParts.{IsFirst, IsPart}
use Rattle.exp_stack.proofs.StackPlaces.{last_of, stack_of}

-- the step of statement k is counted
abbrev pub begun_at : ℕ → State → State
begun_at k s = record s { statement = k; steps = s.steps + 1 }

module _ (g : Setting) (k : ℕ) (rest : List Op) (inside : is_part rest ≡ true) (u : Micro) (cells : ℕ) where
  abbrev m : Memory
  m = u.state.memory

  abbrev size : ℕ
  size = u.state.memory.limits.cell_size

  abbrev pub after_up : Registers
  after_up = record u.registers {
    r4 = pos 0;
    r5 = pos 1;
    r10 = u.state.current ⊞ pos size;
    r11 = pos size;
    r12 = above m u.state.current cells;
    r13 = pos (length m.cells * size);
    r14 = last_of m;
    r15 = above m u.state.current cells;
  }

  pub up_goes : (step : Step) (cost : ℕ) → cells ≤ 100 → IsMemory m → nat_lt u.state.steps g.bound ≡ true →
      Makes g (k + 1) rest 0 (record u { state = begun_at k u.state; registers = after_up; spent = 160 }) step cost → Makes g (k + 1) (joined (up_head k cells) rest) 0 u step cost
  unfolding up_head
  up_goes step cost few v h go =
      let short : length m.cells * size ≤ length m.cells * 64 = mul-le-mul_left (length m.cells) v.limits.most in
      let product : wrapped_product (pos cells) (pos size) ≡ pos (cells * size) = times_size cells size (omega arith) v.limits.most in
      let product' : wrapped_product (pos (length m.cells)) (pos size) ≡ pos (length m.cells * size) = times_size (length m.cells) size (omega (arith, v.count)) v.limits.most in
      let sum : wrapped_sum (pos FIRST_CELL) (pos (length m.cells * size)) ≡ pos (FIRST_CELL + length m.cells * size) = add_pos FIRST_CELL (length m.cells * size) (FIRST_CELL + length m.cells * size) refl (omega (arith, v.count)) in
      let last : wrapped_difference (pos (FIRST_CELL + length m.cells * size)) (pos size) ≡ pos (FIRST_CELL + length m.cells * size - size) = difference_pos (FIRST_CELL + length m.cells * size) size (omega (arith, v.limits.most)) (omega (arith, v.count)) in
      by_way (then_part (up_head k cells) inside (omega arith) go) (λ f z. record { fuel = more 15 f; meets = simp (h, product, product', sum, last) z })

  abbrev pub after_down : Registers
  after_down = record u.registers {
    r4 = pos 0;
    r5 = pos 1;
    r10 = u.state.current;
    r11 = step_down m;
    r12 = below m u.state.current cells;
    r14 = below m u.state.current cells;
    r15 = stack_of g ⊟ pos size;
  }

  pub down_goes : (step : Step) (cost : ℕ) → cells ≤ 100 → IsMemory m → nat_lt u.state.steps g.bound ≡ true →
      Makes g (k + 1) rest 0 (record u { state = begun_at k u.state; registers = after_down; spent = 136 }) step cost → Makes g (k + 1) (joined (down_head k cells) rest) 0 u step cost
  unfolding down_head
  down_goes step cost few v h go =
      let product : wrapped_product (pos cells) (pos size) ≡ pos (cells * size) = times_size cells size (omega arith) v.limits.most in
      by_way (then_part (down_head k cells) inside (omega arith) go) (λ f z. record { fuel = more 12 f; meets = simp (h, product) z })

-- ---- the test

module _ (g : Setting) (next : ℕ) (rest : List Op) (inside : is_part rest ≡ true) (before : State) where
  abbrev begun : State
  begun = record before { steps = before.steps + 1 }

  pub guard_goes : (special : Option ℕ) (r : Registers) (words : ℕ → ℤ) (failed : Option ℕ) (w cost : ℕ) (effect : Effect) → w + 44 ≤ cost →
      (int_lt r.r14 r.r15 ≡ false → Makes g next rest 0 (record { state = begun; registers = r; scratch = words; failed = failed; spent = w + 8 }) (settle before effect) cost) →
      Makes g next (joined (guard_code special) rest) 0 (record { state = begun; registers = r; scratch = words; failed = failed; spent = w }) (settle before (if int_lt r.r14 r.r15 then to_special special before else effect)) cost
  unfolding guard_code
  guard_goes None r words failed w cost effect pays go =
      by_test (int_lt r.r14 r.r15)
      (λ t. record { fuel = 4; meets = simp t (refl, refl, omega (arith, pays)) })
      (λ t. by_way (then_part (guard_code None) inside (omega arith) (go t)) (λ f z. record { fuel = more 1 f; meets = simp t z }))
  guard_goes (Some place) r words failed w cost effect pays go =
      by_test (int_lt r.r14 r.r15)
      (λ t. record { fuel = 4; meets = simp t (refl, omega (arith, pays)) })
      (λ t. by_way (then_part (guard_code (Some place)) inside (omega arith) (go t)) (λ f z. record { fuel = more 1 f; meets = simp t z }))

-- ---- their operations

pub up_first : (k statements formats cells : ℕ) → IsFirst k statements formats 160 (up_head k cells)
unfolding up_head
up_first k statements formats cells = record { part = refl; begins = refl; once = refl; names = refl; quiet = refl; weight = refl }

pub down_first : (k statements formats cells : ℕ) → IsFirst k statements formats 136 (down_head k cells)
unfolding down_head
down_first k statements formats cells = record { part = refl; begins = refl; once = refl; names = refl; quiet = refl; weight = refl }

-- what the test of a special symbol weighs
abbrev pub guard_weight : Option ℕ → ℕ
guard_weight None = 44
guard_weight (Some place) = 8

pub guard_light : (special : Option ℕ) → guard_weight special ≤ 44
guard_light None = omega arith
guard_light (Some place) = omega arith

pub guard_part : (statements formats : ℕ) (special : Option ℕ) → IfSome special (λ place. place < statements) → IsPart statements formats (guard_weight special) (guard_code special)
unfolding guard_code
guard_part statements formats None within = record { part = refl; begins = refl; names = refl; quiet = refl; weight = refl }
guard_part statements formats (Some place) within =
    let le : nat_le place statements ≡ true = grind (arith, nat_tests) in
    record { part = refl; begins = refl; names = simp le refl; quiet = refl; weight = refl }

pub guard_inside : (rest : List Op) → is_part rest ≡ true → (special : Option ℕ) → is_part (joined (guard_code special) rest) ≡ true
unfolding guard_code
guard_inside rest inside None = part_joined (guard_code None) rest refl inside
guard_inside rest inside (Some place) = part_joined (guard_code (Some place)) rest refl inside
