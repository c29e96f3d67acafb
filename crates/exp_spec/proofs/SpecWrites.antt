-- What the parts do that write a specifier.
use Rattle.std.proofs.Common.{◌≡◌, ℕ, ◌+◌, ◌≤◌, Option, Some, None, true, refl, arith}
use Rattle.std.specs.Prelude.{ℤ, pos, nat_le}
use Rattle.layout_params.specs.declared.cell.Cell.TheVariants.{Descr}
use Rattle.sil_model.specs.declared.program.Flow.TheVariants.{Next}
use Rattle.sil_model.specs.Access.{◌>>=◌, put_cell}
use Rattle.sil_model.specs.Arguments.{flow_to}
use Rattle.sil_model.specs.Effects.{leads, with_memory}
use Rattle.sil_model.specs.Integers.{◌⊞◌, within}
use Rattle.sil_model.specs.Memory.{Memory}
use Rattle.sil_model.specs.Settling.{settle}
use Rattle.sil_model.specs.Specifiers.{set_spec_at}
use Rattle.sil_model.specs.States.{State}
use Rattle.sil_micro.specs.Expands.{Makes}
use Rattle.sil_micro.specs.Pieces.{is_part}
use Rattle.sil_micro.specs.MicroStates.{Setting, Micro, Registers}
use Rattle.sil_micro.proofs.Making.{by_option}
use Rattle.exp_common.specs.Locations.{lead}
use Rattle.exp_common.proofs.JoinedParts.{IsPart}
use Rattle.exp_common.proofs.Leads.{goes_to}
use Rattle.exp_common.proofs.Questions.{zero_within}
use Rattle.exp_spec.specs.SpecParts.{write_code, write_to_code}

pub write_part : (statements formats : ℕ) → IsPart statements formats 72 write_code
unfolding write_code
write_part statements formats = record { part = refl; begins = refl; names = refl; quiet = refl; weight = refl }

pub write_to_part : (statements formats to : ℕ) → nat_le to statements ≡ true → IsPart statements formats 80 (write_to_code to)
unfolding write_to_code
write_to_part statements formats to within = record { part = refl; begins = refl; names = simp within; quiet = refl; weight = refl }

pub write_to_inside : (to : ℕ) → is_part (write_to_code to) ≡ true
unfolding write_to_code
write_to_inside to = refl

module _ (g : Setting) (before : State) (failed : Option ℕ) (words : ℕ → ℤ) (r : Registers) (cost : ℕ) (at a : ℤ) (f v : ℕ) (o z : ℤ) (w : ℕ)
    (f_fits : within before.memory.limits.flag_limit (pos f) ≡ Some f) (v_fits : within before.memory.limits.value_limit (pos v) ≡ Some v) (pays : w + 80 ≤ cost) where
  -- the state before the first operation, in which the step counts
  abbrev pub before_write : Micro
  before_write = record {
    state = record before { steps = before.steps + 1 };
    registers = record r { r1 = at; r2 = a; r3 = pos f; r4 = pos v; r5 = o; r6 = z; r7 = pos before.memory.limits.cell_size };
    scratch = words;
    failed = failed;
    spent = w;
  }

  -- the specifier with a length
  abbrev set_with : ℕ → Option Memory
  set_with l = set_spec_at before.memory at (record { a = a; f = f; v = v; o = o; l = l })

  pub write_goes : (length : Option ℕ) → within before.memory.limits.value_limit z ≡ length →
      Makes g (before.statement + 1) write_code 0 before_write (settle before (with_memory before (length >>= (λ l. leads Next (set_with l))))) cost
  unfolding write_code
  write_goes None lost =
      by_option (put_cell before.memory at (Descr (record { a = a; f = f; v = v })))
      (λ none. record { fuel = 5; meets = simp (f_fits, v_fits, none) (refl, refl, omega (arith, pays)) })
      (λ cells put. record { fuel = 5; meets = simp (f_fits, v_fits, put, zero_within, lost) (refl, refl, omega (arith, pays)) })
  write_goes (Some l) fits =
      by_option (put_cell before.memory at (Descr (record { a = a; f = f; v = v })))
      (λ none. record { fuel = 5; meets = simp (f_fits, v_fits, none) (refl, refl, omega (arith, pays)) })
      (λ cells put.
      by_option (put_cell (record before.memory { cells = cells }) (at ⊞ pos before.memory.limits.cell_size) (Descr (record { a = o; f = 0; v = l })))
      (λ none. record { fuel = 5; meets = simp (f_fits, v_fits, put, zero_within, fits, none) (refl, refl, omega (arith, pays)) })
      (λ cells' put'. record { fuel = 5; meets = simp (f_fits, v_fits, put, zero_within, fits, put') (refl, omega (arith, pays)) }))

  pub write_to_goes : (location length : Option ℕ) → within before.memory.limits.value_limit z ≡ length →
      Makes g (before.statement + 1) (write_to_code (lead before.statement location)) 0 before_write (settle before (with_memory before (length >>= (λ l. leads (flow_to location) (set_with l))))) cost
  unfolding write_to_code
  write_to_goes location None lost =
      by_option (put_cell before.memory at (Descr (record { a = a; f = f; v = v })))
      (λ none. record { fuel = 6; meets = simp (f_fits, v_fits, none) (refl, refl, omega (arith, pays)) })
      (λ cells put. record { fuel = 6; meets = simp (f_fits, v_fits, put, zero_within, lost) (refl, refl, omega (arith, pays)) })
  write_to_goes location (Some l) fits =
      by_option (put_cell before.memory at (Descr (record { a = a; f = f; v = v })))
      (λ none. record { fuel = 6; meets = simp (f_fits, v_fits, none) (refl, refl, omega (arith, pays)) })
      (λ cells put.
      by_option (put_cell (record before.memory { cells = cells }) (at ⊞ pos before.memory.limits.cell_size) (Descr (record { a = o; f = 0; v = l })))
      (λ none. record { fuel = 6; meets = simp (f_fits, v_fits, put, zero_within, fits, none) (refl, refl, omega (arith, pays)) })
      (λ cells' put'. record { fuel = 6; meets = simp (f_fits, v_fits, put, zero_within, fits, put', goes_to) (refl, omega (arith, pays)) }))
