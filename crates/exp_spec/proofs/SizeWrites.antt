-- What the part does that writes a size.
use Rattle.std.proofs.Common.{ℕ, ◌+◌, ◌≤◌, Option, refl, arith}
use Rattle.std.specs.Prelude.{ℤ}
use Rattle.layout_params.specs.declared.cell.Cell.TheVariants.{Descr}
use Rattle.sil_model.specs.Access.{put_cell, set_descr_at, integer_alone}
use Rattle.sil_model.specs.Effects.{onward, with_memory}
use Rattle.sil_model.specs.Settling.{settle}
use Rattle.sil_model.specs.States.{State}
use Rattle.sil_micro.specs.Expands.{Makes}
use Rattle.sil_micro.specs.MicroStates.{Setting, Micro, Registers}
use Rattle.sil_micro.proofs.Making.{by_option}
use Rattle.exp_common.proofs.JoinedParts.{IsPart}
use Rattle.exp_common.proofs.Questions.{zero_within}
use Rattle.exp_spec.specs.SpecParts.{size_code}

pub size_part : (statements formats : ℕ) (at : ℤ) → IsPart statements formats 44 (size_code at)
unfolding size_code
size_part statements formats at = record { part = refl; begins = refl; names = refl; quiet = refl; weight = refl }

module _ (g : Setting) (before : State) (failed : Option ℕ) (words : ℕ → ℤ) (r : Registers) (cost : ℕ) (at n : ℤ) (w : ℕ) (pays : w + 44 ≤ cost) where
  -- the state before the first operation, in which the step counts
  abbrev pub before_size : Micro
  before_size = record { state = record before { steps = before.steps + 1 }; registers = record r { r4 = n }; scratch = words; failed = failed; spent = w }

  pub size_goes : Makes g (before.statement + 1) (size_code at) 0 before_size (settle before (with_memory before (onward (set_descr_at before.memory at (integer_alone n))))) cost
  unfolding size_code
  size_goes =
      by_option (put_cell before.memory at (Descr (record { a = n; f = 0; v = 0 })))
      (λ none. record { fuel = 4; meets = simp (zero_within, none) (refl, refl, omega (arith, pays)) })
      (λ cells put. record { fuel = 4; meets = simp (zero_within, put) (refl, omega (arith, pays)) })
