-- A frame is written as two cells, and then its arguments.
use Rattle.std.proofs.Common.{◌≡◌, ℕ, suc, ◌+◌, List, ◌∷◌, Option, Some, None, refl, sym, ap, ◌∙◌, arith}
use Rattle.std.specs.Prelude.{ℤ}
use Rattle.layout_params.specs.declared.cell.Descr.{Descr}
use Rattle.sil_model.specs.Access.{◌>>=◌, set_descr_at}
use Rattle.sil_model.specs.Integers.{◌⊞◌}
use Rattle.sil_model.specs.Lists.{all_written, line}
use Rattle.sil_model.specs.Memory.{Memory}

two_cells : (m : Memory) (at step : ℤ) (n : ℕ) (x y : Descr) (values : List Descr) →
    all_written m (line at step (suc (suc n))) (x ∷ y ∷ values) ≡ (set_descr_at m at x >>= (λ m1. set_descr_at m1 (at ⊞ step) y >>= (λ m2. all_written m2 (line (at ⊞ step ⊞ step) step n) values)))
unfolding all_written line
two_cells m at step n x y values = refl

pub two_more : (m : Memory) (at step : ℤ) (n : ℕ) (x y : Descr) (values : List Descr) →
    all_written m (line at step (2 + n)) (x ∷ y ∷ values) ≡ (set_descr_at m at x >>= (λ m1. set_descr_at m1 (at ⊞ step) y >>= (λ m2. all_written m2 (line (at ⊞ step ⊞ step) step n) values)))
two_more m at step n x y values = let e : 2 + n ≡ suc (suc n) = omega arith in rw e (two_cells m at step n x y values)

-- where the first write fails, where the second fails, and where both are made
pub first_stops : (m : Memory) (top step first : ℤ) (n : ℕ) (x y : Descr) (values : List Descr) → first ≡ top ⊞ step → set_descr_at m first x ≡ None → all_written m (line (top ⊞ step) step (2 + n)) (x ∷ y ∷ values) ≡ None
first_stops m top step first n x y values e is =
    two_more m (top ⊞ step) step n x y values ∙ ap (λ o. o >>= (λ m1. set_descr_at m1 (top ⊞ step ⊞ step) y >>= (λ m2. all_written m2 (line (top ⊞ step ⊞ step ⊞ step) step n) values))) (ap (λ at. set_descr_at m at x) (sym e) ∙ is)

pub second_goes : (m m1 : Memory) (top step first second : ℤ) (n : ℕ) (x y : Descr) (values : List Descr) (o : Option Memory) → first ≡ top ⊞ step → second ≡ first ⊞ step → set_descr_at m first x ≡ Some m1 → set_descr_at m1 second y ≡ o →
    all_written m (line (top ⊞ step) step (2 + n)) (x ∷ y ∷ values) ≡ (o >>= (λ m2. all_written m2 (line (second ⊞ step) step n) values))
second_goes m m1 top step first second n x y values o e e' is is' =
    let at : second ≡ top ⊞ step ⊞ step = e' ∙ ap (λ z. z ⊞ step) e in
    two_more m (top ⊞ step) step n x y values
    ∙ ap (λ o. o >>= (λ m1. set_descr_at m1 (top ⊞ step ⊞ step) y >>= (λ m2. all_written m2 (line (top ⊞ step ⊞ step ⊞ step) step n) values))) (ap (λ at. set_descr_at m at x) (sym e) ∙ is)
    ∙ ap (λ at. set_descr_at m1 at y >>= (λ m2. all_written m2 (line (at ⊞ step) step n) values)) (sym at)
    ∙ ap (λ o. o >>= (λ m2. all_written m2 (line (second ⊞ step) step n) values)) is'
