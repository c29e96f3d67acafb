-- The loop that writes all cells.
use Rattle.std.proofs.Common.{◌≡◌, ℕ, suc, ◌+◌, ◌*◌, ◌≤◌, List, [], ◌∷◌, length, Option, true, false, refl, arith}
use Rattle.std.specs.Prelude.{ℤ, pos, nat_eq}
use Rattle.layout_params.specs.declared.cell.Cell.{Cell}
use Rattle.layout_params.specs.declared.cell.Cell.TheVariants.{Descr as Describes}
use Rattle.layout_params.specs.declared.cell.Descr.{Descr}
use Rattle.sil_model.specs.Access.{◌>>=◌, put_cell}
use Rattle.sil_model.specs.Effects.{Effect}
use Rattle.sil_model.specs.Integers.{wrapped_sum, wrapped_difference}
use Rattle.sil_model.specs.Lists.{all_written}
use Rattle.sil_model.specs.Settling.{settle}
use Rattle.sil_model.specs.Memory.{Memory}
use Rattle.sil_model.specs.States.{State, Step}
use Rattle.sil_micro.specs.declared.op.Op.{Op}
use Rattle.sil_micro.specs.Expands.{Makes}
use Rattle.sil_micro.specs.MicroStates.{Setting, Micro, Registers}
use Rattle.sil_micro.specs.Pieces.{joined, is_part}
use Rattle.sil_micro.proofs.Making.{by_option, more, by_way, then_part}
use Rattle.exp_stack.specs.ListParts.{scatter_code}
use Rattle.exp_stack.proofs.Arithmetic.{sub_one, add_pos}
use Rattle.exp_common.proofs.JoinedParts.{IsPart}
use Rattle.exp_stack.proofs.ScratchWords.{HoldsAt, HoldsValues, AllFit, fits_word}

pub scatter_part : (statements formats count : ℕ) → IsPart statements formats 220 (scatter_code count)
unfolding scatter_code
scatter_part statements formats count = record { part = refl; begins = refl; names = refl; quiet = refl; weight = refl }

module _ (g : Setting) (next : ℕ) (rest : List Op) (inside : is_part rest ≡ true) (before : State) (failed : Option ℕ) (r : Registers) (words : ℕ → ℤ) (count0 cost : ℕ) where
  abbrev pub with : List Cell → Memory
  with cells = record before.memory { cells = cells }

  abbrev pub begun_with : List Cell → State
  begun_with cells = record before { memory = with cells; steps = before.steps + 1 }

  abbrev Goes : ℕ → Micro → Step → Type 0
  Goes place u step = Makes g next (joined (scatter_code count0) rest) place u step cost

  -- the state at the loop's head, and behind the loop
  abbrev pub at_scatter : ℕ → ℕ → ℕ → ℤ → ℤ → ℤ → ℤ → List Cell → ℕ → Micro
  at_scatter from to left x a f v cells w = record {
    state = begun_with cells;
    registers = record r { r1 = pos from; r2 = pos to; r3 = pos left; r4 = pos 0; r5 = pos 1; r6 = x; r7 = a; r8 = f; r9 = v };
    scratch = words;
    failed = failed;
    spent = w;
  }

  abbrev Exits : (Memory → Effect) → ℕ → Type 0
  Exits go paid = (cells' : List Cell) (from' to' : ℕ) (x' a' f' v' : ℤ) (w' : ℕ) → w' ≤ paid → Makes g next rest 0 (at_scatter from' to' 0 x' a' f' v' cells' w') (settle before (go (with cells'))) cost

  scatter_loop : (targets : List ℤ) (values : List Descr) (cells : List Cell) (from to : ℕ) (x a f v : ℤ) (w : ℕ) (go : Memory → Effect) →
      length values ≡ length targets → from + length targets ≤ 8000 → to + 3 * length targets ≤ 8000 → HoldsAt words from targets → HoldsValues words to values → AllFit before.memory.limits values →
      w + 200 * length targets + 8 ≤ cost → Exits go (w + 200 * length targets + 8) →
      Goes 3 (at_scatter from to (length targets) x a f v cells w) (settle before (all_written (with cells) targets values >>= go))
  unfolding all_written scatter_code
  scatter_loop [] values cells from to x a f v w go many small small' held held' fit pays exit =
      by_way (then_part (scatter_code count0) inside (omega arith) (exit cells from to x a f v (w + 8) (omega arith))) (λ fuel y. record { fuel = suc fuel; meets = y })
  scatter_loop (at ∷ ats) [] cells from to x a f v w go many small small' held held' fit pays exit = absurd (omega (arith, many))
  scatter_loop (at ∷ ats) (d ∷ ds) cells from to x a f v w go many small small' held held' fit pays exit =
      let z : nat_eq (suc (length ats)) 0 ≡ false = grind arith in
      let here = held.0 in
      let ha = held'.0 in
      let hf = held'.1 in
      let hv = held'.2 in
      let ff = fit.0 in
      let fv = fit.1 in
      let t = fits_word from (omega arith) in
      let t0 = fits_word to (omega arith) in
      let t1 = fits_word (to + 1) (omega arith) in
      let t2 = fits_word (to + 2) (omega arith) in
      let up : wrapped_sum (pos from) (pos 1) ≡ pos (from + 1) = add_pos from 1 (from + 1) refl (omega arith) in
      let up1 : wrapped_sum (pos to) (pos 1) ≡ pos (to + 1) = add_pos to 1 (to + 1) refl (omega arith) in
      let up2 : wrapped_sum (pos (to + 1)) (pos 1) ≡ pos (to + 2) = add_pos (to + 1) 1 (to + 2) (omega arith) (omega arith) in
      let up3 : wrapped_sum (pos (to + 2)) (pos 1) ≡ pos (to + 3) = add_pos (to + 2) 1 (to + 3) (omega arith) (omega arith) in
      let down : wrapped_difference (pos (suc (length ats))) (pos 1) ≡ pos (length ats) = sub_one (length ats) (omega arith) in
      by_option (put_cell (with cells) at (Describes (record { a = d.a; f = d.f; v = d.v })))
      (λ e. record { fuel = 12; meets = simp (z, t, here, t0, t1, t2, ha, hf, hv, up1, up2, up3, ff, fv, e) (refl, refl, omega (arith, pays)) })
      (λ cells' e.
      by_way (scatter_loop ats ds cells' (from + 1) (to + 3) at d.a (pos d.f) (pos d.v) (w + 8 + 28 + 28 + 8 + 28 + 8 + 28 + 8 + 28 + 8 + 8 + 8) go (omega (arith, many)) (omega arith) (omega arith) held.1 held'.3 fit.2 (omega (arith, pays))
      (λ cells'' from' to' x' a' f' v' w' paid. exit cells'' from' to' x' a' f' v' w' (omega (arith, paid))))
      (λ fuel y. record { fuel = more 12 fuel; meets = simp (z, t, here, t0, t1, t2, ha, hf, hv, up, up1, up2, up3, down, ff, fv, e) y }))

  -- the state before it
  abbrev pub before_scatter : ℤ → ℤ → ℤ → ℤ → ℤ → ℤ → ℤ → ℕ → Micro
  before_scatter i j n x a f v w = record {
    state = begun_with before.memory.cells;
    registers = record r { r1 = i; r2 = j; r3 = n; r4 = pos 0; r5 = pos 1; r6 = x; r7 = a; r8 = f; r9 = v };
    scratch = words;
    failed = failed;
    spent = w;
  }

  pub scatter_goes : (targets : List ℤ) (values : List Descr) (i j n x a f v : ℤ) (w : ℕ) (go : Memory → Effect) →
      count0 ≡ length targets → length values ≡ length targets → length targets ≤ 1000 → HoldsAt words 100 targets → HoldsValues words 200 values → AllFit before.memory.limits values →
      w + 200 * length targets + 32 ≤ cost → Exits go (w + 200 * length targets + 32) →
      Goes 0 (before_scatter i j n x a f v w) (settle before (all_written before.memory targets values >>= go))
  unfolding scatter_code
  scatter_goes targets values i j n x a f v w go count many few held held' fit pays exit =
      by_way (scatter_loop targets values before.memory.cells 100 200 x a f v (w + 8 + 8 + 8) go many (omega arith) (omega arith) held held' fit (omega (arith, pays))
      (λ cells from' to' x' a' f' v' w' paid. exit cells from' to' x' a' f' v' w' (omega (arith, paid)))) (λ fuel y. record { fuel = more 3 fuel; meets = simp count y })
