-- The loop that reads all cells.
use Rattle.std.proofs.Common.{◌≡◌, ℕ, suc, ◌+◌, ◌*◌, ◌≤◌, List, [], ◌∷◌, length, Option, true, false, refl, arith}
use Rattle.std.specs.Prelude.{ℤ, pos, nat_eq}
use Rattle.layout_params.specs.declared.cell.Descr.{Descr}
use Rattle.sil_model.specs.Access.{◌>>=◌, descr_at}
use Rattle.sil_model.specs.Effects.{Effect}
use Rattle.sil_model.specs.Integers.{wrapped_sum, wrapped_difference}
use Rattle.sil_model.specs.Lists.{all_read}
use Rattle.sil_model.specs.Settling.{settle}
use Rattle.sil_model.specs.Memory.{IsMemory}
use Rattle.sil_model.specs.States.{State, Step}
use Rattle.sil_micro.specs.declared.op.Op.{Op}
use Rattle.sil_micro.specs.Expands.{Makes}
use Rattle.sil_micro.specs.MicroStates.{Setting, Micro, Registers}
use Rattle.sil_micro.specs.Pieces.{joined, is_part}
use Rattle.sil_micro.proofs.Fields.{f_again, v_again}
use Rattle.sil_micro.proofs.Making.{by_option, more, by_way, then_part}
use Rattle.exp_stack.specs.ListParts.{gather_code}
use Rattle.exp_stack.proofs.Arithmetic.{sub_one, add_pos}
use Rattle.exp_common.proofs.JoinedParts.{IsPart}
use Rattle.exp_stack.proofs.ScratchWords.{HoldsAt, holds_below, value_below, with_value, Gathered, gathered_none, gathered_more, fits_word, bind_assoc}

pub gather_part : (statements formats to count : ℕ) → IsPart statements formats 276 (gather_code to count)
unfolding gather_code
gather_part statements formats to count = record { part = refl; begins = refl; names = refl; quiet = refl; weight = refl }

module _ (g : Setting) (next : ℕ) (rest : List Op) (inside : is_part rest ≡ true) (before : State) (failed : Option ℕ) (r : Registers) (to0 count0 cost : ℕ) where
  abbrev begun : State
  begun = record before { steps = before.steps + 1 }

  abbrev Goes : ℕ → Micro → Step → Type 0
  Goes place u step = Makes g next (joined (gather_code to0 count0) rest) place u step cost

  -- the state at the loop's head, and behind the loop
  abbrev pub at_gather : ℕ → ℕ → ℕ → ℤ → ℤ → ℤ → ℤ → (ℕ → ℤ) → ℕ → Micro
  at_gather from to left x a f v words w = record {
    state = begun;
    registers = record r { r1 = pos from; r2 = pos to; r3 = pos left; r4 = pos 0; r5 = pos 1; r6 = x; r7 = a; r8 = f; r9 = v };
    scratch = words;
    failed = failed;
    spent = w;
  }

  -- what was read is in the words, and what comes behind the loop goes on with it
  abbrev Exits : ℕ → ℕ → (ℕ → ℤ) → (List Descr → Effect) → ℕ → Type 0
  Exits to count words go paid = (values : List Descr) (from' to' : ℕ) (x' a' f' v' : ℤ) (words' : ℕ → ℤ) (w' : ℕ) → Gathered before.memory.limits words to count values words' → w' ≤ paid →
      Makes g next rest 0 (at_gather from' to' 0 x' a' f' v' words' w') (settle before (go values)) cost

  gather_loop : (sources : List ℤ) (from to : ℕ) (x a f v : ℤ) (words : ℕ → ℤ) (w : ℕ) (go : List Descr → Effect) →
      IsMemory before.memory → from + length sources ≤ to → to + 3 * length sources ≤ 8000 → HoldsAt words from sources → w + 260 * length sources + 8 ≤ cost →
      Exits to (length sources) words go (w + 260 * length sources + 8) → Goes 3 (at_gather from to (length sources) x a f v words w) (settle before (all_read before.memory sources >>= go))
  unfolding all_read gather_code
  gather_loop [] from to x a f v words w go valid low small held pays exit =
      by_way (then_part (gather_code to0 count0) inside (omega arith) (exit [] from to x a f v words (w + 8) (gathered_none before.memory.limits words to) (omega arith))) (λ fuel y. record { fuel = suc fuel; meets = y })
  gather_loop (at ∷ ats) from to x a f v words w go valid low small held pays exit =
      let z : nat_eq (suc (length ats)) 0 ≡ false = grind arith in
      let here = held.0 in
      let t = fits_word from (omega arith) in
      let t0 = fits_word to (omega arith) in
      let t1 = fits_word (to + 1) (omega arith) in
      let t2 = fits_word (to + 2) (omega arith) in
      let up : wrapped_sum (pos from) (pos 1) ≡ pos (from + 1) = add_pos from 1 (from + 1) refl (omega arith) in
      let up1 : wrapped_sum (pos to) (pos 1) ≡ pos (to + 1) = add_pos to 1 (to + 1) refl (omega arith) in
      let up2 : wrapped_sum (pos (to + 1)) (pos 1) ≡ pos (to + 2) = add_pos (to + 1) 1 (to + 2) (omega arith) (omega arith) in
      let up3 : wrapped_sum (pos (to + 2)) (pos 1) ≡ pos (to + 3) = add_pos (to + 2) 1 (to + 3) (omega arith) (omega arith) in
      let down : wrapped_difference (pos (suc (length ats))) (pos 1) ≡ pos (length ats) = sub_one (length ats) (omega arith) in
      by_option (descr_at before.memory at)
      (λ e. record { fuel = 8; meets = simp (z, t, here, e) (refl, refl, omega (arith, pays)) })
      (λ d e.
      let fits = f_again before.memory at d valid e in
      let fits' = v_again before.memory at d valid e in
      let words3 = with_value words to d in
      let held' = holds_below ats (from + 1) to words words3 (omega arith) (value_below words to d) held.1 in
      by_way (gather_loop ats (from + 1) (to + 3) at d.a (pos d.f) (pos d.v) words3 (w + 8 + 28 + 28 + 28 + 28 + 28 + 8 + 28 + 8 + 28 + 8 + 8 + 8 + 8) (λ ds. go (d ∷ ds)) valid (omega arith) (omega arith) held' (omega (arith, pays))
      (λ values from' to' x' a' f' v' words' w' gathered paid. exit (d ∷ values) from' to' x' a' f' v' words' w' (gathered_more before.memory.limits words to (length ats) d values words' fits fits' gathered) (omega (arith, paid))))
      (λ fuel y. record { fuel = more 14 fuel; meets = simp (z, t, here, e, t0, t1, t2, up, up1, up2, up3, down, bind_assoc) y }))

  -- the state before it
  abbrev pub before_gather : ℤ → ℤ → ℤ → ℤ → ℤ → ℤ → ℤ → (ℕ → ℤ) → ℕ → Micro
  before_gather i j n x a f v words w = record {
    state = begun;
    registers = record r { r1 = i; r2 = j; r3 = n; r4 = pos 0; r5 = pos 1; r6 = x; r7 = a; r8 = f; r9 = v };
    scratch = words;
    failed = failed;
    spent = w;
  }

  pub gather_goes : (sources : List ℤ) (i j n x a f v : ℤ) (words : ℕ → ℤ) (w : ℕ) (go : List Descr → Effect) →
      IsMemory before.memory → count0 ≡ length sources → length sources ≤ to0 → to0 + 3 * length sources ≤ 8000 → HoldsAt words 0 sources → w + 260 * length sources + 32 ≤ cost →
      Exits to0 (length sources) words go (w + 260 * length sources + 32) → Goes 0 (before_gather i j n x a f v words w) (settle before (all_read before.memory sources >>= go))
  unfolding gather_code
  gather_goes sources i j n x a f v words w go valid many low small held pays exit =
      by_way (gather_loop sources 0 to0 x a f v words (w + 8 + 8 + 8) go valid (omega (arith, low)) small held (omega (arith, pays))
      (λ values from' to' x' a' f' v' words' w' gathered paid. exit values from' to' x' a' f' v' words' w' gathered (omega (arith, paid)))) (λ fuel y. record { fuel = more 3 fuel; meets = simp many y })
