-- The loop that reads all specifiers.
use Rattle.std.proofs.Common.{◌≡◌, ℕ, suc, ◌+◌, ◌*◌, ◌≤◌, List, [], ◌∷◌, length, Option, true, false, refl, arith}
use Rattle.std.specs.Prelude.{ℤ, pos, nat_eq}
use Rattle.sil_model.specs.declared.specifier.Specifier.{Specifier}
use Rattle.sil_model.specs.Access.{◌>>=◌, descr_at}
use Rattle.sil_model.specs.Effects.{Effect}
use Rattle.sil_model.specs.Integers.{◌⊞◌, wrapped_sum, wrapped_difference}
use Rattle.sil_model.specs.Lists.{all_specs_read}
use Rattle.sil_model.specs.Settling.{settle}
use Rattle.sil_model.specs.Memory.{IsMemory}
use Rattle.sil_model.specs.States.{State, Step}
use Rattle.sil_micro.specs.declared.op.Op.{Op}
use Rattle.sil_micro.specs.Expands.{Makes}
use Rattle.sil_micro.specs.MicroStates.{Setting, Micro, Registers}
use Rattle.sil_micro.specs.Pieces.{joined, is_part}
use Rattle.sil_micro.proofs.Fields.{f_again, v_again}
use Rattle.sil_micro.proofs.Making.{by_option, more, by_way, then_part}
use Rattle.exp_stack.specs.ListParts.{spec_gather_code}
use Rattle.exp_stack.proofs.Arithmetic.{sub_one, add_pos}
use Rattle.exp_common.proofs.JoinedParts.{IsPart}
use Rattle.exp_stack.proofs.ScratchWords.{HoldsAt, holds_below, fits_word, bind_assoc}
use Rattle.exp_stack.proofs.SpecWords.{spec_below, with_spec, SpecsGathered, specs_none, specs_more}

pub spec_gather_part : (statements formats count : ℕ) → IsPart statements formats 420 (spec_gather_code count)
unfolding spec_gather_code
spec_gather_part statements formats count = record { part = refl; begins = refl; names = refl; quiet = refl; weight = refl }

module _ (g : Setting) (next : ℕ) (rest : List Op) (inside : is_part rest ≡ true) (before : State) (failed : Option ℕ) (r : Registers) (count0 cost : ℕ) where
  abbrev begun : State
  begun = record before { steps = before.steps + 1 }

  abbrev Goes : ℕ → Micro → Step → Type 0
  Goes place u step = Makes g next (joined (spec_gather_code count0) rest) place u step cost

  -- the state at the loop's head, and behind the loop
  abbrev pub at_spec_gather : ℕ → ℕ → ℕ → ℤ → ℤ → ℤ → ℤ → (ℕ → ℤ) → ℕ → Micro
  at_spec_gather from to left x a f v words w = record {
    state = begun;
    registers = record r { r1 = pos from; r2 = pos to; r3 = pos left; r4 = pos 0; r5 = pos 1; r6 = x; r7 = a; r8 = f; r9 = v; r13 = pos before.memory.limits.cell_size };
    scratch = words;
    failed = failed;
    spent = w;
  }

  abbrev Exits : ℕ → ℕ → (ℕ → ℤ) → (List Specifier → Effect) → ℕ → Type 0
  Exits to count words go paid = (values : List Specifier) (from' to' : ℕ) (x' a' f' v' : ℤ) (words' : ℕ → ℤ) (w' : ℕ) → SpecsGathered before.memory.limits words to count values words' → w' ≤ paid →
      Makes g next rest 0 (at_spec_gather from' to' 0 x' a' f' v' words' w') (settle before (go values)) cost

  spec_gather_loop : (sources : List ℤ) (from to : ℕ) (x a f v : ℤ) (words : ℕ → ℤ) (w : ℕ) (go : List Specifier → Effect) →
      IsMemory before.memory → from + length sources ≤ to → to + 5 * length sources ≤ 8000 → HoldsAt words from sources → w + 440 * length sources + 8 ≤ cost →
      Exits to (length sources) words go (w + 440 * length sources + 8) → Goes 4 (at_spec_gather from to (length sources) x a f v words w) (settle before (all_specs_read before.memory sources >>= go))
  unfolding all_specs_read spec_gather_code
  spec_gather_loop [] from to x a f v words w go valid low small held pays exit =
      by_way (then_part (spec_gather_code count0) inside (omega arith) (exit [] from to x a f v words (w + 8) (specs_none before.memory.limits words to) (omega arith))) (λ fuel y. record { fuel = suc fuel; meets = y })
  spec_gather_loop (at ∷ ats) from to x a f v words w go valid low small held pays exit =
      let d = pos before.memory.limits.cell_size in
      let z : nat_eq (suc (length ats)) 0 ≡ false = grind arith in
      let here = held.0 in
      let t = fits_word from (omega arith) in
      let t0 = fits_word to (omega arith) in
      let t1 = fits_word (to + 1) (omega arith) in
      let t2 = fits_word (to + 2) (omega arith) in
      let t3 = fits_word (to + 3) (omega arith) in
      let t4 = fits_word (to + 4) (omega arith) in
      let up : wrapped_sum (pos from) (pos 1) ≡ pos (from + 1) = add_pos from 1 (from + 1) refl (omega arith) in
      let up1 : wrapped_sum (pos to) (pos 1) ≡ pos (to + 1) = add_pos to 1 (to + 1) refl (omega arith) in
      let up2 : wrapped_sum (pos (to + 1)) (pos 1) ≡ pos (to + 2) = add_pos (to + 1) 1 (to + 2) (omega arith) (omega arith) in
      let up3 : wrapped_sum (pos (to + 2)) (pos 1) ≡ pos (to + 3) = add_pos (to + 2) 1 (to + 3) (omega arith) (omega arith) in
      let up4 : wrapped_sum (pos (to + 3)) (pos 1) ≡ pos (to + 4) = add_pos (to + 3) 1 (to + 4) (omega arith) (omega arith) in
      let up5 : wrapped_sum (pos (to + 4)) (pos 1) ≡ pos (to + 5) = add_pos (to + 4) 1 (to + 5) (omega arith) (omega arith) in
      let down : wrapped_difference (pos (suc (length ats))) (pos 1) ≡ pos (length ats) = sub_one (length ats) (omega arith) in
      by_option (descr_at before.memory at)
      (λ e. record { fuel = 8; meets = simp (z, t, here, e) (refl, refl, omega (arith, pays)) })
      (λ p e.
      by_option (descr_at before.memory (at ⊞ d))
      (λ e'. record { fuel = 16; meets = simp (z, t, here, e, t0, t1, t2, up1, up2, up3, e') (refl, refl, omega (arith, pays)) })
      (λ q e'.
      let fits = f_again before.memory at p valid e in
      let fits' = v_again before.memory at p valid e in
      let fits'' = v_again before.memory (at ⊞ d) q valid e' in
      let words5 = with_spec words to p.a p.f p.v q.a q.v in
      let held' = holds_below ats (from + 1) to words words5 (omega arith) (spec_below words to p.a p.f p.v q.a q.v) held.1 in
      by_way (spec_gather_loop ats (from + 1) (to + 5) (at ⊞ d) q.a (pos p.f) (pos q.v) words5 (w + 8 + 28 + 28 + 28 + 28 + 28 + 8 + 28 + 8 + 28 + 8 + 8 + 28 + 28 + 28 + 8 + 28 + 8 + 8 + 8 + 8) (λ ss. go (record { a = p.a; f = p.f; v = p.v; o = q.a; l = q.v } ∷ ss)) valid (omega arith) (omega arith) held' (omega (arith, pays))
      (λ values from' to' x' a' f' v' words' w' gathered paid. exit (record { a = p.a; f = p.f; v = p.v; o = q.a; l = q.v } ∷ values) from' to' x' a' f' v' words' w' (specs_more words to p.a p.f p.v q.a q.v before.memory.limits (length ats) values words' fits fits' fits'' gathered) (omega (arith, paid))))
      (λ fuel y. record { fuel = more 21 fuel; meets = simp (z, t, here, e, e', t0, t1, t2, t3, t4, up, up1, up2, up3, up4, up5, down, bind_assoc) y })))

  -- the state before it
  abbrev pub before_spec_gather : ℤ → ℤ → ℤ → ℤ → ℤ → ℤ → ℤ → (ℕ → ℤ) → ℕ → Micro
  before_spec_gather i j n x a f v words w = record {
    state = begun;
    registers = record r { r1 = i; r2 = j; r3 = n; r4 = pos 0; r5 = pos 1; r6 = x; r7 = a; r8 = f; r9 = v };
    scratch = words;
    failed = failed;
    spent = w;
  }

  pub spec_gather_goes : (sources : List ℤ) (i j n x a f v : ℤ) (words : ℕ → ℤ) (w : ℕ) (go : List Specifier → Effect) →
      IsMemory before.memory → count0 ≡ length sources → length sources ≤ 100 → HoldsAt words 0 sources → w + 440 * length sources + 40 ≤ cost →
      Exits 200 (length sources) words go (w + 440 * length sources + 40) → Goes 0 (before_spec_gather i j n x a f v words w) (settle before (all_specs_read before.memory sources >>= go))
  unfolding spec_gather_code
  spec_gather_goes sources i j n x a f v words w go valid many few held pays exit =
      by_way (spec_gather_loop sources 0 200 x a f v words (w + 8 + 8 + 8 + 8) go valid (omega arith) (omega arith) held (omega (arith, pays))
      (λ values from' to' x' a' f' v' words' w' gathered paid. exit values from' to' x' a' f' v' words' w' gathered (omega (arith, paid)))) (λ fuel y. record { fuel = more 4 fuel; meets = simp many y })
