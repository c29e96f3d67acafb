-- The title at or below an address.
use Rattle.std.proofs.Common.{◌≡◌, ℕ, zero, suc, ◌+◌, ◌*◌, ◌≤◌, ◌<◌, ◌^◌, [], ◌∷◌, length, Option, Some, ap, false, refl, arith, lit≤}
use Rattle.std.specs.Prelude.{ℤ, pos, nat_eq, bit_and, ◌==◌}
use Rattle.layout_params.specs.declared.cell.Cell.TheVariants.{Descr}
use Rattle.layout_params.specs.Parameters.{Settings}
use Rattle.sil_macros.specs.declared.names.Macro.TheVariants.{Top}
use Rattle.sil_model.specs.declared.program.Arg.TheVariants.{Place}
use Rattle.sil_model.specs.declared.program.Specials.{Specials}
use Rattle.sil_model.specs.Access.{◌>>=◌, put_cell, set_a_at, set_descr_at}
use Rattle.sil_model.specs.Effects.{MemoryEffect, onward, with_memory}
use Rattle.sil_model.specs.Integers.{◌⊟◌, ◌⊞◌, within, wrapped_difference}
use Rattle.sil_model.specs.Memory.{IsMemory}
use Rattle.sil_model.specs.Settling.{settle}
use Rattle.sil_model.specs.States.{State, Step}
use Rattle.sil_micro.specs.Expands.{Does, Makes, at}
use Rattle.sil_micro.specs.MicroStates.{Setting, Micro, Registers}
use Rattle.sil_micro.proofs.Making.{by_option, by_test, more, by_way}
use Rattle.exp_common.proofs.FlagBits.{both_flags}
use Rattle.exp_common.proofs.Questions.{by_read}
use Rattle.exp_common.proofs.TitleFlags.{title_small}
use Rattle.exp_common.proofs.Words.{sub_one}
use Rattle.tree_clauses.specs.Loops.{walk, walk_visits}
use Rattle.tree_clauses.specs.PatternClauses.{title_turn, titled}
use Rattle.tree_clauses.specs.TreeTable.{title_visits, tree_clause, tree_visits}
use Rattle.exp_blocks.specs.BlockParts.{title_code}

-- the step that an effect on memory makes
abbrev pub after_memory : State → MemoryEffect → Step
after_memory before effect = settle before (with_memory before effect)

module _ (g : Setting) (k : ℕ) (d1 d2 d3 : ℤ) (before : State) (valid : IsMemory before.memory) (failed : Option ℕ) (words : ℕ → ℤ) (r : Registers) (from : ℤ) (f v flag : ℕ) (small_flag : flag < 2 ^ 32)
    (f_again : within before.memory.limits.flag_limit (pos f) ≡ Some f) (v_again : within before.memory.limits.value_limit (pos v) ≡ Some v) (cost : ℕ) where
  -- the state at the loop's head, and where the title is found
  abbrev at_title : ℕ → ℤ → ℤ → ℤ → ℕ → Micro
  at_title n back x y w = record {
    state = record before { steps = before.steps + 1 };
    registers = record r { r2 = from; r3 = pos f; r4 = pos 0; r5 = pos 1; r6 = back; r7 = pos flag; r8 = pos n; r9 = x; r10 = y; r11 = pos before.memory.limits.cell_size; r15 = pos v };
    scratch = words;
    failed = failed;
    spent = w;
  }

  -- what is written then
  abbrev titled_at : ℤ → MemoryEffect
  titled_at back = set_descr_at before.memory d1 (record { a = from ⊟ back; f = f; v = v }) >>= (λ m1. onward (set_a_at m1 d2 back))

  title_goes : (n : ℕ) (back y : ℤ) (w : ℕ) → w + 150 ≤ cost → Makes g (before.statement + 1) (title_code k d1 d2 d3) 21 (at_title n back (from ⊟ back) y w) (after_memory before (titled_at back)) cost
  unfolding title_code
  title_goes n back y w pays =
      by_option (put_cell before.memory d1 (Descr (record { a = from ⊟ back; f = f; v = v })))
      (λ e. record { fuel = 3; meets = simp (f_again, v_again, e) (refl, refl, omega (arith, pays)) })
      (λ cells e. by_option (set_a_at (record before.memory { cells = cells }) d2 back)
      (λ none. record { fuel = 5; meets = simp (f_again, v_again, e, none) (refl, refl, omega (arith, pays)) })
      (λ m2 set. record { fuel = 5; meets = simp (f_again, v_again, e, set) (refl, omega (arith, pays)) }))

  title_loop : (n : ℕ) (back x y : ℤ) (w : ℕ) → n < 2 ^ 62 → w + 100 * walk_visits (title_turn before.memory from flag) (λ b. 1) n back + 300 ≤ cost →
      Makes g (before.statement + 1) (title_code k d1 d2 d3) 11 (at_title n back x y w) (after_memory before (walk (title_turn before.memory from flag) n back >>= titled_at)) cost
  unfolding walk walk_visits title_code
  title_loop zero back x y w small pays = record { fuel = 4; meets = (refl, refl, omega (arith, pays)) }
  title_loop (suc n) back x y w small pays =
      let z : nat_eq (suc n) 0 ≡ false = grind arith in
      let down : wrapped_difference (pos (suc n)) (pos 1) ≡ pos n = sub_one n (omega (arith, small)) in
      by_read before.memory (from ⊟ back) valid
      (λ none. let pays' = simp none at pays in record { fuel = 6; meets = simp (z, down, none) (refl, refl, omega (arith, pays')) })
      (λ a f' v' is read.
      let bits = both_flags f' flag read.flags small_flag in
      by_test (bit_and f' flag == flag)
      (λ has.
      let pays' = simp (is, has) at pays in
      by_way (title_goes n back (pos (bit_and f' flag)) (w + 8 + 8 + 8 + 28 + 8 + 8) (omega (arith, pays')))
      (λ fuel made. record { fuel = more 6 fuel; meets = simp (z, down, is, bits, has) made }))
      (λ lacks.
      let pays' = simp (is, lacks) at pays in
      by_way (title_loop n (back ⊞ pos before.memory.limits.cell_size) (from ⊟ back) (pos (bit_and f' flag)) (w + 8 + 8 + 8 + 28 + 8 + 8 + 8 + 8) (omega (arith, small)) (omega (arith, pays')))
      (λ fuel made. record { fuel = more 8 fuel; meets = simp (z, down, is, bits, lacks) made })))

module _ (k : ℕ) (d1 d2 d3 : ℤ) (specials : Specials) where
  pub top_does : Does k (title_code k d1 d2 d3) specials (Place d1 ∷ Place d2 ∷ Place d3 ∷ []) (tree_clause Top) (tree_visits Top)
  unfolding tree_clause titled title_visits title_code
  top_does g program parameters u h =
      let before : State = at k u.state in
      let m = u.state.memory in
      let valid = h.valid.memory in
      let flag = parameters.settings.title_flag in
      let settings = ap (λ (s : Settings). s.title_flag) h.setting.settings in
      by_read m d3 valid (λ none. record { fuel = 8; meets = simp (h.left, none) (refl, refl, lit≤ tt) }) (λ a f v is read.
      let cost = 2000 + 400 * (3 + (3 + walk_visits (title_turn m a flag) (λ b. 1) (length m.cells) (pos 0))) in
      let r : Registers = record u.registers { r1 = d3 } in
      by_way (title_loop g k d1 d2 d3 before valid u.failed u.scratch r a f v flag (title_small parameters.settings h.setting.well_formed.legal) read.f_again read.v_again cost
      (length m.cells) (pos 0) u.registers.r9 u.registers.r10 (28 + 8 + 8 + 8 + 28 + 28 + 28 + 8 + 8 + 8 + 8) (omega (arith, valid.count)) (omega arith))
      (λ fuel y. record { fuel = more 11 fuel; meets = simp (h.left, is, settings) y }))
