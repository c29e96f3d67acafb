-- All specifiers are read, all are written, and the top of the stack is set.
use Rattle.std.proofs.Common.{◌≡◌, ℕ, ◌+◌, ◌*◌, ◌≤◌, List, length, Option, true, refl, arith, sym, ◌∙◌}
use Rattle.std.specs.Prelude.{ℤ, pos}
use Rattle.sil_model.specs.declared.program.Flow.TheVariants.{Next}
use Rattle.sil_model.specs.Access.{◌>>=◌}
use Rattle.sil_model.specs.Effects.{Effect, goes}
use Rattle.sil_model.specs.Lists.{all_specs_written}
use Rattle.sil_model.specs.Settling.{settle}
use Rattle.sil_model.specs.Memory.{Memory, IsMemory}
use Rattle.flow_clauses.specs.StackClauses.{specs_moved}
use Rattle.sil_model.specs.States.{State}
use Rattle.sil_micro.specs.Expands.{Makes}
use Rattle.sil_micro.specs.MicroStates.{Setting, Registers}
use Rattle.sil_micro.specs.Pieces.{joined, is_part}
use Rattle.exp_stack.specs.ListParts.{spec_gather_code, spec_scatter_code, finish_code, spec_moves_code}
use Rattle.exp_stack.proofs.CellMoves.{finish_part}
use Rattle.exp_common.proofs.JoinedParts.{IsPart, both_parts}
use Rattle.exp_stack.proofs.ScratchWords.{HoldsAt, holds_below}
use Rattle.exp_stack.proofs.SpecGather.{spec_gather_goes, spec_gather_part, before_spec_gather}
use Rattle.exp_stack.proofs.SpecScatter.{spec_scatter_goes, spec_scatter_part}

pub spec_writes_part : (statements formats count : ℕ) → IsPart statements formats 356 (joined (spec_scatter_code count) finish_code)
spec_writes_part statements formats count = both_parts (spec_scatter_part statements formats count) (finish_part statements formats)

pub spec_moves_part : (statements formats count : ℕ) → IsPart statements formats 776 (spec_moves_code count)
spec_moves_part statements formats count = both_parts (spec_gather_part statements formats count) (spec_writes_part statements formats count)

module _ (g : Setting) (before : State) (failed : Option ℕ) (r : Registers) (cost : ℕ) where
  -- both loops, where the words hold the addresses
  pub spec_moves_go : (sources targets : List ℤ) (count : ℕ) (i j n x a f v : ℤ) (words : ℕ → ℤ) (w : ℕ) →
      IsMemory before.memory → count ≡ length sources → length targets ≡ length sources → length sources ≤ 100 → HoldsAt words 0 sources → HoldsAt words 100 targets → w + 790 * length sources + 100 ≤ cost →
      Makes g (before.statement + 1) (spec_moves_code count) 0 (before_spec_gather g (before.statement + 1) (joined (spec_scatter_code count) finish_code) (spec_writes_part 0 0 count).part before failed r count cost i j n x a f v words w) (settle before (specs_moved sources targets r.r12 before)) cost
  spec_moves_go sources targets count i j n x a f v words w valid many same few held held' pays =
      let next = before.statement + 1 in
      let go : Memory → Effect = λ m. goes Next (record before { memory = m; current = r.r12 }) in
      spec_gather_goes g next (joined (spec_scatter_code count) finish_code) (spec_writes_part 0 0 count).part before failed r count cost sources i j n x a f v words w (λ values. all_specs_written before.memory targets values >>= go) valid many few held (omega (arith, pays))
      (λ values from' to' x' a' f' v' words' w' gathered paid.
      spec_scatter_goes g next finish_code refl before failed r words' count cost targets values (pos from') (pos to') (pos 0) x' a' f' v' w' go (many ∙ sym same) (gathered.many ∙ sym same) (omega (arith, same)) (holds_below targets 100 200 words words' (omega (arith, same)) gathered.kept held') gathered.holds gathered.fit (omega (arith, paid, same, pays))
      (λ cells from'' to'' x'' a'' f'' v'' w'' paid'. record { fuel = 2; meets = (refl, omega (arith, paid, paid', same, pays)) }))
