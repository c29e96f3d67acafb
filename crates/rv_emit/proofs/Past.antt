-- The end past the last statement.
use Rattle.std.proofs.Common.{ℕ, ◌*◌, ◌^◌, ◌≤◌, [], ◌∷◌, length, Some, false, refl, arith}
use Rattle.sil_base.specs.declared.limits.TheConstants.{STATEMENT_INSTRUCTIONS}
use Rattle.image_file.specs.Image.{Image}
use Rattle.rv_emulate.specs.declared.end.CpuEnd.TheVariants.{Undefined}
use Rattle.rv_emulate.specs.EmulatorStates.{State, Ended}
use Rattle.rv_emulate.specs.InstrValues.{extended}
use Rattle.rv_straight.specs.InstalledWays.{Comes}
use Rattle.rv_straight.specs.Registers.{IsFile}
use Rattle.rv_straight.specs.InstrEffects.{Value}
use Rattle.rv_straight.specs.Straight.{◌▸◌}
use Rattle.rv_straight.specs.Code.{IsNext}
use Rattle.rv_straight.specs.Constants.{upper_of}
use Rattle.rv_straight.proofs.Ways.{comes_within}
use Rattle.rv_straight.proofs.Reaching.{start, straight, undefined}
use Rattle.rv_straight.proofs.Numbers.{constant_is}
use Rattle.rv_emit.specs.Code.{past_code}

pub ends_past : (image : Image) (last count : ℕ) (s : State) → IsNext image last s (past_code count) → IsFile s.registers → count ≤ 2 ^ 14 → count ≤ length image.statements → Comes image last false STATEMENT_INSTRUCTIONS s (Ended (Some (Undefined count)) s.tapes)
ends_past image last count s c file small few =
    let up : ℕ = extended (upper_of count * 2 ^ 12) in
    let there = straight (start c file) 2 (Value up ∷ Value count ∷ []) (omega arith) (omega arith) (refl ▸ constant_is count (omega arith) ▸ tt) in
    comes_within image last false 5 STATEMENT_INSTRUCTIONS s (Ended (Some (Undefined count)) s.tapes) (undefined there count refl refl (omega arith) refl few) (omega arith)
