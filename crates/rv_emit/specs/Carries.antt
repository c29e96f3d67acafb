-- What the words of a code do on the emulator, operation by operation.
use Rattle.std.specs.Prelude.{◌≡◌, ℕ, suc, ◌^◌, ◌<◌, ◌≤◌, List, length, replicate, Some, None, false, not, slice_get, IsTrue}
use Rattle.sil_base.specs.Bytes.{low_bytes, with_piece}
use Rattle.sil_base.specs.declared.limits.TheConstants.{MAX_STEPS, STATEMENT_INSTRUCTIONS, SCRATCH_BYTES}
use Rattle.sil_base.specs.declared.places.TheConstants.{FIRST_WORD}
use Rattle.unit_io.specs.Tapes.{Tapes}
use Rattle.layout_params.specs.Parameters.{Settings}
use Rattle.sil_micro.specs.declared.op.Op.{Op}
use Rattle.sil_micro.specs.Codes.{MicroCode, place_of, setting_of}
use Rattle.sil_micro.specs.Operations.{act, weight}
use Rattle.sil_micro.specs.Pieces.{is_no_begin, is_quiet}
use Rattle.sil_micro.specs.MicroStates.{Micro}
use Rattle.image_file.specs.Image.{Image}
use Rattle.rv_emulate.specs.declared.end.CpuEnd.TheVariants.{Undefined}
use Rattle.rv_emulate.specs.EmulatorStates.{State, On, Ended, start, first_memory, register}
use Rattle.rv_emulate.specs.EmulatorRuns.{entry_at}
use Rattle.rv_straight.specs.Registers.{IsFile}
use Rattle.rv_straight.specs.InstalledWays.{IsFree, Comes}
use Rattle.rv_operations.specs.Does.{Does}
use Rattle.rv_operations.specs.Ops.{IsKnown}
use Rattle.rv_operations.specs.StandsFor.{StandsFor}
use Rattle.rv_emit.specs.Code.{places_of, place_from, stack_top, last_place}
use Rattle.rv_emit.specs.StatementPlaces.{place}

-- the scratch bytes with the two places of the stack
abbrev pub with_stack : ℕ → List ℕ → List ℕ
with_stack top bytes = with_piece 8 (low_bytes 8 top) (with_piece 0 (low_bytes 8 top) bytes)

-- no region of the image runs into the next one
pub record HasRegions (image : Image) : Type 0 where
  pub cells : length (first_memory image).cells ≤ 2 ^ 26
  pub kinds : length (first_memory image).kinds ≤ 2 ^ 20
  pub tables : length image.tables ≤ 2 ^ 20

-- the run from the start comes to a place, with the bound, the steps left and the tapes as they were, and the empty stack's top in the first two words of scratch
pub record Starts (image : Image) (last to top : ℕ) (tapes : Tapes) (n : ℕ) : Type 0 where
  pub state : State
  pub comes : Comes image last false STATEMENT_INSTRUCTIONS (start image tapes n) (On state)
  pub there : state.pc ≡ to
  pub file : IsFile state.registers
  pub bound : register state.registers 25 ≡ n
  pub left : register state.registers 27 ≡ n
  pub memory : state.memory ≡ record (first_memory image) { scratch = with_stack top (replicate SCRATCH_BYTES 0) }
  pub same_tapes : state.tapes ≡ tapes

-- the places of statements are those of their first operations; from each state that stands for a micro state at an operation the run does what the operation does, within its weight; it begins at statement 0, and past the last operation it ends as undefined
pub record CarriesOps (image : Image) (settings : Settings) (c : MicroCode) : Type 0 where
  pub count : length image.statements ≡ length c.entries
  pub entries : (k : ℕ) → k < length c.entries → entry_at image.statements ((places_of settings c).statement k) ≡ Some k
  pub places : (k q : ℕ) → place_of c k ≡ Some q → (places_of settings c).op q ≡ place image (last_place settings c) k
  pub beyond : (k : ℕ) → length c.entries ≤ k → place image (last_place settings c) k ≡ last_place settings c
  pub between : (q : ℕ) (op : Op) → slice_get c.ops q ≡ Some op → IsTrue (is_no_begin op) → IsFree image (last_place settings c) ((places_of settings c).op q)
  pub last_apart : entry_at image.statements (last_place settings c) ≡ None
  pub first_apart : IsFree image (last_place settings c) FIRST_WORD
  pub does : (n q : ℕ) (op : Op) (u : Micro) (s : State) → n ≤ MAX_STEPS → slice_get c.ops q ≡ Some op → StandsFor (setting_of c settings n) u s → s.pc ≡ (places_of settings c).op q → IsKnown (setting_of c settings n) op u → Does image (last_place settings c) (setting_of c settings n) (places_of settings c) (not (is_quiet op)) (weight op) ((places_of settings c).op (suc q)) s (act (setting_of c settings n) op u)
  pub begins : (tapes : Tapes) (n : ℕ) → n ≤ MAX_STEPS → HasRegions image → Starts image (last_place settings c) (place_from settings c (place_of c 0)) (stack_top settings c) tapes n
  pub past : (s : State) → IsFile s.registers → s.pc ≡ last_place settings c → Comes image (last_place settings c) false STATEMENT_INSTRUCTIONS s (Ended (Some (Undefined (length c.entries))) s.tapes)
