-- Codes: operations, with the places where the statements begin.
use Rattle.std.specs.Prelude.{◌≡◌, ℕ, ◌≤◌, ◌<◌, ◌^◌, ◌==◌, Bool, true, nat_le, List, [], ◌∷◌, ◌++◌, length, Option, Some, None, if◌then◌else◌, replicate, slice_get, slice_set, IsTrue}
use Rattle.sil_base.specs.declared.limits.TheConstants.{MAX_STATEMENTS}
use Rattle.layout_params.specs.Parameters.{Settings}
use Rattle.sil_micro.specs.declared.code.TheConstants.{MAX_CODE_WEIGHT}
use Rattle.sil_micro.specs.declared.op.Op.{Op}
use Rattle.sil_micro.specs.declared.op.Op.TheVariants.{Begin, Jump, JumpIf}
use Rattle.sil_micro.specs.declared.op.Target.{Target}
use Rattle.sil_micro.specs.declared.op.Target.TheVariants.{Op as Place, Statement}
use Rattle.sil_micro.specs.Forms.{is_op, all_ops}
use Rattle.sil_micro.specs.Pieces.{placed, names_within, weights}
use Rattle.sil_micro.specs.MicroStates.{Setting}

-- the operations; for each statement the places of its first operation and of its return part, where it has them; the number of static cells; and the texts of the formats
pub record MicroCode : Type 0 where
  pub ops : List Op
  pub entries : List (Option ℕ)
  pub returns : List (Option ℕ)
  pub static_cells : ℕ
  pub formats : List (List ℕ)

-- the operations keep their rules and can be numbered, and there is a place for the return part of each statement
pub record IsCode (c : MicroCode) : Type 0 where
  pub rules : IsTrue (all_ops is_op c.ops)
  pub room : length c.ops < 2 ^ 32
  pub returns : length c.returns ≡ length c.entries

-- what is there under a number, where something is
abbrev pub told : {A : Type 0} → Option (Option A) → Option A
told None = None
told (Some o) = o

abbrev pub entry_of : MicroCode → ℕ → Option ℕ
entry_of c k = told (slice_get c.entries k)

abbrev pub return_of : MicroCode → ℕ → Option ℕ
return_of c k = told (slice_get c.returns k)

-- the place that a jump to a statement goes to; after the last statement it is the place after all operations
abbrev pub place_of : MicroCode → ℕ → Option ℕ
place_of c k = if k == length c.entries then Some (length c.ops) else entry_of c k

-- ---- how a code grows

abbrev pub no_code : MicroCode
no_code = record { ops = []; entries = []; returns = []; static_cells = 0; formats = [] }

-- no statement is begun, of so many
abbrev pub reserved : ℕ → MicroCode → MicroCode
reserved count c = record c { entries = replicate count None; returns = replicate count None }

-- statement k begins with the next operation
abbrev pub begun : ℕ → MicroCode → MicroCode
begun k c = record c { entries = slice_set c.entries k (Some (length c.ops)) }

-- so does its return part
abbrev pub returned : ℕ → MicroCode → MicroCode
returned k c = record c { returns = slice_set c.returns k (Some (length c.ops)) }

-- an operation more
abbrev pub pushed : Op → MicroCode → MicroCode
pushed op c = record c { ops = c.ops ++ op ∷ [] }

-- a piece more
abbrev pub appended : MicroCode → List Op → MicroCode
appended c piece = record c { ops = c.ops ++ placed (length c.ops) piece }

-- ---- a code that is whole

abbrev pub targets_within : ℕ → Target → Bool
targets_within count (Place q) = nat_le q count
targets_within count (Statement k) = true

abbrev pub op_leads : ℕ → Op → Bool
op_leads count (Jump to) = targets_within count to
op_leads count (JumpIf test left right to) = targets_within count to
op_leads count op = true

-- each of at most 16,384 statements has an entry, in rising order, and its Begin stands there and nowhere else; jumps stay within the code, what is named is there, and the operations sum to at most 197,000,000
pub record IsWhole (c : MicroCode) : Type 0 where
  pub few : length c.entries ≤ MAX_STATEMENTS
  pub entries : (k : ℕ) → k < length c.entries → (place : ℕ) × (entry_of c k ≡ Some place) × (slice_get c.ops place ≡ Some (Begin k))
  pub rise : (j k place next : ℕ) → j < k → entry_of c j ≡ Some place → entry_of c k ≡ Some next → place < next
  pub begins : (place k : ℕ) → slice_get c.ops place ≡ Some (Begin k) → entry_of c k ≡ Some place
  pub returns : (k place : ℕ) → return_of c k ≡ Some place → place ≤ length c.ops
  pub jumps : IsTrue (all_ops (op_leads (length c.ops)) c.ops)
  pub names : IsTrue (all_ops (names_within (length c.entries) (length c.formats)) c.ops)
  pub light : weights c.ops ≤ MAX_CODE_WEIGHT

-- what a run of the code with these parameters and so many steps rests on
abbrev pub setting_of : MicroCode → Settings → ℕ → Setting
setting_of c settings bound = record { settings = settings; bound = bound; statements = length c.entries; static_cells = c.static_cells; formats = c.formats }
