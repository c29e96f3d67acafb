-- Pieces: the operations of one statement, whose places count from the first of them.
use Rattle.std.specs.Prelude.{ℕ, zero, suc, ◌+◌, List, [], ◌∷◌, ◌++◌, length, map, Bool, true, false, ◌&&◌, nat_lt, nat_le}
use Rattle.sil_micro.specs.declared.op.Target.{Target}
use Rattle.sil_micro.specs.declared.op.Target.TheVariants.{Op as Place, Statement}
use Rattle.sil_micro.specs.declared.op.Text.TheVariants.{Format}
use Rattle.sil_micro.specs.declared.op.Op.{Op}
use Rattle.sil_micro.specs.declared.op.Op.TheVariants.{Jump, JumpIf, UnitCall, Begin}
use Rattle.sil_micro.specs.Forms.{is_op, all_ops}
use Rattle.sil_micro.specs.Operations.{weight}

-- ---- standing at a place

abbrev pub placed_target : ℕ → Target → Target
placed_target base (Place q) = Place (base + q)
placed_target base (Statement k) = Statement k

abbrev pub placed_op : ℕ → Op → Op
placed_op base (Jump to) = Jump (placed_target base to)
placed_op base (JumpIf test left right to) = JumpIf test left right (placed_target base to)
placed_op base op = op

-- a piece whose first operation stands at a place
unfoldable pub placed : ℕ → List Op → List Op
placed base ops = map (placed_op base) ops

-- a part, and behind it another whose places count from its own first operation
abbrev pub joined : List Op → List Op → List Op
joined front part = front ++ placed (length front) part

-- the parts, one behind another
abbrev pub chain : List (List Op) → List Op
chain [] = []
chain (part ∷ parts) = joined part (chain parts)

-- ---- what holds of the operations of a piece

-- a jump within the piece goes to one of its operations but the first, or past its end
abbrev pub target_within : ℕ → Target → Bool
target_within size (Place q) = nat_lt 0 q && nat_le q size
target_within size (Statement k) = true

abbrev pub op_within : ℕ → Op → Bool
op_within size (Jump to) = target_within size to
op_within size (JumpIf test left right to) = target_within size to
op_within size op = true

-- an operation that keeps its rules and jumps within so many
abbrev pub fits_part : ℕ → Op → Bool
fits_part size op = is_op op && op_within size op

abbrev pub is_part : List Op → Bool
is_part ops = all_ops (fits_part (length ops)) ops

-- the statements and the formats that an operation names are among so many; to go to the one after the last statement is allowed
abbrev pub names_statement : ℕ → Target → Bool
names_statement statements (Place q) = true
names_statement statements (Statement k) = nat_le k statements

abbrev pub names_within : ℕ → ℕ → Op → Bool
names_within statements formats (Jump to) = names_statement statements to
names_within statements formats (JumpIf test left right to) = names_statement statements to
names_within statements formats (UnitCall call unit to (Format i) values) = nat_lt i formats
names_within statements formats op = true

abbrev pub is_no_begin : Op → Bool
is_no_begin (Begin k) = false
is_no_begin op = true

-- an operation that writes no record is none with call 3
abbrev pub is_quiet : Op → Bool
is_quiet (UnitCall (suc (suc (suc zero))) unit to text values) = false
is_quiet op = true

-- no operation but the first is a Begin
abbrev pub begins_once : List Op → Bool
begins_once [] = true
begins_once (op ∷ ops) = all_ops is_no_begin ops

-- the sum of the weights, each taken once
abbrev pub weights : List Op → ℕ
weights [] = 0
weights (op ∷ ops) = weight op + weights ops
