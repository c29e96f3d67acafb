-- What the parts of emission rest on, and their instructions for contracts, which don't unfold them.
use Rattle.std.specs.Prelude.{◌≡◌, ℕ, ◌+◌, ◌^◌, ◌<◌, List, length, All, Option, Some}
use Rattle.std.specs.Option.{option_map}
use Rattle.rv_isa.specs.declared.instr.Instr.{Instr}
use Rattle.layout_params.specs.Areas.{all_cells}
use Rattle.layout_params.specs.Parameters.{Settings}
use Rattle.sil_micro.specs.declared.op.Op.{Op}
use Rattle.sil_micro.specs.Codes.{MicroCode, place_of, return_of}
use Rattle.rv_emit.specs.declared.plan.Switch.{Switch}
use Rattle.rv_emit.specs.declared.plan.Switch.TheVariants.{Entry, ReturnPart}
use Rattle.rv_emit.specs.Code.{first_op, front_code, number_of, op_place, ops_code, place_from, routines_at, routines_code, stack_top, start_code, switch_part, table_code}
use Rattle.rv_emit.specs.Emits.{CanEmit, HasNumber, op_places}

-- the number of an operation has 64 bits
pub record IsWord (settings : Settings) (statics : ℕ) (op : Op) : Type 0 where
  pub number : HasNumber op
  pub fits : number_of settings statics op < 2 ^ 64

-- the places of the operations of a code that can be emitted
pub record IsPlanned (settings : Settings) (c : MicroCode) (ops : List ℕ) : Type 0 where
  pub places : ops ≡ op_places settings c
  pub can : CanEmit c settings
  pub words : All (IsWord settings c.static_cells) c.ops

-- where the jumps of a routine lead
abbrev pub leads : Settings → MicroCode → Switch → ℕ → Option ℕ
leads settings c Entry k = Some (place_from settings c (place_of c k))
leads settings c ReturnPart k = option_map (op_place settings c) (return_of c k)

-- the place of such a routine
abbrev pub routine_of : ℕ → ℕ → Switch → ℕ
routine_of d statements Entry = (routines_at d statements).entry
routine_of d statements ReturnPart = (routines_at d statements).return_part

unfoldable pub start_of : Settings → MicroCode → List Instr
start_of settings c = start_code (stack_top settings c) (place_from settings c (place_of c 0))

unfoldable pub routines_of : Settings → MicroCode → List Instr
routines_of settings c = routines_code settings.sizes (all_cells settings c.static_cells)

unfoldable pub table_of : Settings → MicroCode → Switch → List Instr
table_of settings c which = table_code (routine_of settings.sizes.descr (length c.entries) which) (leads settings c which) (routine_of settings.sizes.descr (length c.entries) which + 64) 0 (length c.entries)

unfoldable pub switch_of : Settings → MicroCode → Switch → List Instr
switch_of settings c which = switch_part settings.sizes.descr (length c.entries) (routine_of settings.sizes.descr (length c.entries) which) (leads settings c which)

unfoldable pub front_of : Settings → MicroCode → List Instr
front_of settings c = front_code settings c

unfoldable pub operations_of : Settings → MicroCode → List Instr
operations_of settings c = ops_code settings c (first_op settings.sizes.descr (length c.entries)) c.ops
