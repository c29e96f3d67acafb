use Rattle.std.proofs.Common.{◌≡◌, ◌-◌, ◌++◌, length, take}
use Rattle.std.specs.Prelude.{All}
use Rattle.rv_emit.specs.Code.{op_place}
use Rattle.rv_emit.specs.Emits.{op_places, op_places_from}
use Rattle.rv_emit.specs.Planned.{IsWord}
use Rattle.rv_emit.proofs.operations.op_places.Given as goal

abbrev pub invariant-loop-op : goal.invariant-loop-op
invariant-loop-op g l =
    (l.place ≡ op_place l.params.settings l.code l.op-index)
    × (l.places.items ++ op_places_from l.params.settings l.code l.op-index (length l.code.ops - l.op-index) ≡ op_places l.params.settings l.code)
    × All (IsWord l.params.settings l.code.static_cells) (take l.op-index l.code.ops)
