use Rattle.std.proofs.Common.{◌≡◌, drop}
use Rattle.sil_shapes.specs.HeldSources.{measure_in}
use Rattle.sil_arguments.specs.MadeArguments.{locations_in}
use Rattle.sil_arguments.proofs.Made.{after}
use Rattle.sil_arguments.proofs.lists.locations_in.Given as goal

abbrev pub invariant-loop-item : goal.invariant-loop-item
invariant-loop-item l =
    let measure = measure_in l.source in
    locations_in measure l.items ≡ after l.locations.items (locations_in measure (drop l.item-index l.items))
