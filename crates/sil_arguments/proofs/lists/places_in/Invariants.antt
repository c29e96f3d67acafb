use Rattle.std.proofs.Common.{◌≡◌, drop}
use Rattle.sil_shapes.specs.HeldSources.{measure_in}
use Rattle.sil_arguments.specs.MadeArguments.{places_in}
use Rattle.sil_arguments.proofs.Made.{after}
use Rattle.sil_arguments.proofs.lists.places_in.Given as goal

abbrev pub invariant-loop-item : goal.invariant-loop-item
invariant-loop-item l =
    let measure = measure_in l.source in
    places_in measure l.items ≡ after l.places.items (places_in measure (drop l.item-index l.items))
