use Rattle.std.proofs.Common.{◌≡◌, map, take}
use Rattle.rv_emit.specs.Code.{place_from}
use Rattle.rv_emit.proofs.emitted.statement_places.Given as goal

abbrev pub invariant-loop-k : goal.invariant-loop-k
invariant-loop-k l =
    l.places.items ≡ map (place_from l.plan.params.now.settings l.plan.code.now) (take l.k l.plan.code.now.entries)
