use Rattle.std.proofs.Common.{◌≡◌, map, take}
use Rattle.rv_emulate.proofs.start.places.Given as goal

abbrev pub invariant-loop-k : goal.invariant-loop-k
invariant-loop-k l = l.places.items ≡ take l.k (map (λ e. e.place) l.image.statements)
