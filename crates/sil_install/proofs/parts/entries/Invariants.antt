use Rattle.std.proofs.Common.{◌≡◌, ◌<◌, ◌^◌, All, take}
use Rattle.std.specs.Prelude.{map}
use Rattle.sil_install.proofs.parts.entries.Given as goal

abbrev pub invariant-loop-k : goal.invariant-loop-k
invariant-loop-k l = record {
  places : map (λ e. e.0) l.entries.items ≡ take l.k l.places;
  cards : map (λ e. e.1) l.entries.items ≡ map (λ s. s.card) (take l.k l.statements);
  names : map (λ e. e.2) l.entries.items ≡ map (λ s. s.name) (take l.k l.statements);
  range : All (λ e. e.1 < 2 ^ 32) l.entries.items;
}
