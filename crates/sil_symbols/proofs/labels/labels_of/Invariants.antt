use Rattle.std.proofs.Common.{◌≡◌, ℕ, List, take, nat_eq}
use Rattle.std.specs.Cmp.Lexicographic.{pointwise}
use Rattle.indexmap.specs.IndexMap.{get_by}
use Rattle.sil_symbols.specs.Labels.{labelled}
use Rattle.sil_symbols.proofs.labels.labels_of.Given as goal

abbrev pub invariant-loop-place : goal.invariant-loop-place
invariant-loop-place l = (name : List ℕ) → get_by (λ k. pointwise nat_eq name k.items) l.labels ≡ labelled (take l.place l.statements) name
