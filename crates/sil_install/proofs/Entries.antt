-- Entries of statements.
use Rattle.std.proofs.Common.{ℕ, ◌<◌, ◌^◌, List, [], ◌∷◌, ◌++◌, All}
use Rattle.std.proofs.lemmas.List.Elements.{All-push}
use Rattle.sil_macros.specs.declared.names.Macro.{Macro}

-- one more entry, whose card has 32 bits
pub more_cards : (es : List (ℕ × ℕ × Macro)) (e : ℕ × ℕ × Macro) → All (λ x. x.1 < 2 ^ 32) es → e.1 < 2 ^ 32 → All (λ x. x.1 < 2 ^ 32) (es ++ e ∷ [])
more_cards es e h k = All-push (λ x. x.1 < 2 ^ 32) es e h k
