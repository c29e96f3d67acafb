-- The numbers of tables as the code holds them.
use Rattle.std.specs.Prelude.{◌≡◌, ℕ, List, nat_eq, position}
use Rattle.std.specs.Cmp.Lexicographic.{pointwise}
use Rattle.std.specs.Global.{Vec}
use Rattle.std.specs.Map.{lookup}
use Rattle.sil_base.specs.Names.{is_word}

-- each name has the number of the first table that bears it
abbrev pub HasNumbers : List (Vec ℕ × ℕ) → List (List ℕ) → Type 0
HasNumbers entries names = (name : List ℕ) → lookup (λ k. pointwise nat_eq name k.items) entries ≡ position (is_word name) names
