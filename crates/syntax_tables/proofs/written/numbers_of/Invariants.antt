use Rattle.std.proofs.Common.{◌≡◌, ◌≤◌, ℕ, List, drop, nat_eq}
use Rattle.std.specs.Cmp.Lexicographic.{pointwise}
use Rattle.std.specs.List.{position_from}
use Rattle.std.specs.Map.{lookup}
use Rattle.std.specs.Option.{option_or}
use Rattle.sil_base.specs.Names.{is_word}
use Rattle.syntax_tables.specs.TableFiles.{names_in}
use Rattle.syntax_tables.proofs.written.numbers_of.Given as goal

-- what isn't found so far is found among the names that are left
abbrev pub invariant-loop-said : goal.invariant-loop-said
invariant-loop-said l = record {
  few : l.count ≤ l.said-index;
  found : (name : List ℕ) → option_or (lookup (λ k. pointwise nat_eq name k.items) l.numbers.entries) (position_from (is_word name) l.count (names_in (drop l.said-index l.lines)))
      ≡ position_from (is_word name) 0 (names_in l.lines);
}
