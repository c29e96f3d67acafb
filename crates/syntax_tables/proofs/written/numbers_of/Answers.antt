use Rattle.std.proofs.Common.{◌≡◌, ◌∙◌, sym, ap, [], drop, Option, Some, None, ℕ, refl, nat_eq}
use Rattle.std.specs.Cmp.Lexicographic.{pointwise}
use Rattle.std.specs.List.{position_from}
use Rattle.std.specs.Map.{lookup}
use Rattle.std.specs.Option.{option_or}
use Rattle.std.proofs.Math.ListN.{drop_of_length-le}
use Rattle.std.proofs.lemmas.Iterator.Adapters.{position_from-zero}
use Rattle.sil_base.specs.Names.{is_word}
use Rattle.syntax_tables.specs.TableFiles.{names_in}
use Rattle.syntax_tables.proofs.NumberLemmas.{found_none}
use Rattle.syntax_tables.proofs.written.numbers_of.Goals as goal

pub returns : goal.returns
returns c = λ name.
    let lines = c.args.lines.now in
    let found = lookup (λ k. pointwise nat_eq name k.items) c.loop-said.numbers.entries in
    let none : drop c.loop-said.said-index lines ≡ [] = drop_of_length-le lines c.loop-said-test.false in
    sym (found_none found)
    ∙ ap (λ rest. option_or found (position_from (is_word name) c.loop-said.count (names_in rest))) (sym none)
    ∙ c.loop-said.invariant.found name
    ∙ sym (position_from-zero (is_word name) (names_in lines))
