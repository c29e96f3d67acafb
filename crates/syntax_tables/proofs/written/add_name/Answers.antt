use Rattle.std.proofs.Common.{ap, ◌∙◌, false, ◌≡◌, is_some, nat_eq}
use Rattle.std.specs.Cmp.Lexicographic.{pointwise}
use Rattle.std.specs.Map.{lookup}
use Rattle.syntax_tables.proofs.NumberLemmas.{lookup_added}
use Rattle.syntax_tables.proofs.written.add_name.Goals as goal

pub returns : goal.returns
returns c =
    lookup_added (λ k. k.items) c.args.numbers.now.entries c.insert.new.self.entries c.in_ok-key.key c.args.number c.args.name.now
    c.in_ok-key.ensures.items c.if-contains_key.ensures c.in_ok-insert.ensures.entries
