use Rattle.std.proofs.Common.{ap, ◌∙◌, false, ◌≡◌, is_some, nat_eq}
use Rattle.std.specs.Cmp.Lexicographic.{pointwise}
use Rattle.std.specs.Map.{lookup}
use Rattle.sil_symbols.proofs.LabelLemmas.{lookup_added}
use Rattle.sil_symbols.proofs.labels.add_label.Goals as goal

pub returns : goal.returns
returns c =
    let absent : false ≡ is_some (lookup (λ k. pointwise nat_eq c.args.statement.now.label k.items) c.args.labels.now.entries) =
    c.if-contains_key.ensures ∙ ap (λ l. is_some (lookup (λ k. pointwise nat_eq l k.items) c.args.labels.now.entries)) c.bytes-label.ensures in
    lookup_added (λ k. k.items) c.args.labels.now.entries c.insert.new.self.entries c.in_ok-key.key c.args.place c.args.statement.now c.if-not-is_labelled.ensures
    (c.in_ok-key.ensures.items ∙ c.bytes-label.ensures) absent c.in_ok-insert.ensures.entries
