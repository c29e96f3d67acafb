use Rattle.std.proofs.Common.{◌<◌, ℕ, ap, subst, ◌∙◌}
use Rattle.std.specs.Prelude.{All}
use Rattle.sil_model.specs.Start.{limits_of}
use Rattle.sil_symbols.specs.Symbols.{value_of}
use Rattle.data_asm.specs.DataFields.{first_text}
use Rattle.data_asm.proofs.FitLemmas.{data_fit}
use Rattle.data_asm.proofs.assembly.law_of_data.Goals as goal

pub returns : goal.returns
returns c =
    let p = c.args.source.now.params.now in
    let source = c.args.source.now.statements.now in
    let s = c.args.statement.now in
    let bytes = subst (All (λ (c : ℕ). c < 256)) (c.first_text.ensures ∙ ap first_text c.items.ensures) c.law_of_bytes.ensures in
    data_fit (limits_of p.settings) (value_of p source) c.args.at s.name s.operands c.numbers-least.ensures.descr.1 (c.law_of_values.ensures p source) c.ranges.at bytes c.requires
