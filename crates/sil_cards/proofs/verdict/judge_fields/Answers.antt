use Rattle.std.proofs.Common.{◌≡◌, ◌∙◌, cond, ℕ, List, [], Option, Some, ap, sym}
use Rattle.std.specs.Prelude.{codes, unwrap_or}
use Rattle.sil_base.specs.Names.{is_word}
use Rattle.sil_macros.specs.declared.names.Macro.{Macro}
use Rattle.sil_macros.specs.declared.names.Macro.TheVariants as macros
use Rattle.sil_macros.specs.Macros.{with_name}
use Rattle.sil_operands.specs.declared.operand.Operand.{Operand}
use Rattle.sil_operands.specs.OperandReading.{operands_of}
use Rattle.sil_cards.specs.Contents.{operation_of, operands_at}
use Rattle.sil_cards.proofs.CardLemmas.{copy_not_taken}
use Rattle.sil_cards.proofs.verdict.judge_fields.Goals as goal

named : (operation : List ℕ) (m : Macro) → Some m ≡ with_name operation → m ≡ operation_of operation
unfolding operation_of
named operation m h = ap (λ o. unwrap_or o macros.End) h

read_once : (operation field : List ℕ) (read : Option (List Operand)) (operands : List Operand) → operands ≡ cond (is_word operation (codes "END")) [] (unwrap_or read []) → read ≡ operands_of field → operands ≡ operands_at operation field
unfolding operands_at
read_once operation field read operands h e = h ∙ ap (λ o. cond (is_word operation (codes "END")) [] (unwrap_or o [])) e

pub returns-then-eq-clause-contents : goal.returns-then-eq-clause-contents
returns-then-eq-clause-contents c = λ taken.
    absurd (copy_not_taken c.args.deeper c.args.f.now.label.now c.in_ok-file.file (sym c.copy_verdict.ensures ∙ sym c.untaken-then-eq.ensures ∙ taken))

pub returns-clause-contents : goal.returns-clause-contents
returns-clause-contents c = λ taken. (
  named c.args.f.now.operation.now c.in-Some.name c.in-Some.ensures.same,
  read_once c.args.f.now.operation.now c.args.f.now.operands.now c.in_ok-read.read c.operands_of_card.result c.operands_of_card.ensures c.in_ok-read.ensures,
)
