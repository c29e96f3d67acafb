use Rattle.std.proofs.Common.{◌≡◌, ◌+◌, ◌++◌, ◌∷◌, [], true, false, drop, ap, sym, ◌∙◌}
use Rattle.sil_macros.specs.MacroRows.{row}
use Rattle.sil_arguments.specs.HeldScopes.{scope_in}
use Rattle.sil_program.specs.Programs.{machine_statements}
use Rattle.sil_arguments.proofs.Made.{after}
use Rattle.sil_program.proofs.MadeStatements.{passed_over, taken}
use Rattle.sil_program.proofs.program.machine_statements.Goals as goal
use Rattle.sil_program.proofs.program.machine_statements.Goals.{then-not-is_assembly+in_ok-machine_statement+in_ok-push, else-not-is_assembly}

pub loop-statement-preserved : goal.loop-statement-preserved
loop-statement-preserved c =
    let scope = scope_in c.args.bound.now in
    let source = c.args.bound.now.source.statements.now in
    let made = c.loop-statement.made.items in
    let i = c.loop-statement.statement-index in
    let s = c.statement-item.result in
    elim c.if-not-is_assembly.branch [
      | then-not-is_assembly+in_ok-machine_statement+in_ok-push w ↦
          let x = w.in_ok-machine_statement.field-0 in
          let items : c.if-not-is_assembly.made.items ≡ made ++ x ∷ [] = ap (λ v. v.items) w.made-is ∙ w.in_ok-push.ensures.items in
          let runs : (row s.name).assembly ≡ false = sym c.is_assembly.ensures ∙ w.if-not-is_assembly.true in
          c.loop-statement.invariant
          ∙ taken scope source i s made x c.loop-statement-test.true c.statement-item.is runs w.in_ok-machine_statement.ensures
          ∙ ap (λ xs. after xs (machine_statements scope (drop (i + 1) source))) (sym items)
      | else-not-is_assembly w ↦
          let items : c.if-not-is_assembly.made.items ≡ made = ap (λ v. v.items) w.made-is in
          let passed : (row s.name).assembly ≡ true = sym c.is_assembly.ensures ∙ w.if-not-is_assembly.false in
          c.loop-statement.invariant
          ∙ ap (after made) (passed_over scope source i s c.loop-statement-test.true c.statement-item.is passed)
          ∙ ap (λ xs. after xs (machine_statements scope (drop (i + 1) source))) (sym items)
    ]
