use Rattle.std.proofs.Common.{◌∙◌, ◌≤◌, length, fold, sym, ap, ap₂, arith}
use Rattle.std.proofs.lemmas.List.Sums.{fold_more}
use Rattle.std.proofs.lemmas.List.Folds.{fold-map}
use Rattle.std.proofs.lemmas.List.{take_all}
use Rattle.clap.specs.Simple.{new_app, with_rule}
use Rattle.command_words.specs.ClapCommands.{with_argument}
use Rattle.command_words.proofs.parsing.simple_command.Goals as goal

pub loop-argument-preserved : goal.loop-argument-preserved
loop-argument-preserved c =
    c.in_ok-command.ensures.shape c.required.ensures.local ∙ ap₂ with_rule c.loop-argument.invariant c.required.ensures.rule
    ∙ sym (fold_more (λ app argument. with_argument app argument.now) (new_app c.args.name.now) c.args.arguments.now c.loop-argument.argument-index _ c.loop-argument-test.true)

pub returns : goal.returns
returns c =
    let past : length c.args.arguments.now ≤ c.loop-argument.argument-index = omega arith in
    c.loop-argument.invariant
    ∙ ap (fold (λ app argument. with_argument app argument.now) (new_app c.args.name.now)) (take_all _ _ past)
    ∙ sym (fold-map with_argument (λ argument. argument.now) (new_app c.args.name.now) c.args.arguments.now)
