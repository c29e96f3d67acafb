use Rattle.demo_checks.proofs.Demos.{cards_pass, demos_pass}
use Rattle.demo_checks.proofs.laws.law_of_demos.Goals as goal

pub returns-clause-programs : goal.returns-clause-programs
returns-clause-programs c = λ n seed few.
    let there = cards_pass c.what_is_spelled_is_read.ensures c.law_of_programs.ensures n seed few in (there.program, there.is)

pub returns-clause-checked : goal.returns-clause-checked
returns-clause-checked c = demos_pass c.what_is_spelled_is_read.ensures c.law_of_programs.ensures c.standard_text_is_standard.ensures.faultless c.standard_text_is_standard.ensures.values
