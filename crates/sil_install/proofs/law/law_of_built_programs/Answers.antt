use Rattle.std.proofs.Common.{get_or}
use Rattle.sil_install.proofs.BuiltNames.{built_is_expanded}
use Rattle.sil_install.proofs.law.law_of_built_programs.Goals as goal

pub returns : goal.returns
returns c = λ program built i default lt. built_is_expanded (get_or program.statements i default).name (built i default lt)
