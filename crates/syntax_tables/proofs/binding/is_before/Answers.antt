use Rattle.std.proofs.Common.{Some, None, sym, ◌∙◌}
use Rattle.sil_base.specs.Names.{is_word}
use Rattle.syntax_tables.specs.TableFiles.{names_in}
use Rattle.syntax_tables.proofs.NumberLemmas.{before}
use Rattle.syntax_tables.proofs.binding.is_before.Goals as goal

pub returns-in-Some : goal.returns-in-Some
returns-in-Some c = before (is_word c.args.name.now) (names_in c.args.written.now) c.args.count (Some c.in-Some.first) c.in-Some.ensures.place

pub returns-in-None : goal.returns-in-None
returns-in-None c = before (is_word c.args.name.now) (names_in c.args.written.now) c.args.count None c.in-None.ensures.place
