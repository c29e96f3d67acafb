use Rattle.std.proofs.Common.{◌≡◌, ◌∙◌, ap}
use Rattle.std.specs.Prelude.{position}
use Rattle.sil_base.specs.Names.{is_word}
use Rattle.syntax_tables.specs.TableFiles.{names_in}
use Rattle.syntax_tables.proofs.NumberLemmas.{place_within}
use Rattle.syntax_tables.proofs.written.Written.first.Goals as goal

pub returns-clause-within : goal.returns-clause-within
returns-clause-within c =
    let name = c.args.name.now in
    place_within (is_word name) (names_in c.args.self.now) c.copied.result
    (c.copied.ensures ∙ c.get.ensures.value ∙ c.self.invariant name ∙ ap (λ lines. position (is_word name) (names_in lines)) c.self.view_is)
