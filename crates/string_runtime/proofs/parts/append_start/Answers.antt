use Rattle.string_runtime.specs.StringParts.{start_code}
use Rattle.string_runtime.proofs.parts.append_start.Goals as goal

pub returns-clause-grown : goal.returns-clause-grown
unfolding start_code
returns-clause-grown c = c.in_ok-append.ensures.appends
