use Rattle.string_runtime.specs.StringParts.{shorter_code}
use Rattle.string_runtime.proofs.parts.append_shorter.Goals as goal

pub returns-clause-grown : goal.returns-clause-grown
unfolding shorter_code
returns-clause-grown c = c.in_ok-append.ensures.appends
