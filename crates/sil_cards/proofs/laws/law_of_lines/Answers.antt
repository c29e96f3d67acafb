use Rattle.sil_cards.proofs.LineLaws.{same_lines, joined_lines}
use Rattle.sil_cards.proofs.laws.law_of_lines.Goals as goal

pub returns-clause-same : goal.returns-clause-same
returns-clause-same c = same_lines

pub returns-clause-whole : goal.returns-clause-whole
returns-clause-whole c = joined_lines
