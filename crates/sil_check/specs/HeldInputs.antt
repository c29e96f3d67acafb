-- What the code's values stand for.
use Rattle.std.specs.Prelude.{◌≤◌, length}
use Rattle.sil_base.specs.declared.limits.TheConstants.{MAX_CARDS}
use Rattle.sil_cards.specs.Cards.{AreCards}
use Rattle.sil_check.specs.declared.inputs.Inputs as declared
use Rattle.sil_check.specs.declared.inputs.Source as source
use Rattle.sil_check.specs.declared.inputs.Source.TheVariants as held
use Rattle.sil_check.specs.Inputs.{Source, Cards, Faulty, Inputs}

abbrev pub source_held : source.Source → Source
source_held (held.Cards cards) = Cards cards.items
source_held (held.Faulty faults) = Faulty faults

abbrev pub inputs_by : declared.Inputs → Inputs
inputs_by i = record { params = i.params.items; tables = i.tables.items; source = source_held i.source }

-- cards as they are read: good ones, and at most so many as a source may have
abbrev pub AreRead : source.Source → Type 0
AreRead (held.Cards cards) = (length cards.items ≤ MAX_CARDS) × AreCards cards.items
AreRead (held.Faulty faults) = Unit {0}
