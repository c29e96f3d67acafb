-- Fields as the code holds them.
use Rattle.sil_cards.specs.CardFields.{Fields}
use Rattle.sil_cards.specs.declared.fields.Fields as declared

abbrev pub fields_held : declared.Fields → Fields
fields_held f = record { label = f.label.now; operation = f.operation.now; operands = f.operands.now }
