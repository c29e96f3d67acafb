use Rattle.rv_operations.proofs.FieldsRead.{loads_field}
use Rattle.rv_operations.proofs.FieldsWritten.{stores_field}
use Rattle.rv_operations.proofs.laws.law_of_fields.Goals as goal

pub returns-clause-load : goal.returns-clause-load
returns-clause-load c = loads_field

pub returns-clause-store : goal.returns-clause-store
returns-clause-store c = stores_field
