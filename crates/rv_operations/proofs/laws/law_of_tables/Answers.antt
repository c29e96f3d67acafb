use Rattle.rv_operations.proofs.TableOps.{loads_table, stores_table}
use Rattle.rv_operations.proofs.laws.law_of_tables.Goals as goal

pub returns-clause-load : goal.returns-clause-load
returns-clause-load c = loads_table

pub returns-clause-store : goal.returns-clause-store
returns-clause-store c = stores_table
