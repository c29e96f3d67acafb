use Rattle.rv_operations.proofs.Statements.{begins_statement, ends_run}
use Rattle.rv_operations.proofs.laws.law_of_statements.Goals as goal

pub returns-clause-begin : goal.returns-clause-begin
returns-clause-begin c = begins_statement

pub returns-clause-end : goal.returns-clause-end
returns-clause-end c = ends_run
