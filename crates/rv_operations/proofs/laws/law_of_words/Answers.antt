use Rattle.rv_operations.proofs.ByteWordOps.{loads_bytes, stores_bytes}
use Rattle.rv_operations.proofs.KindOps.{loads_kind, stores_kind}
use Rattle.rv_operations.proofs.laws.law_of_words.Goals as goal

pub returns-clause-load_bytes : goal.returns-clause-load_bytes
returns-clause-load_bytes c = loads_bytes

pub returns-clause-store_bytes : goal.returns-clause-store_bytes
returns-clause-store_bytes c = stores_bytes

pub returns-clause-load_kind : goal.returns-clause-load_kind
returns-clause-load_kind c = loads_kind

pub returns-clause-store_kind : goal.returns-clause-store_kind
returns-clause-store_kind c = stores_kind
