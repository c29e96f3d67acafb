use Rattle.std.proofs.Common.{◌≡◌, take}
use Rattle.std.specs.List.{flat_map}
use Rattle.sil_install.specs.TableBytes.{bytes_of}
use Rattle.sil_install.proofs.tables.table_bytes.Given as goal

abbrev pub invariant-loop-table : goal.invariant-loop-table
invariant-loop-table l = l.bytes.items ≡ flat_map bytes_of (take l.table-index l.tables)
