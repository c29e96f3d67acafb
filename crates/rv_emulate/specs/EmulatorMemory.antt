-- The regions of the emulator's memory, and loads and stores.
use Rattle.std.specs.Prelude.{ℕ, ◌+◌, ◌-◌, ◌%◌, Bool, ◌&&◌, ◌||◌, ◌==◌, nat_le, List, [], length, Option, Some, None, option_map, if◌then◌else◌}
use Rattle.sil_base.specs.Bytes.{number, low_bytes, piece, with_piece}
use Rattle.sil_base.specs.declared.places.TheConstants.{FIRST_CELL, FIRST_CONSTANT, FIRST_KIND, FIRST_SCRATCH, FIRST_TABLE}

-- the regions that a store may change: the cells, their kinds, the tables, and the scratch bytes
pub record Memory : Type 0 where
  pub cells : List ℕ
  pub kinds : List ℕ
  pub tables : List ℕ
  pub scratch : List ℕ

-- n bytes at an address lie in the region of these bytes from its first place on
abbrev pub holds : ℕ → List ℕ → ℕ → ℕ → Bool
holds first bytes n address = nat_le first address && nat_le (address + n) (first + length bytes)

abbrev pub load_from : ℕ → List ℕ → ℕ → ℕ → Option ℕ
load_from first bytes n address = if holds first bytes n address then Some (number (piece (address - first) n bytes)) else None

abbrev pub or_else : {X : Type 0} → Option X → Option X → Option X
or_else (Some x) o = Some x
or_else None o = o

-- the number in n bytes at an address: none where it is misaligned, or where no region holds it
unfoldable pub loaded : List ℕ → Memory → ℕ → ℕ → Option ℕ
loaded constants m n address =
    if address % n == 0
    then or_else (load_from FIRST_CELL m.cells n address) (or_else (load_from FIRST_KIND m.kinds n address) (or_else (load_from FIRST_TABLE m.tables n address) (or_else (load_from FIRST_CONSTANT constants n address) (load_from FIRST_SCRATCH m.scratch n address))))
    else None

abbrev pub store_into : ℕ → List ℕ → ℕ → ℕ → ℕ → Option (List ℕ)
store_into first bytes n address v = if holds first bytes n address then Some (with_piece (address - first) (low_bytes n v) bytes) else None

-- the memory with the n lowest bytes of a number at an address: none where it is misaligned, or where no region that can be stored to holds it
unfoldable pub stored : Memory → ℕ → ℕ → ℕ → Option Memory
stored m n address v =
    if address % n == 0
    then or_else (option_map (λ b. record m { cells = b }) (store_into FIRST_CELL m.cells n address v)) (or_else (option_map (λ b. record m { kinds = b }) (store_into FIRST_KIND m.kinds n address v)) (or_else (option_map (λ b. record m { tables = b }) (store_into FIRST_TABLE m.tables n address v)) (option_map (λ b. record m { scratch = b }) (store_into FIRST_SCRATCH m.scratch n address v))))
    else None

abbrev pub piece_from : ℕ → List ℕ → ℕ → ℕ → Option (List ℕ)
piece_from first bytes n address = if holds first bytes n address then Some (piece (address - first) n bytes) else None

abbrev pub or_nothing : Option (List ℕ) → List ℕ
or_nothing None = []
or_nothing (Some bytes) = bytes

-- the n bytes at an address, where a region holds them
unfoldable pub bytes_at : List ℕ → Memory → ℕ → ℕ → List ℕ
bytes_at constants m n address =
    or_nothing (or_else (piece_from FIRST_CELL m.cells n address) (or_else (piece_from FIRST_KIND m.kinds n address) (or_else (piece_from FIRST_TABLE m.tables n address) (or_else (piece_from FIRST_CONSTANT constants n address) (piece_from FIRST_SCRATCH m.scratch n address)))))

-- the memory with other bytes at an address, where a region that can be stored to holds them
unfoldable pub with_bytes : Memory → ℕ → List ℕ → Memory
with_bytes m address bytes =
    if holds FIRST_CELL m.cells (length bytes) address then record m { cells = with_piece (address - FIRST_CELL) bytes m.cells }
    else if holds FIRST_KIND m.kinds (length bytes) address then record m { kinds = with_piece (address - FIRST_KIND) bytes m.kinds }
    else if holds FIRST_TABLE m.tables (length bytes) address then record m { tables = with_piece (address - FIRST_TABLE) bytes m.tables }
    else if holds FIRST_SCRATCH m.scratch (length bytes) address then record m { scratch = with_piece (address - FIRST_SCRATCH) bytes m.scratch }
    else m

-- n bytes at an address lie in one region that can be stored to, as no bytes do anywhere
unfoldable pub can_store : Memory → ℕ → ℕ → Bool
can_store m n address =
    (n == 0) || holds FIRST_CELL m.cells n address || holds FIRST_KIND m.kinds n address || holds FIRST_TABLE m.tables n address || holds FIRST_SCRATCH m.scratch n address

-- n bytes at an address lie in one region that can be loaded from, as no bytes do anywhere
unfoldable pub can_load : List ℕ → Memory → ℕ → ℕ → Bool
can_load constants m n address = can_store m n address || holds FIRST_CONSTANT constants n address
