-- How many characters the clauses visit.
use Rattle.std.proofs.Common.{◌≡◌, ℕ, ◌+◌, ◌<◌, ◌≤◌, ◌^◌, List, Some, refl, arith}
use Rattle.std.specs.Prelude.{ℤ}
use Rattle.sil_model.specs.declared.program.Arg.{Arg}
use Rattle.sil_model.specs.declared.specifier.Specifier.{Specifier}
use Rattle.sil_model.specs.declared.table.Entry.{Entry}
use Rattle.sil_model.specs.declared.table.Table.{Table}
use Rattle.sil_model.specs.Memory.{Memory, IsMemory}
use Rattle.sil_model.specs.Specifiers.{spec_at}
use Rattle.sil_model.proofs.Lists.{spec_fits}
use Rattle.string_clauses.specs.Walks.{each_visits, walk_visits}
use Rattle.string_clauses.proofs.Room.{all_bytes}
use Rattle.string_clauses.proofs.StringVisits.{few_each, few_walk, length_small, or_few}
use Rattle.table_clauses.specs.SyntaxClauses.{plug_turn, stream_turn}
use Rattle.table_clauses.specs.SyntaxTable.{plugtb_turns, stream_turns}
use Rattle.table_clauses.specs.declared.streams.Scan.{Scan}

plugs_few : (m : Memory) (at : ℤ) (entry : Entry) (n : ℕ) (entries : List Entry) → IsMemory m → n < 2 ^ 63 → each_visits (plug_turn m at entry) 0 n entries ≤ all_bytes m + 1
unfolding plug_turn
plugs_few m at entry n entries h small = few_each m h at (plug_turn m at entry) _ (λ i s. refl) n entries small

pub plugtb_few : (tables : List Table) (args : List Arg) (m : Memory) → IsMemory m → plugtb_turns tables args m ≤ all_bytes m + 1
plugtb_few tables args m h = search (or_few, plugs_few, length_small) depth 24

walk_few : (tables : List Table) (m : Memory) (at : ℤ) (n : ℕ) (scan : Scan) → IsMemory m → n < 2 ^ 63 → walk_visits (stream_turn tables m at) 0 n scan ≤ all_bytes m + 1
unfolding stream_turn
walk_few tables m at n scan h small = few_walk m h at (stream_turn tables m at) _ (λ i s. refl) n 0 scan (omega (arith, small))

spec_small : (m : Memory) (at : ℤ) (s : Specifier) → IsMemory m → spec_at m at ≡ Some s → s.l < 2 ^ 63
spec_small m at s h is = (let few = (spec_fits m at s h is).l in omega (arith, few, h.limits.values))

pub stream_few : (tables : List Table) (args : List Arg) (m : Memory) → IsMemory m → stream_turns tables args m ≤ all_bytes m + 1
stream_few tables args m h = search (or_few, walk_few, spec_small) depth 24
