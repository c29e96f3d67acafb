-- The table of the macros of syntax tables: their clauses, and the visits that these make.
use Rattle.std.specs.Prelude.{ℕ, ◌+◌, ◌*◌, List, Bool, true, false, Some, None}
use Rattle.sil_macros.specs.declared.names.Macro.{Macro}
use Rattle.sil_macros.specs.declared.names.Macro.TheVariants.{Clertb, Plugtb, Stream}
use Rattle.sil_model.specs.declared.program.Arg.{Arg}
use Rattle.sil_model.specs.declared.table.Table.{Table}
use Rattle.sil_model.specs.Access.{◌>>=◌}
use Rattle.sil_model.specs.Arguments.{place_at}
use Rattle.sil_model.specs.Effects.{Effect, with_memory, no_clause}
use Rattle.sil_model.specs.Integers.{◌⊞◌}
use Rattle.sil_model.specs.Memory.{Memory}
use Rattle.sil_model.specs.Sites.{Site}
use Rattle.sil_model.specs.Specifiers.{spec_at}
use Rattle.sil_model.specs.States.{State}
use Rattle.string_clauses.specs.StringClauses.{first_of, length_at}
use Rattle.string_clauses.specs.StringTable.{or_none}
use Rattle.string_clauses.specs.Walks.{each_visits, walk_visits}
use Rattle.table_clauses.specs.SyntaxClauses.{clertb, entries_at, key_at, plain, plug_turn, plugtb, stream, stream_turn, table_at, with_tables}

-- whether a macro is one of these
abbrev pub is_of_table : Macro → Bool
is_of_table Clertb = true
is_of_table Plugtb = true
is_of_table Stream = true
is_of_table _ = false

unfoldable pub table_clause : Macro → Site → State → Effect
table_clause Clertb site s = with_tables s (clertb site.args s.tables)
table_clause Plugtb site s = with_tables s (plugtb site.args s.memory s.tables)
table_clause Stream site s = with_memory s (stream site.program.specials.stype s.tables site.args s.memory)
table_clause _ site s = no_clause site s

-- ---- visits to characters; there are none where a field isn't found

abbrev pub plugtb_turns : List Table → List Arg → Memory → ℕ
plugtb_turns tables args m = or_none (do
  t ← table_at args 0
  key ← key_at args 1
  s ← place_at args 2
  l ← length_at m s
  at ← first_of l m s
  entries ← entries_at tables t
  Some (each_visits (plug_turn m at (plain key)) 0 l entries))

abbrev pub stream_turns : List Table → List Arg → Memory → ℕ
stream_turns tables args m = or_none (do
  s2 ← place_at args 1
  t ← table_at args 2
  s ← spec_at m s2
  Some (walk_visits (stream_turn tables m (s.a ⊞ s.o)) 0 s.l (record { table = t; put = None })))

-- the visits that a clause makes to cells, characters and table entries; each turn makes one to a character and one to an entry
abbrev pub table_visits : Macro → Site → State → ℕ
table_visits Clertb site s = 256
table_visits Plugtb site s = 2 + 2 * plugtb_turns s.tables site.args s.memory
table_visits Stream site s = 7 + 2 * stream_turns s.tables site.args s.memory
table_visits _ site s = 0
