-- What the macros of syntax tables do. None stands for a use that is undefined.
use Rattle.std.specs.Prelude.{ℕ, ◌+◌, List, replicate, Option, Some, None, ℤ, pos, ◌-ℤ◌, slice_get, slice_set}
use Rattle.std.specs.declared.ops.ControlFlow.{ControlFlow}
use Rattle.std.specs.declared.ops.ControlFlow.TheVariants.{Continue, Break}
use Rattle.sil_model.specs.declared.program.Arg.{Arg}
use Rattle.sil_model.specs.declared.program.Arg.TheVariants.{Table as TableNumber, Key}
use Rattle.sil_model.specs.declared.program.Flow.{Flow}
use Rattle.sil_model.specs.declared.program.Flow.TheVariants.{Next}
use Rattle.sil_model.specs.declared.specifier.Specifier.{Specifier}
use Rattle.sil_model.specs.declared.table.Action.{Action}
use Rattle.sil_model.specs.declared.table.Action.TheVariants.{Contin, Goto, Stop, Stopsh, Error}
use Rattle.sil_model.specs.declared.table.Entry.{Entry}
use Rattle.sil_model.specs.declared.table.Table.{Table}
use Rattle.sil_model.specs.Access.{◌>>=◌, char_at, set_a_at, set_v_at}
use Rattle.sil_model.specs.Arguments.{place_at, goto_at}
use Rattle.sil_model.specs.Effects.{Effect, MemoryEffect, goes, leads}
use Rattle.sil_model.specs.Integers.{◌⊞◌}
use Rattle.sil_model.specs.Memory.{Memory}
use Rattle.sil_model.specs.Specifiers.{spec_at, set_spec_at}
use Rattle.sil_model.specs.States.{State}
use Rattle.string_clauses.specs.StringClauses.{first_of, length_at, second_of}
use Rattle.string_clauses.specs.Walks.{each, walk}
use Rattle.table_clauses.specs.declared.streams.Exits.{Exits}
use Rattle.table_clauses.specs.declared.streams.Halt.{Halt}
use Rattle.table_clauses.specs.declared.streams.Halt.TheVariants.{Fails, RunsOut, Stops}
use Rattle.table_clauses.specs.declared.streams.Places.{Places}
use Rattle.table_clauses.specs.declared.streams.Scan.{Scan}

-- ---- operands

abbrev pub as_table : Arg → Option ℕ
as_table (TableNumber t) = Some t
as_table _ = None

abbrev pub as_key : Arg → Option Action
as_key (Key action) = Some action
as_key _ = None

-- the number of a table, and an action
abbrev pub table_at : List Arg → ℕ → Option ℕ
table_at args i = do
  arg ← slice_get args i
  as_table arg

abbrev pub key_at : List Arg → ℕ → Option Action
key_at args i = do
  arg ← slice_get args i
  as_key arg

-- ---- effects on tables

-- where a statement goes and the tables that it leaves; none where it is undefined
abbrev pub TableEffect : Type 0
TableEffect = Option (Flow × List Table)

abbrev pub with_tables : State → TableEffect → Effect
with_tables s None = None
with_tables s (Some (flow, tables)) = goes flow (record s { tables = tables })

-- where a call goes and the tables that it leaves; nothing is said of the tables where it is undefined
abbrev pub after_tables : Option Flow → List Table → TableEffect
after_tables None tables = None
after_tables (Some flow) tables = Some (flow, tables)

-- goes on to the next statement
abbrev pub tables_onward : Option (List Table) → TableEffect
tables_onward o = do
  tables ← o
  Some (Next, tables)

-- ---- entries

-- an action that puts nothing
abbrev pub plain : Action → Entry
plain action = record { action = action; put = None }

-- the same for each character
unfoldable pub all_plain : Action → List Entry
all_plain action = replicate 256 (plain action)

-- the entries of the table of a number, and the tables with others there
abbrev pub entries_at : List Table → ℕ → Option (List Entry)
entries_at tables t = do
  table ← slice_get tables t
  Some table.entries

abbrev pub set_entries : List Table → ℕ → List Entry → Option (List Table)
set_entries tables t entries = do
  table ← slice_get tables t
  Some (slice_set tables t (record { entries = entries }))

-- the entry of a character
abbrev pub entry_in : List Table → ℕ → ℕ → Option Entry
entry_in tables t c = do
  table ← slice_get tables t
  slice_get table.entries c

-- ---- CLERTB and PLUGTB

-- `CLERTB T,K`: every entry of T := action K without a value
unfoldable pub clertb : List Arg → List Table → TableEffect
clertb args tables = do
  t ← table_at args 0
  key ← key_at args 1
  tables_onward (set_entries tables t (all_plain key))

-- the entry of character i
unfoldable pub plug_turn : Memory → ℤ → Entry → ℕ → List Entry → Option (List Entry)
plug_turn m at entry i entries = do
  c ← char_at m (at ⊞ pos i)
  Some (slice_set entries c entry)

-- `PLUGTB T,K,S`: the entry in T of each character of S := action K without a value
unfoldable pub plugtb : List Arg → Memory → List Table → TableEffect
plugtb args m tables = do
  t ← table_at args 0
  key ← key_at args 1
  s ← place_at args 2
  l ← length_at m s
  at ← first_of l m s
  entries ← entries_at tables t
  entries' ← each (plug_turn m at (plain key)) 0 l entries
  tables_onward (set_entries tables t entries')

-- ---- STREAM

-- the value that was put last, once an entry has put this
abbrev pub latest : Option ℤ → Option ℤ → Option ℤ
latest before None = before
latest before (Some value) = Some value

-- what an action makes of character i, in this table: CONTIN goes on there, GOTO in another; STOP takes the character, STOPSH doesn't
abbrev pub acted : Action → ℕ → ℕ → Option ℤ → ControlFlow Halt Scan
acted Contin i t put = Continue (record { table = t; put = put })
acted (Goto next) i t put = Continue (record { table = next; put = put })
acted Stop i t put = Break (Stops (i + 1) put)
acted Stopsh i t put = Break (Stops i put)
acted Error i t put = Break Fails

-- the entry of character i decides
unfoldable pub stream_turn : List Table → Memory → ℤ → ℕ → Scan → Option (ControlFlow Halt Scan)
stream_turn tables m at i scan = do
  c ← char_at m (at ⊞ pos i)
  entry ← entry_in tables scan.table c
  Some (acted entry.action i scan.table (latest scan.put entry.put))

-- where no character is left
abbrev pub ran_out : Scan → Halt
ran_out scan = RunsOut scan.put

abbrev pub or_zero : Option ℤ → ℤ
or_zero None = pos 0
or_zero (Some value) = value

-- a specifier loses so many characters at its front; its second cell is at this address
abbrev pub front_lost : Memory → ℤ → Specifier → ℕ → Option Memory
front_lost m at s n = do
  m' ← set_a_at m at (s.o ⊞ pos n)
  set_v_at m' at (pos s.l -ℤ pos n)

-- STYPE.A := what was put last, or 0; the head := so many characters of a specifier; and the rest, which is that specifier as it was, loses them
abbrev pub parted : Places → Specifier → ℕ → Option ℤ → Memory → Option Memory
parted to s n put m = do
  m1 ← set_a_at m to.stype (or_zero put)
  m2 ← set_spec_at m1 to.head (record s { l = n })
  front_lost m2 (second_of m to.rest) s n

-- where a walk over a specifier goes: where it fails, STYPE.A := 0 alone
abbrev pub streamed : Places → Exits → Specifier → Halt → Memory → MemoryEffect
streamed to exits s Fails m = leads exits.error (set_a_at m to.stype (pos 0))
streamed to exits s (RunsOut put) m = leads exits.run_out (parted to s s.l put m)
streamed to exits s (Stops n put) m = leads exits.stop (parted to s n put m)

-- `STREAM S1,S2,T,L1,L2,L3`, with the place of STYPE: the characters of S2 are walked from T on; S1 := those up to the end of the walk, and S2 loses them. To L1 at ERROR, L2 where none is left, else L3
unfoldable pub stream : Option ℤ → List Table → List Arg → Memory → MemoryEffect
stream stype tables args m = do
  at ← stype
  s1 ← place_at args 0
  s2 ← place_at args 1
  t ← table_at args 2
  error ← goto_at args 3
  run_out ← goto_at args 4
  stop ← goto_at args 5
  s ← spec_at m s2
  halt ← walk (stream_turn tables m (s.a ⊞ s.o)) ran_out 0 s.l (record { table = t; put = None })
  streamed (record { stype = at; head = s1; rest = s2 }) (record { error = error; run_out = run_out; stop = stop }) s halt m
