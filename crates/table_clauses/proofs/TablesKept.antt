-- The macros that change syntax tables leave tables of valid entries.
use Rattle.std.proofs.Common.{◌≡◌, ℕ, List, length, Option, Some, None, refl, subst, ◌∙◌}
use Rattle.std.proofs.Math.ListN.{length-set}
use Rattle.std.proofs.lemmas.Option.{same_Some}
use Rattle.std.proofs.lemmas.List.{length-replicate}
use Rattle.std.proofs.lemmas.List.Elements.{All-set, All-replicate}
use Rattle.std.specs.Prelude.{ℤ, pos, All, slice_get, slice_set}
use Rattle.layout_params.specs.Parameters.{Settings}
use Rattle.sil_model.specs.declared.program.Arg.{Arg}
use Rattle.sil_model.specs.declared.program.Arg.TheVariants.{Absent, Place, Number, Flag, Goto as GotoArg, Table as TableNumber, Key, Format, Places, Gotos}
use Rattle.sil_model.specs.declared.program.Program.{Program}
use Rattle.sil_model.specs.declared.table.Action.{Action}
use Rattle.sil_model.specs.declared.table.Action.TheVariants.{Contin, Goto, Stop, Stopsh, Error}
use Rattle.sil_model.specs.declared.table.Entry.{Entry}
use Rattle.sil_model.specs.declared.table.Table.{Table}
use Rattle.sil_model.specs.Access.{◌>>=◌, char_at}
use Rattle.sil_model.specs.Fits.{Bounds, IsWithin}
use Rattle.sil_model.specs.Integers.{◌⊞◌}
use Rattle.sil_model.specs.Memory.{Memory}
use Rattle.sil_model.specs.States.{State}
use Rattle.sil_model.specs.UnitMacros.{KeepsTapes}
use Rattle.sil_model.specs.WellFormed.{GoesWithin, IsEntry, IsTable}
use Rattle.sil_model.proofs.Keeps.{LeadsWithin, all_at}
use Rattle.sil_model.proofs.Leaves.{IsSound, Leaves}
use Rattle.string_clauses.specs.Walks.{each}
use Rattle.string_clauses.proofs.Turns.{each_gives}
use Rattle.table_clauses.specs.SyntaxClauses.{TableEffect, all_plain, as_key, clertb, entries_at, key_at, plain, plug_turn, plugtb, set_entries, tables_onward, with_tables}

-- so many tables, which name no others
pub record AreTables (count : ℕ) (tables : List Table) : Type 0 where
  pub many : length tables ≡ count
  pub all : All (IsTable count) tables

-- entries of a table
abbrev pub AreEntries : ℕ → List Entry → Type 0
AreEntries count entries = IsTable count (record { entries = entries })

unfoldable pub KeepsTables : ℕ → ℕ → TableEffect → Type 0
KeepsTables last count None = Unit {0}
KeepsTables last count (Some (flow, tables)) = LeadsWithin last flow × AreTables count tables

pub tables_read : {A : Type 0} (last count : ℕ) (o : Option A) (f : A → TableEffect) → ((a : A) → o ≡ Some a → KeepsTables last count (f a)) → KeepsTables last count (o >>= f)
unfolding KeepsTables
tables_read last count None f h = tt
tables_read last count (Some a) f h = h a refl

tables_put : (last count : ℕ) (o : Option (List Table)) → ((tables : List Table) → o ≡ Some tables → AreTables count tables) → KeepsTables last count (tables_onward o)
unfolding KeepsTables
tables_put last count None h = tt
tables_put last count (Some tables) h = (tt, h tables refl)

-- ---- actions of operands

argument_stays : (b : Bounds) (arg : Arg) (action : Action) → IsWithin b arg → as_key arg ≡ Some action → GoesWithin b.tables action
argument_stays b (Key (Goto next)) action w is = absurd w
argument_stays b (Key Contin) action w is = subst (GoesWithin b.tables) (same_Some Contin action is) tt
argument_stays b (Key Stop) action w is = subst (GoesWithin b.tables) (same_Some Stop action is) tt
argument_stays b (Key Stopsh) action w is = subst (GoesWithin b.tables) (same_Some Stopsh action is) tt
argument_stays b (Key Error) action w is = subst (GoesWithin b.tables) (same_Some Error action is) tt
argument_stays b Absent action w is = absurd cc
argument_stays b (Place at) action w is = absurd cc
argument_stays b (Number n) action w is = absurd cc
argument_stays b (Flag f) action w is = absurd cc
argument_stays b (GotoArg location) action w is = absurd cc
argument_stays b (TableNumber t) action w is = absurd cc
argument_stays b (Format text) action w is = absurd cc
argument_stays b (Places ats) action w is = absurd cc
argument_stays b (Gotos locations) action w is = absurd cc

found_stays : (b : Bounds) (args : List Arg) (i : ℕ) (o : Option Arg) (action : Action) → All (IsWithin b) args → slice_get args i ≡ o → (o >>= as_key) ≡ Some action → GoesWithin b.tables action
found_stays b args i None action w e is = absurd cc
found_stays b args i (Some arg) action w e is = argument_stays b arg action (all_at (IsWithin b) args i arg w e) is

plain_entry : (b : Bounds) (args : List Arg) (i : ℕ) (action : Action) → All (IsWithin b) args → key_at args i ≡ Some action → IsEntry b.tables (plain action)
plain_entry b args i action w is = record { within = found_stays b args i (slice_get args i) action w refl is; put = tt }

-- ---- entries

entries_of : (count : ℕ) (tables : List Table) (t : ℕ) (o : Option Table) (entries : List Entry) → AreTables count tables → slice_get tables t ≡ o → (o >>= (λ table. Some table.entries)) ≡ Some entries → AreEntries count entries
entries_of count tables t None entries h e is = absurd cc
entries_of count tables t (Some table) entries h e is =
    let good = all_at (IsTable count) tables t table h.all e in
    subst (AreEntries count) (same_Some table.entries entries is) (record { size = good.size; entries = good.entries })

pub entries_good : (count : ℕ) (tables : List Table) (t : ℕ) (entries : List Entry) → AreTables count tables → entries_at tables t ≡ Some entries → AreEntries count entries
entries_good count tables t entries h is = entries_of count tables t (slice_get tables t) entries h refl is

pub entry_set : (count : ℕ) (entries : List Entry) (c : ℕ) (entry : Entry) → IsEntry count entry → AreEntries count entries → AreEntries count (slice_set entries c entry)
entry_set count entries c entry good h = record {
  size = length-set entries c entry ∙ h.size;
  entries = All-set (IsEntry count) entries c entry good h.entries;
}

set_by : (count : ℕ) (tables : List Table) (t : ℕ) (entries : List Entry) (after : List Table) (o : Option Table) → AreTables count tables → AreEntries count entries →
    (o >>= (λ table. Some (slice_set tables t (record { entries = entries })))) ≡ Some after → AreTables count after
set_by count tables t entries after None h good is = absurd cc
set_by count tables t entries after (Some table) h good is =
    subst (AreTables count) (same_Some _ after is) (record {
      many = length-set tables t (record { entries = entries }) ∙ h.many;
      all = All-set (IsTable count) tables t (record { entries = entries }) good h.all;
    })

entries_set : (count : ℕ) (tables : List Table) (t : ℕ) (entries : List Entry) (after : List Table) → AreTables count tables → AreEntries count entries → set_entries tables t entries ≡ Some after → AreTables count after
entries_set count tables t entries after h good is = set_by count tables t entries after (slice_get tables t) h good is

-- ---- the macros

pub alike : (count : ℕ) (action : Action) → IsEntry count (plain action) → AreEntries count (all_plain action)
unfolding all_plain
alike count action good = record { size = length-replicate 256 (plain action); entries = All-replicate (IsEntry count) 256 (plain action) good }

pub clertb_keeps : (b : Bounds) (args : List Arg) (tables : List Table) → All (IsWithin b) args → AreTables b.tables tables → KeepsTables b.statements b.tables (clertb args tables)
unfolding clertb
clertb_keeps b args tables w h =
    tables_read _ _ _ _ (λ t is.
    tables_read _ _ _ _ (λ key is2.
    tables_put _ _ _ (λ after is3. entries_set b.tables tables t _ after h (alike b.tables key (plain_entry b args 1 key w is2)) is3)))

plug_by : (count : ℕ) (entry : Entry) (entries after : List Entry) (o : Option ℕ) → IsEntry count entry → AreEntries count entries → (o >>= (λ c. Some (slice_set entries c entry))) ≡ Some after → AreEntries count after
plug_by count entry entries after None good h is = absurd cc
plug_by count entry entries after (Some c) good h is = subst (AreEntries count) (same_Some _ after is) (entry_set count entries c entry good h)

plug_gives : (count : ℕ) (m : Memory) (at : ℤ) (entry : Entry) (i : ℕ) (entries after : List Entry) → IsEntry count entry → AreEntries count entries → plug_turn m at entry i entries ≡ Some after → AreEntries count after
unfolding plug_turn
plug_gives count m at entry i entries after good h is = plug_by count entry entries after (char_at m (at ⊞ pos i)) good h is

pub plugs_give : (count : ℕ) (m : Memory) (at : ℤ) (entry : Entry) (n : ℕ) (entries after : List Entry) → IsEntry count entry → AreEntries count entries → each (plug_turn m at entry) 0 n entries ≡ Some after → AreEntries count after
plugs_give count m at entry n entries after good h is = each_gives (plug_turn m at entry) (AreEntries count) (λ i s t p e. plug_gives count m at entry i s t good p e) n 0 entries after h is

plugged : (b : Bounds) (args : List Arg) (m : Memory) (tables : List Table) (t l : ℕ) (key : Action) (at : ℤ) (entries after : List Entry) → All (IsWithin b) args → AreTables b.tables tables → key_at args 1 ≡ Some key → entries_at tables t ≡ Some entries →
    each (plug_turn m at (plain key)) 0 l entries ≡ Some after → KeepsTables b.statements b.tables (tables_onward (set_entries tables t after))
plugged b args m tables t l key at entries after w h is found turned =
    let good = plugs_give b.tables m at (plain key) l entries after (plain_entry b args 1 key w is) (entries_good b.tables tables t entries h found) turned in
    tables_put b.statements b.tables (set_entries tables t after) (λ tables' set. entries_set b.tables tables t after tables' h good set)

pub plugtb_keeps : (b : Bounds) (args : List Arg) (m : Memory) (tables : List Table) → All (IsWithin b) args → AreTables b.tables tables → KeepsTables b.statements b.tables (plugtb args m tables)
unfolding plugtb
plugtb_keeps b args m tables w h = search (tables_read, plugged) depth 30

-- ---- states with other tables

pub sound_tables : (program : Program) (settings : Settings) (s : State) → IsSound program settings s → AreTables (length program.tables) s.tables
sound_tables program settings s h = record { many = h.table_count; all = h.tables }

pub tables_leave : (program : Program) (settings : Settings) (s : State) (o : TableEffect) → IsSound program settings s → KeepsTables (length program.statements) (length program.tables) o → Leaves program settings (with_tables s o)
unfolding Leaves KeepsTables
tables_leave program settings s None h k = tt
tables_leave program settings s (Some (flow, tables)) h k = (
  k.0,
  record {
    memory = h.memory;
    limits = h.limits;
    cells = h.cells;
    table_count = k.1.many;
    tables = k.1.all;
    current = h.current;
    previous = h.previous;
  },
)

pub tables_alone : (s : State) (o : TableEffect) → KeepsTapes s.tapes (with_tables s o)
unfolding KeepsTapes
tables_alone s None = tt
tables_alone s (Some (flow, tables)) = refl
