-- A tables file, line by line.
use Rattle.std.specs.Prelude.{ℕ, ◌+◌, Bool, true, false, ◌==◌, List, [], ◌∷◌, map, option_map, min, position, Option, Some, None, if◌then◌else◌}
use Rattle.std.specs.declared.result.Result.{Result}
use Rattle.std.specs.declared.result.Result.TheVariants.{Ok, Err}
use Rattle.sil_base.specs.Lines as texts
use Rattle.sil_base.specs.Lines.{without_end}
use Rattle.sil_base.specs.Names.{is_word}
use Rattle.sil_base.specs.Faults.{fault_at}
use Rattle.sil_base.specs.declared.line.TheConstants.{TABLES_FILE}
use Rattle.sil_base.specs.declared.line.Fault.{Fault}
use Rattle.sil_base.specs.declared.fault_stop.FaultStop.{FaultStop}
use Rattle.sil_base.specs.declared.fault_stop.FaultStop.TheVariants as stop
use Rattle.syntax_tables.specs.Sayings.{said_in}
use Rattle.syntax_tables.specs.declared.saying.Saying.{Saying}
use Rattle.syntax_tables.specs.declared.saying.Saying.TheVariants.{Begin, For, Else, End}
use Rattle.syntax_tables.specs.declared.saying.Said.{Said}
use Rattle.syntax_tables.specs.declared.place.Place.{Place}
use Rattle.syntax_tables.specs.declared.place.Place.TheVariants.{Between, Within, Closing}

-- a line ends at LF, and a CR directly before it is dropped; bytes after the last LF are a line
abbrev pub lines_of : List ℕ → List (List ℕ)
lines_of bytes = map without_end (texts.lines_of bytes)

-- a line that is empty or begins with `*`
abbrev pub is_skipped : List ℕ → Bool
is_skipped [] = true
is_skipped (c ∷ rest) = c == 42

-- 84 is T
abbrev pub table_fault : ℕ → ℕ → Fault
table_fault number rule = fault_at TABLES_FILE 84 number rule

-- a table is closed by an END of its name
abbrev pub closed : List ℕ → List ℕ → Option Place
closed name other = if is_word other name then Some Between else None

-- where the file stands after a line, where that line may stand there: between tables stands a BEGIN; in a table any number of FOR, then ELSE, then END
abbrev pub place_after : Place → Saying → Option Place
place_after Between (Begin name) = Some (Within name)
place_after (Within name) (For class rule) = Some (Within name)
place_after (Within name) (Else rule) = Some (Closing name)
place_after (Closing name) (End other) = closed name other
place_after place saying = None

abbrev pub Reading : Type 0
Reading = Result (List Said) FaultStop

-- the file is read to the first line that breaks a rule
abbrev pub broken : ℕ → ℕ → Reading
broken number rule = Err (stop.Faults (table_fault number rule ∷ []))

-- what comes of an option, or the rule that is broken where there is none
abbrev pub or_broken : {A : Type 0} → Option A → ℕ → ℕ → (A → Reading) → Reading
or_broken None number rule go = broken number rule
or_broken (Some x) number rule go = go x

abbrev pub with_line : Said → Reading → Reading
with_line said (Ok lines) = Ok (said ∷ lines)
with_line said (Err e) = Err e

-- the end of the file stands between tables
abbrev pub ending : Place → ℕ → Reading
ending Between number = Ok []
ending (Within name) number = broken number 2
ending (Closing name) number = broken number 2

-- what lines say, the first of which has this number, where the file stands at this place before them: 1 is a line of no form, 2 one that no table allows there
abbrev pub reading : Place → ℕ → List (List ℕ) → Reading
reading place number [] = ending place number
reading place number (line ∷ lines) =
    if is_skipped line then reading place (number + 1) lines
    else or_broken (said_in line) number 1 (λ saying. or_broken (place_after place saying) number 2 (λ next. with_line (record { line = number; saying = saying }) (reading next (number + 1) lines)))

-- what the lines of a tables file say
unfoldable pub written_of : List ℕ → Reading
written_of bytes = reading Between 1 (lines_of bytes)

abbrev pub is_free : FaultStop → Bool
is_free (stop.Faults faults) = false
is_free stop.Memory = true

-- ---- tables by name

abbrev pub onto_names : Saying → List (List ℕ) → List (List ℕ)
onto_names (Begin name) names = name ∷ names
onto_names saying names = names

-- the names of the tables, in order
abbrev pub names_in : List Said → List (List ℕ)
names_in [] = []
names_in (said ∷ lines) = onto_names said.saying (names_in lines)

-- the number of the first table of a name, counted from 0; 65,535 stands for all that are above
abbrev pub table_named : List (List ℕ) → List ℕ → Option ℕ
table_named names name = option_map (min 65535) (position (is_word name) names)
