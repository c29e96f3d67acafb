-- What the macros do that go by the entries of statements. None stands for a use that is undefined.
use Rattle.std.specs.Prelude.{ℕ, ◌+◌, ◌-◌, ◌*◌, ◌/◌, ◌%◌, Bool, true, false, ◌&&◌, ◌==◌, nat_le, nat_lt, List, ◌∷◌, length, Option, Some, None, ℤ, pos, negsuc, int_lt, if◌then◌else◌, slice_get}
use Rattle.sil_base.specs.declared.places.TheConstants.{FIRST_ENTRY}
use Rattle.sil_macros.specs.declared.names.Macro.{Macro}
use Rattle.sil_macros.specs.declared.names.Macro.TheVariants.{Rcall}
use Rattle.sil_model.specs.declared.program.Flow.TheVariants.{To}
use Rattle.sil_model.specs.declared.program.Statement.{Statement}
use Rattle.sil_model.specs.Access.{◌>>=◌, a_at, descr_at, set_descr_at, integer_alone}
use Rattle.sil_model.specs.Arguments.{place_at, number_at, goto_at, gotos_at, maybe_place_at, maybe_number_at, maybe_places_at, nth_location}
use Rattle.sil_model.specs.Effects.{MemoryEffect, Effect, goes}
use Rattle.sil_model.specs.Entries.{entered_statement}
use Rattle.sil_model.specs.Integers.{◌⊞◌}
use Rattle.sil_model.specs.Lists.{all_read, all_written}
use Rattle.sil_model.specs.Memory.{Memory}
use Rattle.sil_model.specs.Sites.{Site}
use Rattle.flow_clauses.specs.StackClauses.{above, bottom, cells_above, summit, to_special}
use Rattle.sil_model.specs.States.{State}

-- the entry of a statement
abbrev pub entry_of : Site → ℕ → ℕ
entry_of site k = FIRST_ENTRY + k * site.parameters.settings.sizes.descr

abbrev pub statement_of : Site → ℤ → Option ℕ
statement_of site entry = entered_statement site.parameters.settings.sizes.descr (length site.program.statements) entry

-- `BRANIC D,N`: to the statement whose entry is [D.A + N].A
unfoldable pub branic : Site → Memory → MemoryEffect
branic site m = do
  d ← place_at site.args 0
  n ← number_at site.args 1
  a ← a_at m d
  entry ← a_at m (a ⊞ n)
  k ← statement_of site entry
  Some (To k, m)

-- `RCALL D?,R,DD?,LL`: old, the entry of this statement and the arguments go onto the stack, where a new frame begins; to R, or to OVER where there is no room
unfoldable pub rcall : Site → State → Effect
rcall site s = do
  flow ← goto_at site.args 1
  ats ← maybe_places_at site.args 2
  let top = above s.memory s.current (2 + length ats)
  if int_lt (summit site) top
      then to_special site.program.specials.over s
      else do
        values ← all_read s.memory ats
        m ← all_written s.memory (cells_above s (2 + length ats)) (integer_alone s.previous ∷ integer_alone (pos (entry_of site site.statement)) ∷ values)
        goes flow (record s { memory = m; current = top; previous = s.current })

abbrev pub is_rcall : Macro → Bool
is_rcall Rcall = true
is_rcall _ = false

-- the statement, where it is an RCALL
abbrev pub if_rcall : Statement → Option Statement
if_rcall statement = if is_rcall statement.name then Some statement else None

-- the RCALL of a number
unfoldable pub call_at : Site → ℕ → Option Statement
call_at site k = do
  statement ← slice_get site.program.statements k
  if_rcall statement

-- whether an address is one of those from the first to the last that are so many bytes apart
abbrev pub is_between : ℤ → ℤ → ℕ → ℤ → Bool
is_between (pos first) (pos last) d (pos at) = nat_le first at && nat_le at last && ((at - first) % d == 0)
is_between _ _ _ _ = false

-- whether an address is the cell before the stack, or a cell of the stack
unfoldable pub is_top : Site → ℤ → Bool
is_top site at = is_between (bottom site) (summit site) site.parameters.settings.sizes.descr at

-- the location, or the other where there is none
abbrev pub location_or : ℕ → Option ℕ → ℕ
location_or other None = other
location_or other (Some k) = k

-- the location of a number from 1, where there is a number
abbrev pub location_at : List (Option ℕ) → Option ℤ → Option ℕ
location_at locations None = None
location_at locations (Some n) = nth_location locations n

-- the descriptor at the first place goes to the second, where both are there
unfoldable pub hand_back : Memory → Option ℤ → Option ℤ → Option Memory
hand_back m (Some from) (Some to) = do
  value ← descr_at m from
  set_descr_at m to value
hand_back m _ _ = Some m

-- `RRTURN D?,N?`: the frame goes; D goes to the descriptor of the RCALL that made it; to the N-th location of that RCALL, or to the statement after it
unfoldable pub rrturn : Site → State → Effect
rrturn site s = do
  d ← maybe_place_at site.args 0
  n ← maybe_number_at site.args 1
  saved ← a_at s.memory (above s.memory s.previous 1)
  entry ← a_at s.memory (above s.memory s.previous 2)
  k ← statement_of site entry
  call ← call_at site k
  to ← maybe_place_at call.args 0
  locations ← gotos_at call.args 3
  m ← hand_back s.memory d to
  if is_top site saved
      then goes (To (location_or (k + 1) (location_at locations n))) (record s { memory = m; current = s.previous; previous = saved })
      else None
