-- The table of the macros of flow, of the stack and of calls: their clauses, and the visits that these make.
use Rattle.std.specs.Prelude.{ℕ, ◌+◌, ◌*◌, Bool, true, false}
use Rattle.sil_macros.specs.declared.names.Macro.{Macro}
use Rattle.sil_macros.specs.declared.names.Macro.TheVariants.{Adreal, Branch, Branic, Dvreal, Endex, Exreal, Init, Intrl, Istack, Link, Load, Mnreal, Mpreal, Mstime, Ordvst, Pop, Proc, Pstack, Push, Rcall, Rcomp, Realst, Rlint, Rrturn, Sbreal, Selbra, Spop, Spreal, Spush, Unload}
use Rattle.sil_model.specs.Effects.{Effect, on_memory, on_site, no_clause}
use Rattle.sil_model.specs.Sites.{Site}
use Rattle.sil_model.specs.States.{State}
use Rattle.sil_model.specs.Arguments.{maybe_places_at, places_at}
use Rattle.sil_model.specs.OperandCounts.{listed}
use Rattle.flow_clauses.specs.CallClauses.{branic, rcall, rrturn}
use Rattle.flow_clauses.specs.FlowClauses.{branch, endex, init, load, mstime, nothing, selbra, trap}
use Rattle.flow_clauses.specs.StackClauses.{istack, pop, pstack, push, spop, spush}

-- whether a macro is one of these
abbrev pub is_of_flow : Macro → Bool
is_of_flow Adreal = true
is_of_flow Branch = true
is_of_flow Branic = true
is_of_flow Dvreal = true
is_of_flow Endex = true
is_of_flow Exreal = true
is_of_flow Init = true
is_of_flow Intrl = true
is_of_flow Istack = true
is_of_flow Link = true
is_of_flow Load = true
is_of_flow Mnreal = true
is_of_flow Mpreal = true
is_of_flow Mstime = true
is_of_flow Ordvst = true
is_of_flow Pop = true
is_of_flow Proc = true
is_of_flow Pstack = true
is_of_flow Push = true
is_of_flow Rcall = true
is_of_flow Rcomp = true
is_of_flow Realst = true
is_of_flow Rlint = true
is_of_flow Rrturn = true
is_of_flow Sbreal = true
is_of_flow Selbra = true
is_of_flow Spop = true
is_of_flow Spreal = true
is_of_flow Spush = true
is_of_flow Unload = true
is_of_flow _ = false

unfoldable pub flow_clause : Macro → Site → State → Effect
flow_clause Adreal = on_memory trap
flow_clause Branch = on_memory branch
flow_clause Branic = on_site branic
flow_clause Dvreal = on_memory trap
flow_clause Endex = on_memory endex
flow_clause Exreal = on_memory trap
flow_clause Init = on_site init
flow_clause Intrl = on_memory trap
flow_clause Istack = istack
flow_clause Link = on_memory trap
flow_clause Load = on_memory load
flow_clause Mnreal = on_memory trap
flow_clause Mpreal = on_memory trap
flow_clause Mstime = mstime
flow_clause Ordvst = on_memory nothing
flow_clause Pop = pop
flow_clause Proc = on_memory nothing
flow_clause Pstack = pstack
flow_clause Push = push
flow_clause Rcall = rcall
flow_clause Rcomp = on_memory trap
flow_clause Realst = on_memory trap
flow_clause Rlint = on_memory trap
flow_clause Rrturn = rrturn
flow_clause Sbreal = on_memory trap
flow_clause Selbra = on_memory selbra
flow_clause Spop = spop
flow_clause Spreal = on_memory trap
flow_clause Spush = spush
flow_clause Unload = on_memory nothing
flow_clause _ = no_clause

-- the visits that a clause makes to cells, characters, table entries and links
abbrev pub flow_visits : Macro → Site → State → ℕ
flow_visits Branic site s = 2
flow_visits Endex site s = 1
flow_visits Init site s = 3
flow_visits Mstime site s = 1
flow_visits Pop site s = 2 * listed (places_at site.args 0)
flow_visits Pstack site s = 1
flow_visits Push site s = 2 * listed (places_at site.args 0)
flow_visits Rcall site s = 2 + 2 * listed (maybe_places_at site.args 2)
flow_visits Rrturn site s = 4
flow_visits Selbra site s = 1
flow_visits Spop site s = 4 * listed (places_at site.args 0)
flow_visits Spush site s = 4 * listed (places_at site.args 0)
flow_visits _ site s = 0
