-- What the macros of the stack do. None stands for a use that is undefined.
use Rattle.std.specs.Prelude.{ℕ, ◌-◌, ◌+◌, ◌*◌, List, length, Option, Some, None, ℤ, pos, int_lt, if◌then◌else◌}
use Rattle.sil_base.specs.declared.places.TheConstants.{FIRST_CELL}
use Rattle.layout_params.specs.Areas.{all_cells, empty_stack}
use Rattle.layout_params.specs.Parameters.{Settings}
use Rattle.sil_model.specs.declared.program.Flow.TheVariants.{Next, To}
use Rattle.sil_model.specs.Access.{◌>>=◌, set_descr_at, integer_alone}
use Rattle.sil_model.specs.Arguments.{place_at, places_at}
use Rattle.sil_model.specs.Effects.{Effect, goes, onward, with_memory}
use Rattle.sil_model.specs.Integers.{◌⊞◌, ◌⊟◌}
use Rattle.sil_model.specs.Lists.{all_read, all_written, all_specs_read, all_specs_written, line}
use Rattle.sil_model.specs.Memory.{Memory}
use Rattle.sil_model.specs.Sites.{Site}
use Rattle.sil_model.specs.States.{State}

-- ---- places of the stack

-- the address of its last cell, by the number of the static ones
abbrev pub last_cell : Settings → ℕ → ℤ
last_cell settings statics = pos (FIRST_CELL + all_cells settings statics * settings.sizes.descr - settings.sizes.descr)

-- the cell before the stack, and its last cell
abbrev pub bottom : Site → ℤ
bottom site = empty_stack site.parameters.settings (length site.program.cells)

abbrev pub summit : Site → ℤ
summit site = last_cell site.parameters.settings (length site.program.cells)

-- the address so many cells above or below another
abbrev pub above : Memory → ℤ → ℕ → ℤ
above m at n = at ⊞ pos (n * m.limits.cell_size)

abbrev pub below : Memory → ℤ → ℕ → ℤ
below m at n = at ⊟ pos (n * m.limits.cell_size)

-- a cell up, and a cell down
abbrev pub step_up : Memory → ℤ
step_up m = pos m.limits.cell_size

abbrev pub step_down : Memory → ℤ
step_down m = pos 0 ⊟ pos m.limits.cell_size

-- so many cells above the top, lowest first, and so many from the top down
abbrev pub cells_above : State → ℕ → List ℤ
cells_above s n = line (s.current ⊞ step_up s.memory) (step_up s.memory) n

abbrev pub cells_below : State → ℕ → List ℤ
cells_below s n = line s.current (step_down s.memory) n

-- the first cells of so many specifiers above the top, lowest first, and of so many from the top down
abbrev pub specs_above : State → ℕ → List ℤ
specs_above s n = line (s.current ⊞ step_up s.memory) (step_up s.memory ⊞ step_up s.memory) n

abbrev pub specs_below : State → ℕ → List ℤ
specs_below s n = line (s.current ⊞ step_down s.memory) (step_down s.memory ⊞ step_down s.memory) n

-- ---- what they share

-- to a special symbol, with nothing changed
abbrev pub to_special : Option ℕ → State → Effect
to_special None s = None
to_special (Some k) s = goes (To k) s

-- the descriptors at the sources go to the targets, and the top of the stack is set
abbrev pub moved : List ℤ → List ℤ → ℤ → State → Effect
moved sources targets top s = do
  values ← all_read s.memory sources
  m ← all_written s.memory targets values
  goes Next (record s { memory = m; current = top })

abbrev pub specs_moved : List ℤ → List ℤ → ℤ → State → Effect
specs_moved sources targets top s = do
  values ← all_specs_read s.memory sources
  m ← all_specs_written s.memory targets values
  goes Next (record s { memory = m; current = top })

-- ---- the macros

-- `ISTACK`: current and old := the cell before the stack
unfoldable pub istack : Site → State → Effect
istack site s = goes Next (record s { current = bottom site; previous = bottom site })

-- `PSTACK D`: D := (current - d, 0, 0)
unfoldable pub pstack : Site → State → Effect
pstack site s = with_memory s (do
  d ← place_at site.args 0
  onward (set_descr_at s.memory d (integer_alone (below s.memory s.current 1))))

-- `PUSH DD`: the items go onto the stack in order, or to OVER where there is no room
unfoldable pub push : Site → State → Effect
push site s = do
  ats ← places_at site.args 0
  let top = above s.memory s.current (length ats)
  if int_lt (summit site) top
      then to_special site.program.specials.over s
      else moved ats (cells_above s (length ats)) top s

-- `POP DD`: the items come from the top down, or to INTR10 where the stack has too few
unfoldable pub pop : Site → State → Effect
pop site s = do
  ats ← places_at site.args 0
  let top = below s.memory s.current (length ats)
  if int_lt top (bottom site)
      then to_special site.program.specials.under s
      else moved (cells_below s (length ats)) ats top s

-- `SPUSH SS`: as PUSH with the two cells of each specifier
unfoldable pub spush : Site → State → Effect
spush site s = do
  ats ← places_at site.args 0
  let top = above s.memory s.current (2 * length ats)
  if int_lt (summit site) top
      then to_special site.program.specials.over s
      else specs_moved ats (specs_above s (length ats)) top s

-- `SPOP SS`: as POP with the two cells of each specifier
unfoldable pub spop : Site → State → Effect
spop site s = do
  ats ← places_at site.args 0
  let top = below s.memory s.current (2 * length ats)
  if int_lt top (bottom site)
      then to_special site.program.specials.under s
      else specs_moved (specs_below s (length ats)) ats top s
