-- What the macros of flow do. None stands for a use that is undefined.
use Rattle.std.specs.Prelude.{ℕ, zero, ◌*◌, ◌+◌, List, length, Some, ℤ, pos}
use Rattle.sil_base.specs.declared.places.TheConstants.{FIRST_CELL}
use Rattle.layout_params.specs.Areas.{hidden_cells}
use Rattle.layout_params.specs.Parameters.{Settings}
use Rattle.sil_model.specs.declared.program.Arg.{Arg}
use Rattle.sil_model.specs.declared.program.Flow.TheVariants.{Exit, Next, Trap}
use Rattle.sil_model.specs.Memory.{Memory}
use Rattle.sil_model.specs.Access.{◌>>=◌, a_at, set_a_at, set_descr_at, integer_alone}
use Rattle.sil_model.specs.Arguments.{flow_to, goto_at, gotos_at, nth_location, place_at}
use Rattle.sil_model.specs.Effects.{Effect, MemoryEffect, onward, with_memory}
use Rattle.sil_model.specs.Sites.{Site}
use Rattle.sil_model.specs.States.{State}

-- `BRANCH R,E?`: to R
unfoldable pub branch : List Arg → Memory → MemoryEffect
branch args m = do
  flow ← goto_at args 0
  Some (flow, m)

-- exit 0 for 0, else exit 1
abbrev pub exit_code : ℤ → ℕ
exit_code (pos zero) = 0
exit_code _ = 1

-- `ENDEX D`: ends as exit 0 where D.A = 0, else as exit 1
unfoldable pub endex : List Arg → Memory → MemoryEffect
endex args m = do
  d ← place_at args 0
  a ← a_at m d
  Some (Exit (exit_code a), m)

-- the address of the first dynamic cell, and that after the last one, by the number of the static ones
abbrev pub first_dynamic : Settings → ℕ → ℤ
first_dynamic settings statics = pos (FIRST_CELL + (statics + hidden_cells settings) * settings.sizes.descr)

abbrev pub past_dynamic : Settings → ℕ → ℤ
past_dynamic settings statics = pos (FIRST_CELL + (statics + hidden_cells settings + settings.dynamic_size) * settings.sizes.descr)

-- `INIT`: FRSGPT.A and HDSGPT.A := the first dynamic cell; TLSGP1.A := that address + DYNSIZ cells
unfoldable pub init : Site → Memory → MemoryEffect
init site m = do
  first ← site.program.specials.first
  head ← site.program.specials.head
  tail ← site.program.specials.tail
  m1 ← set_a_at m first (first_dynamic site.parameters.settings (length site.program.cells))
  m2 ← set_a_at m1 head (first_dynamic site.parameters.settings (length site.program.cells))
  onward (set_a_at m2 tail (past_dynamic site.parameters.settings (length site.program.cells)))

-- `LOAD D,S1,S2,LF,LS`: to LF
unfoldable pub load : List Arg → Memory → MemoryEffect
load args m = do
  failure ← goto_at args 3
  Some (failure, m)

-- `MSTIME D`: D := (the steps taken before this one, 0, 0)
unfoldable pub mstime : Site → State → Effect
mstime site s = with_memory s (do
  d ← place_at site.args 0
  onward (set_descr_at s.memory d (integer_alone (pos s.steps))))

-- `PROC E?`, `ORDVST` and `UNLOAD S`: nothing
unfoldable pub nothing : List Arg → Memory → MemoryEffect
nothing args m = Some (Next, m)

-- `SELBRA D,LL`: to the D.A-th location, counted from 1; on where there is none
unfoldable pub selbra : List Arg → Memory → MemoryEffect
selbra args m = do
  d ← place_at args 0
  locations ← gotos_at args 1
  a ← a_at m d
  Some (flow_to (nth_location locations a), m)

-- `LINK` and the macros of reals: a trap
unfoldable pub trap : List Arg → Memory → MemoryEffect
trap args m = Some (Trap, m)
