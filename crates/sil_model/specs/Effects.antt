-- What a statement does: where it goes, and what it leaves.
use Rattle.std.specs.Prelude.{ℕ, List, Option, Some, None}
use Rattle.sil_model.specs.declared.program.Arg.{Arg}
use Rattle.sil_model.specs.declared.program.Flow.{Flow}
use Rattle.sil_model.specs.declared.program.Flow.TheVariants.{Next}
use Rattle.sil_model.specs.Memory.{Memory}
use Rattle.sil_model.specs.Access.{◌>>=◌}
use Rattle.sil_model.specs.Sites.{Site}
use Rattle.sil_model.specs.States.{State}

-- where a statement goes and the memory that it leaves; none where it is undefined
abbrev pub MemoryEffect : Type 0
MemoryEffect = Option (Flow × Memory)

-- goes on to the next statement
abbrev pub onward : Option Memory → MemoryEffect
onward o = do
  m ← o
  Some (Next, m)

-- goes where it leads
abbrev pub leads : Flow → Option Memory → MemoryEffect
leads flow o = do
  m ← o
  Some (flow, m)

-- how a statement goes: it is defined; or undefined once something was changed; or a unit failed; or it calls a unit that doesn't tell its tape
pub data Way : Type 0 where
  On : Flow → Way
  Undefined : Way
  UnitFault : ℕ → Way
  Untold : Way

-- how a statement goes and the state that it leaves; none where it is undefined and nothing was changed
abbrev pub Effect : Type 0
Effect = Option (Way × State)

abbrev pub goes : Flow → State → Effect
goes flow s = Some (On flow, s)

-- a macro without a clause is undefined
abbrev pub no_clause : Site → State → Effect
no_clause site s = None

-- a clause that looks at its operands and the memory alone, and one that looks at its site and the memory
abbrev pub with_memory : State → MemoryEffect → Effect
with_memory s None = None
with_memory s (Some (flow, m)) = goes flow (record s { memory = m })

abbrev pub on_memory : (List Arg → Memory → MemoryEffect) → Site → State → Effect
on_memory f site s = with_memory s (f site.args s.memory)

abbrev pub on_site : (Site → Memory → MemoryEffect) → Site → State → Effect
on_site f site s = with_memory s (f site s.memory)

-- where a call goes and the memory that it leaves; nothing is said of the memory where it is undefined
abbrev pub after_flow : Option Flow → Memory → MemoryEffect
after_flow None m = None
after_flow (Some flow) m = Some (flow, m)
