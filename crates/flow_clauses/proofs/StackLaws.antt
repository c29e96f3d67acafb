-- What the macros of the stack leave.
use Rattle.std.proofs.Common.{◌≡◌, ℕ, ◌*◌, ◌≤◌, Option, Some, None, ℤ, arith, refl}
use Rattle.std.specs.Prelude.{false, length, int_lt}
use Rattle.layout_params.specs.Parameters.{Settings}
use Rattle.sil_model.specs.declared.program.Flow.TheVariants.{Next}
use Rattle.sil_model.specs.declared.program.Program.{Program}
use Rattle.sil_model.specs.Access.{integer_alone}
use Rattle.sil_model.specs.Fits.{IsStatement, bounds_of}
use Rattle.sil_model.specs.Integers.{◌⊟◌}
use Rattle.sil_model.specs.Memory.{Memory, FitsDescr}
use Rattle.sil_model.specs.Sites.{Site}
use Rattle.flow_clauses.specs.StackClauses.{above, below, bottom, istack, pop, pstack, push, spop, spush, summit, to_special}
use Rattle.sil_model.specs.States.{State}
use Rattle.sil_model.specs.UnitMacros.{KeepsTapes}
use Rattle.sil_model.specs.Valid.{IsTop}
use Rattle.sil_model.proofs.Keeps.{keeps_read, keeps_write, same, writes_set_descr}
use Rattle.sil_model.proofs.Leaves.{IsHere, IsRoomy, IsSound, Leaves, LeavesAt, leaves_here, leaves_if, leaves_read, memory_leaves, stack_sound}
use Rattle.sil_model.proofs.Lists.{carried, specs_carried}
use Rattle.sil_model.proofs.Operands.{difference_fits, few_places}
use Rattle.sil_model.proofs.TapesKept.{tapes_go, tapes_if, tapes_read}
use Rattle.flow_clauses.proofs.Tops.{bottom_top, top_above, top_below}

pub special_leaves : (program : Program) (settings : Settings) (o : Option ℕ) (s : State) → IsStatement (bounds_of program settings) o → IsSound program settings s → Leaves program settings (to_special o s)
unfolding Leaves
special_leaves program settings None s h v = tt
special_leaves program settings (Some k) s h v = (omega arith, v)

-- a top so many cells up or down, where there is room
pub risen : (site : Site) (s : State) (n : ℕ) → IsRoomy site.parameters.settings (length site.program.cells) → IsSound site.program site.parameters.settings s → n ≤ 82 →
    int_lt (summit site) (above s.memory s.current n) ≡ false → IsTop site.parameters.settings (length site.program.cells) (above s.memory s.current n)
risen site s n r v few room = rw v.limits (top_above site.parameters.settings (length site.program.cells) n s.current r few v.current (rw v.limits at room))

fallen : (site : Site) (s : State) (n : ℕ) → IsRoomy site.parameters.settings (length site.program.cells) → IsSound site.program site.parameters.settings s → n ≤ 82 →
    int_lt (below s.memory s.current n) (bottom site) ≡ false → IsTop site.parameters.settings (length site.program.cells) (below s.memory s.current n)
fallen site s n r v few room = rw v.limits (top_below site.parameters.settings (length site.program.cells) n s.current r few v.current (rw v.limits at room))

-- lists of items are short
one_each : (n : ℕ) → n ≤ 40 → n ≤ 82
one_each n h = omega arith

two_each : (n : ℕ) → n ≤ 40 → 2 * n ≤ 82
two_each n h = omega arith

pub push_leaves : (site : Site) (s : State) → IsHere site s → LeavesAt site (push site s)
unfolding push
push_leaves site s h =
    let v = h.sound in let r = h.roomy in let w = h.args in let over = h.specials.over in let mem = h.sound.memory in let p = h.sound.previous in
    search (leaves_read, leaves_if, leaves_here, special_leaves, stack_sound, carried, risen, one_each, few_places) depth 40

pub pop_leaves : (site : Site) (s : State) → IsHere site s → LeavesAt site (pop site s)
unfolding pop
pop_leaves site s h =
    let v = h.sound in let r = h.roomy in let w = h.args in let under = h.specials.under in let mem = h.sound.memory in let p = h.sound.previous in
    search (leaves_read, leaves_if, leaves_here, special_leaves, stack_sound, carried, fallen, one_each, few_places) depth 40

pub spush_leaves : (site : Site) (s : State) → IsHere site s → LeavesAt site (spush site s)
unfolding spush
spush_leaves site s h =
    let v = h.sound in let r = h.roomy in let w = h.args in let over = h.specials.over in let mem = h.sound.memory in let p = h.sound.previous in
    search (leaves_read, leaves_if, leaves_here, special_leaves, stack_sound, specs_carried, risen, two_each, few_places) depth 40

pub spop_leaves : (site : Site) (s : State) → IsHere site s → LeavesAt site (spop site s)
unfolding spop
spop_leaves site s h =
    let v = h.sound in let r = h.roomy in let w = h.args in let under = h.specials.under in let mem = h.sound.memory in let p = h.sound.previous in
    search (leaves_read, leaves_if, leaves_here, special_leaves, stack_sound, specs_carried, fallen, two_each, few_places) depth 40

pub istack_leaves : (site : Site) (s : State) → IsHere site s → LeavesAt site (istack site s)
unfolding istack
istack_leaves site s h =
    leaves_here site.program site.parameters.settings Next _ tt (stack_sound site.program site.parameters.settings s s.memory (bottom site) (bottom site) h.sound (same s.memory h.sound.memory) (bottom_top site) (bottom_top site))

difference_alone : (m : Memory) (x y : ℤ) → FitsDescr m.limits (integer_alone (x ⊟ y))
difference_alone m x y = (difference_fits x y, omega arith, omega arith)

pub pstack_leaves : (site : Site) (s : State) → IsHere site s → LeavesAt site (pstack site s)
unfolding pstack
pstack_leaves site s h = let v = h.sound in let mem = h.sound.memory in search (memory_leaves, keeps_read, keeps_write, writes_set_descr, difference_alone) depth 20

-- ---- the tapes stay

pub tapes_special : (o : Option ℕ) (s : State) → KeepsTapes s.tapes (to_special o s)
unfolding KeepsTapes
tapes_special None s = tt
tapes_special (Some k) s = refl

pub push_tapes : (site : Site) (s : State) → KeepsTapes s.tapes (push site s)
unfolding push
push_tapes site s = search (tapes_read, tapes_if, tapes_go, tapes_special) depth 30

pub pop_tapes : (site : Site) (s : State) → KeepsTapes s.tapes (pop site s)
unfolding pop
pop_tapes site s = search (tapes_read, tapes_if, tapes_go, tapes_special) depth 30

pub spush_tapes : (site : Site) (s : State) → KeepsTapes s.tapes (spush site s)
unfolding spush
spush_tapes site s = search (tapes_read, tapes_if, tapes_go, tapes_special) depth 30

pub spop_tapes : (site : Site) (s : State) → KeepsTapes s.tapes (spop site s)
unfolding spop
spop_tapes site s = search (tapes_read, tapes_if, tapes_go, tapes_special) depth 30
