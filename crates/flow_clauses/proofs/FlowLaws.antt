-- What the macros of flow leave.
use Rattle.std.proofs.Common.{ℕ, ◌+◌, ◌*◌, ◌^◌, ◌≤◌, pos, arith}
use Rattle.std.specs.Prelude.{FitsSigned, length}
use Rattle.std.specs.Int.{w64}
use Rattle.std.proofs.lemmas.Nat.{mul-le}
use Rattle.layout_params.specs.Areas.{hidden_cells}
use Rattle.layout_params.specs.Parameters.{Settings}
use Rattle.sil_model.specs.declared.program.Flow.TheVariants.{Next, Trap}
use Rattle.sil_model.specs.Access.{integer_alone}
use Rattle.flow_clauses.specs.FlowClauses.{branch, endex, first_dynamic, init, load, mstime, nothing, past_dynamic, selbra, trap}
use Rattle.sil_model.specs.Memory.{FitsDescr}
use Rattle.sil_model.specs.Sites.{Site}
use Rattle.sil_model.specs.States.{State}
use Rattle.sil_model.proofs.Keeps.{keeps_here, keeps_read, keeps_then, keeps_write, writes_set_a, writes_set_descr}
use Rattle.sil_model.proofs.Lawful.{KeepsMemory, KeepsOnSite}
use Rattle.sil_model.proofs.Leaves.{IsHere, IsRoomy, LeavesAt, memory_leaves}
use Rattle.sil_model.proofs.Operands.{goto_leads, gotos_within, nth_leads}
use Rattle.flow_clauses.proofs.Tops.{small_fits}

pub branch_keeps : KeepsMemory branch
unfolding branch
branch_keeps b args m w h = search (keeps_read, keeps_here, goto_leads) depth 12

pub endex_keeps : KeepsMemory endex
unfolding endex
endex_keeps b args m w h = search (keeps_read, keeps_here) depth 12

pub load_keeps : KeepsMemory load
unfolding load
load_keeps b args m w h = search (keeps_read, keeps_here, goto_leads) depth 12

pub nothing_keeps : KeepsMemory nothing
unfolding nothing
nothing_keeps b args m w h = keeps_here b.statements m Next tt h

pub selbra_keeps : KeepsMemory selbra
unfolding selbra
selbra_keeps b args m w h = search (keeps_read, keeps_here, nth_leads, gotos_within) depth 24

pub trap_keeps : KeepsMemory trap
unfolding trap
trap_keeps b args m w h = keeps_here b.statements m Trap tt h

-- places of the dynamic storage are small
first_fits : (settings : Settings) (statics : ℕ) → IsRoomy settings statics → FitsSigned w64 (first_dynamic settings statics)
first_fits settings statics r =
    let low : (statics + hidden_cells settings) * settings.sizes.descr ≤ 2 ^ 20 * 64 = mul-le _ _ (2 ^ 20) 64 (omega (arith, r.few)) r.most in
    small_fits _ (omega arith)

past_fits : (settings : Settings) (statics : ℕ) → IsRoomy settings statics → FitsSigned w64 (past_dynamic settings statics)
past_fits settings statics r =
    let low : (statics + hidden_cells settings + settings.dynamic_size) * settings.sizes.descr ≤ 2 ^ 20 * 64 = mul-le _ _ (2 ^ 20) 64 (omega (arith, r.few)) r.most in
    small_fits _ (omega arith)

pub init_keeps : KeepsOnSite init
unfolding init
init_keeps site s h =
    let mem = h.sound.memory in
    let first = first_fits site.parameters.settings (length site.program.cells) h.roomy in
    let past = past_fits site.parameters.settings (length site.program.cells) h.roomy in
    search (keeps_read, keeps_then, keeps_write, writes_set_a) depth 40

-- the steps taken fit
steps_fit : (site : Site) (s : State) → IsHere site s → FitsDescr s.memory.limits (integer_alone (pos s.steps))
steps_fit site s h = (small_fits s.steps (omega (arith, h.steps)), omega arith, omega arith)

pub mstime_leaves : (site : Site) (s : State) → IsHere site s → LeavesAt site (mstime site s)
unfolding mstime
mstime_leaves site s h =
    let v = h.sound in let mem = h.sound.memory in let fits = steps_fit site s h in
    search (memory_leaves, keeps_read, keeps_write, writes_set_descr) depth 20
