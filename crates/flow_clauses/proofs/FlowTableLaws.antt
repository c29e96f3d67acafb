-- The laws of the macros of flow, of the stack and of calls.
use Rattle.std.proofs.Common.{refl, arith}
use Rattle.sil_macros.specs.declared.names.Macro.TheVariants.{Adreal, Branch, Branic, Dvreal, Endex, Exreal, Init, Intrl, Istack, Link, Load, Mnreal, Mpreal, Mstime, Ordvst, Pop, Proc, Pstack, Push, Rcall, Rcomp, Realst, Rlint, Rrturn, Sbreal, Selbra, Spop, Spreal, Spush, Unload}
use Rattle.sil_macros.specs.declared.names.Macro.{Macro}
use Rattle.sil_model.specs.UnitMacros.{KeepsTapes}
use Rattle.sil_model.proofs.Operands.{items_most, maybe_items_most}
use Rattle.sil_model.proofs.Lawful.{IsLawful, few_lawful, on_memory_lawful, on_site_lawful}
use Rattle.sil_model.proofs.Leaves.{Leaves}
use Rattle.sil_model.proofs.TapesKept.{tapes_memory}
use Rattle.flow_clauses.specs.CallClauses.{branic}
use Rattle.flow_clauses.specs.FlowClauses.{branch, endex, init, load, mstime, nothing, selbra, trap}
use Rattle.flow_clauses.specs.StackClauses.{istack, pstack}
use Rattle.flow_clauses.specs.FlowTable.{flow_clause, flow_visits}
use Rattle.flow_clauses.proofs.CallLaws.{branic_keeps, rcall_leaves, rcall_tapes, rrturn_leaves, rrturn_tapes}
use Rattle.flow_clauses.proofs.FlowLaws.{branch_keeps, endex_keeps, init_keeps, load_keeps, mstime_leaves, nothing_keeps, selbra_keeps, trap_keeps}
use Rattle.flow_clauses.proofs.StackLaws.{istack_leaves, pop_leaves, pop_tapes, pstack_leaves, push_leaves, push_tapes, spop_leaves, spop_tapes, spush_leaves, spush_tapes}

pub flow_lawful : (name : Macro) → IsLawful name (flow_clause name) (flow_visits name)
unfolding flow_clause Leaves KeepsTapes istack mstime pstack
flow_lawful Adreal = on_memory_lawful Adreal trap refl trap_keeps (λ site s h. omega arith)
flow_lawful Branch = on_memory_lawful Branch branch refl branch_keeps (λ site s h. omega arith)
flow_lawful Branic = on_site_lawful Branic branic refl branic_keeps (λ site s h. omega arith)
flow_lawful Dvreal = on_memory_lawful Dvreal trap refl trap_keeps (λ site s h. omega arith)
flow_lawful Endex = on_memory_lawful Endex endex refl endex_keeps (λ site s h. omega arith)
flow_lawful Exreal = on_memory_lawful Exreal trap refl trap_keeps (λ site s h. omega arith)
flow_lawful Init = on_site_lawful Init init refl init_keeps (λ site s h. omega arith)
flow_lawful Intrl = on_memory_lawful Intrl trap refl trap_keeps (λ site s h. omega arith)
flow_lawful Istack = few_lawful Istack istack_leaves (λ site s h. refl) (λ site s h. omega arith)
flow_lawful Link = on_memory_lawful Link trap refl trap_keeps (λ site s h. omega arith)
flow_lawful Load = on_memory_lawful Load load refl load_keeps (λ site s h. omega arith)
flow_lawful Mnreal = on_memory_lawful Mnreal trap refl trap_keeps (λ site s h. omega arith)
flow_lawful Mpreal = on_memory_lawful Mpreal trap refl trap_keeps (λ site s h. omega arith)
flow_lawful Mstime = few_lawful Mstime mstime_leaves (λ site s h. tapes_memory s _) (λ site s h. omega arith)
flow_lawful Ordvst = on_memory_lawful Ordvst nothing refl nothing_keeps (λ site s h. omega arith)
flow_lawful Pop = few_lawful Pop pop_leaves (λ site s h. pop_tapes site s) (λ site s h. omega (arith, items_most site.args 0))
flow_lawful Proc = on_memory_lawful Proc nothing refl nothing_keeps (λ site s h. omega arith)
flow_lawful Pstack = few_lawful Pstack pstack_leaves (λ site s h. tapes_memory s _) (λ site s h. omega arith)
flow_lawful Push = few_lawful Push push_leaves (λ site s h. push_tapes site s) (λ site s h. omega (arith, items_most site.args 0))
flow_lawful Rcall = few_lawful Rcall rcall_leaves (λ site s h. rcall_tapes site s) (λ site s h. omega (arith, maybe_items_most site.args 2))
flow_lawful Rcomp = on_memory_lawful Rcomp trap refl trap_keeps (λ site s h. omega arith)
flow_lawful Realst = on_memory_lawful Realst trap refl trap_keeps (λ site s h. omega arith)
flow_lawful Rlint = on_memory_lawful Rlint trap refl trap_keeps (λ site s h. omega arith)
flow_lawful Rrturn = few_lawful Rrturn rrturn_leaves (λ site s h. rrturn_tapes site s) (λ site s h. omega arith)
flow_lawful Sbreal = on_memory_lawful Sbreal trap refl trap_keeps (λ site s h. omega arith)
flow_lawful Selbra = on_memory_lawful Selbra selbra refl selbra_keeps (λ site s h. omega arith)
flow_lawful Spop = few_lawful Spop spop_leaves (λ site s h. spop_tapes site s) (λ site s h. omega (arith, items_most site.args 0))
flow_lawful Spreal = on_memory_lawful Spreal trap refl trap_keeps (λ site s h. omega arith)
flow_lawful Spush = few_lawful Spush spush_leaves (λ site s h. spush_tapes site s) (λ site s h. omega (arith, items_most site.args 0))
flow_lawful Unload = on_memory_lawful Unload nothing refl nothing_keeps (λ site s h. omega arith)
flow_lawful name = few_lawful name (λ site s h. tt) (λ site s h. tt) (λ site s h. omega arith)
