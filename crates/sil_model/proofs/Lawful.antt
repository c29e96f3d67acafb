-- The laws of a macro: what its clause leaves, and a bound on its visits.
use Rattle.std.proofs.Common.{◌≡◌, ℕ, ◌+◌, ◌*◌, ◌≤◌, List, arith}
use Rattle.std.specs.Prelude.{All, false, length}
use Rattle.layout_params.specs.Parameters.{AreLegalSettings}
use Rattle.sil_macros.specs.declared.names.Macro.{Macro}
use Rattle.sil_model.specs.declared.program.Arg.{Arg}
use Rattle.sil_model.specs.OperandCounts.{operand_count}
use Rattle.sil_model.specs.Effects.{MemoryEffect, Effect, on_memory, on_site}
use Rattle.sil_model.specs.Fits.{Bounds, bounds_of, IsWithin}
use Rattle.sil_model.specs.Memory.{Memory, IsMemory}
use Rattle.sil_model.specs.Sites.{Site}
use Rattle.sil_model.specs.States.{State}
use Rattle.sil_model.specs.UnitMacros.{calls_unit, KeepsTapes}
use Rattle.sil_model.proofs.Keeps.{Keeps}
use Rattle.sil_model.proofs.Leaves.{IsHere, LeavesAt, memory_leaves}
use Rattle.sil_model.proofs.TapesKept.{tapes_memory}

-- the steps that were taken are no part of what is visited
abbrev pub at_start : State → State
at_start s = record s { steps = 0 }

-- no more visits than four to each byte of the cells, and 1,024 more
abbrev pub HasBoundedVisits : (Site → State → ℕ) → Type 0
HasBoundedVisits visits = (site : Site) (s : State) → operand_count site.args ≤ 240 → IsHere site (at_start s) → visits site s ≤ 1024 + 4 * (length s.memory.cells * s.memory.limits.cell_size)

-- with legal parameters the clause leaves what is valid, and the tapes where it calls no unit; and its visits have a bound
pub record IsLawful (name : Macro) (clause : Site → State → Effect) (visits : Site → State → ℕ) : Type 0 where
  pub leaves : (site : Site) (s : State) → AreLegalSettings site.parameters.settings → IsHere site s → LeavesAt site (clause site s)
  pub alone : (site : Site) (s : State) → calls_unit name ≡ false → KeepsTapes s.tapes (clause site s)
  pub bounded : HasBoundedVisits visits

-- ---- visits that are few, whatever the memory

abbrev pub HasFewVisits : (Site → State → ℕ) → Type 0
HasFewVisits visits = (site : Site) (s : State) → operand_count site.args ≤ 240 → visits site s ≤ 1024

more_than : (n m : ℕ) → n ≤ 1024 → n ≤ 1024 + m
more_than n m h = omega arith

few_bounded : {visits : Site → State → ℕ} → HasFewVisits visits → HasBoundedVisits visits
few_bounded {visits} few site s operands h = more_than (visits site s) (4 * (length s.memory.cells * s.memory.limits.cell_size)) (few site s operands)

pub few_lawful : {clause : Site → State → Effect} {visits : Site → State → ℕ} (name : Macro) →
    ((site : Site) (s : State) → IsHere site s → LeavesAt site (clause site s)) → ((site : Site) (s : State) → calls_unit name ≡ false → KeepsTapes s.tapes (clause site s)) → HasFewVisits visits → IsLawful name clause visits
few_lawful name leaves alone few = record { leaves = λ site s legal h. leaves site s h; alone = alone; bounded = few_bounded few }

-- ---- a clause on operands and memory

abbrev pub KeepsMemory : (List Arg → Memory → MemoryEffect) → Type 0
KeepsMemory f = (b : Bounds) (args : List Arg) (m : Memory) → All (IsWithin b) args → IsMemory m → Keeps b.statements m (f args m)

pub memory_lawful : {clause : Site → State → Effect} {visits : Site → State → ℕ} (name : Macro) (f : List Arg → Memory → MemoryEffect) → clause ≡ on_memory f → KeepsMemory f → HasBoundedVisits visits → IsLawful name clause visits
memory_lawful name f is keeps bounded = record {
  leaves = λ site s legal h. rw is (memory_leaves site.program site.parameters.settings s _ h.sound (keeps (bounds_of site.program site.parameters.settings) site.args s.memory h.args h.sound.memory));
  alone = λ site s calls. rw is (tapes_memory s (f site.args s.memory));
  bounded = bounded;
}

pub on_memory_lawful : {clause : Site → State → Effect} {visits : Site → State → ℕ} (name : Macro) (f : List Arg → Memory → MemoryEffect) → clause ≡ on_memory f → KeepsMemory f → HasFewVisits visits → IsLawful name clause visits
on_memory_lawful name f is keeps few = memory_lawful name f is keeps (few_bounded few)

-- ---- a clause on a site and memory

-- where the parameters are legal
abbrev pub KeepsAtSite : (Site → Memory → MemoryEffect) → Type 0
KeepsAtSite f = (site : Site) (s : State) → AreLegalSettings site.parameters.settings → IsHere site s → Keeps (length site.program.statements) s.memory (f site s.memory)

pub site_lawful : {clause : Site → State → Effect} {visits : Site → State → ℕ} (name : Macro) (f : Site → Memory → MemoryEffect) → clause ≡ on_site f → KeepsAtSite f → HasBoundedVisits visits → IsLawful name clause visits
site_lawful name f is keeps bounded = record {
  leaves = λ site s legal h. rw is (memory_leaves site.program site.parameters.settings s _ h.sound (keeps site s legal h));
  alone = λ site s calls. rw is (tapes_memory s (f site s.memory));
  bounded = bounded;
}

abbrev pub KeepsOnSite : (Site → Memory → MemoryEffect) → Type 0
KeepsOnSite f = (site : Site) (s : State) → IsHere site s → Keeps (length site.program.statements) s.memory (f site s.memory)

pub on_site_lawful : {clause : Site → State → Effect} {visits : Site → State → ℕ} (name : Macro) (f : Site → Memory → MemoryEffect) → clause ≡ on_site f → KeepsOnSite f → HasFewVisits visits → IsLawful name clause visits
on_site_lawful name f is keeps few = site_lawful name f is (λ site s legal h. keeps site s h) (few_bounded few)
