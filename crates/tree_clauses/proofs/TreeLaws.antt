-- The laws of the macros on trees, patterns and blocks.
use Rattle.std.specs.Prelude.{length, int_lt, ◌==◌, if◌then◌else◌}
use Rattle.std.proofs.Common.{◌≡◌, ℕ, ◌+◌, ◌*◌, ◌≤◌, Bool, true, false, List, Option, Some, None, ℤ, pos, negsuc, refl, ap, arith}
use Rattle.std.proofs.lemmas.Nat.{mul-le}
use Rattle.std.proofs.lemmas.Bool.Decides.{nat_tests}
use Rattle.layout_params.specs.declared.cell.Cell.{Cell}
use Rattle.layout_params.specs.declared.cell.Cell.TheVariants.{Descr, Chars}
use Rattle.sil_macros.specs.declared.names.Macro.TheVariants.{Addsib, Addson, Cpypat, Expint, Insert, Linkor, Locapt, Locapv, Lvalue, Maknod, Movblk, Top}
use Rattle.sil_macros.specs.declared.names.Macro.{Macro}
use Rattle.sil_model.specs.declared.limits.Limits.{Limits}
use Rattle.sil_model.specs.declared.program.Arg.{Arg}
use Rattle.sil_model.specs.Access.{◌>>=◌, cell_at, v_at}
use Rattle.sil_model.specs.Arguments.{maybe_place_at}
use Rattle.sil_model.specs.Effects.{MemoryEffect, Effect, on_memory, on_site}
use Rattle.sil_model.specs.Fits.{bounds_of}
use Rattle.sil_model.specs.Integers.{◌⊞◌}
use Rattle.sil_model.specs.Memory.{Memory, IsMemory}
use Rattle.sil_model.specs.OperandCounts.{operand_count}
use Rattle.sil_model.specs.Sites.{Site}
use Rattle.sil_model.specs.States.{State}
use Rattle.sil_model.specs.UnitMacros.{KeepsTapes, calls_unit}
use Rattle.sil_model.proofs.Keeps.{Follows, same}
use Rattle.sil_model.proofs.Lawful.{IsLawful, at_start, few_lawful, memory_lawful, on_memory_lawful, site_lawful}
use Rattle.sil_model.proofs.Leaves.{IsHere, Leaves, LeavesAt, memory_leaves}
use Rattle.sil_model.proofs.TapesKept.{tapes_memory}
use Rattle.tree_clauses.specs.Loops.{each_visits}
use Rattle.tree_clauses.specs.TreeClauses.{addsib, addson, father, insert, maknod}
use Rattle.tree_clauses.specs.PatternClauses.{Copies, Moving, cell_turn, cpypat, expint, linkor, locapt, locapv, lvalue, movblk, top, whole_cells}
use Rattle.tree_clauses.specs.TreeTable.{cell_price, cell_visits, char_count, fourth_price, link_visits, lowest_visits, node_price, node_visits, or_zero, pair_price, pair_visits, sixth_price, title_visits, tree_clause, tree_visits}
use Rattle.tree_clauses.proofs.LoopLaws.{each_few, walk_few}
use Rattle.tree_clauses.proofs.NodeLaws.{addsib_keeps, addson_keeps, insert_keeps, maknod_keeps}
use Rattle.tree_clauses.proofs.PatternLaws.{HasMoved, cell_follows, cpypat_keeps, expint_keeps, linkor_keeps, located_keeps, lvalue_keeps, movblk_keeps, top_keeps}

-- ---- visits of loops

zero_few : {A : Type 0} (most : ℕ) (o : Option A) (f : A → Option ℕ) → ((a : A) → o ≡ Some a → or_zero (f a) ≤ most) → or_zero (o >>= f) ≤ most
zero_few most None f h = omega arith
zero_few most (Some a) f h = h a refl

-- a cell has at least sixteen bytes
wide : (cells d : ℕ) → 16 ≤ d → 64 * cells ≤ 4 * (cells * d)
wide cells d least =
    let low : cells * 16 ≤ cells * d = mul-le cells 16 cells d (omega arith) least in
    omega (arith, low)

pair_price_few : (size : ℕ) (offset : ℤ) → pair_price size offset ≤ 1
pair_price_few size offset = go (int_lt offset (pos size)) where
  go : (b : Bool) → (if b then 1 else 0) ≤ 1
  go true = omega arith
  go false = omega arith

pair_few : (cell : ℕ) (args : List Arg) (m : Memory) → pair_visits cell args m ≤ (length m.cells + 1) * 1
unfolding pair_visits
pair_few cell args m = search (zero_few, walk_few, pair_price_few) depth 24

one_few : {A : Type 0} (s : A) → 1 ≤ 1
one_few s = omega arith

two_few : {A : Type 0} (s : A) → 2 ≤ 2
two_few s = omega arith

title_few : (site : Site) (m : Memory) → title_visits site m ≤ length m.cells * 1
unfolding title_visits
title_few site m = search (zero_few, walk_few, one_few) depth 24

link_few : (args : List Arg) (m : Memory) → link_visits args m ≤ length m.cells * 1
unfolding link_visits
link_few args m = search (zero_few, walk_few, one_few) depth 24

lowest_few : (args : List Arg) (m : Memory) → lowest_visits args m ≤ length m.cells * 2
unfolding lowest_visits
lowest_few args m = search (zero_few, walk_few, two_few) depth 24

fourth_few : (o : Option ℕ) → fourth_price o ≤ 2
fourth_few None = omega arith
fourth_few (Some v) = go (v == 3) where
  go : (b : Bool) → (if b then 2 else 0) ≤ 2
  go true = omega arith
  go false = omega arith

node_price_few : (s : Copies) → node_price s ≤ 8
node_price_few s = omega (arith, fourth_few (v_at s.memory (father s.memory s.at.from)))

node_few : (args : List Arg) (m : Memory) → node_visits args m ≤ length m.cells * 8
unfolding node_visits
node_few args m = search (zero_few, walk_few, node_price_few) depth 40

sixth_few : (o : Option (Option ℤ)) → sixth_price o ≤ 2
sixth_few None = omega arith
sixth_few (Some None) = omega arith
sixth_few (Some (Some at)) = omega arith

chars_few : (d : ℕ) (o : Option Cell) → char_count d o ≤ d
chars_few d None = omega arith
chars_few d (Some (Descr x)) = omega arith
chars_few d (Some (Chars chars)) = omega arith

price_few : (m : Memory) (from : ℤ) (s : Moving) → Follows m s.memory → cell_price from s ≤ 2 + m.limits.cell_size
price_few m from s f =
    let size : s.memory.limits.cell_size ≡ m.limits.cell_size = ap (λ (l : Limits). l.cell_size) f.shape.limits in
    omega (arith, size, chars_few s.memory.limits.cell_size (cell_at s.memory (from ⊞ s.offset)))

counted_few : (m : Memory) (size : ℤ) (count : ℕ) → whole_cells m size ≡ Some count → count ≤ length m.cells
unfolding whole_cells
counted_few m (pos n) count is = grind (arith, nat_tests, is)
counted_few m (negsuc n) count is = cc

moves_few : (m : Memory) (to from size : ℤ) (count : ℕ) → IsMemory m → whole_cells m size ≡ Some count → each_visits (cell_turn to from) (cell_price from) count (record { memory = m; offset = pos m.limits.cell_size }) ≤ length m.cells * (2 + m.limits.cell_size)
moves_few m to from size count h is =
    let all = each_few (cell_turn to from) (HasMoved m) (cell_follows m to from) (cell_price from) (2 + m.limits.cell_size) (price_few m from) count (record { memory = m; offset = pos m.limits.cell_size }) (same m h) in
    let low = mul-le count (2 + m.limits.cell_size) (length m.cells) (2 + m.limits.cell_size) (counted_few m size count is) (omega arith) in
    omega (arith, all, low)

cell_few : (args : List Arg) (m : Memory) → IsMemory m → cell_visits args m ≤ length m.cells * (2 + m.limits.cell_size)
unfolding cell_visits
cell_few args m h = search (zero_few, moves_few) depth 24

-- so many cells with their characters are fewer than four times as many bytes
cells_wide : (cells d : ℕ) → 16 ≤ d → cells * (2 + d) ≤ 4 * (cells * d)
cells_wide cells d least =
    let low : cells * (2 + d) ≤ cells * (4 * d) = mul-le cells (2 + d) cells (4 * d) (omega arith) (omega arith) in
    let same : cells * (4 * d) ≡ 4 * (cells * d) = grind arith in
    omega (arith, low, same)

bounded : (site : Site) (s : State) (visits : ℕ) → IsHere site (at_start s) → visits ≤ 1024 + 64 * length s.memory.cells → visits ≤ 1024 + 4 * (length s.memory.cells * s.memory.limits.cell_size)
bounded site s visits h le = omega (arith, le, wide (length s.memory.cells) s.memory.limits.cell_size h.sound.memory.limits.least)

pub tree_lawful : (name : Macro) → IsLawful name (tree_clause name) (tree_visits name)
unfolding tree_clause Leaves KeepsTapes
tree_lawful Addsib = on_memory_lawful Addsib addsib refl addsib_keeps (λ site s few. omega arith)
tree_lawful Addson = on_memory_lawful Addson addson refl addson_keeps (λ site s few. omega arith)
tree_lawful Cpypat = memory_lawful Cpypat cpypat refl cpypat_keeps (λ site s few h. bounded site s _ h (omega (arith, node_few site.args s.memory)))
tree_lawful Expint = on_memory_lawful Expint expint refl expint_keeps (λ site s few. omega arith)
tree_lawful Insert = on_memory_lawful Insert insert refl insert_keeps (λ site s few. omega arith)
tree_lawful Linkor = memory_lawful Linkor linkor refl linkor_keeps (λ site s few h. bounded site s _ h (omega (arith, link_few site.args s.memory)))
tree_lawful Locapt = memory_lawful Locapt locapt refl (located_keeps 1) (λ site s few h. bounded site s _ h (omega (arith, pair_few 1 site.args s.memory)))
tree_lawful Locapv = memory_lawful Locapv locapv refl (located_keeps 2) (λ site s few h. bounded site s _ h (omega (arith, pair_few 2 site.args s.memory)))
tree_lawful Lvalue = memory_lawful Lvalue lvalue refl lvalue_keeps (λ site s few h. bounded site s _ h (omega (arith, lowest_few site.args s.memory)))
tree_lawful Maknod = on_memory_lawful Maknod maknod refl maknod_keeps (λ site s few. omega (arith, sixth_few (maybe_place_at site.args 5)))
tree_lawful Movblk = memory_lawful Movblk movblk refl movblk_keeps (λ site s few h. omega (arith, cell_few site.args s.memory h.sound.memory, cells_wide (length s.memory.cells) s.memory.limits.cell_size h.sound.memory.limits.least))
tree_lawful Top = site_lawful Top top refl (λ site s legal h. top_keeps site s h) (λ site s few h. bounded site s _ h (omega (arith, title_few site s.memory)))
tree_lawful name = few_lawful name (λ site s h. tt) (λ site s h. tt) (λ site s h. omega arith)
