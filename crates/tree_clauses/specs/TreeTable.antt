-- The table of the macros on trees, patterns and blocks: their clauses, and the visits that these make.
use Rattle.std.specs.Prelude.{ℕ, ◌+◌, ◌*◌, ◌==◌, if◌then◌else◌, Bool, true, false, List, length, Option, Some, None, ℤ, pos, int_lt}
use Rattle.layout_params.specs.declared.cell.Cell.{Cell}
use Rattle.layout_params.specs.declared.cell.Cell.TheVariants.{Chars}
use Rattle.sil_macros.specs.declared.names.Macro.{Macro}
use Rattle.sil_macros.specs.declared.names.Macro.TheVariants.{Addsib, Addson, Cpypat, Expint, Insert, Linkor, Locapt, Locapv, Lvalue, Maknod, Movblk, Top}
use Rattle.sil_model.specs.declared.program.Arg.{Arg}
use Rattle.sil_model.specs.Access.{◌>>=◌, a_at, v_at, cell_at, descr_at}
use Rattle.sil_model.specs.Arguments.{place_at, maybe_place_at}
use Rattle.sil_model.specs.Effects.{Effect, on_memory, on_site, no_clause}
use Rattle.sil_model.specs.Integers.{◌⊞◌}
use Rattle.sil_model.specs.Memory.{Memory}
use Rattle.sil_model.specs.Sites.{Site}
use Rattle.sil_model.specs.States.{State}
use Rattle.tree_clauses.specs.Loops.{each_visits, walk_visits}
use Rattle.tree_clauses.specs.TreeClauses.{addsib, addson, insert, maknod, father, left_son}
use Rattle.tree_clauses.specs.PatternClauses.{Copies, Moving, cell_turn, copying_at, cpypat, expint, greatest, link_turn, linkor, locapt, locapv, lowest_turn, lvalue, movblk, node_turn, offsets_at, pair_turn, title_turn, top, whole_cells}

-- whether a macro is one of these
abbrev pub is_of_tree : Macro → Bool
is_of_tree Addsib = true
is_of_tree Addson = true
is_of_tree Cpypat = true
is_of_tree Expint = true
is_of_tree Insert = true
is_of_tree Linkor = true
is_of_tree Locapt = true
is_of_tree Locapv = true
is_of_tree Lvalue = true
is_of_tree Maknod = true
is_of_tree Movblk = true
is_of_tree Top = true
is_of_tree _ = false

unfoldable pub tree_clause : Macro → Site → State → Effect
tree_clause Addsib = on_memory addsib
tree_clause Addson = on_memory addson
tree_clause Cpypat = on_memory cpypat
tree_clause Expint = on_memory expint
tree_clause Insert = on_memory insert
tree_clause Linkor = on_memory linkor
tree_clause Locapt = on_memory locapt
tree_clause Locapv = on_memory locapv
tree_clause Lvalue = on_memory lvalue
tree_clause Maknod = on_memory maknod
tree_clause Movblk = on_memory movblk
tree_clause Top = on_site top
tree_clause _ = no_clause

-- ---- the visits of loops; none where what a loop starts from isn't read

abbrev pub or_zero : Option ℕ → ℕ
or_zero None = 0
or_zero (Some n) = n

-- a pair is visited where the block has it
abbrev pub pair_price : ℕ → ℤ → ℕ
pair_price size offset = if int_lt offset (pos size) then 1 else 0

unfoldable pub pair_visits : ℕ → List Arg → Memory → ℕ
pair_visits cell args m = or_zero (do
  d2 ← place_at args 1
  d3 ← place_at args 2
  block ← descr_at m d2
  size ← v_at m block.a
  key ← descr_at m d3
  Some (walk_visits (pair_turn m (block.a ⊞ pos (cell * m.limits.cell_size)) key size) (pair_price size) (length m.cells + 1) (pos 0)))

unfoldable pub title_visits : Site → Memory → ℕ
title_visits site m = or_zero (do
  d3 ← place_at site.args 2
  x ← descr_at m d3
  Some (walk_visits (title_turn m x.a site.parameters.settings.title_flag) (λ back. 1) (length m.cells) (pos 0)))

unfoldable pub link_visits : List Arg → Memory → ℕ
link_visits args m = or_zero (do
  d1 ← place_at args 0
  a ← a_at m d1
  Some (walk_visits (link_turn m (left_son m a)) (λ offset. 1) (length m.cells) (pos 0)))

unfoldable pub lowest_visits : List Arg → Memory → ℕ
lowest_visits args m = or_zero (do
  d2 ← place_at args 1
  a ← a_at m d2
  Some (walk_visits (lowest_turn m a) (λ s. 2) (length m.cells) (record { offset = pos 0; least = greatest })))

-- a cell of characters counts its characters too
abbrev pub char_count : ℕ → Option Cell → ℕ
char_count d (Some (Chars chars)) = d
char_count d _ = 0

abbrev pub cell_price : ℤ → Moving → ℕ
cell_price from s = 2 + char_count s.memory.limits.cell_size (cell_at s.memory (from ⊞ s.offset))

unfoldable pub cell_visits : List Arg → Memory → ℕ
cell_visits args m = or_zero (do
  d1 ← place_at args 0
  d2 ← place_at args 1
  d3 ← place_at args 2
  to ← a_at m d1
  from ← a_at m d2
  size ← a_at m d3
  count ← whole_cells m size
  Some (each_visits (cell_turn to from) (cell_price from) count (record { memory = m; offset = pos m.limits.cell_size })))

-- a node of four cells is visited eight times, another six times
abbrev pub fourth_price : Option ℕ → ℕ
fourth_price None = 0
fourth_price (Some v) = if v == 3 then 2 else 0

abbrev pub node_price : Copies → ℕ
node_price s = 6 + fourth_price (v_at s.memory (father s.memory s.at.from))

unfoldable pub node_visits : List Arg → Memory → ℕ
node_visits args m = or_zero (do
  d1 ← place_at args 0
  d2 ← place_at args 1
  d3 ← place_at args 2
  d4 ← place_at args 3
  d5 ← place_at args 4
  d6 ← place_at args 5
  by ← offsets_at m d3 d4 d5
  first ← copying_at m d1 d2 d6
  Some (walk_visits (node_turn by) node_price (length m.cells) (record { memory = m; at = first })))

-- a sixth operand that is there is read, and written
abbrev pub sixth_price : Option (Option ℤ) → ℕ
sixth_price (Some (Some at)) = 2
sixth_price _ = 0

-- the visits that a clause makes to cells, characters and links; EXPINT counts 64 more
abbrev pub tree_visits : Macro → Site → State → ℕ
tree_visits Addsib site s = 9
tree_visits Addson site s = 8
tree_visits Cpypat site s = 7 + node_visits site.args s.memory
tree_visits Expint site s = 67
tree_visits Insert site s = 11
tree_visits Linkor site s = 3 + link_visits site.args s.memory
tree_visits Locapt site s = 4 + pair_visits 1 site.args s.memory
tree_visits Locapv site s = 4 + pair_visits 2 site.args s.memory
tree_visits Lvalue site s = 2 + lowest_visits site.args s.memory
tree_visits Maknod site s = 8 + sixth_price (maybe_place_at site.args 5)
tree_visits Movblk site s = 3 + cell_visits site.args s.memory
tree_visits Top site s = 3 + title_visits site s.memory
tree_visits _ site s = 0
