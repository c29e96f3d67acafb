-- What the macros on patterns and blocks do. None stands for a use that is undefined.
use Rattle.std.specs.Prelude.{ℕ, zero, suc, ◌+◌, ◌*◌, ◌/◌, ◌%◌, ◌^◌, ◌-◌, ◌==◌, ◌&&◌, Bool, true, false, if◌then◌else◌, List, length, Option, Some, None, ℤ, pos, negsuc, ◌+ℤ◌, int_lt, nat_le, bit_and}
use Rattle.std.specs.Int.{int_pow}
use Rattle.std.specs.Ordering.{int_eq}
use Rattle.std.specs.declared.ops.ControlFlow.{ControlFlow}
use Rattle.std.specs.declared.ops.ControlFlow.TheVariants.{Continue, Break}
use Rattle.layout_params.specs.declared.cell.Descr.{Descr as Descriptor}
use Rattle.sil_model.specs.declared.program.Arg.{Arg}
use Rattle.sil_model.specs.declared.program.Flow.{Flow}
use Rattle.sil_model.specs.Access.{◌>>=◌, cell_at, set_cell_at, descr_at, set_descr_at, set_whole_at, a_at, set_a_at, f_at, v_at, integer_alone}
use Rattle.sil_model.specs.Arguments.{place_at, goto_at}
use Rattle.sil_model.specs.Effects.{MemoryEffect, onward, leads}
use Rattle.sil_model.specs.Integers.{◌⊞◌, ◌⊟◌, in_range}
use Rattle.sil_model.specs.Memory.{Memory}
use Rattle.sil_model.specs.Sites.{Site}
use Rattle.tree_clauses.specs.declared.turns.Copying.{Copying}
use Rattle.tree_clauses.specs.declared.turns.Lowest.{Lowest}
use Rattle.tree_clauses.specs.declared.turns.Offsets.{Offsets}
use Rattle.tree_clauses.specs.Loops.{each, walk}
use Rattle.tree_clauses.specs.TreeClauses.{father, left_son, right_sibling, node_code, maybe_descr_at, set_maybe_descr_at}

-- ---- what they share

abbrev pub is_zero : ℤ → Bool
is_zero (pos zero) = true
is_zero _ = false

-- descriptors are equal where their A, F and V are
abbrev pub same_descr : Descriptor → Descriptor → Bool
same_descr x y = int_eq x.a y.a && (x.f == y.f) && (x.v == y.v)

-- D1 := the integer with the F and V of d, to the second location; to the first where there is none
abbrev pub deliver : Memory → ℤ → Descriptor → Option ℤ → Flow → Flow → MemoryEffect
deliver m d1 d None failure success = Some (failure, m)
deliver m d1 d (Some a) failure success = leads success (set_descr_at m d1 (record d { a = a }))

-- ---- searches: a walk of more turns than there are cells is undefined

abbrev pub key_at : Memory → ℤ → Descriptor → ℤ → Option (ControlFlow (Option ℤ) ℤ)
key_at m at key offset = do
  x ← descr_at m at
  Some (if same_descr x key then Break (Some offset) else Continue (offset ⊞ pos (2 * m.limits.cell_size)))

-- the cell at that offset is a key: it is found; none is left where the offset is past the block's size; else on by two cells
abbrev pub pair_turn : Memory → ℤ → Descriptor → ℕ → ℤ → Option (ControlFlow (Option ℤ) ℤ)
pair_turn m first key size offset =
    if int_lt offset (pos size) then key_at m (first ⊞ offset) key offset else Some (Break None)

-- the A field of a block's cell, where one was found
abbrev pub found_at : Descriptor → Option ℤ → Option ℤ
found_at block None = None
found_at block (Some offset) = Some (block.a ⊞ offset)

-- the key is read where the block isn't empty; as each pair is another cell, no block has more pairs than there are cells
abbrev pub found : Memory → ℤ → Descriptor → ℕ → ℕ → Option (Option ℤ)
found m d3 block cell size =
    if size == 0 then Some None else (descr_at m d3 >>= (λ key. walk (pair_turn m (block.a ⊞ pos (cell * m.limits.cell_size)) key size) (length m.cells + 1) (pos 0)))

-- D1 := the A field of D2, at the first pair of the block at D2 whose cell is D3, with the F and V of D2, to LS; to LF where there is none
unfoldable pub located : ℕ → List Arg → Memory → MemoryEffect
located cell args m = do
  d1 ← place_at args 0
  d2 ← place_at args 1
  d3 ← place_at args 2
  failure ← goto_at args 3
  success ← goto_at args 4
  block ← descr_at m d2
  size ← v_at m block.a
  offset ← found m d3 block cell size
  deliver m d1 block (found_at block offset) failure success

-- `LOCAPT D1,D2,D3,LF,LS`: by the first cell of each pair
abbrev pub locapt : List Arg → Memory → MemoryEffect
locapt = located 1

-- `LOCAPV D1,D2,D3,LF,LS`: by the second cell of each pair
abbrev pub locapv : List Arg → Memory → MemoryEffect
locapv = located 2

-- whether the flags have all bits of the others
abbrev pub has_flags : ℕ → ℕ → Bool
has_flags f flags = bit_and f flags == flags

-- the title is the first cell downwards whose F has all bits of TTL
abbrev pub title_turn : Memory → ℤ → ℕ → ℤ → Option (ControlFlow ℤ ℤ)
title_turn m from flags back = do
  f ← f_at m (from ⊟ back)
  Some (if has_flags f flags then Break back else Continue (back ⊞ pos m.limits.cell_size))

-- D1 := D3 with the address of the title at or below it; D2.A := how far below
unfoldable pub titled : ℕ → List Arg → Memory → MemoryEffect
titled flags args m = do
  d1 ← place_at args 0
  d2 ← place_at args 1
  d3 ← place_at args 2
  x ← descr_at m d3
  back ← walk (title_turn m x.a flags) (length m.cells) (pos 0)
  m1 ← set_descr_at m d1 (record x { a = x.a ⊟ back })
  onward (set_a_at m1 d2 back)

-- `TOP D1,D2,D3`: by the flag TTL
abbrev pub top : Site → Memory → MemoryEffect
top site m = titled site.parameters.settings.title_flag site.args m

-- ---- alternatives: each node has the offset of the next one in the A field of its second cell, 0 in the last

abbrev pub link_turn : Memory → ℤ → ℤ → Option (ControlFlow ℤ ℤ)
link_turn m first offset = do
  next ← a_at m (first ⊞ offset)
  Some (if is_zero next then Break offset else Continue next)

-- `LINKOR D1,D2`: the last alternative of the pattern at D1 gets D2.A as its offset
unfoldable pub linkor : List Arg → Memory → MemoryEffect
linkor args m = do
  d1 ← place_at args 0
  d2 ← place_at args 1
  a ← a_at m d1
  b ← a_at m d2
  offset ← walk (link_turn m (left_son m a)) (length m.cells) (pos 0)
  onward (set_a_at m (left_son m a ⊞ offset) b)

abbrev pub lesser : ℤ → ℤ → ℤ
lesser x y = if int_lt x y then x else y

abbrev pub lowest_turn : Memory → ℤ → Lowest → Option (ControlFlow ℤ Lowest)
lowest_turn m node s = do
  taken ← a_at m (right_sibling m node ⊞ s.offset)
  next ← a_at m (left_son m node ⊞ s.offset)
  Some (if is_zero next then Break (lesser taken s.least) else Continue (record { offset = next; least = lesser taken s.least }))

-- the greatest integer, above which nothing is taken
abbrev pub greatest : ℤ
greatest = pos (2 ^ 63 - 1)

-- `LVALUE D1,D2`: D1 := (the least A field of the third cells of all alternatives, 0, 0)
unfoldable pub lvalue : List Arg → Memory → MemoryEffect
lvalue args m = do
  d1 ← place_at args 0
  d2 ← place_at args 1
  a ← a_at m d2
  least ← walk (lowest_turn m a) (length m.cells) (record { offset = pos 0; least = greatest })
  onward (set_descr_at m d1 (integer_alone least))

-- ---- blocks

-- the number of cells of so many bytes; more than there are can't all be found, so they are undefined at once
unfoldable pub whole_cells : Memory → ℤ → Option ℕ
whole_cells m (pos n) = if (n % m.limits.cell_size == 0) && nat_le (n / m.limits.cell_size) (length m.cells) then Some (n / m.limits.cell_size) else None
whole_cells m (negsuc n) = None

-- a memory, and how far its cells are moved
pub record Moving : Type 0 where
  pub memory : Memory
  pub offset : ℤ

-- the next cell, of either kind, goes from the one block to the other
abbrev pub cell_turn : ℤ → ℤ → Moving → Option Moving
cell_turn to from s = do
  cell ← cell_at s.memory (from ⊞ s.offset)
  m ← set_cell_at s.memory (to ⊞ s.offset) cell
  Some (record { memory = m; offset = s.offset ⊞ pos s.memory.limits.cell_size })

abbrev pub moved_memory : Moving → Option Memory
moved_memory s = Some s.memory

-- how far a call moved, and the memory that it left
abbrev pub moving : Option ℤ → Memory → Option Moving
moving None m = None
moving (Some offset) m = Some (record { memory = m; offset = offset })

-- the memory after so many cells are moved, lowest first
abbrev pub cells_moved : ℤ → ℤ → ℕ → Memory → Option Memory
cells_moved to from count m = each (cell_turn to from) count (record { memory = m; offset = pos m.limits.cell_size }) >>= moved_memory

-- `MOVBLK D1,D2,D3`: the cells of the block at D2, but for its title, go to the block at D1, lowest first; D3.A is their bytes
unfoldable pub movblk : List Arg → Memory → MemoryEffect
movblk args m = do
  d1 ← place_at args 0
  d2 ← place_at args 1
  d3 ← place_at args 2
  to ← a_at m d1
  from ← a_at m d2
  size ← a_at m d3
  count ← whole_cells m size
  onward (cells_moved to from count m)

-- ---- powers

-- the exact power, where 64 bits hold it; none by a negative one, and none of 0 by 0
unfoldable pub power : ℤ → ℤ → Option ℤ
power x (negsuc n) = None
power x (pos zero) = if is_zero x then None else Some (pos 1)
power x (pos (suc n)) = in_range (int_pow x (suc n))

-- `EXPINT D1,D2,D3,LF,LS`: D2.A to the power D3.A
unfoldable pub expint : List Arg → Memory → MemoryEffect
expint args m = do
  d1 ← place_at args 0
  d2 ← place_at args 1
  d3 ← place_at args 2
  failure ← goto_at args 3
  success ← goto_at args 4
  x ← descr_at m d2
  y ← a_at m d3
  deliver m d1 x (power x.a y) failure success

-- ---- copies of patterns

-- what stands in the second cell of a copied node: offsets that aren't 0 rise, and a value of 0 is another one
abbrev pub risen : ℤ → ℤ → ℤ
risen a by = if is_zero a then pos 0 else a ⊞ by

abbrev pub raised : ℕ → ℤ → ℤ → ℤ
raised v by instead = if v == 0 then instead else pos v +ℤ by

-- the fourth cell of a node is there where its first one has the value 3
abbrev pub fourth_place : Memory → ℤ → ℕ → Option ℤ
fourth_place m node v = if v == 3 then Some (node_code m node) else None

-- the bytes of a node, by the value of its first cell
abbrev pub node_size : Memory → ℕ → ℤ
node_size m v = pos ((1 + v) * m.limits.cell_size)

-- a memory, the places of the next node and of its copy, and the bytes that are left
pub record Copies : Type 0 where
  pub memory : Memory
  pub at : Copying

-- past a node of so many bytes and its copy
abbrev pub copied_past : ℤ → Copying → Copying
copied_past size c = record { to = c.to ⊞ size; from = c.from ⊞ size; left = c.left ⊟ size }

-- on while bytes are left
abbrev pub copying_on : Copying → ControlFlow Copying Copying
copying_on at = if int_lt (pos 0) at.left then Continue at else Break at

-- with a memory
abbrev pub copied_with : Memory → ControlFlow Copying Copying → ControlFlow Copies Copies
copied_with m (Continue at) = Continue (record { memory = m; at = at })
copied_with m (Break at) = Break (record { memory = m; at = at })

-- the cells of a copy are written in order: the first two, and the others
unfoldable pub front_written : Memory → Offsets → ℤ → Descriptor → Descriptor → Option Memory
front_written m by to first q = do
  m1 ← set_descr_at m (father m to) first
  set_whole_at m1 (left_son m to) (risen q.a by.next) (pos q.f) (raised q.v by.next by.instead)

unfoldable pub rest_written : Memory → Offsets → ℤ → Descriptor → Option Descriptor → Option Memory
rest_written m by to p fourth = do
  m1 ← set_whole_at m (right_sibling m to) (p.a ⊞ by.place) (pos 0) (pos p.v +ℤ by.place)
  set_maybe_descr_at m1 (node_code m to) fourth

-- a node is copied: all its cells are read, then those of the copy are written; on while bytes are left
abbrev pub node_turn : Offsets → Copies → Option (ControlFlow Copies Copies)
node_turn by s = do
  first ← descr_at s.memory (father s.memory s.at.from)
  q ← descr_at s.memory (left_son s.memory s.at.from)
  p ← descr_at s.memory (right_sibling s.memory s.at.from)
  fourth ← maybe_descr_at s.memory (fourth_place s.memory s.at.from first.v)
  m1 ← front_written s.memory by s.at.to first q
  m2 ← rest_written m1 by s.at.to p fourth
  Some (copied_with m2 (copying_on (copied_past (node_size s.memory first.v) s.at)))

-- where a call left the copy, and the memory that it left
abbrev pub copied_turn : Option (ControlFlow Copying Copying) → Memory → Option (ControlFlow Copies Copies)
copied_turn None m = None
copied_turn (Some flow) m = Some (copied_with m flow)

abbrev pub copied : Option Copying → Memory → Option Copies
copied None m = None
copied (Some at) m = Some (record { memory = m; at = at })

-- how far nodes move, and where the copy begins
unfoldable pub offsets_at : Memory → ℤ → ℤ → ℤ → Option Offsets
offsets_at m d3 d4 d5 = do
  place ← a_at m d3
  next ← a_at m d4
  instead ← a_at m d5
  Some (record { place = place; next = next; instead = instead })

unfoldable pub copying_at : Memory → ℤ → ℤ → ℤ → Option Copying
copying_at m d1 d2 d6 = do
  to ← a_at m d1
  from ← a_at m d2
  left ← a_at m d6
  Some (record { to = to; from = from; left = left })

-- `CPYPAT D1,D2,D3,D4,D5,D6`: the pattern at D2 of D6.A bytes is copied to D1, node by node; D1.A := the place after the copy
unfoldable pub cpypat : List Arg → Memory → MemoryEffect
cpypat args m = do
  d1 ← place_at args 0
  d2 ← place_at args 1
  d3 ← place_at args 2
  d4 ← place_at args 3
  d5 ← place_at args 4
  d6 ← place_at args 5
  by ← offsets_at m d3 d4 d5
  first ← copying_at m d1 d2 d6
  last ← walk (node_turn by) (length m.cells) (record { memory = m; at = first })
  onward (set_a_at last.memory d1 last.at.to)
