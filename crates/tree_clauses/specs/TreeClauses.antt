-- What the macros on trees do. None stands for a use that is undefined.
use Rattle.std.specs.Prelude.{ℕ, ◌+◌, ◌*◌, List, Option, Some, None, ℤ, pos}
use Rattle.layout_params.specs.declared.cell.Descr.{Descr as Descriptor}
use Rattle.sil_model.specs.declared.program.Arg.{Arg}
use Rattle.sil_model.specs.Access.{◌>>=◌, descr_at, set_descr_at, a_at, v_at, set_v_at, integer_alone}
use Rattle.sil_model.specs.Arguments.{place_at, maybe_place_at}
use Rattle.sil_model.specs.Effects.{MemoryEffect, onward}
use Rattle.sil_model.specs.Integers.{◌⊞◌}
use Rattle.sil_model.specs.Memory.{Memory}

-- ---- the cells of the node at an address

abbrev pub father : Memory → ℤ → ℤ
father m node = node ⊞ pos m.limits.cell_size

abbrev pub left_son : Memory → ℤ → ℤ
left_son m node = node ⊞ pos (2 * m.limits.cell_size)

abbrev pub right_sibling : Memory → ℤ → ℤ
right_sibling m node = node ⊞ pos (3 * m.limits.cell_size)

abbrev pub node_code : Memory → ℤ → ℤ
node_code m node = node ⊞ pos (4 * m.limits.cell_size)

-- ---- the macros: each makes all reads before its writes

-- `ADDSIB D1,D2`: the node at D2 becomes the right sibling of the node at D1, whose father has a son more
unfoldable pub addsib : List Arg → Memory → MemoryEffect
addsib args m = do
  d1 ← place_at args 0
  d2 ← place_at args 1
  a ← a_at m d1
  f ← descr_at m (father m a)
  b ← descr_at m d2
  sibling ← descr_at m (right_sibling m a)
  sons ← v_at m (node_code m f.a)
  m1 ← set_descr_at m (right_sibling m b.a) sibling
  m2 ← set_descr_at m1 (father m b.a) f
  m3 ← set_descr_at m2 (right_sibling m a) b
  onward (set_v_at m3 (node_code m f.a) (pos (sons + 1)))

-- `ADDSON D1,D2`: the node at D2 becomes the left son of the node at D1, which has a son more
unfoldable pub addson : List Arg → Memory → MemoryEffect
addson args m = do
  d1 ← place_at args 0
  d2 ← place_at args 1
  a ← descr_at m d1
  b ← descr_at m d2
  son ← descr_at m (left_son m a.a)
  sons ← v_at m (node_code m a.a)
  m1 ← set_descr_at m (right_sibling m b.a) son
  m2 ← set_descr_at m1 (father m b.a) a
  m3 ← set_descr_at m2 (left_son m a.a) b
  onward (set_v_at m3 (node_code m a.a) (pos (sons + 1)))

-- three descriptors, and two, are written in order
unfoldable pub three_written : Memory → ℤ × Descriptor → ℤ × Descriptor → ℤ × Descriptor → Option Memory
three_written m x y z = do
  m1 ← set_descr_at m x.0 x.1
  m2 ← set_descr_at m1 y.0 y.1
  set_descr_at m2 z.0 z.1

unfoldable pub two_written : Memory → ℤ × Descriptor → ℤ × Descriptor → Option Memory
two_written m x y = do
  m1 ← set_descr_at m x.0 x.1
  set_descr_at m1 y.0 y.1

-- the node of b comes between that of a, whose right sibling that is, and that of its father f
unfoldable pub inserted : Memory → Descriptor → Descriptor → Descriptor → Descriptor → ℕ → Option Memory
inserted m a b f sibling sons = do
  m3 ← three_written m (father m b.a, f) (right_sibling m b.a, sibling) (left_son m b.a, a)
  m5 ← two_written m3 (father m a.a, b) (left_son m f.a, b)
  set_v_at m5 (node_code m b.a) (pos (sons + 1))

-- `INSERT D1,D2`: the node at D2 comes between the node at D1 and its father
unfoldable pub insert : List Arg → Memory → MemoryEffect
insert args m = do
  d1 ← place_at args 0
  d2 ← place_at args 1
  a ← descr_at m d1
  f ← descr_at m (father m a.a)
  b ← descr_at m d2
  sibling ← descr_at m (right_sibling m a.a)
  sons ← v_at m (node_code m b.a)
  onward (inserted m a b f sibling sons)

-- the descriptor at a place that may be null
unfoldable pub maybe_descr_at : Memory → Option ℤ → Option (Option Descriptor)
maybe_descr_at m None = Some None
maybe_descr_at m (Some at) = do
  d ← descr_at m at
  Some (Some d)

-- the descriptor, where there is one, is written
unfoldable pub set_maybe_descr_at : Memory → ℤ → Option Descriptor → Option Memory
set_maybe_descr_at m at None = Some m
set_maybe_descr_at m at (Some d) = set_descr_at m at d

-- `MAKNOD D1,D2,D3,D4,D5,D6?`: the block at D2 becomes a node with D5 first, D4.A and D3.A as its second and third cell, and D6, where it is there, as its fourth; D1 := D2
unfoldable pub maknod : List Arg → Memory → MemoryEffect
maknod args m = do
  d1 ← place_at args 0
  d2 ← place_at args 1
  d3 ← place_at args 2
  d4 ← place_at args 3
  d5 ← place_at args 4
  d6 ← maybe_place_at args 5
  node ← descr_at m d2
  first ← descr_at m d5
  second ← a_at m d4
  third ← a_at m d3
  fourth ← maybe_descr_at m d6
  m3 ← three_written m (father m node.a, first) (left_son m node.a, integer_alone second) (right_sibling m node.a, integer_alone third)
  m4 ← set_maybe_descr_at m3 (node_code m node.a) fourth
  onward (set_descr_at m4 d1 node)
