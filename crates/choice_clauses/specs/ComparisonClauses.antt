-- What the macros that compare do: each goes to one of its locations, and writes nothing. None stands for a use that is undefined.
use Rattle.std.specs.Prelude.{List, ℤ, pos, ℕ, ◌==◌, if◌then◌else◌, bit_and, int_lt, Option, Some}
use Rattle.sil_model.specs.declared.program.Arg.{Arg}
use Rattle.layout_params.specs.declared.cell.Descr.{Descr as Descriptor}
use Rattle.sil_model.specs.declared.program.Flow.{Flow}
use Rattle.sil_model.specs.Memory.{Memory}
use Rattle.sil_model.specs.Access.{◌>>=◌, descr_at, a_at, f_at, v_at}
use Rattle.sil_model.specs.Arguments.{place_at, number_at, flag_at, goto_at}
use Rattle.sil_model.specs.Effects.{MemoryEffect}
use Rattle.sil_model.specs.Integers.{◌⊞◌}

-- the first where x is greater, the second where they are equal, the third where it is less
abbrev pub by_order : ℤ → ℤ → Flow → Flow → Flow → Flow
by_order x y greater equal less = if int_lt y x then greater else (if int_lt x y then less else equal)

abbrev pub by_equality : ℤ → ℤ → Flow → Flow → Flow
by_equality x y unequal equal = by_order x y unequal equal unequal

-- descriptors are equal where their A, F and V are
abbrev pub by_sameness : Descriptor → Descriptor → Flow → Flow → Flow
by_sameness x y unequal equal = by_equality x.a y.a unequal (by_equality (pos x.f) (pos y.f) unequal (by_equality (pos x.v) (pos y.v) unequal equal))

-- to the second where f has all bits of the flags
abbrev pub by_flags : ℕ → ℕ → Flow → Flow → Flow
by_flags f flags lacking having = if bit_and f flags == flags then having else lacking

-- the length of a specifier, which is the V field of its second cell
abbrev pub length_at : Memory → ℤ → Option ℕ
length_at m s = v_at m (s ⊞ pos m.limits.cell_size)

-- `ACOMP D1,D2,L1,L2,L3`: D1.A with D2.A
unfoldable pub acomp : List Arg → Memory → MemoryEffect
acomp args m = do
  d1 ← place_at args 0
  d2 ← place_at args 1
  greater ← goto_at args 2
  equal ← goto_at args 3
  less ← goto_at args 4
  x ← a_at m d1
  y ← a_at m d2
  Some (by_order x y greater equal less, m)

-- `ACOMPC D,N,L1,L2,L3`: D.A with N
unfoldable pub acompc : List Arg → Memory → MemoryEffect
acompc args m = do
  d ← place_at args 0
  n ← number_at args 1
  greater ← goto_at args 2
  equal ← goto_at args 3
  less ← goto_at args 4
  x ← a_at m d
  Some (by_order x n greater equal less, m)

-- `AEQL D1,D2,L1,L2`: D1.A with D2.A
unfoldable pub aeql : List Arg → Memory → MemoryEffect
aeql args m = do
  d1 ← place_at args 0
  d2 ← place_at args 1
  unequal ← goto_at args 2
  equal ← goto_at args 3
  x ← a_at m d1
  y ← a_at m d2
  Some (by_equality x y unequal equal, m)

-- `AEQLC D,N,L1,L2`: D.A with N
unfoldable pub aeqlc : List Arg → Memory → MemoryEffect
aeqlc args m = do
  d ← place_at args 0
  n ← number_at args 1
  unequal ← goto_at args 2
  equal ← goto_at args 3
  x ← a_at m d
  Some (by_equality x n unequal equal, m)

-- `AEQLIC D,N1,N2,L1,L2`: [D.A + N1].A with N2
unfoldable pub aeqlic : List Arg → Memory → MemoryEffect
aeqlic args m = do
  d ← place_at args 0
  n1 ← number_at args 1
  n2 ← number_at args 2
  unequal ← goto_at args 3
  equal ← goto_at args 4
  at ← a_at m d
  x ← a_at m (at ⊞ n1)
  Some (by_equality x n2 unequal equal, m)

-- `CHKVAL D1,D2,S,L1,L2,L3`: D2.A + S.L, which wraps, with D1.A
unfoldable pub chkval : List Arg → Memory → MemoryEffect
chkval args m = do
  d1 ← place_at args 0
  d2 ← place_at args 1
  s ← place_at args 2
  greater ← goto_at args 3
  equal ← goto_at args 4
  less ← goto_at args 5
  y ← a_at m d1
  x ← a_at m d2
  l ← length_at m s
  Some (by_order (x ⊞ pos l) y greater equal less, m)

-- `DEQL D1,D2,L1,L2`: D1 with D2: their A, F and V
unfoldable pub deql : List Arg → Memory → MemoryEffect
deql args m = do
  d1 ← place_at args 0
  d2 ← place_at args 1
  unequal ← goto_at args 2
  equal ← goto_at args 3
  x ← descr_at m d1
  y ← descr_at m d2
  Some (by_sameness x y unequal equal, m)

-- `LCOMP S1,S2,L1,L2,L3`: S1.L with S2.L
unfoldable pub lcomp : List Arg → Memory → MemoryEffect
lcomp args m = do
  s1 ← place_at args 0
  s2 ← place_at args 1
  greater ← goto_at args 2
  equal ← goto_at args 3
  less ← goto_at args 4
  x ← length_at m s1
  y ← length_at m s2
  Some (by_order (pos x) (pos y) greater equal less, m)

-- `LEQLC S,N,L1,L2`: S.L with N
unfoldable pub leqlc : List Arg → Memory → MemoryEffect
leqlc args m = do
  s ← place_at args 0
  n ← number_at args 1
  unequal ← goto_at args 2
  equal ← goto_at args 3
  x ← length_at m s
  Some (by_equality (pos x) n unequal equal, m)

-- `TESTF D,F,L1,L2`: to L2 where D.F has all bits of F, else to L1
unfoldable pub testf : List Arg → Memory → MemoryEffect
testf args m = do
  d ← place_at args 0
  flags ← flag_at args 1
  lacking ← goto_at args 2
  having ← goto_at args 3
  f ← f_at m d
  Some (by_flags f flags lacking having, m)

-- `TESTFI D,F,L1,L2`: to L2 where [D.A].F has all bits of F, else to L1
unfoldable pub testfi : List Arg → Memory → MemoryEffect
testfi args m = do
  d ← place_at args 0
  flags ← flag_at args 1
  lacking ← goto_at args 2
  having ← goto_at args 3
  at ← a_at m d
  f ← f_at m at
  Some (by_flags f flags lacking having, m)

-- `VCMPIC D1,N,D2,L1,L2,L3`: [D1.A + N].V with D2.V
unfoldable pub vcmpic : List Arg → Memory → MemoryEffect
vcmpic args m = do
  d1 ← place_at args 0
  n ← number_at args 1
  d2 ← place_at args 2
  greater ← goto_at args 3
  equal ← goto_at args 4
  less ← goto_at args 5
  at ← a_at m d1
  x ← v_at m (at ⊞ n)
  y ← v_at m d2
  Some (by_order (pos x) (pos y) greater equal less, m)

-- `VEQL D1,D2,L1,L2`: D1.V with D2.V
unfoldable pub veql : List Arg → Memory → MemoryEffect
veql args m = do
  d1 ← place_at args 0
  d2 ← place_at args 1
  unequal ← goto_at args 2
  equal ← goto_at args 3
  x ← v_at m d1
  y ← v_at m d2
  Some (by_equality (pos x) (pos y) unequal equal, m)

-- `VEQLC D,N,L1,L2`: D.V with N
unfoldable pub veqlc : List Arg → Memory → MemoryEffect
veqlc args m = do
  d ← place_at args 0
  n ← number_at args 1
  unequal ← goto_at args 2
  equal ← goto_at args 3
  x ← v_at m d
  Some (by_equality (pos x) n unequal equal, m)
