-- What the macros on integers do: each but MULTC goes to its first location where the result is out of range, and writes nothing then. None stands for a use that is undefined.
use Rattle.std.specs.Prelude.{List, ℤ, pos, zero, Option, None, Some, ◌+ℤ◌, ◌-ℤ◌, ◌*ℤ◌, neg_ℤ, int_div}
use Rattle.sil_model.specs.declared.program.Arg.{Arg}
use Rattle.layout_params.specs.declared.cell.Descr.{Descr as Descriptor}
use Rattle.sil_model.specs.declared.program.Flow.{Flow}
use Rattle.sil_model.specs.Memory.{Memory}
use Rattle.sil_model.specs.Access.{◌>>=◌, descr_at, set_descr_at, a_at, integer_alone}
use Rattle.sil_model.specs.Arguments.{place_at, number_at, goto_at}
use Rattle.sil_model.specs.Effects.{MemoryEffect, onward, leads}
use Rattle.sil_model.specs.Integers.{in_range, wrapped_product}

-- cut towards zero; none by 0, and none out of range
abbrev pub quotient : ℤ → ℤ → Option ℤ
quotient x (pos zero) = None
quotient x y = in_range (int_div x y)

-- D1 := the integer with the F and V of d, to the second location; to the first where there is none
abbrev pub deliver : Memory → ℤ → Descriptor → Option ℤ → Flow → Flow → MemoryEffect
deliver m d1 d None failure success = Some (failure, m)
deliver m d1 d (Some a) failure success = leads success (set_descr_at m d1 (record d { a = a }))

-- `DIVIDE D1,D2,D3,LF,LS`: D2.A by D3.A, cut towards zero
unfoldable pub divide : List Arg → Memory → MemoryEffect
divide args m = do
  d1 ← place_at args 0
  d2 ← place_at args 1
  d3 ← place_at args 2
  failure ← goto_at args 3
  success ← goto_at args 4
  x ← descr_at m d2
  y ← a_at m d3
  deliver m d1 x (quotient x.a y) failure success

-- `MNSINT D1,D2,LF,LS`: -D2.A
unfoldable pub mnsint : List Arg → Memory → MemoryEffect
mnsint args m = do
  d1 ← place_at args 0
  d2 ← place_at args 1
  failure ← goto_at args 2
  success ← goto_at args 3
  x ← descr_at m d2
  deliver m d1 x (in_range (neg_ℤ x.a)) failure success

-- `MULT D1,D2,D3,LF,LS`: D2.A * D3.A
unfoldable pub mult : List Arg → Memory → MemoryEffect
mult args m = do
  d1 ← place_at args 0
  d2 ← place_at args 1
  d3 ← place_at args 2
  failure ← goto_at args 3
  success ← goto_at args 4
  x ← descr_at m d2
  y ← a_at m d3
  deliver m d1 x (in_range (x.a *ℤ y)) failure success

-- `MULTC D1,D2,N`: D1 := (D2.A * N, which wraps, 0, 0)
unfoldable pub multc : List Arg → Memory → MemoryEffect
multc args m = do
  d1 ← place_at args 0
  d2 ← place_at args 1
  n ← number_at args 2
  x ← a_at m d2
  onward (set_descr_at m d1 (integer_alone (wrapped_product x n)))

-- `SUBTRT D1,D2,D3,LF,LS`: D2.A - D3.A
unfoldable pub subtrt : List Arg → Memory → MemoryEffect
subtrt args m = do
  d1 ← place_at args 0
  d2 ← place_at args 1
  d3 ← place_at args 2
  failure ← goto_at args 3
  success ← goto_at args 4
  x ← descr_at m d2
  y ← a_at m d3
  deliver m d1 x (in_range (x.a -ℤ y)) failure success

-- `SUM D1,D2,D3,LF,LS`: D2.A + D3.A
unfoldable pub sum : List Arg → Memory → MemoryEffect
sum args m = do
  d1 ← place_at args 0
  d2 ← place_at args 1
  d3 ← place_at args 2
  failure ← goto_at args 3
  success ← goto_at args 4
  x ← descr_at m d2
  y ← a_at m d3
  deliver m d1 x (in_range (x.a +ℤ y)) failure success
