-- What the macros on descriptors do. None stands for a use that is undefined.
use Rattle.std.specs.Prelude.{List, ℤ, pos, ℕ, ◌-◌, ◌+ℤ◌, bit_and, bit_or}
use Rattle.sil_model.specs.declared.program.Arg.{Arg}
use Rattle.sil_model.specs.Memory.{Memory}
use Rattle.sil_model.specs.Access.{◌>>=◌, descr_at, set_descr_at, a_at, set_a_at, f_at, set_f_at, v_at, set_v_at, integer_alone}
use Rattle.sil_model.specs.Arguments.{place_at, number_at, flag_at}
use Rattle.sil_model.specs.Effects.{MemoryEffect, onward}
use Rattle.sil_model.specs.Integers.{◌⊞◌, ◌⊟◌}

-- the first bits but for those that the second has
abbrev pub bits_without : ℕ → ℕ → ℕ
bits_without f flags = f - bit_and f flags

-- `ADJUST D1,D2,D3`: D1.A := [D2.A].A + D3.A
unfoldable pub adjust : List Arg → Memory → MemoryEffect
adjust args m = do
  d1 ← place_at args 0
  d2 ← place_at args 1
  d3 ← place_at args 2
  at ← a_at m d2
  a ← a_at m at
  n ← a_at m d3
  onward (set_a_at m d1 (a ⊞ n))

-- `DECRA D,N`: D.A := D.A - N
unfoldable pub decra : List Arg → Memory → MemoryEffect
decra args m = do
  d ← place_at args 0
  n ← number_at args 1
  a ← a_at m d
  onward (set_a_at m d (a ⊟ n))

-- `GETAC D1,D2,N`: D1.A := [D2.A + N].A
unfoldable pub getac : List Arg → Memory → MemoryEffect
getac args m = do
  d1 ← place_at args 0
  d2 ← place_at args 1
  n ← number_at args 2
  at ← a_at m d2
  a ← a_at m (at ⊞ n)
  onward (set_a_at m d1 a)

-- `GETD D1,D2,D3`: D1 := [D2.A + D3.A]
unfoldable pub getd : List Arg → Memory → MemoryEffect
getd args m = do
  d1 ← place_at args 0
  d2 ← place_at args 1
  d3 ← place_at args 2
  at ← a_at m d2
  n ← a_at m d3
  value ← descr_at m (at ⊞ n)
  onward (set_descr_at m d1 value)

-- `GETDC D1,D2,N`: D1 := [D2.A + N]
unfoldable pub getdc : List Arg → Memory → MemoryEffect
getdc args m = do
  d1 ← place_at args 0
  d2 ← place_at args 1
  n ← number_at args 2
  at ← a_at m d2
  value ← descr_at m (at ⊞ n)
  onward (set_descr_at m d1 value)

-- `GETSIZ D1,D2`: D1 := ([D2.A].V, 0, 0)
unfoldable pub getsiz : List Arg → Memory → MemoryEffect
getsiz args m = do
  d1 ← place_at args 0
  d2 ← place_at args 1
  at ← a_at m d2
  v ← v_at m at
  onward (set_descr_at m d1 (integer_alone (pos v)))

-- `INCRA D,N`: D.A := D.A + N
unfoldable pub incra : List Arg → Memory → MemoryEffect
incra args m = do
  d ← place_at args 0
  n ← number_at args 1
  a ← a_at m d
  onward (set_a_at m d (a ⊞ n))

-- `INCRV D,N`: D.V := D.V + N
unfoldable pub incrv : List Arg → Memory → MemoryEffect
incrv args m = do
  d ← place_at args 0
  n ← number_at args 1
  v ← v_at m d
  onward (set_v_at m d (pos v +ℤ n))

-- `MOVA D1,D2`: D1.A := D2.A
unfoldable pub mova : List Arg → Memory → MemoryEffect
mova args m = do
  d1 ← place_at args 0
  d2 ← place_at args 1
  a ← a_at m d2
  onward (set_a_at m d1 a)

-- `MOVD D1,D2`: D1 := D2
unfoldable pub movd : List Arg → Memory → MemoryEffect
movd args m = do
  d1 ← place_at args 0
  d2 ← place_at args 1
  value ← descr_at m d2
  onward (set_descr_at m d1 value)

-- `MOVDIC D1,N1,D2,N2`: [D1.A + N1] := [D2.A + N2]
unfoldable pub movdic : List Arg → Memory → MemoryEffect
movdic args m = do
  d1 ← place_at args 0
  n1 ← number_at args 1
  d2 ← place_at args 2
  n2 ← number_at args 3
  to ← a_at m d1
  from ← a_at m d2
  value ← descr_at m (from ⊞ n2)
  onward (set_descr_at m (to ⊞ n1) value)

-- `MOVV D1,D2`: D1.V := D2.V
unfoldable pub movv : List Arg → Memory → MemoryEffect
movv args m = do
  d1 ← place_at args 0
  d2 ← place_at args 1
  v ← v_at m d2
  onward (set_v_at m d1 (pos v))

-- `PUTAC D1,N,D2`: [D1.A + N].A := D2.A
unfoldable pub putac : List Arg → Memory → MemoryEffect
putac args m = do
  d1 ← place_at args 0
  n ← number_at args 1
  d2 ← place_at args 2
  at ← a_at m d1
  a ← a_at m d2
  onward (set_a_at m (at ⊞ n) a)

-- `PUTD D1,D2,D3`: [D1.A + D2.A] := D3
unfoldable pub putd : List Arg → Memory → MemoryEffect
putd args m = do
  d1 ← place_at args 0
  d2 ← place_at args 1
  d3 ← place_at args 2
  at ← a_at m d1
  n ← a_at m d2
  value ← descr_at m d3
  onward (set_descr_at m (at ⊞ n) value)

-- `PUTDC D1,N,D2`: [D1.A + N] := D2
unfoldable pub putdc : List Arg → Memory → MemoryEffect
putdc args m = do
  d1 ← place_at args 0
  n ← number_at args 1
  d2 ← place_at args 2
  at ← a_at m d1
  value ← descr_at m d2
  onward (set_descr_at m (at ⊞ n) value)

-- `PUTVC D1,N,D2`: [D1.A + N].V := D2.V
unfoldable pub putvc : List Arg → Memory → MemoryEffect
putvc args m = do
  d1 ← place_at args 0
  n ← number_at args 1
  d2 ← place_at args 2
  at ← a_at m d1
  v ← v_at m d2
  onward (set_v_at m (at ⊞ n) (pos v))

-- `RESETF D,F`: D.F := D.F without the bits of F
unfoldable pub resetf : List Arg → Memory → MemoryEffect
resetf args m = do
  d ← place_at args 0
  flags ← flag_at args 1
  f ← f_at m d
  onward (set_f_at m d (pos (bits_without f flags)))

-- `RSETFI D,F`: [D.A].F := itself without the bits of F
unfoldable pub rsetfi : List Arg → Memory → MemoryEffect
rsetfi args m = do
  d ← place_at args 0
  flags ← flag_at args 1
  at ← a_at m d
  f ← f_at m at
  onward (set_f_at m at (pos (bits_without f flags)))

-- `SETAC D,N`: D.A := N
unfoldable pub setac : List Arg → Memory → MemoryEffect
setac args m = do
  d ← place_at args 0
  n ← number_at args 1
  onward (set_a_at m d n)

-- `SETAV D1,D2`: D1 := (D2.V, 0, 0)
unfoldable pub setav : List Arg → Memory → MemoryEffect
setav args m = do
  d1 ← place_at args 0
  d2 ← place_at args 1
  v ← v_at m d2
  onward (set_descr_at m d1 (integer_alone (pos v)))

-- `SETF D,F`: D.F := D.F with the bits of F
unfoldable pub setf : List Arg → Memory → MemoryEffect
setf args m = do
  d ← place_at args 0
  flags ← flag_at args 1
  f ← f_at m d
  onward (set_f_at m d (pos (bit_or f flags)))

-- `SETFI D,F`: [D.A].F := itself with the bits of F
unfoldable pub setfi : List Arg → Memory → MemoryEffect
setfi args m = do
  d ← place_at args 0
  flags ← flag_at args 1
  at ← a_at m d
  f ← f_at m at
  onward (set_f_at m at (pos (bit_or f flags)))

-- `SETSIZ D1,D2`: [D1.A].V := D2.A
unfoldable pub setsiz : List Arg → Memory → MemoryEffect
setsiz args m = do
  d1 ← place_at args 0
  d2 ← place_at args 1
  at ← a_at m d1
  a ← a_at m d2
  onward (set_v_at m at a)

-- `SETVA D1,D2`: D1.V := D2.A
unfoldable pub setva : List Arg → Memory → MemoryEffect
setva args m = do
  d1 ← place_at args 0
  d2 ← place_at args 1
  a ← a_at m d2
  onward (set_v_at m d1 a)

-- `SETVC D,N`: D.V := N
unfoldable pub setvc : List Arg → Memory → MemoryEffect
setvc args m = do
  d ← place_at args 0
  n ← number_at args 1
  onward (set_v_at m d n)
