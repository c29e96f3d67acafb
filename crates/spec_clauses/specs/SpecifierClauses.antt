-- What the macros on specifiers do. None stands for a use that is undefined. A specifier's second cell has its offset as A and its length as V.
use Rattle.std.specs.Prelude.{ℕ, zero, suc, Bool, true, false, ◌+◌, ◌*◌, ◌==◌, List, Option, Some, ℤ, pos, ◌+ℤ◌, ◌-ℤ◌, bit_and, nat_lt, if◌then◌else◌}
use Rattle.std.specs.Int.{w64, div_ceil, int_wrap}
use Rattle.layout_params.specs.declared.cell.Descr.{Descr as Descriptor}
use Rattle.sil_model.specs.declared.program.Arg.{Arg}
use Rattle.sil_model.specs.declared.program.Flow.{Flow}
use Rattle.sil_model.specs.Memory.{Memory}
use Rattle.sil_model.specs.Access.{◌>>=◌, descr_at, set_descr_at, a_at, set_a_at, v_at, set_v_at, integer_alone}
use Rattle.sil_model.specs.Arguments.{place_at, number_at, goto_at}
use Rattle.sil_model.specs.Effects.{MemoryEffect, onward, leads}
use Rattle.sil_model.specs.Integers.{◌⊞◌, within}
use Rattle.sil_model.specs.Sites.{Site}
use Rattle.sil_model.specs.Specifiers.{spec_at, set_spec_at}

-- ---- lengths, which a write keeps from 0 to the limit of V

-- the address of the second cell
abbrev pub second_cell : Memory → ℤ → ℤ
second_cell m s = s ⊞ pos m.limits.cell_size

abbrev pub length_at : Memory → ℤ → Option ℕ
length_at m s = v_at m (second_cell m s)

abbrev pub set_length_at : Memory → ℤ → ℤ → Option Memory
set_length_at m s length = set_v_at m (second_cell m s) length

-- `ADDLG S,D`: S.L := S.L + D.A
unfoldable pub addlg : List Arg → Memory → MemoryEffect
addlg args m = do
  s ← place_at args 0
  d ← place_at args 1
  l ← length_at m s
  n ← a_at m d
  onward (set_length_at m s (pos l +ℤ n))

-- the second cell with a number more as its offset, and as many characters less
abbrev pub shifted : Memory → ℤ → ℤ → Option Memory
shifted m at n = do
  o ← a_at m at
  l ← v_at m at
  m' ← set_a_at m at (o ⊞ n)
  set_v_at m' at (pos l -ℤ n)

-- `FSHRTN S,N`: S.O := S.O + N, and S.L := S.L - N
unfoldable pub fshrtn : List Arg → Memory → MemoryEffect
fshrtn args m = do
  s ← place_at args 0
  n ← number_at args 1
  onward (shifted m (second_cell m s) n)

-- `GETLG D,S`: D := (S.L, 0, 0)
unfoldable pub getlg : List Arg → Memory → MemoryEffect
getlg args m = do
  d ← place_at args 0
  s ← place_at args 1
  l ← length_at m s
  onward (set_descr_at m d (integer_alone (pos l)))

-- `PUTLG S,D`: S.L := D.A
unfoldable pub putlg : List Arg → Memory → MemoryEffect
putlg args m = do
  s ← place_at args 0
  d ← place_at args 1
  n ← a_at m d
  onward (set_length_at m s n)

-- `SETLC S,N`: S.L := N
unfoldable pub setlc : List Arg → Memory → MemoryEffect
setlc args m = do
  s ← place_at args 0
  n ← number_at args 1
  onward (set_length_at m s n)

-- `SHORTN S,N`: S.L := S.L - N
unfoldable pub shortn : List Arg → Memory → MemoryEffect
shortn args m = do
  s ← place_at args 0
  n ← number_at args 1
  l ← length_at m s
  onward (set_length_at m s (pos l -ℤ n))

-- ---- whole specifiers

-- `GETSPC S,D,N`: S := the specifier at D.A + N
unfoldable pub getspc : List Arg → Memory → MemoryEffect
getspc args m = do
  s ← place_at args 0
  d ← place_at args 1
  n ← number_at args 2
  at ← a_at m d
  x ← spec_at m (at ⊞ n)
  onward (set_spec_at m s x)

abbrev pub is_zero : ℤ → Bool
is_zero (pos zero) = true
is_zero _ = false

-- S := the specifier of a title: its own fields, an offset of four cells, and the length that the V field at its A says
abbrev pub titled : Memory → ℤ → Descriptor → MemoryEffect
titled m s title = do
  l ← v_at m title.a
  onward (set_spec_at m s (record { a = title.a; f = title.f; v = title.v; o = pos (4 * m.limits.cell_size); l = l }))

-- `LOCSP S,D`: where D.A is 0, S.L := 0; else S := (D.A, D.F, D.V, 4 cells, [D.A].V)
unfoldable pub locsp : List Arg → Memory → MemoryEffect
locsp args m = do
  s ← place_at args 0
  d ← place_at args 1
  title ← descr_at m d
  if is_zero title.a then onward (set_length_at m s (pos 0)) else titled m s title

-- `PUTSPC D,N,S`: the specifier at D.A + N := S
unfoldable pub putspc : List Arg → Memory → MemoryEffect
putspc args m = do
  d ← place_at args 0
  n ← number_at args 1
  s ← place_at args 2
  at ← a_at m d
  x ← spec_at m s
  onward (set_spec_at m (at ⊞ n) x)

-- `REMSP S1,S2,S3`: S1 := (S2.A, S2.F, S2.V, S2.O + S3.L, S2.L - S3.L)
unfoldable pub remsp : List Arg → Memory → MemoryEffect
remsp args m = do
  s1 ← place_at args 0
  s2 ← place_at args 1
  s3 ← place_at args 2
  x ← spec_at m s2
  n ← length_at m s3
  l ← within m.limits.value_limit (pos x.l -ℤ pos n)
  onward (set_spec_at m s1 (record x { o = x.o ⊞ pos n; l = l }))

-- `SETSP S1,S2`: S1 := S2
unfoldable pub setsp : List Arg → Memory → MemoryEffect
setsp args m = do
  s1 ← place_at args 0
  s2 ← place_at args 1
  x ← spec_at m s2
  onward (set_spec_at m s1 x)

-- `SUBSP S1,S2,S3,LF,LS`: LF where S3.L is below S2.L; else S1 := (S3.A, S3.F, S3.V, S3.O, S2.L), to LS
abbrev pub cut_to : Memory → ℤ → ℤ → ℕ → Flow → MemoryEffect
cut_to m s1 s3 l success = do
  x ← spec_at m s3
  leads success (set_spec_at m s1 (record x { l = l }))

unfoldable pub subsp : List Arg → Memory → MemoryEffect
subsp args m = do
  s1 ← place_at args 0
  s2 ← place_at args 1
  s3 ← place_at args 2
  failure ← goto_at args 3
  success ← goto_at args 4
  l ← length_at m s2
  most ← length_at m s3
  if nat_lt most l then Some (failure, m) else cut_to m s1 s3 l success

-- ---- sizes of blocks of storage

-- the greater of an integer and 1
abbrev pub at_least_one : ℤ → ℕ
at_least_one (pos (suc n)) = suc n
at_least_one _ = 1

-- the bytes of so many cells, and of those that so many characters take, which are one at least
unfoldable pub string_size : ℕ → ℕ → ℤ → ℕ
string_size size cells length = size * (cells + div_ceil (at_least_one length) size)

-- the size of the block with a title: of a string, where its flags have the one of string titles; else of so many bytes behind the title
abbrev pub block_size : ℕ → ℕ → Descriptor → ℕ
block_size flag size title = if bit_and title.f flag == flag then string_size size 4 (pos title.v) else title.v + size

-- an exact number as an A field holds it, modulo 2^64
abbrev pub wrapped_alone : ℕ → Descriptor
wrapped_alone n = integer_alone (int_wrap w64 (pos n))

-- `BKSIZE D1,D2` with t = [D2.A], where the flag of string titles is this: D1 := (d * (4 + max(t.V, 1) / d rounded up), 0, 0) where t.F has it, else (t.V + d, 0, 0)
unfoldable pub sized_block : ℕ → List Arg → Memory → MemoryEffect
sized_block flag args m = do
  d1 ← place_at args 0
  d2 ← place_at args 1
  at ← a_at m d2
  title ← descr_at m at
  onward (set_descr_at m d1 (wrapped_alone (block_size flag m.limits.cell_size title)))

abbrev pub bksize : Site → Memory → MemoryEffect
bksize site m = sized_block site.parameters.settings.string_title_flag site.args m

-- `GETLTH D1,D2`: D1 := (d * (3 + max(D2.A, 1) / d rounded up), 0, 0)
unfoldable pub getlth : List Arg → Memory → MemoryEffect
getlth args m = do
  d1 ← place_at args 0
  d2 ← place_at args 1
  n ← a_at m d2
  onward (set_descr_at m d1 (wrapped_alone (string_size m.limits.cell_size 3 n)))
