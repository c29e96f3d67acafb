-- What the macros that walk characters do. None stands for a use that is undefined.
use Rattle.std.specs.Prelude.{ℕ, zero, suc, ◌+◌, ◌-◌, ◌*◌, ◌/◌, ◌%◌, ◌^◌, ◌==◌, ◌&&◌, nat_le, nat_lt, if◌then◌else◌, List, [], ◌∷◌, length, replicate, Bool, true, false, Option, Some, None, ℤ, pos, negsuc, neg_ℤ, slice_get, slice_set}
use Rattle.std.specs.Fmt.{signed_decimal}
use Rattle.std.specs.declared.ops.ControlFlow.{ControlFlow}
use Rattle.std.specs.declared.ops.ControlFlow.TheVariants.{Continue, Break}
use Rattle.sil_model.specs.declared.program.Arg.{Arg}
use Rattle.sil_model.specs.declared.program.Flow.{Flow}
use Rattle.sil_model.specs.Memory.{Memory}
use Rattle.sil_model.specs.Access.{◌>>=◌, a_at, v_at, set_v_at, set_whole_at, char_at, set_char_at}
use Rattle.sil_model.specs.Arguments.{place_at, goto_at}
use Rattle.sil_model.specs.Effects.{MemoryEffect, onward, leads}
use Rattle.sil_model.specs.Integers.{◌⊞◌, wrapped_product}
use Rattle.sil_model.specs.Specifiers.{spec_at, set_spec_at}
use Rattle.string_clauses.specs.Walks.{each, walk}

-- ---- characters of specifiers

-- the address of a second cell
abbrev pub second_of : Memory → ℤ → ℤ
second_of m s = s ⊞ pos m.limits.cell_size

-- the length of a specifier, which is the V field of its second cell
abbrev pub length_at : Memory → ℤ → Option ℕ
length_at m s = v_at m (second_of m s)

-- the address of the first character of a specifier; where no character is visited it isn't read
abbrev pub first_of : ℕ → Memory → ℤ → Option ℤ
first_of zero m s = Some (pos 0)
first_of (suc n) m s = do
  a ← a_at m s
  o ← a_at m (second_of m s)
  Some (a ⊞ o)

-- the characters from an address on, one by one
unfoldable pub chars_written : ℤ → List ℕ → Memory → Option Memory
chars_written at [] m = Some m
chars_written at (c ∷ cs) m = do
  m' ← set_char_at m at c
  chars_written (at ⊞ pos 1) cs m'

-- S := (an address, 0, 0, 0, a length)
abbrev pub set_text_at : Memory → ℤ → ℤ → ℕ → Option Memory
set_text_at m s at n = do
  m' ← set_whole_at m s at (pos 0) (pos 0)
  set_whole_at m' (second_of m s) (pos 0) (pos 0) (pos n)

-- ---- clauses

-- character i of one string to character i behind another
unfoldable pub copy_char : ℤ → ℤ → ℕ → Memory → Option Memory
copy_char to from i m = do
  c ← char_at m (from ⊞ pos i)
  set_char_at m (to ⊞ pos i) c

-- `APDSP S1,S2`: the characters of S2 behind those of S1, lowest first; then S1.L := S1.L + S2.L
unfoldable pub apdsp : List Arg → Memory → MemoryEffect
apdsp args m = do
  s1 ← place_at args 0
  s2 ← place_at args 1
  x ← spec_at m s1
  y ← spec_at m s2
  m' ← each (copy_char (x.a ⊞ x.o ⊞ pos x.l) (y.a ⊞ y.o)) 0 y.l m
  onward (set_v_at m' (second_of m s1) (pos (x.l + y.l)))

-- `DATE S`: the date into the hidden buffer; S := (its address, 0, 0, 0, 8)
unfoldable pub date : ℤ → List ℕ → List Arg → Memory → MemoryEffect
date hidden text args m = do
  s ← place_at args 0
  m' ← chars_written hidden text m
  onward (set_text_at m' s hidden (length text))

-- behind the j-th character, at a depth: the answer is j where it is 0
abbrev pub at_depth : ℕ → ℕ → ControlFlow (Option ℕ) ℕ
at_depth j zero = Break (Some j)
at_depth j (suc depth) = Continue (suc depth)

-- a `)` at depth 0 has no answer
abbrev pub closed : ℕ → ℕ → ControlFlow (Option ℕ) ℕ
closed j zero = Break None
closed j (suc depth) = at_depth j depth

abbrev pub balance : ℕ → ℕ → ℕ → ControlFlow (Option ℕ) ℕ
balance c j depth = if c == 41 then closed j depth else (if c == 40 then Continue (depth + 1) else at_depth j depth)

unfoldable pub balance_turn : Memory → ℤ → ℕ → ℕ → Option (ControlFlow (Option ℕ) ℕ)
balance_turn m at i depth = do
  c ← char_at m (at ⊞ pos i)
  Some (balance c (i + 1) depth)

-- characters that are left without an answer have none
abbrev pub unbalanced : ℕ → Option ℕ
unbalanced depth = None

-- so many characters may be visited
abbrev pub positive : ℤ → ℕ
positive (pos n) = n
positive (negsuc n) = 0

abbrev pub longer_by : Memory → ℤ → ℕ → Option ℕ → Flow → Flow → MemoryEffect
longer_by m s l None failure success = Some (failure, m)
longer_by m s l (Some j) failure success = leads success (set_v_at m (second_of m s) (pos (l + j)))

-- `GETBAL S,D,LF,LS`: S.L grows by the least number of characters behind S in which parentheses are balanced, of at most D.A
unfoldable pub getbal : List Arg → Memory → MemoryEffect
getbal args m = do
  s ← place_at args 0
  d ← place_at args 1
  failure ← goto_at args 2
  success ← goto_at args 3
  l ← length_at m s
  a ← a_at m d
  at ← first_of (positive a) m s
  found ← walk (balance_turn m (at ⊞ pos l)) unbalanced 0 (positive a) 0
  longer_by m s l found failure success

-- `INTSPC S,D`: the decimal text of D.A into the hidden buffer; S := (its address, 0, 0, 0, its length)
unfoldable pub intspc : ℤ → List Arg → Memory → MemoryEffect
intspc hidden args m = do
  s ← place_at args 0
  d ← place_at args 1
  a ← a_at m d
  m' ← chars_written hidden (signed_decimal a) m
  onward (set_text_at m' s hidden (length (signed_decimal a)))

-- characters i of two strings decide where they differ
unfoldable pub compare_turn : Memory → ℤ → ℤ → ℕ → ℕ × ℕ → Option (ControlFlow (ℕ × ℕ) (ℕ × ℕ))
compare_turn m at1 at2 i lengths = do
  x ← char_at m (at1 ⊞ pos i)
  y ← char_at m (at2 ⊞ pos i)
  Some (if x == y then Continue lengths else Break (x, y))

-- where none differ the lengths decide
abbrev pub all_equal : ℕ × ℕ → ℕ × ℕ
all_equal lengths = lengths

-- the first where x is greater, the second where they are equal, the third where it is less
abbrev pub by_numbers : ℕ × ℕ → Flow → Flow → Flow → Flow
by_numbers d greater equal less = if nat_lt d.1 d.0 then greater else (if nat_lt d.0 d.1 then less else equal)

abbrev pub shorter : ℕ → ℕ → ℕ
shorter x y = if nat_lt x y then x else y

-- `LEXCMP S1,S2,L1,L2,L3`: the characters in order of codes, pair by pair up to the first that differ; a proper prefix is less
unfoldable pub lexcmp : List Arg → Memory → MemoryEffect
lexcmp args m = do
  s1 ← place_at args 0
  s2 ← place_at args 1
  greater ← goto_at args 2
  equal ← goto_at args 3
  less ← goto_at args 4
  l1 ← length_at m s1
  l2 ← length_at m s2
  at1 ← first_of (shorter l1 l2) m s1
  at2 ← first_of (shorter l1 l2) m s2
  decided ← walk (compare_turn m at1 at2) all_equal 0 (shorter l1 l2) (l1, l2)
  Some (by_numbers decided greater equal less, m)

-- what stands for each character, where something does
abbrev pub nothing_stands : List (Option ℕ)
nothing_stands = replicate 256 None

unfoldable pub pair_turn : Memory → ℤ → ℤ → ℕ → List (Option ℕ) → Option (List (Option ℕ))
pair_turn m at2 at3 i table = do
  x ← char_at m (at2 ⊞ pos i)
  y ← char_at m (at3 ⊞ pos i)
  Some (slice_set table x (Some y))

abbrev pub replaced : Memory → ℤ → Option (Option ℕ) → Option Memory
replaced m at (Some (Some y)) = set_char_at m at y
replaced m at _ = Some m

unfoldable pub replace_turn : List (Option ℕ) → ℤ → ℕ → Memory → Option Memory
replace_turn table at i m = do
  c ← char_at m (at ⊞ pos i)
  replaced m (at ⊞ pos i) (slice_get table c)

-- the characters of the second and the third string, which are as many, are read, and then those of the first replaced
abbrev pub replaced_all : Memory → ℤ → ℕ → ℤ → ℕ → ℤ → ℕ → MemoryEffect
replaced_all m at1 l1 at2 l2 at3 l3 =
    if l2 == l3
    then (do
      table ← each (pair_turn m at2 at3) 0 l2 nothing_stands
      onward (each (replace_turn table at1) 0 l1 m))
    else None

-- `RPLACE S1,S2,S3`: the characters of S2 and S3, which are as many, are read; then, lowest first, each character of S1 that stands in S2 is replaced by the one of S3 at the last place where S2 has it
unfoldable pub rplace : List Arg → Memory → MemoryEffect
rplace args m = do
  s1 ← place_at args 0
  s2 ← place_at args 1
  s3 ← place_at args 2
  l1 ← length_at m s1
  at1 ← first_of l1 m s1
  l2 ← length_at m s2
  at2 ← first_of l2 m s2
  l3 ← length_at m s3
  at3 ← first_of l3 m s3
  replaced_all m at1 l1 at2 l2 at3 l3

-- a decimal digit goes behind those before, up to a limit; anything else has no answer
abbrev pub is_digit : ℕ → Bool
is_digit c = nat_le 48 c && nat_le c 57

abbrev pub digit_behind : ℕ → ℕ → ℕ → ControlFlow (Option ℕ) ℕ
digit_behind limit c n = if is_digit c && nat_le (10 * n + (c - 48)) limit then Continue (10 * n + (c - 48)) else Break None

unfoldable pub digit_turn : Memory → ℤ → ℕ → ℕ → ℕ → Option (ControlFlow (Option ℕ) ℕ)
digit_turn m at limit i n = do
  c ← char_at m (at ⊞ pos i)
  Some (digit_behind limit c n)

abbrev pub counted : ℕ → Option ℕ
counted n = Some n

abbrev pub digits_read : Memory → ℤ → ℕ → ℕ → ℕ → Option (Option ℕ)
digits_read m at limit i n = walk (digit_turn m at limit) counted i n 0

-- what a sign alone would be
abbrev pub behind_sign : ℕ → Option (Option ℕ) → Option (Option ℕ)
behind_sign zero o = Some None
behind_sign (suc n) o = o

abbrev pub signed : Bool → Option ℕ → Option ℤ
signed negative None = None
signed false (Some n) = Some (pos n)
signed true (Some n) = Some (neg_ℤ (pos n))

abbrev pub with_sign : Bool → Option (Option ℕ) → Option (Option ℤ)
with_sign negative o = do
  n ← o
  Some (signed negative n)

-- n characters and one more, of which the first is c: a sign or none, and digits, up to 2^63 below and 2^63 - 1 above 0
abbrev pub integer_from : Memory → ℤ → ℕ → ℕ → Option (Option ℤ)
integer_from m at n c =
    if c == 45 then with_sign true (behind_sign n (digits_read m at (2 ^ 63) 1 n))
    else (if c == 43 then with_sign false (behind_sign n (digits_read m at (2 ^ 63 - 1) 1 n)) else with_sign false (digits_read m at (2 ^ 63 - 1) 0 (suc n)))

unfoldable pub integer_read : Memory → ℤ → ℕ → Option (Option ℤ)
integer_read m at zero = Some (Some (pos 0))
integer_read m at (suc n) = do
  c ← char_at m (at ⊞ pos 0)
  integer_from m at n c

abbrev pub integer_set : Memory → ℤ → ℕ → Option ℤ → Flow → Flow → MemoryEffect
integer_set m d code None failure success = Some (failure, m)
integer_set m d code (Some a) failure success = leads success (set_whole_at m d a (pos 0) (pos code))

-- `SPCINT D,S,LF,LS`: D := (the integer that S spells, 0, the value of I)
unfoldable pub spcint : Option ℕ → List Arg → Memory → MemoryEffect
spcint int_code args m = do
  code ← int_code
  d ← place_at args 0
  s ← place_at args 1
  failure ← goto_at args 2
  success ← goto_at args 3
  l ← length_at m s
  at ← first_of l m s
  found ← integer_read m at l
  integer_set m d code found failure success

-- a blank at the end goes
abbrev pub trim_char : ℕ → ℕ → ControlFlow ℕ ℕ
trim_char left c = if c == 32 then Continue (left - 1) else Break left

unfoldable pub trim_turn : Memory → ℤ → ℕ → ℕ → Option (ControlFlow ℕ ℕ)
trim_turn m at i left = do
  c ← char_at m (at ⊞ pos (left - 1))
  Some (trim_char left c)

abbrev pub all_blank : ℕ → ℕ
all_blank left = left

-- `TRIMSP S1,S2`: S1 := S2 with the length lowered by the blanks at its end, walked from there
unfoldable pub trimsp : List Arg → Memory → MemoryEffect
trimsp args m = do
  s1 ← place_at args 0
  s2 ← place_at args 1
  s ← spec_at m s2
  l ← walk (trim_turn m (s.a ⊞ s.o)) all_blank 0 s.l s.l
  onward (set_spec_at m s1 (record s { l = l }))

unfoldable pub hash_turn : Memory → ℤ → ℕ → ℕ → Option ℕ
hash_turn m at i h = do
  c ← char_at m (at ⊞ pos i)
  Some ((131 * h + c) % 2 ^ 31)

-- `VARID D,S`: of the hash of the characters the bucket, as a distance, goes to A and what is above to V
unfoldable pub varid : ℕ → List Arg → Memory → MemoryEffect
varid buckets args m = do
  d ← place_at args 0
  s ← place_at args 1
  l ← length_at m s
  at ← first_of l m s
  h ← each (hash_turn m at) 0 l 0
  onward (set_whole_at m d (wrapped_product (pos m.limits.cell_size) (pos (h % buckets))) (pos 0) (pos (h / buckets % 32768)))
