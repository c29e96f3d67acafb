-- The table of the macros that walk characters: their clauses, and the visits that these make.
use Rattle.std.specs.Prelude.{ℕ, zero, suc, ◌+◌, ◌-◌, ◌*◌, ◌^◌, ◌==◌, if◌then◌else◌, List, length, Bool, true, false, Option, Some, None, ℤ, pos}
use Rattle.sil_base.specs.declared.places.TheConstants.{FIRST_CELL}
use Rattle.sil_macros.specs.declared.names.Macro.{Macro}
use Rattle.sil_macros.specs.declared.names.Macro.TheVariants.{Apdsp, Date, Getbal, Intspc, Lexcmp, Rplace, Spcint, Trimsp, Varid}
use Rattle.sil_model.specs.declared.program.Arg.{Arg}
use Rattle.sil_model.specs.Access.{◌>>=◌, a_at, char_at}
use Rattle.sil_model.specs.Arguments.{place_at}
use Rattle.sil_model.specs.Effects.{Effect, on_memory, on_site, no_clause}
use Rattle.sil_model.specs.Integers.{◌⊞◌}
use Rattle.sil_model.specs.Memory.{Memory}
use Rattle.sil_model.specs.Sites.{Site}
use Rattle.sil_model.specs.Specifiers.{spec_at}
use Rattle.sil_model.specs.States.{State}
use Rattle.string_clauses.specs.Walks.{each, each_visits, walk_visits}
use Rattle.string_clauses.specs.StringClauses.{apdsp, balance_turn, compare_turn, copy_char, date, digit_turn, first_of, getbal, hash_turn, intspc, length_at, lexcmp, nothing_stands, pair_turn, positive, replace_turn, rplace, shorter, spcint, trim_turn, trimsp, varid}

-- whether a macro is one of these
abbrev pub is_of_string : Macro → Bool
is_of_string Apdsp = true
is_of_string Date = true
is_of_string Getbal = true
is_of_string Intspc = true
is_of_string Lexcmp = true
is_of_string Rplace = true
is_of_string Spcint = true
is_of_string Trimsp = true
is_of_string Varid = true
is_of_string _ = false

-- the address of the hidden buffer, which stands behind the static cells
abbrev pub hidden_of : Site → ℤ
hidden_of site = pos (FIRST_CELL + length site.program.cells * site.parameters.settings.sizes.descr)

unfoldable pub string_clause : Macro → Site → State → Effect
string_clause Apdsp = on_memory apdsp
string_clause Date = on_site (λ site m. date (hidden_of site) site.parameters.settings.date site.args m)
string_clause Getbal = on_memory getbal
string_clause Intspc = on_site (λ site m. intspc (hidden_of site) site.args m)
string_clause Lexcmp = on_memory lexcmp
string_clause Rplace = on_memory rplace
string_clause Spcint = on_site (λ site m. spcint site.program.specials.int_code site.args m)
string_clause Trimsp = on_memory trimsp
string_clause Varid = on_site (λ site m. varid site.parameters.settings.bucket_count site.args m)
string_clause _ = no_clause

-- ---- visits to characters

-- turns that were counted; there are none where a field isn't found
abbrev pub or_none : Option ℕ → ℕ
or_none None = 0
or_none (Some n) = n

abbrev pub apdsp_turns : List Arg → Memory → ℕ
apdsp_turns args m = or_none (do
  s1 ← place_at args 0
  s2 ← place_at args 1
  x ← spec_at m s1
  y ← spec_at m s2
  Some (each_visits (copy_char (x.a ⊞ x.o ⊞ pos x.l) (y.a ⊞ y.o)) 0 y.l m))

abbrev pub getbal_turns : List Arg → Memory → ℕ
getbal_turns args m = or_none (do
  s ← place_at args 0
  d ← place_at args 1
  l ← length_at m s
  a ← a_at m d
  at ← first_of (positive a) m s
  Some (walk_visits (balance_turn m (at ⊞ pos l)) 0 (positive a) 0))

abbrev pub lexcmp_turns : List Arg → Memory → ℕ
lexcmp_turns args m = or_none (do
  s1 ← place_at args 0
  s2 ← place_at args 1
  l1 ← length_at m s1
  l2 ← length_at m s2
  at1 ← first_of (shorter l1 l2) m s1
  at2 ← first_of (shorter l1 l2) m s2
  Some (walk_visits (compare_turn m at1 at2) 0 (shorter l1 l2) (l1, l2)))

-- the pairs that are read, and the characters that are replaced once all pairs are
abbrev pub replace_turns : ℤ → ℕ → Memory → Option (List (Option ℕ)) → ℕ
replace_turns at1 l1 m None = 0
replace_turns at1 l1 m (Some table) = each_visits (replace_turn table at1) 0 l1 m

abbrev pub rplace_turns : List Arg → Memory → ℕ
rplace_turns args m = or_none (do
  s1 ← place_at args 0
  s2 ← place_at args 1
  s3 ← place_at args 2
  l1 ← length_at m s1
  at1 ← first_of l1 m s1
  l2 ← length_at m s2
  at2 ← first_of l2 m s2
  l3 ← length_at m s3
  at3 ← first_of l3 m s3
  if l2 == l3 then Some (each_visits (pair_turn m at2 at3) 0 l2 nothing_stands + replace_turns at1 l1 m (each (pair_turn m at2 at3) 0 l2 nothing_stands)) else None)

-- a sign is visited once, and the digits behind it; a first digit is visited once
abbrev pub integer_visits : Memory → ℤ → ℕ → Option ℕ → ℕ
integer_visits m at n None = 1
integer_visits m at n (Some c) =
    if c == 45 then 1 + walk_visits (digit_turn m at (2 ^ 63)) 1 n 0
    else (if c == 43 then 1 + walk_visits (digit_turn m at (2 ^ 63 - 1)) 1 n 0 else walk_visits (digit_turn m at (2 ^ 63 - 1)) 0 (suc n) 0)

abbrev pub integer_turns : Memory → ℤ → ℕ → ℕ
integer_turns m at zero = 0
integer_turns m at (suc n) = integer_visits m at n (char_at m (at ⊞ pos 0))

abbrev pub spcint_turns : List Arg → Memory → ℕ
spcint_turns args m = or_none (do
  s ← place_at args 1
  l ← length_at m s
  at ← first_of l m s
  Some (integer_turns m at l))

abbrev pub trimsp_turns : List Arg → Memory → ℕ
trimsp_turns args m = or_none (do
  s2 ← place_at args 1
  s ← spec_at m s2
  Some (walk_visits (trim_turn m (s.a ⊞ s.o)) 0 s.l s.l))

abbrev pub varid_turns : List Arg → Memory → ℕ
varid_turns args m = or_none (do
  s ← place_at args 1
  l ← length_at m s
  at ← first_of l m s
  Some (each_visits (hash_turn m at) 0 l 0))

-- the visits that a clause makes to cells, characters, table entries and links; where two strings are walked, or one is read and written, each turn makes two. INTSPC counts 64 more and RPLACE 256 more
abbrev pub string_visits : Macro → Site → State → ℕ
string_visits Apdsp site s = 5 + 2 * apdsp_turns site.args s.memory
string_visits Date site s = 10
string_visits Getbal site s = 4 + getbal_turns site.args s.memory
string_visits Intspc site s = 87
string_visits Lexcmp site s = 4 + 2 * lexcmp_turns site.args s.memory
string_visits Rplace site s = 262 + 2 * rplace_turns site.args s.memory
string_visits Spcint site s = 3 + spcint_turns site.args s.memory
string_visits Trimsp site s = 4 + trimsp_turns site.args s.memory
string_visits Varid site s = 3 + varid_turns site.args s.memory
string_visits _ site s = 0
