-- The table of the macros of records: their clauses, and the visits that these make.
use Rattle.std.specs.Prelude.{ℕ, zero, suc, ◌+◌, ◌*◌, List, [], ◌∷◌, Bool, true, false, Option, Some, None, ℤ, pos}
use Rattle.sil_macros.specs.declared.names.Macro.{Macro}
use Rattle.sil_macros.specs.declared.names.Macro.TheVariants.{Stprnt, Stread}
use Rattle.sil_model.specs.declared.program.Arg.{Arg}
use Rattle.sil_model.specs.Access.{◌>>=◌, char_at, set_char_at}
use Rattle.sil_model.specs.Effects.{Effect, no_clause}
use Rattle.sil_model.specs.Integers.{◌⊞◌}
use Rattle.sil_model.specs.Memory.{Memory}
use Rattle.sil_model.specs.Sites.{Site}
use Rattle.sil_model.specs.States.{State}
use Rattle.string_clauses.specs.StringTable.{or_none}
use Rattle.string_clauses.specs.Walks.{one_more}
use Rattle.record_clauses.specs.RecordClauses.{Layout, blanks, chars_at, layout_of, string_of, stprnt, stread, to_read}

-- whether a macro is one of these
abbrev pub is_of_record : Macro → Bool
is_of_record Stprnt = true
is_of_record Stread = true
is_of_record _ = false

unfoldable pub record_clause : Macro → Site → State → Effect
record_clause Stprnt = λ site s. stprnt site.args s
record_clause Stread = λ site s. stread site.args s
record_clause _ = no_clause

-- ---- visits: the one that turns out undefined is counted

-- characters that are written from an address on
unfoldable pub written_visits : ℤ → List ℕ → Memory → ℕ
written_visits at [] m = 0
written_visits at (c ∷ cs) m = one_more (set_char_at m at c) (written_visits (at ⊞ pos 1) cs)

-- so many characters that are read
unfoldable pub chars_visits : Memory → ℤ → ℕ → ℕ
chars_visits m at zero = 0
chars_visits m at (suc n) = one_more (char_at m at) (λ c. chars_visits m (at ⊞ pos 1) n)

abbrev pub stread_turns : List Arg → Memory → ℕ
stread_turns args m = or_none (do
  r ← to_read args m
  Some (written_visits r.at (blanks r.count) m))

abbrev pub string_turns : Memory → Option (ℤ × ℕ) → ℕ
string_turns m None = 0
string_turns m (Some x) = chars_visits m x.0 x.1

-- the string is read once the text is
abbrev pub turns_behind : Option (List ℕ) → ℕ → ℕ
turns_behind None n = 0
turns_behind (Some text) n = n

abbrev pub layout_turns : List Arg → Memory → Option Layout → ℕ
layout_turns args m None = 0
layout_turns args m (Some f) = chars_visits m f.at f.size + turns_behind (chars_at m f.at f.size) (string_turns m (string_of args m))

abbrev pub stprnt_turns : List Arg → Memory → ℕ
stprnt_turns args m = layout_turns args m (layout_of args m)

-- the visits that a clause makes to cells, characters, table entries and links; STREAD may write a character twice
abbrev pub record_visits : Macro → Site → State → ℕ
record_visits Stprnt site s = 8 + stprnt_turns site.args s.memory
record_visits Stread site s = 4 + 2 * stread_turns site.args s.memory
record_visits _ site s = 0
