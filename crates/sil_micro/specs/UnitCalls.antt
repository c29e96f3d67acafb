-- Calls on units: 2 reads into the characters of its text, 3 writes values by the format that its text is, 4 rewinds, 5 backspaces and 6 ends the file.
use Rattle.std.specs.Prelude.{ℕ, zero, suc, List, [], ◌∷◌, length, map, Option, Some, None, Bool, true, false, is_some, ◌&&◌, ◌==◌, if◌then◌else◌, nat_le, ◌%◌, ℤ, pos, slice_get}
use Rattle.sil_base.specs.declared.limits.TheConstants.{MAX_FORMAT_BYTES, MAX_VALUE_CHARACTERS}
use Rattle.sil_format.specs.declared.value.Value.{Value}
use Rattle.sil_format.specs.declared.value.Value.TheVariants.{Number, Char}
use Rattle.unit_io.specs.Answers.{read_bytes}
use Rattle.unit_io.specs.Tapes.{TapeState}
use Rattle.sil_model.specs.Access.{◌>>=◌, char_at, set_char_at}
use Rattle.sil_model.specs.Integers.{◌⊞◌}
use Rattle.sil_model.specs.Memory.{Memory}
use Rattle.sil_micro.specs.declared.op.Text.{Text}
use Rattle.sil_micro.specs.declared.op.Text.TheVariants as text
use Rattle.sil_micro.specs.declared.op.Values.{Values}
use Rattle.sil_micro.specs.declared.op.Values.TheVariants as values
use Rattle.sil_micro.specs.MicroStates.{Setting, Micro, held}
use Rattle.sil_micro.specs.MicroWords.{unsigned}

-- so many characters from an address on, all in cells of characters
unfoldable pub chars_from : Memory → ℤ → ℕ → Option (List ℕ)
chars_from m at zero = Some []
chars_from m at (suc n) = do
  c ← char_at m at
  rest ← chars_from m (at ⊞ pos 1) n
  Some (c ∷ rest)

-- the characters that two registers say, the address and how many
abbrev pub has_chars : Micro → ℕ → ℕ → Bool
has_chars u at len = is_some (chars_from u.state.memory (held u.registers at) (unsigned (held u.registers len)))

abbrev pub is_format : Option (List ℕ) → Bool
is_format None = false
is_format (Some bytes) = nat_le (length bytes) MAX_FORMAT_BYTES

-- the text is one of the code's formats, or characters that are there
abbrev pub text_fits : Setting → Micro → ℕ → Text → Bool
text_fits g u call text.None = true
text_fits g u call (text.Format i) = is_format (slice_get g.formats i)
text_fits g u call (text.Chars at len) = (if call == 3 then nat_le (unsigned (held u.registers len)) MAX_FORMAT_BYTES else true) && has_chars u at len

abbrev pub values_fit : Micro → Values → Bool
values_fit u values.None = true
values_fit u (values.Words count) = true
values_fit u (values.Chars at len) = nat_le (unsigned (held u.registers len)) MAX_VALUE_CHARACTERS && has_chars u at len

-- the call can be made
unfoldable pub can_call : Setting → Micro → ℕ → Text → Values → Bool
can_call g u call text values = text_fits g u call text && values_fit u values

-- ---- what is handed to the unit

abbrev pub or_nothing : Option (List ℕ) → List ℕ
or_nothing None = []
or_nothing (Some bytes) = bytes

-- the characters that two registers say
abbrev pub chars_of : Micro → ℕ → ℕ → List ℕ
chars_of u at len = or_nothing (chars_from u.state.memory (held u.registers at) (unsigned (held u.registers len)))

abbrev pub text_of : Setting → Micro → Text → List ℕ
text_of g u text.None = []
text_of g u (text.Format i) = or_nothing (slice_get g.formats i)
text_of g u (text.Chars at len) = chars_of u at len

-- so many words from one on
abbrev pub words_from : (ℕ → ℤ) → ℕ → ℕ → List ℤ
words_from words i zero = []
words_from words i (suc n) = words i ∷ words_from words (suc i) n

abbrev pub values_of : Micro → Values → List Value
values_of u values.None = []
values_of u (values.Words count) = map Number (words_from u.scratch 0 count)
values_of u (values.Chars at len) = map Char (chars_of u at len)

-- ---- what a read leaves

-- the memory with these characters from an address on, all in cells that are there
unfoldable pub set_chars_from : Memory → ℤ → List ℕ → Option Memory
set_chars_from m at [] = Some m
set_chars_from m at (c ∷ cs) = do
  after ← set_char_at m at c
  set_chars_from after (at ⊞ pos 1) cs

-- a read leaves the record's first characters, as far as there is room, and behind them the old ones; a number of a record that is no byte counts by its lowest eight bits
abbrev pub chars_read : Micro → ℕ → ℕ → TapeState → List ℕ
chars_read u at len t = map (λ c. c % 256) (read_bytes t (chars_of u at len))
