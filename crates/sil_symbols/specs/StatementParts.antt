-- What the card of a macro is in a source.
use Rattle.std.specs.Prelude.{Bool, true, false}
use Rattle.sil_macros.specs.declared.names.Macro.{Macro}
use Rattle.sil_macros.specs.declared.names.Macro.TheVariants as macros
use Rattle.sil_symbols.specs.declared.part.Part.{Part}
use Rattle.sil_symbols.specs.declared.part.Part.TheVariants.{Equation, Here, Unread, End, Descriptors, Array, Buffer, String, Format, Executable}

-- the eleven assembly macros, of which TITLE, COPY and END name nothing and have no operands; all others are executable
abbrev pub part_of : Macro → Part
part_of macros.Equ = Equation
part_of macros.Lhere = Here
part_of macros.Title = Unread
part_of macros.Copy = Unread
part_of macros.End = End
part_of macros.Descr = Descriptors 1
part_of macros.Spec = Descriptors 2
part_of macros.Array = Array
part_of macros.Buffer = Buffer
part_of macros.String = String
part_of macros.Format = Format
part_of _ = Executable

abbrev pub is_equation : Part → Bool
is_equation Equation = true
is_equation _ = false

abbrev pub is_end : Part → Bool
is_end End = true
is_end _ = false

-- the card names nothing, and its operands aren't read
abbrev pub is_unread : Part → Bool
is_unread Unread = true
is_unread End = true
is_unread _ = false

-- the first operand of ARRAY and BUFFER is a size
abbrev pub takes_size : Part → Bool
takes_size Array = true
takes_size Buffer = true
takes_size _ = false

abbrev pub is_format : Part → Bool
is_format Format = true
is_format _ = false

-- a data statement, and an executable one
abbrev pub is_data : Part → Bool
is_data (Descriptors n) = true
is_data Array = true
is_data Buffer = true
is_data String = true
is_data Format = true
is_data _ = false

abbrev pub is_executable : Part → Bool
is_executable Executable = true
is_executable _ = false
