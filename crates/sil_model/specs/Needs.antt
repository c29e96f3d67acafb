-- The special symbols that macros need.
use Rattle.std.specs.Prelude.{Bool, true, ◌&&◌, is_some}
use Rattle.sil_macros.specs.declared.names.Macro.{Macro}
use Rattle.sil_macros.specs.declared.names.Macro.TheVariants.{Init, Pop, Push, Rcall, Spcint, Spop, Spush, Stream}
use Rattle.sil_model.specs.declared.program.Specials.{Specials}

-- OVER where the stack grows, INTR10 where it shrinks, and the symbols that STREAM, INIT and SPCINT name
abbrev pub has_needed : Specials → Macro → Bool
has_needed specials Rcall = is_some specials.over
has_needed specials Push = is_some specials.over
has_needed specials Spush = is_some specials.over
has_needed specials Pop = is_some specials.under
has_needed specials Spop = is_some specials.under
has_needed specials Stream = is_some specials.stype
has_needed specials Init = is_some specials.first && is_some specials.head && is_some specials.tail
has_needed specials Spcint = is_some specials.int_code
has_needed specials _ = true
