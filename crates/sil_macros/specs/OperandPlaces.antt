-- The places of operands, by the letters of the table of macros.
use Rattle.std.specs.Prelude.{true, false}
use Rattle.sil_macros.specs.declared.shapes.Kind.{Kind}
use Rattle.sil_macros.specs.declared.shapes.Kind.TheVariants.{Descr, Spec, Number, Flag, Goto, Required, Table, Key, Text, Format, Descrs, Specs, Gotos, Free}
use Rattle.sil_macros.specs.declared.shapes.Place.{Place}

-- an operand that has to be there, and one that may be null
abbrev pub needed : Kind → Place
needed kind = record { kind = kind; optional = false }

abbrev pub maybe : Place → Place
maybe place = record place { optional = true }

-- the place of a descriptor
abbrev pub D : Place
D = needed Descr

-- the place of a specifier
abbrev pub S : Place
S = needed Spec

-- a number
abbrev pub N : Place
N = needed Number

-- a flag number
abbrev pub F : Place
F = needed Flag

-- a location, where null is the next statement
abbrev pub L : Place
L = maybe (needed Goto)

-- a location that has to be there
abbrev pub R : Place
R = needed Required

-- the name of a table
abbrev pub T : Place
T = needed Table

-- CONTIN, STOP, STOPSH or ERROR
abbrev pub K : Place
K = needed Key

-- a text
abbrev pub X : Place
X = needed Text

-- the name of a FORMAT statement
abbrev pub M : Place
M = needed Format

-- lists of places of descriptors, of places of specifiers, and of locations
abbrev pub DD : Place
DD = needed Descrs

abbrev pub SS : Place
SS = needed Specs

abbrev pub LL : Place
LL = maybe (needed Gotos)

-- an expression that is not used
abbrev pub E : Place
E = needed Free
