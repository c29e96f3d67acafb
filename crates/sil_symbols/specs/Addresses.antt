-- The cells of statements, and the addresses of labels.
use Rattle.std.specs.Prelude.{ℕ, ◌+◌, ◌*◌, List, [], ◌∷◌, length, Option, Some, None, option_and_then, unwrap_or, false, true, nat_le, if◌then◌else◌, pos, negsuc}
use Rattle.std.specs.Int.{div_ceil}
use Rattle.sil_operands.specs.declared.operand.Operand.{Operand}
use Rattle.sil_operands.specs.declared.operand.Operand.TheVariants.{Null, Expr, List as Listed, Text}
use Rattle.sil_symbols.specs.declared.addresses.Spot.{Spot}
use Rattle.sil_base.specs.declared.places.TheConstants.{FIRST_CELL, FIRST_ENTRY}
use Rattle.sil_base.specs.declared.limits.TheConstants.{MAX_CELLS}
use Rattle.sil_symbols.specs.declared.outcome.Outcome.{Outcome}
use Rattle.sil_symbols.specs.declared.outcome.Outcome.TheVariants.{Value, NoValue, Circular}
use Rattle.sil_symbols.specs.declared.part.Part.{Part}
use Rattle.sil_symbols.specs.declared.part.Part.TheVariants.{Equation, Here, Unread, End, Descriptors, Array, Buffer, String, Format, Executable}
use Rattle.sil_symbols.specs.declared.stmt.Stmt.{Stmt}
use Rattle.sil_symbols.specs.StatementParts.{part_of}
use Rattle.sil_symbols.specs.Expressions.{bounded, outcome_of}
use Rattle.sil_symbols.specs.NameValues.{first_expression}

-- a size is a number from 0 to 1,048,576
abbrev pub size_in : Outcome → Option ℕ
size_in (Value (pos n)) = if nat_le n MAX_CELLS then Some n else None
size_in (Value (negsuc n)) = None
size_in NoValue = None
size_in Circular = None

-- the size of an ARRAY or a BUFFER
abbrev pub size_of : (List ℕ → Outcome) → Stmt → Option ℕ
size_of names s = option_and_then (λ terms. size_in (outcome_of names terms)) (first_expression s.operands)

-- the length of the text of a STRING or a FORMAT
abbrev pub text_length : List Operand → ℕ
text_length [] = 0
text_length (Null ∷ operands) = 0
text_length (Expr terms ∷ operands) = 0
text_length (Listed items ∷ operands) = 0
text_length (Text text ∷ operands) = length text

-- the cells of a statement, by the bytes of a descriptor, its size and the length of its text
abbrev pub part_cells : ℕ → ℕ → ℕ → Part → ℕ
part_cells descr size text (Descriptors n) = n
part_cells descr size text Array = size
part_cells descr size text Buffer = div_ceil size descr
part_cells descr size text String = 2 + div_ceil text descr
part_cells descr size text Format = div_ceil text descr
part_cells descr size text Equation = 0
part_cells descr size text Here = 0
part_cells descr size text Unread = 0
part_cells descr size text End = 0
part_cells descr size text Executable = 0

-- a statement without a size has no cells
abbrev pub cells_of : ℕ → (List ℕ → Outcome) → Stmt → ℕ
cells_of descr names s = part_cells descr (unwrap_or (size_of names s) 0) (text_length s.operands) (part_of s.name)

-- after a statement of so many cells
abbrev pub past_part : Spot → ℕ → Part → Spot
past_part spot n Equation = spot
past_part spot n Here = spot
past_part spot n Unread = spot
past_part spot n End = spot
past_part spot n Executable = record spot { statements = spot.statements + 1; in_data = false }
past_part spot n _ = record spot { cells = spot.cells + n; in_data = true }

abbrev pub past : ℕ → (List ℕ → Outcome) → Spot → Stmt → Spot
past descr names spot s = past_part spot (cells_of descr names s) (part_of s.name)

-- the address of a cell, and the entry of an executable statement, by their numbers
abbrev pub cell_address : ℕ → ℕ → Outcome
cell_address descr n = bounded (pos (FIRST_CELL + n * descr))

abbrev pub entry : ℕ → ℕ → Outcome
entry descr n = bounded (pos (FIRST_ENTRY + n * descr))

-- the value of a label before which so many cells and statements stand, by the kind of what stands nearest before it
abbrev pub label_address : ℕ → Spot → Part → Outcome
label_address descr spot Equation = NoValue
label_address descr spot Unread = NoValue
label_address descr spot End = NoValue
label_address descr spot Executable = entry descr spot.statements
label_address descr spot Here = if spot.in_data then cell_address descr spot.cells else entry descr spot.statements
label_address descr spot _ = cell_address descr spot.cells

abbrev pub addresses_from : ℕ → (List ℕ → Outcome) → Spot → List Stmt → List Outcome
addresses_from descr names spot [] = []
addresses_from descr names spot (s ∷ statements) =
    label_address descr spot (part_of s.name) ∷ addresses_from descr names (past descr names spot s) statements

-- what stands before the place after all of them
abbrev pub spot_after : ℕ → (List ℕ → Outcome) → Spot → List Stmt → Spot
spot_after descr names spot [] = spot
spot_after descr names spot (s ∷ statements) = spot_after descr names (past descr names spot s) statements

-- nothing stands before the first, and the kind is code
abbrev pub first_spot : Spot
first_spot = record { cells = 0; statements = 0; in_data = false }
