-- Labels, and where a name comes from.
use Rattle.std.specs.Prelude.{ℕ, List, [], ◌∷◌, Option, Some, None, Bool, true, false, not, ◌&&◌, ℤ, nat_eq}
use Rattle.std.specs.List.{position_from}
use Rattle.std.specs.Cmp.Lexicographic.{pointwise}
use Rattle.layout_params.specs.Parameters.{Parameters}
use Rattle.layout_params.specs.ParameterSymbols.{symbol_of}
use Rattle.sil_symbols.specs.declared.stmt.Stmt.{Stmt}
use Rattle.sil_symbols.specs.declared.origin.Origin.{Origin}
use Rattle.sil_symbols.specs.declared.origin.Origin.TheVariants.{Parameter, Label}
use Rattle.sil_symbols.specs.StatementParts.{part_of, is_unread}

abbrev pub is_empty : List ℕ → Bool
is_empty [] = true
is_empty (c ∷ cs) = false

-- the statement has a label, which names something
abbrev pub is_labelled : Stmt → Bool
is_labelled s = not (is_empty s.label) && not (is_unread (part_of s.name))

-- the statement defines this name
abbrev pub defines : List ℕ → Stmt → Bool
defines name s = is_labelled s && pointwise nat_eq name s.label

-- the place of the first statement that defines the name
abbrev pub labelled : List Stmt → List ℕ → Option ℕ
labelled statements name = position_from (defines name) 0 statements

-- the parameters come before the labels
abbrev pub origin_by : Option ℤ → Option ℕ → Option Origin
origin_by (Some value) place = Some (Parameter value)
origin_by None (Some place) = Some (Label place)
origin_by None None = None

-- where a symbol comes from; none where the name is no symbol
abbrev pub origin : Parameters → List Stmt → List ℕ → Option Origin
origin p statements name = origin_by (symbol_of p name) (labelled statements name)
