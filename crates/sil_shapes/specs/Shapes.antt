-- Whether operands have the shape of their macro.
use Rattle.std.specs.Prelude.{ℕ, List, [], ◌∷◌, codes, Option, Some, None, is_some, Bool, true, false, ◌&&◌, ◌||◌}
use Rattle.std.specs.List.{list_all}
use Rattle.sil_macros.specs.declared.names.Macro.{Macro}
use Rattle.sil_macros.specs.declared.shapes.Kind.{Kind}
use Rattle.sil_macros.specs.declared.shapes.Kind.TheVariants as kind
use Rattle.sil_macros.specs.declared.shapes.Place.{Place}
use Rattle.sil_macros.specs.MacroRows.{row}
use Rattle.sil_operands.specs.declared.expr.Term.{Term}
use Rattle.sil_operands.specs.declared.operand.Operand.{Operand}
use Rattle.sil_operands.specs.declared.operand.Operand.TheVariants.{Null, Expr, List as Listed, Text}
use Rattle.sil_base.specs.Names.{is_word}
use Rattle.sil_operands.specs.Simple.{named_alone, is_null}

-- what a table does at a character, but for going on with another table
abbrev pub is_key : List ℕ → Bool
is_key name = is_word name (codes "CONTIN") || is_word name (codes "STOP") || is_word name (codes "STOPSH") || is_word name (codes "ERROR")

abbrev pub names_key : Option (List ℕ) → Bool
names_key None = false
names_key (Some name) = is_key name

-- an expression in a place of this kind: where a table, a format or a key is named it is a single name without a minus
abbrev pub fits_expression : Kind → List Term → Bool
fits_expression kind.Table terms = is_some (named_alone terms)
fits_expression kind.Format terms = is_some (named_alone terms)
fits_expression kind.Key terms = names_key (named_alone terms)
fits_expression kind.Text terms = false
fits_expression _ terms = true

-- a list in a place of this kind: only in a list of locations an item may be nothing
abbrev pub fits_list : Kind → List (Option (List Term)) → Bool
fits_list kind.Descrs items = list_all is_some items
fits_list kind.Specs items = list_all is_some items
fits_list kind.Gotos items = true
fits_list _ items = false

abbrev pub takes_text : Kind → Bool
takes_text kind.Text = true
takes_text _ = false

-- an operand in its place: an expression in the place of a list stands for a list of one item
abbrev pub fits_place : Place → Operand → Bool
fits_place place Null = place.optional
fits_place place (Expr terms) = fits_expression place.kind terms
fits_place place (Listed items) = fits_list place.kind items
fits_place place (Text text) = takes_text place.kind

-- missing operands at the end are null, and null operands beyond the places aren't there
abbrev pub fits_places : List Place → List Operand → Bool
fits_places [] operands = list_all is_null operands
fits_places (place ∷ places) [] = place.optional && fits_places places []
fits_places (place ∷ places) (operand ∷ operands) = fits_place place operand && fits_places places operands

-- the operands have the macro's shape
unfoldable pub fits : Macro → List Operand → Bool
fits name operands = fits_places (row name).places operands
