-- The operands of a field, as a function: the field is cut into parts, and each part is read. That it reads just what
-- the grammar spells within the limits is proved.
use Rattle.std.specs.Prelude.{◌≡◌, ℕ, List, [], ◌∷◌, length, Option, Some, None, Bool, true, false, ◌&&◌, ◌||◌, ◌==◌, if◌then◌else◌, option_and_then, Result, MatchResult}
use Rattle.std.specs.Option.{option_map}
use Rattle.std.specs.List.{slice_split, onto_first}
use Rattle.sil_base.specs.Names.{is_name, is_number, value_of}
use Rattle.sil_operands.specs.OperandGrammar.{field_text}
use Rattle.sil_operands.specs.Limits.{Limits, card_limits}
use Rattle.sil_operands.specs.declared.cutting.Place.{Place}
use Rattle.sil_operands.specs.declared.cutting.Place.TheVariants.{Outside, Within, Quoted}
use Rattle.sil_operands.specs.declared.expr.Factor.{Factor}
use Rattle.sil_operands.specs.declared.expr.Factor.TheVariants.{Name, Number}
use Rattle.sil_operands.specs.declared.expr.Term.{Term}
use Rattle.sil_operands.specs.declared.operand.OperandFault.{OperandFault}
use Rattle.sil_operands.specs.declared.operand.OperandFault.TheVariants.{Bad}
use Rattle.sil_operands.specs.declared.operand.Operand.{Operand}
use Rattle.sil_operands.specs.declared.operand.Operand.TheVariants.{Null, Expr, List as Listed, Text}

-- the parts between bytes of this value, of which there is always one
abbrev pub parts_at : ℕ → List ℕ → List (List ℕ)
parts_at separator text = slice_split (λ c. c == separator) text

-- an answer is what is read, or Bad where nothing is read; want of memory is free
abbrev pub Answers : {A : Type 0} → Result A OperandFault → Option A → Type 0
Answers answer read = MatchResult answer (λ x. read ≡ Some x) (λ e. e ≡ Bad → read ≡ None)

-- what is read of each part, where something is read of every part
abbrev pub each : {A B : Type 0} → (A → Option B) → List A → Option (List B)
each read [] = Some []
each read (part ∷ parts) = option_and_then (λ x. option_map (λ xs. x ∷ xs) (each read parts)) (read part)

abbrev pub factor_in : Limits → List ℕ → Option Factor
factor_in limits bytes =
    if is_name bytes then Some (Name bytes)
    else if is_number bytes && limits.number (value_of bytes) then Some (Number (value_of bytes))
    else None

-- a term by its sign and its text
abbrev pub term_in : Limits → Bool × List ℕ → Option Term
term_in limits part = option_map (λ factors. record { minus = part.0; factors = factors }) (each (factor_in limits) (parts_at 42 part.1))

abbrev pub is_sign : ℕ → Bool
is_sign c = c == 43 || c == 45

-- the byte stands at the front of the first part
abbrev pub onto_first_part : ℕ → List (Bool × List ℕ) → List (Bool × List ℕ)
onto_first_part c [] = []
onto_first_part c (part ∷ parts) = (part.0, c ∷ part.1) ∷ parts

-- the parts of an expression, each with the sign before it, by the sign of the first
abbrev pub signed_parts : Bool → List ℕ → List (Bool × List ℕ)
signed_parts minus [] = (minus, []) ∷ []
signed_parts minus (c ∷ cs) = if is_sign c then (minus, []) ∷ signed_parts (c == 45) cs else onto_first_part c (signed_parts minus cs)

-- the same, where a sign may stand first
abbrev pub terms_of : List ℕ → List (Bool × List ℕ)
terms_of [] = signed_parts false []
terms_of (c ∷ cs) = if is_sign c then signed_parts (c == 45) cs else signed_parts false (c ∷ cs)

abbrev pub expr_in : Limits → List ℕ → Option (List Term)
expr_in limits bytes = each (term_in limits) (terms_of bytes)

abbrev pub item_in : Limits → List ℕ → Option (Option (List Term))
item_in limits [] = Some None
item_in limits (c ∷ cs) = option_map Some (expr_in limits (c ∷ cs))

-- the items between the brackets of a list
abbrev pub items_in : Limits → List ℕ → Option (List (Option (List Term)))
items_in limits inner = if limits.items (length (parts_at 44 inner)) then each (item_in limits) (parts_at 44 inner) else None

-- the bytes before a bracket that stands last
abbrev pub before_bracket : List ℕ → Option (List ℕ)
before_bracket [] = None
before_bracket (c ∷ []) = if c == 41 then Some [] else None
before_bracket (c ∷ d ∷ cs) = option_map (λ rest. c ∷ rest) (before_bracket (d ∷ cs))

-- the items of a list whose first bracket stands before these bytes
abbrev pub list_in : Limits → List ℕ → Option (List (Option (List Term)))
list_in limits bytes = option_and_then (items_in limits) (before_bracket bytes)

-- the text whose first quote stands before these bytes; whether a quote was just met that is the last one or the first of two
abbrev pub text_in : Bool → List ℕ → Option (List ℕ)
text_in false [] = None
text_in true [] = Some []
text_in false (c ∷ cs) = if c == 39 then text_in true cs else option_map (λ text. c ∷ text) (text_in false cs)
text_in true (c ∷ cs) = if c == 39 then option_map (λ text. c ∷ text) (text_in false cs) else None

abbrev pub operand_in : Limits → List ℕ → Option Operand
operand_in limits [] = Some Null
operand_in limits (c ∷ cs) =
    if c == 39 then option_map Text (text_in false cs)
    else if c == 40 then option_map Listed (list_in limits cs)
    else option_map Expr (expr_in limits (c ∷ cs))

-- the place after a byte
abbrev pub place_after : Place → ℕ → Place
place_after Outside c = if c == 40 then Within else if c == 39 then Quoted else Outside
place_after Within c = if c == 41 then Outside else Within
place_after Quoted c = if c == 39 then Outside else Quoted

-- a comma outside separates operands
abbrev pub separates : Place → ℕ → Bool
separates Outside c = c == 44
separates Within c = false
separates Quoted c = false

-- the parts of a field between the commas that separate operands
abbrev pub operand_parts : Place → List ℕ → List (List ℕ)
operand_parts place [] = [] ∷ []
operand_parts place (c ∷ cs) = if separates place c then [] ∷ operand_parts Outside cs else onto_first c (operand_parts (place_after place c) cs)

-- the operands of a field, where they keep to the limits
abbrev pub operands_in : Limits → List ℕ → Option (List Operand)
operands_in limits field = each (operand_in limits) (operand_parts Outside (field_text field))

-- the operands of a card's field
abbrev pub operands_of : List ℕ → Option (List Operand)
operands_of field = operands_in card_limits field
