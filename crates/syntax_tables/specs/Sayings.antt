-- What a line of a tables file says.
use Rattle.std.specs.Prelude.{ℕ, ◌+◌, Bool, ◌&&◌, ◌==◌, nat_le, List, [], ◌∷◌, take, drop, codes, position, Option, Some, None, option_map, option_and_then, if◌then◌else◌}
use Rattle.std.specs.List.{list_any}
use Rattle.sil_base.specs.Names.{is_word, is_name, is_number, value_of}
use Rattle.sil_operands.specs.OperandReading.{each, operands_of}
use Rattle.sil_operands.specs.declared.expr.Term.{Term}
use Rattle.sil_operands.specs.declared.operand.Operand.{Operand}
use Rattle.sil_operands.specs.declared.operand.Operand.TheVariants as operand
use Rattle.syntax_tables.specs.TableTexts.{words_of, items_of, bracketed}
use Rattle.syntax_tables.specs.declared.class.Item.{Item}
use Rattle.syntax_tables.specs.declared.class.Item.TheVariants as item
use Rattle.syntax_tables.specs.declared.rule.Move.{Move}
use Rattle.syntax_tables.specs.declared.rule.Move.TheVariants as move
use Rattle.syntax_tables.specs.declared.rule.Rule.{Rule}
use Rattle.syntax_tables.specs.declared.saying.Saying.{Saying}
use Rattle.syntax_tables.specs.declared.saying.Saying.TheVariants as saying

-- ---- classes

-- the text, where operands are just one
abbrev pub one_text : List Operand → Option (List ℕ)
one_text (operand.Text text ∷ []) = Some text
one_text operands = None

-- a text in quotes, as operands have them
unfoldable pub text_in : List ℕ → Option (List ℕ)
text_in field = option_and_then one_text (operands_of field)

-- decimal digits with a value from 0 to 255
abbrev pub code_in : List ℕ → Option ℕ
code_in digits = if is_number digits && nat_le (value_of digits) 255 then Some (value_of digits) else None

-- two codes, the first not above the second
abbrev pub range_of : Option ℕ → Option ℕ → Option Item
range_of None last = None
range_of (Some first) None = None
range_of (Some first) (Some last) = if nat_le first last then Some (item.Codes first last) else None

-- a code, or a range of codes with a minus at this place
abbrev pub codes_in : Option ℕ → List ℕ → Option Item
codes_in None text = range_of (code_in text) (code_in text)
codes_in (Some at) text = range_of (code_in (take at text)) (code_in (drop (at + 1) text))

-- an item of a class: a text, a code, or a range
abbrev pub item_in : List ℕ → Option Item
item_in [] = None
item_in (c ∷ cs) = if c == 39 then option_map item.Text (text_in (c ∷ cs)) else codes_in (position (λ b. b == 45) (c ∷ cs)) (c ∷ cs)

-- a class: its items
unfoldable pub class_in : List ℕ → Option (List Item)
class_in text = each item_in (items_of text)

abbrev pub item_has : ℕ → Item → Bool
item_has c (item.Text text) = list_any (λ b. b == c) text
item_has c (item.Codes first last) = nat_le first c && nat_le c last

-- a character is in a class
abbrev pub class_has : ℕ → List Item → Bool
class_has c items = list_any (item_has c) items

-- ---- rules

-- the expression, where operands are just one
abbrev pub one_expression : List Operand → Option (List Term)
one_expression (operand.Expr terms ∷ []) = Some terms
one_expression operands = None

-- an expression, as operands have them
unfoldable pub expression_in : List ℕ → Option (List Term)
expression_in field = option_and_then one_expression (operands_of field)

-- the name of the next table
abbrev pub goto_in : List ℕ → Option Move
goto_in name = if is_name name then Some (move.Goto name) else None

-- an action
unfoldable pub move_in : List ℕ → Option Move
move_in word =
    if is_word word (codes "CONTIN") then Some move.Contin
    else if is_word word (codes "STOP") then Some move.Stop
    else if is_word word (codes "STOPSH") then Some move.Stopsh
    else if is_word word (codes "ERROR") then Some move.Error
    else option_and_then goto_in (bracketed (codes "GOTO(") word)

unfoldable pub put_in : List ℕ → Option (List Term)
put_in word = option_and_then expression_in (bracketed (codes "PUT(") word)

-- an action, which PUT with an expression may stand before
unfoldable pub rule_in : List (List ℕ) → Option Rule
rule_in [] = None
rule_in (action ∷ []) = option_map (λ m. record { put = None; action = m }) (move_in action)
rule_in (put ∷ action ∷ []) = option_and_then (λ e. option_map (λ m. record { put = Some e; action = m }) (move_in action)) (put_in put)
rule_in (x ∷ y ∷ z ∷ words) = None

-- ---- lines

-- just one word, a name
abbrev pub name_in : List (List ℕ) → Option (List ℕ)
name_in [] = None
name_in (name ∷ []) = if is_name name then Some name else None
name_in (name ∷ next ∷ words) = None

-- FOR of the class in this word
abbrev pub for_in : List ℕ → List (List ℕ) → Option Saying
for_in word words =
    option_and_then (λ class. option_map (saying.For class) (rule_in words)) (option_and_then class_in (bracketed (codes "FOR(") word))

abbrev pub said_by : List (List ℕ) → Option Saying
said_by [] = None
said_by (word ∷ words) =
    if is_word word (codes "BEGIN") then option_map saying.Begin (name_in words)
    else if is_word word (codes "END") then option_map saying.End (name_in words)
    else if is_word word (codes "ELSE") then option_map saying.Else (rule_in words)
    else for_in word words

-- what a line says, where it is of a form
unfoldable pub said_in : List ℕ → Option Saying
said_in line = said_by (words_of line)
