-- The grammar of operand fields: which bytes spell which operands, a definition for each production.
-- 39 is the quote, 40 and 41 the brackets, 42 the star, 43 the plus, 44 the comma and 45 the minus.
use Rattle.std.specs.Prelude.{◌≡◌, ℕ, List, [], ◌∷◌, ◌++◌, Option, Some, None, Bool, false, ◌⊎◌, IsTrue, if◌then◌else◌, ◌==◌}
use Rattle.sil_base.specs.Names.{is_name, is_number, value_of}
use Rattle.sil_operands.specs.declared.expr.Factor.{Factor}
use Rattle.sil_operands.specs.declared.expr.Factor.TheVariants.{Name, Number}
use Rattle.sil_operands.specs.declared.expr.Term.{Term}
use Rattle.sil_operands.specs.declared.operand.Operand.{Operand}
use Rattle.sil_operands.specs.declared.operand.Operand.TheVariants.{Null, Expr, List as Listed, Text}

-- one thing, then any number of a byte and a thing; what spells a thing is given
abbrev pub SpellsSeparated : {A : Type 0} → (List ℕ → A → Type 0) → ℕ → List ℕ → List A → Type 0
SpellsSeparated Spells byte bytes [] = ⊥
SpellsSeparated Spells byte bytes (x ∷ []) = Spells bytes x
SpellsSeparated Spells byte bytes (x ∷ y ∷ xs) = (first : List ℕ) × (rest : List ℕ) × (bytes ≡ first ++ byte ∷ rest) × Spells first x × SpellsSeparated Spells byte rest (y ∷ xs)

-- a factor: a name, or decimal digits
abbrev pub SpellsFactor : List ℕ → Factor → Type 0
SpellsFactor bytes (Name name) = (bytes ≡ name) × IsTrue (is_name bytes)
SpellsFactor bytes (Number n) = IsTrue (is_number bytes) × (n ≡ value_of bytes)

-- a term without its sign: a factor, then any number of * and a factor
abbrev pub SpellsTerm : List ℕ → Term → Type 0
SpellsTerm bytes term = SpellsSeparated SpellsFactor 42 bytes term.factors

-- the byte of a sign
abbrev pub sign_of : Bool → ℕ
sign_of minus = if minus then 45 else 43

-- any number of + or - and a term
abbrev pub SpellsMoreTerms : List ℕ → List Term → Type 0
SpellsMoreTerms bytes [] = bytes ≡ []
SpellsMoreTerms bytes (term ∷ terms) =
    (text : List ℕ) × (rest : List ℕ) × (bytes ≡ sign_of term.minus ∷ (text ++ rest)) × SpellsTerm text term × SpellsMoreTerms rest terms

-- an optional + or -, which is the sign of the first term
abbrev pub SpellsFirstSign : List ℕ → Bool → Type 0
SpellsFirstSign bytes minus = (bytes ≡ sign_of minus ∷ []) ⊎ ((bytes ≡ []) × (minus ≡ false))

-- an expression: an optional + or -, a term, then any number of + or - and a term
abbrev pub SpellsExpr : List ℕ → List Term → Type 0
SpellsExpr bytes [] = ⊥
SpellsExpr bytes (term ∷ terms) =
    (sign : List ℕ) × (text : List ℕ) × (rest : List ℕ) × (bytes ≡ sign ++ (text ++ rest)) × SpellsFirstSign sign term.minus × SpellsTerm text term × SpellsMoreTerms rest terms

-- an item: nothing, or an expression
abbrev pub SpellsItem : List ℕ → Option (List Term) → Type 0
SpellsItem bytes None = bytes ≡ []
SpellsItem bytes (Some terms) = SpellsExpr bytes terms

-- the bytes of a text between its quotes: two quotes stand for one
abbrev pub quoted : List ℕ → List ℕ
quoted [] = []
quoted (c ∷ cs) = if c == 39 then 39 ∷ 39 ∷ quoted cs else c ∷ quoted cs

-- an operand: nothing, an expression, a list in brackets, or a text in quotes
abbrev pub SpellsOperand : List ℕ → Operand → Type 0
SpellsOperand bytes Null = bytes ≡ []
SpellsOperand bytes (Expr terms) = SpellsExpr bytes terms
SpellsOperand bytes (Listed items) = (inner : List ℕ) × (bytes ≡ 40 ∷ (inner ++ 41 ∷ [])) × SpellsSeparated SpellsItem 44 inner items
SpellsOperand bytes (Text text) = bytes ≡ 39 ∷ (quoted text ++ 39 ∷ [])

-- a field that is just a comma is empty
abbrev pub field_text : List ℕ → List ℕ
field_text [] = []
field_text (c ∷ []) = if c == 44 then [] else c ∷ []
field_text (c ∷ d ∷ cs) = c ∷ d ∷ cs

-- a field: an operand, then any number of , and an operand
abbrev pub SpellsOperands : List ℕ → List Operand → Type 0
SpellsOperands field operands = SpellsSeparated SpellsOperand 44 (field_text field) operands
