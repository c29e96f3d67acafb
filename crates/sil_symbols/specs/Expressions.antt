-- Values of expressions, over exact integers whose intermediate values have 64 bits.
use Rattle.std.specs.Prelude.{ℕ, ◌^◌, List, [], ◌∷◌, Bool, true, false, nat_lt, if◌then◌else◌, ℤ, pos, negsuc, ◌+ℤ◌, ◌-ℤ◌, ◌*ℤ◌}
use Rattle.std.specs.List.{list_any}
use Rattle.sil_operands.specs.declared.expr.Factor.{Factor}
use Rattle.sil_operands.specs.declared.expr.Factor.TheVariants.{Name, Number}
use Rattle.sil_operands.specs.declared.expr.Term.{Term}
use Rattle.sil_symbols.specs.declared.outcome.Outcome.{Outcome}
use Rattle.sil_symbols.specs.declared.outcome.Outcome.TheVariants.{Value, NoValue, Circular}

-- from -2^63 to 2^63 - 1
abbrev pub fits_integer : ℤ → Bool
fits_integer (pos n) = nat_lt n (2 ^ 63)
fits_integer (negsuc n) = nat_lt n (2 ^ 63)

abbrev pub bounded : ℤ → Outcome
bounded z = if fits_integer z then Value z else NoValue

-- an intermediate value of two others: a cause that is no circle shows also beside one
abbrev pub joined : (ℤ → ℤ → ℤ) → Outcome → Outcome → Outcome
joined op (Value a) (Value b) = bounded (op a b)
joined op (Value a) Circular = Circular
joined op (Value a) NoValue = NoValue
joined op Circular (Value b) = Circular
joined op Circular Circular = Circular
joined op Circular NoValue = NoValue
joined op NoValue other = NoValue

-- the outcome of a factor, where the outcomes of names are given
abbrev pub factor_outcome : (List ℕ → Outcome) → Factor → Outcome
factor_outcome names (Name name) = names name
factor_outcome names (Number n) = bounded (pos n)

-- the product of a first value and factors, from left to right
abbrev pub product : (List ℕ → Outcome) → Outcome → List Factor → Outcome
product names first [] = first
product names first (factor ∷ factors) = product names (joined ◌*ℤ◌ first (factor_outcome names factor)) factors

-- a term without its sign
abbrev pub term_outcome : (List ℕ → Outcome) → Term → Outcome
term_outcome names term = product names (Value (pos 1)) term.factors

abbrev pub with_sign : Bool → ℤ → ℤ → ℤ
with_sign minus a b = if minus then a -ℤ b else a +ℤ b

-- the sum of a first value and terms with their signs, from left to right
abbrev pub total : (List ℕ → Outcome) → Outcome → List Term → Outcome
total names first [] = first
total names first (term ∷ terms) = total names (joined (with_sign term.minus) first (term_outcome names term)) terms

-- the outcome of an expression
abbrev pub outcome_of : (List ℕ → Outcome) → List Term → Outcome
outcome_of names terms = total names (Value (pos 0)) terms

-- the names of an expression: some name passes a test
abbrev pub factor_names : (List ℕ → Bool) → Factor → Bool
factor_names test (Name name) = test name
factor_names test (Number n) = false

abbrev pub some_name : (List ℕ → Bool) → List Term → Bool
some_name test terms = list_any (λ term. list_any (factor_names test) term.factors) terms

abbrev pub is_circular : Outcome → Bool
is_circular (Value z) = false
is_circular NoValue = false
is_circular Circular = true

-- the outcome of an EQU with this expression: circular where it names a circular one, whatever else is in it
abbrev pub equated : (List ℕ → Outcome) → List Term → Outcome
equated names terms = if some_name (λ name. is_circular (names name)) terms then Circular else outcome_of names terms
