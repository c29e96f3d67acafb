-- Which bytes spell terms, expressions and items.
use Rattle.std.proofs.Common.{◌≡◌, ◌≢◌, ℕ, ◌<◌, ◌≤◌, Bool, true, false, ◌&&◌, List, [], ◌∷◌, ◌++◌, length, Option, Some, None, subst, inl, inr, sym, arith, length-append}
use Rattle.std.specs.Char.{is_ascii_alphabetic, is_ascii_alphanumeric, is_ascii_digit}
use Rattle.std.specs.List.{All, list_all}
use Rattle.std.specs.Prelude.{nat_le}
use Rattle.std.proofs.lemmas.Bool.Decides.{nat_tests}
use Rattle.std.proofs.lemmas.List.Elements.{All-nil, All-cons, All-append, All-weaker}
use Rattle.sil_base.specs.Names.{is_name, is_number}
use Rattle.sil_operands.specs.OperandGrammar.{SpellsSeparated, SpellsFactor, SpellsTerm, sign_of, SpellsMoreTerms, SpellsFirstSign, SpellsExpr, SpellsItem}
use Rattle.sil_operands.specs.declared.expr.Factor.{Factor}
use Rattle.sil_operands.specs.declared.expr.Factor.TheVariants.{Name, Number}
use Rattle.sil_operands.specs.declared.expr.Term.{Term}
use Rattle.sil_operands.proofs.Each.{both}

all_from : (test : ℕ → Bool) (P : ℕ → Type 0) → ((c : ℕ) → test c ≡ true → P c) → (cs : List ℕ) → list_all test cs ≡ true → All P cs
all_from test P sound [] h = All-nil P
all_from test P sound (c ∷ cs) h =
    let tests = both (test c) (list_all test cs) h in
    All-cons P c cs (sound c tests.0) (all_from test P sound cs tests.1)

letter_high : (c : ℕ) → is_ascii_alphabetic c ≡ true → 48 ≤ c
letter_high c h = grind (arith, nat_tests)

alphanumeric_high : (c : ℕ) → is_ascii_alphanumeric c ≡ true → 48 ≤ c
alphanumeric_high c h = grind (arith, nat_tests)

digit_high : (c : ℕ) → is_ascii_digit c ≡ true → 48 ≤ c
digit_high c h = grind (arith, nat_tests)

-- bytes, one at least
pub record AreSome (P : ℕ → Type 0) (bytes : List ℕ) : Type 0 where
  pub all : All P bytes
  pub some : 0 < length bytes

some_of : (P : ℕ → Type 0) (c : ℕ) (cs : List ℕ) → P c → All P cs → AreSome P (c ∷ cs)
some_of P c cs first rest = record { all = All-cons P c cs first rest; some = omega arith }

name_bytes : (bytes : List ℕ) → is_name bytes ≡ true → AreSome (λ c. 48 ≤ c) bytes
name_bytes [] h = cc
name_bytes (c ∷ cs) h =
    let outer = both (is_ascii_alphabetic c && list_all is_ascii_alphanumeric cs) (nat_le (length cs) 15) h in
    let inner = both (is_ascii_alphabetic c) (list_all is_ascii_alphanumeric cs) outer.0 in
    some_of (λ c. 48 ≤ c) c cs (letter_high c inner.0) (all_from is_ascii_alphanumeric (λ c. 48 ≤ c) alphanumeric_high cs inner.1)

number_bytes : (bytes : List ℕ) → is_number bytes ≡ true → AreSome (λ c. 48 ≤ c) bytes
number_bytes [] h = cc
number_bytes (c ∷ cs) h =
    let tests = both (is_ascii_digit c) (list_all is_ascii_digit cs) h in
    some_of (λ c. 48 ≤ c) c cs (digit_high c tests.0) (all_from is_ascii_digit (λ c. 48 ≤ c) digit_high cs tests.1)

pub factor_bytes : (bytes : List ℕ) (factor : Factor) → SpellsFactor bytes factor → AreSome (λ c. 48 ≤ c) bytes
factor_bytes bytes (Name name) h = name_bytes bytes h.1
factor_bytes bytes (Number n) h = number_bytes bytes h.0

-- ---- things and a byte between them

pub separated_bytes : {A : Type 0} (R : List ℕ → A → Type 0) (P : ℕ → Type 0) (byte : ℕ) → P byte → ((bytes : List ℕ) (x : A) → R bytes x → All P bytes) → (bytes : List ℕ) (xs : List A) → SpellsSeparated R byte bytes xs → All P bytes
separated_bytes R P byte between each bytes [] h = absurd h
separated_bytes R P byte between each bytes (x ∷ []) h = each bytes x h
separated_bytes R P byte between each bytes (x ∷ y ∷ xs) h =
    subst (All P) (sym h.2) (All-append P h.0 (byte ∷ h.1) (each h.0 x h.3) (All-cons P byte h.1 between (separated_bytes R P byte between each h.1 (y ∷ xs) h.4)))

separated_some : {A : Type 0} (R : List ℕ → A → Type 0) (byte : ℕ) → ((bytes : List ℕ) (x : A) → R bytes x → 0 < length bytes) → (bytes : List ℕ) (xs : List A) → SpellsSeparated R byte bytes xs → 0 < length bytes
separated_some R byte each bytes [] h = absurd h
separated_some R byte each bytes (x ∷ []) h = each bytes x h
separated_some R byte each bytes (x ∷ y ∷ xs) h =
    let first = each h.0 x h.3 in
    subst (λ (bs : List ℕ). 0 < length bs) (sym h.2) (omega (arith, length-append h.0 (byte ∷ h.1)))

-- ---- terms and expressions

-- a byte of a term: a star, or a letter or digit
abbrev pub InTerm : ℕ → Type 0
InTerm c = (42 ≤ c) × (c ≢ 43) × (c ≢ 44) × (c ≢ 45)

-- a byte of an expression
abbrev pub InExpr : ℕ → Type 0
InExpr c = (42 ≤ c) × (c ≢ 44)

high_in_term : (c : ℕ) → 48 ≤ c → InTerm c
high_in_term c h = (omega arith, omega arith, omega arith, omega arith)

pub term_bytes : (bytes : List ℕ) (term : Term) → SpellsTerm bytes term → AreSome InTerm bytes
term_bytes bytes term h = record {
  all = separated_bytes SpellsFactor InTerm 42 (omega arith, omega arith, omega arith, omega arith) (λ bs f r. All-weaker (λ c. 48 ≤ c) InTerm high_in_term bs (factor_bytes bs f r).all) bytes term.factors h;
  some = separated_some SpellsFactor 42 (λ bs f r. (factor_bytes bs f r).some) bytes term.factors h;
}

term_in_expr : (bytes : List ℕ) (term : Term) → SpellsTerm bytes term → All InExpr bytes
term_in_expr bytes term h = All-weaker InTerm InExpr (λ c r. (r.0, r.2)) bytes (term_bytes bytes term h).all

sign_in_expr : (minus : Bool) → InExpr (sign_of minus)
sign_in_expr true = (omega arith, omega arith)
sign_in_expr false = (omega arith, omega arith)

more_bytes : (bytes : List ℕ) (terms : List Term) → SpellsMoreTerms bytes terms → All InExpr bytes
more_bytes bytes [] h = subst (All InExpr) (sym h) (All-nil InExpr)
more_bytes bytes (term ∷ terms) h =
    subst (All InExpr) (sym h.2) (All-cons InExpr (sign_of term.minus) (h.0 ++ h.1) (sign_in_expr term.minus) (All-append InExpr h.0 h.1 (term_in_expr h.0 term h.3) (more_bytes h.1 terms h.4)))

first_bytes : (bytes : List ℕ) (minus : Bool) → SpellsFirstSign bytes minus → All InExpr bytes
first_bytes bytes minus (inl e) = subst (All InExpr) (sym e) (All-cons InExpr (sign_of minus) [] (sign_in_expr minus) (All-nil InExpr))
first_bytes bytes minus (inr e) = subst (All InExpr) (sym e.0) (All-nil InExpr)

pub expr_bytes : (bytes : List ℕ) (terms : List Term) → SpellsExpr bytes terms → AreSome InExpr bytes
expr_bytes bytes [] h = absurd h
expr_bytes bytes (term ∷ terms) h =
    let all = All-append InExpr h.0 (h.1 ++ h.2) (first_bytes h.0 term.minus h.4) (All-append InExpr h.1 h.2 (term_in_expr h.1 term h.5) (more_bytes h.2 terms h.6)) in
    let some = (term_bytes h.1 term h.5).some in
    record {
      all = subst (All InExpr) (sym h.3) all;
      some = subst (λ (bs : List ℕ). 0 < length bs) (sym h.3) (omega (arith, length-append h.0 (h.1 ++ h.2), length-append h.1 h.2));
    }

pub item_bytes : (bytes : List ℕ) (item : Option (List Term)) → SpellsItem bytes item → All InExpr bytes
item_bytes bytes None h = subst (All InExpr) (sym h) (All-nil InExpr)
item_bytes bytes (Some terms) h = (expr_bytes bytes terms h).all

-- the bytes between the brackets of a list
pub items_bytes : (bytes : List ℕ) (items : List (Option (List Term))) → SpellsSeparated SpellsItem 44 bytes items → All (λ c. 42 ≤ c) bytes
items_bytes bytes items h =
    separated_bytes SpellsItem (λ c. 42 ≤ c) 44 (omega arith) (λ bs item r. All-weaker InExpr (λ c. 42 ≤ c) (λ c q. q.0) bs (item_bytes bs item r)) bytes items h
