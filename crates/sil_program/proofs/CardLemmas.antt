-- The statements of good cards may be resolved.
use Rattle.std.proofs.Common.{◌≡◌, ℕ, Bool, true, false, cond, List, [], ◌∷◌, Option, Some, None, ◌⊎◌, inl, inr, refl, sym, ap, ◌∙◌}
use Rattle.std.specs.Prelude.{All, IsTrue, codes, is_some, unwrap_or}
use Rattle.std.specs.List.{find}
use Rattle.std.specs.Str.{bytes_eq}
use Rattle.std.proofs.lemmas.List.Elements.{All-nil, All-cons, All-head, All-tail}
use Rattle.std.proofs.lemmas.Slice.Eq.{bytes_eq-Decides}
use Rattle.sil_macros.specs.declared.names.Macro.{Macro}
use Rattle.sil_macros.specs.declared.names.Macro.TheVariants as macros
use Rattle.sil_macros.specs.Macros as names
use Rattle.sil_cards.specs.CardParts.{CardParts}
use Rattle.sil_base.specs.Names.{is_word}
use Rattle.sil_cards.specs.CardVerdicts.{is_macro}
use Rattle.sil_cards.specs.Cards as cards
use Rattle.sil_cards.specs.Cards.{IsGood}
use Rattle.sil_symbols.specs.StatementParts.{part_of, is_end}
use Rattle.sil_symbols.specs.SymbolRules as rules
use Rattle.sil_operands.specs.declared.operand.Operand.{Operand}
use Rattle.sil_operands.specs.OperandGrammar.{SpellsOperands}
use Rattle.sil_operands.specs.Limits.{are_within_limits}
use Rattle.sil_operands.specs.OperandReading.{operands_of}
use Rattle.sil_symbols.specs.declared.stmt.Stmt.{Stmt}
use Rattle.sil_cards.specs.Contents.{operation_of, operands_at}
use Rattle.sil_program.specs.HeldPrograms.{HaveShortLists}
use Rattle.sil_program.specs.Statements.{statement_of, statements_of}

-- ---- macros by their names

chosen : {A : Type 0} (b : Bool) (x : A) (rest : Option A) (y : A) → cond b (Some x) rest ≡ Some y → ((b ≡ true) × (x ≡ y)) ⊎ (rest ≡ Some y)
chosen true x rest y h = inl (refl, cc)
chosen false x rest y h = inr h

found : {A : Type 0} (p : A → Bool) (xs : List A) (x : A) → find p xs ≡ Some x → p x ≡ true
found p [] x h = let no : ⊥ = cc in absurd no
found p (y ∷ ys) x h = elim (chosen (p y) y (find p ys) x h) [ inl e ↦ rw (sym e.1) e.0 | inr e ↦ found p ys x e ]

named : (operation : List ℕ) (m : Macro) → names.with_name operation ≡ Some m → names.name_of m ≡ operation
named operation m h = (bytes_eq-Decides (names.name_of m) operation).0 (found (λ x. bytes_eq (names.name_of x) operation) names.macros m h)

ends : (m : Macro) → is_end (part_of m) ≡ true → m ≡ macros.End
ends macros.End h = refl
ends _ h = let no : ⊥ = cc in absurd no

false_unless : (b : Bool) → (b ≡ true → ⊥) → b ≡ false
false_unless true never = absurd (never refl)
false_unless false never = refl

end_named : (operation : List ℕ) → is_word operation (codes "END") ≡ true → is_end (part_of (operation_of operation)) ≡ true
unfolding operation_of
end_named operation h =
    let is : operation ≡ codes "END" = (bytes_eq-Decides operation (codes "END")).0 h in
    rw is refl

other_named : (operation : List ℕ) (m : Option Macro) → names.with_name operation ≡ m → is_some m ≡ true → is_word operation (codes "END") ≡ false → is_end (part_of (unwrap_or m macros.End)) ≡ false
other_named operation None named_by known h = let no : ⊥ = cc in absurd no
other_named operation (Some m) named_by known h =
    false_unless (is_end (part_of m)) (λ t.
    let is : m ≡ macros.End = ends m t in
    let name : names.name_of m ≡ operation = named operation m named_by in
    let same : operation ≡ codes "END" = sym name ∙ ap names.name_of is in
    let yes : is_word operation (codes "END") ≡ true = (bytes_eq-Decides operation (codes "END")).1 same in
    let clash : true ≡ false = sym yes ∙ h in
    let no : ⊥ = cc in no)

no_end : (operation : List ℕ) → is_macro operation ≡ true → is_word operation (codes "END") ≡ false → is_end (part_of (operation_of operation)) ≡ false
unfolding operation_of is_macro
no_end operation known h = other_named operation (names.with_name operation) refl known h

-- ---- statements

-- the last of the statements, and no other, is END
pub ended : (these : List CardParts) → All IsGood these → cards.EndsOnce these → rules.EndsOnce (statements_of these)
ended [] good h = h
ended (card ∷ []) good h = end_named card.operation h
ended (card ∷ next ∷ more) good h =
    (no_end card.operation (All-head IsGood card (next ∷ more) good).operation h.0, ended (next ∷ more) (All-tail IsGood card (next ∷ more) good) h.1)

-- ---- lists

kept : (b : Bool) (o : Option (List Operand)) → ((operands : List Operand) → o ≡ Some operands → IsTrue (are_within_limits operands)) → are_within_limits (cond b [] (unwrap_or o [])) ≡ true
kept true o h = refl
kept false None h = refl
kept false (Some operands) h = h operands refl

-- the lists of a field that was read are short
pub short_lists : ((field : List ℕ) (operands : List Operand) → operands_of field ≡ Some operands → SpellsOperands field operands × IsTrue (are_within_limits operands)) → (these : List CardParts) → HaveShortLists (statements_of these)
unfolding operands_at
short_lists read [] = All-nil (λ (s : Stmt). are_within_limits s.operands ≡ true)
short_lists read (card ∷ more) =
    All-cons (λ (s : Stmt). are_within_limits s.operands ≡ true) (statement_of card) (statements_of more)
    (kept (is_word card.operation (codes "END")) (operands_of card.operands) (λ operands h. (read card.operands operands h).1))
    (short_lists read more)
