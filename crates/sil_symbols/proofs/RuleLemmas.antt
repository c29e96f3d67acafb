-- Expressions and faults, one operand or statement more.
use Rattle.std.proofs.Common.{◌≡◌, ℕ, zero, suc, ◌+◌, ◌<◌, Bool, true, false, List, [], ◌∷◌, ◌++◌, length, get_or, drop, Option, if◌then◌else◌, refl, ap, sym, ◌∙◌, append_assoc, add-one, drop-cons}
use Rattle.sil_base.specs.declared.line.Fault.{Fault}
use Rattle.sil_macros.specs.declared.shapes.Place.{Place}
use Rattle.sil_operands.specs.declared.expr.Term.{Term}
use Rattle.sil_operands.specs.declared.operand.Operand.{Operand}
use Rattle.sil_symbols.specs.declared.stmt.Stmt.{Stmt}
use Rattle.sil_symbols.specs.SymbolRules.{is_apart, expressions_in, expressions_at, with_fault, faults_from}
use Rattle.sil_symbols.specs.HeldNames.{is_apart_at}

drop_step : {A : Type 0} (xs : List A) (i : ℕ) (x : A) → i < length xs → x ≡ get_or xs i x → drop i xs ≡ x ∷ drop (i + 1) xs
drop_step xs i x within is = drop-cons xs i x within ∙ ap (λ y. y ∷ drop (suc i) xs) (sym is) ∙ ap (λ n. x ∷ drop n xs) (sym (add-one i))

expressions_past : (places : List Place) (i : ℕ) (o : Operand) (os : List Operand)
    → expressions_at (drop i places) (o ∷ os) ≡ (if is_apart_at places i then [] else expressions_in o) ++ expressions_at (drop (suc i) places) os
expressions_past [] zero o os = refl
expressions_past [] (suc i) o os = refl
expressions_past (p ∷ ps) zero o os = by (is_apart p.kind)
  where
    by : (b : Bool) → (if b then expressions_at ps os else expressions_in o ++ expressions_at ps os) ≡ (if b then [] else expressions_in o) ++ expressions_at ps os
    by true = refl
    by false = refl
expressions_past (p ∷ ps) (suc i) o os = expressions_past ps i o os

module _ (places : List Place) (operands : List Operand) (i : ℕ) (o : Operand) (within : i < length operands) (is : o ≡ get_or operands i o) (old : List (List Term))
    (before : old ++ expressions_at (drop i places) (drop i operands) ≡ expressions_at places operands) where
  step : old ++ ((if is_apart_at places i then [] else expressions_in o) ++ expressions_at (drop (i + 1) places) (drop (i + 1) operands)) ≡ expressions_at places operands
  step =
      ap (λ n. old ++ ((if is_apart_at places i then [] else expressions_in o) ++ expressions_at (drop n places) (drop (i + 1) operands))) (add-one i)
      ∙ sym (ap (λ l. old ++ l) (ap (expressions_at (drop i places)) (drop_step operands i o within is) ∙ expressions_past places i o (drop (i + 1) operands))) ∙ before

  pub expressions_more : (new : List (List Term)) → is_apart_at places i ≡ false → new ≡ old ++ expressions_in o
      → new ++ expressions_at (drop (i + 1) places) (drop (i + 1) operands) ≡ expressions_at places operands
  expressions_more new apart new_is =
      ap (λ l. l ++ expressions_at (drop (i + 1) places) (drop (i + 1) operands)) new_is ∙ append_assoc old (expressions_in o) (expressions_at (drop (i + 1) places) (drop (i + 1) operands))
      ∙ ap (λ b. old ++ ((if b then [] else expressions_in o) ++ expressions_at (drop (i + 1) places) (drop (i + 1) operands))) (sym apart) ∙ step

  pub expressions_skip : is_apart_at places i ≡ true → old ++ expressions_at (drop (i + 1) places) (drop (i + 1) operands) ≡ expressions_at places operands
  expressions_skip apart =
      ap (λ b. old ++ ((if b then [] else expressions_in o) ++ expressions_at (drop (i + 1) places) (drop (i + 1) operands))) (sym apart) ∙ step

-- the faults of one statement more
pub faults_more : (letter : ℕ) (rule : ℕ → Stmt → Option ℕ) (ss : List Stmt) (i : ℕ) (s : Stmt) (old new all : List Fault) (r : Option ℕ) → i < length ss → s ≡ get_or ss i s → r ≡ rule i s
    → ((rest : List Fault) → new ++ rest ≡ old ++ with_fault letter s.card r rest) → old ++ faults_from letter rule i (drop i ss) ≡ all → new ++ faults_from letter rule (i + 1) (drop (i + 1) ss) ≡ all
faults_more letter rule ss i s old new all r within is rule_is pushed before =
    pushed (faults_from letter rule (i + 1) (drop (i + 1) ss)) ∙ ap (λ o. old ++ with_fault letter s.card o (faults_from letter rule (i + 1) (drop (i + 1) ss))) rule_is
    ∙ sym (ap (λ l. old ++ faults_from letter rule i l) (drop_step ss i s within is)) ∙ before
