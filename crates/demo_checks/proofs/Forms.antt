-- The statements of a demo: those of numbers, and the last eight.
use Rattle.std.proofs.Common.{◌≡◌, ℕ, zero, suc, ◌+◌, List, [], ◌∷◌, ◌++◌, length, Option, Some, None, refl, ap, ◌∙◌, arith}
use Rattle.std.specs.Prelude.{codes}
use Rattle.sil_macros.specs.declared.names.Macro.TheVariants.{Output, Endex, Descr, Format, End}
use Rattle.sil_operands.specs.declared.operand.Operand.TheVariants.{Null, List as Listed, Text}
use Rattle.sil_cards.specs.Contents.{operation_of, operands_at}
use Rattle.sil_symbols.specs.declared.stmt.Stmt.{Stmt}
use Rattle.sil_symbols.specs.SymbolRules.{faults_from}
use Rattle.sil_program.specs.Statements.{statement_of, statements_of}
use Rattle.demo_source.specs.DemoSource.{next_of}
use Rattle.demo_checks.specs.DemoCards.{number_card, tail_cards, cards_after, cards_of_demo}
use Rattle.demo_checks.proofs.CardTexts.{LawOfReading, name_expression}
use Rattle.demo_checks.proofs.Bodies.{stmt, name_terms, IsBody, number_body}

-- ---- the last eight

abbrev pub output_stmt : ℕ → Stmt
output_stmt card = stmt card [] Output (name_expression (codes "U") ∷ name_expression (codes "F") ∷ Listed (Some (name_terms (codes "X")) ∷ []) ∷ [])

abbrev pub endex_stmt : ℕ → Stmt
endex_stmt card = stmt card [] Endex (name_expression (codes "Z") ∷ [])

abbrev pub cell_stmt : ℕ → List ℕ → Stmt
cell_stmt card label = stmt card label Descr (Null ∷ [])

abbrev pub unit_stmt : ℕ → Stmt
unit_stmt card = stmt card (codes "U") Descr (name_expression (codes "UNITO") ∷ [])

abbrev pub format_stmt : ℕ → Stmt
format_stmt card = stmt card (codes "F") Format (Text (codes "(I20)") ∷ [])

abbrev pub end_stmt : ℕ → Stmt
end_stmt card = stmt card [] End []

abbrev pub tail_stmts : ℕ → List Stmt
tail_stmts count =
    output_stmt (count + 1)
    ∷ endex_stmt (count + 1 + 1)
    ∷ cell_stmt (count + 1 + 1 + 1) (codes "X")
    ∷ cell_stmt (count + 1 + 1 + 1 + 1) (codes "Y")
    ∷ cell_stmt (count + 1 + 1 + 1 + 1 + 1) (codes "Z")
    ∷ unit_stmt (count + 1 + 1 + 1 + 1 + 1 + 1)
    ∷ format_stmt (count + 1 + 1 + 1 + 1 + 1 + 1 + 1)
    ∷ end_stmt (count + 1 + 1 + 1 + 1 + 1 + 1 + 1 + 1)
    ∷ []

tail_is : (count : ℕ) → statements_of (tail_cards count) ≡ tail_stmts count
unfolding operation_of operands_at
tail_is count = refl

-- ---- all of them

abbrev pub AllBody : List Stmt → Type 0
AllBody [] = Unit {0}
AllBody (s ∷ body) = IsBody s × AllBody body

-- n statements of numbers, and the last eight
pub record HasForm (n : ℕ) (source : List Stmt) : Type 0 where
  pub body : List Stmt
  pub count : ℕ
  pub is : source ≡ body ++ tail_stmts count
  pub all : AllBody body
  pub size : n ≡ length body

form_after : (law : LawOfReading) (count n x : ℕ) → HasForm n (statements_of (cards_after count n x))
form_after law count zero x = record { body = []; count = count; is = tail_is count; all = tt; size = refl }
form_after law count (suc n) x =
    let rest = form_after law (count + 1) n (next_of x) in
    record {
      body = statement_of (number_card count (next_of x)) ∷ rest.body;
      count = rest.count;
      is = ap (λ l. statement_of (number_card count (next_of x)) ∷ l) rest.is;
      all = (number_body law count (next_of x), rest.all);
      size = ap suc rest.size;
    }

pub demo_form : (law : LawOfReading) (n seed : ℕ) → HasForm n (statements_of (cards_of_demo n seed))
demo_form law n seed = form_after law 0 n seed

-- ---- faults

faults_skip : (letter : ℕ) (rule : ℕ → Stmt → Option ℕ) → ((place : ℕ) (s : Stmt) → IsBody s → rule place s ≡ None)
    → (i n : ℕ) (body tail : List Stmt) → AllBody body → n ≡ i + length body → faults_from letter rule i (body ++ tail) ≡ faults_from letter rule n tail
faults_skip letter rule kept i n [] tail all size =
    let same : i ≡ n = omega arith in ap (λ k. faults_from letter rule k tail) same
faults_skip letter rule kept i n (s ∷ body) tail all size =
    rw (kept i s all.0) (faults_skip letter rule kept (i + 1) n body tail all.1 (omega arith))

-- each of the last eight keeps a rule
pub record KeepsTail (rule : ℕ → Stmt → Option ℕ) (n count : ℕ) : Type 0 where
  pub output : rule n (output_stmt (count + 1)) ≡ None
  pub endex : rule (n + 1) (endex_stmt (count + 1 + 1)) ≡ None
  pub x : rule (n + 1 + 1) (cell_stmt (count + 1 + 1 + 1) (codes "X")) ≡ None
  pub y : rule (n + 1 + 1 + 1) (cell_stmt (count + 1 + 1 + 1 + 1) (codes "Y")) ≡ None
  pub z : rule (n + 1 + 1 + 1 + 1) (cell_stmt (count + 1 + 1 + 1 + 1 + 1) (codes "Z")) ≡ None
  pub u : rule (n + 1 + 1 + 1 + 1 + 1) (unit_stmt (count + 1 + 1 + 1 + 1 + 1 + 1)) ≡ None
  pub f : rule (n + 1 + 1 + 1 + 1 + 1 + 1) (format_stmt (count + 1 + 1 + 1 + 1 + 1 + 1 + 1)) ≡ None
  pub end : rule (n + 1 + 1 + 1 + 1 + 1 + 1 + 1) (end_stmt (count + 1 + 1 + 1 + 1 + 1 + 1 + 1 + 1)) ≡ None

tail_clean : (letter : ℕ) (rule : ℕ → Stmt → Option ℕ) (n count : ℕ) → KeepsTail rule n count → faults_from letter rule n (tail_stmts count) ≡ []
tail_clean letter rule n count keeps = rw (keeps.output, keeps.endex, keeps.x, keeps.y, keeps.z, keeps.u, keeps.f, keeps.end) refl

-- a rule that all keep has no fault
pub all_clean : (letter : ℕ) (rule : ℕ → Stmt → Option ℕ) (n count : ℕ) (body : List Stmt) → ((place : ℕ) (s : Stmt) → IsBody s → rule place s ≡ None) → KeepsTail rule n count → AllBody body → n ≡ length body
    → faults_from letter rule 0 (body ++ tail_stmts count) ≡ []
all_clean letter rule n count body kept keeps all size =
    faults_skip letter rule kept 0 n body (tail_stmts count) all (omega arith) ∙ tail_clean letter rule n count keeps
