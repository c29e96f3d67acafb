-- The statements of numbers: what each of the checks says of one.
use Rattle.std.proofs.Common.{◌≡◌, ℕ, ◌+◌, ◌/◌, ◌%◌, ◌<◌, Bool, true, false, cond, List, [], ◌∷◌, ◌++◌, Option, None, refl, arith}
use Rattle.std.specs.Prelude.{◌==◌, codes, decimal}
use Rattle.std.specs.List.{list_any}
use Rattle.layout_params.specs.Parameters.{Parameters, standard}
use Rattle.sil_macros.specs.declared.names.Macro.{Macro}
use Rattle.sil_macros.specs.declared.names.Macro.TheVariants.{Incra, Decra, Setac, Sum}
use Rattle.sil_operands.specs.declared.expr.Factor.TheVariants.{Name, Number}
use Rattle.sil_operands.specs.declared.expr.Term.{Term}
use Rattle.sil_operands.specs.declared.operand.Operand.{Operand}
use Rattle.sil_cards.specs.Contents.{operation_of, operands_at}
use Rattle.sil_symbols.specs.declared.stmt.Stmt.{Stmt}
use Rattle.sil_symbols.specs.StatementParts.{part_of, is_end}
use Rattle.sil_symbols.specs.Labels.{is_labelled}
use Rattle.sil_symbols.specs.Addresses.{past, first_spot}
use Rattle.sil_symbols.specs.Symbols.{names_of, size_names}
use Rattle.sil_symbols.specs.SymbolRules.{expressions_of, names_nothing, is_circular_equation, lacks_size}
use Rattle.sil_shapes.specs.Shapes.{fits}
use Rattle.sil_shapes.specs.ShapeRules.{Measure, statement_rule}
use Rattle.data_asm.specs.DataFaults.{data_rule}
use Rattle.sil_model.specs.declared.program.Specials.{Specials}
use Rattle.sil_program.specs.Built.{is_built}
use Rattle.sil_program.specs.TableFaults.{table_rule}
use Rattle.sil_program.specs.Specials.{special_rule}
use Rattle.sil_program.specs.Statements.{statement_of}
use Rattle.sil_program.specs.Verdicts.{is_built_statement}
use Rattle.demo_checks.specs.DemoCards.{number_card}
use Rattle.demo_checks.proofs.Digits.{AreDigits, are_digits}
use Rattle.demo_checks.proofs.CardTexts.{LawOfReading, name_expression, number_expression, read_pair}

abbrev pub stmt : ℕ → List ℕ → Macro → List Operand → Stmt
stmt card label name operands = record { card = card; label = label; name = name; operands = operands }

abbrev pub name_terms : List ℕ → List Term
name_terms name = record { minus = false; factors = Name name ∷ [] } ∷ []

abbrev pub number_terms : ℕ → List Term
number_terms n = record { minus = false; factors = Number n ∷ [] } ∷ []

-- a statement that no check finds a fault in, where X and Y have values
pub record IsBody (s : Stmt) : Type 0 where
  pub unlabelled : is_labelled s ≡ false
  pub expressions : (test : List Term → Bool) → test (name_terms (codes "X")) ≡ false → test (name_terms (codes "Y")) ≡ false → ((m : ℕ) → m < 1000 → test (number_terms m) ≡ false) → list_any test (expressions_of s) ≡ false
  pub no_equation : names_nothing s ≡ false
  pub no_circle : (source : List Stmt) → is_circular_equation (names_of standard source) s ≡ false
  pub no_size : (source : List Stmt) → lacks_size (size_names standard source) s ≡ false
  pub no_end : is_end (part_of s.name) ≡ false
  pub step : (source : List Stmt) (k : ℕ) → past 16 (size_names standard source) (record first_spot { statements = k }) s ≡ record first_spot { statements = k + 1 }
  pub shape : (m : Measure) (place : ℕ) → statement_rule m place s ≡ None
  pub data_kept : (p : Parameters) (source : List Stmt) (place : ℕ) → data_rule p source place s ≡ None
  pub tables : (tables : List ℕ → Option ℕ) (place : ℕ) → table_rule tables place s ≡ None
  pub specials : (specials : Specials) (place : ℕ) → special_rule specials place s ≡ None
  pub built : is_built_statement s ≡ true

up_body : (k m : ℕ) → m < 1000 → IsBody (stmt k [] Incra (name_expression (codes "X") ∷ number_expression m ∷ []))
unfolding fits is_built
up_body k m small = record {
  unlabelled = refl;
  expressions = λ test x y n. rw (x, n m small) refl;
  no_equation = refl;
  no_circle = λ source. refl;
  no_size = λ source. refl;
  no_end = refl;
  step = λ source k. refl;
  shape = λ m place. refl;
  data_kept = λ p source place. refl;
  tables = λ tables place. refl;
  specials = λ specials place. refl;
  built = refl;
}

down_body : (k m : ℕ) → m < 1000 → IsBody (stmt k [] Decra (name_expression (codes "X") ∷ number_expression m ∷ []))
unfolding fits is_built
down_body k m small = record {
  unlabelled = refl;
  expressions = λ test x y n. rw (x, n m small) refl;
  no_equation = refl;
  no_circle = λ source. refl;
  no_size = λ source. refl;
  no_end = refl;
  step = λ source k. refl;
  shape = λ m place. refl;
  data_kept = λ p source place. refl;
  tables = λ tables place. refl;
  specials = λ specials place. refl;
  built = refl;
}

put_body : (k m : ℕ) → m < 1000 → IsBody (stmt k [] Setac (name_expression (codes "Y") ∷ number_expression m ∷ []))
unfolding fits is_built
put_body k m small = record {
  unlabelled = refl;
  expressions = λ test x y n. rw (y, n m small) refl;
  no_equation = refl;
  no_circle = λ source. refl;
  no_size = λ source. refl;
  no_end = refl;
  step = λ source k. refl;
  shape = λ m place. refl;
  data_kept = λ p source place. refl;
  tables = λ tables place. refl;
  specials = λ specials place. refl;
  built = refl;
}

sum_body : (k : ℕ) → IsBody (stmt k [] Sum (name_expression (codes "X") ∷ name_expression (codes "X") ∷ name_expression (codes "Y") ∷ []))
unfolding fits is_built
sum_body k = record {
  unlabelled = refl;
  expressions = λ test x y n. rw (x, y) refl;
  no_equation = refl;
  no_circle = λ source. refl;
  no_size = λ source. refl;
  no_end = refl;
  step = λ source k. refl;
  shape = λ m place. refl;
  data_kept = λ p source place. refl;
  tables = λ tables place. refl;
  specials = λ specials place. refl;
  built = refl;
}

-- ---- from cards

up_is : operation_of (codes "INCRA") ≡ Incra
unfolding operation_of
up_is = refl

down_is : operation_of (codes "DECRA") ≡ Decra
unfolding operation_of
down_is = refl

put_is : operation_of (codes "SETAC") ≡ Setac
unfolding operation_of
put_is = refl

sum_is : operation_of (codes "SUM") ≡ Sum
unfolding operation_of
sum_is = refl

up_operands : (law : LawOfReading) (m : ℕ) (ds : List ℕ) → AreDigits m ds → m < 1000 → operands_at (codes "INCRA") (codes "X," ++ ds) ≡ name_expression (codes "X") ∷ number_expression m ∷ []
unfolding operands_at
up_operands law m ds digits small = rw (read_pair law 88 m ds refl digits small) refl

down_operands : (law : LawOfReading) (m : ℕ) (ds : List ℕ) → AreDigits m ds → m < 1000 → operands_at (codes "DECRA") (codes "X," ++ ds) ≡ name_expression (codes "X") ∷ number_expression m ∷ []
unfolding operands_at
down_operands law m ds digits small = rw (read_pair law 88 m ds refl digits small) refl

put_operands : (law : LawOfReading) (m : ℕ) (ds : List ℕ) → AreDigits m ds → m < 1000 → operands_at (codes "SETAC") (codes "Y," ++ ds) ≡ name_expression (codes "Y") ∷ number_expression m ∷ []
unfolding operands_at
put_operands law m ds digits small = rw (read_pair law 89 m ds refl digits small) refl

sum_operands : operands_at (codes "SUM") (codes "X,X,Y") ≡ name_expression (codes "X") ∷ name_expression (codes "X") ∷ name_expression (codes "Y") ∷ []
unfolding operands_at
sum_operands = refl

abbrev made_by : ℕ → List ℕ → List ℕ → Stmt
made_by k operation field = stmt k [] (operation_of operation) (operands_at operation field)

body_by : (law : LawOfReading) (a b c : Bool) (k m : ℕ) (ds : List ℕ) → AreDigits m ds → m < 1000
    → IsBody (made_by k (cond a (codes "INCRA") (cond b (codes "DECRA") (cond c (codes "SETAC") (codes "SUM")))) (cond a (codes "X," ++ ds) (cond b (codes "X," ++ ds) (cond c (codes "Y," ++ ds) (codes "X,X,Y")))))
body_by law true b c k m ds digits small = rw (up_is, up_operands law m ds digits small) (up_body k m small)
body_by law false true c k m ds digits small = rw (down_is, down_operands law m ds digits small) (down_body k m small)
body_by law false false true k m ds digits small = rw (put_is, put_operands law m ds digits small) (put_body k m small)
body_by law false false false k m ds digits small = rw (sum_is, sum_operands) (sum_body k)

-- the statement of a number's card
pub number_body : (law : LawOfReading) (count x : ℕ) → IsBody (statement_of (number_card count x))
number_body law count x =
    let small : x % 1000 < 1000 = omega arith in
    body_by law ((x / 65536) % 4 == 0) ((x / 65536) % 4 == 1) ((x / 65536) % 4 == 2) (count + 1) (x % 1000) (decimal (x % 1000)) (are_digits (x % 1000) small) small
