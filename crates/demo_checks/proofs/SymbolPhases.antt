-- The faults of names and of values: there are none.
use Rattle.std.proofs.Common.{◌≡◌, ℕ, ◌+◌, ◌*◌, ◌<◌, ◌≤◌, ◌^◌, Bool, true, false, eqb, List, [], ◌++◌, length, None, refl, arith}
use Rattle.std.specs.Prelude.{nat_lt, is_none}
use Rattle.std.proofs.lemmas.Bool.Decides.{nat_tests}
use Rattle.layout_params.specs.Parameters.{standard}
use Rattle.layout_params.specs.ParameterSymbols.{symbol_of}
use Rattle.sil_symbols.specs.declared.stmt.Stmt.{Stmt}
use Rattle.sil_symbols.specs.Expressions.{outcome_of, some_name}
use Rattle.sil_symbols.specs.Labels.{labelled, origin_by}
use Rattle.sil_symbols.specs.Symbols.{names_of, size_names}
use Rattle.sil_symbols.specs.SymbolRules.{name_rule, value_rule, name_faults, value_faults, faults_of, names_no_symbol, lacks_value, is_no_value}
use Rattle.demo_checks.proofs.Bodies.{number_terms, IsBody}
use Rattle.demo_checks.proofs.Forms.{AllBody, tail_stmts, KeepsTail, all_clean}
use Rattle.demo_checks.proofs.SymbolsFound.{HasLabels, labels_found, HasValues, values_found, within_limits}

same : (n : ℕ) → eqb n n ≡ true
same n = grind (arith, nat_tests)

-- ---- names

known : (source : List Stmt) (n : ℕ) (labels : HasLabels n source) (s : Stmt) → IsBody s → names_no_symbol (symbol_of standard) (labelled source) s ≡ false
known source n labels s body =
    body.expressions (some_name (λ name. is_none (origin_by (symbol_of standard name) (labelled source name)))) (rw labels.x refl) (rw labels.y refl) (λ m h. refl)

name_kept : (source : List Stmt) (n : ℕ) (labels : HasLabels n source) (place : ℕ) (s : Stmt) → IsBody s → name_rule (symbol_of standard) (labelled source) place s ≡ None
name_kept source n labels place s body = rw (body.unlabelled, known source n labels s body, body.no_equation) refl

name_tail : (source : List Stmt) (n count : ℕ) → HasLabels n source → KeepsTail (name_rule (symbol_of standard) (labelled source)) n count
name_tail source n count labels = record {
  output = rw (labels.u, labels.f, labels.x) refl;
  endex = rw labels.z refl;
  x = rw (labels.x, same (n + 1 + 1)) refl;
  y = rw (labels.y, same (n + 1 + 1 + 1)) refl;
  z = rw (labels.z, same (n + 1 + 1 + 1 + 1)) refl;
  u = rw (labels.u, same (n + 1 + 1 + 1 + 1 + 1)) refl;
  f = rw (labels.f, same (n + 1 + 1 + 1 + 1 + 1 + 1)) refl;
  end = refl;
}

no_names : (n count : ℕ) (body : List Stmt) → AllBody body → n ≡ length body → name_faults standard (body ++ tail_stmts count) ≡ []
unfolding name_faults
no_names n count body all size =
    let labels = labels_found n count body all size in
    all_clean 78 (name_rule (symbol_of standard) (labelled (body ++ tail_stmts count))) n count body (name_kept (body ++ tail_stmts count) n labels) (name_tail (body ++ tail_stmts count) n count labels) all size

-- ---- values

number_has_value : (source : List Stmt) (m : ℕ) → m < 1000 → is_no_value (outcome_of (names_of standard source) (number_terms m)) ≡ false
number_has_value source m small =
    let first : nat_lt m (2 ^ 63) ≡ true = grind (arith, nat_tests) in
    let second : nat_lt (1 * m) (2 ^ 63) ≡ true = grind (arith, nat_tests) in
    let third : nat_lt (0 + 1 * m) (2 ^ 63) ≡ true = grind (arith, nat_tests) in
    rw (first, second, third) refl

valued : (source : List Stmt) (v : HasValues source) (s : Stmt) → IsBody s → lacks_value (names_of standard source) s ≡ false
valued source v s body =
    body.expressions (λ terms. is_no_value (outcome_of (names_of standard source) terms)) (rw v.x refl) (rw v.y refl) (number_has_value source)

value_kept : (source : List Stmt) (v : HasValues source) (over : Bool) (place : ℕ) (s : Stmt) → IsBody s → value_rule (size_names standard source) (names_of standard source) over place s ≡ None
value_kept source v over place s body = rw (body.no_circle source, body.no_size source, valued source v s body, body.no_end) refl

value_tail : (source : List Stmt) (v : HasValues source) (n count : ℕ) → KeepsTail (value_rule (size_names standard source) (names_of standard source) false) n count
value_tail source v n count = record {
  output = rw (v.u, v.f, v.x) refl;
  endex = rw v.z refl;
  x = refl;
  y = refl;
  z = refl;
  u = rw v.unit refl;
  f = refl;
  end = refl;
}

no_values : (n count : ℕ) (body : List Stmt) → n ≤ 16000 → AllBody body → n ≡ length body → value_faults standard (body ++ tail_stmts count) ≡ []
unfolding value_faults
no_values n count body few all size =
    let v = values_found n count body all size in
    rw (within_limits n count body few all size)
    (all_clean 86 (value_rule (size_names standard (body ++ tail_stmts count)) (names_of standard (body ++ tail_stmts count)) false) n count body (value_kept (body ++ tail_stmts count) v false) (value_tail (body ++ tail_stmts count) v n count) all size)

pub no_symbol_faults : (n count : ℕ) (body : List Stmt) → n ≤ 16000 → AllBody body → n ≡ length body → faults_of standard (body ++ tail_stmts count) ≡ []
no_symbol_faults n count body few all size = rw (no_names n count body all size, no_values n count body few all size) refl
