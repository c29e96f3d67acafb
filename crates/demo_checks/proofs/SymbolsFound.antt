-- Names in the source of a demo: their places, and their values.
use Rattle.std.proofs.Common.{◌≡◌, ℕ, zero, suc, ◌+◌, ◌≤◌, false, List, [], ◌∷◌, ◌++◌, length, map, Some, pos, refl, ap, ◌∙◌, arith}
use Rattle.std.specs.Prelude.{nat_lt, codes, slice_index_or}
use Rattle.std.specs.List.{position_from}
use Rattle.std.proofs.lemmas.Bool.Decides.{nat_tests}
use Rattle.layout_params.specs.Parameters.{Parameters, standard}
use Rattle.sil_symbols.specs.declared.stmt.Stmt.{Stmt}
use Rattle.sil_symbols.specs.StatementParts.{part_of, is_format}
use Rattle.sil_symbols.specs.Expressions.{bounded}
use Rattle.sil_symbols.specs.Labels.{defines, labelled, origin}
use Rattle.sil_symbols.specs.NameValues.{Meaning, Fixed, meanings, meaning_of, outcome_within}
use Rattle.sil_symbols.specs.Addresses.{addresses_from, spot_after, first_spot}
use Rattle.sil_symbols.specs.Symbols.{names_with, size_names, addresses, names_of, format_of}
use Rattle.sil_symbols.specs.SymbolRules.{is_over}
use Rattle.demo_checks.proofs.Bodies.{IsBody}
use Rattle.demo_checks.proofs.Forms.{AllBody, tail_stmts}

-- ---- places

unlabelled : (name : List ℕ) (s : Stmt) → IsBody s → defines name s ≡ false
unlabelled name s body = rw body.unlabelled refl

label_skip : (name : List ℕ) (i n : ℕ) (body tail : List Stmt) → AllBody body → n ≡ i + length body → position_from (defines name) i (body ++ tail) ≡ position_from (defines name) n tail
label_skip name i n [] tail all size = let same : i ≡ n = omega arith in ap (λ k. position_from (defines name) k tail) same
label_skip name i n (s ∷ body) tail all size = rw (unlabelled name s all.0) (label_skip name (i + 1) n body tail all.1 (omega arith))

-- where the labels stand
pub record HasLabels (n : ℕ) (source : List Stmt) : Type 0 where
  pub x : labelled source (codes "X") ≡ Some (n + 1 + 1)
  pub y : labelled source (codes "Y") ≡ Some (n + 1 + 1 + 1)
  pub z : labelled source (codes "Z") ≡ Some (n + 1 + 1 + 1 + 1)
  pub u : labelled source (codes "U") ≡ Some (n + 1 + 1 + 1 + 1 + 1)
  pub f : labelled source (codes "F") ≡ Some (n + 1 + 1 + 1 + 1 + 1 + 1)

pub labels_found : (n count : ℕ) (body : List Stmt) → AllBody body → n ≡ length body → HasLabels n (body ++ tail_stmts count)
labels_found n count body all size =
    let size' : n ≡ 0 + length body = omega arith in
    record {
      x = label_skip (codes "X") 0 n body (tail_stmts count) all size';
      y = label_skip (codes "Y") 0 n body (tail_stmts count) all size';
      z = label_skip (codes "Z") 0 n body (tail_stmts count) all size';
      u = label_skip (codes "U") 0 n body (tail_stmts count) all size';
      f = label_skip (codes "F") 0 n body (tail_stmts count) all size';
    }

-- ---- addresses

meaning_skip : (source : List Stmt) (none : Meaning) (k n i j : ℕ) (body tail : List Stmt) → AllBody body → j ≡ length body + i → n ≡ k + length body
    → slice_index_or (meanings (addresses_from 16 (size_names standard source) (record first_spot { statements = k }) (body ++ tail)) (body ++ tail)) j none
    ≡ slice_index_or (meanings (addresses_from 16 (size_names standard source) (record first_spot { statements = n }) tail) tail) i none
meaning_skip source none k n i j [] tail all at size =
    let same : k ≡ n = omega arith in
    let here : j ≡ i = omega arith in
    rw (same, here) refl
meaning_skip source none k n i j (s ∷ body) tail all at size =
    let next : j ≡ suc (length body + i) = omega arith in
    rw (next, all.0.step source k) (meaning_skip source none (k + 1) n i (length body + i) body tail all.1 refl (omega arith))

spot_skip : (source : List Stmt) (k n : ℕ) (body tail : List Stmt) → AllBody body → n ≡ k + length body
    → spot_after 16 (size_names standard source) (record first_spot { statements = k }) (body ++ tail) ≡ spot_after 16 (size_names standard source) (record first_spot { statements = n }) tail
spot_skip source k n [] tail all size = let same : k ≡ n = omega arith in rw same refl
spot_skip source k n (s ∷ body) tail all size =
    ap (λ spot. spot_after 16 (size_names standard source) spot (body ++ tail)) (all.0.step source k) ∙ spot_skip source (k + 1) n body tail all.1 (omega arith)

formats_skip : (i j : ℕ) (body tail : List Stmt) → j ≡ length body + i → slice_index_or (map (λ s. is_format (part_of s.name)) (body ++ tail)) j false ≡ slice_index_or (map (λ s. is_format (part_of s.name)) tail) i false
formats_skip i j [] tail at = let here : j ≡ i = omega arith in rw here refl
formats_skip i j (s ∷ body) tail at =
    let next : j ≡ suc (length body + i) = omega arith in
    rw next (formats_skip i (length body + i) body tail refl)

-- ---- values

fixed_value : (k z : ℕ) (means : List ℕ → Meaning) (name : List ℕ) → means name ≡ Fixed (bounded (pos z)) → outcome_within k means name ≡ bounded (pos z)
unfolding outcome_within
fixed_value zero z means name h = rw h refl
fixed_value (suc k) z means name h = rw h refl

value_named : (p : Parameters) (source : List Stmt) (name : List ℕ) (z : ℕ) → meaning_of (meanings (addresses p source) source) (origin p source name) ≡ Fixed (bounded (pos z)) → names_of p source name ≡ bounded (pos z)
unfolding names_of names_with
value_named p source name z h =
    fixed_value (length source) z (λ name. meaning_of (meanings (addresses p source) source) (origin p source name)) name h

pub record HasValues (source : List Stmt) : Type 0 where
  pub x : names_of standard source (codes "X") ≡ bounded (pos 1073741824)
  pub y : names_of standard source (codes "Y") ≡ bounded (pos 1073741840)
  pub z : names_of standard source (codes "Z") ≡ bounded (pos 1073741856)
  pub u : names_of standard source (codes "U") ≡ bounded (pos 1073741872)
  pub f : names_of standard source (codes "F") ≡ bounded (pos 1073741888)
  pub unit : names_of standard source (codes "UNITO") ≡ bounded (pos 6)

pub values_found : (n count : ℕ) (body : List Stmt) → AllBody body → n ≡ length body → HasValues (body ++ tail_stmts count)
values_found n count body all size =
    let labels = labels_found n count body all size in
    record {
      x = value_named standard (body ++ tail_stmts count) (codes "X") 1073741824 (rw labels.x (meaning_skip (body ++ tail_stmts count) _ 0 n 2 (n + 1 + 1) body (tail_stmts count) all (omega arith) (omega arith)));
      y = value_named standard (body ++ tail_stmts count) (codes "Y") 1073741840 (rw labels.y (meaning_skip (body ++ tail_stmts count) _ 0 n 3 (n + 1 + 1 + 1) body (tail_stmts count) all (omega arith) (omega arith)));
      z = value_named standard (body ++ tail_stmts count) (codes "Z") 1073741856 (rw labels.z (meaning_skip (body ++ tail_stmts count) _ 0 n 4 (n + 1 + 1 + 1 + 1) body (tail_stmts count) all (omega arith) (omega arith)));
      u = value_named standard (body ++ tail_stmts count) (codes "U") 1073741872 (rw labels.u (meaning_skip (body ++ tail_stmts count) _ 0 n 5 (n + 1 + 1 + 1 + 1 + 1) body (tail_stmts count) all (omega arith) (omega arith)));
      f = value_named standard (body ++ tail_stmts count) (codes "F") 1073741888 (rw labels.f (meaning_skip (body ++ tail_stmts count) _ 0 n 6 (n + 1 + 1 + 1 + 1 + 1 + 1) body (tail_stmts count) all (omega arith) (omega arith)));
      unit = value_named standard (body ++ tail_stmts count) (codes "UNITO") 6 refl;
    }

-- ---- the limits

few_statements : (n : ℕ) → n ≤ 16000 → nat_lt 16384 (n + 1 + 1) ≡ false
few_statements n h = grind (arith, nat_tests)

pub within_limits : (n count : ℕ) (body : List Stmt) → n ≤ 16000 → AllBody body → n ≡ length body → is_over standard (body ++ tail_stmts count) ≡ false
within_limits n count body few all size =
    rw (spot_skip (body ++ tail_stmts count) 0 n body (tail_stmts count) all (omega arith), few_statements n few) refl

-- the FORMAT is found
pub format_found : (n count : ℕ) (body : List Stmt) → AllBody body → n ≡ length body → format_of (body ++ tail_stmts count) (codes "F") ≡ Some (n + 1 + 1 + 1 + 1 + 1 + 1)
format_found n count body all size =
    rw ((labels_found n count body all size).f, formats_skip 6 (n + 1 + 1 + 1 + 1 + 1 + 1) body (tail_stmts count) (omega arith)) refl
