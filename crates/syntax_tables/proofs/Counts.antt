-- How many tables there are.
use Rattle.std.proofs.Common.{◌≡◌, ℕ, suc, ◌+◌, ◌≤◌, Bool, false, cond, List, [], ◌∷◌, length, Option, Some, None, refl, ap, eqb, arith}
use Rattle.std.specs.List.{list_any}
use Rattle.std.specs.Prelude.{take}
use Rattle.std.proofs.lemmas.Bool.Decides.{nat_tests}
use Rattle.sil_base.specs.Names.{is_word}
use Rattle.sil_base.specs.declared.line.Fault.{Fault}
use Rattle.sil_model.specs.declared.table.Table.{Table}
use Rattle.syntax_tables.specs.TableFiles.{names_in, onto_names}
use Rattle.syntax_tables.specs.Tables.{Values, table_of, tables_in, onto_tables, with_fault, broken_by, broken_by_name, count_after, faults_from}
use Rattle.syntax_tables.specs.declared.saying.Saying.{Saying}
use Rattle.syntax_tables.specs.declared.saying.Saying.TheVariants.{Begin, For, Else, End}
use Rattle.syntax_tables.specs.declared.saying.Said.{Said}

onto_count : (s : Saying) (table : Table) (tables : List Table) (names : List (List ℕ)) → length tables ≡ length names → length (onto_tables s table tables) ≡ length (onto_names s names)
onto_count (Begin name) table tables names h = ap suc h
onto_count (For class rule) table tables names h = h
onto_count (Else rule) table tables names h = h
onto_count (End name) table tables names h = h

pub tables_count : (value : Values) (names : List (List ℕ)) (lines : List Said) → length (tables_in value names lines) ≡ length (names_in lines)
tables_count value names [] = refl
tables_count value names (said ∷ lines) =
    onto_count said.saying (table_of value names lines) (tables_in value names lines) (names_in lines) (tables_count value names lines)

none_of : (line : ℕ) (o : Option ℕ) (rest : List Fault) → with_fault line o rest ≡ [] → (o ≡ None) × (rest ≡ [])
none_of line None rest h = (refl, h)
none_of line (Some rule) rest h = cc

not_full : (earlier full : Bool) → cond {A = Option ℕ} earlier (Some 3) (cond full (Some 4) None) ≡ None → full ≡ false
not_full earlier full h = grind arith

one_more : (names : List (List ℕ)) (count : ℕ) (name : List ℕ) → count ≤ 256 → broken_by_name names count name ≡ None → count + 1 ≤ 256
one_more names count name few h =
    let below = not_full (list_any (is_word name) (take count names)) (eqb count 256) h in
    grind (arith, nat_tests)

few_more : (value : Values) (names : List (List ℕ)) (count : ℕ) (s : Saying) (later : List (List ℕ)) → count ≤ 256 → broken_by value names count s ≡ None → (count_after count s ≤ 256 → count_after count s + length later ≤ 256) → count + length (onto_names s later) ≤ 256
few_more value names count (Begin name) later few h more = omega (arith, more (one_more names count name few h))
few_more value names count (For class rule) later few h more = more few
few_more value names count (Else rule) later few h more = more few
few_more value names count (End name) later few h more = more few

-- without a fault there are at most 256 tables
pub few_names : (value : Values) (names : List (List ℕ)) (count : ℕ) (lines : List Said) → count ≤ 256 → faults_from value names count lines ≡ [] → count + length (names_in lines) ≤ 256
few_names value names count [] few h = omega arith
few_names value names count (said ∷ lines) few h =
    let n = none_of said.line (broken_by value names count said.saying) (faults_from value names (count_after count said.saying) lines) h in
    few_more value names count said.saying (names_in lines) few n.0 (λ more. few_names value names (count_after count said.saying) lines more n.1)
