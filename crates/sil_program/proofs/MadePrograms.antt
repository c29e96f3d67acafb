-- A source without faults has a program.
use Rattle.std.proofs.Common.{◌≡◌, ℕ, zero, suc, ◌+◌, Bool, true, false, cond, not, ◌&&◌, ◌||◌, List, [], ◌∷◌, ◌++◌, length, get_or, map, Option, Some, None, refl, sym, ap, subst, ◌∙◌, true≢false}
use Rattle.std.specs.Prelude.{All, is_none, is_some, option_map, option_and_then, slice_get, ℤ}
use Rattle.std.specs.List.{list_any, list_all}
use Rattle.std.proofs.lemmas.List.Elements.{All-nil, All-cons, All-head, All-tail, All-weaker}
use Rattle.layout_params.specs.Parameters.{Parameters}
use Rattle.sil_base.specs.declared.line.Fault.{Fault}
use Rattle.sil_macros.specs.declared.names.Macro.{Macro}
use Rattle.sil_macros.specs.declared.names.Macro.TheVariants as macros
use Rattle.sil_macros.specs.MacroRows.{row}
use Rattle.sil_operands.specs.declared.expr.Factor.{Factor}
use Rattle.sil_operands.specs.declared.expr.Factor.TheVariants.{Name, Number}
use Rattle.sil_operands.specs.declared.expr.Term.{Term}
use Rattle.sil_operands.specs.Simple.{named_alone}
use Rattle.sil_symbols.specs.declared.outcome.Outcome.{Outcome}
use Rattle.sil_symbols.specs.declared.outcome.Outcome.TheVariants.{Value, NoValue, Circular}
use Rattle.sil_symbols.specs.declared.stmt.Stmt.{Stmt}
use Rattle.sil_symbols.specs.StatementParts.{part_of, is_end, is_format, is_unread}
use Rattle.sil_symbols.specs.Expressions.{outcome_of, factor_names, some_name, is_circular}
use Rattle.sil_symbols.specs.Labels.{labelled}
use Rattle.sil_symbols.specs.Symbols.{names_of, size_names, value_in, value_of, format_of}
use Rattle.sil_symbols.specs.SymbolRules.{expressions_at, expressions_of, is_circular_equation, lacks_size, lacks_value, is_no_value, is_over, value_rule, with_fault, faults_from, name_faults, value_faults, first_faults, faults_of}
use Rattle.sil_symbols.proofs.Agreement.{outcome_of-known}
use Rattle.sil_shapes.specs.Shapes.{fits, fits_places, takes_text}
use Rattle.sil_shapes.specs.ShapeRules.{measure_of, operands_rule, statement_rule, statement_faults}
use Rattle.data_asm.specs.DataFields.{first_text}
use Rattle.data_asm.specs.Cells.{static_cells_of}
use Rattle.syntax_tables.specs.declared.saying.Said.{Said}
use Rattle.syntax_tables.specs.TableFiles.{names_in, table_named}
use Rattle.syntax_tables.specs.Tables as files
use Rattle.sil_arguments.specs.MadeArguments.{Scope, text_at, scope_of, args_of, and_before}
use Rattle.sil_program.specs.TableFaults.{goes_astray, table_rule, operand_faults, table_faults}
use Rattle.sil_program.specs.Programs.{statement_with, machine_statement, machine_statements, program_with, program_over, program_of}
use Rattle.sil_program.specs.ProgramLaws.{LawOfPrograms}
use Rattle.sil_program.proofs.Circles.{no_circle}
use Rattle.sil_program.proofs.MadeOperands.{IsThere, HasTexts, there_mapped, there_before, neither, operands_there}

-- ---- statements that break no rule

no_fault : (letter card : ℕ) (o : Option ℕ) (rest : List Fault) → with_fault letter card o rest ≡ [] → (o ≡ None) × (rest ≡ [])
no_fault letter card None rest h = (refl, h)
no_fault letter card (Some rule) rest h = let no : ⊥ = cc in absurd no

none_broken : (letter : ℕ) (rule : ℕ → Stmt → Option ℕ) (P : Stmt → Type 0) → ((i : ℕ) (s : Stmt) → rule i s ≡ None → P s) → (place : ℕ) (source : List Stmt) → faults_from letter rule place source ≡ [] → All P source
none_broken letter rule P each place [] h = All-nil P
none_broken letter rule P each place (s ∷ source) h =
    let (this, others) = no_fault letter s.card (rule place s) (faults_from letter rule (place + 1) source) h in
    All-cons P s source (each place s this) (none_broken letter rule P each (place + 1) source others)

first_none : (names values : List Fault) → first_faults names values ≡ [] → values ≡ []
first_none [] values h = h
first_none (fault ∷ names) values h = let no : ⊥ = cc in absurd no

front_none : {A : Type 0} (xs ys : List A) → xs ++ ys ≡ [] → xs ≡ []
front_none [] ys h = refl
front_none (x ∷ xs) ys h = let no : ⊥ = cc in absurd no

-- the first of four rules that is broken
abbrev first_broken : Bool → Bool → Bool → Bool → Option ℕ
first_broken a b c d = cond a (Some 1) (cond b (Some 2) (cond c (Some 3) (cond d (Some 4) None)))

-- where none is, V1 and V3 aren't
first_and_third : (a b c d : Bool) → first_broken a b c d ≡ None → (a ≡ false) × (c ≡ false)
first_and_third true b c d h = let no : ⊥ = cc in absurd no
first_and_third false true c d h = let no : ⊥ = cc in absurd no
first_and_third false false true d h = let no : ⊥ = cc in absurd no
first_and_third false false false d h = (refl, refl)

-- S1 isn't broken, and what is left
fits_first : (b : Bool) (rest : Option ℕ) → cond (not b) (Some 1) rest ≡ None → (b ≡ true) × (rest ≡ None)
fits_first true rest h = (refl, h)
fits_first false rest h = let no : ⊥ = cc in absurd no

unbroken_test : (b : Bool) (rule : ℕ) → cond b (Some rule) None ≡ None → b ≡ false
unbroken_test true rule h = let no : ⊥ = cc in absurd no
unbroken_test false rule h = refl

-- ---- values

module _ (f : List ℕ → Outcome) (clear : (name : List ℕ) → is_circular (f name) ≡ false) where
  clear_factors : (factors : List Factor) → list_any (factor_names (λ name. is_circular (f name))) factors ≡ false
  clear_factors [] = refl
  clear_factors (Number n ∷ factors) = clear_factors factors
  clear_factors (Name name ∷ factors) = ap (λ b. b || list_any (factor_names (λ name. is_circular (f name))) factors) (clear name) ∙ clear_factors factors

  clear_terms : (terms : List Term) → some_name (λ name. is_circular (f name)) terms ≡ false
  clear_terms [] = refl
  clear_terms (term ∷ terms) = ap (λ b. b || some_name (λ name. is_circular (f name)) terms) (clear_factors term.factors) ∙ clear_terms terms

  value_there : (o : Outcome) → is_circular o ≡ false → is_no_value o ≡ false → IsThere (value_in o)
  value_there (Value z) h k = refl
  value_there NoValue h k = absurd (true≢false k)
  value_there Circular h k = absurd (true≢false h)

  values_there : (expressions : List (List Term)) → list_any (λ terms. is_no_value (outcome_of f terms)) expressions ≡ false → All (λ terms. IsThere (value_in (outcome_of f terms))) expressions
  values_there [] h = All-nil (λ terms. IsThere (value_in (outcome_of f terms)))
  values_there (terms ∷ expressions) h =
      let (here, rest) = neither (is_no_value (outcome_of f terms)) (list_any (λ terms. is_no_value (outcome_of f terms)) expressions) h in
      All-cons (λ terms. IsThere (value_in (outcome_of f terms))) terms expressions
      (value_there (outcome_of f terms) (outcome_of-known f terms (clear_terms terms)) here) (values_there expressions rest)

-- ---- FORMAT statements

marked_there : {A : Type 0} (test : A → Bool) (xs : List A) (i : ℕ) → get_or (map test xs) i false ≡ true → IsThere (slice_get xs i)
marked_there test [] i h = absurd (true≢false (sym h))
marked_there test (x ∷ xs) zero h = refl
marked_there test (x ∷ xs) (suc i) h = marked_there test xs i h

abbrev found_format : List Stmt → Option ℕ → Option ℕ
found_format source place = option_and_then (λ i. cond (get_or (map (λ s. is_format (part_of s.name)) source) i false) (Some i) None) place

text_there : (source : List Stmt) (place : Option ℕ) → IsThere (found_format source place) → IsThere (option_and_then (text_at source) (found_format source place))
text_there source None h = absurd (true≢false h)
text_there source (Some i) h = by (get_or (map (λ s. is_format (part_of s.name)) source) i false) refl h
  where
    by : (b : Bool) → get_or (map (λ s. is_format (part_of s.name)) source) i false ≡ b → IsThere (cond b (Some i) None) → IsThere (option_and_then (text_at source) (cond b (Some i) None))
    by true is h = there_mapped (λ s. first_text s.operands) (slice_get source i) (marked_there (λ s. is_format (part_of s.name)) source i is)
    by false is h = absurd (true≢false h)

texts_there : (p : Parameters) (source : List Stmt) (lines : List Said) → HasTexts (scope_of p source lines)
texts_there p source lines terms = by (named_alone terms)
  where
    by : (name : Option (List ℕ)) → IsThere (option_and_then (format_of source) name) → IsThere (option_and_then (text_at source) (option_and_then (format_of source) name))
    by None h = absurd (true≢false h)
    by (Some name) h = text_there source (labelled source name) h

-- ---- executable statements

-- their operands are read, and none of them is a text
read_or_assembly : (name : Macro) → ((row name).assembly || (not (is_unread (part_of name)) && list_all (λ place. not (takes_text place.kind)) (row name).places)) ≡ true
read_or_assembly macros.Acomp = refl
read_or_assembly _ = refl

read : (a b c : Bool) → (a || (not b && c)) ≡ true → a ≡ false → (b ≡ false) × (c ≡ true)
read true b c h k = absurd (true≢false k)
read false true c h k = absurd (true≢false (sym h))
read false false c h k = (refl, h)

-- what a statement without faults meets
pub record IsFaultless (p : Parameters) (source : List Stmt) (lines : List Said) (s : Stmt) : Type 0 where
  pub values : list_any (λ terms. is_no_value (outcome_of (names_of p source) terms)) (expressions_of s) ≡ false
  pub shape : fits s.name s.operands ≡ true
  pub rules : operands_rule (measure_of p source) (row s.name).places s.operands ≡ None
  pub tables : goes_astray (table_named (names_in lines)) (row s.name).places s.operands ≡ false

module _ (p : Parameters) (source : List Stmt) (lines : List Said) (clear : (name : List ℕ) → is_circular (names_of p source name) ≡ false) where
  read_expressions : (s : Stmt) → is_unread (part_of s.name) ≡ false → expressions_of s ≡ expressions_at (row s.name).places s.operands
  read_expressions s h = ap (λ b. cond b [] (expressions_at (row s.name).places s.operands)) h

  statement_there : (s : Stmt) → IsFaultless p source lines s → (row s.name).assembly ≡ false → IsThere (machine_statement (scope_of p source lines) s)
  unfolding fits
  statement_there s sound executable =
      let (unread, textless) = read (row s.name).assembly (is_unread (part_of s.name)) (list_all (λ place. not (takes_text place.kind)) (row s.name).places) (read_or_assembly s.name) executable in
      let values = values_there (names_of p source) clear (expressions_of s) sound.values in
      let here = subst (λ (es : List (List Term)). All (λ terms. IsThere (value_in (outcome_of (names_of p source) terms))) es) (read_expressions s unread) values in
      there_mapped (statement_with s) (args_of (scope_of p source lines) (row s.name).places s.operands)
      (operands_there (scope_of p source lines) (texts_there p source lines) (row s.name).places s.operands textless sound.shape sound.rules sound.tables here)

  statements_there : (statements : List Stmt) → All (IsFaultless p source lines) statements → IsThere (machine_statements (scope_of p source lines) statements)
  statements_there [] all = refl
  statements_there (s ∷ statements) all =
      by (row s.name).assembly (statement_there s (All-head (IsFaultless p source lines) s statements all)) (statements_there statements (All-tail (IsFaultless p source lines) s statements all))
    where
      by : (b : Bool) → (b ≡ false → IsThere (machine_statement (scope_of p source lines) s)) → IsThere (machine_statements (scope_of p source lines) statements) →
          IsThere (cond b (machine_statements (scope_of p source lines) statements) (and_before (machine_statement (scope_of p source lines) s) (machine_statements (scope_of p source lines) statements)))
      by true this rest = rest
      by false this rest = there_before (machine_statement (scope_of p source lines) s) (machine_statements (scope_of p source lines) statements) (this refl) rest

-- ---- the law

all_three : {A : Type 0} (P Q R T : A → Type 0) → ((x : A) → P x → Q x → R x → T x) → (xs : List A) → All P xs → All Q xs → All R xs → All T xs
all_three P Q R T step [] h k l = All-nil T
all_three P Q R T step (x ∷ xs) h k l =
    All-cons T x xs (step x (All-head P x xs h) (All-head Q x xs k) (All-head R x xs l)) (all_three P Q R T step xs (All-tail P x xs h) (All-tail Q x xs k) (All-tail R x xs l))

module _ (p : Parameters) (source : List Stmt) (lines : List Said) where
  abbrev KeepsValues : Stmt → Type 0
  KeepsValues s = (is_circular_equation (names_of p source) s ≡ false) × (lacks_value (names_of p source) s ≡ false)

  abbrev KeepsShape : Stmt → Type 0
  KeepsShape s = (fits s.name s.operands ≡ true) × (operands_rule (measure_of p source) (row s.name).places s.operands ≡ None)

  abbrev KeepsTables : Stmt → Type 0
  KeepsTables s = goes_astray (table_named (names_in lines)) (row s.name).places s.operands ≡ false

  keep_values : faults_of p source ≡ [] → All KeepsValues source
  unfolding value_faults
  keep_values h =
      none_broken 86 (value_rule (size_names p source) (names_of p source) (is_over p source)) KeepsValues
      (λ i s none. first_and_third (is_circular_equation (names_of p source) s) (lacks_size (size_names p source) s) (lacks_value (names_of p source) s) (is_end (part_of s.name) && is_over p source) none)
      0 source (first_none (name_faults p source) (value_faults p source) h)

  keep_shapes : statement_faults p source ≡ [] → All KeepsShape source
  unfolding statement_faults
  keep_shapes h =
      none_broken 83 (statement_rule (measure_of p source)) KeepsShape
      (λ i s none. fits_first (fits s.name s.operands) (operands_rule (measure_of p source) (row s.name).places s.operands) none) 0 source h

  keep_tables : table_faults p source lines ≡ [] → All KeepsTables source
  unfolding operand_faults
  keep_tables h =
      none_broken 84 (table_rule (table_named (names_in lines))) KeepsTables
      (λ i s none. unbroken_test (goes_astray (table_named (names_in lines)) (row s.name).places s.operands) 7 none) 0 source
      (front_none (operand_faults (table_named (names_in lines)) source) (files.faults_of (value_of p source) lines) h)

  faultless : (s : Stmt) → KeepsValues s → KeepsShape s → KeepsTables s → IsFaultless p source lines s
  faultless s v k named = record { values = v.1; shape = k.0; rules = k.1; tables = named }

  program_there : faults_of p source ≡ [] → statement_faults p source ≡ [] → table_faults p source lines ≡ [] → IsThere (program_of p source lines)
  unfolding program_of
  program_there values shapes named =
      let kept = keep_values values in
      let clear = no_circle p source (All-weaker KeepsValues (λ s. is_circular_equation (names_of p source) s ≡ false) (λ s k. k.0) source kept) in
      there_mapped (program_with p source lines (static_cells_of p source)) (machine_statements (scope_of p source lines) source)
      (statements_there p source lines clear source (all_three KeepsValues KeepsShape KeepsTables (IsFaultless p source lines) faultless source kept (keep_shapes shapes) (keep_tables named)))

some : {A : Type 0} (o : Option A) → IsThere o → is_some o ≡ true
some None h = absurd (true≢false h)
some (Some x) h = refl

pub programs_are_made : LawOfPrograms
programs_are_made p source lines values shapes named = some (program_of p source lines) (program_there p source lines values shapes named)
