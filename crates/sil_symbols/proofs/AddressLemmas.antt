-- Where the labels of a source without faults stand.
use Rattle.std.proofs.Common.{◌≡◌, ℕ, zero, suc, ◌+◌, ◌*◌, ◌<◌, ◌≤◌, ◌^◌, Bool, true, false, cond, not, ◌&&◌, List, [], ◌∷◌, ◌++◌, map, length, Option, Some, None, is_some, pos, refl, sym, subst, ap, ◌∙◌, arith, append_assoc}
use Rattle.std.specs.Prelude.{ℤ, nat_lt, slice_index_or, sum_by, unwrap_or}
use Rattle.std.proofs.lemmas.Bool.Decides.{nat_tests}
use Rattle.std.proofs.lemmas.List.Sums.{sum_by-cons, sum_by-append}
use Rattle.std.proofs.Math.Nat.{mul-le-mul_left}
use Rattle.layout_params.specs.Parameters.{Parameters}
use Rattle.layout_params.specs.ParameterSymbols.{symbol_of}
use Rattle.sil_base.specs.declared.line.Fault.{Fault}
use Rattle.sil_base.specs.declared.places.TheConstants.{FIRST_CELL, FIRST_ENTRY}
use Rattle.sil_symbols.specs.declared.addresses.Spot.{Spot}
use Rattle.sil_symbols.specs.declared.origin.Origin.{Origin}
use Rattle.sil_symbols.specs.declared.origin.Origin.TheVariants.{Parameter, Label}
use Rattle.sil_symbols.specs.declared.outcome.Outcome.{Outcome}
use Rattle.sil_symbols.specs.declared.outcome.Outcome.TheVariants.{Value, NoValue, Circular}
use Rattle.sil_symbols.specs.declared.part.Part.{Part}
use Rattle.sil_symbols.specs.declared.part.Part.TheVariants.{Equation, Here, Unread, End, Descriptors, Array, Buffer, String, Format, Executable}
use Rattle.sil_symbols.specs.declared.stmt.Stmt.{Stmt}
use Rattle.sil_symbols.specs.StatementParts.{part_of, is_data, is_executable, is_equation}
use Rattle.sil_symbols.specs.Expressions.{bounded}
use Rattle.sil_symbols.specs.Labels.{is_labelled, labelled, origin, origin_by}
use Rattle.sil_symbols.specs.NameValues.{Meaning, Fixed, Equals, first_expression, equation_by, meaning_at, meanings, meaning_of, outcome_within}
use Rattle.sil_symbols.specs.Addresses.{size_of, text_length, part_cells, cells_of, past_part, past, label_address, addresses_from, spot_after, first_spot}
use Rattle.sil_symbols.specs.Symbols.{names_with, size_names, addresses, names_of, value_in, value_of_name, extent, IsWithinLimits}
use Rattle.sil_symbols.specs.SymbolRules.{is_defined_again, stands_at, labels_parameter, names_no_symbol, names_nothing, name_rule, with_fault, faults_from, name_faults, value_faults, first_faults, faults_of}
use Rattle.sil_symbols.specs.Laws.{cell_count, statement_count, HasAddress, LawOfAddresses, AreApart, LawOfPlaces}

-- ---- what stands before a statement

past_cells : (part : Part) (descr size text : ℕ) (spot : Spot) → (past_part spot (part_cells descr size text part) part).cells ≡ spot.cells + part_cells descr size text part
past_cells (Descriptors n) descr size text spot = refl
past_cells Array descr size text spot = refl
past_cells Buffer descr size text spot = refl
past_cells String descr size text spot = refl
past_cells Format descr size text spot = refl
past_cells Equation descr size text spot = omega arith
past_cells Here descr size text spot = omega arith
past_cells Unread descr size text spot = omega arith
past_cells End descr size text spot = omega arith
past_cells Executable descr size text spot = omega arith

past_statements : (part : Part) (n : ℕ) (spot : Spot) → (past_part spot n part).statements ≡ spot.statements + cond (is_executable part) 1 0
past_statements (Descriptors n) m spot = omega arith
past_statements Array m spot = omega arith
past_statements Buffer m spot = omega arith
past_statements String m spot = omega arith
past_statements Format m spot = omega arith
past_statements Equation m spot = omega arith
past_statements Here m spot = omega arith
past_statements Unread m spot = omega arith
past_statements End m spot = omega arith
past_statements Executable m spot = refl

module _ (descr : ℕ) (names : List ℕ → Outcome) where
  cells_after : (spot : Spot) (source : List Stmt) → (spot_after descr names spot source).cells ≡ spot.cells + sum_by (cells_of descr names) source
  cells_after spot [] = omega arith
  cells_after spot (s ∷ source) =
      let next = cells_after (past descr names spot s) source in
      let this = past_cells (part_of s.name) descr (unwrap_or (size_of names s) 0) (text_length s.operands) spot in
      omega (arith, next, this, sum_by-cons (cells_of descr names) s source)

  statements_after : (spot : Spot) (source : List Stmt) → (spot_after descr names spot source).statements ≡ spot.statements + statement_count source
  statements_after spot [] = omega arith
  statements_after spot (s ∷ source) =
      let next = statements_after (past descr names spot s) source in
      let this = past_statements (part_of s.name) (cells_of descr names s) spot in
      omega (arith, next, this, sum_by-cons (λ x. cond (is_executable (part_of x.name)) 1 0) s source)

  -- ---- the meaning of a label

  meaning_there : (spot : Spot) (before : List Stmt) (s : Stmt) (after : List Stmt) → slice_index_or (meanings (addresses_from descr names spot (before ++ s ∷ after)) (before ++ s ∷ after)) (length before) (Fixed NoValue) ≡ meaning_at (label_address descr (spot_after descr names spot before) (part_of s.name)) s
  meaning_there spot [] s after = refl
  meaning_there spot (x ∷ before) s after = meaning_there (past descr names spot x) before s after

no_equation : (part : Part) → is_data part ≡ true → is_equation part ≡ false
no_equation Equation h = let no : ⊥ = cc in absurd no
no_equation _ h = refl

no_equation_code : (part : Part) → is_executable part ≡ true → is_equation part ≡ false
no_equation_code Equation h = let no : ⊥ = cc in absurd no
no_equation_code _ h = refl

fixed_by : (b : Bool) (o : Option (List _)) (address : Outcome) → b ≡ false → cond b (equation_by o) (Fixed address) ≡ Fixed address
fixed_by b o address h = rw h refl

fixed_outcome : (n : ℕ) (means : List ℕ → Meaning) (name : List ℕ) (o : Outcome) → means name ≡ Fixed o → outcome_within n means name ≡ o
unfolding outcome_within
fixed_outcome zero means name o h = rw h refl
fixed_outcome (suc n) means name o h = rw h refl

-- ---- where a label comes from

no_fault : (letter card : ℕ) (o : Option ℕ) (rest : List Fault) → with_fault letter card o rest ≡ [] → (o ≡ None) × (rest ≡ [])
no_fault letter card None rest h = (refl, h)
no_fault letter card (Some rule) rest h = let no : ⊥ = cc in absurd no

none_at : (letter : ℕ) (rule : ℕ → Stmt → Option ℕ) (place : ℕ) (before : List Stmt) (s : Stmt) (after : List Stmt) → faults_from letter rule place (before ++ s ∷ after) ≡ [] → rule (place + length before) s ≡ None
none_at letter rule place [] s after h =
    let same : place + 0 ≡ place = omega arith in
    ap (λ n. rule n s) same ∙ (no_fault letter s.card (rule place s) (faults_from letter rule (place + 1) after) h).0
none_at letter rule place (x ∷ before) s after h =
    let same : place + 1 + length before ≡ place + suc (length before) = omega arith in
    ap (λ n. rule n s) (sym same) ∙ none_at letter rule (place + 1) before s after (no_fault letter x.card (rule place x) (faults_from letter rule (place + 1) (before ++ s ∷ after)) h).1

names_clean : (names values : List Fault) → first_faults names values ≡ [] → names ≡ []
names_clean [] values h = refl
names_clean (fault ∷ names) values h = let no : ⊥ = cc in absurd no

abbrev least : Bool → Bool → Bool → Bool → Option ℕ
least a b c d = cond a (Some 1) (cond b (Some 2) (cond c (Some 3) (cond d (Some 4) None)))

first_two : (a b c d : Bool) → least a b c d ≡ None → (a ≡ false) × (b ≡ false)
first_two true b c d h = let no : ⊥ = cc in absurd no
first_two false true c d h = let no : ⊥ = cc in absurd no
first_two false false c d h = (refl, refl)

found_there : (labelled_s : Bool) (place : ℕ) (o : Option ℕ) → labelled_s ≡ true → (labelled_s && not (stands_at place o)) ≡ false → o ≡ Some place
found_there false place o h again = let no : ⊥ = cc in absurd no
found_there true place None h again = let no : ⊥ = cc in absurd no
found_there true place (Some k) h again = let same : k ≡ place = grind (arith, nat_tests) in ap Some same

no_parameter : (labelled_s : Bool) (o : Option ℤ) → labelled_s ≡ true → (labelled_s && is_some o) ≡ false → o ≡ None
no_parameter false o h parameter = let no : ⊥ = cc in absurd no
no_parameter true None h parameter = refl
no_parameter true (Some z) h parameter = let no : ⊥ = cc in absurd no

origin_there : (p : Parameters) (before : List Stmt) (s : Stmt) (after : List Stmt) → faults_of p (before ++ s ∷ after) ≡ [] → is_labelled s ≡ true → origin p (before ++ s ∷ after) s.label ≡ Some (Label (length before))
unfolding name_faults
origin_there p before s after h named =
    let source = before ++ s ∷ after in
    let rule = name_rule (symbol_of p) (labelled source) in
    let none : rule (0 + length before) s ≡ None = none_at 78 rule 0 before s after (names_clean (name_faults p source) (value_faults p source) h) in
    let here : 0 + length before ≡ length before = omega arith in
    let (again, parameter) = first_two (is_defined_again (labelled source) (0 + length before) s) (labels_parameter (symbol_of p) s) (names_no_symbol (symbol_of p) (labelled source) s) (names_nothing s) none in
    let place : labelled source s.label ≡ Some (0 + length before) = found_there (is_labelled s) (0 + length before) (labelled source s.label) named again in
    let symbol : symbol_of p s.label ≡ None = no_parameter (is_labelled s) (symbol_of p s.label) named parameter in
    ap (λ o. origin_by o (labelled source s.label)) symbol ∙ ap (origin_by None) place ∙ ap (λ n. Some (Label n)) here

-- ---- addresses

-- the value of a label that no expression gives
address_there : (p : Parameters) (before : List Stmt) (s : Stmt) (after : List Stmt) → faults_of p (before ++ s ∷ after) ≡ [] → is_labelled s ≡ true → is_equation (part_of s.name) ≡ false →
    names_of p (before ++ s ∷ after) s.label ≡ label_address p.settings.sizes.descr (spot_after p.settings.sizes.descr (size_names p (before ++ s ∷ after)) first_spot before) (part_of s.name)
unfolding names_with names_of
address_there p before s after h named kind =
    let source = before ++ s ∷ after in
    let descr = p.settings.sizes.descr in
    let address = label_address descr (spot_after descr (size_names p source) first_spot before) (part_of s.name) in
    let labels = meanings (addresses p source) source in
    let meaning : meaning_of labels (origin p source s.label) ≡ Fixed address =
    ap (meaning_of labels) (origin_there p before s after h named)
    ∙ meaning_there descr (size_names p source) first_spot before s after
    ∙ fixed_by (is_equation (part_of s.name)) (first_expression s.operands) address kind in
    fixed_outcome (length source) (λ name. meaning_of labels (origin p source name)) s.label address meaning

value_of_bounded : (n : ℕ) → n < 2 ^ 63 → value_in (bounded (pos n)) ≡ Some (pos n)
value_of_bounded n h =
    let below : nat_lt n (2 ^ 63) ≡ true = grind (arith, nat_tests) in
    ap (λ b. value_in (cond b (Value (pos n)) NoValue)) below

data_address : (descr : ℕ) (spot : Spot) (part : Part) → is_data part ≡ true → label_address descr spot part ≡ bounded (pos (FIRST_CELL + spot.cells * descr))
data_address descr spot Equation h = let no : ⊥ = cc in absurd no
data_address descr spot Here h = let no : ⊥ = cc in absurd no
data_address descr spot Unread h = let no : ⊥ = cc in absurd no
data_address descr spot End h = let no : ⊥ = cc in absurd no
data_address descr spot Executable h = let no : ⊥ = cc in absurd no
data_address descr spot _ h = refl

code_address : (descr : ℕ) (spot : Spot) (part : Part) → is_executable part ≡ true → label_address descr spot part ≡ bounded (pos (FIRST_ENTRY + spot.statements * descr))
code_address descr spot Executable h = refl
code_address descr spot _ h = let no : ⊥ = cc in absurd no

small : (n d most : ℕ) → n ≤ most → d ≤ 64 → n * d ≤ most * 64
small n d most few least = omega (arith, mul-le-mul_left n least)

-- as many as in the whole source at most
cells_within : (p : Parameters) (before : List Stmt) (s : Stmt) (after : List Stmt) → IsWithinLimits p (before ++ s ∷ after) → cell_count p (before ++ s ∷ after) before ≤ 2 ^ 20
cells_within p before s after limits =
    let source = before ++ s ∷ after in
    let f = cells_of p.settings.sizes.descr (size_names p source) in
    omega (arith, cells_after p.settings.sizes.descr (size_names p source) first_spot source, sum_by-append f before (s ∷ after), limits.cells)

statements_within : (p : Parameters) (before : List Stmt) (s : Stmt) (after : List Stmt) → IsWithinLimits p (before ++ s ∷ after) → statement_count before ≤ 2 ^ 14
statements_within p before s after limits =
    let source = before ++ s ∷ after in
    let f : Stmt → ℕ = λ x. cond (is_executable (part_of x.name)) 1 0 in
    omega (arith, statements_after p.settings.sizes.descr (size_names p source) first_spot source, sum_by-append f before (s ∷ after), limits.executable)

pub addresses_are : LawOfAddresses
addresses_are p before s after h limits least named =
    let source = before ++ s ∷ after in
    let descr = p.settings.sizes.descr in
    let names = size_names p source in
    let spot = spot_after descr names first_spot before in
    let cells : spot.cells ≡ cell_count p source before = omega (arith, cells_after descr names first_spot before) in
    let statements : spot.statements ≡ statement_count before = omega (arith, statements_after descr names first_spot before) in
    record {
      cell = λ kind.
          let below : FIRST_CELL + spot.cells * descr < 2 ^ 63 = omega (arith, small spot.cells descr (2 ^ 20) (omega (arith, cells, cells_within p before s after limits)) least) in
          ap value_in (address_there p before s after h named (no_equation (part_of s.name) kind) ∙ data_address descr spot (part_of s.name) kind)
          ∙ value_of_bounded (FIRST_CELL + spot.cells * descr) below ∙ ap (λ n. Some (pos (FIRST_CELL + n * descr))) cells;
      entry = λ kind.
          let below : FIRST_ENTRY + spot.statements * descr < 2 ^ 63 = omega (arith, small spot.statements descr (2 ^ 14) (omega (arith, statements, statements_within p before s after limits)) least) in
          ap value_in (address_there p before s after h named (no_equation_code (part_of s.name) kind) ∙ code_address descr spot (part_of s.name) kind)
          ∙ value_of_bounded (FIRST_ENTRY + spot.statements * descr) below ∙ ap (λ n. Some (pos (FIRST_ENTRY + n * descr))) statements;
    }

-- ---- no address twice

same_value : (o : Option ℤ) (a b : ℕ) → o ≡ Some (pos a) → o ≡ Some (pos b) → a ≡ b
same_value o a b h k = let e : Some (pos a) ≡ Some (pos b) = sym h ∙ k in cc

front : (before : List Stmt) (s : Stmt) (between : List Stmt) (t : Stmt) (after : List Stmt) → before ++ s ∷ (between ++ t ∷ after) ≡ (before ++ s ∷ between) ++ t ∷ after
front before s between t after = sym (append_assoc before (s ∷ between) (t ∷ after))

-- the second of two labels
second : (p : Parameters) (before : List Stmt) (s : Stmt) (between : List Stmt) (t : Stmt) (after : List Stmt) → faults_of p (before ++ s ∷ (between ++ t ∷ after)) ≡ [] → IsWithinLimits p (before ++ s ∷ (between ++ t ∷ after)) → p.settings.sizes.descr ≤ 64 → is_labelled t ≡ true
    → HasAddress p (before ++ s ∷ (between ++ t ∷ after)) (before ++ s ∷ between) t
second p before s between t after h limits least named =
    let whole = before ++ s ∷ (between ++ t ∷ after) in
    let same = front before s between t after in
    let there = addresses_are p (before ++ s ∷ between) t after (subst (λ x. faults_of p x ≡ []) same h) (subst (IsWithinLimits p) same limits) least named in
    subst (λ x. HasAddress p x (before ++ s ∷ between) t) (sym same) there

counted : (f : Stmt → ℕ) (before : List Stmt) (s : Stmt) (between : List Stmt) → sum_by f before + f s ≤ sum_by f (before ++ s ∷ between)
counted f before s between = omega (arith, sum_by-append f before (s ∷ between), sum_by-cons f s between)

-- so many more are so many addresses further
further : (a b n descr : ℕ) → a + n ≤ b → a * descr + n * descr ≤ b * descr
further a b n descr h =
    let wide : descr * (a + n) ≤ descr * b = mul-le-mul_left descr h in
    omega (arith, wide)

abbrev one_if : Bool → ℕ
one_if b = cond b 1 0

one_of : (b : Bool) → b ≡ true → one_if b ≡ 1
one_of true h = refl
one_of false h = let no : ⊥ = cc in absurd no

pub places_are : LawOfPlaces
places_are p before s between t after h limits some least s_named t_named a b s_value t_value =
    let source = before ++ s ∷ (between ++ t ∷ after) in
    let descr = p.settings.sizes.descr in
    let first = addresses_are p before s (between ++ t ∷ after) h limits least s_named in
    let next = second p before s between t after h limits least t_named in
    let f = cells_of descr (size_names p source) in
    let g : Stmt → ℕ = λ x. cond (is_executable (part_of x.name)) 1 0 in
    let limits_t = subst (IsWithinLimits p) (front before s between t after) limits in
    let cells_s = small (cell_count p source before) descr (2 ^ 20) (cells_within p before s (between ++ t ∷ after) limits) least in
    let few_t : cell_count p source (before ++ s ∷ between) ≤ 2 ^ 20 = subst (λ x. cell_count p x (before ++ s ∷ between) ≤ 2 ^ 20) (sym (front before s between t after)) (cells_within p (before ++ s ∷ between) t after limits_t) in
    let cells_t = small (cell_count p source (before ++ s ∷ between)) descr (2 ^ 20) few_t least in
    record {
      cells = λ s_data t_data.
          let here = same_value (value_of_name p source s.label) a (FIRST_CELL + cell_count p source before * descr) s_value (first.cell s_data) in
          let there = same_value (value_of_name p source t.label) b (FIRST_CELL + cell_count p source (before ++ s ∷ between) * descr) t_value (next.cell t_data) in
          omega (arith, here, there, further (sum_by f before) (sum_by f (before ++ s ∷ between)) (f s) descr (counted f before s between));
      entries = λ s_code t_code.
          let here = same_value (value_of_name p source s.label) a (FIRST_ENTRY + statement_count before * descr) s_value (first.entry s_code) in
          let there = same_value (value_of_name p source t.label) b (FIRST_ENTRY + statement_count (before ++ s ∷ between) * descr) t_value (next.entry t_code) in
          let one : g s ≡ 1 = one_of (is_executable (part_of s.name)) s_code in
          let more : sum_by g before + 1 ≤ sum_by g (before ++ s ∷ between) = omega (arith, one, counted g before s between) in
          omega (arith, here, there, some, further (sum_by g before) (sum_by g (before ++ s ∷ between)) 1 descr more);
      kinds = λ s_data t_code.
          let here = same_value (value_of_name p source s.label) a (FIRST_CELL + cell_count p source before * descr) s_value (first.cell s_data) in
          let there = same_value (value_of_name p source t.label) b (FIRST_ENTRY + statement_count (before ++ s ∷ between) * descr) t_value (next.entry t_code) in
          omega (arith, here, there, cells_s);
      others = λ s_code t_data.
          let here = same_value (value_of_name p source s.label) a (FIRST_ENTRY + statement_count before * descr) s_value (first.entry s_code) in
          let there = same_value (value_of_name p source t.label) b (FIRST_CELL + cell_count p source (before ++ s ∷ between) * descr) t_value (next.cell t_data) in
          omega (arith, here, there, cells_t);
    }
