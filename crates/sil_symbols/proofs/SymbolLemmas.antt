-- From what the code holds to the symbols of a source.
use Rattle.std.proofs.Common.{◌≡◌, ◌≢◌, ℕ, suc, ◌+◌, ◌≤◌, ◌==◌, nat_lt, Bool, true, false, ◌&&◌, ◌||◌, if◌then◌else◌, List, [], ◌∷◌, length, map, slice_index_or, Option, Some, None, option_and_then, refl, ap, sym, ◌∙◌, true≢false, arith}
use Rattle.std.specs.Global.{Vec}
use Rattle.std.proofs.lemmas.Bool.{eqb-true}
use Rattle.std.proofs.lemmas.Bool.Decides.{nat_tests}
use Rattle.sil_base.specs.declared.line.Fault.{Fault}
use Rattle.layout_params.specs.Parameters.{Parameters}
use Rattle.layout_params.specs.ParameterSymbols.{symbol_of}
use Rattle.sil_symbols.specs.declared.addresses.Spot.{Spot}
use Rattle.sil_symbols.specs.declared.names.Names.{Names}
use Rattle.sil_symbols.specs.declared.outcome.Outcome.{Outcome}
use Rattle.sil_symbols.specs.declared.outcome.Outcome.TheVariants.{NoValue}
use Rattle.sil_symbols.specs.declared.stmt.Stmt.{Stmt}
use Rattle.sil_base.specs.declared.limits.TheConstants.{MAX_CELLS, MAX_STATEMENTS}
use Rattle.sil_symbols.specs.declared.symbols.Outcomes.{Outcomes}
use Rattle.sil_symbols.specs.StatementParts.{part_of, is_end, is_format}
use Rattle.sil_symbols.specs.Expressions.{outcome_of}
use Rattle.sil_symbols.specs.Labels.{labelled, origin_by, origin}
use Rattle.sil_symbols.specs.NameValues.{Meaning, meanings, meaning_of, outcome_within}
use Rattle.sil_symbols.specs.Addresses.{past, addresses_from, spot_after, first_spot}
use Rattle.sil_symbols.specs.Symbols.{names_with, size_names, names_of, value_in, extent, all_cells, IsWithinLimits}
use Rattle.sil_symbols.specs.SymbolRules.{name_rule, is_circular_equation, lacks_size, lacks_value, is_over, value_rule, with_fault, faults_from, name_faults, value_faults, first_faults, EndsOnce}
use Rattle.sil_symbols.specs.Resolved.{symbol_value, expression_value, symbol_format, Resolves, AreOutcomes}
use Rattle.sil_symbols.specs.HeldNames.{parameter_in, label_in, names_in, means_in, capped, HoldsNames}

length-addresses_from : (descr : ℕ) (names : List ℕ → Outcome) (spot : Spot) (ss : List Stmt) → length (addresses_from descr names spot ss) ≡ length ss
length-addresses_from descr names spot [] = refl
length-addresses_from descr names spot (s ∷ ss) = ap suc (length-addresses_from descr names (past descr names spot s) ss)

pub length_addresses : (descr : ℕ) (names : List ℕ → Outcome) (ss : List Stmt) (all seen : List Outcome) → all ≡ addresses_from descr names first_spot ss → seen ≡ all → length seen ≡ length ss
length_addresses descr names ss all seen are same = ap length (same ∙ are) ∙ length-addresses_from descr names first_spot ss

module _ (p : Parameters) (ss : List Stmt) (names : Names) (holds : HoldsNames p ss names) where
  pub same_parameters : parameter_in names ≡ symbol_of p
  same_parameters = λ i name. holds.parameters name i

  pub same_labels : label_in names ≡ labelled ss
  same_labels = λ i name. holds.labels name i

  same_means : (labels : List Meaning) → means_in names labels ≡ (λ name. meaning_of labels (origin p ss name))
  same_means labels = λ i name. meaning_of labels (origin_by (holds.parameters name i) (holds.labels name i))

  settled_names : (given outcomes : List Outcome) → ((name : List ℕ) → names_in names outcomes name ≡ outcome_within (length ss) (means_in names (meanings given ss)) name)
      → names_in names outcomes ≡ names_with p ss given
  unfolding names_with
  settled_names given outcomes settled =
      let each : (name : List ℕ) → names_in names outcomes name ≡ outcome_within (length ss) (λ n. meaning_of (meanings given ss) (origin p ss n)) name =
      λ name. settled name ∙ ap (λ means. outcome_within (length ss) means name) (same_means (meanings given ss)) in
      λ i name. each name i

  pub sizes_are : (none outcomes : List Outcome) → none ≡ map (λ s. NoValue) ss → ((name : List ℕ) → names_in names outcomes name ≡ outcome_within (length ss) (means_in names (meanings none ss)) name)
      → names_in names outcomes ≡ size_names p ss
  sizes_are none outcomes are settled = settled_names none outcomes settled ∙ ap (names_with p ss) are

  module _ (descr : ℕ) (sizes : List Outcome) (descr_is : descr ≡ p.settings.sizes.descr) (same_sizes : names_in names sizes ≡ size_names p ss) where
    pub outcomes_are : (all outcomes : List Outcome) → all ≡ addresses_from descr (names_in names sizes) first_spot ss
        → ((name : List ℕ) → names_in names outcomes name ≡ outcome_within (length ss) (means_in names (meanings all ss)) name) → names_in names outcomes ≡ names_of p ss
    unfolding names_of
    outcomes_are all outcomes are settled =
        settled_names all outcomes settled
        ∙ ap (names_with p ss) (are ∙ ap (λ d. addresses_from d (names_in names sizes) first_spot ss) descr_is ∙ ap (λ f. addresses_from p.settings.sizes.descr f first_spot ss) same_sizes)

    pub extent_is : (spot : Spot) → spot ≡ capped (spot_after descr (names_in names sizes) first_spot ss) → spot ≡ capped (extent p ss)
    extent_is spot is =
        is ∙ ap (λ d. capped (spot_after d (names_in names sizes) first_spot ss)) descr_is ∙ ap (λ f. capped (spot_after p.settings.sizes.descr f first_spot ss)) same_sizes

-- ---- faults

pub same_name_faults : (p : Parameters) (ss : List Stmt) (names : Names) → HoldsNames p ss names → (faults : List Fault) → faults ≡ faults_from 78 (name_rule (parameter_in names) (label_in names)) 0 ss → faults ≡ name_faults p ss
unfolding name_faults
same_name_faults p ss names holds faults are = are ∙ (λ i. faults_from 78 (name_rule (same_parameters p ss names holds i) (same_labels p ss names holds i)) 0 ss)

pub same_value_faults : (p : Parameters) (ss : List Stmt) (names : Names) (o : Outcomes) → AreOutcomes p ss names o → (faults : List Fault)
    → faults ≡ faults_from 86 (value_rule (names_in names o.sizes.items) (names_in names o.outcomes.items) o.is_over) 0 ss → faults ≡ value_faults p ss
unfolding value_faults
same_value_faults p ss names o outcomes faults are = are ∙ (λ i. faults_from 86 (value_rule (outcomes.sizes i) (outcomes.outcomes i) (outcomes.over i)) 0 ss)

pub none_empty : {A : Type 0} (items : List A) (len : ℕ) → len ≡ length items → true ≡ (len == 0) → items ≡ []
none_empty [] len is empty = refl
none_empty (x ∷ items) len is empty = absurd (omega (arith, is, eqb-true len 0 (sym empty)))

pub some_not_empty : {A : Type 0} (items : List A) (len : ℕ) → len ≡ length items → false ≡ (len == 0) → items ≢ []
some_not_empty items len is some empty = true≢false (sym (some ∙ ap (λ n. n == 0) (is ∙ ap length empty)))

pub first_are_names : (names values faults : List Fault) → faults ≡ names → faults ≢ [] → faults ≡ first_faults names values
first_are_names [] values faults are some = absurd (some are)
first_are_names (fault ∷ names) values faults are some = are

pub first_are_values : (names values faults found : List Fault) → found ≡ names → found ≡ [] → faults ≡ values → faults ≡ first_faults names values
first_are_values names values faults found are none is = is ∙ sym (ap (λ l. first_faults l values) (sym are ∙ none))

-- ---- limits

no_fault_more : (letter card : ℕ) (r : Option ℕ) (rest : List Fault) → with_fault letter card r rest ≡ [] → (r ≡ None) × (rest ≡ [])
no_fault_more letter card None rest h = (refl, h)
no_fault_more letter card (Some rule) rest h = cc

abbrev least : Bool → Bool → Bool → Bool → Option ℕ
least a b c d = if a then Some 1 else if b then Some 2 else if c then Some 3 else if d then Some 4 else None

last_rule : (a b c d : Bool) → least a b c d ≡ None → d ≡ false
last_rule true b c d h = cc
last_rule false true c d h = cc
last_rule false false true d h = cc
last_rule false false false true h = cc
last_rule false false false false h = refl

not_over : (sizes names : List ℕ → Outcome) (over : Bool) (i : ℕ) (ss : List Stmt) → EndsOnce ss → faults_from 86 (value_rule sizes names over) i ss ≡ [] → over ≡ false
not_over sizes names over i [] ends h = absurd ends
not_over sizes names over i (s ∷ []) ends h =
    let rule = no_fault_more 86 s.card (value_rule sizes names over i s) [] h in
    let last = last_rule (is_circular_equation names s) (lacks_size sizes s) (lacks_value names s) (is_end (part_of s.name) && over) rule.0 in
    sym (ap (λ b. b && over) ends) ∙ last
not_over sizes names over i (s ∷ t ∷ ss) ends h =
    not_over sizes names over (i + 1) (t ∷ ss) ends.1 (no_fault_more 86 s.card (value_rule sizes names over i s) (faults_from 86 (value_rule sizes names over) (i + 1) (t ∷ ss)) h).1

within : (a m b n : ℕ) → (nat_lt a m || nat_lt b n) ≡ false → (m ≤ a) × (n ≤ b)
within a m b n h = (grind (arith, nat_tests), grind (arith, nat_tests))

pub within_limits : (p : Parameters) (ss : List Stmt) → EndsOnce ss → value_faults p ss ≡ [] → IsWithinLimits p ss
unfolding value_faults
within_limits p ss ends none =
    let w = within MAX_CELLS (all_cells p ss) MAX_STATEMENTS (extent p ss).statements (not_over (size_names p ss) (names_of p ss) (is_over p ss) 0 ss ends none) in
    record { cells = w.0; executable = w.1 }

-- ---- symbols

pub resolves : (p : Parameters) (ss : List Stmt) (names : Names) (o : Outcomes) (formats : Vec Bool) → HoldsNames p ss names → AreOutcomes p ss names o
    → formats.items ≡ map (λ s. is_format (part_of s.name)) ss → Resolves p ss (record { names = names; outcomes = o.outcomes; formats = formats })
unfolding symbol_value expression_value symbol_format
resolves p ss names o formats holds outcomes are = record {
  values = λ name. ap (λ f. value_in (f name)) outcomes.outcomes;
  expressions = λ terms. ap (λ f. value_in (outcome_of f terms)) outcomes.outcomes;
  formats = λ name.
      ap (λ l. option_and_then (λ place. if slice_index_or l place false then Some place else None) (label_in names name)) are
      ∙ ap (option_and_then (λ place. if slice_index_or (map (λ s. is_format (part_of s.name)) ss) place false then Some place else None)) (holds.labels name);
}
