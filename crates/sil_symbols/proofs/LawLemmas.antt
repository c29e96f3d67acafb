-- Laws of symbols.
use Rattle.std.proofs.Common.{◌≡◌, ℕ, zero, suc, ◌+◌, ◌<◌, ◌^◌, Bool, true, false, cond, ◌&&◌, ◌||◌, List, [], ◌∷◌, map, length, Option, Some, None, pos, negsuc, refl, sym, subst, ap, ◌∙◌, arith, rules}
use Rattle.std.specs.Prelude.{All, FitsSigned, ℤ, ◌*ℤ◌, nat_le, slice_index_or, is_none, option_and_then}
use Rattle.std.specs.Int.{w64}
use Rattle.std.specs.List.{list_any}
use Rattle.std.proofs.lemmas.Bool.Decides.{nat_tests}
use Rattle.std.proofs.lemmas.List.Elements.{All-nil, All-cons, All-weaker}
use Rattle.layout_params.specs.Parameters.{Parameters}
use Rattle.sil_base.specs.declared.line.Fault.{Fault}
use Rattle.sil_operands.specs.declared.expr.Factor.{Factor}
use Rattle.sil_operands.specs.declared.expr.Factor.TheVariants.{Name, Number}
use Rattle.sil_operands.specs.declared.expr.Term.{Term}
use Rattle.sil_base.specs.declared.limits.TheConstants.{MAX_CELLS}
use Rattle.sil_symbols.specs.declared.origin.Origin.{Origin}
use Rattle.sil_symbols.specs.declared.origin.Origin.TheVariants.{Parameter, Label}
use Rattle.sil_symbols.specs.declared.outcome.Outcome.{Outcome}
use Rattle.sil_symbols.specs.declared.outcome.Outcome.TheVariants.{Value, NoValue, Circular}
use Rattle.sil_symbols.specs.declared.stmt.Stmt.{Stmt}
use Rattle.sil_symbols.specs.StatementParts.{part_of, is_equation, is_end, takes_size}
use Rattle.sil_symbols.specs.Expressions.{fits_integer, bounded, joined, factor_outcome, product, term_outcome, with_sign, total, outcome_of, factor_names, some_name, is_circular, equated}
use Rattle.sil_symbols.specs.Labels.{origin}
use Rattle.sil_symbols.specs.NameValues.{Meaning, Fixed, Equals, first_expression, equation_by, meanings, meaning_of, first_outcome, next_outcome, outcome_within}
use Rattle.sil_symbols.specs.Addresses.{size_in, size_of, label_address, past, addresses_from, first_spot}
use Rattle.sil_symbols.specs.Symbols.{names_with, size_names, names_of, value_in}
use Rattle.sil_symbols.specs.SymbolRules.{is_circular_equation, lacks_size, lacks_value, is_over, value_rule, with_fault, faults_from, name_faults, value_faults, first_faults, faults_of}
use Rattle.sil_symbols.specs.Laws.{LawOfValues, HasSize, LawOfSizes}

-- ---- values have 64 bits

abbrev FitsOutcome : Outcome → Type 0
FitsOutcome (Value z) = FitsSigned w64 z
FitsOutcome NoValue = Unit {0}
FitsOutcome Circular = Unit {0}

chosen_fits : (b : Bool) (z : ℤ) → (b ≡ true → FitsSigned w64 z) → FitsOutcome (cond b (Value z) NoValue)
chosen_fits true z h = h refl
chosen_fits false z h = tt

number_fits : (z : ℤ) → fits_integer z ≡ true → FitsSigned w64 z
number_fits (pos n) h = let below : n < 2 ^ 63 = grind (arith, nat_tests) in search (rules, arith)
number_fits (negsuc n) h = let below : n < 2 ^ 63 = grind (arith, nat_tests) in search (rules, arith)

bounded_fits : (z : ℤ) → FitsOutcome (bounded z)
bounded_fits z = chosen_fits (fits_integer z) z (number_fits z)

joined_fits : (op : ℤ → ℤ → ℤ) (a b : Outcome) → FitsOutcome (joined op a b)
joined_fits op (Value a) (Value b) = bounded_fits (op a b)
joined_fits op (Value a) Circular = tt
joined_fits op (Value a) NoValue = tt
joined_fits op Circular (Value b) = tt
joined_fits op Circular Circular = tt
joined_fits op Circular NoValue = tt
joined_fits op NoValue b = tt

total_fits : (names : List ℕ → Outcome) (first : Outcome) (terms : List Term) → FitsOutcome first → FitsOutcome (total names first terms)
total_fits names first [] h = h
total_fits names first (term ∷ terms) h =
    total_fits names (joined (with_sign term.minus) first (term_outcome names term)) terms (joined_fits (with_sign term.minus) first (term_outcome names term))

value_fits : (o : Outcome) (z : ℤ) → FitsOutcome o → value_in o ≡ Some z → FitsSigned w64 z
value_fits (Value x) z fits h = let is : x ≡ z = cc in subst (FitsSigned w64) is fits
value_fits NoValue z fits h = let no : ⊥ = cc in absurd no
value_fits Circular z fits h = let no : ⊥ = cc in absurd no

zero_fits : FitsSigned w64 (pos 0)
zero_fits = search (rules, arith)

pub values_fit : LawOfValues
values_fit p source terms z h = value_fits (outcome_of (names_of p source) terms) z (total_fits (names_of p source) (Value (pos 0)) terms zero_fits) h

-- ---- what has a value keeps it where more is known

-- a value is the same value there
abbrev Known : Outcome → Outcome → Type 0
Known (Value z) there = there ≡ Value z
Known NoValue there = Unit {0}
Known Circular there = Unit {0}

known_same : (o : Outcome) → Known o o
known_same (Value z) = refl
known_same NoValue = tt
known_same Circular = tt

joined_known : (op : ℤ → ℤ → ℤ) (a b c d : Outcome) → Known a b → Known c d → Known (joined op a c) (joined op b d)
joined_known op (Value x) b (Value y) d h k =
    let same : joined op b d ≡ bounded (op x y) = ap (λ o. joined op o d) h ∙ ap (λ o. joined op (Value x) o) k in
    subst (Known (bounded (op x y))) (sym same) (known_same (bounded (op x y)))
joined_known op (Value x) b Circular d h k = tt
joined_known op (Value x) b NoValue d h k = tt
joined_known op Circular b (Value y) d h k = tt
joined_known op Circular b Circular d h k = tt
joined_known op Circular b NoValue d h k = tt
joined_known op NoValue b c d h k = tt

abbrev KnownNames : (List ℕ → Outcome) → (List ℕ → Outcome) → Type 0
KnownNames here there = (name : List ℕ) → Known (here name) (there name)

factor_known : (here there : List ℕ → Outcome) (factor : Factor) → KnownNames here there → Known (factor_outcome here factor) (factor_outcome there factor)
factor_known here there (Name name) h = h name
factor_known here there (Number n) h = known_same (bounded (pos n))

product_known : (here there : List ℕ → Outcome) (a b : Outcome) (factors : List Factor) → KnownNames here there → Known a b → Known (product here a factors) (product there b factors)
product_known here there a b [] h k = k
product_known here there a b (factor ∷ factors) h k =
    product_known here there (joined ◌*ℤ◌ a (factor_outcome here factor)) (joined ◌*ℤ◌ b (factor_outcome there factor)) factors h
    (joined_known ◌*ℤ◌ a b (factor_outcome here factor) (factor_outcome there factor) k (factor_known here there factor h))

total_known : (here there : List ℕ → Outcome) (a b : Outcome) (terms : List Term) → KnownNames here there → Known a b → Known (total here a terms) (total there b terms)
total_known here there a b [] h k = k
total_known here there a b (term ∷ terms) h k =
    total_known here there (joined (with_sign term.minus) a (term_outcome here term)) (joined (with_sign term.minus) b (term_outcome there term)) terms h
    (joined_known (with_sign term.minus) a b (term_outcome here term) (term_outcome there term) k (product_known here there (Value (pos 1)) (Value (pos 1)) term.factors h refl))

outcome_known : (here there : List ℕ → Outcome) (terms : List Term) → KnownNames here there → Known (outcome_of here terms) (outcome_of there terms)
outcome_known here there terms h = total_known here there (Value (pos 0)) (Value (pos 0)) terms h refl

-- ---- what has a value names nothing circular

abbrev IsValue : Outcome → Type 0
IsValue o = (z : ℤ) × (o ≡ Value z)

both_values : (op : ℤ → ℤ → ℤ) (a b : Outcome) → IsValue (joined op a b) → IsValue a × IsValue b
both_values op (Value x) (Value y) h = ((x, refl), (y, refl))
both_values op (Value x) Circular (z, h) = let no : ⊥ = cc in absurd no
both_values op (Value x) NoValue (z, h) = let no : ⊥ = cc in absurd no
both_values op Circular (Value y) (z, h) = let no : ⊥ = cc in absurd no
both_values op Circular Circular (z, h) = let no : ⊥ = cc in absurd no
both_values op Circular NoValue (z, h) = let no : ⊥ = cc in absurd no
both_values op NoValue b (z, h) = let no : ⊥ = cc in absurd no

-- a test that fails on names with a value
abbrev FailsOnValues : (List ℕ → Outcome) → (List ℕ → Bool) → Type 0
FailsOnValues names test = (name : List ℕ) → IsValue (names name) → test name ≡ false

factor_fails : (names : List ℕ → Outcome) (test : List ℕ → Bool) (factor : Factor) → FailsOnValues names test → IsValue (factor_outcome names factor) → factor_names test factor ≡ false
factor_fails names test (Name name) h v = h name v
factor_fails names test (Number n) h v = refl

neither : (a b : Bool) → a ≡ false → b ≡ false → (a || b) ≡ false
neither a b h k = rw (h, k) refl

product_fails : (names : List ℕ → Outcome) (test : List ℕ → Bool) (first : Outcome) (factors : List Factor) → FailsOnValues names test → IsValue (product names first factors) → IsValue first × (list_any (factor_names test) factors ≡ false)
product_fails names test first [] h v = (v, refl)
product_fails names test first (factor ∷ factors) h v =
    let next = product_fails names test (joined ◌*ℤ◌ first (factor_outcome names factor)) factors h v in
    let parts = both_values ◌*ℤ◌ first (factor_outcome names factor) next.0 in
    (parts.0, neither (factor_names test factor) (list_any (factor_names test) factors) (factor_fails names test factor h parts.1) next.1)

total_fails : (names : List ℕ → Outcome) (test : List ℕ → Bool) (first : Outcome) (terms : List Term) → FailsOnValues names test → IsValue (total names first terms) → IsValue first × (some_name test terms ≡ false)
total_fails names test first [] h v = (v, refl)
total_fails names test first (term ∷ terms) h v =
    let next = total_fails names test (joined (with_sign term.minus) first (term_outcome names term)) terms h v in
    let parts = both_values (with_sign term.minus) first (term_outcome names term) next.0 in
    let factors = product_fails names test (Value (pos 1)) term.factors h parts.1 in
    (parts.0, neither (list_any (factor_names test) term.factors) (some_name test terms) factors.1 next.1)

-- ---- EQUs

chosen_known : (b c : Bool) (a d : Outcome) → (IsValue a → c ≡ false) → Known a d → Known (cond b Circular a) (cond c Circular d)
chosen_known true c a d h k = tt
chosen_known false c (Value z) d h k = rw (h (z, refl)) k
chosen_known false c NoValue d h k = tt
chosen_known false c Circular d h k = tt

not_circular : (here there : Outcome) → Known here there → IsValue here → is_circular there ≡ false
not_circular (Value x) there k v = rw k refl
not_circular NoValue there k (z, h) = let no : ⊥ = cc in absurd no
not_circular Circular there k (z, h) = let no : ⊥ = cc in absurd no

equated_known : (here there : List ℕ → Outcome) (terms : List Term) → KnownNames here there → Known (equated here terms) (equated there terms)
equated_known here there terms h =
    chosen_known (some_name (λ name. is_circular (here name)) terms) (some_name (λ name. is_circular (there name)) terms) (outcome_of here terms) (outcome_of there terms)
    (λ v. (total_fails here (λ name. is_circular (there name)) (Value (pos 0)) terms (λ name is. not_circular (here name) (there name) (h name) is) v).1)
    (outcome_known here there terms h)

abbrev KnownMeaning : Meaning → Meaning → Type 0
KnownMeaning (Fixed a) (Fixed b) = Known a b
KnownMeaning (Fixed a) (Equals terms) = ⊥
KnownMeaning (Equals terms) (Fixed b) = ⊥
KnownMeaning (Equals terms) (Equals others) = terms ≡ others

first_known : (here there : Meaning) → KnownMeaning here there → Known (first_outcome here) (first_outcome there)
first_known (Fixed a) (Fixed b) h = h
first_known (Fixed a) (Equals terms) h = absurd h
first_known (Equals terms) (Fixed b) h = absurd h
first_known (Equals terms) (Equals others) h = tt

next_known : (names others : List ℕ → Outcome) (here there : Meaning) → KnownNames names others → KnownMeaning here there → Known (next_outcome names here) (next_outcome others there)
next_known names others (Fixed a) (Fixed b) all h = h
next_known names others (Fixed a) (Equals terms) all h = absurd h
next_known names others (Equals terms) (Fixed b) all h = absurd h
next_known names others (Equals terms) (Equals same) all h =
    let P : List Term → Type 0 = λ ts. Known (equated names terms) (equated others ts) in
    subst P h (equated_known names others terms all)

known_within : (n : ℕ) (here there : List ℕ → Meaning) → ((name : List ℕ) → KnownMeaning (here name) (there name)) → (name : List ℕ) → Known (outcome_within n here name) (outcome_within n there name)
unfolding outcome_within
known_within zero here there h name = first_known (here name) (there name) (h name)
known_within (suc n) here there h name = next_known (outcome_within n here) (outcome_within n there) (here name) (there name) (known_within n here there h) (h name)

-- ---- labels

equation_same : (o : Option (List Term)) → KnownMeaning (equation_by o) (equation_by o)
equation_same None = tt
equation_same (Some terms) = refl

meaning_known : (b : Bool) (o : Option (List Term)) (there : Outcome) → KnownMeaning (cond b (equation_by o) (Fixed NoValue)) (cond b (equation_by o) (Fixed there))
meaning_known true o there = equation_same o
meaning_known false o there = tt

-- where no address is known against any addresses
label_known : (p_descr : ℕ) (names : List ℕ → Outcome) (spot : _) (source : List Stmt) (place : ℕ) →
    KnownMeaning (slice_index_or (meanings (map (λ s. NoValue) source) source) place (Fixed NoValue)) (slice_index_or (meanings (addresses_from p_descr names spot source) source) place (Fixed NoValue))
label_known descr names spot [] place = tt
label_known descr names spot (s ∷ source) zero = meaning_known (is_equation (part_of s.name)) (first_expression s.operands) (label_address descr spot (part_of s.name))
label_known descr names spot (s ∷ source) (suc place) = label_known descr names (past descr names spot s) source place

origin_known : (descr : ℕ) (names : List ℕ → Outcome) (source : List Stmt) (o : Option Origin) →
    KnownMeaning (meaning_of (meanings (map (λ s. NoValue) source) source) o) (meaning_of (meanings (addresses_from descr names first_spot source) source) o)
origin_known descr names source None = tt
origin_known descr names source (Some (Parameter value)) = refl
origin_known descr names source (Some (Label place)) = label_known descr names first_spot source place

-- the names of sizes have the same values among all names
sizes_known : (p : Parameters) (source : List Stmt) → KnownNames (size_names p source) (names_of p source)
unfolding names_with names_of
sizes_known p source name =
    known_within (length source) _ _ (λ other. origin_known p.settings.sizes.descr (size_names p source) source (origin p source other)) name

-- ---- faults

no_fault : (letter card : ℕ) (o : Option ℕ) (rest : List Fault) → with_fault letter card o rest ≡ [] → (o ≡ None) × (rest ≡ [])
no_fault letter card None rest h = (refl, h)
no_fault letter card (Some rule) rest h = let no : ⊥ = cc in absurd no

none_broken : (letter : ℕ) (rule : ℕ → Stmt → Option ℕ) (place : ℕ) (source : List Stmt) (P : Stmt → Type 0) → ((i : ℕ) (s : Stmt) → rule i s ≡ None → P s) → faults_from letter rule place source ≡ [] → All P source
none_broken letter rule place [] P each h = All-nil P
none_broken letter rule place (s ∷ source) P each h =
    let (this, others) = no_fault letter s.card (rule place s) (faults_from letter rule (place + 1) source) h in
    All-cons P s source (each place s this) (none_broken letter rule (place + 1) source P each others)

values_clean : (names values : List Fault) → first_faults names values ≡ [] → values ≡ []
values_clean [] values h = h
values_clean (fault ∷ names) values h = let no : ⊥ = cc in absurd no

abbrev least : Bool → Bool → Bool → Bool → Option ℕ
least a b c d = cond a (Some 1) (cond b (Some 2) (cond c (Some 3) (cond d (Some 4) None)))

kept : (a b c d : Bool) → least a b c d ≡ None → b ≡ false
kept true b c d h = let no : ⊥ = cc in absurd no
kept false true c d h = let no : ⊥ = cc in absurd no
kept false false c d h = refl

-- no statement lacks a size
abbrev IsSized : Parameters → List Stmt → Stmt → Type 0
IsSized p source s = lacks_size (size_names p source) s ≡ false

all_sized : (p : Parameters) (source : List Stmt) → faults_of p source ≡ [] → All (IsSized p source) source
unfolding value_faults
all_sized p source h =
    none_broken 86 (value_rule (size_names p source) (names_of p source) (is_over p source)) 0 source (IsSized p source)
    (λ place s none. kept (is_circular_equation (names_of p source) s) (lacks_size (size_names p source) s) (lacks_value (names_of p source) s) (is_end (part_of s.name) && is_over p source) none)
    (values_clean (name_faults p source) (value_faults p source) h)

-- ---- sizes

some_size : (b : Bool) (n : ℕ) → is_none (cond b (Some n) None) ≡ false → cond b (Some n) None ≡ Some n
some_size true n h = refl
some_size false n h = let no : ⊥ = cc in absurd no

sized_by : (p : Parameters) (source : List Stmt) (s : Stmt) (terms : List Term) (o : Outcome) → first_expression s.operands ≡ Some terms → outcome_of (size_names p source) terms ≡ o → is_none (size_in o) ≡ false → HasSize p source s
sized_by p source s terms (Value (pos n)) first is h =
    let there : Known (Value (pos n)) (outcome_of (names_of p source) terms) = subst (λ (o : Outcome). Known o (outcome_of (names_of p source) terms)) is (outcome_known (size_names p source) (names_of p source) terms (sizes_known p source)) in
    record {
      size = n;
      terms = terms;
      first = first;
      counted = ap (option_and_then (λ ts. size_in (outcome_of (size_names p source) ts))) first ∙ ap size_in is ∙ some_size (nat_le n MAX_CELLS) n h;
      value = ap value_in there;
    }
sized_by p source s terms (Value (negsuc n)) first is h = let no : ⊥ = cc in absurd no
sized_by p source s terms NoValue first is h = let no : ⊥ = cc in absurd no
sized_by p source s terms Circular first is h = let no : ⊥ = cc in absurd no

sized : (p : Parameters) (source : List Stmt) (s : Stmt) (o : Option (List Term)) → first_expression s.operands ≡ o → is_none (option_and_then (λ terms. size_in (outcome_of (size_names p source) terms)) o) ≡ false → HasSize p source s
sized p source s None first h = let no : ⊥ = cc in absurd no
sized p source s (Some terms) first h = sized_by p source s terms (outcome_of (size_names p source) terms) first refl h

not_both : (a b : Bool) → (a && b) ≡ false → a ≡ true → b ≡ false
not_both a b h t = grind arith

pub sizes_are_values : LawOfSizes
sizes_are_values p source h =
    All-weaker (IsSized p source) (λ s. takes_size (part_of s.name) ≡ true → HasSize p source s)
    (λ s k takes. sized p source s (first_expression s.operands) refl (not_both (takes_size (part_of s.name)) (is_none (size_of (size_names p source) s)) k takes))
    source (all_sized p source h)
