-- What is spelled within the limits is read.
use Rattle.std.proofs.Common.{◌≡◌, ◌≢◌, ℕ, ◌≤◌, Bool, true, false, cond, ◌&&◌, List, [], ◌∷◌, ◌++◌, length, Option, Some, None, inl, inr, subst, refl, sym, ap, ◌∙◌, append_assoc, arith}
use Rattle.std.specs.Prelude.{◌==◌, option_and_then}
use Rattle.std.specs.Char.{is_ascii_alphabetic, is_ascii_digit}
use Rattle.std.specs.Option.{option_map}
use Rattle.std.specs.List.{All, list_all, onto_first}
use Rattle.std.proofs.lemmas.Bool.Decides.{nat_tests}
use Rattle.std.proofs.lemmas.List.{append-nil}
use Rattle.std.proofs.lemmas.Option.{same_Some}
use Rattle.std.proofs.lemmas.List.Elements.{All-head, All-tail, All-weaker}
use Rattle.std.proofs.lemmas.List.Splits.{slice_split_at, slice_split_none}
use Rattle.sil_base.specs.Names.{is_name, is_number, value_of}
use Rattle.sil_operands.specs.OperandGrammar.{SpellsSeparated, SpellsFactor, SpellsTerm, sign_of, SpellsMoreTerms, SpellsExpr, SpellsItem, quoted, SpellsOperand, field_text, SpellsOperands}
use Rattle.sil_operands.specs.Limits.{Limits, factor_keeps, term_keeps, item_keeps, operand_keeps}
use Rattle.sil_operands.specs.OperandReading.{parts_at, each, factor_in, term_in, is_sign, signed_parts, terms_of, expr_in, item_in, items_in, list_in, text_in, operand_in, operand_parts, separates, place_after, operands_in}
use Rattle.sil_operands.specs.declared.cutting.Place.{Place}
use Rattle.sil_operands.specs.declared.cutting.Place.TheVariants.{Outside, Within, Quoted}
use Rattle.sil_operands.specs.declared.expr.Factor.{Factor}
use Rattle.sil_operands.specs.declared.expr.Factor.TheVariants.{Name, Number}
use Rattle.sil_operands.specs.declared.expr.Term.{Term}
use Rattle.sil_operands.specs.declared.operand.Operand.{Operand}
use Rattle.sil_operands.specs.declared.operand.Operand.TheVariants.{Null, Expr, List as Listed, Text}
use Rattle.sil_operands.proofs.Cuts.{signed_whole, signed_at, before_first_part, before-nil, before-onto}
use Rattle.sil_operands.proofs.Each.{both, length-each, read_separated}
use Rattle.sil_operands.proofs.Lists.{before_last}
use Rattle.sil_operands.proofs.SpelledBytes.{AreSome, InTerm, InExpr, factor_bytes, term_bytes, expr_bytes, item_bytes, items_bytes}

-- ---- factors and terms

digit_no_letter : (c : ℕ) → is_ascii_digit c ≡ true → is_ascii_alphabetic c ≡ false
digit_no_letter c h = grind (arith, nat_tests)

number_no_name : (bytes : List ℕ) → is_number bytes ≡ true → is_name bytes ≡ false
number_no_name [] h = refl
number_no_name (c ∷ cs) h = rw (digit_no_letter c (both (is_ascii_digit c) (list_all is_ascii_digit cs) h).0) refl

no_star : (c : ℕ) → 48 ≤ c → (c == 42) ≡ false
no_star c h = grind (arith, nat_tests)

no_comma : (c : ℕ) → InExpr c → (c == 44) ≡ false
no_comma c h =
    let other : c ≢ 44 = h.1 in
    grind (arith, nat_tests)

no_sign : (c : ℕ) → InTerm c → is_sign c ≡ false
no_sign c h =
    let plus : c ≢ 43 = h.1 in
    let minus : c ≢ 45 = h.3 in
    grind (arith, nat_tests)

no_stars : (bytes : List ℕ) (factor : Factor) → SpellsFactor bytes factor → All (λ c. (c == 42) ≡ false) bytes
no_stars bytes factor h = All-weaker (λ c. 48 ≤ c) (λ c. (c == 42) ≡ false) no_star bytes (factor_bytes bytes factor h).all

no_signs : (text : List ℕ) (term : Term) → SpellsTerm text term → All (λ c. is_sign c ≡ false) text
no_signs text term h = All-weaker InTerm (λ c. is_sign c ≡ false) no_sign text (term_bytes text term h).all

no_commas : (bytes : List ℕ) (item : Option (List Term)) → SpellsItem bytes item → All (λ c. (c == 44) ≡ false) bytes
no_commas bytes item h = All-weaker InExpr (λ c. (c == 44) ≡ false) no_comma bytes (item_bytes bytes item h)

module _ (limits : Limits) where
  factor_complete : (bytes : List ℕ) (factor : Factor) → SpellsFactor bytes factor → factor_keeps limits factor ≡ true → factor_in limits bytes ≡ Some factor
  factor_complete bytes (Name name) h keeps = rw h.1 (ap (λ n. Some (Name n)) h.0)
  factor_complete bytes (Number n) h keeps =
      let fits : limits.number (value_of bytes) ≡ true = subst (λ (m : ℕ). limits.number m ≡ true) h.1 keeps in
      rw (number_no_name bytes h.0, h.0, fits) (ap (λ m. Some (Number m)) (sym h.1))

  factors_complete : (text : List ℕ) (factors : List Factor) → SpellsSeparated SpellsFactor 42 text factors → list_all (factor_keeps limits) factors ≡ true → each (factor_in limits) (parts_at 42 text) ≡ Some factors
  factors_complete text factors h keeps =
      read_separated SpellsFactor (factor_keeps limits) (factor_in limits) 42 (parts_at 42) factor_complete
      (λ part x rest r. slice_split_at (λ c. c == 42) part 42 rest (no_stars part x r) refl)
      (λ part x r. slice_split_none (λ c. c == 42) part (no_stars part x r)) text factors h keeps

  term_complete : (minus : Bool) (text : List ℕ) (term : Term) → term.minus ≡ minus → SpellsTerm text term → term_keeps limits term ≡ true → term_in limits (minus, text) ≡ Some term
  term_complete minus text term e h keeps =
      let make : Bool → List Factor → Term = λ m factors. record { minus = m; factors = factors } in
      ap (option_map (make minus)) (factors_complete text term.factors h keeps) ∙ ap (λ m. Some (make m term.factors)) (sym e)

-- ---- expressions

sign_is : (minus : Bool) → is_sign (sign_of minus) ≡ true
sign_is true = refl
sign_is false = refl

sign_again : (minus : Bool) → (sign_of minus == 45) ≡ minus
sign_again true = refl
sign_again false = refl

module _ (limits : Limits) where
  -- a term after its sign, and the terms after it
  more_complete : (minus : Bool) (text rest : List ℕ) (term : Term) (terms : List Term) → term.minus ≡ minus → SpellsTerm text term → SpellsMoreTerms rest terms → list_all (term_keeps limits) (term ∷ terms) ≡ true → each (term_in limits) (signed_parts minus (text ++ rest)) ≡ Some (term ∷ terms)
  more_complete minus text rest term [] e h more keeps =
      let tests = both (term_keeps limits term) true keeps in
      let whole = ap (λ bs. signed_parts minus (text ++ bs)) more ∙ ap (signed_parts minus) (append-nil text) ∙ signed_whole minus text (no_signs text term h) in
      ap (each (term_in limits)) whole ∙ ap (option_and_then (λ x. option_map (λ xs. x ∷ xs) (Some []))) (term_complete limits minus text term e h tests.0)
  more_complete minus text rest term (next ∷ terms) e h more keeps =
      let tests = both (term_keeps limits term) (list_all (term_keeps limits) (next ∷ terms)) keeps in
      let cut = ap (λ bs. signed_parts minus (text ++ bs)) more.2 ∙ signed_at minus text (sign_of next.minus) (more.0 ++ more.1) (no_signs text term h) (sign_is next.minus) in
      let others = ap (λ m. each (term_in limits) (signed_parts m (more.0 ++ more.1))) (sign_again next.minus) ∙ more_complete next.minus more.0 more.1 next terms refl more.3 more.4 tests.1 in
      ap (each (term_in limits)) cut
      ∙ ap (option_and_then (λ x. option_map (λ xs. x ∷ xs) (each (term_in limits) (signed_parts (sign_of next.minus == 45) (more.0 ++ more.1))))) (term_complete limits minus text term e h tests.0)
      ∙ ap (option_map (λ xs. term ∷ xs)) others

-- a sign stands first
terms_signed : (minus : Bool) (bytes : List ℕ) → terms_of (sign_of minus ∷ bytes) ≡ signed_parts minus bytes
terms_signed true bytes = refl
terms_signed false bytes = refl

-- no sign stands first
terms_plain : (text rest : List ℕ) → AreSome InTerm text → terms_of (text ++ rest) ≡ signed_parts false (text ++ rest)
terms_plain [] rest h = absurd (omega (arith, h.some))
terms_plain (c ∷ cs) rest h = ap (λ b. cond b (signed_parts (c == 45) (cs ++ rest)) (signed_parts false (c ∷ (cs ++ rest)))) (no_sign c (All-head InTerm c cs h.all))

module _ (limits : Limits) where
  expr_complete : (bytes : List ℕ) (terms : List Term) → SpellsExpr bytes terms → list_all (term_keeps limits) terms ≡ true → expr_in limits bytes ≡ Some terms
  expr_complete bytes [] h keeps = absurd h
  expr_complete bytes (term ∷ terms) (sign, text, rest, e, inl first, spelled, more) keeps =
      ap (expr_in limits) (e ∙ ap (λ bs. bs ++ (text ++ rest)) first)
      ∙ ap (each (term_in limits)) (terms_signed term.minus (text ++ rest))
      ∙ more_complete limits term.minus text rest term terms refl spelled more keeps
  expr_complete bytes (term ∷ terms) (sign, text, rest, e, inr first, spelled, more) keeps =
      ap (expr_in limits) (e ∙ ap (λ bs. bs ++ (text ++ rest)) first.0)
      ∙ ap (each (term_in limits)) (terms_plain text rest (term_bytes text term spelled))
      ∙ more_complete limits false text rest term terms first.1 spelled more keeps

-- ---- lists

module _ (limits : Limits) where
  item_complete : (bytes : List ℕ) (item : Option (List Term)) → SpellsItem bytes item → item_keeps limits item ≡ true → item_in limits bytes ≡ Some item
  item_complete bytes None h keeps = ap (item_in limits) h
  item_complete [] (Some terms) h keeps = absurd (omega (arith, (expr_bytes [] terms h).some))
  item_complete (c ∷ cs) (Some terms) h keeps = ap (option_map Some) (expr_complete limits (c ∷ cs) terms h keeps)

  items_complete : (inner : List ℕ) (items : List (Option (List Term))) → SpellsSeparated SpellsItem 44 inner items → (limits.items (length items) && list_all (item_keeps limits) items) ≡ true → items_in limits inner ≡ Some items
  items_complete inner items h keeps =
      let tests = both (limits.items (length items)) (list_all (item_keeps limits) items) keeps in
      let read =
      read_separated SpellsItem (item_keeps limits) (item_in limits) 44 (parts_at 44) item_complete
      (λ part x rest r. slice_split_at (λ c. c == 44) part 44 rest (no_commas part x r) refl)
      (λ part x r. slice_split_none (λ c. c == 44) part (no_commas part x r)) inner items h tests.1 in
      let few : limits.items (length (parts_at 44 inner)) ≡ true = subst (λ (n : ℕ). limits.items n ≡ true) (sym (length-each (item_in limits) (parts_at 44 inner) items read)) tests.0 in
      ap (λ b. cond b (each (item_in limits) (parts_at 44 inner)) None) few ∙ read

-- ---- texts

quote_step : (c : ℕ) (cs : List ℕ) (b : Bool) → (c == 39) ≡ b → text_in false (quoted cs ++ 39 ∷ []) ≡ Some cs → text_in false (quoted (c ∷ cs) ++ 39 ∷ []) ≡ Some (c ∷ cs)
quote_step c cs true e h =
    let same : c ≡ 39 = grind (arith, nat_tests) in
    ap (λ b. text_in false (cond b (39 ∷ 39 ∷ quoted cs) (c ∷ quoted cs) ++ 39 ∷ [])) e
    ∙ ap (option_map (λ text. 39 ∷ text)) h
    ∙ ap (λ b. Some (b ∷ cs)) (sym same)
quote_step c cs false e h =
    ap (λ b. text_in false (cond b (39 ∷ 39 ∷ quoted cs) (c ∷ quoted cs) ++ 39 ∷ [])) e
    ∙ ap (λ b. cond b (text_in true (quoted cs ++ 39 ∷ [])) (option_map (λ text. c ∷ text) (text_in false (quoted cs ++ 39 ∷ [])))) e
    ∙ ap (option_map (λ text. c ∷ text)) h

text_complete : (text : List ℕ) → text_in false (quoted text ++ 39 ∷ []) ≡ Some text
text_complete [] = refl
text_complete (c ∷ cs) = quote_step c cs (c == 39) refl (text_complete cs)

-- ---- operands

no_bracket : (c : ℕ) → InExpr c → ((c == 39) ≡ false) × ((c == 40) ≡ false)
no_bracket c h =
    let high : 42 ≤ c = h.0 in
    (grind (arith, nat_tests), grind (arith, nat_tests))

module _ (limits : Limits) where
  expr_operand : (bytes : List ℕ) (terms : List Term) → AreSome InExpr bytes → expr_in limits bytes ≡ Some terms → operand_in limits bytes ≡ Some (Expr terms)
  expr_operand [] terms some h = absurd (omega (arith, some.some))
  expr_operand (c ∷ cs) terms some h =
      let other = no_bracket c (All-head InExpr c cs some.all) in
      ap (λ b. cond b (option_map Text (text_in false cs)) (cond (c == 40) (option_map Listed (list_in limits cs)) (option_map Expr (expr_in limits (c ∷ cs))))) other.0
      ∙ ap (λ b. cond b (option_map Listed (list_in limits cs)) (option_map Expr (expr_in limits (c ∷ cs)))) other.1
      ∙ ap (option_map Expr) h

  operand_complete : (bytes : List ℕ) (operand : Operand) → SpellsOperand bytes operand → operand_keeps limits operand ≡ true → operand_in limits bytes ≡ Some operand
  operand_complete bytes Null h keeps = ap (operand_in limits) h
  operand_complete bytes (Expr terms) h keeps = expr_operand bytes terms (expr_bytes bytes terms h) (expr_complete limits bytes terms h keeps)
  operand_complete bytes (Listed items) (inner, e, spelled) keeps =
      ap (operand_in limits) e
      ∙ ap (λ r. option_map Listed (option_and_then (items_in limits) r)) (before_last inner)
      ∙ ap (option_map Listed) (items_complete limits inner items spelled keeps)
  operand_complete bytes (Text text) h keeps = ap (operand_in limits) h ∙ ap (option_map Text) (text_complete text)

-- ---- fields

onto-before : (c : ℕ) (front : List ℕ) (parts : List (List ℕ)) → onto_first c (before_first_part front parts) ≡ before_first_part (c ∷ front) parts
onto-before c front [] = refl
onto-before c front (part ∷ parts) = refl

-- a byte that leaves the place as it is, and separates nothing
record Stays (place : Place) (c : ℕ) : Type 0 where
  within : separates place c ≡ false
  same : place_after place c ≡ place

passes_step : (place : Place) (c : ℕ) (bytes : List ℕ) → Stays place c → operand_parts place (c ∷ bytes) ≡ onto_first c (operand_parts place bytes)
passes_step place c bytes h =
    ap (λ b. cond b ([] ∷ operand_parts Outside bytes) (onto_first c (operand_parts (place_after place c) bytes))) h.within
    ∙ ap (λ p. onto_first c (operand_parts p bytes)) h.same

passes : (place : Place) (bytes rest : List ℕ) → All (Stays place) bytes → operand_parts place (bytes ++ rest) ≡ before_first_part bytes (operand_parts place rest)
passes place [] rest h = sym (before-nil place rest)
passes place (c ∷ cs) rest h =
    passes_step place c (cs ++ rest) (All-head (Stays place) c cs h)
    ∙ ap (onto_first c) (passes place cs rest (All-tail (Stays place) c cs h))
    ∙ onto-before c cs (operand_parts place rest)

stays_outside : (c : ℕ) → InExpr c → Stays Outside c
stays_outside c h =
    let other = no_bracket c h in
    record { within = no_comma c h; same = rw (other.1, other.0) refl }

stays_within : (c : ℕ) → 42 ≤ c → Stays Within c
stays_within c h =
    let other : (c == 41) ≡ false = grind (arith, nat_tests) in
    record { within = refl; same = rw other refl }

quote_passes : (c : ℕ) (cs rest : List ℕ) (b : Bool) → (c == 39) ≡ b → operand_parts Quoted (quoted cs ++ rest) ≡ before_first_part (quoted cs) (operand_parts Quoted rest) → operand_parts Quoted (quoted (c ∷ cs) ++ rest) ≡ before_first_part (quoted (c ∷ cs)) (operand_parts Quoted rest)
quote_passes c cs rest true e h =
    let two =
    ap (λ parts. onto_first 39 (onto_first 39 parts)) h
    ∙ ap (onto_first 39) (onto-before 39 (quoted cs) (operand_parts Quoted rest))
    ∙ onto-before 39 (39 ∷ quoted cs) (operand_parts Quoted rest) in
    subst (λ (b : Bool). operand_parts Quoted (cond b (39 ∷ 39 ∷ quoted cs) (c ∷ quoted cs) ++ rest) ≡ before_first_part (cond b (39 ∷ 39 ∷ quoted cs) (c ∷ quoted cs)) (operand_parts Quoted rest)) (sym e) two
quote_passes c cs rest false e h =
    let one =
    passes_step Quoted c (quoted cs ++ rest) (record { within = refl; same = ap (λ b. cond b Outside Quoted) e })
    ∙ ap (onto_first c) h
    ∙ onto-before c (quoted cs) (operand_parts Quoted rest) in
    subst (λ (b : Bool). operand_parts Quoted (cond b (39 ∷ 39 ∷ quoted cs) (c ∷ quoted cs) ++ rest) ≡ before_first_part (cond b (39 ∷ 39 ∷ quoted cs) (c ∷ quoted cs)) (operand_parts Quoted rest)) (sym e) one

quoted_passes : (text rest : List ℕ) → operand_parts Quoted (quoted text ++ rest) ≡ before_first_part (quoted text) (operand_parts Quoted rest)
quoted_passes [] rest = sym (before-nil Quoted rest)
quoted_passes (c ∷ cs) rest = quote_passes c cs rest (c == 39) refl (quoted_passes cs rest)

-- the bytes of an operand are passed as a whole
abbrev Passed : List ℕ → List ℕ → Type 0
Passed rest bytes = operand_parts Outside (bytes ++ rest) ≡ before_first_part bytes (operand_parts Outside rest)

list_passes : (inner rest : List ℕ) → All (λ c. 42 ≤ c) inner → Passed rest (40 ∷ (inner ++ 41 ∷ []))
list_passes inner rest h =
    ap (λ bs. onto_first 40 (operand_parts Within bs)) (append_assoc inner (41 ∷ []) rest)
    ∙ ap (onto_first 40) (passes Within inner (41 ∷ rest) (All-weaker (λ c. 42 ≤ c) (Stays Within) stays_within inner h))
    ∙ ap (onto_first 40) (before-onto inner 41 (operand_parts Outside rest))
    ∙ onto-before 40 (inner ++ 41 ∷ []) (operand_parts Outside rest)

text_passes : (text rest : List ℕ) → Passed rest (39 ∷ (quoted text ++ 39 ∷ []))
text_passes text rest =
    ap (λ bs. onto_first 39 (operand_parts Quoted bs)) (append_assoc (quoted text) (39 ∷ []) rest)
    ∙ ap (onto_first 39) (quoted_passes text (39 ∷ rest))
    ∙ ap (onto_first 39) (before-onto (quoted text) 39 (operand_parts Outside rest))
    ∙ onto-before 39 (quoted text ++ 39 ∷ []) (operand_parts Outside rest)

operand_passes : (bytes : List ℕ) (operand : Operand) (rest : List ℕ) → SpellsOperand bytes operand → Passed rest bytes
operand_passes bytes Null rest h = subst (Passed rest) (sym h) (sym (before-nil Outside rest))
operand_passes bytes (Expr terms) rest h = passes Outside bytes rest (All-weaker InExpr (Stays Outside) stays_outside bytes (expr_bytes bytes terms h).all)
operand_passes bytes (Listed items) rest (inner, e, spelled) = subst (Passed rest) (sym e) (list_passes inner rest (items_bytes inner items spelled))
operand_passes bytes (Text text) rest h = subst (Passed rest) (sym h) (text_passes text rest)

operand_cut : (bytes : List ℕ) (operand : Operand) (rest : List ℕ) → SpellsOperand bytes operand → operand_parts Outside (bytes ++ 44 ∷ rest) ≡ bytes ∷ operand_parts Outside rest
operand_cut bytes operand rest h = operand_passes bytes operand (44 ∷ rest) h ∙ ap (λ bs. bs ∷ operand_parts Outside rest) (append-nil bytes)

operand_last : (bytes : List ℕ) (operand : Operand) → SpellsOperand bytes operand → operand_parts Outside bytes ≡ bytes ∷ []
operand_last bytes operand h = ap (operand_parts Outside) (sym (append-nil bytes)) ∙ operand_passes bytes operand [] h ∙ ap (λ bs. bs ∷ []) (append-nil bytes)

pub operands_complete : (limits : Limits) (field : List ℕ) (operands : List Operand) → SpellsOperands field operands → list_all (operand_keeps limits) operands ≡ true → operands_in limits field ≡ Some operands
operands_complete limits field operands h keeps =
    read_separated SpellsOperand (operand_keeps limits) (operand_in limits) 44 (operand_parts Outside) (operand_complete limits) operand_cut operand_last (field_text field) operands h keeps

-- ---- one value

abbrev no_limits : Limits
no_limits = record { items = λ n. true; number = λ n. true }

list_all_true : {A : Type 0} (test : A → Bool) → ((x : A) → test x ≡ true) → (xs : List A) → list_all test xs ≡ true
list_all_true test h [] = refl
list_all_true test h (x ∷ xs) = rw (h x, list_all_true test h xs) refl

factor_free : (factor : Factor) → factor_keeps no_limits factor ≡ true
factor_free (Name name) = refl
factor_free (Number n) = refl

term_free : (term : Term) → term_keeps no_limits term ≡ true
term_free term = list_all_true (factor_keeps no_limits) factor_free term.factors

item_free : (item : Option (List Term)) → item_keeps no_limits item ≡ true
item_free None = refl
item_free (Some terms) = list_all_true (term_keeps no_limits) term_free terms

operand_free : (operand : Operand) → operand_keeps no_limits operand ≡ true
operand_free Null = refl
operand_free (Expr terms) = list_all_true (term_keeps no_limits) term_free terms
operand_free (Listed items) = list_all_true (item_keeps no_limits) item_free items
operand_free (Text text) = refl

pub one_value : (field : List ℕ) (a b : List Operand) → SpellsOperands field a → SpellsOperands field b → a ≡ b
one_value field a b h k =
    let first = operands_complete no_limits field a h (list_all_true (operand_keeps no_limits) operand_free a) in
    let second = operands_complete no_limits field b k (list_all_true (operand_keeps no_limits) operand_free b) in
    same_Some a b (sym first ∙ second)
