-- Operands of statements that break no rule are made.
use Rattle.std.proofs.Common.{◌≡◌, ℕ, Bool, true, false, cond, not, ◌&&◌, ◌||◌, List, [], ◌∷◌, ◌++◌, Option, Some, None, refl, sym, ◌∙◌, ap, true≢false}
use Rattle.std.specs.Prelude.{All, codes, is_none, is_some, nat_le, option_map, option_and_then}
use Rattle.std.specs.List.{list_any, list_all}
use Rattle.std.proofs.lemmas.List.Elements.{All-nil, All-cons, All-head, All-tail}
use Rattle.sil_base.specs.Names.{is_word}
use Rattle.sil_macros.specs.declared.shapes.Kind.{Kind}
use Rattle.sil_macros.specs.declared.shapes.Kind.TheVariants as kind
use Rattle.sil_macros.specs.declared.shapes.Place.{Place}
use Rattle.sil_operands.specs.declared.expr.Term.{Term}
use Rattle.sil_operands.specs.declared.operand.Operand.{Operand}
use Rattle.sil_operands.specs.declared.operand.Operand.TheVariants.{Null, Expr, List as Listed, Text}
use Rattle.sil_operands.specs.Simple.{named_alone}
use Rattle.sil_symbols.specs.SymbolRules.{items_in, expressions_in, is_apart, expressions_at}
use Rattle.sil_shapes.specs.Shapes.{names_key, fits_expression, fits_list, takes_text, fits_place, fits_places}
use Rattle.sil_shapes.specs.ShapeRules.{Measure, location_of, flags_of, format_at, is_lost, rule_if, expression_rule, list_rule, operand_rule, least, operands_rule}
use Rattle.sil_model.specs.declared.program.Arg.{Arg}
use Rattle.sil_model.specs.declared.program.Arg.TheVariants as arg
use Rattle.sil_model.specs.declared.table.Action.{Action}
use Rattle.sil_model.specs.declared.table.Action.TheVariants.{Contin, Stop, Stopsh, Error}
use Rattle.sil_arguments.specs.MadeArguments.{Scope, null_arg, action_named, and_before, place_in, places_in, location_in, locations_in, arg_by, list_arg, arg_of, first_of, rest_of, args_of}
use Rattle.sil_program.specs.TableFaults.{is_astray, goes_astray}

-- ---- options

-- there is one
abbrev pub IsThere : {A : Type 0} → Option A → Type 0
IsThere o = is_none o ≡ false

pub there_mapped : {A B : Type 0} (f : A → B) (o : Option A) → IsThere o → IsThere (option_map f o)
there_mapped f None h = absurd (true≢false h)
there_mapped f (Some x) h = refl

pub there_before : {A : Type 0} (first : Option A) (rest : Option (List A)) → IsThere first → IsThere rest → IsThere (and_before first rest)
there_before None rest h k = absurd (true≢false h)
there_before (Some x) None h k = absurd (true≢false k)
there_before (Some x) (Some xs) h k = refl

there_if : {A : Type 0} (b : Bool) (x : A) → b ≡ true → IsThere (cond b (Some x) None)
there_if b x h = rw h refl

-- ---- tests

pub both : (a b : Bool) → (a && b) ≡ true → (a ≡ true) × (b ≡ true)
both true b h = (refl, h)
both false b h = absurd (true≢false (sym h))

pub neither : (a b : Bool) → (a || b) ≡ false → (a ≡ false) × (b ≡ false)
neither false b h = (refl, h)
neither true b h = absurd (true≢false h)

none : {A P : Type 0} (x : A) → Some x ≡ None → P
none x h = let no : ⊥ = cc in absurd no

unbroken : (b : Bool) (rule : ℕ) → rule_if b rule ≡ None → b ≡ false
unbroken true rule h = none rule h
unbroken false rule h = refl

least_none : (a b : Option ℕ) → least a b ≡ None → (a ≡ None) × (b ≡ None)
least_none None b h = (refl, h)
least_none (Some x) None h = none x h
least_none (Some x) (Some y) h = by (nat_le x y) h
  where
    by : (c : Bool) → cond c (Some x) (Some y) ≡ None → (Some x ≡ None) × (Some y ≡ None)
    by true k = none x k
    by false k = none y k

key_there : (a b c d : Bool) → (a || b || c || d) ≡ true → IsThere (cond a (Some Contin) (cond b (Some Stop) (cond c (Some Stopsh) (cond d (Some Error) None))))
key_there true b c d h = refl
key_there false true c d h = refl
key_there false false true d h = refl
key_there false false false true h = refl
key_there false false false false h = absurd (true≢false (sym h))

action_there : (name : Option (List ℕ)) → names_key name ≡ true → IsThere (option_and_then action_named name)
action_there None h = absurd (true≢false (sym h))
action_there (Some name) h = key_there (is_word name (codes "CONTIN")) (is_word name (codes "STOP")) (is_word name (codes "STOPSH")) (is_word name (codes "ERROR")) h

-- ---- operands

-- a FORMAT that is named has its text
abbrev pub HasTexts : Scope → Type 0
HasTexts scope = (terms : List Term) → IsThere (format_at scope.measure terms) → IsThere (option_and_then scope.texts (format_at scope.measure terms))

module _ (scope : Scope) (texts : HasTexts scope) where
  -- an expression has a value
  abbrev HasValue : List Term → Type 0
  HasValue terms = IsThere (scope.measure.values terms)

  expression_there : (k : Kind) (terms : List Term) → fits_expression k terms ≡ true → expression_rule scope.measure k terms ≡ None → is_astray scope.tables k (Expr terms) ≡ false → (is_apart k ≡ false → HasValue terms) →
      IsThere (arg_by scope k terms)
  expression_there kind.Descr terms fits rule found value = there_mapped arg.Place (scope.measure.values terms) (value refl)
  expression_there kind.Spec terms fits rule found value = there_mapped arg.Place (scope.measure.values terms) (value refl)
  expression_there kind.Number terms fits rule found value = there_mapped arg.Number (scope.measure.values terms) (value refl)
  expression_there kind.Flag terms fits rule found value = there_mapped arg.Flag (flags_of scope.measure terms) (unbroken (is_none (flags_of scope.measure terms)) 3 rule)
  expression_there kind.Goto terms fits rule found value = there_mapped (λ k. arg.Goto (Some k)) (location_of scope.measure terms) (unbroken (is_none (location_of scope.measure terms)) 2 rule)
  expression_there kind.Required terms fits rule found value = there_mapped (λ k. arg.Goto (Some k)) (location_of scope.measure terms) (unbroken (is_none (location_of scope.measure terms)) 2 rule)
  expression_there kind.Table terms fits rule found value = there_mapped arg.Table (option_and_then scope.tables (named_alone terms)) found
  expression_there kind.Key terms fits rule found value = there_mapped arg.Key (option_and_then action_named (named_alone terms)) (action_there (named_alone terms) fits)
  expression_there kind.Text terms fits rule found value = absurd (true≢false (sym fits))
  expression_there kind.Format terms fits rule found value =
      there_mapped arg.Format (option_and_then scope.texts (format_at scope.measure terms)) (texts terms (unbroken (is_none (format_at scope.measure terms)) 4 rule))
  expression_there kind.Descrs terms fits rule found value = there_mapped (λ at. arg.Places (at ∷ [])) (scope.measure.values terms) (value refl)
  expression_there kind.Specs terms fits rule found value = there_mapped (λ at. arg.Places (at ∷ [])) (scope.measure.values terms) (value refl)
  expression_there kind.Gotos terms fits rule found value = there_mapped (λ k. arg.Gotos (Some k ∷ [])) (location_of scope.measure terms) (unbroken (is_none (location_of scope.measure terms)) 2 rule)
  expression_there kind.Free terms fits rule found value = refl

  places_there : (items : List (Option (List Term))) → list_all is_some items ≡ true → All HasValue (items_in items) → IsThere (places_in scope.measure items)
  places_there [] h values = refl
  places_there (None ∷ items) h values = absurd (true≢false (sym h))
  places_there (Some terms ∷ items) h values =
      there_before (scope.measure.values terms) (places_in scope.measure items) (All-head HasValue terms (items_in items) values) (places_there items h (All-tail HasValue terms (items_in items) values))

  locations_there : (items : List (Option (List Term))) → list_any (is_lost scope.measure) items ≡ false → IsThere (locations_in scope.measure items)
  locations_there [] h = refl
  locations_there (None ∷ items) h = there_before (Some None) (locations_in scope.measure items) refl (locations_there items h)
  locations_there (Some terms ∷ items) h =
      let (here, rest) = neither (is_none (location_of scope.measure terms)) (list_any (is_lost scope.measure) items) h in
      there_before (option_map (λ k. Some k) (location_of scope.measure terms)) (locations_in scope.measure items) (there_mapped (λ k. Some k) (location_of scope.measure terms) here) (locations_there items rest)

  list_there : (k : Kind) (items : List (Option (List Term))) → fits_list k items ≡ true → list_rule scope.measure k items ≡ None → (is_apart k ≡ false → All HasValue (items_in items)) → IsThere (list_arg scope k items)
  list_there kind.Descrs items fits rule values = there_mapped arg.Places (places_in scope.measure items) (places_there items fits (values refl))
  list_there kind.Specs items fits rule values = there_mapped arg.Places (places_in scope.measure items) (places_there items fits (values refl))
  list_there kind.Gotos items fits rule values = there_mapped arg.Gotos (locations_in scope.measure items) (locations_there items (unbroken (list_any (is_lost scope.measure) items) 2 rule))
  list_there _ items fits rule values = absurd (true≢false (sym fits))

  no_text : (b : Bool) → not b ≡ true → b ≡ true → ⊥
  no_text b h k = true≢false (sym h ∙ ap not k)

  operand_there : (place : Place) (operand : Operand) → not (takes_text place.kind) ≡ true → fits_place place operand ≡ true → operand_rule scope.measure place.kind operand ≡ None → is_astray scope.tables place.kind operand ≡ false →
      (is_apart place.kind ≡ false → All HasValue (expressions_in operand)) → IsThere (arg_of scope place operand)
  operand_there place Null other fits rule found values = there_if place.optional (null_arg place.kind) fits
  operand_there place (Expr terms) other fits rule found values = expression_there place.kind terms fits rule found (λ h. All-head HasValue terms [] (values h))
  operand_there place (Listed items) other fits rule found values = list_there place.kind items fits rule values
  operand_there place (Text text) other fits rule found values = absurd (no_text (takes_text place.kind) other fits)

  -- ---- all operands

  parted : (xs ys : List (List Term)) → All HasValue (xs ++ ys) → All HasValue xs × All HasValue ys
  parted [] ys h = (All-nil HasValue, h)
  parted (x ∷ xs) ys h =
      let (left, right) = parted xs ys (All-tail HasValue x (xs ++ ys) h) in
      (All-cons HasValue x xs (All-head HasValue x (xs ++ ys) h) left, right)

  valued : (b : Bool) (here rest : List (List Term)) → All HasValue (cond b rest (here ++ rest)) → (b ≡ false → All HasValue here) × All HasValue rest
  valued true here rest h = ((λ e. absurd (true≢false e)), h)
  valued false here rest h = let (left, right) = parted here rest h in ((λ e. left), right)

  no_rule : (places : List Place) → operands_rule scope.measure places [] ≡ None
  no_rule [] = refl
  no_rule (place ∷ places) = refl

  pub operands_there : (places : List Place) (operands : List Operand) → list_all (λ place. not (takes_text place.kind)) places ≡ true → fits_places places operands ≡ true → operands_rule scope.measure places operands ≡ None →
      goes_astray scope.tables places operands ≡ false → All (λ terms. IsThere (scope.measure.values terms)) (expressions_at places operands) → IsThere (args_of scope places operands)
  operands_there [] operands others fits rules found values = refl
  operands_there (place ∷ places) [] others fits rules found values =
      let (optional, rest) = both place.optional (fits_places places []) fits in
      let (other, more) = both (not (takes_text place.kind)) (list_all (λ place. not (takes_text place.kind)) places) others in
      let (here, lost) = neither (is_astray scope.tables place.kind Null) (goes_astray scope.tables places []) found in
      there_before (arg_of scope place Null) (args_of scope places []) (there_if place.optional (null_arg place.kind) optional)
      (operands_there places [] more rest (no_rule places) lost values)
  operands_there (place ∷ places) (operand ∷ operands) others fits rules found values =
      let (fit, rest) = both (fits_place place operand) (fits_places places operands) fits in
      let (other, more) = both (not (takes_text place.kind)) (list_all (λ place. not (takes_text place.kind)) places) others in
      let (rule, unruled) = least_none (operand_rule scope.measure place.kind operand) (operands_rule scope.measure places operands) rules in
      let (here, lost) = neither (is_astray scope.tables place.kind operand) (goes_astray scope.tables places operands) found in
      let (value, left) = valued (is_apart place.kind) (expressions_in operand) (expressions_at places operands) values in
      there_before (arg_of scope place operand) (args_of scope places operands) (operand_there place operand other fit rule here value)
      (operands_there places operands more rest unruled lost left)
