-- Operands that are made fit the row of their macro.
use Rattle.std.proofs.Common.{◌≡◌, ◌<◌, ◌≤◌, ℕ, Bool, true, false, cond, ◌&&◌, List, [], ◌∷◌, length, Option, Some, None, refl, arith}
use Rattle.std.specs.Prelude.{All, Contains, FitsSigned, IsTrue, codes, nat_le, option_map, option_and_then, ℤ}
use Rattle.std.specs.Int.{w64}
use Rattle.std.specs.List.{list_all}
use Rattle.std.proofs.lemmas.Bool.Decides.{nat_tests}
use Rattle.std.proofs.lemmas.List.Elements.{All-nil, All-cons}
use Rattle.sil_base.specs.declared.limits.TheConstants.{MAX_LIST_ITEMS}
use Rattle.sil_base.specs.Names.{is_word}
use Rattle.sil_macros.specs.declared.shapes.Kind.{Kind}
use Rattle.sil_macros.specs.declared.shapes.Kind.TheVariants as kind
use Rattle.sil_macros.specs.declared.shapes.Place.{Place}
use Rattle.sil_operands.specs.declared.expr.Term.{Term}
use Rattle.sil_operands.specs.declared.operand.Operand.{Operand}
use Rattle.sil_operands.specs.declared.operand.Operand.TheVariants.{Null, Expr, List as Listed, Text}
use Rattle.sil_operands.specs.Limits.{are_within_limits, card_limits, item_keeps, operand_keeps}
use Rattle.sil_operands.specs.Simple.{named_alone}
use Rattle.sil_shapes.specs.ShapeRules.{flags_of, format_at, location_of}
use Rattle.sil_model.specs.declared.program.Arg.{Arg}
use Rattle.sil_model.specs.declared.program.Arg.TheVariants as arg
use Rattle.sil_model.specs.declared.table.Action.{Action}
use Rattle.sil_model.specs.declared.table.Action.TheVariants.{Contin, Stop, Stopsh, Error}
use Rattle.sil_model.specs.Fits.{Bounds, IsStatement, IsWithin, fit, fits_slot}
use Rattle.sil_arguments.specs.MadeArguments.{Scope, action_named, and_before, arg_by, arg_of, args_of, first_of, list_arg, location_in, locations_in, null_arg, place_in, places_in, rest_of}

-- what names stand for is within these bounds
pub record IsScope (b : Bounds) (scope : Scope) : Type 0 where
  pub values : (terms : List Term) (z : ℤ) → scope.measure.values terms ≡ Some z → FitsSigned w64 z
  pub locations : (terms : List Term) (k : ℕ) → location_of scope.measure terms ≡ Some k → k < b.statements
  pub flags : (terms : List Term) (f : ℕ) → flags_of scope.measure terms ≡ Some f → f ≤ b.flag_limit
  pub tables : (name : List ℕ) (t : ℕ) → scope.tables name ≡ Some t → t < b.tables
  pub texts : (terms : List Term) (text : List ℕ) → option_and_then scope.texts (format_at scope.measure terms) ≡ Some text → Contains b.formats text

pub both : (a b : Bool) → (a && b) ≡ true → (a ≡ true) × (b ≡ true)
both a b h = grind arith

-- ---- lists that are made

abbrev pub IsFirst : {A : Type 0} → Option A → Option (List A) → List A → Type 0
IsFirst {A} first rest items = (item : A) × (more : List A) × (first ≡ Some item) × (rest ≡ Some more) × (items ≡ item ∷ more)

pub first_is : {A : Type 0} (first : Option A) (rest : Option (List A)) (items : List A) → and_before first rest ≡ Some items → IsFirst first rest items
first_is None rest items h = let no : ⊥ = cc in absurd no
first_is (Some item) None items h = let no : ⊥ = cc in absurd no
first_is (Some item) (Some more) items h = (item, more, refl, refl, cc)

mapped : {A B : Type 0} (f : A → B) (o : Option A) (b : B) → option_map f o ≡ Some b → (x : A) × (o ≡ Some x) × (b ≡ f x)
mapped f None b h = let no : ⊥ = cc in absurd no
mapped f (Some x) b h = (x, refl, cc)

-- ---- lists of places and of locations

place_fits : (b : Bounds) (scope : Scope) → IsScope b scope → (item : Option (List Term)) (at : ℤ) → place_in scope.measure item ≡ Some at → FitsSigned w64 at
place_fits b scope s None at h = let no : ⊥ = cc in absurd no
place_fits b scope s (Some terms) at h = s.values terms at h

places_fit : (b : Bounds) (scope : Scope) → IsScope b scope → (items : List (Option (List Term))) (ats : List ℤ) → places_in scope.measure items ≡ Some ats → (length ats ≡ length items) × All (FitsSigned w64) ats
places_fit b scope s [] ats h = let is : ats ≡ [] = cc in rw is (refl, All-nil (FitsSigned w64))
places_fit b scope s (item ∷ items) ats h =
    let (at, more, first, rest, is) = first_is (place_in scope.measure item) (places_in scope.measure items) ats h in
    let (count, fits) = places_fit b scope s items more rest in
    rw is (omega (arith, count), All-cons (FitsSigned w64) at more (place_fits b scope s item at first) fits)

location_fits : (b : Bounds) (scope : Scope) → IsScope b scope → (item : Option (List Term)) (location : Option ℕ) → location_in scope.measure item ≡ Some location → IsStatement b location
location_fits b scope s None location h = let is : location ≡ None = cc in rw is tt
location_fits b scope s (Some terms) location h =
    let (k, found, is) = mapped (λ k. Some k) (location_of scope.measure terms) location h in
    rw is (s.locations terms k found)

locations_fit : (b : Bounds) (scope : Scope) → IsScope b scope → (items : List (Option (List Term))) (locations : List (Option ℕ)) → locations_in scope.measure items ≡ Some locations → (length locations ≡ length items) × All (IsStatement b) locations
locations_fit b scope s [] locations h = let is : locations ≡ [] = cc in rw is (refl, All-nil (IsStatement b))
locations_fit b scope s (item ∷ items) locations h =
    let (location, more, first, rest, is) = first_is (location_in scope.measure item) (locations_in scope.measure items) locations h in
    let (count, fits) = locations_fit b scope s items more rest in
    rw is (omega (arith, count), All-cons (IsStatement b) location more (location_fits b scope s item location first) fits)

-- ---- keys

key_of : (b : Bounds) (go end shift fail : Bool) (a : Action) → cond go (Some Contin) (cond end (Some Stop) (cond shift (Some Stopsh) (cond fail (Some Error) None))) ≡ Some a → IsWithin b (arg.Key a)
key_of b true end shift fail a h = let is : a ≡ Contin = cc in rw is tt
key_of b false true shift fail a h = let is : a ≡ Stop = cc in rw is tt
key_of b false false true fail a h = let is : a ≡ Stopsh = cc in rw is tt
key_of b false false false true a h = let is : a ≡ Error = cc in rw is tt
key_of b false false false false a h = let no : ⊥ = cc in absurd no

key_within : (b : Bounds) (name : Option (List ℕ)) (a : Action) → option_and_then action_named name ≡ Some a → IsWithin b (arg.Key a)
key_within b None a h = let no : ⊥ = cc in absurd no
key_within b (Some name) a h = key_of b (is_word name (codes "CONTIN")) (is_word name (codes "STOP")) (is_word name (codes "STOPSH")) (is_word name (codes "ERROR")) a h

table_within : (b : Bounds) (scope : Scope) → IsScope b scope → (name : Option (List ℕ)) (t : ℕ) → option_and_then scope.tables name ≡ Some t → IsWithin b (arg.Table t)
table_within b scope s None t h = let no : ⊥ = cc in absurd no
table_within b scope s (Some name) t h = s.tables name t h

-- ---- one operand

-- it fits its place, and is within the bounds
abbrev IsMade : Bounds → Place → Arg → Type 0
IsMade b place a = IsTrue (fits_slot place a) × IsWithin b a

null_made : (b : Bounds) (k : Kind) → IsMade b (record { kind = k; optional = true }) (null_arg k)
null_made b kind.Goto = (refl, tt)
null_made b kind.Gotos = (refl, (omega arith, All-nil (IsStatement b)))
null_made b _ = (refl, tt)

null_is : (b : Bounds) (k : Kind) (optional : Bool) (a : Arg) → cond optional (Some (null_arg k)) None ≡ Some a → IsMade b (record { kind = k; optional = optional }) a
null_is b k false a h = let no : ⊥ = cc in absurd no
null_is b k true a h = let is : a ≡ null_arg k = cc in rw is (null_made b k)

value_is : (b : Bounds) (scope : Scope) → IsScope b scope → (k : Kind) (optional : Bool) (terms : List Term) (a : Arg) → arg_by scope k terms ≡ Some a → IsMade b (record { kind = k; optional = optional }) a
value_is b scope s kind.Descr optional terms a h = let (at, found, is) = mapped arg.Place (scope.measure.values terms) a h in rw is (refl, s.values terms at found)
value_is b scope s kind.Spec optional terms a h = let (at, found, is) = mapped arg.Place (scope.measure.values terms) a h in rw is (refl, s.values terms at found)
value_is b scope s kind.Number optional terms a h = let (n, found, is) = mapped arg.Number (scope.measure.values terms) a h in rw is (refl, s.values terms n found)
value_is b scope s kind.Flag optional terms a h = let (f, found, is) = mapped arg.Flag (flags_of scope.measure terms) a h in rw is (refl, s.flags terms f found)
value_is b scope s kind.Goto optional terms a h = let (k, found, is) = mapped (λ k. arg.Goto (Some k)) (location_of scope.measure terms) a h in rw is (refl, s.locations terms k found)
value_is b scope s kind.Required optional terms a h = let (k, found, is) = mapped (λ k. arg.Goto (Some k)) (location_of scope.measure terms) a h in rw is (refl, s.locations terms k found)
value_is b scope s kind.Table optional terms a h = let (t, found, is) = mapped arg.Table (option_and_then scope.tables (named_alone terms)) a h in rw is (refl, table_within b scope s (named_alone terms) t found)
value_is b scope s kind.Key optional terms a h = let (action, found, is) = mapped arg.Key (option_and_then action_named (named_alone terms)) a h in rw is (refl, key_within b (named_alone terms) action found)
value_is b scope s kind.Text optional terms a h = let no : ⊥ = cc in absurd no
value_is b scope s kind.Format optional terms a h = let (text, found, is) = mapped arg.Format (option_and_then scope.texts (format_at scope.measure terms)) a h in rw is (refl, s.texts terms text found)
value_is b scope s kind.Descrs optional terms a h =
    let (at, found, is) = mapped (λ at. arg.Places (at ∷ [])) (scope.measure.values terms) a h in
    rw is (refl, (omega arith, All-cons (FitsSigned w64) at [] (s.values terms at found) (All-nil (FitsSigned w64))))
value_is b scope s kind.Specs optional terms a h =
    let (at, found, is) = mapped (λ at. arg.Places (at ∷ [])) (scope.measure.values terms) a h in
    rw is (refl, (omega arith, All-cons (FitsSigned w64) at [] (s.values terms at found) (All-nil (FitsSigned w64))))
value_is b scope s kind.Gotos optional terms a h =
    let (k, found, is) = mapped (λ k. arg.Gotos (Some k ∷ [])) (location_of scope.measure terms) a h in
    rw is (refl, (omega arith, All-cons (IsStatement b) (Some k) [] (s.locations terms k found) (All-nil (IsStatement b))))
value_is b scope s kind.Free optional terms a h = let is : a ≡ arg.Absent = cc in rw is (refl, tt)

list_is : (b : Bounds) (scope : Scope) → IsScope b scope → (k : Kind) (optional : Bool) (items : List (Option (List Term))) (a : Arg) → length items ≤ 40 → list_arg scope k items ≡ Some a → IsMade b (record { kind = k; optional = optional }) a
list_is b scope s kind.Descrs optional items a short h =
    let (ats, found, is) = mapped arg.Places (places_in scope.measure items) a h in
    let (count, fits) = places_fit b scope s items ats found in
    rw is (refl, (omega (arith, count, short), fits))
list_is b scope s kind.Specs optional items a short h =
    let (ats, found, is) = mapped arg.Places (places_in scope.measure items) a h in
    let (count, fits) = places_fit b scope s items ats found in
    rw is (refl, (omega (arith, count, short), fits))
list_is b scope s kind.Gotos optional items a short h =
    let (locations, found, is) = mapped arg.Gotos (locations_in scope.measure items) a h in
    let (count, fits) = locations_fit b scope s items locations found in
    rw is (refl, (omega (arith, count, short), fits))
list_is b scope s _ optional items a short h = let no : ⊥ = cc in absurd no

short_list : (items : List (Option (List Term))) → operand_keeps card_limits (Listed items) ≡ true → length items ≤ 40
short_list items h =
    let (short, keeps) = both (nat_le (length items) MAX_LIST_ITEMS) (list_all (item_keeps card_limits) items) h in
    grind (arith, nat_tests)

arg_is : (b : Bounds) (scope : Scope) → IsScope b scope → (place : Place) (operand : Operand) (a : Arg) → operand_keeps card_limits operand ≡ true → arg_of scope place operand ≡ Some a → IsMade b place a
arg_is b scope s place Null a keeps h = null_is b place.kind place.optional a h
arg_is b scope s place (Expr terms) a keeps h = value_is b scope s place.kind place.optional terms a h
arg_is b scope s place (Listed items) a keeps h = list_is b scope s place.kind place.optional items a (short_list items keeps) h
arg_is b scope s place (Text text) a keeps h = let no : ⊥ = cc in absurd no

-- ---- all operands

both_true : (a b : Bool) → a ≡ true → b ≡ true → (a && b) ≡ true
both_true a b h k = rw (h, k) refl

first_keeps : (operands : List Operand) → are_within_limits operands ≡ true → (operand_keeps card_limits (first_of operands) ≡ true) × (are_within_limits (rest_of operands) ≡ true)
first_keeps [] h = (refl, refl)
first_keeps (operand ∷ operands) h = both (operand_keeps card_limits operand) (are_within_limits operands) h

-- the operands have the shape of their row, and are within the bounds
pub args_fit : (b : Bounds) (scope : Scope) → IsScope b scope → (places : List Place) (operands : List Operand) (args : List Arg) → are_within_limits operands ≡ true → args_of scope places operands ≡ Some args → IsTrue (fit places args) × All (IsWithin b) args
args_fit b scope s [] operands args keeps h = let is : args ≡ [] = cc in rw is (refl, All-nil (IsWithin b))
args_fit b scope s (place ∷ places) operands args keeps h =
    let (a, more, first, rest, is) = first_is (arg_of scope place (first_of operands)) (args_of scope places (rest_of operands)) args h in
    let (this, others) = first_keeps operands keeps in
    let (slot, within) = arg_is b scope s place (first_of operands) a this first in
    let (shape, bounds) = args_fit b scope s places (rest_of operands) more others rest in
    rw is (both_true (fits_slot place a) (fit places more) slot shape, All-cons (IsWithin b) a more within bounds)
