-- Jumps to the locations of a list, each where a register holds its number.
use Rattle.std.proofs.Common.{◌≡◌, ℕ, zero, suc, ◌+◌, ◌*◌, ◌<◌, ◌≤◌, List, [], ◌∷◌, ◌++◌, length, Option, None, Bool, true, false, ◌&&◌, All, refl, sym, ap, ◌∙◌, subst, take, get_or, length-take, arith}
use Rattle.std.proofs.lemmas.Bool.Decides.{nat_tests}
use Rattle.std.proofs.lemmas.List.{take_more}
use Rattle.std.proofs.lemmas.List.Elements.{All-head, All-tail}
use Rattle.std.specs.Prelude.{ℤ, pos, negsuc, nat_eq, slice_get, if◌then◌else◌}
use Rattle.sil_model.specs.Arguments.{at_place, nth_location}
use Rattle.sil_model.specs.States.{State, Goes}
use Rattle.sil_micro.specs.declared.op.Fixed.TheVariants.{Number}
use Rattle.sil_micro.specs.declared.op.Op.{Op}
use Rattle.sil_micro.specs.declared.op.Op.TheVariants.{Const, JumpIf}
use Rattle.sil_micro.specs.declared.op.Target.TheVariants.{Statement}
use Rattle.sil_micro.specs.declared.op.Test.TheVariants.{Eq}
use Rattle.sil_micro.specs.Codes.{MicroCode, appended}
use Rattle.sil_micro.specs.Expands.{Makes}
use Rattle.sil_micro.specs.Forms.{all_ops}
use Rattle.sil_micro.specs.MicroStates.{Setting, Registers}
use Rattle.sil_micro.specs.MicroWords.{same_integer}
use Rattle.sil_micro.specs.Pieces.{placed, joined, is_part, fits_part, is_no_begin, is_quiet, names_within, weights}
use Rattle.sil_micro.proofs.Making.{by_test, by_way, more, then_part}
use Rattle.exp_common.specs.Locations.{IsAmong, lead}
use Rattle.exp_common.proofs.Leads.{lead_within}
use Rattle.exp_control.specs.SelectionParts.{choices_code}
use Rattle.exp_common.proofs.JoinedParts.{IsPart, grows_then}

-- the operations of one location
abbrev pub choice_code : ℕ → ℕ → Option ℕ → List Op
choice_code k i location = Const 3 (Number (pos i)) ∷ JumpIf Eq 2 3 (Statement (lead k location)) ∷ []

-- ---- what holds of their operations

choices_placed : (b k i : ℕ) (locations : List (Option ℕ)) → placed b (choices_code k i locations) ≡ choices_code k i locations
unfolding placed choices_code
choices_placed b k i [] = refl
choices_placed b k i (location ∷ locations) = ap (λ l. Const 3 (Number (pos i)) ∷ JumpIf Eq 2 3 (Statement (lead k location)) ∷ l) (choices_placed b k (i + 1) locations)

choices_fit : (size k i : ℕ) (locations : List (Option ℕ)) → all_ops (fits_part size) (choices_code k i locations) ≡ true
unfolding choices_code
choices_fit size k i [] = refl
choices_fit size k i (location ∷ locations) = choices_fit size k (i + 1) locations

choices_begin : (k i : ℕ) (locations : List (Option ℕ)) → all_ops is_no_begin (choices_code k i locations) ≡ true
unfolding choices_code
choices_begin k i [] = refl
choices_begin k i (location ∷ locations) = choices_begin k (i + 1) locations

choices_quiet : (k i : ℕ) (locations : List (Option ℕ)) → all_ops is_quiet (choices_code k i locations) ≡ true
unfolding choices_code
choices_quiet k i [] = refl
choices_quiet k i (location ∷ locations) = choices_quiet k (i + 1) locations

choices_weight : (k i : ℕ) (locations : List (Option ℕ)) → weights (choices_code k i locations) ≡ 16 * length locations
unfolding choices_code
choices_weight k i [] = refl
choices_weight k i (location ∷ locations) = omega (arith, choices_weight k (i + 1) locations)

both : (x y : Bool) → x ≡ true → y ≡ true → (x && y) ≡ true
both true y h e = e
both false y h e = h

choices_name : (statements formats k i : ℕ) (locations : List (Option ℕ)) → k < statements → All (IsAmong statements) locations → all_ops (names_within statements formats) (choices_code k i locations) ≡ true
unfolding choices_code
choices_name statements formats k i [] lt among = refl
choices_name statements formats k i (location ∷ locations) lt among =
    both _ _ (lead_within statements k location lt (All-head (IsAmong statements) location locations among)) (choices_name statements formats k (i + 1) locations lt (All-tail (IsAmong statements) location locations among))

pub choices_inside : (k i : ℕ) (locations : List (Option ℕ)) → is_part (choices_code k i locations) ≡ true
choices_inside k i locations = choices_fit (length (choices_code k i locations)) k i locations

pub choices_part : (statements formats k i : ℕ) (locations : List (Option ℕ)) → k < statements → All (IsAmong statements) locations → IsPart statements formats (16 * length locations) (choices_code k i locations)
choices_part statements formats k i locations lt among = record {
  part = choices_inside k i locations;
  begins = choices_begin k i locations;
  names = choices_name statements formats k i locations lt among;
  quiet = choices_quiet k i locations;
  weight = choices_weight k i locations;
}

-- ---- the loop that appends them

choices_more : (k i : ℕ) (locations : List (Option ℕ)) (x : Option ℕ) → choices_code k i (locations ++ x ∷ []) ≡ choices_code k i locations ++ choice_code k (i + length locations) x
unfolding choices_code
choices_more k i [] x = let e : i ≡ i + 0 = omega arith in ap (λ j. choice_code k j x) e
choices_more k i (y ∷ locations) x =
    let e : i + 1 + length locations ≡ i + suc (length locations) = omega arith in
    ap (λ l. Const 3 (Number (pos i)) ∷ JumpIf Eq 2 3 (Statement (lead k y)) ∷ l) (choices_more k (i + 1) locations x ∙ ap (λ j. choices_code k (i + 1) locations ++ choice_code k j x) e)

choice_behind : (front : List Op) (k i : ℕ) (x : Option ℕ) → joined front (choice_code k i x) ≡ front ++ choice_code k i x
unfolding placed
choice_behind front k i x = refl

-- a turn of it
pub choices_grow : (k i j : ℕ) (z : ℤ) (locations : List (Option ℕ)) (old code new : MicroCode) → z ≡ pos (1 + i) → j ≡ lead k (get_or locations i None) → i < length locations → code ≡ appended old (choices_code k 1 (take i locations)) →
    new ≡ appended code (Const 3 (Number z) ∷ JumpIf Eq 2 3 (Statement j) ∷ []) → new ≡ appended old (choices_code k 1 (take (i + 1) locations))
choices_grow k i j z locations old code new ez ej lt e1 e2 =
    let x = get_or locations i None in
    let many : length (take i locations) ≡ i = simp length-take (omega arith) in
    let front = choices_code k 1 (take i locations) in
    let grown : choices_code k 1 (take (i + 1) locations) ≡ front ++ choice_code k (1 + i) x =
    ap (λ l. choices_code k 1 l) (take_more locations i None lt) ∙ choices_more k 1 (take i locations) x ∙ ap (λ n. front ++ choice_code k (1 + n) x) many in
    let e3 : new ≡ appended code (choice_code k (1 + i) x) = e2 ∙ ap (λ q. appended code (Const 3 (Number q) ∷ JumpIf Eq 2 3 (Statement j) ∷ [])) ez ∙ ap (λ q. appended code (Const 3 (Number (pos (1 + i))) ∷ JumpIf Eq 2 3 (Statement q) ∷ [])) ej in
    grows_then old code new front (choice_code k (1 + i) x) e1 e3 ∙ ap (λ l. appended old l) (choice_behind front k (1 + i) x ∙ sym grown)

-- ---- which location is chosen

-- the one of this number, where they are counted from i on
abbrev pub chosen : ℤ → ℕ → List (Option ℕ) → Option ℕ
chosen a i [] = None
chosen a i (location ∷ locations) = if same_integer a (pos i) then location else chosen a (i + 1) locations

chosen_below : (n i : ℕ) (locations : List (Option ℕ)) → chosen (negsuc n) i locations ≡ None
chosen_below n i [] = refl
chosen_below n i (location ∷ locations) = chosen_below n (i + 1) locations

chosen_before : (n i : ℕ) (locations : List (Option ℕ)) → n < i → chosen (pos n) i locations ≡ None
chosen_before n i [] lt = refl
chosen_before n i (location ∷ locations) lt =
    let other : nat_eq n i ≡ false = grind (arith, nat_tests, lt) in
    simp other (chosen_before n (i + 1) locations (omega (arith, lt)))

chosen_from : (n m i : ℕ) (locations : List (Option ℕ)) → m ≡ i + n → chosen (pos m) i locations ≡ at_place (slice_get locations n)
chosen_from n m i [] e = refl
chosen_from zero m i (location ∷ locations) e =
    let same : nat_eq m i ≡ true = grind (arith, nat_tests, e) in
    simp same refl
chosen_from (suc n) m i (location ∷ locations) e =
    let other : nat_eq m i ≡ false = grind (arith, nat_tests, e) in
    simp other (chosen_from n m (i + 1) locations (omega (arith, e)))

chosen_is_nth : (a : ℤ) (locations : List (Option ℕ)) → chosen a 1 locations ≡ nth_location locations a
unfolding nth_location
chosen_is_nth (pos zero) locations = chosen_before 0 1 locations (omega arith)
chosen_is_nth (pos (suc n)) locations = chosen_from n (suc n) 1 locations (omega arith)
chosen_is_nth (negsuc n) locations = chosen_below n 1 locations

-- ---- what they do

choices_step : (k i : ℕ) (location : Option ℕ) (locations : List (Option ℕ)) → choices_code k i (location ∷ locations) ≡ joined (choice_code k i location) (choices_code k (i + 1) locations)
unfolding choices_code
choices_step k i location locations = ap (λ l. Const 3 (Number (pos i)) ∷ JumpIf Eq 2 3 (Statement (lead k location)) ∷ l) (sym (choices_placed 2 k (i + 1) locations))

module _ (g : Setting) (k : ℕ) (s : State) (failed : Option ℕ) (r : Registers) (words : ℕ → ℤ) (cost : ℕ) where
  choices_go : (locations : List (Option ℕ)) (i : ℕ) (x : ℤ) (w : ℕ) → w + 16 * length locations ≤ cost →
      Makes g (k + 1) (choices_code k i locations) 0 (record { state = s; registers = record r { r3 = x }; scratch = words; failed = failed; spent = w }) (Goes (record s { statement = lead k (chosen r.r2 i locations) })) cost
  unfolding choices_code
  choices_go [] i x w pays = record { fuel = 1; meets = (refl, omega (arith, pays)) }
  choices_go (location ∷ locations) i x w pays =
      let step = Goes (record s { statement = lead k (chosen r.r2 i (location ∷ locations)) }) in
      subst (λ ops. Makes g (k + 1) ops 0 (record { state = s; registers = record r { r3 = x }; scratch = words; failed = failed; spent = w }) step cost) (sym (choices_step k i location locations))
      (by_test (same_integer r.r2 (pos i))
      (λ t. record { fuel = 2; meets = simp t (refl, omega (arith, pays)) })
      (λ t. by_way (then_part (choice_code k i location) (choices_inside k (i + 1) locations) (omega arith) (choices_go locations (i + 1) (pos i) (w + 8 + 8) (omega (arith, pays))))
      (λ f z. record { fuel = more 2 f; meets = simp t z })))

  -- the step goes to the location of the number in register 2
  pub choices_lead : (locations : List (Option ℕ)) (w : ℕ) → w + 16 * length locations ≤ cost →
      Makes g (k + 1) (choices_code k 1 locations) 0 (record { state = s; registers = r; scratch = words; failed = failed; spent = w }) (Goes (record s { statement = lead k (nth_location locations r.r2) })) cost
  choices_lead locations w pays =
      subst (λ l. Makes g (k + 1) (choices_code k 1 locations) 0 (record { state = s; registers = r; scratch = words; failed = failed; spent = w }) (Goes (record s { statement = lead k l })) cost) (chosen_is_nth r.r2 locations) (choices_go locations 1 r.r3 w pays)
