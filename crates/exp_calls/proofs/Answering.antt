-- The return part of a call.
use Rattle.std.proofs.Common.{◌≡◌, ℕ, zero, suc, ◌+◌, ◌*◌, ◌<◌, ◌≤◌, List, [], ◌∷◌, ◌++◌, length, Option, Some, None, true, false, refl, sym, ap, ◌∙◌, subst, take, get_or, length-take, arith}
use Rattle.std.proofs.lemmas.List.{take_more}
use Rattle.std.proofs.lemmas.Bool.Decides.{nat_tests}
use Rattle.std.specs.Prelude.{All, ℤ, pos, negsuc, nat_eq, if◌then◌else◌, slice_get}
use Rattle.layout_params.specs.declared.cell.Cell.TheVariants.{Descr as Describes}
use Rattle.sil_model.specs.declared.program.Arg.{Arg}
use Rattle.sil_model.specs.Access.{◌>>=◌, descr_at, put_cell}
use Rattle.sil_model.specs.Arguments.{at_place, gotos_at, maybe_place_at, nth_location}
use Rattle.flow_clauses.specs.CallClauses.{hand_back, location_or}
use Rattle.sil_model.specs.Memory.{Memory, IsMemory}
use Rattle.sil_model.specs.States.{State, Step}
use Rattle.sil_micro.specs.declared.op.Test.TheVariants.{Eq}
use Rattle.sil_micro.specs.declared.op.Target.TheVariants.{Statement}
use Rattle.sil_micro.specs.declared.op.Fixed.TheVariants.{Number}
use Rattle.sil_micro.specs.declared.op.Op.{Op}
use Rattle.sil_micro.specs.declared.op.Op.TheVariants.{Const, JumpIf}
use Rattle.sil_micro.specs.Codes.{MicroCode, appended}
use Rattle.sil_micro.specs.Expands.{Makes}
use Rattle.sil_micro.specs.Forms.{all_ops}
use Rattle.sil_micro.specs.MicroStates.{Setting, Micro, Registers}
use Rattle.sil_micro.specs.MicroWords.{same_integer}
use Rattle.sil_micro.specs.Pieces.{placed, joined, is_part, fits_part, is_no_begin, is_quiet, names_within, weights}
use Rattle.sil_micro.proofs.Fields.{f_again, v_again}
use Rattle.sil_micro.proofs.Making.{by_option, by_test, more, by_way, then_part}
use Rattle.sil_micro.proofs.Parts.{part_joined}
use Rattle.exp_common.specs.Locations.{IsAmong, lead}
use Rattle.exp_common.proofs.Leads.{lead_within}
use Rattle.exp_common.proofs.JoinedParts.{IsPart, both_parts, grows_then}
use Rattle.exp_calls.specs.CallHalves.{answer, gone_on, handed}
use Rattle.exp_calls.specs.CallParts.{given_code, located_code, return_code}

-- the operations of one location
abbrev pub location_code : ℕ → ℕ → ℕ → List Op
location_code k i to = Const 4 (Number (pos i)) ∷ JumpIf Eq 3 4 (Statement to) ∷ []

-- ---- what holds of their operations

located_placed : (b k i : ℕ) (ls : List (Option ℕ)) → placed b (located_code k i ls) ≡ located_code k i ls
unfolding placed located_code
located_placed b k i [] = refl
located_placed b k i (l ∷ ls) = ap (λ x. Const 4 (Number (pos i)) ∷ JumpIf Eq 3 4 (Statement (lead k l)) ∷ x) (located_placed b k (i + 1) ls)

located_fit : (size k i : ℕ) (ls : List (Option ℕ)) → all_ops (fits_part size) (located_code k i ls) ≡ true
unfolding located_code
located_fit size k i [] = refl
located_fit size k i (l ∷ ls) = located_fit size k (i + 1) ls

located_begin : (k i : ℕ) (ls : List (Option ℕ)) → all_ops is_no_begin (located_code k i ls) ≡ true
unfolding located_code
located_begin k i [] = refl
located_begin k i (l ∷ ls) = located_begin k (i + 1) ls

located_quiet : (k i : ℕ) (ls : List (Option ℕ)) → all_ops is_quiet (located_code k i ls) ≡ true
unfolding located_code
located_quiet k i [] = refl
located_quiet k i (l ∷ ls) = located_quiet k (i + 1) ls

located_weight : (k i : ℕ) (ls : List (Option ℕ)) → weights (located_code k i ls) ≡ 16 * length ls
unfolding located_code
located_weight k i [] = refl
located_weight k i (l ∷ ls) = omega (arith, located_weight k (i + 1) ls)

located_name : (statements formats k i : ℕ) (ls : List (Option ℕ)) → k < statements → All (IsAmong statements) ls → all_ops (names_within statements formats) (located_code k i ls) ≡ true
unfolding located_code
located_name statements formats k i [] lt h = refl
located_name statements formats k i (l ∷ ls) lt h =
    let first = lead_within statements k l lt (h 0 None (omega arith)) in
    simp first (located_name statements formats k (i + 1) ls lt (λ j d le. h (suc j) d (omega arith)))

located_part : (statements formats k i : ℕ) (ls : List (Option ℕ)) → k < statements → All (IsAmong statements) ls → IsPart statements formats (16 * length ls) (located_code k i ls)
located_part statements formats k i ls lt h = record {
  part = located_fit (length (located_code k i ls)) k i ls;
  begins = located_begin k i ls;
  names = located_name statements formats k i ls lt h;
  quiet = located_quiet k i ls;
  weight = located_weight k i ls;
}

abbrev pub given_weight : Option ℤ → ℕ
given_weight None = 0
given_weight (Some d) = 136

pub given_light : (d : Option ℤ) → given_weight d ≤ 136
given_light None = omega arith
given_light (Some d) = omega arith

given_part : (statements formats : ℕ) (d : Option ℤ) → IsPart statements formats (given_weight d) (given_code d)
unfolding given_code
given_part statements formats None = record { part = refl; begins = refl; names = refl; quiet = refl; weight = refl }
given_part statements formats (Some d) = record { part = refl; begins = refl; names = refl; quiet = refl; weight = refl }

pub return_part : (statements formats : ℕ) (d : Option ℤ) (k : ℕ) (ls : List (Option ℕ)) → k < statements → All (IsAmong statements) ls → IsPart statements formats (given_weight d + 16 * length ls) (return_code d k ls)
return_part statements formats d k ls lt h = both_parts (given_part statements formats d) (located_part statements formats k 1 ls lt h)

pub return_inside : (d : Option ℤ) (k : ℕ) (ls : List (Option ℕ)) → is_part (return_code d k ls) ≡ true
return_inside d k ls = part_joined (given_code d) (located_code k 1 ls) (given_part 0 0 d).part (located_fit (length (located_code k 1 ls)) k 1 ls)

-- ---- the loop that appends the locations

located_more : (k i : ℕ) (ls : List (Option ℕ)) (l : Option ℕ) → located_code k i (ls ++ l ∷ []) ≡ located_code k i ls ++ location_code k (i + length ls) (lead k l)
unfolding located_code
located_more k i [] l = let e : i ≡ i + 0 = omega arith in ap (λ j. location_code k j (lead k l)) e
located_more k i (x ∷ ls) l =
    let e : i + 1 + length ls ≡ i + suc (length ls) = omega arith in
    ap (λ t. Const 4 (Number (pos i)) ∷ JumpIf Eq 3 4 (Statement (lead k x)) ∷ t) (located_more k (i + 1) ls l ∙ ap (λ j. located_code k (i + 1) ls ++ location_code k j (lead k l)) e)

location_behind : (front : List Op) (k i to : ℕ) → joined front (location_code k i to) ≡ front ++ location_code k i to
unfolding placed
location_behind front k i to = refl

-- a turn of it
pub located_grow : (k i to : ℕ) (z : ℤ) (ls : List (Option ℕ)) (old code new : MicroCode) → z ≡ pos (1 + i) → i < length ls → to ≡ lead k (get_or ls i None) → code ≡ appended old (located_code k 1 (take i ls)) →
    new ≡ appended code (Const 4 (Number z) ∷ JumpIf Eq 3 4 (Statement to) ∷ []) → new ≡ appended old (located_code k 1 (take (i + 1) ls))
located_grow k i to z ls old code new ez lt et e1 e2 =
    let x = get_or ls i None in
    let many : length (take i ls) ≡ i = simp length-take (omega arith) in
    let front = located_code k 1 (take i ls) in
    let grown : located_code k 1 (take (i + 1) ls) ≡ front ++ location_code k (1 + i) (lead k x) =
    ap (λ l. located_code k 1 l) (take_more ls i None lt) ∙ located_more k 1 (take i ls) x ∙ ap (λ j. front ++ location_code k (1 + j) (lead k x)) many in
    let e3 : new ≡ appended code (location_code k (1 + i) (lead k x)) =
    e2 ∙ ap (λ q. appended code (Const 4 (Number q) ∷ JumpIf Eq 3 4 (Statement to) ∷ [])) ez ∙ ap (λ t. appended code (location_code k (1 + i) t)) et in
    grows_then old code new front (location_code k (1 + i) (lead k x)) e1 e3 ∙ ap (λ l. appended old l) (location_behind front k (1 + i) (lead k x) ∙ sym grown)

-- ---- the location of a number, as the tests find it

-- of those from number i on; the statement after call k where there is none
unfoldable located : ℕ → ℤ → ℕ → List (Option ℕ) → ℕ
located k number i [] = k + 1
located k number i (l ∷ ls) = if same_integer number (pos i) then lead k l else located k number (i + 1) ls

lead_is : (k : ℕ) (l : Option ℕ) → lead k l ≡ location_or (k + 1) l
lead_is k None = refl
lead_is k (Some j) = refl

located_at : (k i n : ℕ) (ls : List (Option ℕ)) → located k (pos (i + n)) i ls ≡ location_or (k + 1) (at_place (slice_get ls n))
unfolding located
located_at k i n [] = refl
located_at k i zero (l ∷ ls) =
    let same : nat_eq (i + 0) i ≡ true = grind (arith, nat_tests) in
    simp same (lead_is k l)
located_at k i (suc n) (l ∷ ls) =
    let differs : nat_eq (i + suc n) i ≡ false = grind (arith, nat_tests) in
    let e : i + suc n ≡ i + 1 + n = omega arith in
    simp differs (ap (λ x. located k (pos x) (i + 1) ls) e ∙ located_at k (i + 1) n ls)

located_zero : (k i : ℕ) (ls : List (Option ℕ)) → 0 < i → located k (pos 0) i ls ≡ k + 1
unfolding located
located_zero k i [] lt = refl
located_zero k i (l ∷ ls) lt = let differs : nat_eq 0 i ≡ false = grind (arith, nat_tests) in simp differs (located_zero k (i + 1) ls (omega arith))

located_negative : (k n i : ℕ) (ls : List (Option ℕ)) → located k (negsuc n) i ls ≡ k + 1
unfolding located
located_negative k n i [] = refl
located_negative k n i (l ∷ ls) = located_negative k n (i + 1) ls

located_is : (k : ℕ) (number : ℤ) (ls : List (Option ℕ)) → located k number 1 ls ≡ location_or (k + 1) (nth_location ls number)
unfolding nth_location
located_is k (pos zero) ls = located_zero k 1 ls (omega arith)
located_is k (pos (suc n)) ls = let e : suc n ≡ 1 + n = omega arith in ap (λ x. located k (pos x) 1 ls) e ∙ located_at k 1 n ls
located_is k (negsuc n) ls = located_negative k n 1 ls

-- ---- what the part does

module _ (g : Setting) (k : ℕ) (s : State) (failed : Option ℕ) where
  abbrev in_return : Registers → (ℕ → ℤ) → ℕ → Micro
  in_return r words w = record { state = s; registers = r; scratch = words; failed = failed; spent = w }

  located_step : (i : ℕ) (l : Option ℕ) (ls : List (Option ℕ)) → located_code k i (l ∷ ls) ≡ joined (location_code k i (lead k l)) (located_code k (i + 1) ls)
  unfolding located_code
  located_step i l ls = ap (λ t. Const 4 (Number (pos i)) ∷ JumpIf Eq 3 4 (Statement (lead k l)) ∷ t) (sym (located_placed 2 k (i + 1) ls))

  located_goes : (ls : List (Option ℕ)) (i : ℕ) (r : Registers) (words : ℕ → ℤ) (w cost : ℕ) → w + 16 * length ls ≤ cost → Makes g (k + 1) (located_code k i ls) 0 (in_return r words w) (gone_on s (Some (located k r.r3 i ls, s.memory))) cost
  unfolding located located_code
  located_goes [] i r words w cost pays = record { fuel = 1; meets = (refl, omega arith) }
  located_goes (l ∷ ls) i r words w cost pays =
      by_test (same_integer r.r3 (pos i))
      (λ t. record { fuel = 2; meets = simp t (refl, omega arith) })
      (λ t. subst (λ ops. Makes g (k + 1) ops 0 (in_return r words w) (gone_on s (Some (located k r.r3 i (l ∷ ls), s.memory))) cost) (sym (located_step i l ls))
      (by_way (then_part (location_code k i (lead k l)) (located_fit (length (located_code k (i + 1) ls)) k (i + 1) ls) (omega arith) (located_goes ls (i + 1) (record r { r4 = pos i }) words (w + 8 + 8) cost (omega arith)))
      (λ f z. record { fuel = more 2 f; meets = simp t z })))

hand_back_none : (m : Memory) (from : Option ℤ) → hand_back m from None ≡ Some m
unfolding hand_back
hand_back_none m None = refl
hand_back_none m (Some at) = refl

abbrev answered : State → ℕ → Option Memory → Step
answered s k o = gone_on s (o >>= (λ m. Some (k, m)))

answer_is : (args : List Arg) (k : ℕ) (place has number : ℤ) (s : State) (d : Option ℤ) (ls : List (Option ℕ)) → maybe_place_at args 0 ≡ Some d → gotos_at args 3 ≡ Some ls →
    answered s (located k number 1 ls) (hand_back s.memory (handed place has) d) ≡ answer args k place has number s
unfolding answer
answer_is args k place has number s d ls e e' =
    let is = located_is k number ls in
    simp (e, e', is) refl

given_goes : (g : Setting) (k : ℕ) (d : Option ℤ) (ls : List (Option ℕ)) (u : Micro) → length ls ≤ 40 → IsMemory u.state.memory →
    Makes g (k + 1) (return_code d k ls) 0 u (answered u.state (located k u.registers.r3 1 ls) (hand_back u.state.memory (handed u.registers.r1 u.registers.r2) d)) (u.spent + 1200)
unfolding given_code hand_back
given_goes g k None ls u few v =
    let none = hand_back_none u.state.memory (handed u.registers.r1 u.registers.r2) in
    by_way (then_part [] (located_fit (length (located_code k 1 ls)) k 1 ls) (omega arith) (located_goes g k u.state u.failed ls 1 u.registers u.scratch u.spent (u.spent + 1200) (omega arith)))
    (λ f z. record { fuel = f; meets = simp none z })
given_goes g k (Some d) ls u few v =
    let inside = located_fit (length (located_code k 1 ls)) k 1 ls in
    let m = u.state.memory in
    by_test (same_integer u.registers.r2 (pos 0))
    (λ t. by_way (then_part (given_code (Some d)) inside (omega arith) (located_goes g k u.state u.failed ls 1 (record u.registers { r4 = pos 0 }) u.scratch (u.spent + 8 + 8) (u.spent + 1200) (omega arith))) (λ f z. record { fuel = more 2 f; meets = simp t z }))
    (λ t. by_option (descr_at m u.registers.r1)
    (λ e. record { fuel = 4; meets = simp (t, e) (refl, refl, omega arith) })
    (λ x e.
    let xf = f_again m u.registers.r1 x v e in
    let xv = v_again m u.registers.r1 x v e in
    by_option (put_cell m d (Describes (record { a = x.a; f = x.f; v = x.v })))
    (λ q. record { fuel = 8; meets = simp (t, e, xf, xv, q) (refl, refl, omega arith) })
    (λ cells q. by_way (then_part (given_code (Some d)) inside (omega arith) (located_goes g k (record u.state { memory = record m { cells = cells } }) u.failed ls 1 (record u.registers { r4 = pos 0; r5 = x.a; r6 = pos x.f; r7 = pos x.v; r8 = d }) u.scratch (u.spent + 8 + 8 + 28 + 28 + 28 + 8 + 28) (u.spent + 1200) (omega arith))) (λ f z. record { fuel = more 7 f; meets = simp (t, e, xf, xv, q) z }))))

pub return_does : (g : Setting) (k : ℕ) (args : List Arg) (d : Option ℤ) (ls : List (Option ℕ)) (u : Micro) → maybe_place_at args 0 ≡ Some d → gotos_at args 3 ≡ Some ls → length ls ≤ 40 → IsMemory u.state.memory →
    Makes g (k + 1) (return_code d k ls) 0 u (answer args k u.registers.r1 u.registers.r2 u.registers.r3 u.state) (u.spent + 1200)
return_does g k args d ls u e e' few v =
    subst (λ step. Makes g (k + 1) (return_code d k ls) 0 u step (u.spent + 1200)) (answer_is args k u.registers.r1 u.registers.r2 u.registers.r3 u.state d ls e e') (given_goes g k d ls u few v)
