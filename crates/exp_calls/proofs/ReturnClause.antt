-- The clause of RRTURN, split: it reads the frame, and then does what the call does with what is handed over.
use Rattle.std.proofs.Common.{◌≡◌, ℕ, ◌+◌, List, Option, Some, None, Bool, true, false, refl, ap, ◌∙◌}
use Rattle.std.specs.Prelude.{ℤ, if◌then◌else◌}
use Rattle.sil_model.specs.declared.program.Flow.TheVariants.{To}
use Rattle.sil_model.specs.declared.program.Statement.{Statement}
use Rattle.sil_model.specs.Access.{◌>>=◌, a_at}
use Rattle.sil_model.specs.Arguments.{gotos_at, maybe_number_at, maybe_place_at, nth_location}
use Rattle.flow_clauses.specs.CallClauses.{call_at, hand_back, is_top, location_at, location_or, rrturn, statement_of}
use Rattle.sil_model.specs.Effects.{Effect, goes}
use Rattle.sil_model.specs.Settling.{settle}
use Rattle.sil_model.specs.Memory.{Memory}
use Rattle.sil_model.specs.Sites.{Site}
use Rattle.flow_clauses.specs.StackClauses.{above}
use Rattle.sil_model.specs.States.{State}
use Rattle.exp_calls.specs.CallHalves.{answer, gone_on, handed, numbered}

-- ---- options in a row

none_then : {A B : Type 0} (o : Option A) (f : A → Option B) → ((x : A) → f x ≡ None) → (o >>= f) ≡ None
none_then None f h = refl
none_then (Some x) f h = h x

-- the number that is handed over leads where the number of the clause leads
located : (locations : List (Option ℕ)) (n : Option ℤ) → location_at locations n ≡ nth_location locations (numbered n)
unfolding nth_location
located locations None = refl
located locations (Some n) = refl

module _ (site : Site) (s : State) where
  -- call k goes on, once the top was saved
  abbrev called_back : Option ℤ → Option ℤ → ℤ → ℕ → Statement → Effect
  called_back d n saved k call = do
    to ← maybe_place_at call.args 0
    locations ← gotos_at call.args 3
    m ← hand_back s.memory d to
    if is_top site saved
        then goes (To (location_or (k + 1) (location_at locations n))) (record s { memory = m; current = s.previous; previous = saved })
        else None

  -- the call with this entry does
  abbrev from_frame : Option ℤ → Option ℤ → ℤ → ℤ → Effect
  from_frame d n saved entry = do
    k ← statement_of site entry
    call ← call_at site k
    called_back d n saved k call

  abbrev first_cell : Option ℤ
  first_cell = a_at s.memory (above s.memory s.previous 1)

  abbrev second_cell : Option ℤ
  second_cell = a_at s.memory (above s.memory s.previous 2)

  -- the frame can't be read
  pub no_saved : first_cell ≡ None → rrturn site s ≡ None
  unfolding rrturn
  no_saved e = none_then (maybe_place_at site.args 0) _ (λ d. none_then (maybe_number_at site.args 1) _ (λ n. ap (λ o. o >>= (λ saved. second_cell >>= (λ entry. from_frame d n saved entry))) e))

  pub no_entry : second_cell ≡ None → rrturn site s ≡ None
  unfolding rrturn
  no_entry e = none_then (maybe_place_at site.args 0) _ (λ d. none_then (maybe_number_at site.args 1) _ (λ n. none_then first_cell _ (λ saved. ap (λ o. o >>= (λ entry. from_frame d n saved entry)) e)))

  -- what was saved is no top of the stack
  none_back : (d n : Option ℤ) (saved : ℤ) (k : ℕ) (call : Statement) → is_top site saved ≡ false → called_back d n saved k call ≡ None
  none_back d n saved k call e = none_then (maybe_place_at call.args 0) _ (λ to. none_then (gotos_at call.args 3) _ (λ locations. none_then (hand_back s.memory d to) _ (λ m.
      ap (λ b. if b then goes (To (location_or (k + 1) (location_at locations n))) (record s { memory = m; current = s.previous; previous = saved }) else None) e)))

  none_from : (d n : Option ℤ) (saved entry : ℤ) → is_top site saved ≡ false → from_frame d n saved entry ≡ None
  none_from d n saved entry e = none_then (statement_of site entry) _ (λ k. none_then (call_at site k) _ (λ call. none_back d n saved k call e))

  pub no_top : (saved : ℤ) → first_cell ≡ Some saved → is_top site saved ≡ false → rrturn site s ≡ None
  unfolding rrturn
  no_top saved e fails = none_then (maybe_place_at site.args 0) _ (λ d. none_then (maybe_number_at site.args 1) _ (λ n.
      ap (λ o. o >>= (λ saved'. second_cell >>= (λ entry. from_frame d n saved' entry))) e ∙ none_then second_cell _ (λ entry. none_from d n saved entry fails)))

  -- ---- the frame is read

  module _ (d n : Option ℤ) (saved entry : ℤ) (is_d : maybe_place_at site.args 0 ≡ Some d) (is_n : maybe_number_at site.args 1 ≡ Some n) (is_saved : first_cell ≡ Some saved) (is_entry : second_cell ≡ Some entry) where
    read : rrturn site s ≡ from_frame d n saved entry
    unfolding rrturn
    read =
        ap (λ o. o >>= (λ d'. maybe_number_at site.args 1 >>= (λ n'. first_cell >>= (λ saved'. second_cell >>= (λ entry'. from_frame d' n' saved' entry'))))) is_d
        ∙ ap (λ o. o >>= (λ n'. first_cell >>= (λ saved'. second_cell >>= (λ entry'. from_frame d n' saved' entry')))) is_n
        ∙ ap (λ o. o >>= (λ saved'. second_cell >>= (λ entry'. from_frame d n saved' entry'))) is_saved
        ∙ ap (λ o. o >>= (λ entry'. from_frame d n saved entry')) is_entry

    -- no statement has the entry, or it is no RCALL
    pub no_statement : statement_of site entry ≡ None → rrturn site s ≡ None
    no_statement e = read ∙ ap (λ o. o >>= (λ k. call_at site k >>= (λ call. called_back d n saved k call))) e

    pub no_call : (k : ℕ) → statement_of site entry ≡ Some k → call_at site k ≡ None → rrturn site s ≡ None
    no_call k e none = read ∙ ap (λ o. o >>= (λ k'. call_at site k' >>= (λ call. called_back d n saved k' call))) e ∙ ap (λ o. o >>= (λ call. called_back d n saved k call)) none

    -- the state that a return hands over
    abbrev pub left : State
    left = record s { current = s.previous; previous = saved; steps = s.steps + 1 }

    both_then : {A : Type 0} (o : Option A) (f : A → Effect) (g : A → Option (ℕ × Memory)) → ((x : A) → settle s (f x) ≡ gone_on left (g x)) → settle s (o >>= f) ≡ gone_on left (o >>= g)
    both_then None f g h = refl
    both_then (Some x) f g h = h x

    goes_on : (k : ℕ) (locations : List (Option ℕ)) (m : Memory) (b : Bool) → b ≡ true →
        settle s (if b then goes (To (location_or (k + 1) (location_at locations n))) (record s { memory = m; current = s.previous; previous = saved }) else None)
        ≡ gone_on left (Some (location_or (k + 1) (nth_location locations (numbered n)), m))
    goes_on k locations m true e = ap (λ location. gone_on left (Some (location_or (k + 1) location, m))) (located locations n)
    goes_on k locations m false e = absurd (cc)

    answered : (k : ℕ) (call : Statement) (place has : ℤ) → d ≡ handed place has → is_top site saved ≡ true → settle s (called_back d n saved k call) ≡ answer call.args k place has (numbered n) left
    unfolding answer
    answered k call place has same top =
        both_then (maybe_place_at call.args 0) _ _ (λ to. both_then (gotos_at call.args 3) _ _ (λ locations.
        ap (λ d'. settle s (hand_back s.memory d' to >>= (λ m. if is_top site saved then goes (To (location_or (k + 1) (location_at locations n))) (record s { memory = m; current = s.previous; previous = saved }) else None))) same
        ∙ both_then (hand_back s.memory (handed place has) to) _ _ (λ m. goes_on k locations m (is_top site saved) top)))

    -- the call does the step
    pub the_call : (k : ℕ) (call : Statement) (place has : ℤ) → statement_of site entry ≡ Some k → call_at site k ≡ Some call → d ≡ handed place has → is_top site saved ≡ true →
        settle s (rrturn site s) ≡ answer call.args k place has (numbered n) left
    the_call k call place has at is same top =
        ap (λ e. settle s e) (read ∙ ap (λ o. o >>= (λ k'. call_at site k' >>= (λ call'. called_back d n saved k' call'))) at ∙ ap (λ o. o >>= (λ call'. called_back d n saved k call')) is)
        ∙ answered k call place has same top
