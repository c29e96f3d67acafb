-- A unit is called, and its answer says where the statement goes.
use Rattle.std.proofs.Common.{◌≡◌, ℕ, zero, suc, ◌+◌, ◌≤◌, Option, Some, None, Bool, true, false, refl, arith}
use Rattle.std.specs.Prelude.{ℤ, pos, nat_eq, if◌then◌else◌}
use Rattle.unit_io.specs.Numbered.{unit_at}
use Rattle.unit_io.specs.Tapes.{TapeState, with_tape}
use Rattle.unit_calls.specs.CallsMade.{Made, unit_number}
use Rattle.sil_model.specs.Settling.{settle}
use Rattle.sil_model.specs.States.{State}
use Rattle.unit_clauses.specs.UnitClauses.{after_call, call_on, call_unit, unit_named, way_by}
use Rattle.sil_micro.specs.declared.op.Text.{Text}
use Rattle.sil_micro.specs.declared.op.Values.{Values}
use Rattle.sil_micro.specs.Expands.{Makes}
use Rattle.sil_micro.specs.MicroStates.{Setting, Micro, Registers}
use Rattle.sil_micro.specs.MicroWords.{unsigned}
use Rattle.sil_micro.specs.Operations.{answered, failed_unit, told_call}
use Rattle.sil_micro.specs.UnitCalls.{can_call}
use Rattle.sil_micro.proofs.Making.{by_way}
use Rattle.exp_common.proofs.JoinedParts.{IsFirst}
use Rattle.exp_units.specs.UnitParts.{call_code, unit_head}

-- the unit that a register names is the one that the address field names
pub same_unit : (a : ℤ) → unit_number (unsigned a) ≡ unit_named a
unfolding unsigned
same_unit a = refl

-- the answer of a call that is done or failed
abbrev pub answer_of : Bool → ℕ
answer_of failed = if failed then 1 else 0

pub only_one : (failed : Bool) → answer_of failed ≡ 1 → failed ≡ true
only_one true e = refl
only_one false e = absurd (cc)

pub head_first : (k statements formats : ℕ) (d : ℤ) → IsFirst k statements formats 64 (unit_head k d)
unfolding unit_head
head_first k statements formats d = record { part = refl; begins = refl; once = refl; names = refl; quiet = refl; weight = refl }

module _ (g : Setting) (call : ℕ) (text : Text) (values : Values) (before : State) (unit : ℕ) (r : Registers) (words : ℕ → ℤ) (cost : ℕ) where
  abbrev begun : State
  begun = record before { steps = before.steps + 1 }

  abbrev pub at_call : Option ℕ → ℕ → Micro
  at_call failed w = record { state = begun; registers = r; scratch = words; failed = failed; spent = w }

  abbrev called : ℕ → Bool → TapeState → ℕ → Micro
  called answer failed tape w = record {
    state = record begun { tapes = with_tape begun.tapes unit tape };
    registers = record r { r1 = pos answer };
    scratch = words;
    failed = failed_unit failed unit;
    spent = w;
  }

  abbrev made_of : ℕ → Bool → TapeState → Made
  made_of answer failed tape = record { answer = answer; failed = failed; tape = tape }

  -- where the answer leads
  answer_goes : (answer : ℕ) (failed : Bool) (tape : TapeState) (w : ℕ) → (answer ≡ 1 → failed ≡ true) → w + 100 ≤ cost →
      Makes g (before.statement + 1) (call_code call text values) 1 (called answer failed tape w) (settle before (Some (way_by unit answer, after_call before unit (made_of answer failed tape)))) cost
  unfolding call_code
  answer_goes zero failed tape w fails pays = record { fuel = 12; meets = (refl, omega (arith, pays)) }
  answer_goes (suc zero) failed tape w fails pays =
      let is = fails refl in
      record { fuel = 12; meets = simp is (refl, refl, omega (arith, pays)) }
  answer_goes (suc (suc zero)) failed tape w fails pays = record { fuel = 12; meets = (refl, refl, omega (arith, pays)) }
  answer_goes (suc (suc (suc zero))) failed tape w fails pays = record { fuel = 12; meets = (refl, refl, omega (arith, pays)) }
  answer_goes (suc (suc (suc (suc n)))) failed tape w fails pays =
      let not0 : nat_eq (suc (suc (suc (suc n)))) 0 ≡ false = grind arith in
      let not1 : nat_eq (suc (suc (suc (suc n)))) 1 ≡ false = grind arith in
      let not3 : nat_eq (suc (suc (suc (suc n)))) 3 ≡ false = grind arith in
      record { fuel = 12; meets = simp (not0, not1, not3) (refl, refl, omega (arith, pays)) }

  -- the call, which can be made, and what it answers
  pub call_goes : (made : TapeState → Made) (failed : Option ℕ) (w : ℕ) → ((v : ℕ) → can_call g (at_call failed v) call text values ≡ true) →
      ((v : ℕ) (t : TapeState) → told_call g call text values unit 1 (at_call failed v) t ≡ answered unit 1 (at_call failed v) (made t)) → ((t : TapeState) → (made t).answer ≡ 1 → (made t).failed ≡ true) →
      unit_number (unsigned r.r4) ≡ unit → w + 128 ≤ cost → Makes g (before.statement + 1) (call_code call text values) 0 (at_call failed w) (settle before (call_unit before unit made)) cost
  unfolding call_code
  call_goes made failed w can tells fails named pays = go (unit_at before.tapes unit) refl where
    go : (o : Option (Option TapeState)) → unit_at before.tapes unit ≡ o → Makes g (before.statement + 1) (call_code call text values) 0 (at_call failed w) (settle before (call_on before unit made o)) cost
    go None is = record { fuel = 13; meets = simp (can, named, is) (refl, refl, omega (arith, pays)) }
    go (Some None) is = record { fuel = 13; meets = simp (can, named, is) (refl, refl, omega (arith, pays)) }
    go (Some (Some t)) is =
        by_way (answer_goes (made t).answer (made t).failed (made t).tape (w + 28) (fails t) (omega (arith, pays)))
        (λ f z. record { fuel = suc f; meets = simp (can, named, is, tells) z })
