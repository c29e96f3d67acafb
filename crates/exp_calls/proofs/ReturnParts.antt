-- What the parts of a return's piece do.
use Rattle.std.proofs.Common.{◌≡◌, ℕ, ◌+◌, ◌-◌, ◌*◌, ◌≤◌, List, length, Option, Some, None, true, false, refl, sym, ap, subst, lit≤, arith}
use Rattle.std.proofs.Math.Nat.{mul-le-mul_left}
use Rattle.std.specs.Prelude.{ℤ, pos, nat_lt}
use Rattle.layout_params.specs.declared.cell.Descr.{Descr}
use Rattle.sil_base.specs.declared.places.TheConstants.{FIRST_CELL}
use Rattle.sil_model.specs.declared.end.End.TheVariants as ends
use Rattle.sil_model.specs.Access.{◌>>=◌, a_at, descr_at}
use Rattle.flow_clauses.specs.CallClauses.{is_between}
use Rattle.sil_model.specs.Integers.{◌⊞◌, ◌⊟◌, wrapped_sum, wrapped_difference, wrapped_product}
use Rattle.sil_model.specs.Memory.{Memory, IsMemory}
use Rattle.flow_clauses.specs.StackClauses.{above}
use Rattle.sil_model.specs.States.{State}
use Rattle.sil_micro.specs.declared.op.Op.{Op}
use Rattle.sil_micro.specs.MicroStates.{Setting, Micro, Registers}
use Rattle.sil_micro.specs.MicroWays.{Way, Returned, Ended, way}
use Rattle.sil_micro.specs.MicroWords.{remainder}
use Rattle.sil_micro.specs.Pieces.{joined, is_part}
use Rattle.sil_micro.proofs.Making.{more}
use Rattle.sil_micro.proofs.Parts.{alike}
use Rattle.exp_common.proofs.Questions.{by_read}
use Rattle.exp_stack.proofs.Arithmetic.{add_pos, difference_pos, times_size}
use Rattle.exp_common.proofs.JoinedParts.{IsFirst, IsPart}
use Rattle.exp_stack.proofs.StackPlaces.{stack_of}
use Rattle.exp_calls.specs.CallHalves.{numbered}
use Rattle.exp_calls.specs.ReturnParts.{flagged, frame_read_code, hand_over_code, top_code}
use Rattle.exp_calls.proofs.SavedTops.{by_top}

-- ---- ways on

-- with this fuel the way on from a place has a property
pub record Comes (P : Way → Type 0) (g : Setting) (next : ℕ) (piece : List Op) (place : ℕ) (u : Micro) : Type 0 where
  pub fuel : ℕ
  pub has : P (way g next piece fuel place u)

by_coming : {P : Way → Type 0} {g : Setting} {next : ℕ} {piece : List Op} {place : ℕ} {u : Micro} {G : Type 0} → Comes P g next piece place u → ((fuel : ℕ) → P (way g next piece fuel place u) → G) → G
by_coming x go = go x.fuel x.has

behind : {P : Way → Type 0} {g : Setting} {next : ℕ} {part : List Op} {place : ℕ} {u : Micro} (front : List Op) → is_part part ≡ true → place ≤ length part → Comes P g next part place u → Comes P g next (joined front part) (length front + place) u
behind {P} {g} {next} {part} {place} {u} front inside le x = record { fuel = x.fuel; has = subst P (sym (alike g next front part inside x.fuel place u le)) x.has }

-- what makes a way that ends as undefined at a statement keep these tapes, and weigh at most 800
pub record StaysLight (before u : Micro) : Type 0 where
  pub tapes : u.state.tapes ≡ before.state.tapes
  pub light : u.spent ≤ 800

-- ---- the frame

a_none : (m : Memory) (at : ℤ) → descr_at m at ≡ None → a_at m at ≡ None
a_none m at e = ap (λ o. o >>= (λ d. Some d.a)) e

a_some : (m : Memory) (at : ℤ) (d : Descr) → descr_at m at ≡ Some d → a_at m at ≡ Some d.a
a_some m at d e = ap (λ o. o >>= (λ x. Some x.a)) e

module _ (P : Way → Type 0) (g : Setting) (k : ℕ) (rest : List Op) (inside : is_part rest ≡ true) (u : Micro) where
  abbrev m : Memory
  m = u.state.memory

  abbrev size : ℕ
  size = u.state.memory.limits.cell_size

  abbrev pub Fails : Type 0
  Fails = (v : Micro) → StaysLight u v → P (Ended (Some (ends.Undefined k)) v)

  abbrev pub begun : State
  begun = record u.state { statement = k; steps = u.state.steps + 1 }

  abbrev pub after_frame : ℤ → ℤ → Registers
  after_frame saved entry = record u.registers {
    r4 = pos 0;
    r5 = pos 1;
    r6 = u.state.previous;
    r7 = pos size;
    r8 = above m u.state.previous 2;
    r9 = saved;
    r10 = pos (2 * size);
    r11 = entry;
  }

  pub frame_goes : nat_lt u.state.steps g.bound ≡ true → IsMemory m → (a_at m (above m u.state.previous 1) ≡ None → Fails) → (a_at m (above m u.state.previous 2) ≡ None → Fails) →
      ((saved entry : ℤ) → a_at m (above m u.state.previous 1) ≡ Some saved → a_at m (above m u.state.previous 2) ≡ Some entry → Comes P g (k + 1) rest 0 (record u { state = begun; registers = after_frame saved entry; spent = 168 })) →
      Comes P g (k + 1) (joined (frame_read_code k) rest) 0 u
  unfolding frame_read_code
  frame_goes left v no_saved no_entry go =
      let one : 1 * size ≡ size = omega arith in
      let product : wrapped_product (pos 2) (pos size) ≡ pos (2 * size) = times_size 2 size (omega arith) v.limits.most in
      by_read m (u.state.previous ⊞ pos size) v
      (λ none.
      let unread = subst (λ n. a_at m (u.state.previous ⊞ pos n) ≡ None) (sym one) (a_none m (u.state.previous ⊞ pos size) none) in
      record { fuel = 7; has = simp (left, none) (no_saved unread _ (record { tapes = refl; light = lit≤ tt })) })
      (λ saved f f' is kept.
      let read = subst (λ n. a_at m (u.state.previous ⊞ pos n) ≡ Some saved) (sym one) (a_some m (u.state.previous ⊞ pos size) _ is) in
      by_read m (above m u.state.previous 2) v
      (λ none. record { fuel = 11; has = simp (left, is, product, none) (no_entry (a_none m (above m u.state.previous 2) none) _ (record { tapes = refl; light = lit≤ tt })) })
      (λ entry h h' found kept'.
      by_coming (behind (frame_read_code k) inside (omega arith) (go saved entry read (a_some m (above m u.state.previous 2) _ found))) (λ fuel z. record { fuel = more 11 fuel; has = simp (left, is, product, found) z })))

-- ---- the saved top

module _ (P : Way → Type 0) (g : Setting) (next : ℕ) (rest : List Op) (inside : is_part rest ≡ true) (st : State) (words : ℕ → ℤ) (failed : Option ℕ) (r : Registers) (saved : ℤ) (first : ℕ) where
  abbrev cell : ℕ
  cell = st.memory.limits.cell_size

  abbrev last : ℕ
  last = FIRST_CELL + length st.memory.cells * cell - cell

  abbrev pub before_test : Registers
  before_test = record r { r4 = pos 0; r7 = pos cell; r9 = saved }

  abbrev pub after_test : Registers
  after_test = record r { r4 = pos 0; r7 = pos cell; r9 = saved; r12 = pos first; r13 = pos last; r14 = remainder (saved ⊟ pos first) (pos cell) }

  pub top_goes : IsMemory st.memory → stack_of g ⊟ pos cell ≡ pos first → (is_between (pos first) (pos last) cell saved ≡ false → (v : Micro) → v.state ≡ st → v.spent ≤ 800 → P (Ended (Some (ends.Undefined st.statement)) v)) →
      (is_between (pos first) (pos last) cell saved ≡ true → Comes P g next rest 0 (record { state = st; registers = after_test; scratch = words; failed = failed; spent = 264 })) →
      Comes P g next (joined top_code rest) 0 (record { state = st; registers = before_test; scratch = words; failed = failed; spent = 168 })
  unfolding top_code
  top_goes v base fails go =
      let short : length st.memory.cells * cell ≤ length st.memory.cells * 64 = mul-le-mul_left (length st.memory.cells) v.limits.most in
      let product : wrapped_product (pos (length st.memory.cells)) (pos cell) ≡ pos (length st.memory.cells * cell) = times_size (length st.memory.cells) cell (omega (arith, v.count)) v.limits.most in
      let sum : wrapped_sum (pos FIRST_CELL) (pos (length st.memory.cells * cell)) ≡ pos (FIRST_CELL + length st.memory.cells * cell) = add_pos FIRST_CELL (length st.memory.cells * cell) (FIRST_CELL + length st.memory.cells * cell) refl (omega (arith, v.count)) in
      let high : wrapped_difference (pos (FIRST_CELL + length st.memory.cells * cell)) (pos cell) ≡ pos last = difference_pos (FIRST_CELL + length st.memory.cells * cell) cell (omega (arith, v.limits.most)) (omega (arith, v.count)) in
      by_top first last cell (omega (arith, v.limits.least)) (omega (arith, v.count)) saved
      (λ under no. record { fuel = 10; has = simp (base, product, sum, high, under) (fails no _ refl (lit≤ tt)) })
      (λ above over no. record { fuel = 11; has = simp (base, product, sum, high, above, over) (fails no _ refl (lit≤ tt)) })
      (λ above under apart no. record { fuel = 14; has = simp (base, product, sum, high, above, under, apart) (fails no _ refl (lit≤ tt)) })
      (λ above under whole is. by_coming (behind top_code inside (omega arith) (go is)) (λ fuel z. record { fuel = more 12 fuel; has = simp (base, product, sum, high, above, under, whole) z }))

-- ---- what is handed over

module _ (P : Way → Type 0) (g : Setting) (next : ℕ) (place number : Option ℤ) (st : State) (words : ℕ → ℤ) (failed : Option ℕ) (r : Registers) where
  abbrev pub handing : Registers
  handing = record r { r4 = pos 0; r5 = pos 1 }

  abbrev pub handed_over : Registers
  handed_over = record r { r1 = numbered place; r2 = flagged place; r3 = numbered number; r4 = pos 0; r5 = pos 1 }

  pub hand_over_goes : P (Returned r.r11 (record { state = record st { current = r.r6; previous = r.r9 }; registers = handed_over; scratch = words; failed = failed; spent = 372 })) →
      Comes P g next (hand_over_code place number) 0 (record { state = st; registers = handing; scratch = words; failed = failed; spent = 264 })
  unfolding hand_over_code
  hand_over_goes p = record { fuel = 6; has = p }

-- ---- their operations

pub frame_read_first : (k statements formats : ℕ) → IsFirst k statements formats 168 (frame_read_code k)
unfolding frame_read_code
frame_read_first k statements formats = record { part = refl; begins = refl; once = refl; names = refl; quiet = refl; weight = refl }

pub top_part : (statements formats : ℕ) → IsPart statements formats 132 top_code
unfolding top_code
top_part statements formats = record { part = refl; begins = refl; names = refl; quiet = refl; weight = refl }

pub hand_over_part : (statements formats : ℕ) (place number : Option ℤ) → IsPart statements formats 108 (hand_over_code place number)
unfolding hand_over_code
hand_over_part statements formats place number = record { part = refl; begins = refl; names = refl; quiet = refl; weight = refl }
