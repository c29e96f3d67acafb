-- Items are written by a format.
use Rattle.std.proofs.Common.{◌≡◌, ℕ, suc, ◌+◌, ◌*◌, ◌<◌, ◌≤◌, List, length, map, Option, Some, None, true, All, refl, sym, ap, ◌∙◌, subst, arith}
use Rattle.std.proofs.lemmas.Bool.Decides.{nat_tests}
use Rattle.std.proofs.lemmas.Option.{slice_get_within}
use Rattle.std.specs.Prelude.{ℤ, nat_le, nat_lt, slice_get}
use Rattle.sil_format.specs.declared.value.Value.TheVariants.{Number}
use Rattle.sil_format.specs.declared.value.Laid.{Laid}
use Rattle.sil_format.specs.declared.value.Laid.TheVariants.{Records, Real, Unfit}
use Rattle.unit_io.specs.Tapes.{TapeState, writes_fail}
use Rattle.unit_calls.specs.CallsMade.{laid_by, print_on, printed}
use Rattle.sil_macros.specs.declared.names.Macro.TheVariants.{Output}
use Rattle.sil_model.specs.declared.program.Arg.{Arg}
use Rattle.sil_model.specs.declared.program.Specials.{Specials}
use Rattle.sil_model.specs.Access.{◌>>=◌, a_at, descr_at}
use Rattle.unit_clauses.specs.UnitTable.{unit_visits}
use Rattle.sil_model.specs.OperandCounts.{listed, operand_count}
use Rattle.sil_model.specs.Effects.{Effect}
use Rattle.sil_model.specs.Lists.{all_a_read}
use Rattle.sil_model.specs.Settling.{settle}
use Rattle.sil_model.specs.Sites.{Site}
use Rattle.sil_model.specs.States.{State}
use Rattle.unit_clauses.specs.UnitClauses.{call_unit, output, unit_named}
use Rattle.sil_model.proofs.Keeps.{all_at}
use Rattle.sil_micro.specs.declared.op.Op.{Op}
use Rattle.sil_micro.specs.declared.op.Text.TheVariants as text
use Rattle.sil_micro.specs.declared.op.Values.TheVariants as values
use Rattle.sil_micro.specs.Expands.{IsPiece, Makes, at, site_at}
use Rattle.sil_micro.specs.MicroStates.{Setting, Micro}
use Rattle.sil_micro.specs.Operations.{answered, told_call}
use Rattle.sil_micro.specs.Pieces.{joined, is_part}
use Rattle.sil_micro.specs.UnitCalls.{can_call, or_nothing, words_from}
use Rattle.sil_micro.proofs.Making.{by_option, by_way, more, then_part}
use Rattle.exp_units.specs.InFormats.{DoesIn}
use Rattle.exp_units.specs.OutputOperands.{IsOutput}
use Rattle.exp_units.specs.UnitParts.{call_code, items_code, unit_head}
use Rattle.exp_units.proofs.Calling.{at_call, call_goes, head_first, only_one, same_unit}
use Rattle.exp_units.proofs.ItemWords.{held_words, items_go, items_part}
use Rattle.exp_common.proofs.LoudParts.{IsLoud, both_loud, loud_piece}

-- ---- its operations

abbrev print_code : ℕ → ℕ → List Op
print_code i count = call_code 3 (text.Format i) (values.Words count)

abbrev pub output_code : ℕ → ℤ → ℕ → List ℤ → List Op
output_code k d i ats = joined (unit_head k d) (joined (items_code 0 ats) (print_code i (length ats)))

few_words : (count : ℕ) → count ≤ 40 → is_part (print_code 0 count) ≡ true
unfolding call_code
few_words count few =
    let t : nat_le count 40 ≡ true = grind (arith, nat_tests, few) in
    simp t refl

print_loud : (statements formats i count : ℕ) → i < formats → count ≤ 40 → IsLoud statements formats 176 (print_code i count)
unfolding call_code
print_loud statements formats i count lt few =
    let t : nat_le count 40 ≡ true = grind (arith, nat_tests, few) in
    let n : nat_lt i formats ≡ true = grind (arith, nat_tests, lt) in
    record { part = simp t refl; begins = refl; names = simp n refl; weight = refl }

pub output_piece : (k statements i : ℕ) (d : ℤ) (formats : List (List ℕ)) (bytes : List ℕ) (ats : List ℤ) → slice_get formats i ≡ Some bytes → length ats ≤ 40 → IsPiece k statements (length formats) true (output_code k d i ats)
output_piece k statements i d formats bytes ats is few =
    loud_piece (head_first k statements (length formats) d) (both_loud (items_part statements (length formats) 0 ats) (print_loud statements (length formats) i (length ats) (slice_get_within formats i bytes is) few)) (omega (arith, few))

-- ---- what they do

printed_fails : (o : Option Laid) (t : TapeState) → (printed o t).answer ≡ 1 → (printed o t).failed ≡ true
printed_fails None t e = absurd (cc)
printed_fails (Some Unfit) t e = absurd (cc)
printed_fails (Some Real) t e = absurd (cc)
printed_fails (Some (Records records)) t e = only_one (writes_fail records t) e

-- the code's format of this number is this text, which is short
can_print : (g : Setting) (u : Micro) (i count : ℕ) (bytes : List ℕ) → slice_get g.formats i ≡ Some bytes → length bytes ≤ 256 → can_call g u 3 (text.Format i) (values.Words count) ≡ true
unfolding can_call
can_print g u i count bytes is short =
    let t : nat_le (length bytes) 256 ≡ true = grind (arith, nat_tests, short) in
    simp (is, t) refl

tells_print : (g : Setting) (i count unit : ℕ) (bytes : List ℕ) (numbers : List ℤ) (u : Micro) (t : TapeState) → slice_get g.formats i ≡ Some bytes → words_from u.scratch 0 count ≡ numbers →
    told_call g 3 (text.Format i) (values.Words count) unit 1 u t ≡ answered unit 1 u (print_on bytes (map Number numbers) t)
tells_print g i count unit bytes numbers u t is held =
    ap (λ o. answered unit 1 u (print_on (or_nothing o) (map Number (words_from u.scratch 0 count)) t)) is
    ∙ ap (λ l. answered unit 1 u (print_on bytes (map Number l) t)) held

module _ (k i : ℕ) (d : ℤ) (formats : List (List ℕ)) (bytes : List ℕ) (ats : List ℤ) (is : slice_get formats i ≡ Some bytes) (few : length ats ≤ 40) where
  abbrev rest : List Op
  rest = print_code i (length ats)

  inside : is_part rest ≡ true
  inside = (print_loud 0 (suc i) i (length ats) (omega arith) few).part

  items_inside : is_part (joined (items_code 0 ats) rest) ≡ true
  items_inside = (both_loud (items_part 0 (suc i) 0 ats) (print_loud 0 (suc i) i (length ats) (omega arith) few)).part

  -- the effect, by what was read
  abbrev prints : State → ℕ → List ℤ → Effect
  prints s unit numbers = call_unit s unit (print_on bytes (map Number numbers))

  abbrev effect : State → Effect
  effect s = do
    a ← a_at s.memory d
    numbers ← all_a_read s.memory ats
    prints s (unit_named a) numbers

  effect_is : (args : List Arg) (site : Site) (s : State) → site.args ≡ args → IsOutput args d bytes ats → output site s ≡ effect s
  unfolding output
  effect_is args site s e x = simp (e, x.unit_is, x.format_is, x.places_are) refl

  short : (g : Setting) → All (λ l. length l ≤ 256) g.formats → slice_get g.formats i ≡ Some bytes → length bytes ≤ 256
  short g h there = all_at (λ l. length l ≤ 256) g.formats i bytes h there

  pub output_does : (specials : Specials) (args : List Arg) → IsOutput args d bytes ats → DoesIn formats k (output_code k d i ats) specials args output (unit_visits Output)
  unfolding unit_head
  output_does specials args x g program parameters u h same =
      let before : State = at k u.state in
      let m = u.state.memory in
      let site = site_at program parameters k args in
      let cost = 2000 + 400 * (operand_count args + (1 + length ats)) in
      let there : slice_get g.formats i ≡ Some bytes = ap (λ l. slice_get l i) same ∙ is in
      let little = short g (subst (λ l. All (λ text. length text ≤ 256) l) (sym h.setting.formats) h.setting.well_formed.format_lengths) there in
      subst (λ o. Makes g (k + 1) (output_code k d i ats) 0 u (settle before (output site before)) (2000 + 400 * (operand_count args + (1 + listed o)))) (sym x.places_are)
      (subst (λ e. Makes g (k + 1) (output_code k d i ats) 0 u (settle before e) cost) (sym (effect_is args site before refl x))
      (by_option (descr_at m d)
      (λ none. record { fuel = 4; meets = simp (h.left, none) (refl, refl, omega arith) })
      (λ found e.
      let unit = unit_named found.a in
      let r = record u.registers { r1 = d; r4 = found.a } in
      by_way (then_part (unit_head k d) items_inside (omega arith)
      (items_go g (k + 1) rest inside before u.failed r cost ats 0 d r.r2 r.r3 u.scratch 64 (λ numbers. prints before unit numbers) (omega (arith, few)) (omega (arith, few))
      (λ numbers x' y' z' words' w' many lined paid.
      let held : words_from words' 0 (length ats) ≡ numbers = ap (λ n. words_from words' 0 n) (sym many) ∙ held_words words' 0 numbers lined.holds in
      let r' = record r { r1 = x'; r2 = y'; r3 = z' } in
      let calls = at_call g 3 (text.Format i) (values.Words (length ats)) before unit r' words' cost u.failed in
      call_goes g 3 (text.Format i) (values.Words (length ats)) before unit r' words' cost (print_on bytes (map Number numbers)) u.failed w' (λ v. can_print g (calls v) i (length ats) bytes there little)
      (λ v t. tells_print g i (length ats) unit bytes numbers (calls v) t there held) (λ t. printed_fails (laid_by bytes (map Number numbers)) t) (same_unit found.a) (omega (arith, paid)))))
      (λ f z. record { fuel = more 3 f; meets = simp (h.left, e) z }))))
