-- The routine that jumps by an entry.
use Rattle.std.proofs.Common.{◌≡◌, ℕ, suc, ◌+◌, ◌-◌, ◌*◌, ◌/◌, ◌%◌, ◌^◌, ◌<◌, ◌≤◌, List, [], ◌∷◌, length, Option, Some, None, Bool, true, false, cond, ◌==◌, ◌&&◌, refl, sym, ap, subst, ◌∙◌, arith}
use Rattle.std.specs.Prelude.{pos, negsuc, nat_lt, nat_le, not}
use Rattle.std.specs.Int.{w64, cast_signed}
use Rattle.std.proofs.lemmas.Nat.{le-div}
use Rattle.sil_base.specs.declared.places.TheConstants.{FIRST_ENTRY}
use Rattle.sil_model.specs.Access.{◌>>=◌}
use Rattle.sil_model.specs.Entries.{entered_statement}
use Rattle.rv_isa.specs.InstrWords.{twos}
use Rattle.image_file.specs.Image.{Image}
use Rattle.rv_emulate.specs.declared.end.CpuEnd.TheVariants.{Undefined}
use Rattle.rv_emulate.specs.EmulatorStates.{State, Outcome, On, Ended, register}
use Rattle.rv_emulate.specs.InstrValues.{sum64, extended}
use Rattle.rv_straight.specs.InstalledWays.{Comes, IsBetween}
use Rattle.rv_straight.specs.Registers.{IsFile, Writes, written, Knows}
use Rattle.rv_straight.specs.InstrEffects.{Value}
use Rattle.rv_straight.specs.Straight.{at, ◌▸◌}
use Rattle.rv_straight.specs.Code.{IsNext}
use Rattle.rv_straight.specs.Constants.{upper_of, lower_of}
use Rattle.rv_straight.specs.Jumps.{distance, leap_code}
use Rattle.rv_straight.specs.Reaching.{Reaches}
use Rattle.rv_straight.proofs.Ways.{comes_within, then_comes}
use Rattle.rv_straight.proofs.Registers.{read_kept, knows_write}
use Rattle.rv_straight.proofs.Reaching.{start, straight, passes, branches, jumps, leaps, undefined}
use Rattle.rv_straight.proofs.Numbers.{constant_is}
use Rattle.rv_straight.proofs.Leaps.{half_way, code_at, code_from}
use Rattle.rv_routines.specs.Routines.{is_scratch}
use Rattle.rv_routines.proofs.Checking.{lt_of, whole_is, number_is}
use Rattle.rv_operations.specs.Switch.{switch_code, led, Switches, HasSwitch, LawOfSwitches}

-- the distance from the first entry, wrapped
abbrev offset : ℕ → ℕ
offset x = (x + (2 ^ 64 - 0x7000_0000)) % 2 ^ 64

abbrev statement_by : Bool → Bool → ℕ → Option ℕ
statement_by whole within q = cond whole (cond within (Some q) None) None

-- ---- the statement of an entry, by the wrapped distance

far : (o d count : ℕ) → 16 ≤ d → d ≤ 64 → count ≤ 2 ^ 14 → 2 ^ 62 ≤ o → nat_lt (o / d) count ≡ false
far o d count least most few h =
    let big : 2 ^ 14 ≤ o / d = omega (arith, le-div (2 ^ 14) o d (omega arith) (omega arith)) in
    grind arith

none_far : (whole : Bool) (o d count : ℕ) → 16 ≤ d → d ≤ 64 → count ≤ 2 ^ 14 → 2 ^ 62 ≤ o → statement_by whole (nat_lt (o / d) count) (o / d) ≡ None
none_far false o d count least most few h = refl
none_far true o d count least most few h = ap (λ b. cond b (Some (o / d)) None) (far o d count least most few h)

look : (low whole within : Bool) (q : ℕ) → low ≡ true → cond (low && whole && within) (Some q) None ≡ statement_by whole within q
look true true within q e = refl
look true false within q e = refl
look false whole within q e = absurd cc

below : (low whole within : Bool) (q : ℕ) → low ≡ false → cond (low && whole && within) (Some q) None ≡ None
below true whole within q e = absurd cc
below false whole within q e = refl

module _ (d count : ℕ) (least : 16 ≤ d) (most : d ≤ 64) (few : count ≤ 2 ^ 14) where
  below_sign : (x : ℕ) (low : Bool) → x < 2 ^ 63 → nat_le FIRST_ENTRY x ≡ low → entered_statement d count (pos x) ≡ statement_by (offset x % d == 0) (nat_lt (offset x / d) count) (offset x / d)
  unfolding entered_statement
  below_sign x true h e =
      let le : 0x7000_0000 ≤ x = grind arith in
      let o : x - FIRST_ENTRY ≡ offset x = omega arith in
      look (nat_le FIRST_ENTRY x) ((x - FIRST_ENTRY) % d == 0) (nat_lt ((x - FIRST_ENTRY) / d) count) ((x - FIRST_ENTRY) / d) e ∙ ap (λ z. statement_by (z % d == 0) (nat_lt (z / d) count) (z / d)) o
  below_sign x false h e =
      let lt : x < 0x7000_0000 = grind arith in
      below (nat_le FIRST_ENTRY x) ((x - FIRST_ENTRY) % d == 0) (nat_lt ((x - FIRST_ENTRY) / d) count) ((x - FIRST_ENTRY) / d) e ∙ sym (none_far (offset x % d == 0) (offset x) d count least most few (omega arith))

  negative : (n : ℕ) → entered_statement d count (negsuc n) ≡ None
  unfolding entered_statement
  negative n = refl

  by_sign : (x : ℕ) (b : Bool) → x < 2 ^ 64 → nat_lt x (2 ^ 63) ≡ b → entered_statement d count (cond b (pos x) (negsuc (2 ^ 64 - suc x))) ≡ statement_by (offset x % d == 0) (nat_lt (offset x / d) count) (offset x / d)
  by_sign x true small e = below_sign x (nat_le FIRST_ENTRY x) (grind arith) refl
  by_sign x false small e = let ge : 2 ^ 63 ≤ x = grind arith in negative (2 ^ 64 - suc x) ∙ sym (none_far (offset x % d == 0) (offset x) d count least most few (omega arith))

  pub entered_is : (x : ℕ) → x < 2 ^ 64 → entered_statement d count (cast_signed w64 x) ≡ statement_by (offset x % d == 0) (nat_lt (offset x / d) count) (offset x / d)
  entered_is x small = by_sign x (nat_lt x (2 ^ 63)) small refl

-- ---- the routine

table_lands : (from to q : ℕ) → from < 2 ^ 31 - 2 ^ 12 → to < 2 ^ 31 - 2 ^ 12 → to % 4 ≡ 0 → q < 2 ^ 14 → to + 8 * q < 2 ^ 31 - 2 ^ 12 → sum64 (sum64 (8 * q) (half_way from to)) (twos 64 (lower_of (distance from to))) / 2 * 2 ≡ to + 8 * q
table_lands from to q h g e lt near = grind arith

shifted : (q : ℕ) → q < 2 ^ 14 → q * 2 ^ 3 % 2 ^ 64 ≡ 8 * q
shifted q h = omega arith

module _ {image : Image} {last d count table : ℕ} {places : ℕ → Option ℕ} (least : 16 ≤ d) (most : d ≤ 64) (many : count ≤ 2 ^ 14) (s : State) (has : HasSwitch image last d count s.pc table places) (file : IsFile s.registers) (few : register s.registers 26 ≤ length image.statements) where
  abbrev c : IsNext image last s (switch_code d count s.pc table)
  c = code_at has.routine s refl

  abbrev x : ℕ
  x = register s.registers 10

  abbrev o : ℕ
  o = offset x

  abbrev q : ℕ
  q = o / d

  abbrev lost : Outcome
  lost = Ended (Some (Undefined (register s.registers 26))) s.tapes

  abbrev ws1 : Writes
  ws1 = (30, o % d) ∷ (29, d) ∷ (28, o) ∷ (28, 0x7000_0000) ∷ []

  to_4 : Reaches c 4 4 ws1 s.memory
  to_4 =
      straight (start c file) 4 (Value 0x7000_0000 ∷ Value o ∷ Value d ∷ Value (o % d) ∷ []) (omega arith) (omega arith)
      (refl ▸ refl ▸ omega (arith, most) ▸ whole_is o d (omega (arith, least)) ▸ tt)

  lost_4 : (o % d == 0) ≡ false → Comes image last false 8 s lost
  lost_4 e = undefined (branches to_4 13 refl (omega arith) (omega arith) (ap not e) (omega (arith, c.low))) _ refl refl (omega arith) refl few

  abbrev up : ℕ
  up = extended (upper_of count * 2 ^ 12)

  abbrev ws2 : Writes
  ws2 = (29, count) ∷ (29, up) ∷ (28, q) ∷ ws1

  to_8 : (o % d == 0) ≡ true → Reaches c 8 8 ws2 s.memory
  to_8 e =
      straight (passes to_4 refl (omega arith) (ap not e)) 3 (Value q ∷ Value up ∷ Value count ∷ []) (omega arith) (omega arith)
      (number_is o d (omega (arith, least)) ▸ refl ▸ constant_is count (omega (arith, many)) ▸ tt)

  lost_8 : (o % d == 0) ≡ true → nat_lt q count ≡ false → Comes image last false 12 s lost
  lost_8 e g = undefined (branches (to_8 e) 13 refl (omega arith) (omega arith) (ap not g) (omega (arith, c.low))) _ refl refl (omega arith) refl few

  module _ (e : (o % d == 0) ≡ true) (g : nat_lt q count ≡ true) where
    lt : q < count
    lt = lt_of q count g

    abbrev half : ℕ
    half = half_way (s.pc + 40) table

    abbrev ws3 : Writes
    ws3 = (28, sum64 (8 * q) half) ∷ (29, half) ∷ (28, 8 * q) ∷ ws2

    abbrev t : State
    t = at s (table + 8 * q) ws3 s.memory

    to_12 : Reaches c 12 12 ws3 s.memory
    to_12 = straight (passes (to_8 e) refl (omega arith) (ap not g)) 3 (Value (8 * q) ∷ Value half ∷ Value (sum64 (8 * q) half) ∷ []) (omega arith) (omega arith) (shifted q (omega (arith, lt, many)) ▸ refl ▸ refl ▸ tt)

    -- into the table
    to_table : Comes image last false 13 s (On t)
    to_table =
        let lands = table_lands (s.pc + 40) table q (omega (arith, c.low)) (omega (arith, has.table_near)) has.table_even (omega (arith, lt, many)) (omega (arith, lt, has.table_near)) in
        jumps to_12 (table + 8 * q) refl lands

    free_t : IsBetween image last t
    free_t = (has.entries q lt).free (table + 8 * q) (omega arith) (omega arith)

    -- from it
    abbrev ys : ℕ → List ℕ
    ys to = written s.registers ((28, half_way (t.pc + 4 * 0) to) ∷ ws3)

    know : (to : ℕ) → Knows s.registers ((28, half_way (t.pc + 4 * 0) to) ∷ ws3)
    know to = knows_write s.registers ws3 28 (half_way (t.pc + 4 * 0) to) to_12.know (omega arith) (omega arith)

    goes : (to : ℕ) → led s.pc (places q) ≡ to → to < 2 ^ 31 - 2 ^ 12 → to % 4 ≡ 0 → Comes image last false 15 s (On (record s { pc = to; registers = ys to }))
    goes to is near even =
        let z : table + 8 * q ≡ table + 8 * q + 4 * 0 = omega arith in
        let c1 = code_at (has.entries q lt) t refl in
        let c2 = subst (λ k. IsNext image last t (leap_code 28 0 (table + 8 * q) k)) is c1 in
        let c3 = subst (λ a. IsNext image last t (leap_code 28 0 a to)) z c2 in
        let way = leaps (start c3 to_12.know.file) 28 0 to (omega arith) refl refl (omega arith) near even in
        then_comes image last false 13 2 s t _ to_table free_t way

    by_place : (p : Option ℕ) → places q ≡ p → Switches image last s p
    by_place (Some to) is =
        let n = has.near q to lt is in
        (ys to, goes to (ap (led s.pc) is) n.0 n.1, (know to).file, λ r free. (know to).reads r ∙ read_kept is_scratch s.registers ((28, half_way (t.pc + 4 * 0) to) ∷ ws3) r refl free)
    by_place None is =
        let to : ℕ = s.pc + 52 in
        let k = know to in
        let v = record s { pc = to; registers = ys to } in
        let way = goes to (ap (led s.pc) is) (omega (arith, c.low)) (omega (arith, has.routine.even)) in
        let c4 = code_from c 13 v (omega arith) refl in
        let number = k.reads 26 ∙ read_kept is_scratch s.registers ((28, half_way (t.pc + 4 * 0) to) ∷ ws3) 26 refl refl in
        let ended = undefined (start c4 k.file) (register s.registers 26) refl refl (omega arith) number few in
        then_comes image last false 15 3 s v lost way (has.routine.free to (omega arith) (omega arith)) ended

  by_test : (whole within : Bool) → (o % d == 0) ≡ whole → nat_lt q count ≡ within → Switches image last s (statement_by whole within q >>= places)
  by_test false within e g = comes_within image last false 8 18 s lost (lost_4 e) (omega arith)
  by_test true false e g = comes_within image last false 12 18 s lost (lost_8 e g) (omega arith)
  by_test true true e g = by_place e g (places q) refl

  switched : Switches image last s (entered_statement d count (cast_signed w64 x) >>= places)
  switched = subst (λ k. Switches image last s (k >>= places)) (sym (entered_is d count least most many x (file.small 10))) (by_test (o % d == 0) (nat_lt q count) refl refl)

pub switches : LawOfSwitches
switches image last d count place table places least most many has = record {
  free = has.routine.free place (omega arith) (omega (arith, has.routine.some));
  low = omega (arith, has.routine.low);
  even = has.routine.even;
  runs = λ s here file few. switched least most many s (subst (λ p. HasSwitch image last d count p table places) (sym here) has) file few;
}
