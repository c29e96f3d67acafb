-- The integer that characters spell.
use Rattle.std.proofs.Common.{◌≡◌, ℕ, zero, suc, ◌+◌, ◌-◌, ◌*◌, ◌≤◌, ◌<◌, ◌^◌, List, [], ◌∷◌, Option, Some, None, Bool, true, false, refl, ap, subst, sym, ◌∙◌, arith}
use Rattle.std.proofs.lemmas.Bool.Decides.{nat_tests}
use Rattle.std.specs.Prelude.{ℤ, pos, negsuc, neg_ℤ, nat_eq, nat_lt, nat_le}
use Rattle.sil_macros.specs.declared.names.Macro.TheVariants.{Spcint}
use Rattle.sil_model.specs.declared.program.Arg.TheVariants.{Goto, Place}
use Rattle.sil_model.specs.declared.program.Specials.{Specials}
use Rattle.sil_model.specs.Access.{◌>>=◌, char_at, set_whole_at}
use Rattle.sil_model.specs.Arguments.{flow_to}
use Rattle.sil_model.specs.Effects.{MemoryEffect}
use Rattle.sil_model.specs.Integers.{◌⊞◌, wrapped_sum, wrapped_difference}
use Rattle.sil_model.specs.Memory.{IsMemory}
use Rattle.sil_model.specs.States.{State}
use Rattle.sil_micro.specs.declared.op.Op.{Op}
use Rattle.sil_micro.specs.Expands.{Does, IsPiece, Makes, at}
use Rattle.sil_micro.specs.MicroStates.{Setting, Micro, Registers}
use Rattle.sil_micro.specs.Pieces.{joined}
use Rattle.sil_micro.proofs.Making.{by_option, by_test, more, by_way}
use Rattle.exp_common.specs.Locations.{lead}
use Rattle.exp_common.proofs.JoinedParts.{IsPart, both_parts, whole_piece}
use Rattle.exp_common.proofs.Leads.{goes_to}
use Rattle.string_clauses.specs.StringClauses.{counted, digit_turn, integer_read, integer_set, is_digit, signed, spcint}
use Rattle.string_clauses.specs.StringTable.{integer_turns, spcint_turns, string_clause, string_visits}
use Rattle.string_clauses.specs.Walks.{walk, walk_visits}
use Rattle.string_clauses.proofs.Room.{char_is_byte}
use Rattle.string_runtime.specs.StringParts.{digits_code, first_code, length_code, no_code, start_code}
use Rattle.string_runtime.proofs.DigitWords.{digit_more, digit_no, digit_small, digit_value, digit_yes, many_test, room_no, room_yes, ten_times, turned}
use Rattle.string_runtime.proofs.StringHeads.{after_memory, first_goes, first_part, length_goes, length_part, start_first, start_goes}
use Rattle.exp_common.proofs.Words.{add_pos}

bind_more : {A B C : Type 0} (o : Option A) (f : A → B) (g : B → Option C) → (o >>= (λ x. g (f x))) ≡ ((o >>= (λ x. Some (f x))) >>= g)
bind_more None f g = refl
bind_more (Some x) f g = refl

module _ (g : Setting) (d : ℤ) (icode : ℕ) (failure success : Option ℕ) (before : State) (valid : IsMemory before.memory) (failed : Option ℕ) (words : ℕ → ℤ) (r : Registers) (first : ℤ) (total cost : ℕ) where
  abbrev code : List Op
  code = digits_code d icode (lead before.statement failure) (lead before.statement success)

  abbrev ends : Option ℤ → MemoryEffect
  ends found = integer_set before.memory d icode found (flow_to failure) (flow_to success)

  -- the state at the loop's head; the sign is 1 for a negative number
  abbrev at_digit : ℕ → ℕ → ℕ → ℕ → ℤ → ℤ → ℕ → Micro
  at_digit limit sign i n a b w = record {
    state = record before { steps = before.steps + 1 };
    registers = record r { r1 = a; r2 = first; r3 = negsuc 922337203685477579; r4 = pos 0; r7 = pos total; r8 = neg_ℤ (pos limit); r9 = neg_ℤ (pos n); r10 = pos i; r11 = pos 1; r12 = pos sign; r13 = pos 10; r14 = pos 48; r15 = b };
    scratch = words;
    failed = failed;
    spent = w;
  }

  abbrev number_of : Bool → ℕ
  number_of true = 1
  number_of false = 0

  ends_goes : (negative : Bool) (limit i n : ℕ) (a b : ℤ) (w : ℕ) → n ≤ limit → (negative ≡ false → limit < 2 ^ 63) → w + 100 ≤ cost →
      Makes g (before.statement + 1) code 32 (at_digit limit (number_of negative) i n a b w) (after_memory before (ends (signed negative (Some n)))) cost
  unfolding digits_code
  ends_goes true limit i n a b w le small pays =
      by_option (set_whole_at before.memory d (neg_ℤ (pos n)) (pos 0) (pos icode))
      (λ none. record { fuel = 8; meets = simp none (refl, refl, omega (arith, pays)) })
      (λ after set. record { fuel = 8; meets = simp (set, goes_to) (refl, omega (arith, pays)) })
  ends_goes false limit i n a b w le small pays =
      let below = small refl in
      let back = turned n (omega (arith, le, below)) in
      by_option (set_whole_at before.memory d (pos n) (pos 0) (pos icode))
      (λ none. record { fuel = 8; meets = simp (back, none) (refl, refl, omega (arith, pays)) })
      (λ after set. record { fuel = 8; meets = simp (back, set, goes_to) (refl, omega (arith, pays)) })

  digit_loop : (negative : Bool) (limit : ℕ) → limit ≤ 2 ^ 63 → 2 ^ 63 - 1 ≤ limit → (negative ≡ false → limit < 2 ^ 63) → (count i n : ℕ) (a b : ℤ) (w : ℕ) → i + count ≡ total → total < 2 ^ 62 → n ≤ limit →
      w + 150 * walk_visits (digit_turn before.memory first limit) i count n + 200 ≤ cost →
      Makes g (before.statement + 1) code 20 (at_digit limit (number_of negative) i n a b w) (after_memory before (walk (digit_turn before.memory first limit) counted i count n >>= (λ found. ends (signed negative found)))) cost
  unfolding walk walk_visits digit_turn digits_code
  digit_loop negative limit most least small zero i n a b w is short le pays =
      let e : i ≡ total = omega (arith, is) in
      let z : nat_eq total total ≡ true = grind arith in
      by_way (ends_goes negative limit total n a b (w + 8) le small (omega (arith, pays))) (λ f y. record { fuel = suc f; meets = simp (e, z) y })
  digit_loop negative limit most least small (suc count) i n a b w is short le pays =
      let z : nat_eq i total ≡ false = grind arith in
      let up : wrapped_sum (pos i) (pos 1) ≡ pos (i + 1) = add_pos i 1 (i + 1) refl (omega (arith, is, short)) in
      by_option (char_at before.memory (first ⊞ pos i))
      (λ e. let pays' = simp e at pays in record { fuel = 8; meets = simp (z, e) (refl, refl, omega (arith, pays')) })
      (λ c e.
      let byte = char_is_byte before.memory (first ⊞ pos i) c valid e in
      by_test (is_digit c)
      (λ t.
      let yes = digit_yes c byte t in
      let value = digit_value c byte t in
      let yes' = simp value at yes in
      let nine = digit_small c t in
      by_test (nat_lt 922337203685477580 n)
      (λ q.
      let many = many_test n in
      let over : nat_le (10 * n + (c - 48)) limit ≡ false = grind (arith, nat_tests, q) in
      let pays' = simp (e, t, over) at pays in
      record { fuel = 8; meets = simp (z, e, value, yes', many, q, t, over, goes_to) (refl, omega (arith, pays')) })
      (λ q.
      let many = many_test n in
      let few : n ≤ 922337203685477580 = grind (arith, nat_tests, q) in
      let times = ten_times n few in
      by_test (nat_le (10 * n + (c - 48)) limit)
      (λ fits.
      let under : 10 * n + (c - 48) ≤ limit = grind (arith, nat_tests, fits) in
      let room = room_yes n (c - 48) limit nine most under in
      let next = digit_more n (c - 48) (omega (arith, under, most)) nine in
      let pays' = simp (e, t, fits) at pays in
      by_way (digit_loop negative limit most least small count (i + 1) (10 * n + (c - 48)) (wrapped_difference (neg_ℤ (pos (10 * n))) (neg_ℤ (pos limit))) (pos (c - 48)) (w + 8 + 8 + 28 + 8 + 8 + 8 + 8 + 8 + 8 + 8 + 8 + 8) (omega (arith, is)) short under (omega (arith, pays')))
      (λ f y. record { fuel = more 12 f; meets = simp (z, e, value, yes', many, q, t, fits, times, room, next, up) y }))
      (λ fits.
      let over : limit < 10 * n + (c - 48) = grind (arith, nat_tests, fits) in
      let room = room_no n (c - 48) limit nine most (omega (arith, few, least)) over in
      let pays' = simp (e, t, fits) at pays in
      record { fuel = 12; meets = simp (z, e, value, yes', many, q, t, fits, times, room, goes_to) (refl, omega (arith, pays')) })))
      (λ t.
      let no = digit_no c byte t in
      let pays' = simp (e, t) at pays in
      record { fuel = 8; meets = simp (z, e, no, t, goes_to) (refl, omega (arith, pays')) }))

  digits_go : (negative : Bool) (limit : ℕ) → limit ≤ 2 ^ 63 → 2 ^ 63 - 1 ≤ limit → (negative ≡ false → limit < 2 ^ 63) → (count i : ℕ) (a b : ℤ) (w : ℕ) → i + count ≡ total → total < 2 ^ 62 →
      w + 150 * walk_visits (digit_turn before.memory first limit) i count 0 + 200 ≤ cost →
      Makes g (before.statement + 1) code 20 (at_digit limit (number_of negative) i 0 a b w) (after_memory before ((walk (digit_turn before.memory first limit) counted i count 0 >>= (λ x. Some (signed negative x))) >>= ends)) cost
  digits_go negative limit most least small count i a b w is short pays =
      subst (λ e. Makes g (before.statement + 1) code 20 (at_digit limit (number_of negative) i 0 a b w) (after_memory before e) cost)
      (bind_more (walk (digit_turn before.memory first limit) counted i count 0) (signed negative) ends)
      (digit_loop negative limit most least small count i 0 a b w is short (omega arith) pays)

module _ (g : Setting) (d : ℤ) (icode : ℕ) (failure success : Option ℕ) (before : State) (valid : IsMemory before.memory) (failed : Option ℕ) (words : ℕ → ℤ) (r : Registers) (first : ℤ) where
  abbrev at_start : ℕ → ℕ → Micro
  at_start l w = record {
    state = record before { steps = before.steps + 1 };
    registers = record r { r2 = first; r4 = pos 0; r7 = pos l; r11 = pos 1 };
    scratch = words;
    failed = failed;
    spent = w;
  }

  abbrev result : Option ℤ → MemoryEffect
  result found = integer_set before.memory d icode found (flow_to failure) (flow_to success)

  with_minus : (n c w cost : ℕ) → suc n < 2 ^ 61 → w + 160 * integer_turns before.memory first (suc n) + 600 ≤ cost → nat_eq (suc n) 0 ≡ false → char_at before.memory (first ⊞ pos 0) ≡ Some c → nat_eq c 45 ≡ true →
      Makes g (before.statement + 1) (digits_code d icode (lead before.statement failure) (lead before.statement success)) 0 (at_start (suc n) w) (after_memory before (integer_read before.memory first (suc n) >>= result)) cost
  unfolding integer_read digits_code
  with_minus zero c w cost short pays z e t = record { fuel = 18; meets = simp (e, t, goes_to) (refl, omega (arith, pays)) }
  with_minus (suc n) c w cost short pays z e t =
      let one : nat_eq (suc (suc n)) 1 ≡ false = grind arith in
      let pays' = simp (e, t) at pays in
      by_way (digits_go g d icode failure success before valid failed words r first (suc (suc n)) cost true (2 ^ 63) (omega arith) (omega arith) (λ q. absurd cc) (suc n) 1 (pos 45) (pos c) (w + 8 + 8 + 8 + 8 + 8 + 8 + 8 + 8 + 8 + 28 + 8 + 8 + 8 + 8 + 8 + 8) (omega arith) (omega (arith, short)) (omega (arith, pays')))
      (λ f y. record { fuel = more 16 f; meets = simp (z, e, t, one) y })

  with_plus : (n c w cost : ℕ) → suc n < 2 ^ 61 → w + 160 * integer_turns before.memory first (suc n) + 600 ≤ cost → nat_eq (suc n) 0 ≡ false → char_at before.memory (first ⊞ pos 0) ≡ Some c → nat_eq c 45 ≡ false → nat_eq c 43 ≡ true →
      Makes g (before.statement + 1) (digits_code d icode (lead before.statement failure) (lead before.statement success)) 0 (at_start (suc n) w) (after_memory before (integer_read before.memory first (suc n) >>= result)) cost
  unfolding integer_read digits_code
  with_plus zero c w cost short pays z e t t' = record { fuel = 18; meets = simp (e, t, t', goes_to) (refl, omega (arith, pays)) }
  with_plus (suc n) c w cost short pays z e t t' =
      let one : nat_eq (suc (suc n)) 1 ≡ false = grind arith in
      let pays' = simp (e, t, t') at pays in
      by_way (digits_go g d icode failure success before valid failed words r first (suc (suc n)) cost false (2 ^ 63 - 1) (omega arith) (omega arith) (λ q. omega arith) (suc n) 1 (pos 43) (pos c) (w + 8 + 8 + 8 + 8 + 8 + 8 + 8 + 8 + 8 + 28 + 8 + 8 + 8 + 8 + 8 + 8 + 8) (omega arith) (omega (arith, short)) (omega (arith, pays')))
      (λ f y. record { fuel = more 17 f; meets = simp (z, e, t, t', one) y })

  reads_goes : (l w cost : ℕ) → l < 2 ^ 61 → w + 160 * integer_turns before.memory first l + 600 ≤ cost →
      Makes g (before.statement + 1) (digits_code d icode (lead before.statement failure) (lead before.statement success)) 0 (at_start l w) (after_memory before (integer_read before.memory first l >>= result)) cost
  unfolding integer_read digits_code
  reads_goes zero w cost short pays =
      by_way (ends_goes g d icode failure success before valid failed words r first 0 cost false (2 ^ 63 - 1) 0 0 r.r1 r.r15 (w + 8 + 8 + 8 + 8 + 8 + 8 + 8 + 8) (omega arith) (λ e. omega arith) (omega (arith, pays))) (λ f y. record { fuel = more 8 f; meets = y })
  reads_goes (suc n) w cost short pays =
      let z : nat_eq (suc n) 0 ≡ false = grind arith in
      by_option (char_at before.memory (first ⊞ pos 0))
      (λ e. record { fuel = 12; meets = simp (z, e) (refl, refl, omega (arith, pays)) })
      (λ c e. by_test (nat_eq c 45)
      (λ t. with_minus n c w cost short pays z e t)
      (λ t. by_test (nat_eq c 43)
      (λ t'. with_plus n c w cost short pays z e t t')
      (λ t'.
      let pays' = simp (e, t, t') at pays in
      by_way (digits_go g d icode failure success before valid failed words r first (suc n) cost false (2 ^ 63 - 1) (omega arith) (omega arith) (λ q. omega arith) (suc n) 0 (pos 43) (pos c) (w + 8 + 8 + 8 + 8 + 8 + 8 + 8 + 8 + 8 + 28 + 8 + 8 + 8 + 8) (omega arith) (omega (arith, short)) (omega (arith, pays')))
      (λ f y. record { fuel = more 14 f; meets = simp (z, e, t, t') y }))))

module _ (k : ℕ) (d s : ℤ) (failure success : Option ℕ) (specials : Specials) (icode : ℕ) where
  abbrev tail : List Op
  tail = digits_code d icode (lead k failure) (lead k success)

  abbrev string_part : List Op
  string_part = joined (first_code s) tail

  abbrev rest : List Op
  rest = joined (length_code s) string_part

  abbrev pub spcint_code : List Op
  spcint_code = joined (start_code k) rest

  module _ (statements formats : ℕ) (w0 : nat_le (lead k failure) statements ≡ true) (w1 : nat_le (lead k success) statements ≡ true) where
    tail_part : IsPart statements formats 364 tail
    unfolding digits_code
    tail_part = record { part = refl; begins = refl; names = simp (w0, w1); quiet = refl; weight = refl }

    strings_part : IsPart statements formats 460 string_part
    strings_part = both_parts (first_part statements formats s) tail_part

    rest_part : IsPart statements formats 504 rest
    rest_part = both_parts (length_part statements formats s) strings_part

    pub spcint_piece : IsPiece k statements formats false spcint_code
    spcint_piece = whole_piece (start_first k statements formats) rest_part (omega arith)

  pub spcint_does : (statements formats : ℕ) → nat_le (lead k failure) statements ≡ true → nat_le (lead k success) statements ≡ true → specials.int_code ≡ Some icode →
      Does k spcint_code specials (Place d ∷ Place s ∷ Goto failure ∷ Goto success ∷ []) (string_clause Spcint) (string_visits Spcint)
  unfolding string_clause spcint
  spcint_does statements formats w0 w1 found g program parameters u h =
      let before : State = at k u.state in
      let m = u.state.memory in
      let valid = h.valid.memory in
      let size = pos u.state.memory.limits.cell_size in
      let args = Place d ∷ Place s ∷ Goto failure ∷ Goto success ∷ [] in
      let cost = 2000 + 400 * (4 + (3 + spcint_turns args m)) in
      let same : program.specials.int_code ≡ Some icode = ap (λ x. x.int_code) h.setting.symbols ∙ found in
      subst (λ o. Makes g (k + 1) spcint_code 0 u (after_memory before (spcint o args m)) cost) (sym same)
      (start_goes g (k + 1) rest (rest_part statements formats w0 w1).part k u _ cost h.left
      (length_goes g (k + 1) string_part (strings_part statements formats w0 w1).part before u.failed u.scratch u.registers valid cost s 52 _ (omega arith)
      (λ l few is.
      first_goes g (k + 1) tail (tail_part statements formats w0 w1).part before u.failed u.scratch (record u.registers { r1 = s ⊞ size }) valid cost s l (52 + 8 + 8 + 28) _ (omega arith) (omega (arith, few))
      (λ first x y z w pays is'.
      let count : spcint_turns args m ≡ integer_turns m first l = simp (is, is') refl in
      reads_goes g d icode failure success before valid u.failed u.scratch (record u.registers { r1 = x; r3 = y; r5 = size; r6 = z }) first l w cost (omega (arith, few)) (omega (arith, pays, count))))))

-- where I has no value
pub unspelled : (k : ℕ) (d s : ℤ) (failure success : Option ℕ) (specials : Specials) → specials.int_code ≡ None → Does k (no_code k) specials (Place d ∷ Place s ∷ Goto failure ∷ Goto success ∷ []) (string_clause Spcint) (string_visits Spcint)
unfolding string_clause spcint no_code
unspelled k d s failure success specials none g program parameters u h =
    let args = Place d ∷ Place s ∷ Goto failure ∷ Goto success ∷ [] in
    let cost = 2000 + 400 * (4 + (3 + spcint_turns args u.state.memory)) in
    let same : program.specials.int_code ≡ None = ap (λ x. x.int_code) h.setting.symbols ∙ none in
    record { fuel = 4; meets = simp (h.left, same) (refl, refl, omega arith) }
