-- The decimal text of an integer.
use Rattle.std.proofs.Common.{◌≡◌, ◌≢◌, ℕ, zero, suc, ◌+◌, ◌-◌, ◌*◌, ◌/◌, ◌%◌, ◌≤◌, ◌<◌, ◌^◌, List, [], ◌∷◌, length, Option, Some, true, false, refl, ap, subst, sym, ◌∙◌, arith, lit≤}
use Rattle.std.proofs.lemmas.Bool.Decides.{nat_tests}
use Rattle.std.proofs.lemmas.Int.{ints}
use Rattle.std.specs.Prelude.{ℤ, pos, negsuc, neg_ℤ, nat_eq, nat_lt, All, FitsSigned}
use Rattle.std.specs.Int.{w64}
use Rattle.std.specs.Fmt.{signed_decimal, digits, digits_onto, digit_glyph}
use Rattle.sil_macros.specs.declared.names.Macro.TheVariants.{Intspc}
use Rattle.sil_model.specs.declared.program.Arg.TheVariants.{Place}
use Rattle.sil_model.specs.declared.program.Specials.{Specials}
use Rattle.sil_model.specs.Access.{◌>>=◌, descr_at, set_char_at}
use Rattle.sil_model.specs.Effects.{MemoryEffect, onward}
use Rattle.sil_model.specs.Integers.{◌⊞◌, wrapped_sum, wrapped_difference}
use Rattle.sil_model.specs.Memory.{Memory}
use Rattle.sil_model.specs.States.{State}
use Rattle.sil_micro.specs.declared.op.Op.{Op}
use Rattle.sil_micro.specs.Expands.{Does, IsPiece, Makes, at, site_at}
use Rattle.sil_micro.specs.MicroStates.{Setting, Micro, Registers}
use Rattle.sil_micro.specs.MicroWords.{quotient, remainder, same_integer}
use Rattle.sil_micro.specs.Operations.{cell_address, with_word}
use Rattle.sil_micro.specs.Pieces.{joined, is_part}
use Rattle.sil_micro.proofs.Making.{by_option, by_test, more, by_way, then_part}
use Rattle.exp_common.proofs.JoinedParts.{IsFirst, whole_piece}
use Rattle.exp_common.proofs.Questions.{by_read}
use Rattle.string_clauses.specs.StringClauses.{chars_written, intspc, set_text_at}
use Rattle.string_clauses.specs.StringTable.{hidden_of, string_clause, string_visits}
use Rattle.string_clauses.proofs.StringKeeps.{signed_bytes}
use Rattle.string_runtime.specs.StringParts.{decimal_code, text_code}
use Rattle.string_runtime.proofs.StringHeads.{after_memory}
use Rattle.string_runtime.proofs.Texts.{text_goes, text_part}
use Rattle.exp_common.proofs.Words.{add_pos, low_of_byte, sub_one}

-- ---- words

rest_of : (n : ℕ) → n ≤ 2 ^ 63 → remainder (neg_ℤ (pos n)) (pos 10) ≡ neg_ℤ (pos (n % 10))
unfolding remainder
rest_of zero h = refl
rest_of (suc n) h = grind (arith, ints)

tenth_of : (n : ℕ) → n ≤ 2 ^ 63 → quotient (neg_ℤ (pos n)) (pos 10) ≡ neg_ℤ (pos (n / 10))
unfolding quotient
tenth_of zero h = refl
tenth_of (suc n) h = grind (arith, ints)

glyph_of : (n : ℕ) → wrapped_difference (pos 48) (neg_ℤ (pos (n % 10))) ≡ pos (digit_glyph false (n % 10))
unfolding wrapped_difference
glyph_of n = grind (arith, ints, nat_tests)

zero_test : (n : ℕ) → same_integer (neg_ℤ (pos n)) (pos 0) ≡ nat_eq n 0
zero_test zero = refl
zero_test (suc n) = grind (arith, nat_tests)

minus_of : (n : ℕ) → n < 2 ^ 63 → wrapped_difference (pos 0) (pos n) ≡ neg_ℤ (pos n)
unfolding wrapped_difference
minus_of zero h = refl
minus_of (suc n) h = grind (arith, ints)

one_less : (p : ℕ) → 0 < p → p < 2 ^ 62 → wrapped_difference (pos p) (pos 1) ≡ pos (p - 1)
unfolding wrapped_difference
one_less p h small = grind (arith, ints)

abbrev tens : ℕ → ℕ
tens zero = 1
tens (suc k) = 10 * tens k

-- the characters are in the words from one on
abbrev HoldsFrom : (ℕ → ℤ) → ℕ → List ℕ → Type 0
HoldsFrom words p [] = Unit {0}
HoldsFrom words p (c ∷ cs) = (words p ≡ pos c) × HoldsFrom words (suc p) cs

word_here : (words : ℕ → ℤ) (i : ℕ) (value : ℤ) → with_word words i value i ≡ value
unfolding with_word
word_here words i value = (let same : nat_eq i i ≡ true = grind arith in simp same refl)

word_there : (words : ℕ → ℤ) (i j : ℕ) (value : ℤ) → i < j → with_word words i value j ≡ words j
unfolding with_word
word_there words i j value lt = (let other : nat_eq j i ≡ false = grind (arith, nat_tests) in simp other refl)

holds_above : (words : ℕ → ℤ) (q p : ℕ) (value : ℤ) (cs : List ℕ) → q < p → HoldsFrom words p cs → HoldsFrom (with_word words q value) p cs
holds_above words q p value [] lt h = tt
holds_above words q p value (c ∷ cs) lt h = (word_there words q p value lt ∙ h.0, holds_above words q (suc p) value cs (omega (arith, lt)) h.1)

holds_one_more : (words : ℕ → ℤ) (p c : ℕ) (cs : List ℕ) → 0 < p → HoldsFrom words p cs → HoldsFrom (with_word words (p - 1) (pos c)) (p - 1) (c ∷ cs)
holds_one_more words p c cs lt h =
    let next : suc (p - 1) ≡ p = omega (arith, lt) in
    (word_here words (p - 1) (pos c), subst (λ q. HoldsFrom (with_word words (p - 1) (pos c)) q cs) (sym next) (holds_above words (p - 1) p (pos c) cs (omega (arith, lt)) h))

module _ (g : Setting) (k : ℕ) (d : ℤ) (rest : List Op) (inside : is_part rest ≡ true) (before : State) (failed : Option ℕ) (r : Registers) (cost : ℕ) where
  abbrev place_in : ℕ → Micro → MemoryEffect → Type 0
  place_in place u effect = Makes g (before.statement + 1) (joined (decimal_code k d) rest) place u (after_memory before effect) cost

  abbrev with_digits : ℤ → ℕ → ℕ → ℕ → ℤ → (ℕ → ℤ) → ℕ → Micro
  with_digits value count p sign x words w = record {
    state = record before { steps = before.steps + 1 };
    registers = record r { r1 = d; r2 = value; r4 = pos 0; r9 = pos count; r10 = pos p; r11 = pos 1; r12 = pos 10; r13 = pos 48; r14 = pos sign; r15 = x };
    scratch = words;
    failed = failed;
    spent = w;
  }

  -- the digits, from the last one on
  -- the digits, from the last one on
  make_digits : (i n : ℕ) (acc : List ℕ) (p sign : ℕ) (x : ℤ) (words : ℕ → ℤ) (w : ℕ) (effect : MemoryEffect) → n < tens (suc i) → n ≤ 2 ^ 63 → p + length acc ≡ 100 → length acc + suc i ≤ 64 → HoldsFrom words p acc →
      ((cs : List ℕ) (p' : ℕ) (x' : ℤ) (words' : ℕ → ℤ) (w' : ℕ) → digits_onto (suc i) 10 false n acc ≡ cs → HoldsFrom words' p' cs → p' + length cs ≡ 100 → length cs ≤ 64 → w' ≤ w + 76 * suc i →
      place_in 21 (with_digits (pos 0) (length cs) p' sign x' words' w') effect) →
      place_in 14 (with_digits (neg_ℤ (pos n)) (length acc) p sign x words w) effect
  unfolding decimal_code
  make_digits zero n acc p sign x words w effect below most stands few held exit =
      let rest' = rest_of n most in
      let tenth = tenth_of n most in
      let glyph = glyph_of n in
      let zeroes = zero_test (n / 10) in
      let c = digit_glyph false (n % 10) in
      let less = one_less p (omega (arith, stands, few)) (omega (arith, stands)) in
      let t : nat_lt (p - 1) 8190 ≡ true = grind (arith, nat_tests, stands) in
      let up : wrapped_sum (pos (length acc)) (pos 1) ≡ pos (suc (length acc)) = add_pos (length acc) 1 (suc (length acc)) (omega arith) (omega (arith, few)) in
      let held' = holds_one_more words p c acc (omega (arith, stands, few)) held in
      by_test (nat_eq (n / 10) 0)
      (λ q.
      let none : n / 10 ≡ 0 = grind (arith, nat_tests, q) in
      by_way (exit (c ∷ acc) (p - 1) (pos c) (with_word words (p - 1) (pos c)) (w + 8 + 8 + 8 + 28 + 8 + 8 + 8) (simp q refl) held' (omega (arith, stands, few)) (omega (arith, few)) (omega arith))
      (λ f y. record { fuel = more 7 f; meets = simp (rest', glyph, less, t, up, tenth, none) y }))
      (λ q.
      let some : n / 10 ≢ 0 = (λ e. absurd (grind (arith, nat_tests, q, e))) in
      absurd (some (omega (arith, below))))
  make_digits (suc i) n acc p sign x words w effect below most stands few held exit =
      let rest' = rest_of n most in
      let tenth = tenth_of n most in
      let glyph = glyph_of n in
      let zeroes = zero_test (n / 10) in
      let c = digit_glyph false (n % 10) in
      let less = one_less p (omega (arith, stands, few)) (omega (arith, stands)) in
      let t : nat_lt (p - 1) 8190 ≡ true = grind (arith, nat_tests, stands) in
      let up : wrapped_sum (pos (length acc)) (pos 1) ≡ pos (suc (length acc)) = add_pos (length acc) 1 (suc (length acc)) (omega arith) (omega (arith, few)) in
      let held' = holds_one_more words p c acc (omega (arith, stands, few)) held in
      by_test (nat_eq (n / 10) 0)
      (λ q.
      let none : n / 10 ≡ 0 = grind (arith, nat_tests, q) in
      by_way (exit (c ∷ acc) (p - 1) (pos c) (with_word words (p - 1) (pos c)) (w + 8 + 8 + 8 + 28 + 8 + 8 + 8) (simp q refl) held' (omega (arith, stands, few)) (omega (arith, few)) (omega arith))
      (λ f y. record { fuel = more 7 f; meets = simp (rest', glyph, less, t, up, tenth, none) y }))
      (λ q.
      by_way (make_digits i (n / 10) (c ∷ acc) (p - 1) sign (pos c) (with_word words (p - 1) (pos c)) (w + 8 + 8 + 8 + 28 + 8 + 8 + 8) effect (omega (arith, below)) (omega (arith, most)) (omega (arith, stands, few)) (omega (arith, few)) held'
      (λ cs p' x' words' w' is h2 s2 f2 le. exit cs p' x' words' w' (simp q is) h2 s2 f2 (omega (arith, le))))
      (λ f y. record { fuel = more 7 f; meets = simp (rest', glyph, less, t, up, tenth, zeroes, q) y }))

  abbrev writing : ℕ → ℕ → ℕ → ℤ → ℤ → ℕ → (ℕ → ℤ) → Memory → ℕ → Micro
  writing left count p to x sign words m w = record {
    state = record before { memory = m; steps = before.steps + 1 };
    registers = record r { r1 = d; r2 = pos 0; r3 = to; r4 = pos 0; r8 = pos left; r9 = pos count; r10 = pos p; r11 = pos 1; r12 = pos 10; r13 = pos 48; r14 = pos sign; r15 = x };
    scratch = words;
    failed = failed;
    spent = w;
  }

  -- the characters, from the first one on
  write_digits : (cs : List ℕ) (count p sign : ℕ) (to x : ℤ) (words : ℕ → ℤ) (m : Memory) (w : ℕ) (go : Memory → MemoryEffect) → All (λ c. c < 256) cs → HoldsFrom words p cs → p + length cs ≡ 100 → w + 100 * length cs + 200 ≤ cost →
      ((p' : ℕ) (to' x' : ℤ) (m' : Memory) (w' : ℕ) → w' + 150 ≤ cost → Makes g (before.statement + 1) rest 0 (writing 0 count p' to' x' sign words m' w') (after_memory before (go m')) cost) →
      place_in 28 (writing (length cs) count p to x sign words m w) (chars_written to cs m >>= go)
  unfolding chars_written decimal_code
  write_digits [] count p sign to x words m w go bytes held stands pays exit = by_way (then_part (decimal_code k d) inside (omega arith) (exit p to x m (w + 8) (omega (arith, pays)))) (λ f y. record { fuel = suc f; meets = y })
  write_digits (c ∷ cs) count p sign to x words m w go bytes held stands pays exit =
      let z : nat_eq (suc (length cs)) 0 ≡ false = grind arith in
      let t : nat_lt p 8190 ≡ true = grind (arith, nat_tests, stands) in
      let word = held.0 in
      let byte = bytes 0 0 (omega arith) in
      let low = low_of_byte c byte in
      let up : wrapped_sum (pos p) (pos 1) ≡ pos (suc p) = add_pos p 1 (suc p) (omega arith) (omega (arith, stands)) in
      let down : wrapped_difference (pos (suc (length cs))) (pos 1) ≡ pos (length cs) = sub_one (length cs) (omega (arith, stands)) in
      by_option (set_char_at m to c)
      (λ q. record { fuel = 10; meets = simp (z, t, word, low, q) (refl, refl, omega (arith, pays)) })
      (λ m' q.
      by_way (write_digits cs count (suc p) sign (to ⊞ pos 1) (pos c) words m' (w + 8 + 28 + 28 + 8 + 8 + 8 + 8) go (λ i e lt. bytes (suc i) e (omega (arith, lt))) held.1 (omega (arith, stands)) (omega (arith, pays)) exit)
      (λ f y. record { fuel = more 7 f; meets = simp (z, t, word, low, q, up, down) y }))

module _ (g : Setting) (k : ℕ) (s d : ℤ) (before : State) (failed : Option ℕ) (r : Registers) where
  abbrev hidden : ℤ
  hidden = cell_address g g.static_cells

  abbrev text_effect : List ℕ → MemoryEffect
  text_effect cs = chars_written hidden cs before.memory >>= (λ m'. onward (set_text_at m' s hidden (length cs)))

  abbrev whole : List Op
  whole = joined (decimal_code k d) (text_code s)

  abbrev inside_text : is_part (text_code s) ≡ true
  inside_text = (text_part 0 0 s).part

  -- the text is in the words
  text_made : (cs : List ℕ) (p sign : ℕ) (x : ℤ) (words : ℕ → ℤ) (w : ℕ) → All (λ c. c < 256) cs → HoldsFrom words p cs → p + length cs ≡ 100 → w ≤ 20000 →
      Makes g (before.statement + 1) whole 26 (with_digits g k d (text_code s) inside_text before failed r 37600 (pos 0) (length cs) p sign x words w) (after_memory before (text_effect cs)) 37600
  unfolding decimal_code
  text_made cs p sign x words w bytes held stands pays =
      by_way (write_digits g k d (text_code s) inside_text before failed r 37600 cs (length cs) p sign hidden x words before.memory (w + 8 + 8) (λ m'. onward (set_text_at m' s hidden (length cs))) bytes held stands (omega (arith, pays, stands))
      (λ p' to' x' m' w' pays'. text_goes g before failed words (record r { r1 = d; r2 = pos 0; r3 = to'; r8 = pos 0; r10 = pos p'; r11 = pos 1; r12 = pos 10; r13 = pos 48; r14 = pos sign; r15 = x' }) 37600 s (length cs) m' w' (omega (arith, pays'))))
      (λ f y. record { fuel = more 2 f; meets = y })

module _ (k : ℕ) (s d : ℤ) (specials : Specials) where
  abbrev pub intspc_code : List Op
  intspc_code = joined (decimal_code k d) (text_code s)

  decimal_first : (statements formats : ℕ) → IsFirst k statements formats 400 (decimal_code k d)
  unfolding decimal_code
  decimal_first statements formats = record { part = refl; begins = refl; once = refl; names = refl; quiet = refl; weight = refl }

  pub intspc_piece : (statements formats : ℕ) → IsPiece k statements formats false intspc_code
  intspc_piece statements formats = whole_piece (decimal_first statements formats) (text_part statements formats s) (omega arith)

  by_integer : (g : Setting) (u : Micro) → nat_lt u.state.steps g.bound ≡ true → (a : ℤ) (f v : ℕ) → descr_at u.state.memory d ≡ Some (record { a = a; f = f; v = v }) → FitsSigned w64 a →
      Makes g (k + 1) intspc_code 0 u (after_memory (at k u.state) (text_effect g k s d (at k u.state) u.failed u.registers (signed_decimal a))) 37600
  unfolding digits decimal_code
  by_integer g u left (pos n) f v is fits =
      let before : State = at k u.state in
      let lt : nat_lt n 0 ≡ false = grind (arith, nat_tests) in
      let minus = minus_of n (omega (arith, fits)) in
      by_way (make_digits g k d (text_code s) (text_part 0 0 s).part before u.failed u.registers 37600 63 n [] 100 0 u.registers.r15 u.scratch (28 + 8 + 8 + 8 + 28 + 8 + 8 + 8 + 8 + 8 + 8 + 8 + 8) (text_effect g k s d before u.failed u.registers (signed_decimal (pos n))) (omega (arith, fits)) (omega (arith, fits)) refl (omega arith) tt
      (λ cs p x words w made held stands few le.
      let same : signed_decimal (pos n) ≡ cs = made in
      let bytes = subst (All (λ c. c < 256)) same (signed_bytes (pos n)) in
      subst (λ l. Makes g (k + 1) intspc_code 21 (with_digits g k d (text_code s) (text_part 0 0 s).part before u.failed u.registers 37600 (pos 0) (length cs) p 0 x words w) (after_memory before (text_effect g k s d before u.failed u.registers l)) 37600) (sym same)
      (by_way (text_made g k s d before u.failed u.registers cs p 0 x words (w + 8) bytes held stands (omega (arith, le))) (λ f' y. record { fuel = more 1 f'; meets = y }))))
      (λ f' y. record { fuel = more 13 f'; meets = simp (left, is, lt, minus) y })
  by_integer g u left (negsuc n) f v is fits =
      let before : State = at k u.state in
      by_way (make_digits g k d (text_code s) (text_part 0 0 s).part before u.failed u.registers 37600 63 (suc n) [] 100 1 u.registers.r15 u.scratch (28 + 8 + 8 + 8 + 28 + 8 + 8 + 8 + 8 + 8 + 8 + 8) (text_effect g k s d before u.failed u.registers (signed_decimal (negsuc n))) (omega (arith, fits)) (omega (arith, fits)) refl (omega arith) tt
      (λ cs p x words w made held stands few le.
      let same : signed_decimal (negsuc n) ≡ 45 ∷ cs = ap (λ l. 45 ∷ l) made in
      let bytes = subst (All (λ c. c < 256)) same (signed_bytes (negsuc n)) in
      let less = one_less p (omega (arith, stands, few)) (omega (arith, stands)) in
      let t : nat_lt (p - 1) 8190 ≡ true = grind (arith, nat_tests, stands) in
      let up : wrapped_sum (pos (length cs)) (pos 1) ≡ pos (suc (length cs)) = add_pos (length cs) 1 (suc (length cs)) (omega arith) (omega (arith, few)) in
      let held' = holds_one_more words p 45 cs (omega (arith, stands, few)) held in
      subst (λ l. Makes g (k + 1) intspc_code 21 (with_digits g k d (text_code s) (text_part 0 0 s).part before u.failed u.registers 37600 (pos 0) (length cs) p 1 x words w) (after_memory before (text_effect g k s d before u.failed u.registers l)) 37600) (sym same)
      (by_way (text_made g k s d before u.failed u.registers (45 ∷ cs) (p - 1) 1 (pos 45) (with_word words (p - 1) (pos 45)) (w + 8 + 8 + 8 + 28 + 8) bytes held' (omega (arith, stands, few)) (omega (arith, le))) (λ f' y. record { fuel = more 5 f'; meets = simp (less, t, up) y }))))
      (λ f' y. record { fuel = more 12 f'; meets = simp (left, is) y })

  pub intspc_does : Does k intspc_code specials (Place s ∷ Place d ∷ []) (string_clause Intspc) (string_visits Intspc)
  unfolding string_clause intspc decimal_code
  intspc_does g program parameters u h =
      let before : State = at k u.state in
      let m = u.state.memory in
      let same : cell_address g g.static_cells ≡ hidden_of (site_at program parameters k (Place s ∷ Place d ∷ [])) = (let e1 = h.setting.static_cells in let e2 = h.setting.settings in rw (e1, e2) refl) in
      by_read m d h.valid.memory (λ none. record { fuel = 8; meets = simp (h.left, none) (refl, refl, lit≤ tt) }) (λ a f v is read.
      let made = by_integer g u h.left a f v is read.fits in
      let moved = subst (λ x. Makes g (k + 1) intspc_code 0 u (after_memory before (chars_written x (signed_decimal a) m >>= (λ m'. onward (set_text_at m' s x (length (signed_decimal a)))))) 37600) same made in
      by_way moved (λ fuel y. record { fuel = fuel; meets = simp is y }))
