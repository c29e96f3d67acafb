-- Texts in the hidden buffer.
use Rattle.std.proofs.Common.{◌≡◌, ℕ, zero, suc, ◌+◌, ◌*◌, ◌/◌, ◌≤◌, ◌<◌, ◌^◌, List, [], ◌∷◌, length, Option, true, false, refl, ap, subst, sym, ◌∙◌, arith}
use Rattle.std.proofs.lemmas.Int.{ints}
use Rattle.std.specs.Prelude.{ℤ, pos, nat_eq, All}
use Rattle.sil_base.specs.Bytes.{number}
use Rattle.layout_params.specs.Parameters.{IsPrinted}
use Rattle.sil_macros.specs.declared.names.Macro.TheVariants.{Date}
use Rattle.sil_model.specs.declared.program.Arg.TheVariants.{Place}
use Rattle.sil_model.specs.declared.program.Specials.{Specials}
use Rattle.sil_model.specs.Access.{◌>>=◌, set_char_at, set_whole_at}
use Rattle.sil_model.specs.Effects.{MemoryEffect, onward}
use Rattle.sil_model.specs.Integers.{◌⊞◌, wrapped_difference}
use Rattle.sil_model.specs.Memory.{Memory}
use Rattle.sil_model.specs.States.{State}
use Rattle.sil_micro.specs.declared.op.Op.{Op}
use Rattle.sil_micro.specs.Expands.{Does, IsPiece, Makes, at, site_at}
use Rattle.sil_micro.specs.MicroStates.{Setting, Micro, Registers}
use Rattle.sil_micro.specs.MicroWords.{low_byte, unsigned, quotient}
use Rattle.sil_micro.specs.Operations.{cell_address}
use Rattle.sil_micro.specs.Pieces.{joined, is_part}
use Rattle.sil_micro.proofs.Making.{by_option, more, by_way, then_part}
use Rattle.exp_common.proofs.JoinedParts.{IsFirst, IsPart, whole_piece}
use Rattle.string_clauses.specs.StringClauses.{chars_written, date, set_text_at}
use Rattle.string_clauses.specs.StringTable.{hidden_of, string_clause, string_visits}
use Rattle.string_runtime.specs.StringParts.{date_code, text_code}
use Rattle.string_runtime.proofs.StringHeads.{after_memory}
use Rattle.exp_common.proofs.Words.{sub_one, quotient_pos}

pub text_part : (statements formats : ℕ) (s : ℤ) → IsPart statements formats 88 (text_code s)
unfolding text_code
text_part statements formats s = record { part = refl; begins = refl; names = refl; quiet = refl; weight = refl }

-- S becomes the text of so many characters
pub text_goes : (g : Setting) (before : State) (failed : Option ℕ) (words : ℕ → ℤ) (r : Registers) (cost : ℕ) (s : ℤ) (n : ℕ) (m : Memory) (w : ℕ) → w + 100 ≤ cost →
    Makes g (before.statement + 1) (text_code s) 0 (record { state = record before { memory = m; steps = before.steps + 1 }; registers = record r { r4 = pos 0; r9 = pos n }; scratch = words; failed = failed; spent = w })
    (after_memory before (onward (set_text_at m s (cell_address g g.static_cells) n))) cost
unfolding text_code
text_goes g before failed words r cost s n m w pays =
    by_option (set_whole_at m s (cell_address g g.static_cells) (pos 0) (pos 0)) (λ none. record { fuel = 8; meets = simp none (refl, refl, omega (arith, pays)) }) (λ m1 is1.
    by_option (set_whole_at m1 (s ⊞ pos m.limits.cell_size) (pos 0) (pos 0) (pos n)) (λ none. record { fuel = 8; meets = simp (is1, none) (refl, refl, omega (arith, pays)) }) (λ m2 is2.
    record { fuel = 8; meets = simp (is1, is2) (refl, omega (arith, pays)) }))

-- ---- the date

low_of : (c n : ℕ) → c < 256 → c + 256 * n < 2 ^ 63 → low_byte (pos (c + 256 * n)) ≡ c
unfolding low_byte unsigned
low_of c n h small = grind (arith, ints)

others_of : (c n : ℕ) → c < 256 → c + 256 * n < 2 ^ 63 → quotient (pos (c + 256 * n)) (pos 256) ≡ pos n
others_of c n h small =
    let same : (c + 256 * n) / 256 ≡ n = omega (arith, h) in
    quotient_pos (c + 256 * n) 256 (omega arith) small ∙ ap pos same

module _ (g : Setting) (k : ℕ) (rest : List Op) (inside : is_part rest ≡ true) (before : State) (failed : Option ℕ) (words : ℕ → ℤ) (r : Registers) (cost : ℕ) where
  abbrev at_text : ℕ → ℕ → ℤ → Memory → ℕ → Micro
  at_text left value at m w = record {
    state = record before { memory = m; steps = before.steps + 1 };
    registers = record r { r2 = pos value; r3 = at; r4 = pos 0; r9 = pos 8; r10 = pos left; r11 = pos 1; r12 = pos 256 };
    scratch = words;
    failed = failed;
    spent = w;
  }

  date_loop : (cs : List ℕ) (at : ℤ) (m : Memory) (w : ℕ) (go : Memory → MemoryEffect) → All (λ c. c < 256) cs → number cs < 2 ^ 63 → length cs < 2 ^ 62 → w + 80 * length cs + 200 ≤ cost →
      ((value : ℕ) (at' : ℤ) (m' : Memory) (w' : ℕ) → w' + 150 ≤ cost → Makes g (before.statement + 1) rest 0 (at_text 0 value at' m' w') (after_memory before (go m')) cost) →
      Makes g (before.statement + 1) (joined (date_code k) rest) 8 (at_text (length cs) (number cs) at m w) (after_memory before (chars_written at cs m >>= go)) cost
  unfolding chars_written date_code
  date_loop [] at m w go bytes small short pays exit = by_way (then_part (date_code k) inside (omega arith) (exit 0 at m (w + 8) (omega (arith, pays)))) (λ f y. record { fuel = suc f; meets = y })
  date_loop (c ∷ cs) at m w go bytes small short pays exit =
      let z : nat_eq (suc (length cs)) 0 ≡ false = grind arith in
      let byte = bytes 0 0 (omega arith) in
      let low = low_of c (number cs) byte small in
      let others = others_of c (number cs) byte small in
      let down : wrapped_difference (pos (suc (length cs))) (pos 1) ≡ pos (length cs) = sub_one (length cs) (omega (arith, short)) in
      by_option (set_char_at m at c)
      (λ q. record { fuel = 8; meets = simp (z, low, q) (refl, refl, omega (arith, pays)) })
      (λ m' q.
      by_way (date_loop cs (at ⊞ pos 1) m' (w + 8 + 28 + 8 + 8 + 8 + 8) go (λ i d lt. bytes (suc i) d (omega (arith, lt))) (omega (arith, small)) (omega (arith, short)) (omega (arith, pays)) exit)
      (λ f y. record { fuel = more 6 f; meets = simp (z, low, q, others, down) y }))

-- eight printed characters are a number of 63 bits
abbrev top_of : ℕ → ℕ
top_of zero = 1
top_of (suc n) = 256 * top_of n

printed_below : (cs : List ℕ) → All IsPrinted cs → 2 * number cs < top_of (length cs)
printed_below [] h = omega arith
printed_below (c ∷ cs) h =
    let first = (h 0 0 (omega arith)).1 in
    let rest = printed_below cs (λ i d lt. h (suc i) d (omega (arith, lt))) in
    omega (arith, first, rest)

eight_below : (cs : List ℕ) → All IsPrinted cs → length cs ≡ 8 → number cs < 2 ^ 63
eight_below cs h eight = (let below = subst (λ n. 2 * number cs < top_of n) eight (printed_below cs h) in omega (arith, below))

module _ (k : ℕ) (s : ℤ) (specials : Specials) where
  abbrev pub whole_date : List Op
  whole_date = joined (date_code k) (text_code s)

  date_first : (statements formats : ℕ) → IsFirst k statements formats 152 (date_code k)
  unfolding date_code
  date_first statements formats = record { part = refl; begins = refl; once = refl; names = refl; quiet = refl; weight = refl }

  pub date_piece : (statements formats : ℕ) → IsPiece k statements formats false whole_date
  date_piece statements formats = whole_piece (date_first statements formats) (text_part statements formats s) (omega arith)

  pub date_does : Does k whole_date specials (Place s ∷ []) (string_clause Date) (string_visits Date)
  unfolding string_clause date date_code
  date_does g program parameters u h =
      let before : State = at k u.state in
      let m = u.state.memory in
      let text = parameters.settings.date in
      let legal = h.setting.well_formed.legal.date in
      let hidden = cell_address g g.static_cells in
      let same_text : g.settings.date ≡ text = ap (λ x. x.date) h.setting.settings in
      let same : hidden ≡ hidden_of (site_at program parameters k (Place s ∷ [])) = (let e1 = h.setting.static_cells in let e2 = h.setting.settings in rw (e1, e2) refl) in
      let cost = 2000 + 400 * (1 + 10) in
      subst (λ x. Makes g (k + 1) whole_date 0 u (after_memory before (chars_written x text m >>= (λ m'. onward (set_text_at m' s x (length text))))) cost) same
      (by_way (date_loop g k (text_code s) (text_part 0 0 s).part before u.failed u.scratch u.registers cost text hidden m (28 + 8 + 8 + 8 + 8 + 8 + 8 + 8) (λ m'. onward (set_text_at m' s hidden (length text))) (λ i d lt. omega (arith, (legal.1 i d lt).1)) (eight_below text legal.1 legal.0) (omega (arith, legal.0)) (omega (arith, legal.0))
      (λ value at' m' w pays. subst (λ n. Makes g (k + 1) (text_code s) 0 (at_text g k (text_code s) (text_part 0 0 s).part before u.failed u.scratch u.registers cost 0 value at' m' w) (after_memory before (onward (set_text_at m' s hidden n))) cost) (sym legal.0)
      (text_goes g before u.failed u.scratch (record u.registers { r2 = pos value; r3 = at'; r10 = pos 0; r11 = pos 1; r12 = pos 256 }) cost s 8 m' w (omega (arith, pays)))))
      (λ f z. let y = simp legal.0 at z in record { fuel = more 8 f; meets = simp (h.left, same_text, legal.0) y }))
