-- The hash of a string and its descriptor.
use Rattle.std.proofs.Common.{◌≡◌, ℕ, zero, suc, ◌+◌, ◌*◌, ◌/◌, ◌%◌, ◌≤◌, ◌<◌, ◌^◌, List, [], ◌∷◌, Option, true, false, refl, ap, subst, arith}
use Rattle.std.specs.Prelude.{ℤ, pos, nat_eq}
use Rattle.sil_model.specs.Access.{◌>>=◌, char_at, set_whole_at}
use Rattle.sil_model.specs.Effects.{MemoryEffect, onward}
use Rattle.sil_model.specs.Integers.{◌⊞◌, wrapped_sum, wrapped_product}
use Rattle.sil_model.specs.Memory.{IsMemory}
use Rattle.sil_model.specs.States.{State}
use Rattle.sil_micro.specs.declared.op.Op.{Op}
use Rattle.sil_micro.specs.Expands.{Does, IsPiece, Makes, at}
use Rattle.sil_micro.specs.MicroStates.{Setting, Micro, Registers}
use Rattle.sil_micro.specs.MicroWords.{quotient, remainder}
use Rattle.sil_micro.proofs.Making.{by_option, more, by_way}
use Rattle.string_clauses.specs.StringClauses.{first_of, hash_turn, length_at, varid}
use Rattle.string_clauses.specs.Walks.{each, each_visits}
use Rattle.string_clauses.proofs.Room.{char_is_byte}
use Rattle.sil_model.specs.declared.program.Arg.TheVariants.{Place}
use Rattle.sil_model.specs.declared.program.Specials.{Specials}
use Rattle.sil_macros.specs.declared.names.Macro.TheVariants.{Varid}
use Rattle.exp_common.proofs.JoinedParts.{IsPart, both_parts, whole_piece}
use Rattle.sil_micro.specs.Pieces.{joined}
use Rattle.string_clauses.specs.StringTable.{string_clause, string_visits, varid_turns}
use Rattle.string_runtime.specs.StringParts.{first_code, hash_code, length_code, start_code}
use Rattle.string_runtime.proofs.StringHeads.{after_memory, first_goes, first_part, length_goes, length_part, start_first, start_goes}
use Rattle.exp_common.proofs.Words.{add_pos, times_pos, quotient_pos, remainder_pos}

module _ (g : Setting) (d : ℤ) (before : State) (failed : Option ℕ) (words : ℕ → ℤ) (r : Registers) (valid : IsMemory before.memory) (total cost : ℕ) (first : ℤ) where
  abbrev size : ℕ
  size = before.memory.limits.cell_size

  -- the state at the loop's head, and behind the loop
  abbrev pub at_hash : ℕ → ℕ → ℤ → ℤ → ℕ → Micro
  at_hash i h x c w = record {
    state = record before { steps = before.steps + 1 };
    registers = record r { r2 = first; r4 = pos 0; r5 = pos size; r7 = pos total; r9 = pos h; r10 = pos i; r11 = pos 1; r12 = pos 131; r13 = pos 2147483648; r14 = x; r15 = c };
    scratch = words;
    failed = failed;
    spent = w;
  }

  hash_loop : (count i h : ℕ) (x c : ℤ) (w : ℕ) (go : ℕ → MemoryEffect) → i + count ≡ total → total < 2 ^ 62 → h < 2 ^ 31 → w + 100 * each_visits (hash_turn before.memory first) i count h + 200 ≤ cost →
      ((h : ℕ) (x c : ℤ) (w' : ℕ) → h < 2 ^ 31 → w' + 150 ≤ cost → Makes g (before.statement + 1) (hash_code d) 12 (at_hash total h x c w') (after_memory before (go h)) cost) →
      Makes g (before.statement + 1) (hash_code d) 4 (at_hash i h x c w) (after_memory before (each (hash_turn before.memory first) i count h >>= go)) cost
  unfolding each each_visits hash_turn hash_code
  hash_loop zero i h x c w go is small hashed pays exit =
      let e : i ≡ total = omega (arith, is) in
      let z : nat_eq total total ≡ true = grind arith in
      by_way (exit h x c (w + 8) hashed (omega (arith, pays))) (λ f y. record { fuel = suc f; meets = simp (e, z) y })
  hash_loop (suc count) i h x c w go is small hashed pays exit =
      let z : nat_eq i total ≡ false = grind arith in
      let up : wrapped_sum (pos i) (pos 1) ≡ pos (i + 1) = add_pos i 1 (i + 1) refl (omega (arith, is, small)) in
      by_option (char_at before.memory (first ⊞ pos i))
      (λ e. let pays' = simp e at pays in record { fuel = 8; meets = simp (z, e) (refl, refl, omega (arith, pays')) })
      (λ ch e.
      let pays' = simp e at pays in
      let byte = char_is_byte before.memory (first ⊞ pos i) ch valid e in
      let product : wrapped_product (pos h) (pos 131) ≡ pos (131 * h) = times_pos h 131 (131 * h) (omega arith) (omega (arith, hashed)) in
      let sum : wrapped_sum (pos (131 * h)) (pos ch) ≡ pos (131 * h + ch) = add_pos (131 * h) ch (131 * h + ch) refl (omega (arith, hashed, byte)) in
      let rest : remainder (pos (131 * h + ch)) (pos 2147483648) ≡ pos ((131 * h + ch) % 2 ^ 31) = remainder_pos (131 * h + ch) 2147483648 (omega arith) in
      by_way (hash_loop count (i + 1) ((131 * h + ch) % 2 ^ 31) (first ⊞ pos i) (pos ch) (w + 8 + 8 + 28 + 8 + 8 + 8 + 8 + 8) go (omega (arith, is)) small (omega arith) (omega (arith, pays')) exit)
      (λ f y. record { fuel = more 8 f; meets = simp (z, e, product, sum, rest, up) y }))

  -- the descriptor of a hash
  bucket_goes : (h : ℕ) (x c : ℤ) (w : ℕ) → h < 2 ^ 31 → 0 < g.settings.bucket_count → g.settings.bucket_count < 2 ^ 31 → w + 150 ≤ cost →
      Makes g (before.statement + 1) (hash_code d) 12 (at_hash total h x c w)
      (after_memory before (onward (set_whole_at before.memory d (wrapped_product (pos size) (pos (h % g.settings.bucket_count))) (pos 0) (pos (h / g.settings.bucket_count % 32768))))) cost
  unfolding hash_code
  bucket_goes h x c w hashed some few pays =
      let b = g.settings.bucket_count in
      let rest : remainder (pos h) (pos b) ≡ pos (h % b) = remainder_pos h b some in
      let above : quotient (pos h) (pos b) ≡ pos (h / b) = quotient_pos h b some (omega (arith, hashed)) in
      let last : remainder (pos (h / b)) (pos 32768) ≡ pos (h / b % 32768) = remainder_pos (h / b) 32768 (omega arith) in
      by_option (set_whole_at before.memory d (wrapped_product (pos size) (pos (h % b))) (pos 0) (pos (h / b % 32768)))
      (λ none. record { fuel = 10; meets = simp (rest, above, last, none) (refl, refl, omega (arith, pays)) })
      (λ after is. record { fuel = 10; meets = simp (rest, above, last, is) (refl, omega (arith, pays)) })

  pub hash_goes : (i9 i10 i12 i13 x c : ℤ) (w : ℕ) → total < 2 ^ 62 → 0 < g.settings.bucket_count → g.settings.bucket_count < 2 ^ 31 → w + 100 * each_visits (hash_turn before.memory first) 0 total 0 + 300 ≤ cost →
      Makes g (before.statement + 1) (hash_code d) 0 (record {
        state = record before { steps = before.steps + 1 };
        registers = record r { r2 = first; r4 = pos 0; r5 = pos size; r7 = pos total; r9 = i9; r10 = i10; r11 = pos 1; r12 = i12; r13 = i13; r14 = x; r15 = c };
        scratch = words;
        failed = failed;
        spent = w;
      })
      (after_memory before (each (hash_turn before.memory first) 0 total 0 >>= (λ h. onward (set_whole_at before.memory d (wrapped_product (pos size) (pos (h % g.settings.bucket_count))) (pos 0) (pos (h / g.settings.bucket_count % 32768)))))) cost
  unfolding hash_code
  hash_goes i9 i10 i12 i13 x c w small some few pays =
      by_way (hash_loop total 0 0 x c (w + 8 + 8 + 8 + 8) _ (omega arith) small (omega arith) (omega (arith, pays)) (λ h x' c' w' hashed pays'. bucket_goes h x' c' w' hashed some few pays')) (λ f y. record { fuel = more 4 f; meets = y })

module _ (k : ℕ) (d s : ℤ) (specials : Specials) where
  abbrev string_part : List Op
  string_part = joined (first_code s) (hash_code d)

  abbrev rest : List Op
  rest = joined (length_code s) string_part

  abbrev pub varid_code : List Op
  varid_code = joined (start_code k) rest

  hash_part : (statements formats : ℕ) → IsPart statements formats 200 (hash_code d)
  unfolding hash_code
  hash_part statements formats = record { part = refl; begins = refl; names = refl; quiet = refl; weight = refl }

  strings_part : (statements formats : ℕ) → IsPart statements formats 296 string_part
  strings_part statements formats = both_parts (first_part statements formats s) (hash_part statements formats)

  rest_part : (statements formats : ℕ) → IsPart statements formats 340 rest
  rest_part statements formats = both_parts (length_part statements formats s) (strings_part statements formats)

  pub varid_piece : (statements formats : ℕ) → IsPiece k statements formats false varid_code
  varid_piece statements formats = whole_piece (start_first k statements formats) (rest_part statements formats) (omega arith)

  pub varid_does : Does k varid_code specials (Place d ∷ Place s ∷ []) (string_clause Varid) (string_visits Varid)
  unfolding string_clause varid
  varid_does g program parameters u h =
      let before : State = at k u.state in
      let m = u.state.memory in
      let valid = h.valid.memory in
      let size = u.state.memory.limits.cell_size in
      let buckets = h.setting.well_formed.legal.buckets in
      let same : g.settings.bucket_count ≡ parameters.settings.bucket_count = ap (λ x. x.bucket_count) h.setting.settings in
      let cost = 2000 + 400 * (2 + (3 + varid_turns (Place d ∷ Place s ∷ []) m)) in
      let ends : ℕ → ℕ → MemoryEffect = λ b x. onward (set_whole_at m d (wrapped_product (pos size) (pos (x % b))) (pos 0) (pos (x / b % 32768))) in
      subst (λ b. Makes g (k + 1) varid_code 0 u (after_memory before (length_at m s >>= (λ l. first_of l m s >>= (λ first. each (hash_turn m first) 0 l 0 >>= ends b)))) cost) same
      (start_goes g (k + 1) rest (rest_part 0 0).part k u _ cost h.left
      (length_goes g (k + 1) string_part (strings_part 0 0).part before u.failed u.scratch u.registers valid cost s 52 _ (omega arith)
      (λ l few is.
      first_goes g (k + 1) (hash_code d) (hash_part 0 0).part before u.failed u.scratch (record u.registers { r1 = s ⊞ pos size }) valid cost s l (52 + 8 + 8 + 28) _ (omega arith) (omega (arith, few))
      (λ first x y z w pays is'.
      let counted : varid_turns (Place d ∷ Place s ∷ []) m ≡ each_visits (hash_turn m first) 0 l 0 = simp (is, is') refl in
      hash_goes g d before u.failed u.scratch (record u.registers { r1 = x; r3 = y; r6 = z }) valid l cost first u.registers.r9 u.registers.r10 u.registers.r12 u.registers.r13 u.registers.r14 u.registers.r15 w (omega (arith, few)) (omega (arith, buckets.0, same)) (omega (arith, buckets.1, same)) (omega (arith, pays, counted))))))
