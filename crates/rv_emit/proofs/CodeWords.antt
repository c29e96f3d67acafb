-- All instructions of a code have words.
use Rattle.std.proofs.Common.{◌≡◌, ℕ, suc, ◌+◌, ◌-◌, ◌*◌, ◌^◌, ◌<◌, ◌≤◌, List, [], ◌∷◌, ◌++◌, length, map, Option, Some, refl, ap, subst, arith}
use Rattle.std.proofs.lemmas.List.Elements.{All-nil, All-cons}
use Rattle.std.proofs.lemmas.List.Sums.{sum_by-cons}
use Rattle.std.proofs.lemmas.Option.{slice_get_within, get_or_from_slice_get}
use Rattle.std.specs.Prelude.{All, IsTrue, slice_get, sum_by}
use Rattle.rv_isa.specs.declared.instr.Instr.{Instr}
use Rattle.rv_isa.specs.InstrWords.{IsInstr, word_of}
use Rattle.rv_isa.proofs.Back.{are_parts}
use Rattle.std.proofs.Math.Nat.{mul-le-mul_left}
use Rattle.layout_params.specs.Areas.{all_cells, hidden_cells}
use Rattle.layout_params.specs.declared.cell.Field.TheVariants.{F, V}
use Rattle.layout_params.specs.Parameters.{Settings}
use Rattle.layout_params.specs.Sizes.{Sizes, is_legal}
use Rattle.layout_params.proofs.LegalLayouts.{legal}
use Rattle.sil_micro.specs.declared.op.Op.{Op}
use Rattle.sil_micro.specs.Codes.{MicroCode, place_of}
use Rattle.sil_micro.specs.Operations.{scratch_words}
use Rattle.rv_straight.specs.Code.{AreInstrs}
use Rattle.rv_routines.specs.FieldCodes.{bits_of}
use Rattle.rv_routines.specs.RoutineCodes.{check_routine, fit_routine, open_routine, char_routine, word_routine, below_routine, make_routine, kind_routine, state_routine}
use Rattle.rv_routines.proofs.FieldPlaces.{few_bytes_of}
use Rattle.rv_operations.specs.OpCodes.{instructions}
use Rattle.rv_operations.specs.Laws.{LawOfOpWords}
use Rattle.rv_emit.specs.Code.{first_op, front_code, length_of, op_place, ops_code, past_code, place_from, places_of, routines_at, routines_code, site_of, stack_top, start_code, switch_part, table_code, whole_code}
use Rattle.rv_operations.specs.Switch.{switch_code}
use Rattle.rv_emit.specs.Emits.{CanEmit}
use Rattle.rv_emit.specs.Planned.{IsWord}
use Rattle.rv_emit.proofs.Ops.{IsOpOf, can_stand, number_fits, op_at}
use Rattle.rv_emit.proofs.Placed.{place_near}
use Rattle.rv_emit.proofs.RoutineWords.{below_words, char_words, check_words, fit_words, kind_words, make_words, open_words, past_words, start_words, state_words, switch_words, table_words, word_words}
use Rattle.rv_emit.proofs.Sums.{take_all}
use Rattle.rv_emit.proofs.Words.{are_both}

each_of : (is : List Instr) → AreInstrs is → All IsInstr is
each_of [] h = All-nil IsInstr
each_of (i ∷ is) h = All-cons IsInstr i is h.0 (each_of is h.1)

word_below : (i : Instr) → IsInstr i → word_of i < 2 ^ 32
word_below i h = let p = are_parts i h in omega (arith, p.opcode, p.rd, p.funct3, p.rs1, p.rs2, p.funct7)

words_below : (code : List Instr) → AreInstrs code → All (λ w. w < 2 ^ 32) (map word_of code)
words_below [] h = All-nil (λ w. w < 2 ^ 32)
words_below (i ∷ code) h = All-cons (λ w. w < 2 ^ 32) (word_of i) (map word_of code) (word_below i h.0) (words_below code h.1)

-- ---- the routines

module _ (sizes : Sizes) (n : ℕ) (fits : IsTrue (is_legal sizes)) (small : n ≤ 2 ^ 20) where
  few : sizes.descr ≤ 64
  few = (legal sizes fits).most

  f_small : bits_of sizes F < 64
  f_small = let h = few_bytes_of sizes (legal sizes fits) in omega arith

  v_small : bits_of sizes V < 64
  v_small = let h = few_bytes_of sizes (legal sizes fits) in omega arith

  check_are : AreInstrs (check_routine sizes.descr n)
  unfolding check_routine
  check_are = check_words sizes.descr n few small

  fit_are : (bits : ℕ) → bits < 64 → AreInstrs (fit_routine bits sizes.descr n)
  unfolding fit_routine
  fit_are bits h = fit_words sizes.descr n few small bits h

  open_are : AreInstrs (open_routine (bits_of sizes F) (bits_of sizes V) sizes.descr n)
  unfolding open_routine
  open_are = open_words sizes.descr n few small (bits_of sizes F) (bits_of sizes V) f_small v_small

  char_are : AreInstrs (char_routine sizes.descr n)
  unfolding char_routine
  char_are = char_words sizes.descr n few small

  word_are : AreInstrs (word_routine sizes.descr n)
  unfolding word_routine
  word_are = word_words sizes.descr n few small

  make_are : AreInstrs (make_routine sizes.descr n)
  unfolding make_routine
  make_are = make_words sizes.descr n few small

  kind_are : AreInstrs (kind_routine sizes.descr n)
  unfolding kind_routine
  kind_are = kind_words sizes.descr n few small

  below_are : (m : ℕ) → m ≤ 2 ^ 20 → AreInstrs (below_routine m)
  unfolding below_routine
  below_are m h = below_words m h

  state_are : AreInstrs state_routine
  unfolding state_routine
  state_are = state_words

  pub routines_are : AreInstrs (routines_code sizes n)
  routines_are =
      are_both _ (kind_routine sizes.descr n)
      (are_both _ (make_routine sizes.descr n)
      (are_both _ state_routine
      (are_both _ (below_routine 3)
      (are_both _ (below_routine n)
      (are_both _ (below_routine scratch_words)
      (are_both _ (word_routine sizes.descr n)
      (are_both _ (char_routine sizes.descr n)
      (are_both _ (open_routine (bits_of sizes F) (bits_of sizes V) sizes.descr n)
      (are_both _ (fit_routine (bits_of sizes V) sizes.descr n)
      (are_both (check_routine sizes.descr n) (fit_routine (bits_of sizes F) sizes.descr n) check_are (fit_are (bits_of sizes F) f_small))
      (fit_are (bits_of sizes V) v_small))
      open_are)
      char_are)
      word_are)
      (below_are scratch_words (omega arith)))
      (below_are n small))
      (below_are 3 (omega arith)))
      state_are)
      make_are)
      kind_are

-- ---- the operations

module _ (law : LawOfOpWords) (settings : Settings) (c : MicroCode) (can : CanEmit c settings) (words : All (IsWord settings c.static_cells) c.ops) where
  abbrev long : Op → ℕ
  long op = length_of settings c.static_cells op

  op_are : (place : ℕ) (op : Op) → place < 2 ^ 31 - 2 ^ 13 → IsOpOf c op → IsWord settings c.static_cells op → AreInstrs (instructions settings.sizes (site_of settings c place op) op)
  unfolding instructions
  op_are place op low of word = law settings.sizes (site_of settings c place op) op can.legal.layout (number_fits c settings op word) (can_stand c settings can op of place low) of.rules

  ops_are : (place : ℕ) (ops : List Op) → place + 4 * sum_by long ops < 2 ^ 31 - 2 ^ 13 → ((q : ℕ) (op : Op) → slice_get ops q ≡ Some op → IsOpOf c op × IsWord settings c.static_cells op) → AreInstrs (ops_code settings c place ops)
  ops_are place [] low of = tt
  ops_are place (op ∷ ops) low of =
      let sum = sum_by-cons long op ops in
      let here = of 0 op refl in
      are_both (instructions settings.sizes (site_of settings c place op) op) (ops_code settings c (place + 4 * long op) ops) (op_are place op (omega arith) here.0 here.1) (ops_are (place + 4 * long op) ops (omega arith) (λ q o e. of (suc q) o e))

  known : (q : ℕ) (op : Op) → slice_get c.ops q ≡ Some op → IsOpOf c op × IsWord settings c.static_cells op
  known q op e =
      (op_at c settings can q op e, subst (IsWord settings c.static_cells) (get_or_from_slice_get c.ops q op op e) (words q op (slice_get_within c.ops q op e)))

  end_low : first_op settings.sizes.descr (length c.entries) + 4 * sum_by long c.ops < 2 ^ 31 - 2 ^ 13
  unfolding op_place
  end_low =
      let near = place_near settings c can (length c.ops) (omega arith) in
      let all = ap (λ ops. sum_by long ops) (take_all c.ops) in
      omega arith

  stack_low : stack_top settings c < 2 ^ 31 - 2 ^ 11
  stack_low =
      let d = (legal settings.sizes can.legal.layout).most in
      let most = mul-le-mul_left (c.static_cells + hidden_cells settings + settings.dynamic_size) d in
      omega (arith, can.cells)

  front_are : AreInstrs (front_code settings c)
  front_are =
      let d = (legal settings.sizes can.legal.layout).most in
      let count = can.whole.few in
      let r = routines_at settings.sizes.descr (length c.entries) in
      let by_entry : ℕ → Option ℕ = λ k. Some (place_from settings c (place_of c k)) in
      let start = start_words (stack_top settings c) (place_from settings c (place_of c 0)) stack_low in
      let to_entry = are_both (switch_code settings.sizes.descr (length c.entries) r.entry (r.entry + 64)) (table_code r.entry by_entry (r.entry + 64) 0 (length c.entries)) (switch_words settings.sizes.descr (length c.entries) r.entry d count) (table_words r.entry by_entry (r.entry + 64) 0 (length c.entries)) in
      let to_return = are_both (switch_code settings.sizes.descr (length c.entries) r.return_part (r.return_part + 64)) (table_code r.return_part (places_of settings c).returns (r.return_part + 64) 0 (length c.entries)) (switch_words settings.sizes.descr (length c.entries) r.return_part d count) (table_words r.return_part (places_of settings c).returns (r.return_part + 64) 0 (length c.entries)) in
      let routines = routines_code settings.sizes (all_cells settings c.static_cells) in
      let first = start_code (stack_top settings c) (place_from settings c (place_of c 0)) in
      are_both (first ++ routines ++ switch_part settings.sizes.descr (length c.entries) r.entry by_entry) (switch_part settings.sizes.descr (length c.entries) r.return_part (places_of settings c).returns)
      (are_both (first ++ routines) (switch_part settings.sizes.descr (length c.entries) r.entry by_entry) (are_both first routines start (routines_are settings.sizes (all_cells settings c.static_cells) can.legal.layout can.cells)) to_entry)
      to_return

  whole_are : AreInstrs (whole_code settings c)
  unfolding whole_code
  whole_are =
      are_both (front_code settings c ++ ops_code settings c (first_op settings.sizes.descr (length c.entries)) c.ops) (past_code (length c.entries))
      (are_both (front_code settings c) (ops_code settings c (first_op settings.sizes.descr (length c.entries)) c.ops) front_are (ops_are (first_op settings.sizes.descr (length c.entries)) c.ops end_low known))
      (past_words (length c.entries) can.whole.few)

  pub each_instr : All IsInstr (whole_code settings c)
  each_instr = each_of (whole_code settings c) whole_are

  pub each_word : All (λ w. w < 2 ^ 32) (map word_of (whole_code settings c))
  each_word = words_below (whole_code settings c) whole_are
