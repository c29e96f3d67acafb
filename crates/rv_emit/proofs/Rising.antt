-- The words of a code and the places of its statements fit an image.
use Rattle.std.proofs.Common.{◌≡◌, ℕ, suc, ◌+◌, ◌*◌, ◌/◌, ◌%◌, ◌<◌, ◌≤◌, List, [], ◌∷◌, ◌++◌, length, length-append, map, get_or, ◌⊎◌, inl, inr, Bool, true, Option, Some, None, refl, sym, ap, ◌∙◌, arith}
use Rattle.std.proofs.lemmas.List.{length-map}
use Rattle.std.proofs.lemmas.List.Sums.{sum_by-cons}
use Rattle.std.proofs.lemmas.Option.{slice_get_cases, slice_get_within}
use Rattle.std.specs.Prelude.{All, IsTrue, nat_le, nat_lt, ◌==◌, ◌&&◌, slice_get, sum_by}
use Rattle.rv_isa.specs.declared.instr.Instr.{Instr}
use Rattle.rv_isa.specs.InstrWords.{word_of}
use Rattle.sil_base.specs.declared.places.TheConstants.{FIRST_WORD}
use Rattle.layout_params.specs.Parameters.{Settings}
use Rattle.layout_params.proofs.LegalLayouts.{legal}
use Rattle.sil_micro.specs.declared.op.Op.{Op}
use Rattle.sil_micro.specs.declared.op.Op.TheVariants.{Begin}
use Rattle.sil_micro.specs.Codes.{MicroCode, told}
use Rattle.image_file.specs.Image.{StatementEntry, places_rise}
use Rattle.rv_operations.specs.Laws.{LawOfOpWords}
use Rattle.rv_emit.specs.Code.{first_op, last_place, length_of, op_place, ops_code, past_code, place_from, whole_code}
use Rattle.rv_emit.specs.Emits.{CanEmit, FitsImage, statement_places, words_of}
use Rattle.rv_emit.specs.Planned.{IsWord}
use Rattle.rv_emit.proofs.CodeWords.{each_word}
use Rattle.rv_emit.proofs.OpParts.{ops_long}
use Rattle.rv_emit.proofs.Placed.{place_even, place_first, place_more, place_next, place_rises}
use Rattle.rv_emit.proofs.Sums.{take_all}
use Rattle.rv_emit.proofs.Weights.{few_within, sum_within}
use Rattle.rv_emit.proofs.WholeParts.{front_long_3, front_3}

-- ---- how many words they are

module _ (settings : Settings) (c : MicroCode) where
  abbrev long : Op → ℕ
  long op = length_of settings c.static_cells op

  abbrev ops : List Instr
  ops = ops_code settings c (first_op settings.sizes.descr (length c.entries)) c.ops

  code_long : length (whole_code settings c) ≡ 222 + 2 * (settings.sizes.descr / 8) + 4 * length c.entries + sum_by long c.ops
  unfolding whole_code
  code_long =
      omega (arith, length-append (front_3 settings c ++ ops) (past_code (length c.entries)), length-append (front_3 settings c) ops, front_long_3 settings c, ops_long settings c (first_op settings.sizes.descr (length c.entries)) c.ops)

  words_long : length (words_of settings c) ≡ 222 + 2 * (settings.sizes.descr / 8) + 4 * length c.entries + sum_by long c.ops
  words_long = length-map (whole_code settings c) word_of ∙ code_long

  -- the last place is five words before the end
  end_is : FIRST_WORD + 4 * length (words_of settings c) ≡ last_place settings c + 20
  unfolding op_place
  end_is =
      let all = ap (λ os. sum_by long os) (take_all c.ops) in
      omega (arith, words_long)

  -- an operation has twelve words at most
  sum_few : (os : List Op) → sum_by long os ≤ 12 * length os
  sum_few [] = omega arith
  sum_few (op ∷ os) = omega (arith, sum_by-cons long op os, few_within settings c.static_cells op, sum_few os)

  pub words_few : CanEmit c settings → length (words_of settings c) ≤ 12 * length c.ops + 4 * length c.entries + 2000
  words_few can =
      let d = (legal settings.sizes can.legal.layout).most in
      omega (arith, words_long, sum_few c.ops)

  pub narrow : (q : ℕ) → q < length c.ops → op_place settings c (q + 1) ≤ op_place settings c q + 48
  narrow q lt = by_case (slice_get_cases c.ops q).1
    where
      by_case : ((op : Op) × (q < length c.ops) × (slice_get c.ops q ≡ Some op) × (get_or c.ops q op ≡ op)) ⊎ ((length c.ops ≤ q) × (slice_get c.ops q ≡ None)) → op_place settings c (q + 1) ≤ op_place settings c q + 48
      by_case (inl (op, within, at, is)) =
          let s : suc q ≡ q + 1 = omega arith in
          let next = ap (op_place settings c) (sym s) ∙ place_next settings c q op at in
          omega (arith, few_within settings c.static_cells op)
      by_case (inr h) = absurd (omega arith)

  -- ---- how their places rise

  -- entries from a list on, none before an operation, that rise
  record AreRising (least : ℕ) (os : List (Option ℕ)) : Type 0 where
    there : (k : ℕ) → k < length os → (q : ℕ) × (told (slice_get os k) ≡ Some q) × (least ≤ q) × (q < length c.ops)
    rise : (j k p q : ℕ) → j < k → told (slice_get os j) ≡ Some p → told (slice_get os k) ≡ Some q → p < q

  later : (least q : ℕ) (o : Option ℕ) (os : List (Option ℕ)) → o ≡ Some q → AreRising least (o ∷ os) → AreRising (suc q) os
  later least q o os is h = record {
    there = λ k lt. (let at = h.there (suc k) (omega arith) in (at.0, at.1, h.rise 0 (suc k) q at.0 (omega arith) is at.1, at.3));
    rise = λ j k p r lt a b. h.rise (suc j) (suc k) p r (omega arith) a b;
  }

  all_rise : CanEmit c settings → AreRising 0 c.entries
  all_rise can = record {
    there = λ k lt. (let at = can.whole.entries k lt in (at.0, at.1, omega arith, slice_get_within c.ops at.0 (Begin k) at.2));
    rise = λ j k p q lt a b. can.whole.rise j k p q lt a b;
  }

  true_of : (a b e d : Bool) → a ≡ true → b ≡ true → e ≡ true → IsTrue d → IsTrue (a && b && e && d)
  true_of a b e d x y z w = grind arith

  places_rise_from : (least from : ℕ) (es : List StatementEntry) (os : List (Option ℕ)) → AreRising least os → map (λ e. e.place) es ≡ map (place_from settings c) os → from ≤ op_place settings c least → IsTrue (places_rise from (FIRST_WORD + 4 * length (words_of settings c)) es)
  places_rise_from least from [] os h is low = refl
  places_rise_from least from (e ∷ es) [] h is low = absurd cc
  places_rise_from least from (e ∷ es) (o ∷ os) h is low =
      let at = h.there 0 (omega arith) in
      let here : e.place ≡ op_place settings c at.0 = first_of e es o os is ∙ ap (place_from settings c) at.1 in
      let more = place_more settings c least at.0 at.2 in
      let end = place_rises settings c at.0 (length c.ops) at.3 (omega arith) in
      let next = place_rises settings c at.0 (suc at.0) (omega arith) (omega (arith, at.3)) in
      let even = place_even settings c at.0 in
      let rest = places_rise_from (suc at.0) (e.place + 1) es os (later least at.0 o os at.1 h) (others_of e es o os is) (omega arith) in
      let last = end_is in
      let one : nat_le from e.place ≡ true = grind arith in
      let two : (e.place % 4 == 0) ≡ true = grind arith in
      let three : nat_lt e.place (FIRST_WORD + 4 * length (words_of settings c)) ≡ true = grind arith in
      true_of (nat_le from e.place) (e.place % 4 == 0) (nat_lt e.place (FIRST_WORD + 4 * length (words_of settings c))) (places_rise (e.place + 1) (FIRST_WORD + 4 * length (words_of settings c)) es) one two three rest
    where
      first_of : (e : StatementEntry) (es : List StatementEntry) (o : Option ℕ) (os : List (Option ℕ)) → map (λ e. e.place) (e ∷ es) ≡ map (place_from settings c) (o ∷ os) → e.place ≡ place_from settings c o
      first_of e es o os is = cc

      others_of : (e : StatementEntry) (es : List StatementEntry) (o : Option ℕ) (os : List (Option ℕ)) → map (λ e. e.place) (e ∷ es) ≡ map (place_from settings c) (o ∷ os) → map (λ e. e.place) es ≡ map (place_from settings c) os
      others_of e es o os is = cc

  pub fits_image : LawOfOpWords → CanEmit c settings → All (IsWord settings c.static_cells) c.ops → FitsImage (words_of settings c) (statement_places settings c)
  fits_image law can words = record {
    some = omega (arith, words_long);
    few = (let d = (legal settings.sizes can.legal.layout).most in let light = sum_within settings c.static_cells c.ops in omega (arith, words_long, can.whole.light, can.whole.few));
    wide = each_word law settings c can words;
    rise = λ entries is. places_rise_from 0 FIRST_WORD entries c.entries (all_rise can) is (let first = place_first settings c 0 in omega arith);
  }
