-- Nodes are copied one by one, and what the whole copy does.
use Rattle.std.proofs.Common.{◌≡◌, ℕ, zero, suc, ◌+◌, ◌*◌, ◌≤◌, ◌<◌, ◌^◌, List, [], ◌∷◌, length, Option, Some, None, true, false, refl, sym, subst, arith, lit≤}
use Rattle.std.specs.Prelude.{ℤ, pos, nat_lt}
use Rattle.std.specs.declared.ops.ControlFlow.{ControlFlow}
use Rattle.layout_params.specs.declared.cell.Cell.TheVariants.{Descr}
use Rattle.sil_macros.specs.declared.names.Macro.TheVariants.{Cpypat}
use Rattle.sil_model.specs.declared.program.Arg.{Arg}
use Rattle.sil_model.specs.declared.program.Arg.TheVariants.{Place}
use Rattle.sil_model.specs.declared.program.Specials.{Specials}
use Rattle.sil_model.specs.Access.{◌>>=◌, descr_at, put_cell, set_a_at}
use Rattle.sil_model.specs.Effects.{MemoryEffect, onward}
use Rattle.sil_model.specs.Memory.{Memory, IsMemory}
use Rattle.sil_model.specs.States.{State, Step}
use Rattle.sil_micro.specs.declared.op.Op.{Op}
use Rattle.sil_micro.specs.Expands.{Does, IsPiece, Makes, Meets, at}
use Rattle.sil_micro.specs.MicroStates.{Setting, Micro, Registers}
use Rattle.sil_micro.specs.MicroWays.{way}
use Rattle.sil_micro.specs.Operations.{with_word}
use Rattle.sil_micro.specs.Pieces.{joined, is_part}
use Rattle.sil_micro.proofs.Making.{by_option, more, by_way, then_part}
use Rattle.exp_common.proofs.JoinedParts.{IsFirst, IsPart, both_parts, whole_piece}
use Rattle.exp_common.proofs.Questions.{by_read}
use Rattle.tree_clauses.specs.declared.turns.Copying.{Copying}
use Rattle.tree_clauses.specs.declared.turns.Offsets.{Offsets}
use Rattle.tree_clauses.specs.Loops.{visits_on, walk, walk_on, walk_visits}
use Rattle.tree_clauses.specs.PatternClauses.{Copies, copying_at, cpypat, node_turn, offsets_at}
use Rattle.tree_clauses.specs.TreeTable.{node_price, node_visits, tree_clause, tree_visits}
use Rattle.pattern_runtime.specs.PatternParts.{begin_code, copy_code, offsets_code}
use Rattle.pattern_runtime.proofs.Linking.{after_memory}
use Rattle.pattern_runtime.proofs.NodeReads.{HoldsOffsets, at_node, copy_state, in_copy}
use Rattle.pattern_runtime.proofs.NodeWrites.{FitOffsets}
use Rattle.pattern_runtime.proofs.NodeTurns.{node_goes}

-- what follows a turn that is followed
in_turn : {A B C : Type 0} (o : Option A) (f : A → Option B) (g : B → Option C) → (o >>= (λ a. f a >>= g)) ≡ ((o >>= f) >>= g)
in_turn None f g = refl
in_turn (Some a) f g = refl

-- what is done with what the turns leave
abbrev copy_ended : ℤ → Copies → MemoryEffect
copy_ended d1 last = onward (set_a_at last.memory d1 last.at.to)

module _ (g : Setting) (d1 : ℤ) (before : State) (failed : Option ℕ) (words : ℕ → ℤ) (cost : ℕ) (by : Offsets) (held : HoldsOffsets words by) (fit : FitOffsets by) where
  abbrev micro : Memory → Registers → ℕ → Micro
  micro = copy_state before failed words

  abbrev place_in : ℕ → Micro → MemoryEffect → Type 0
  place_in = in_copy g d1 before cost

  abbrev ended : Copies → MemoryEffect
  ended = copy_ended d1

  end_goes : (n : ℕ) (m : Memory) (valid : IsMemory m) (c : Copying) (x : Registers) (w : ℕ) → w + 40 ≤ cost → place_in 64 (micro m (at_node n c x) w) (ended (record { memory = m; at = c }))
  unfolding copy_code
  end_goes n m valid c x w pays =
      by_read m d1 valid (λ none. record { fuel = 2; meets = simp none (refl, refl, omega (arith, pays)) }) (λ a f v is read.
      by_option (put_cell m d1 (Descr (record { a = c.to; f = f; v = v })))
      (λ e. record { fuel = 2; meets = simp (is, e) (refl, refl, omega (arith, pays)) })
      (λ cells e. record { fuel = 3; meets = simp (is, e) (refl, omega (arith, pays)) }))

  pub node_loop : (n : ℕ) (m : Memory) (c : Copying) (x : Registers) (w : ℕ) → IsMemory m → n < 2 ^ 62 → w + 300 * walk_visits (node_turn by) node_price n (record { memory = m; at = c }) + 1200 ≤ cost →
      place_in 1 (micro m (at_node n c x) w) (walk (node_turn by) n (record { memory = m; at = c }) >>= ended)
  unfolding walk walk_visits copy_code
  node_loop zero m c x w valid small pays = record { fuel = 4; meets = (refl, refl, omega (arith, pays)) }
  node_loop (suc n) m c x w valid small pays =
      let s : Copies = record { memory = m; at = c } in
      let rest : ControlFlow Copies Copies → MemoryEffect = λ t. walk_on (walk (node_turn by) n) t >>= ended in
      let price = node_price s in
      let visits : Option (ControlFlow Copies Copies) → ℕ = visits_on (walk_visits (node_turn by) node_price n) in
      let paid : (o : Option (ControlFlow Copies Copies)) → node_turn by s ≡ o → w + 300 * (price + visits o) + 1200 ≤ cost = λ o e. subst (λ o. w + 300 * (price + visits o) + 1200 ≤ cost) e pays in
      by_way (node_goes g d1 before failed words cost by held fit n (omega (arith, small)) m valid c rest x w (omega (arith, pays))
      (λ m2 c2 y w' valid2 le e. node_loop n m2 c2 y w' valid2 (omega (arith, small)) (omega (arith, paid _ e, le)))
      (λ m2 c2 y w' valid2 le e. end_goes n m2 valid2 c2 y w' (omega (arith, paid _ e, le))))
      (λ fuel y. record { fuel = fuel; meets = subst (λ e. Meets (way g (before.statement + 1) (copy_code d1) fuel 1 (micro m (at_node (suc n) c x) w)) (after_memory before e) cost) (in_turn (node_turn by s) (λ t. walk_on (walk (node_turn by) n) t) ended) y })

-- ---- the start: what the operands hold

holds_words : (words : ℕ → ℤ) (by : Offsets) → HoldsOffsets (with_word (with_word (with_word words 0 by.place) 1 by.next) 2 by.instead) by
unfolding with_word
holds_words words by = record { place = refl; next = refl; instead = refl }

module _ (g : Setting) (next : ℕ) (rest : List Op) (inside : is_part rest ≡ true) (step : Step) (cost : ℕ) where
  offsets_go : (k : ℕ) (d3 d4 d5 : ℤ) (u : Micro) (a : ℤ) (f v : ℕ) (a2 : ℤ) (f2 v2 : ℕ) (a3 : ℤ) (f3 v3 : ℕ) → nat_lt u.state.steps g.bound ≡ true →
      descr_at u.state.memory d3 ≡ Some (record { a = a; f = f; v = v }) → descr_at u.state.memory d4 ≡ Some (record { a = a2; f = f2; v = v2 }) → descr_at u.state.memory d5 ≡ Some (record { a = a3; f = f3; v = v3 }) →
      Makes g next rest 0 (record {
        state = record u.state { statement = k; steps = u.state.steps + 1 };
        registers = record u.registers { r1 = d5; r4 = pos 0; r5 = pos 1; r6 = a3; r7 = pos 2 };
        scratch = with_word (with_word (with_word u.scratch 0 a) 1 a2) 2 a3;
        failed = u.failed;
        spent = 244;
      }) step cost → Makes g next (joined (offsets_code k d3 d4 d5) rest) 0 u step cost
  unfolding offsets_code
  offsets_go k d3 d4 d5 u a f v a2 f2 v2 a3 f3 v3 h is is2 is3 go =
      by_way (then_part (offsets_code k d3 d4 d5) inside (omega arith) go) (λ fuel y. record { fuel = more 13 fuel; meets = simp (h, is, is2, is3) y })

  places_go : (before : State) (failed : Option ℕ) (words : ℕ → ℤ) (d1 d2 d6 : ℤ) (x : Registers) (w : ℕ) (a : ℤ) (f v : ℕ) (a2 : ℤ) (f2 v2 : ℕ) (a3 : ℤ) (f3 v3 : ℕ) →
      descr_at before.memory d1 ≡ Some (record { a = a; f = f; v = v }) → descr_at before.memory d2 ≡ Some (record { a = a2; f = f2; v = v2 }) → descr_at before.memory d6 ≡ Some (record { a = a3; f = f3; v = v3 }) →
      Makes g next rest 0 (copy_state before failed words before.memory (record x { r1 = d6; r2 = a; r3 = a2; r6 = a3 }) (w + 8 + 28 + 8 + 28 + 8 + 28)) step cost →
      Makes g next (joined (begin_code d1 d2 d6) rest) 0 (copy_state before failed words before.memory x w) step cost
  unfolding begin_code
  places_go before failed words d1 d2 d6 x w a f v a2 f2 v2 a3 f3 v3 is is2 is3 go =
      by_way (then_part (begin_code d1 d2 d6) inside (omega arith) go) (λ fuel y. record { fuel = more 6 fuel; meets = simp (is, is2, is3) y })

module _ (k : ℕ) (d1 d2 d3 d4 d5 d6 : ℤ) (specials : Specials) where
  abbrev args : List Arg
  args = Place d1 ∷ Place d2 ∷ Place d3 ∷ Place d4 ∷ Place d5 ∷ Place d6 ∷ []

  abbrev from_places : List Op
  from_places = joined (begin_code d1 d2 d6) (copy_code d1)

  abbrev pub cpypat_code : List Op
  cpypat_code = joined (offsets_code k d3 d4 d5) from_places

  module _ (statements formats : ℕ) where
    copy_part : IsPart statements formats 948 (copy_code d1)
    unfolding copy_code
    copy_part = record { part = refl; begins = refl; names = refl; quiet = refl; weight = refl }

    begin_part : IsPart statements formats 108 (begin_code d1 d2 d6)
    unfolding begin_code
    begin_part = record { part = refl; begins = refl; names = refl; quiet = refl; weight = refl }

    places_part : IsPart statements formats 1056 from_places
    places_part = both_parts begin_part copy_part

    offsets_first : IsFirst k statements formats 244 (offsets_code k d3 d4 d5)
    unfolding offsets_code
    offsets_first = record { part = refl; begins = refl; once = refl; names = refl; quiet = refl; weight = refl }

    pub cpypat_piece : IsPiece k statements formats false cpypat_code
    cpypat_piece = whole_piece offsets_first places_part (omega arith)

  -- all operands are read, and the copy goes
  copy_goes : (g : Setting) (before : State) (valid : IsMemory before.memory) (failed : Option ℕ) (words : ℕ → ℤ) (x : Registers) (by : Offsets) (cost : ℕ) → HoldsOffsets words by → FitOffsets by →
      offsets_at before.memory d3 d4 d5 ≡ Some by → 2000 + 400 * (6 + (7 + node_visits args before.memory)) ≤ cost →
      Makes g (before.statement + 1) from_places 0 (copy_state before failed words before.memory (record x { r4 = pos 0; r5 = pos 1 }) 244)
      (after_memory before (copying_at before.memory d1 d2 d6 >>= (λ first. walk (node_turn by) (length before.memory.cells) (record { memory = before.memory; at = first }) >>= copy_ended d1))) cost
  unfolding copying_at node_visits begin_code copy_code
  copy_goes g before valid failed words x by cost held fit offsets pays =
      let m = before.memory in
      by_read m d1 valid (λ none. record { fuel = 2; meets = simp none (refl, refl, omega (arith, pays)) }) (λ a f v is first.
      by_read m d2 valid (λ none. record { fuel = 4; meets = simp (is, none) (refl, refl, omega (arith, pays)) }) (λ a2 f2 v2 is2 second.
      by_read m d6 valid (λ none. record { fuel = 6; meets = simp (is, is2, none) (refl, refl, omega (arith, pays)) }) (λ a3 f3 v3 is3 third.
      let c : Copying = record { to = a; from = a2; left = a3 } in
      let y : Registers = record x { r1 = d6 } in
      let counted : node_visits args m ≡ walk_visits (node_turn by) node_price (length m.cells) (record { memory = m; at = c }) = simp (offsets, is, is2, is3) refl in
      let starts = node_loop g d1 before failed words cost by held fit (length m.cells) m c y (244 + 8 + 28 + 8 + 28 + 8 + 28 + 8) valid (omega (arith, valid.count)) (omega (arith, pays, counted)) in
      let effect : MemoryEffect = walk (node_turn by) (length m.cells) (record { memory = m; at = c }) >>= copy_ended d1 in
      let goes = by_way starts (λ fuel z. record { fuel = more 1 fuel; meets = z }) in
      by_way (places_go g (before.statement + 1) (copy_code d1) (copy_part 0 0).part (after_memory before effect) cost before failed words d1 d2 d6 (record x { r4 = pos 0; r5 = pos 1 }) 244 a f v a2 f2 v2 a3 f3 v3 is is2 is3 goes)
      (λ fuel z. record { fuel = fuel; meets = simp (is, is2, is3) z }))))

  pub cpypat_does : Does k cpypat_code specials args (tree_clause Cpypat) (tree_visits Cpypat)
  unfolding tree_clause cpypat offsets_at node_visits offsets_code
  cpypat_does g program parameters u h =
      let before : State = at k u.state in
      let m = u.state.memory in
      let valid = h.valid.memory in
      by_read m d3 valid (λ none. record { fuel = 6; meets = simp (h.left, none) (refl, refl, lit≤ tt) }) (λ a f v is first.
      by_read m d4 valid (λ none. record { fuel = 9; meets = simp (h.left, is, none) (refl, refl, lit≤ tt) }) (λ a2 f2 v2 is2 second.
      by_read m d5 valid (λ none. record { fuel = 12; meets = simp (h.left, is, is2, none) (refl, refl, lit≤ tt) }) (λ a3 f3 v3 is3 third.
      let by : Offsets = record { place = a; next = a2; instead = a3 } in
      let cost = 2000 + 400 * (6 + (7 + node_visits args m)) in
      let words = with_word (with_word (with_word u.scratch 0 a) 1 a2) 2 a3 in
      let r : Registers = record u.registers { r1 = d5; r6 = a3; r7 = pos 2 } in
      let known : offsets_at m d3 d4 d5 ≡ Some by = simp (is, is2, is3) refl in
      let goes = copy_goes g before valid u.failed words r by cost (holds_words u.scratch by) (record { place = first.fits; next = second.fits; instead = third.fits }) known (omega arith) in
      let effect : MemoryEffect = copying_at m d1 d2 d6 >>= (λ first. walk (node_turn by) (length m.cells) (record { memory = m; at = first }) >>= copy_ended d1) in
      by_way (offsets_go g (k + 1) from_places (places_part 0 0).part (after_memory before effect) cost k d3 d4 d5 u a f v a2 f2 v2 a3 f3 v3 h.left is is2 is3 goes)
      (λ fuel z. record { fuel = fuel; meets = subst (λ o. Meets (way g (k + 1) cpypat_code fuel 0 u) (after_memory before (o >>= (λ by. copying_at m d1 d2 d6 >>= (λ first. walk (node_turn by) (length m.cells) (record { memory = m; at = first }) >>= copy_ended d1)))) cost) (sym known) z }))))
