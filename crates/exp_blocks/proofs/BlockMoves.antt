-- The cells of a block that go to another one.
use Rattle.std.proofs.Common.{◌≡◌, ℕ, zero, suc, ◌+◌, ◌-◌, ◌*◌, ◌≤◌, ◌<◌, ◌^◌, ◌∙◌, List, [], ◌∷◌, length, Option, Some, None, true, false, refl, sym, subst, ap, arith, lit≤}
use Rattle.std.specs.Prelude.{ℤ, pos, nat_eq, slice_get, slice_set}
use Rattle.std.proofs.lemmas.Option.{same_Some}
use Rattle.layout_params.specs.declared.cell.Cell.{Cell}
use Rattle.layout_params.specs.declared.cell.Cell.TheVariants.{Descr, Chars}
use Rattle.layout_params.specs.declared.cell.Descr.{Descr as Descriptor}
use Rattle.sil_macros.specs.declared.names.Macro.TheVariants.{Movblk}
use Rattle.sil_model.specs.declared.program.Arg.TheVariants.{Place}
use Rattle.sil_model.specs.declared.program.Specials.{Specials}
use Rattle.sil_model.specs.Access.{◌>>=◌, byte_place, cell_at, char_at, chars_or_zeros, descr_at, put_cell, put_char, set_cell_at, with_cells}
use Rattle.sil_model.specs.CellWords.{kind_of}
use Rattle.sil_model.specs.Effects.{MemoryEffect, onward}
use Rattle.sil_model.specs.Integers.{◌⊞◌, wrapped_difference, wrapped_sum}
use Rattle.sil_model.specs.Memory.{Memory, IsMemory, FitsCell, FitsChars}
use Rattle.sil_model.specs.States.{State}
use Rattle.sil_model.proofs.Characters.{cell_chars_fit}
use Rattle.sil_model.proofs.Keeps.{all_at, fits_cell_at, followed, sum_fits, writes_set_cell}
use Rattle.sil_micro.specs.Expands.{Does, Makes, at}
use Rattle.sil_micro.specs.MicroStates.{Setting, Micro, Registers}
use Rattle.sil_micro.proofs.Making.{by_option, by_test, more, by_way}
use Rattle.exp_common.proofs.Questions.{IsRead, by_read}
use Rattle.exp_common.proofs.Words.{add_pos, low_of_byte, sub_one}
use Rattle.tree_clauses.specs.Loops.{each, each_visits}
use Rattle.tree_clauses.specs.PatternClauses.{Moving, cell_turn, movblk, moved_memory}
use Rattle.tree_clauses.specs.TreeTable.{cell_price, cell_visits, tree_clause, tree_visits}
use Rattle.exp_blocks.specs.BlockParts.{move_code}
use Rattle.exp_blocks.proofs.CellPlaces.{IsCell, by_cell, by_whole, at_fits, char_place, fits_at, is_cell_at, is_put_cell, no_cell_at, no_put_cell, some_within}
use Rattle.exp_blocks.proofs.CharCopies.{Half, is_put_char, is_read_char, mixed, mixed_end, none_made, one_more}
use Rattle.exp_blocks.proofs.Titling.{after_memory}

-- a memory in which a cell that was read is written
after_cell : (m : Memory) (from to : ℤ) (cell : Cell) (cells : List Cell) → IsMemory m → cell_at m from ≡ Some cell → put_cell m to cell ≡ Some cells → IsMemory (record m { cells = cells })
after_cell m from to cell cells h is put = (followed m (record m { cells = cells }) _ (writes_set_cell m to cell h (fits_cell_at m from cell h is)) (simp put refl)).is_memory

descr_here : (m : Memory) (at : ℤ) (d : Descriptor) → cell_at m at ≡ Some (Descr d) → descr_at m at ≡ Some d
unfolding descr_at
descr_here m at d is = simp is refl

by_kind : {P : Type 0} (cell : Cell) → ((d : Descriptor) → cell ≡ Descr d → P) → ((cs : List ℕ) → cell ≡ Chars cs → P) → P
by_kind (Descr d) descr chars = descr d refl
by_kind (Chars cs) descr chars = chars cs refl

none_some : {A : Type 0} (x : A) → None ≡ Some x → ⊥
none_some x e = absurd cc

module _ (g : Setting) (k : ℕ) (d1 d2 d3 : ℤ) (before : State) (failed : Option ℕ) (words : ℕ → ℤ) (to from : ℤ) (cost : ℕ) where
  abbrev size : ℕ
  size = before.memory.limits.cell_size

  abbrev holds : List Cell → Memory
  holds cells = record before.memory { cells = cells }

  -- the registers that stay throughout a turn
  abbrev standing : ℕ → ℤ → Registers → Registers
  standing n offset y = record y { r2 = to; r3 = from; r4 = pos 0; r5 = pos 1; r6 = offset; r7 = pos size; r8 = pos n; r14 = pos 1073741824 }

  abbrev micro : List Cell → Registers → ℕ → Micro
  micro cells y w = record { state = record before { memory = record before.memory { cells = cells }; steps = before.steps + 1 }; registers = y; scratch = words; failed = failed; spent = w }

  abbrev place_in : ℕ → Micro → MemoryEffect → Type 0
  place_in place u effect = Makes g (before.statement + 1) (move_code k d1 d2 d3) place u (after_memory before effect) cost

  -- the registers at a character of a cell
  abbrev at_char : ℕ → ℤ → ℤ → ℤ → ℕ → Registers → Registers
  at_char n offset source target i y = record y { r2 = to; r3 = from; r4 = pos 0; r5 = pos 1; r6 = offset; r7 = pos size; r8 = pos n; r9 = source; r10 = target; r11 = pos i; r14 = pos 1073741824 }

  module _ (n : ℕ) (offset source target : ℤ) (i j : ℕ) (cs ts : List ℕ) (all : List Cell) (small : size ≤ 64) (fits : FitsChars before.memory.limits cs) (long : length cs ≡ length ts)
      (source_at : (cells : List Cell) (l : ℕ) → length cells ≡ length all → l < size → byte_place (record before.memory { cells = cells }) (source ⊞ pos l) ≡ Some (i, l))
      (target_at : (cells : List Cell) (l : ℕ) → length cells ≡ length all → l < size → byte_place (record before.memory { cells = cells }) (target ⊞ pos l) ≡ Some (j, l)) (effect : MemoryEffect) where
    chars_loop : (left l : ℕ) (cells : List Cell) (y : Registers) (w : ℕ) → l + suc left ≡ size → Half i j cs ts all l cells →
        ((y' : Registers) (w' : ℕ) → w' ≤ w + 100 * suc left → place_in 35 (micro (slice_set all j (Chars (mixed size cs ts))) (standing n offset y') w') effect) →
        place_in 44 (micro cells (at_char n offset source target l y) w) effect
    unfolding move_code
    chars_loop zero l cells y w is h go =
        let low : l < size = omega (arith, is) in
        let got = some_within cs l (omega (arith, low, small, fits.size)) in
        let c = got.0 in
        let byte = low_of_byte c (all_at (λ b. b < 256) cs l c fits.bytes got.1) in
        let last : suc l ≡ size = omega (arith, is) in
        let read = is_read_char i j cs ts all l cells h c got.1 long (record before.memory { cells = cells }) (source ⊞ pos l) refl (source_at cells l h.count low) in
        let put = is_put_char i j cs ts all l cells h c got.1 long (record before.memory { cells = cells }) (target ⊞ pos l) refl (target_at cells l h.count low) ∙ ap Some (h.others _ ∙ ap (λ z. slice_set all j (Chars (mixed z cs ts))) last) in
        let up : wrapped_sum (pos l) (pos 1) ≡ pos size = add_pos l 1 size (omega (arith, is)) (omega (arith, small)) in
        let t : nat_eq size size ≡ true = grind arith in
        by_way (go (record y { r9 = source; r10 = target; r11 = pos size; r12 = target ⊞ pos l; r13 = pos c }) (w + 8 + 28 + 8 + 28 + 8 + 8 + 8) (omega arith))
        (λ fuel z. record { fuel = more 7 fuel; meets = simp (read, byte, put, up, t) z })
    chars_loop (suc left) l cells y w is h go =
        let low : l < size = omega (arith, is) in
        let got = some_within cs l (omega (arith, low, small, fits.size)) in
        let c = got.0 in
        let byte = low_of_byte c (all_at (λ b. b < 256) cs l c fits.bytes got.1) in
        let read = is_read_char i j cs ts all l cells h c got.1 long (record before.memory { cells = cells }) (source ⊞ pos l) refl (source_at cells l h.count low) in
        let put = is_put_char i j cs ts all l cells h c got.1 long (record before.memory { cells = cells }) (target ⊞ pos l) refl (target_at cells l h.count low) in
        let up : wrapped_sum (pos l) (pos 1) ≡ pos (suc l) = add_pos l 1 (suc l) (omega arith) (omega (arith, low, small)) in
        let t : nat_eq (suc l) size ≡ false = grind (arith, is) in
        by_way (chars_loop left (suc l) (slice_set cells j (Chars (mixed (suc l) cs ts))) (record y { r12 = target ⊞ pos l; r13 = pos c }) (w + 8 + 28 + 8 + 28 + 8 + 8) (omega (arith, is)) (one_more i j cs ts all l cells h c got.1 long) (λ y' w' le. go y' w' (omega (arith, le))))
        (λ fuel z. record { fuel = more 6 fuel; meets = simp (read, byte, put, up, t) z })

  -- what is left of a turn, and of those that follow, once the cell is written
  abbrev turned : ℕ → Memory → ℤ → Option (List Cell) → MemoryEffect
  turned n m offset o = onward (((with_cells m o >>= (λ m'. Some (record { memory = m'; offset = offset ⊞ pos m.limits.cell_size }))) >>= each (cell_turn to from) n) >>= moved_memory)

  module _ (n : ℕ) (offset source target : ℤ) (cells : List Cell) (valid : IsMemory (record before.memory { cells = cells })) (i : ℕ) where
    -- the cell has characters
    chars_goes : (cs : List ℕ) (y : Registers) (w : ℕ) → at_fits target → IsCell (record before.memory { cells = cells }) source i (Chars cs) → w + 300 ≤ cost →
        ((after : List Cell) (y' : Registers) (w' : ℕ) → put_cell (record before.memory { cells = cells }) target (Chars cs) ≡ Some after → w' ≤ w + 100 + 100 * size → place_in 35 (micro after (standing n offset y') w') (turned n (record before.memory { cells = cells }) offset (Some after))) →
        place_in 37 (micro cells (record (standing n offset y) { r9 = source; r10 = target }) w) (turned n (record before.memory { cells = cells }) offset (put_cell (record before.memory { cells = cells }) target (Chars cs)))
    unfolding move_code
    chars_goes cs y w fits is pays go =
        let m : Memory = record before.memory { cells = cells } in
        by_cell m target valid fits
        (λ t none. record { fuel = 3; meets = simp (t, no_put_cell m target (Chars cs) none) (refl, refl, omega (arith, pays)) })
        (λ t apart none. record { fuel = 6; meets = simp (t, apart, no_put_cell m target (Chars cs) none) (refl, refl, omega (arith, pays)) })
        (λ t whole past none. record { fuel = 6; meets = simp (t, whole, past, no_put_cell m target (Chars cs) none) (refl, refl, omega (arith, pays)) })
        (λ j was there.
        let cs_fit : FitsChars m.limits cs = all_at (FitsCell m.limits) cells i (Chars cs) valid.fit is.cell_is in
        let ts = chars_or_zeros was in
        let ts_fit : FitsChars m.limits ts = cell_chars_fit m.limits was valid.limits (all_at (FitsCell m.limits) cells j was valid.fit there.cell_is) in
        let whole : mixed size cs ts ≡ cs = mixed_end size cs ts (cs_fit.size ∙ sym ts_fit.size) (cs_fit.rest ∙ sym ts_fit.rest) in
        let put : put_cell m target (Chars cs) ≡ Some (slice_set cells j (Chars (mixed size cs ts))) = is_put_cell m target j was (Chars cs) there ∙ ap (λ z. Some (slice_set cells j (Chars z))) (sym whole) in
        let z0 : size ≡ suc (size - 1) = omega (arith, valid.limits.least) in
        by_way (chars_loop n offset source target i j cs ts cells valid.limits.most cs_fit (cs_fit.size ∙ sym ts_fit.size)
        (λ others l count low. char_place (record before.memory { cells = others }) source i l valid.limits (omega (arith, valid.count, count)) is.address (omega (arith, is.there, count)) low)
        (λ others l count low. char_place (record before.memory { cells = others }) target j l valid.limits (omega (arith, valid.count, count)) there.address (omega (arith, there.there, count)) low)
        (turned n m offset (Some (slice_set cells j (Chars (mixed size cs ts)))))
        (size - 1) 0 cells (record y { r12 = pos 0; r13 = pos (kind_of was) }) (w + 8 + 8 + 8 + 8 + 8 + 28 + 8) (omega (arith, z0)) (none_made i j cs was cells is.cell_is there.cell_is)
        (λ y' w' le. go _ y' w' put (omega (arith, le, z0))))
        (λ fuel z. record { fuel = more 7 fuel; meets = simp (there.above, there.whole, there.number_is, there.kind, put) z }))

    -- the cell is a descriptor
    descr_goes : (d : Descriptor) (y : Registers) (w : ℕ) → cell_at (record before.memory { cells = cells }) source ≡ Some (Descr d) → w + 300 ≤ cost →
        ((after : List Cell) (y' : Registers) (w' : ℕ) → put_cell (record before.memory { cells = cells }) target (Descr d) ≡ Some after → w' ≤ w + 112 → place_in 35 (micro after (standing n offset y') w') (turned n (record before.memory { cells = cells }) offset (Some after))) →
        place_in 31 (micro cells (record (standing n offset y) { r9 = source; r10 = target }) w) (turned n (record before.memory { cells = cells }) offset (put_cell (record before.memory { cells = cells }) target (Descr d)))
    unfolding move_code
    descr_goes d y w is pays go =
        let m : Memory = record before.memory { cells = cells } in
        let here = descr_here m source d is in
        by_read m source valid
        (λ none. absurd (none_some d (sym none ∙ here)))
        (λ a f v is2 read.
        let same : d ≡ record { a = a; f = f; v = v } = same_Some _ _ (sym here ∙ is2) in
        by_option (put_cell m target (Descr d))
        (λ e. let e' = ap (λ z. put_cell m target (Descr z)) (sym same) ∙ e in record { fuel = 4; meets = simp (is2, read.f_again, read.v_again, e', e) (refl, refl, omega (arith, pays)) })
        (λ after e. let e' = ap (λ z. put_cell m target (Descr z)) (sym same) ∙ e in
        by_way (go after (record y { r9 = source; r10 = target; r11 = a; r12 = pos f; r13 = pos v }) (w + 28 + 28 + 28 + 28) e (omega arith)) (λ fuel z. record { fuel = more 4 fuel; meets = simp (is2, read.f_again, read.v_again, e', e) z })))

  block_loop : (n : ℕ) (offset : ℤ) (cells : List Cell) (y : Registers) (w : ℕ) → n < 2 ^ 62 → IsMemory (record before.memory { cells = cells }) →
      w + 400 * each_visits (cell_turn to from) (cell_price from) n (record { memory = record before.memory { cells = cells }; offset = offset }) + 800 ≤ cost →
      place_in 20 (micro cells (standing n offset y) w) (onward (each (cell_turn to from) n (record { memory = record before.memory { cells = cells }; offset = offset }) >>= moved_memory))
  unfolding each each_visits move_code
  block_loop zero offset cells y w small valid pays = record { fuel = 2; meets = (refl, omega (arith, pays)) }
  block_loop (suc n) offset cells y w small valid pays =
      let m : Memory = record before.memory { cells = cells } in
      let z : nat_eq (suc n) 0 ≡ false = grind arith in
      let down : wrapped_difference (pos (suc n)) (pos 1) ≡ pos n = sub_one n (omega (arith, small)) in
      let source = from ⊞ offset in
      let target = to ⊞ offset in
      by_cell m source valid (fits_at source (sum_fits from offset))
      (λ t none. record { fuel = 6; meets = simp (z, down, t, no_cell_at m source none) (refl, refl, omega (arith, pays)) })
      (λ t apart none. record { fuel = 9; meets = simp (z, down, t, apart, no_cell_at m source none) (refl, refl, omega (arith, pays)) })
      (λ t whole past none. record { fuel = 9; meets = simp (z, down, t, whole, past, no_cell_at m source none) (refl, refl, omega (arith, pays)) })
      (λ i cell there. by_kind cell
      (λ d e.
      let here : IsCell m source i (Descr d) = subst (IsCell m source i) e there in
      let is = is_cell_at m source i (Descr d) here in
      by_way (descr_goes n offset source target cells valid i d (record y { r11 = pos i; r12 = pos 0; r13 = pos 0 }) (w + 8 + 8 + 8 + 8 + 8 + 8 + 8 + 8 + 28 + 8 + 8) is (omega (arith, pays))
      (λ after y' w' put le. let pays' = simp (is, put) at pays in
      by_way (block_loop n (offset ⊞ pos size) after y' (w' + 8 + 8) (omega (arith, small)) (after_cell m source target (Descr d) after valid is put) (omega (arith, pays', le))) (λ fuel x. record { fuel = more 2 fuel; meets = x })))
      (λ fuel x. record { fuel = more 11 fuel; meets = simp (z, down, here.above, here.whole, here.number_is, here.kind, is) x }))
      (λ cs e.
      let here : IsCell m source i (Chars cs) = subst (IsCell m source i) e there in
      let is = is_cell_at m source i (Chars cs) here in
      by_way (chars_goes n offset source target cells valid i cs (record y { r11 = pos i; r12 = pos 0; r13 = pos 1 }) (w + 8 + 8 + 8 + 8 + 8 + 8 + 8 + 8 + 28 + 8 + 8) (fits_at target (sum_fits to offset)) here (omega (arith, pays))
      (λ after y' w' put le. let pays' = simp (is, put) at pays in
      by_way (block_loop n (offset ⊞ pos size) after y' (w' + 8 + 8) (omega (arith, small)) (after_cell m source target (Chars cs) after valid is put) (omega (arith, pays', le))) (λ fuel x. record { fuel = more 2 fuel; meets = x })))
      (λ fuel x. record { fuel = more 11 fuel; meets = simp (z, down, here.above, here.whole, here.number_is, here.kind, is) x })))

module _ (k : ℕ) (d1 d2 d3 : ℤ) (specials : Specials) where
  pub movblk_does : Does k (move_code k d1 d2 d3) specials (Place d1 ∷ Place d2 ∷ Place d3 ∷ []) (tree_clause Movblk) (tree_visits Movblk)
  unfolding tree_clause movblk cell_visits move_code
  movblk_does g program parameters u h =
      let before : State = at k u.state in
      let m = u.state.memory in
      let valid = h.valid.memory in
      let size = m.limits.cell_size in
      by_read m d1 valid (λ none. record { fuel = 8; meets = simp (h.left, none) (refl, refl, lit≤ tt) }) (λ a f v is read.
      by_read m d2 valid (λ none. record { fuel = 8; meets = simp (h.left, is, none) (refl, refl, omega arith) }) (λ a2 f2 v2 is2 read2.
      by_read m d3 valid (λ none. record { fuel = 10; meets = simp (h.left, is, is2, none) (refl, refl, omega arith) }) (λ a3 f3 v3 is3 read3.
      by_whole m a3 valid (fits_at a3 read3.fits)
      (λ below none. record { fuel = 15; meets = simp (h.left, is, is2, is3, below, none) (refl, refl, omega arith) })
      (λ t apart none. record { fuel = 18; meets = simp (h.left, is, is2, is3, t, apart, none) (refl, refl, omega arith) })
      (λ t whole many none. record { fuel = 20; meets = simp (h.left, is, is2, is3, t, whole, many, none) (refl, refl, omega arith) })
      (λ n t whole count few less some.
      let cost = 2000 + 400 * (3 + (3 + each_visits (cell_turn a a2) (cell_price a2) n (record { memory = m; offset = pos size }))) in
      by_way (block_loop g k d1 d2 d3 before u.failed u.scratch a a2 cost n (pos size) m.cells (record u.registers { r1 = d3; r11 = pos (length m.cells) }) (28 + 8 + 8 + 8 + 8 + 28 + 8 + 28 + 8 + 28 + 8 + 8 + 8 + 8 + 8 + 8 + 8 + 8) (omega (arith, valid.count, less)) valid (omega arith))
      (λ fuel x. record { fuel = more 18 fuel; meets = simp (h.left, is, is2, is3, t, whole, count, few, some) x })))))
