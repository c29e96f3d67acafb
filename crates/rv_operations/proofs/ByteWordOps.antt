-- Words of the bytes of cells are read and written.
use Rattle.std.proofs.Common.{◌≡◌, ℕ, ◌+◌, ◌*◌, ◌/◌, ◌%◌, ◌^◌, ◌<◌, ◌≤◌, List, [], ◌∷◌, length, Option, Some, None, Bool, true, false, cond, ◌==◌, refl, sym, ap, subst, ◌∙◌, arith, rules}
use Rattle.std.specs.Prelude.{option_and_then}
use Rattle.std.specs.Int.{w64, cast_unsigned, cast_signed}
use Rattle.std.proofs.lemmas.Int.{of_z-to_z}
use Rattle.std.proofs.lemmas.List.{length-set}
use Rattle.std.proofs.Math.Facts.{sfits_to_z}
use Rattle.sil_base.specs.Bytes.{number, low_bytes, piece, with_piece}
use Rattle.sil_base.specs.declared.places.TheConstants.{FIRST_CELL}
use Rattle.sil_base.proofs.Numbers.{length-piece, low_bytes_below, length-low_bytes, number_below, AreBytes-piece}
use Rattle.layout_params.specs.declared.cell.Cell.TheVariants.{Chars}
use Rattle.layout_params.proofs.LegalLayouts.{legal}
use Rattle.sil_model.specs.Memory.{FitsChars}
use Rattle.sil_model.specs.Access.{with_cell}
use Rattle.sil_model.specs.CellWords.{word_at, set_word_at}
use Rattle.sil_model.proofs.Characters.{bytes_of}
use Rattle.sil_micro.specs.MicroStates.{held}
use Rattle.sil_micro.specs.Operations.{load, store}
use Rattle.rv_emulate.specs.EmulatorMemory.{loaded, stored}
use Rattle.rv_emulate.specs.EmulatorStates.{register}
use Rattle.rv_emulate.specs.InstrValues.{sum64}
use Rattle.rv_straight.specs.InstrEffects.{Value, Leaves}
use Rattle.rv_straight.specs.Straight.{◌▸◌}
use Rattle.rv_straight.proofs.Reaching.{start, straight}
use Rattle.rv_straight.proofs.Leaps.{code_from}
use Rattle.rv_routines.specs.Routines.{IsRoutine, kept}
use Rattle.rv_routines.specs.Tests.{cell_around, with_chars, word_test}
use Rattle.rv_routines.proofs.Cells.{place_of_byte}
use Rattle.rv_routines.proofs.Regions.{store_cells}
use Rattle.rv_routines.proofs.CharBytes.{IsMade, word_loads, chars_put}
use Rattle.rv_routines.proofs.Differing.{cell_room, differ_same}
use Rattle.rv_routines.proofs.FieldLoads.{cell_fits}
use Rattle.rv_operations.specs.Homes.{home}
use Rattle.rv_operations.specs.Does.{Does}
use Rattle.rv_operations.specs.WordLaws.{LawOfLoadBytes, LawOfStoreBytes}
use Rattle.rv_operations.proofs.Standing.{home_kept}
use Rattle.rv_operations.proofs.Doing.{unsigned_small, framed, moves_from}
use Rattle.rv_operations.proofs.Setting.{sets, leaves}
use Rattle.rv_operations.proofs.CharsFound.{chars_around, word_found, word_is, set_word_is}

near : (x : ℕ) → x < 2 ^ 64 → sum64 x 0 ≡ x
near x h = omega arith

-- a place at a multiple of 8 is that of a whole word in its cell
record IsWhole (d i r : ℕ) : Type 0 where
  pub even : (i * d + r) % 8 ≡ 0
  pub inside : r + 8 ≤ d

whole_at : (d i r x : ℕ) → d % 8 ≡ 0 → x % 8 ≡ 0 → x ≡ 0x4000_0000 + i * d + r → r < d → IsWhole d i r
whole_at d i r x multiple even address below =
    let e : d ≡ 8 * (d / 8) = omega arith in
    let cells : i * d ≡ 8 * (i * (d / 8)) = ap (λ y. i * y) e ∙ omega arith in
    record { even = omega arith; inside = omega arith }

some_word : (b : Bool) (o : Option (ℕ × ℕ × List ℕ)) (t : ℕ × ℕ × List ℕ) → cond b o None ≡ Some t → (b ≡ true) × (o ≡ Some t)
some_word true o t e = (refl, e)
some_word false o t e = absurd cc

is_zero : (n : ℕ) → (n == 0) ≡ true → n ≡ 0
is_zero n e = grind arith

pub loads_bytes : LawOfLoadBytes
loads_bytes image last g places to at u s to_ok at_ok routines b =
    let st = b.stands in
    let sizes = g.settings.sizes in
    let d = sizes.descr in
    let m = u.state.memory in
    let l = legal sizes b.settings.layout in
    let z = held u.registers at in
    let fit = st.fit at at_ok in
    let x : ℕ = cast_unsigned w64 z in
    let small = unsigned_small z fit in
    let word = λ (t : ℕ × ℕ × List ℕ). Some (cast_signed w64 (number (piece t.1 8 t.2))) in
    let same : option_and_then word (word_found m x) ≡ word_at m z = sym (word_is m z fit) in
    let r = subst (λ n. IsRoutine image last sizes n places.routines.word 16 14 word_test kept) (sym st.count) routines.word in
    let p = straight (start b.code st.file) 1 (Value x ∷ []) (omega arith) (omega arith) (moves_from st at [] at_ok refl ▸ tt) in
    subst (λ o. Does image last g places false 19 (s.pc + 16) s (load o to u)) same (framed b p r refl (omega arith) places 1 19 (s.pc + 16) (λ o. load (option_and_then word o) to u) (word_found m x) refl refl refl (omega arith) (omega arith) (λ xs reads. ap (λ y. cond (y % 8 == 0) (option_and_then with_chars (cell_around m y)) None) (reads 10 (omega arith))) (λ t ys is back.
    let i = t.0 in
    let rest = t.1 in
    let chars = t.2 in
    let both = some_word (x % 8 == 0) (option_and_then with_chars (cell_around m x)) t is in
    let here = chars_around m x t both.1 in
    let within = place_of_byte m d x i rest st.memory.limit l.least l.most st.memory.valid.count small here.place in
    let whole = whole_at d i rest x l.multiple (is_zero (x % 8) both.0) within.address within.place in
    let fits : FitsChars m.limits chars = cell_fits m i (Chars chars) st.memory.valid here.member in
    let bytes = piece rest 8 chars in
    let long : length bytes ≡ 8 = length-piece rest 8 chars (omega (arith, whole.inside, fits.size, l.most)) in
    let below = number_below bytes (AreBytes-piece rest 8 chars (bytes_of chars fits.bytes)) in
    let v : ℕ = number bytes in
    let few : v < 2 ^ 64 = subst (λ n. v < 256 ^ n) long below in
    let address : sum64 x 0 ≡ FIRST_CELL + (i * d + rest) = omega (arith, near x small, within.address) in
    let load_is : loaded image.constants s.memory 8 (sum64 (register ys 10) 0) ≡ Some v =
    ap (λ a. loaded image.constants s.memory 8 (sum64 a 0)) (back.reads 10 refl (omega arith))
    ∙ ap (λ a. loaded image.constants s.memory 8 a) address
    ∙ word_loads image.constants sizes l m s.memory st.memory i rest chars here.member whole.inside whole.even in
    let signed = cast_signed w64 v in
    let bits : v ≡ cast_unsigned w64 signed = sym (of_z-to_z w64 v few) in
    let load' = subst (λ n. loaded image.constants s.memory 8 (sum64 (register ys 10) 0) ≡ Some n) bits load_is in
    let v3 = record s { pc = s.pc + 12; registers = ys } in
    sets places st back.kept (start (code_from b.code 3 v3 (omega arith) refl) back.file) 1 (Value (cast_unsigned w64 signed) ∷ []) to signed [] (s.pc + 16) to_ok (sfits_to_z (search rules)) (omega arith) (omega arith) ((load', omega (arith, bits, few)) ▸ tt) refl refl refl (omega arith)))

pub stores_bytes : LawOfStoreBytes
stores_bytes image last g places at from u s at_ok from_ok routines b =
    let st = b.stands in
    let sizes = g.settings.sizes in
    let d = sizes.descr in
    let m = u.state.memory in
    let l = legal sizes b.settings.layout in
    let z = held u.registers at in
    let fit = st.fit at at_ok in
    let x : ℕ = cast_unsigned w64 z in
    let w = held u.registers from in
    let y : ℕ = cast_unsigned w64 w in
    let small = unsigned_small z fit in
    let new = low_bytes 8 y in
    let put = λ (t : ℕ × ℕ × List ℕ). Some (with_cell m t.0 (Chars (with_piece t.1 new t.2))) in
    let same : option_and_then put (word_found m x) ≡ set_word_at m z w = sym (set_word_is m z w fit) in
    let r = subst (λ n. IsRoutine image last sizes n places.routines.word 16 14 word_test kept) (sym st.count) routines.word in
    let p = straight (start b.code st.file) 1 (Value x ∷ []) (omega arith) (omega arith) (moves_from st at [] at_ok refl ▸ tt) in
    subst (λ o. Does image last g places false 19 (s.pc + 16) s (store o u)) same (framed b p r refl (omega arith) places 1 19 (s.pc + 16) (λ o. store (option_and_then put o) u) (word_found m x) refl refl refl (omega arith) (omega arith) (λ xs reads. ap (λ y. cond (y % 8 == 0) (option_and_then with_chars (cell_around m y)) None) (reads 10 (omega arith))) (λ t ys is back.
    let i = t.0 in
    let rest = t.1 in
    let chars = t.2 in
    let both = some_word (x % 8 == 0) (option_and_then with_chars (cell_around m x)) t is in
    let here = chars_around m x t both.1 in
    let within = place_of_byte m d x i rest st.memory.limit l.least l.most st.memory.valid.count small here.place in
    let whole = whole_at d i rest x l.multiple (is_zero (x % 8) both.0) within.address within.place in
    let fits : FitsChars m.limits chars = cell_fits m i (Chars chars) st.memory.valid here.member in
    let is_made : IsMade d i s.memory s.memory chars = record { differ = differ_same d i s.memory; bytes = st.memory.packed i (Chars chars) here.member; kind = st.memory.kinds i (Chars chars) here.member } in
    let after = record s.memory { cells = with_piece (i * d + rest) new s.memory.cells } in
    let long = length-low_bytes 8 y in
    let holds = chars_put sizes m s.memory s.memory i rest chars new st.memory within.number fits is_made (low_bytes_below 8 y) (omega (arith, whole.inside, long)) in
    let room = cell_room sizes m s.memory i st.memory within.number in
    let address : sum64 x 0 ≡ FIRST_CELL + (i * d + rest) = omega (arith, near x small, within.address) in
    let store_is : stored s.memory 8 (sum64 (register ys 10) 0) (register ys (home from)) ≡ Some after =
    ap (λ a. stored s.memory 8 (sum64 a 0) (register ys (home from))) (back.reads 10 refl (omega arith))
    ∙ ap (λ v. stored s.memory 8 (sum64 x 0) v) (back.kept (home from) (home_kept from from_ok) ∙ st.registers from from_ok)
    ∙ ap (λ a. stored s.memory 8 a y) address
    ∙ store_cells s.memory 8 (i * d + rest) y (omega (arith, whole.even)) (omega (arith, room, whole.inside)) in
    let v3 = record s { pc = s.pc + 12; registers = ys } in
    leaves places st back.kept (start (code_from b.code 3 v3 (omega arith) refl) back.file) 1 (Leaves after ∷ []) (with_cell m i (Chars (with_piece rest new chars))) (s.pc + 16) (omega arith) (omega arith) (store_is ▸ tt) refl holds (length-set m.cells i (Chars (with_piece rest new chars))) refl refl (omega arith)))
