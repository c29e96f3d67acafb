-- LoadChar and StoreChar do what the operations do.
use Rattle.std.proofs.Common.{◌≡◌, ℕ, zero, suc, ◌+◌, ◌*◌, ◌%◌, ◌^◌, ◌<◌, List, [], ◌∷◌, length, Some, false, refl, sym, ap, subst, ◌∙◌, arith}
use Rattle.std.specs.Prelude.{ℤ, pos, slice_get, slice_set, option_and_then}
use Rattle.std.specs.Int.{w64, cast_unsigned}
use Rattle.std.proofs.lemmas.Int.{to_z-of_z}
use Rattle.std.proofs.lemmas.List.{length-set}
use Rattle.sil_base.specs.Bytes.{low_bytes, with_piece}
use Rattle.sil_base.specs.declared.places.TheConstants.{FIRST_CELL}
use Rattle.sil_base.proofs.Numbers.{low_bytes_below}
use Rattle.layout_params.specs.declared.cell.Cell.{Cell}
use Rattle.layout_params.specs.declared.cell.Cell.TheVariants.{Chars}
use Rattle.layout_params.proofs.LegalLayouts.{legal}
use Rattle.sil_model.specs.Memory.{FitsChars}
use Rattle.sil_model.specs.Access.{char_at, set_char_at, chars_or_zeros, with_cell}
use Rattle.sil_model.proofs.Keeps.{all_at}
use Rattle.sil_micro.specs.MicroStates.{held}
use Rattle.sil_micro.specs.Operations.{load_char, store}
use Rattle.sil_micro.specs.MicroWords.{low_byte, unsigned}
use Rattle.rv_emulate.specs.EmulatorMemory.{loaded, stored}
use Rattle.rv_emulate.specs.EmulatorStates.{register}
use Rattle.rv_emulate.specs.InstrValues.{sum64}
use Rattle.rv_straight.specs.InstrEffects.{Value, Leaves}
use Rattle.rv_straight.specs.Straight.{◌▸◌}
use Rattle.rv_straight.proofs.Reaching.{start, straight}
use Rattle.rv_straight.proofs.Leaps.{code_from}
use Rattle.rv_routines.specs.Routines.{IsRoutine, kept}
use Rattle.rv_routines.specs.Tests.{cell_around, with_chars, char_test, make_test, made}
use Rattle.rv_routines.proofs.Cells.{place_of_byte}
use Rattle.rv_routines.proofs.Regions.{store_cells}
use Rattle.rv_routines.proofs.Pieces.{kind_written}
use Rattle.rv_routines.proofs.CharBytes.{char_loads, chars_put, made_is, made_fits}
use Rattle.rv_routines.proofs.Differing.{cell_room}
use Rattle.rv_routines.proofs.FieldLoads.{cell_fits}
use Rattle.rv_operations.specs.Homes.{home}
use Rattle.rv_operations.specs.Does.{Does}
use Rattle.rv_operations.specs.WordLaws.{LawOfLoadChar, LawOfStoreChar}
use Rattle.rv_operations.proofs.Standing.{home_kept}
use Rattle.rv_operations.proofs.Doing.{unsigned_small, framed, moves_from}
use Rattle.rv_operations.proofs.Setting.{sets, leaves}
use Rattle.rv_operations.proofs.CharsFound.{around, chars_around, char_is, set_char_is}

some_at : (xs : List ℕ) (i : ℕ) → i < length xs → (c : ℕ) × (slice_get xs i ≡ Some c)
some_at [] i h = absurd (omega arith)
some_at (x ∷ xs) zero h = (x, refl)
some_at (x ∷ xs) (suc i) h = some_at xs i (omega arith)

near : (x : ℕ) → x < 2 ^ 64 → sum64 x 0 ≡ x
near x h = omega arith

pub loads_char : LawOfLoadChar
loads_char image last g places to at u s to_ok at_ok routines b =
    let st = b.stands in
    let sizes = g.settings.sizes in
    let m = u.state.memory in
    let l = legal sizes b.settings.layout in
    let z = held u.registers at in
    let fit = st.fit at at_ok in
    let x : ℕ = cast_unsigned w64 z in
    let small = unsigned_small z fit in
    let found = option_and_then with_chars (cell_around m x) in
    let same : option_and_then (λ (t : ℕ × ℕ × List ℕ). slice_get t.2 t.1) found ≡ char_at m z = sym (char_is m x) ∙ ap (λ y. char_at m y) (to_z-of_z w64 z fit) in
    let r = subst (λ n. IsRoutine image last sizes n places.routines.chars 14 12 char_test kept) (sym st.count) routines.chars in
    let p = straight (start b.code st.file) 1 (Value x ∷ []) (omega arith) (omega arith) (moves_from st at [] at_ok refl ▸ tt) in
    subst (λ o. Does image last g places false 17 (s.pc + 16) s (load_char o to u)) same (framed b p r refl (omega arith) places 1 17 (s.pc + 16) (λ o. load_char (option_and_then (λ (t : ℕ × ℕ × List ℕ). slice_get t.2 t.1) o) to u) found refl refl refl (omega arith) (omega arith) (λ xs reads. ap (λ y. option_and_then with_chars (cell_around m y)) (reads 10 (omega arith))) (λ t ys is back.
    let i = t.0 in
    let rest = t.1 in
    let chars = t.2 in
    let here = chars_around m x t is in
    let within = place_of_byte m sizes.descr x i rest st.memory.limit l.least l.most st.memory.valid.count small here.place in
    let fits : FitsChars m.limits chars = cell_fits m i (Chars chars) st.memory.valid here.member in
    let c = some_at chars rest (omega (arith, within.place, fits.size, l.most)) in
    let byte : c.0 < 256 = all_at (λ n. n < 256) chars rest c.0 fits.bytes c.1 in
    let address : sum64 x 0 ≡ FIRST_CELL + (i * sizes.descr + rest) = omega (arith, near x small, within.address) in
    let load_is : loaded image.constants s.memory 1 (sum64 (register ys 10) 0) ≡ Some c.0 =
    ap (λ a. loaded image.constants s.memory 1 (sum64 a 0)) (back.reads 10 refl (omega arith))
    ∙ ap (λ a. loaded image.constants s.memory 1 a) address
    ∙ char_loads image.constants sizes l m s.memory st.memory i rest chars here.member c.0 within.place c.1 in
    let v3 = record s { pc = s.pc + 12; registers = ys } in
    let done = sets places st back.kept (start (code_from b.code 3 v3 (omega arith) refl) back.file) 1 (Value c.0 ∷ []) to (pos c.0) [] (s.pc + 16) to_ok (record { sfits = omega (arith, byte) }) (omega arith) (omega arith) ((load_is, omega (arith, byte)) ▸ tt) refl refl refl (omega arith) in
    subst (λ o. Does image last g places false 1 (s.pc + 16) v3 (load_char o to u)) (sym c.1) done))

-- a byte among characters
byte_set : (chars : List ℕ) (i y : ℕ) → i < length chars → with_piece i (low_bytes 1 y) chars ≡ slice_set chars i (y % 256)
byte_set chars i y h =
    let e : y % 256 % 256 ≡ y % 256 = omega arith in
    ap (λ b. with_piece i (b ∷ []) chars) (sym e) ∙ kind_written i (y % 256) chars h (omega arith)

low_is : (z : ℤ) → low_byte z ≡ cast_unsigned w64 z % 256
unfolding low_byte unsigned
low_is z = refl

pub stores_char : LawOfStoreChar
stores_char image last g places at from u s at_ok from_ok routines b =
    let st = b.stands in
    let sizes = g.settings.sizes in
    let d = sizes.descr in
    let m = u.state.memory in
    let l = legal sizes b.settings.layout in
    let z = held u.registers at in
    let fit = st.fit at at_ok in
    let x : ℕ = cast_unsigned w64 z in
    let y : ℕ = cast_unsigned w64 (held u.registers from) in
    let small = unsigned_small z fit in
    let put = λ (c : ℕ) (t : ℕ × ℕ × Cell). Some (with_cell m t.0 (Chars (slice_set (chars_or_zeros t.2) t.1 c))) in
    let same : option_and_then (put (y % 256)) (cell_around m x) ≡ set_char_at m z (low_byte (held u.registers from)) =
    sym (set_char_is m x (y % 256)) ∙ ap (λ a. set_char_at m a (y % 256)) (to_z-of_z w64 z fit) ∙ ap (λ c. set_char_at m z c) (sym (low_is (held u.registers from))) in
    let r = subst (λ n. IsRoutine image last sizes n places.routines.make 11 24 make_test (made d)) (sym st.count) routines.make in
    let p = straight (start b.code st.file) 1 (Value x ∷ []) (omega arith) (omega arith) (moves_from st at [] at_ok refl ▸ tt) in
    subst (λ o. Does image last g places false 28 (s.pc + 16) s (store o u)) same (framed b p r refl (omega arith) places 1 28 (s.pc + 16) (λ o. store (option_and_then (put (y % 256)) o) u) (cell_around m x) refl refl refl (omega arith) (omega arith) (λ xs reads. ap (λ a. cell_around m a) (reads 10 (omega arith))) (λ t ys is back.
    let i = t.0 in
    let rest = t.1 in
    let cell = t.2 in
    let here = around m x t is in
    let within = place_of_byte m d x i rest st.memory.limit l.least l.most st.memory.valid.count small here.place in
    let chars = chars_or_zeros cell in
    let before = made d s.memory t in
    let is_made = made_is sizes l m s.memory st.memory i within.number rest cell here.member in
    let fits = made_fits sizes l m s.memory st.memory i within.number cell here.member in
    let new = low_bytes 1 y in
    let after = record before { cells = with_piece (i * d + rest) new before.cells } in
    let holds = chars_put sizes m s.memory before i rest chars new st.memory within.number fits is_made (low_bytes_below 1 y) (omega (arith, within.place)) in
    let room = cell_room sizes m s.memory i st.memory within.number in
    let address : sum64 x 0 ≡ FIRST_CELL + (i * d + rest) = omega (arith, near x small, within.address) in
    let store_is : stored before 1 (sum64 (register ys 10) 0) (register ys (home from)) ≡ Some after =
    ap (λ a. stored before 1 (sum64 a 0) (register ys (home from))) (back.reads 10 refl (omega arith))
    ∙ ap (λ v. stored before 1 (sum64 x 0) v) (back.kept (home from) (home_kept from from_ok) ∙ st.registers from from_ok)
    ∙ ap (λ a. stored before 1 a y) address
    ∙ store_cells before 1 (i * d + rest) y (omega arith) (omega (arith, room, within.place, is_made.differ.size)) in
    let v3 = record s { pc = s.pc + 12; registers = ys; memory = before } in
    let left = with_cell m i (Chars (with_piece rest new chars)) in
    let done = leaves places st back.kept (start (code_from b.code 3 v3 (omega arith) refl) back.file) 1 (Leaves after ∷ []) left (s.pc + 16) (omega arith) (omega arith) (store_is ▸ tt) refl holds (length-set m.cells i (Chars (with_piece rest new chars))) is_made.differ.scratch is_made.differ.tables (omega arith) in
    let same_chars = byte_set chars rest y (omega (arith, within.place, fits.size, l.most)) in
    subst (λ cs. Does image last g places false 1 (s.pc + 16) v3 (store (Some (with_cell m i (Chars cs))) u)) same_chars done))
