-- Calls on units, by their numbers, texts and values.
use Rattle.std.proofs.Common.{◌≡◌, ℕ, zero, suc, ◌+◌, ◌-◌, ◌*◌, ◌^◌, ◌<◌, ◌≤◌, ◌⊎◌, inl, inr, List, [], ◌∷◌, length, drop, map, Option, Some, None, Bool, true, false, ◌&&◌, ◌==◌, refl, sym, ap, subst, ◌∙◌, arith}
use Rattle.std.specs.Prelude.{pos, nat_le, not, is_some, slice_get, IsTrue}
use Rattle.std.specs.List.{flat_map}
use Rattle.std.specs.Int.{w64, cast_unsigned}
use Rattle.std.proofs.lemmas.Option.{get_or_from_slice_get}
use Rattle.sil_base.specs.declared.places.TheConstants.{FIRST_SCRATCH}
use Rattle.layout_params.proofs.LegalLayouts.{IsLegal, legal}
use Rattle.layout_params.proofs.LegalLemmas.{both_true}
use Rattle.sil_format.specs.declared.value.Value.TheVariants.{Number, Char}
use Rattle.unit_io.specs.Tapes.{TapeState, rewound, backspaced, ended}
use Rattle.unit_io.specs.Numbered.{unit_at}
use Rattle.unit_io.specs.Answers.{read_bytes}
use Rattle.unit_calls.specs.CallsMade.{moved, print_on, read}
use Rattle.sil_micro.specs.declared.op.Op.TheVariants.{UnitCall}
use Rattle.sil_micro.specs.declared.op.Text.{Text}
use Rattle.sil_micro.specs.declared.op.Text.TheVariants as text
use Rattle.sil_micro.specs.declared.op.Values.{Values}
use Rattle.sil_micro.specs.declared.op.Values.TheVariants as values
use Rattle.sil_micro.specs.Forms.{are_values, has_no_text, has_no_values, has_place, is_call, is_register}
use Rattle.sil_micro.specs.Operations.{Effect, answered, call_if, call_on, read_answered, told_call, unit_held}
use Rattle.sil_micro.specs.Pieces.{is_quiet}
use Rattle.sil_micro.specs.MicroStates.{Setting, Micro, held}
use Rattle.sil_micro.specs.UnitCalls.{chars_from, can_call, chars_of, chars_read, has_chars, is_format, or_nothing, set_chars_from, text_fits, text_of, values_fit, values_of}
use Rattle.sil_micro.proofs.SetChars.{chars_count, low_bits}
use Rattle.sil_micro.specs.MicroWords.{unsigned}
use Rattle.image_file.specs.Image.{Image}
use Rattle.rv_emulate.specs.EmulatorMemory.{bytes_at, can_load, with_bytes}
use Rattle.rv_emulate.proofs.ReadLaws.{bytes_length}
use Rattle.rv_emulate.specs.Ecalls.{bytes_read, can_take, values_at}
use Rattle.rv_emulate.specs.EmulatorStates.{State, register}
use Rattle.rv_emulate.specs.InstrValues.{sum64, extended}
use Rattle.rv_isa.specs.InstrWords.{twos}
use Rattle.rv_isa.specs.declared.instr.IOp.TheVariants.{Addi}
use Rattle.rv_isa.specs.declared.instr.Instr.{Instr}
use Rattle.rv_isa.specs.declared.instr.Instr.TheVariants.{I, Ecall}
use Rattle.rv_straight.specs.Reaching.{Reaches}
use Rattle.rv_straight.specs.Registers.{Writes, written, are}
use Rattle.rv_straight.specs.InstrEffects.{Value}
use Rattle.rv_straight.specs.InstalledWays.{Permits}
use Rattle.rv_straight.specs.Straight.{at as before_call, ◌▸◌}
use Rattle.rv_straight.specs.Constants.{upper_of}
use Rattle.rv_straight.proofs.Numbers.{constant_is}
use Rattle.rv_straight.proofs.Reaching.{start, straight}
use Rattle.rv_operations.specs.Homes.{home, is_temporary}
use Rattle.rv_operations.specs.OpCodes.{unit_call_code, text_length, values_length}
use Rattle.rv_operations.specs.Does.{Does, Begins}
use Rattle.rv_operations.specs.Laws.{LawOfUnitCall}
use Rattle.rv_operations.specs.Links.{format_place, format_length, text_links}
use Rattle.rv_operations.specs.CodePlaces.{Places}
use Rattle.rv_operations.specs.StandsFor.{StandsFor}
use Rattle.rv_operations.proofs.Doing.{moves_from}
use Rattle.rv_operations.proofs.Standing.{stands_stored}
use Rattle.rv_operations.proofs.OpRules.{call_rules, register as register_rule, two_registers, three_true}
use Rattle.rv_operations.proofs.UnitTests.{reads_call, writes_call, others_call, none_stores, stores_load, scratch_load, format_room, format_load, chars_store, made_as, made_of, prints_made, moved_few, print_few}
use Rattle.rv_operations.proofs.UnitBytes.{bytes_none, chars_bytes, format_bytes, words_bytes}
use Rattle.rv_operations.proofs.UnitOps.{answers, calls, reads}
use Rattle.rv_operations.proofs.ReadBytes.{by_read, read_few, reads_memory, reads_stand}

chars_are : (u : Micro) (at len : ℕ) → has_chars u at len ≡ true → is_some (chars_from u.state.memory (held u.registers at) (cast_unsigned w64 (held u.registers len))) ≡ true
unfolding unsigned
chars_are u at len h = h

format_of : (o : Option (List ℕ)) → is_format o ≡ true → (words : List ℕ) × (o ≡ Some words) × (length words ≤ 256)
format_of None h = absurd cc
format_of (Some words) h = (words, refl, let few = h in grind arith)

no_more : (a : Bool) → (a && false) ≡ true → ⊥
no_more a h = grind arith

few_are : (count : ℕ) → nat_le count 40 ≡ true → (count ≤ 256) × (8 * count ≤ 320)
few_are count h = let le : count ≤ 40 = grind arith in (omega arith, omega arith)

short_number : (n : ℕ) → n ≤ 256 → sum64 0 (twos 64 (pos n)) ≡ n
short_number n h = omega arith

module _ (image : Image) (last : ℕ) (g : Setting) (places : Places) (unit to : ℕ) (u : Micro) (s : State) (unit_ok : unit < 16) (to_ok : to < 16) (texts : image.constants ≡ flat_map (λ t. t) g.formats) (short : length image.constants ≤ 2 ^ 26) where
  abbrev bits : ℕ → ℕ
  bits r = cast_unsigned w64 (held u.registers r)

  -- what a call comes to, by its unit
  abbrev made : ℕ → Text → Values → Effect
  made call t v = call_on (unit_at u.state.tapes (unit_held u unit)) to u (told_call g call t v (unit_held u unit) to u)

  abbrev goal : Bool → ℕ → ℕ → Text → Values → Type 0
  goal prints count call t v = Does image last g places prints 11 (s.pc + 4 * count) s (made call t v)

  -- ---- a call that reads

  -- the characters that are there
  old_bytes : IsLegal g.settings.sizes → StandsFor g u s → (at len : ℕ) → at < 16 → has_chars u at len ≡ true → bytes_at [] s.memory (bits len) (bits at) ≡ chars_of u at len
  unfolding unsigned
  old_bytes l st at len at_ok has = chars_bytes g.settings.sizes l u.state.memory s.memory st.memory [] (held u.registers at) (bits len) (st.fit at at_ok) has

  -- as many are read as there are
  read_room : (at len : ℕ) (t : TapeState) → has_chars u at len ≡ true → is_some (chars_from u.state.memory (held u.registers at) (length (chars_read u at len t))) ≡ true
  read_room at len t has =
      let n = unsigned (held u.registers len) in
      let long : length (chars_read u at len t) ≡ n = bytes_length t (chars_of u at len) ∙ chars_count u.state.memory (held u.registers at) n has in
      ap (λ k. is_some (chars_from u.state.memory (held u.registers at) k)) long ∙ has

  -- a call that reads
  call_2 : (at len : ℕ) → at < 16 → len < 16 → has_chars u at len ≡ true → Begins image last g (unit_call_code (text_links g.formats (text.Chars at len)) 2 unit to (text.Chars at len) values.None) u s → goal false 8 2 (text.Chars at len) values.None
  call_2 at len at_ok len_ok has b =
      let st = b.stands in
      let l = legal g.settings.sizes b.settings.layout in
      let z = held u.registers at in
      let w1 : Writes = (10, bits unit) ∷ [] in
      let w2 : Writes = (11, bits at) ∷ w1 in
      let ws : Writes = (17, 2) ∷ (15, 0) ∷ (14, 0) ∷ (12, bits len) ∷ w2 in
      let p = straight (start b.code st.file) 6 (Value (bits unit) ∷ Value (bits at) ∷ Value (bits len) ∷ Value 0 ∷ Value 0 ∷ Value 2 ∷ []) (omega arith) (omega arith) (moves_from st unit [] unit_ok refl ▸ moves_from st at w1 at_ok refl ▸ moves_from st len w2 len_ok refl ▸ refl ▸ refl ▸ refl ▸ tt) in
      let ys = written s.registers ws in
      let can = reads_call image.constants s.memory ys (bits at) (bits len) (p.know.reads 17) (p.know.reads 11) (p.know.reads 12) (chars_store g.settings.sizes l u.state.memory s.memory st.memory z (bits len) (st.fit at at_ok) (chars_are u at len has)) in
      let permits : Permits image false (before_call s (s.pc + 24) ws s.memory) = λ h. absurd (omega (h.1, arith, p.know.reads 17)) in
      calls places b unit to_ok p (p.know.reads 10) refl refl refl refl can false 11 permits (omega arith) (told_call g 2 (text.Chars at len) values.None (unit_held u unit) to u) (λ t is.
      let cs = chars_read u at len t in
      let made_is = made_as image.constants s.memory ys t 2 (p.know.reads 17) in
      let memory_is = reads_memory s.memory ys t (bits at) (bits len) (p.know.reads 17) (p.know.reads 11) (p.know.reads 12) ∙ ap (λ old. with_bytes s.memory (bits at) (bytes_read t old)) (old_bytes l st at len at_ok has) in
      by_read (set_chars_from u.state.memory z cs) (λ o. Does image last g places false 11 (s.pc + 32) s (read_answered o (unit_held u unit) to u (read t))) tt (λ after e.
      let left = reads_stand g.settings.sizes l u.state.memory after s.memory z cs st.memory (st.fit at at_ok) (low_bits (read_bytes t (chars_of u at len))) (read_room at len t has) e in
      let stands = stands_stored g u s after (with_bytes s.memory (bits at) cs) s.pc s.registers st st.file (λ q free. refl) left.holds left.count left.scratch left.tables in
      reads places b unit to_ok p (p.know.reads 10) refl refl refl refl can t (read t) made_is (read_few t) after (with_bytes s.memory (bits at) cs) memory_is stands false 11 permits (omega arith) is))

  -- a call that moves the place, by its number
  other_call : (call : ℕ) → (call ≡ 4) ⊎ (call ≡ 5) ⊎ (call ≡ 6) → (change : TapeState → TapeState) → ((ys : List ℕ) (t : TapeState) → made_of image.constants s.memory ys t call ≡ moved change t) → ((t : TapeState) → told_call g call text.None values.None (unit_held u unit) to u t ≡ answered (unit_held u unit) to u (moved change t)) → Begins image last g (unit_call_code (text_links g.formats text.None) call unit to text.None values.None) u s → goal false 6 call text.None values.None
  other_call call which change same told b =
      let st = b.stands in
      let small : call ≤ 256 = grind (arith, which) in
      let ws : Writes = (17, call) ∷ (15, 0) ∷ (14, 0) ∷ (10, bits unit) ∷ [] in
      let p = straight (start b.code st.file) 4 (Value (bits unit) ∷ Value 0 ∷ Value 0 ∷ Value call ∷ []) (omega arith) (omega arith) (moves_from st unit [] unit_ok refl ▸ refl ▸ refl ▸ short_number call small ▸ tt) in
      let ys = written s.registers ws in
      let can = others_call image.constants s.memory ys call (p.know.reads 17) which in
      let not_3 : call ≡ 3 → ⊥ = λ e. grind (arith, which, e) in
      let not_2 : (call == 2) ≡ false = grind (arith, which) in
      let permits : Permits image false (before_call s (s.pc + 16) ws s.memory) = λ h. not_3 (sym (p.know.reads 17) ∙ h.1) in
      calls places b unit to_ok p (p.know.reads 10) refl refl refl refl can false 11 permits (omega arith) (told_call g call text.None values.None (unit_held u unit) to u) (λ t is.
      let is_made = made_as image.constants s.memory ys t call (p.know.reads 17) ∙ same ys t in
      let done = answers places b unit to_ok p (p.know.reads 10) refl refl refl refl can t (moved change t) is_made (moved_few change t) (ap (λ x. x == 2) (p.know.reads 17) ∙ not_2) false 11 permits (omega arith) is in
      subst (λ e. Does image last g places false 11 (s.pc + 24) s e) (sym (told t)) done)

  -- ---- a call that writes

  -- what is to be known of the text
  record IsText (t : Text) (at len : ℕ) : Type 0 where
    pub brief : nat_le len 256 ≡ true
    pub load : can_load image.constants s.memory len at ≡ true
    pub is : bytes_at image.constants s.memory len at ≡ text_of g u t

  -- and of the values
  record AreValues (v : Values) (a3 a4 a5 : ℕ) : Type 0 where
    pub take : can_take image.constants s.memory a3 a4 a5 ≡ true
    pub are : values_at image.constants s.memory a3 a4 a5 ≡ values_of u v

  no_values : (a3 : ℕ) → AreValues values.None a3 0 0
  no_values a3 = record { take = stores_load image.constants s.memory 0 a3 (none_stores s.memory a3); are = ap (map Char) (bytes_none image.constants s.memory a3) }

  some_words : IsLegal g.settings.sizes → StandsFor g u s → (count : ℕ) → nat_le count 40 ≡ true → AreValues (values.Words count) (FIRST_SCRATCH + 16) count 1
  some_words l st count few = record {
    take = rw (few, scratch_load image.constants s.memory (8 * count) st.memory.scratch_size (few_are count few).1) refl;
    are = ap (map Number) (words_bytes g.settings.sizes u s.memory image.constants count l st.memory st.words short (few_are count few).0);
  }

  -- characters that are there
  chars_room : IsLegal g.settings.sizes → StandsFor g u s → (at len : ℕ) → at < 16 → has_chars u at len ≡ true → can_load image.constants s.memory (bits len) (bits at) ≡ true
  chars_room l st at len at_ok has = stores_load image.constants s.memory (bits len) (bits at) (chars_store g.settings.sizes l u.state.memory s.memory st.memory (held u.registers at) (bits len) (st.fit at at_ok) (chars_are u at len has))

  chars_are_bytes : IsLegal g.settings.sizes → StandsFor g u s → (at len : ℕ) → at < 16 → has_chars u at len ≡ true → bytes_at image.constants s.memory (bits len) (bits at) ≡ or_nothing (chars_from u.state.memory (held u.registers at) (bits len))
  chars_are_bytes l st at len at_ok has = chars_bytes g.settings.sizes l u.state.memory s.memory st.memory image.constants (held u.registers at) (bits len) (st.fit at at_ok) (chars_are u at len has)

  some_chars : IsLegal g.settings.sizes → StandsFor g u s → (at len : ℕ) → at < 16 → values_fit u (values.Chars at len) ≡ true → AreValues (values.Chars at len) (bits at) (bits len) 0
  unfolding unsigned
  some_chars l st at len at_ok fit =
      let two = both_true (nat_le (bits len) 65536) (has_chars u at len) fit in
      record { take = rw (two.0, chars_room l st at len at_ok two.1) refl; are = ap (map Char) (chars_are_bytes l st at len at_ok two.1) }

  chars_text : IsLegal g.settings.sizes → StandsFor g u s → (at len : ℕ) → at < 16 → text_fits g u 3 (text.Chars at len) ≡ true → IsText (text.Chars at len) (bits at) (bits len)
  unfolding unsigned
  chars_text l st at len at_ok fit =
      let two = both_true (nat_le (bits len) 256) (has_chars u at len) fit in
      record { brief = two.0; load = chars_room l st at len at_ok two.1; is = chars_are_bytes l st at len at_ok two.1 }

  -- the registers hold the operands of the call
  record HasOperands (ys : List ℕ) (at len a3 a4 a5 : ℕ) : Type 0 where
    pub named : register ys 10 ≡ bits unit
    pub call : register ys 17 ≡ 3
    pub place : register ys 11 ≡ at
    pub size : register ys 12 ≡ len
    pub first : register ys 13 ≡ a3
    pub second : register ys 14 ≡ a4
    pub third : register ys 15 ≡ a5

  module _ {code : List Instr} {k : ℕ} {ws : Writes} (b : Begins image last g code u s) (p : Reaches b.code k k ws s.memory) (call : slice_get code k ≡ Some Ecall) (behind : drop (k + 1) code ≡ I Addi (home to) 10 (pos 0) ∷ []) (size : length code ≡ k + 2) (temporary : are is_temporary ws ≡ true) (le : k + 2 ≤ 11) where
    prints : (t : Text) (v : Values) (at len a3 a4 a5 : ℕ) → HasOperands (written s.registers ws) at len a3 a4 a5 → IsText t at len → AreValues v a3 a4 a5 → goal true (k + 2) 3 t v
    prints t v at len a3 a4 a5 h is are =
        let ys = written s.registers ws in
        let can = writes_call image.constants s.memory ys at len a3 a4 a5 h.call h.place h.size h.first h.second h.third is.brief is.load are.take in
        calls places b unit to_ok p h.named call behind size temporary can true 11 tt le (told_call g 3 t v (unit_held u unit) to u) (λ tape told.
        let is_made =
        prints_made image.constants s.memory ys tape at len a3 a4 a5 h.call h.place h.size h.first h.second h.third
        ∙ ap (λ x. print_on x (values_at image.constants s.memory a3 a4 a5) tape) is.is
        ∙ ap (λ x. print_on (text_of g u t) x tape) are.are in
        answers places b unit to_ok p h.named call behind size temporary can tape (print_on (text_of g u t) (values_of u v) tape) is_made (print_few (text_of g u t) (values_of u v) tape) (ap (λ x. x == 2) h.call) true 11 tt le told)

  -- with a text among the characters
  module _ (at len : ℕ) (at_ok : at < 16) (len_ok : len < 16) (fit : text_fits g u 3 (text.Chars at len) ≡ true) where
    abbrev cw1 : Writes
    cw1 = (10, bits unit) ∷ []

    abbrev cw2 : Writes
    cw2 = (11, bits at) ∷ cw1

    abbrev cw : Writes
    cw = (12, bits len) ∷ cw2

    chars_none : Begins image last g (unit_call_code (text_links g.formats (text.Chars at len)) 3 unit to (text.Chars at len) values.None) u s → goal true 8 3 (text.Chars at len) values.None
    chars_none b =
        let st = b.stands in
        let t = chars_text (legal g.settings.sizes b.settings.layout) st at len at_ok fit in
        let p = straight (start b.code st.file) 6 (Value (bits unit) ∷ Value (bits at) ∷ Value (bits len) ∷ Value 0 ∷ Value 0 ∷ Value 3 ∷ []) (omega arith) (omega arith) (moves_from st unit [] unit_ok refl ▸ moves_from st at cw1 at_ok refl ▸ moves_from st len cw2 len_ok refl ▸ refl ▸ refl ▸ refl ▸ tt) in
        prints b p refl refl refl refl (omega arith) (text.Chars at len) values.None (bits at) (bits len) (register s.registers 13) 0 0 (record { named = p.know.reads 10; call = p.know.reads 17; place = p.know.reads 11; size = p.know.reads 12; first = p.know.reads 13; second = p.know.reads 14; third = p.know.reads 15 }) t (no_values (register s.registers 13))

    chars_words : (count : ℕ) → nat_le count 40 ≡ true → Begins image last g (unit_call_code (text_links g.formats (text.Chars at len)) 3 unit to (text.Chars at len) (values.Words count)) u s → goal true 10 3 (text.Chars at len) (values.Words count)
    chars_words count few b =
        let st = b.stands in
        let l = legal g.settings.sizes b.settings.layout in
        let small = (few_are count few).0 in
        let t = chars_text l st at len at_ok fit in
        let p = straight (start b.code st.file) 8 (Value (bits unit) ∷ Value (bits at) ∷ Value (bits len) ∷ Value FIRST_SCRATCH ∷ Value (FIRST_SCRATCH + 16) ∷ Value count ∷ Value 1 ∷ Value 3 ∷ []) (omega arith) (omega arith) (moves_from st unit [] unit_ok refl ▸ moves_from st at cw1 at_ok refl ▸ moves_from st len cw2 len_ok refl ▸ refl ▸ refl ▸ short_number count small ▸ refl ▸ refl ▸ tt) in
        prints b p refl refl refl refl (omega arith) (text.Chars at len) (values.Words count) (bits at) (bits len) (FIRST_SCRATCH + 16) count 1 (record { named = p.know.reads 10; call = p.know.reads 17; place = p.know.reads 11; size = p.know.reads 12; first = p.know.reads 13; second = p.know.reads 14; third = p.know.reads 15 }) t (some_words l st count few)

    chars_chars : (from long : ℕ) → from < 16 → long < 16 → values_fit u (values.Chars from long) ≡ true → Begins image last g (unit_call_code (text_links g.formats (text.Chars at len)) 3 unit to (text.Chars at len) (values.Chars from long)) u s → goal true 9 3 (text.Chars at len) (values.Chars from long)
    chars_chars from long from_ok long_ok fits b =
        let st = b.stands in
        let l = legal g.settings.sizes b.settings.layout in
        let t = chars_text l st at len at_ok fit in
        let w3 : Writes = (13, bits from) ∷ cw in
        let p = straight (start b.code st.file) 7 (Value (bits unit) ∷ Value (bits at) ∷ Value (bits len) ∷ Value (bits from) ∷ Value (bits long) ∷ Value 0 ∷ Value 3 ∷ []) (omega arith) (omega arith) (moves_from st unit [] unit_ok refl ▸ moves_from st at cw1 at_ok refl ▸ moves_from st len cw2 len_ok refl ▸ moves_from st from cw from_ok refl ▸ moves_from st long w3 long_ok refl ▸ refl ▸ refl ▸ tt) in
        prints b p refl refl refl refl (omega arith) (text.Chars at len) (values.Chars from long) (bits at) (bits len) (bits from) (bits long) 0 (record { named = p.know.reads 10; call = p.know.reads 17; place = p.know.reads 11; size = p.know.reads 12; first = p.know.reads 13; second = p.know.reads 14; third = p.know.reads 15 }) t (some_chars l st from long from_ok fits)

  -- with a format as its text
  module _ (i : ℕ) (words : List ℕ) (is : slice_get g.formats i ≡ Some words) (few : length words ≤ 256) where
    abbrev text_at : ℕ
    text_at = format_place g.formats i

    abbrev text_len : ℕ
    text_len = format_length g.formats i

    abbrev up : ℕ
    up = extended (upper_of text_at * 2 ^ 12)

    abbrev fw : Writes
    fw = (12, text_len) ∷ (11, text_at) ∷ (11, up) ∷ (10, bits unit) ∷ []

    text_len_is : text_len ≡ length words
    text_len_is = ap length (get_or_from_slice_get g.formats i words [] is)

    text_few : text_len ≤ 256
    text_few = omega (arith, text_len_is, few)

    text_near : text_at < 2 ^ 31 - 2 ^ 11
    text_near = omega (arith, format_room image.constants g.formats i words texts is, short)

    ready : IsLegal g.settings.sizes → StandsFor g u s → IsText (text.Format i) text_at text_len
    ready l st = record {
      brief = (let le = text_few in grind arith);
      load = ap (λ k. can_load image.constants s.memory k text_at) text_len_is ∙ format_load image.constants s.memory g.formats i words texts is;
      is = ap (λ k. bytes_at image.constants s.memory k text_at) text_len_is ∙ format_bytes g.settings.sizes u.state.memory s.memory image.constants g.formats i words l st.memory texts is ∙ ap or_nothing (sym is);
    }

    format_none : Begins image last g (unit_call_code (text_links g.formats (text.Format i)) 3 unit to (text.Format i) values.None) u s → goal true 9 3 (text.Format i) values.None
    format_none b =
        let st = b.stands in
        let p = straight (start b.code st.file) 7 (Value (bits unit) ∷ Value up ∷ Value text_at ∷ Value text_len ∷ Value 0 ∷ Value 0 ∷ Value 3 ∷ []) (omega arith) (omega arith) (moves_from st unit [] unit_ok refl ▸ refl ▸ constant_is text_at text_near ▸ short_number text_len text_few ▸ refl ▸ refl ▸ refl ▸ tt) in
        prints b p refl refl refl refl (omega arith) (text.Format i) values.None text_at text_len (register s.registers 13) 0 0 (record { named = p.know.reads 10; call = p.know.reads 17; place = p.know.reads 11; size = p.know.reads 12; first = p.know.reads 13; second = p.know.reads 14; third = p.know.reads 15 }) (ready (legal g.settings.sizes b.settings.layout) st) (no_values (register s.registers 13))

    format_words : (count : ℕ) → nat_le count 40 ≡ true → Begins image last g (unit_call_code (text_links g.formats (text.Format i)) 3 unit to (text.Format i) (values.Words count)) u s → goal true 11 3 (text.Format i) (values.Words count)
    format_words count fit b =
        let st = b.stands in
        let l = legal g.settings.sizes b.settings.layout in
        let small = (few_are count fit).0 in
        let p = straight (start b.code st.file) 9 (Value (bits unit) ∷ Value up ∷ Value text_at ∷ Value text_len ∷ Value FIRST_SCRATCH ∷ Value (FIRST_SCRATCH + 16) ∷ Value count ∷ Value 1 ∷ Value 3 ∷ []) (omega arith) (omega arith) (moves_from st unit [] unit_ok refl ▸ refl ▸ constant_is text_at text_near ▸ short_number text_len text_few ▸ refl ▸ refl ▸ short_number count small ▸ refl ▸ refl ▸ tt) in
        prints b p refl refl refl refl (omega arith) (text.Format i) (values.Words count) text_at text_len (FIRST_SCRATCH + 16) count 1 (record { named = p.know.reads 10; call = p.know.reads 17; place = p.know.reads 11; size = p.know.reads 12; first = p.know.reads 13; second = p.know.reads 14; third = p.know.reads 15 }) (ready l st) (some_words l st count fit)

    format_chars : (from long : ℕ) → from < 16 → long < 16 → values_fit u (values.Chars from long) ≡ true → Begins image last g (unit_call_code (text_links g.formats (text.Format i)) 3 unit to (text.Format i) (values.Chars from long)) u s → goal true 10 3 (text.Format i) (values.Chars from long)
    format_chars from long from_ok long_ok fits b =
        let st = b.stands in
        let l = legal g.settings.sizes b.settings.layout in
        let w4 : Writes = (13, bits from) ∷ fw in
        let p = straight (start b.code st.file) 8 (Value (bits unit) ∷ Value up ∷ Value text_at ∷ Value text_len ∷ Value (bits from) ∷ Value (bits long) ∷ Value 0 ∷ Value 3 ∷ []) (omega arith) (omega arith) (moves_from st unit [] unit_ok refl ▸ refl ▸ constant_is text_at text_near ▸ short_number text_len text_few ▸ moves_from st from fw from_ok refl ▸ moves_from st long w4 long_ok refl ▸ refl ▸ refl ▸ tt) in
        prints b p refl refl refl refl (omega arith) (text.Format i) (values.Chars from long) text_at text_len (bits from) (bits long) 0 (record { named = p.know.reads 10; call = p.know.reads 17; place = p.know.reads 11; size = p.know.reads 12; first = p.know.reads 13; second = p.know.reads 14; third = p.know.reads 15 }) (ready l st) (some_chars l st from long from_ok fits)

  -- ---- all of them

  abbrev Makes : ℕ → Text → Values → Type 0
  Makes call t v = Does image last g places (not (is_quiet (UnitCall call unit to t v))) 11 (s.pc + 4 * (text_length t + values_length v + 4)) s (made call t v)

  abbrev Stands : ℕ → Text → Values → Type 0
  Stands call t v = Begins image last g (unit_call_code (text_links g.formats t) call unit to t v) u s

  by_chars : (at len : ℕ) (v : Values) → (at < 16) × (len < 16) → IsTrue (are_values v) → text_fits g u 3 (text.Chars at len) ≡ true → values_fit u v ≡ true → Stands 3 (text.Chars at len) v → Makes 3 (text.Chars at len) v
  by_chars at len values.None r rv fit fits b = chars_none at len r.0 r.1 fit b
  by_chars at len (values.Words count) r rv fit fits b = chars_words at len r.0 r.1 fit count rv b
  by_chars at len (values.Chars from long) r rv fit fits b = let two = two_registers from long rv in chars_chars at len r.0 r.1 fit from long two.0 two.1 fits b

  by_format : (i : ℕ) (v : Values) → IsTrue (are_values v) → text_fits g u 3 (text.Format i) ≡ true → values_fit u v ≡ true → Stands 3 (text.Format i) v → Makes 3 (text.Format i) v
  by_format i values.None rv fit fits b = let f = format_of (slice_get g.formats i) fit in format_none i f.0 f.1 f.2 b
  by_format i (values.Words count) rv fit fits b = let f = format_of (slice_get g.formats i) fit in format_words i f.0 f.1 f.2 count rv b
  by_format i (values.Chars from long) rv fit fits b =
      let f = format_of (slice_get g.formats i) fit in
      let two = two_registers from long rv in
      format_chars i f.0 f.1 f.2 from long two.0 two.1 fits b

  by_other : (call : ℕ) (t : Text) (v : Values) → (call ≡ 4) ⊎ (call ≡ 5) ⊎ (call ≡ 6) → (change : TapeState → TapeState) → ((ys : List ℕ) (t : TapeState) → made_of image.constants s.memory ys t call ≡ moved change t) → ((t : TapeState) → told_call g call text.None values.None (unit_held u unit) to u t ≡ answered (unit_held u unit) to u (moved change t)) → (has_no_text t && has_no_values v) ≡ true → Stands call t v → Does image last g places false 11 (s.pc + 4 * (text_length t + values_length v + 4)) s (made call t v)
  by_other call text.None values.None which change same told none b = other_call call which change same told b
  by_other call text.None (values.Words n) which change same told none b = absurd cc
  by_other call text.None (values.Chars at len) which change same told none b = absurd cc
  by_other call (text.Format i) v which change same told none b = absurd cc
  by_other call (text.Chars at len) v which change same told none b = absurd cc

  makes : (call : ℕ) (t : Text) (v : Values) → is_call call t v ≡ true → text_fits g u call t ≡ true → values_fit u v ≡ true → Stands call t v → Makes call t v
  makes zero t v is fit fits b = absurd cc
  makes (suc zero) t v is fit fits b = absurd cc
  makes (suc (suc zero)) text.None v is fit fits b = absurd cc
  makes (suc (suc zero)) (text.Format i) v is fit fits b = absurd cc
  makes (suc (suc zero)) (text.Chars at len) values.None is fit fits b = let r = (call_rules 2 (text.Chars at len) values.None is).0 in call_2 at len r.0 r.1 fit b
  makes (suc (suc zero)) (text.Chars at len) (values.Words n) is fit fits b = absurd (no_more (has_place (text.Chars at len)) is)
  makes (suc (suc zero)) (text.Chars at len) (values.Chars from long) is fit fits b = absurd (no_more (has_place (text.Chars at len)) is)
  makes (suc (suc (suc zero))) text.None v is fit fits b = absurd cc
  makes (suc (suc (suc zero))) (text.Format i) v is fit fits b = by_format i v is fit fits b
  makes (suc (suc (suc zero))) (text.Chars at len) v is fit fits b = let r = call_rules 3 (text.Chars at len) v is in by_chars at len v r.0 r.1 fit fits b
  makes (suc (suc (suc (suc zero)))) t v is fit fits b = by_other 4 t v (inl refl) rewound (λ ys tape. refl) (λ tape. refl) is b
  makes (suc (suc (suc (suc (suc zero))))) t v is fit fits b = by_other 5 t v (inr (inl refl)) backspaced (λ ys tape. refl) (λ tape. refl) is b
  makes (suc (suc (suc (suc (suc (suc zero)))))) t v is fit fits b = by_other 6 t v (inr (inr refl)) ended (λ ys tape. refl) (λ tape. refl) is b
  makes (suc (suc (suc (suc (suc (suc (suc n))))))) t v is fit fits b = absurd cc

fits_of : (g : Setting) (u : Micro) (call : ℕ) (t : Text) (v : Values) → can_call g u call t v ≡ true → (text_fits g u call t ≡ true) × (values_fit u v ≡ true)
unfolding can_call
fits_of g u call t v e = both_true (text_fits g u call t) (values_fit u v) e

pub calls_units : LawOfUnitCall
calls_units image last g places call unit to t v u s ok texts short b = by (can_call g u call t v) refl
  where
    by : (x : Bool) → can_call g u call t v ≡ x → Does image last g places (not (is_quiet (UnitCall call unit to t v))) 11 (s.pc + 4 * (text_length t + values_length v + 4)) s (call_if x (unit_held u unit) to u (told_call g call t v (unit_held u unit) to u))
    by false e = tt
    by true e =
        let all = three_true (is_register unit) (is_register to) (is_call call t v) ok in
        let two = fits_of g u call t v e in
        makes image last g places unit to u s (register_rule unit all.0) (register_rule to all.1) texts short call t v all.2 two.0 two.1 b
