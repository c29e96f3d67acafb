-- The shared routines stand in an image of a code.
use Rattle.std.proofs.Common.{◌≡◌, ℕ, ◌+◌, ◌*◌, ◌/◌, ◌<◌, ◌≤◌, inl, inr, length, Option, Some, subst, arith}
use Rattle.layout_params.specs.Areas.{all_cells}
use Rattle.layout_params.specs.declared.cell.Field.TheVariants.{F, V}
use Rattle.layout_params.specs.Parameters.{Settings}
use Rattle.layout_params.specs.Sizes.{Sizes}
use Rattle.layout_params.proofs.LegalLayouts.{IsLegal, legal}
use Rattle.sil_base.specs.declared.places.TheConstants.{FIRST_WORD}
use Rattle.sil_micro.specs.Codes.{MicroCode, place_of, setting_of}
use Rattle.sil_micro.specs.Operations.{scratch_words}
use Rattle.image_file.specs.Image.{Image}
use Rattle.rv_straight.specs.Code.{IsApart}
use Rattle.rv_straight.specs.Jumps.{leap_code}
use Rattle.rv_routines.specs.RoutineCodes.{check_code, check_routine, fit_code, fit_routine, open_code, open_routine, char_code, char_routine, word_code, word_routine, below_code, below_routine, make_code, make_routine, kind_code, kind_routine, state_code, state_routine}
use Rattle.rv_routines.specs.FieldCodes.{bits_of}
use Rattle.rv_routines.proofs.Checking.{checks}
use Rattle.rv_routines.proofs.Fitting.{fits}
use Rattle.rv_routines.proofs.Opening.{opens}
use Rattle.rv_routines.proofs.Characters.{characters, words}
use Rattle.rv_routines.proofs.Making.{makes}
use Rattle.rv_routines.proofs.Below.{below}
use Rattle.rv_routines.proofs.KindBytes.{sets_kind}
use Rattle.rv_routines.proofs.StateWords.{sets_state}
use Rattle.rv_operations.specs.declared.places.Routines.{Routines}
use Rattle.rv_operations.specs.Ops.{IsNear}
use Rattle.rv_operations.specs.StandingRoutines.{HasRoutines}
use Rattle.rv_operations.specs.Switch.{led, switch_code, IsSwitch}
use Rattle.rv_operations.proofs.Switching.{switches}
use Rattle.rv_emit.specs.Code.{first_op, last_place, place_from, places_of, routines_at, table_code}
use Rattle.rv_emit.proofs.Lengths.{make_long, kind_long}
use Rattle.rv_emit.proofs.RoutineWords.{check_words, fit_words, open_words, char_words, word_words, below_words, make_words, kind_words, state_words, switch_words, leap_words}
use Rattle.rv_emit.proofs.Targets.{entry_near, return_near}
use Rattle.rv_emit.proofs.Parted.{IsPart}
use Rattle.rv_emit.proofs.WholeParts.{code, check_here, fit_f_here, fit_v_here, open_here, char_here, word_here, below_scratch_here, below_cells_here, below_state_here, state_here, make_here, kind_here, entry_here, entry_table_here, return_here, return_table_here}
use Rattle.rv_emit.proofs.OpParts.{leap_part}
use Rattle.rv_emit.proofs.Images.{IsEmitted}
use Rattle.rv_emit.proofs.Standing.{apart}

f_bits : (s : Sizes) → IsLegal s → bits_of s F < 64
f_bits s l = elim l.f_width [ inl e ↦ omega arith | inr (inl e) ↦ omega arith | inr (inr e) ↦ omega arith ]

v_bits : (s : Sizes) → bits_of s V < 64
v_bits s = omega arith

module _ {image : Image} {settings : Settings} {c : MicroCode} (em : IsEmitted image settings c) where
  abbrev d : ℕ
  d = settings.sizes.descr

  abbrev e : ℕ
  e = settings.sizes.descr / 8

  abbrev n : ℕ
  n = all_cells settings c.static_cells

  abbrev count : ℕ
  count = length c.entries

  abbrev last : ℕ
  last = last_place settings c

  abbrev r : Routines
  r = routines_at settings.sizes.descr (length c.entries)

  abbrev f : ℕ
  f = bits_of settings.sizes F

  abbrev v : ℕ
  v = bits_of settings.sizes V

  l : IsLegal settings.sizes
  l = legal settings.sizes em.can.legal.layout

  -- ---- those that come back

  check_at : IsApart image last r.check (check_code d n)
  unfolding check_routine
  check_at = apart em 7 r.check (check_code d n) (check_here settings c) (check_words d n l.most em.can.cells) (omega arith) (omega arith) (omega arith)

  fit_f_at : IsApart image last r.fit_f (fit_code f d n)
  unfolding fit_routine
  fit_f_at = apart em 24 r.fit_f (fit_code f d n) (fit_f_here settings c) (fit_words d n l.most em.can.cells f (f_bits settings.sizes l)) (omega arith) (omega arith) (omega arith)

  fit_v_at : IsApart image last r.fit_v (fit_code v d n)
  unfolding fit_routine
  fit_v_at = apart em 43 r.fit_v (fit_code v d n) (fit_v_here settings c) (fit_words d n l.most em.can.cells v (v_bits settings.sizes)) (omega arith) (omega arith) (omega arith)

  open_at : IsApart image last r.open_cell (open_code f v d n)
  unfolding open_routine
  open_at = apart em 62 r.open_cell (open_code f v d n) (open_here settings c) (open_words d n l.most em.can.cells f v (f_bits settings.sizes l) (v_bits settings.sizes)) (omega arith) (omega arith) (omega arith)

  chars_at : IsApart image last r.chars (char_code d n)
  unfolding char_routine
  chars_at = apart em 82 r.chars (char_code d n) (char_here settings c) (char_words d n l.most em.can.cells) (omega arith) (omega arith) (omega arith)

  word_at : IsApart image last r.word (word_code d n)
  unfolding word_routine
  word_at = apart em 97 r.word (word_code d n) (word_here settings c) (word_words d n l.most em.can.cells) (omega arith) (omega arith) (omega arith)

  below_scratch_at : IsApart image last r.below_scratch (below_code scratch_words)
  unfolding below_routine
  below_scratch_at = apart em 114 r.below_scratch (below_code scratch_words) (below_scratch_here settings c) (below_words scratch_words (omega arith)) (omega arith) (omega arith) (omega arith)

  below_cells_at : IsApart image last r.below_cells (below_code n)
  unfolding below_routine
  below_cells_at = apart em 121 r.below_cells (below_code n) (below_cells_here settings c) (below_words n em.can.cells) (omega arith) (omega arith) (omega arith)

  below_state_at : IsApart image last r.below_state (below_code 3)
  unfolding below_routine
  below_state_at = apart em 128 r.below_state (below_code 3) (below_state_here settings c) (below_words 3 (omega arith)) (omega arith) (omega arith) (omega arith)

  state_at : IsApart image last r.state state_code
  unfolding state_routine
  state_at = apart em 135 r.state state_code (state_here settings c) state_words (omega arith) (omega arith) (omega arith)

  make_at : IsApart image last r.make (make_code d n)
  unfolding make_routine
  make_at = apart em 149 r.make (make_code d n) (make_here settings c) (make_words d n l.most em.can.cells) (omega arith) (omega arith) (omega (arith, make_long d n))

  kind_at : IsApart image last r.kind (kind_code d n)
  unfolding kind_routine
  kind_at = apart em (169 + e) r.kind (kind_code d n) (kind_here settings c) (kind_words d n l.most em.can.cells) (omega arith) (omega arith) (omega (arith, kind_long d n))

  -- ---- the routines that jump by an entry

  has_switch : (k routine : ℕ) (places : ℕ → Option ℕ) → IsApart image last routine (switch_code d count routine (routine + 64)) → FIRST_WORD + 4 * k ≡ routine + 64 → routine + 64 + 8 * count ≤ first_op d count → IsPart (code settings c) k (table_code routine places (routine + 64) 0 count) → ((i to : ℕ) → i < count → places i ≡ Some to → IsNear to) → IsSwitch image last d count routine places
  has_switch k routine places here at table_end part nears =
      switches image last d count routine (routine + 64) places l.least l.most em.can.whole.few
      (record {
        routine = here;
        entries = λ i lt. jump i lt;
        near = nears;
        table_near = omega (arith, here.low);
        table_even = omega (arith, here.even);
      })
    where
      jump : (i : ℕ) → i < count → IsApart image last (routine + 64 + 8 * i) (leap_code 28 0 (routine + 64 + 8 * i) (led routine (places i)))
      jump i lt =
          let z : 0 + i ≡ i = omega arith in
          let p = subst (λ j. IsPart (code settings c) (k + 2 * i) (leap_code 28 0 (routine + 64 + 8 * i) (led routine (places j)))) z (leap_part (code settings c) routine places k (routine + 64) 0 count i lt part) in
          apart em (k + 2 * i) (routine + 64 + 8 * i) (leap_code 28 0 (routine + 64 + 8 * i) (led routine (places i))) p (leap_words (routine + 64 + 8 * i) (led routine (places i))) (omega arith) (omega arith) (omega arith)

  entry_at : IsSwitch image last d count r.entry (λ k. Some (place_from settings c (place_of c k)))
  entry_at =
      let code = switch_code d count r.entry (r.entry + 64) in
      let here = apart em (185 + 2 * e) r.entry code (entry_here settings c) (switch_words d count r.entry l.most em.can.whole.few) (omega arith) (omega arith) (omega arith) in
      has_switch (201 + 2 * e) r.entry (λ k. Some (place_from settings c (place_of c k))) here (omega arith) (omega arith) (entry_table_here settings c) (λ i to lt h. entry_near em i to lt h)

  return_at : IsSwitch image last d count r.return_part (places_of settings c).returns
  return_at =
      let code = switch_code d count r.return_part (r.return_part + 64) in
      let here = apart em (201 + 2 * e + 2 * count) r.return_part code (return_here settings c) (switch_words d count r.return_part l.most em.can.whole.few) (omega arith) (omega arith) (omega arith) in
      has_switch (217 + 2 * e + 2 * count) r.return_part (places_of settings c).returns here (omega arith) (omega arith) (return_table_here settings c) (λ i to lt h. return_near em i to h)

  -- ---- all of them

  pub has_routines : (bound : ℕ) → HasRoutines image last (setting_of c settings bound) (places_of settings c)
  has_routines bound =
      let s = settings.sizes in
      let ok = em.can.legal.layout in
      record {
        check = checks image last s n r.check ok check_at;
        fit_f = fits image last s n r.fit_f f ok (f_bits s l) fit_f_at;
        fit_v = fits image last s n r.fit_v v ok (v_bits s) fit_v_at;
        open_cell = opens image last s n r.open_cell f v ok (f_bits s l) (v_bits s) open_at;
        chars = characters image last s n r.chars ok chars_at;
        word = words image last s n r.word ok word_at;
        make = makes image last s n r.make ok make_at;
        kind = sets_kind image last s n r.kind ok kind_at;
        state = sets_state image last s n r.state state_at;
        below_scratch = below image last s n r.below_scratch scratch_words (omega arith) below_scratch_at;
        below_cells = below image last s n r.below_cells n (omega (arith, em.can.cells)) below_cells_at;
        below_state = below image last s n r.below_state 3 (omega arith) below_state_at;
        entry = entry_at;
        return_part = return_at;
      }
