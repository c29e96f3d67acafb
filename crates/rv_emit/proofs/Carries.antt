-- An image of emitted words carries the operations out.
use Rattle.std.proofs.Common.{◌≡◌, ℕ, ◌+◌, ◌-◌, ◌*◌, ◌/◌, ◌^◌, ◌<◌, ◌≤◌, length, map, get_or, Some, Bool, true, false, cond, ◌==◌, refl, sym, ap, subst, ◌∙◌, arith}
use Rattle.std.proofs.lemmas.List.{get_or_past, length-map}
use Rattle.std.proofs.lemmas.Nat.{mul-le}
use Rattle.std.proofs.lemmas.Option.{get_or_from_slice_get, same_Some}
use Rattle.std.specs.Prelude.{sum_by}
use Rattle.sil_base.specs.declared.limits.TheConstants.{MAX_STEPS, STATEMENT_INSTRUCTIONS}
use Rattle.sil_base.specs.declared.places.TheConstants.{FIRST_WORD}
use Rattle.unit_io.specs.Tapes.{Tapes}
use Rattle.layout_params.specs.Areas.{hidden_cells}
use Rattle.layout_params.specs.Parameters.{Settings}
use Rattle.layout_params.proofs.LegalLayouts.{legal}
use Rattle.sil_micro.specs.Codes.{MicroCode, entry_of, place_of}
use Rattle.image_file.specs.Image.{Image}
use Rattle.rv_emulate.specs.declared.end.CpuEnd.TheVariants.{Undefined}
use Rattle.rv_emulate.specs.EmulatorRuns.{entry_at}
use Rattle.rv_emulate.specs.EmulatorStates.{State, Ended, start}
use Rattle.rv_straight.specs.Code.{IsNext}
use Rattle.rv_straight.specs.Registers.{IsFile}
use Rattle.rv_straight.specs.InstalledWays.{Comes}
use Rattle.rv_straight.proofs.Leaps.{code_at}
use Rattle.rv_operations.specs.Ops.{length_of}
use Rattle.rv_emit.specs.Carries.{HasRegions, Starts}
use Rattle.rv_emit.specs.Code.{first_op, last_place, op_place, place_from, ops_code, past_code, stack_top, start_code}
use Rattle.rv_emit.specs.Emits.{LawOfEmission}
use Rattle.rv_emit.specs.StatementPlaces.{place}
use Rattle.rv_emit.proofs.Sums.{take_all}
use Rattle.rv_emit.proofs.Placed.{last_near}
use Rattle.rv_emit.proofs.RoutineWords.{start_words, past_words}
use Rattle.rv_emit.proofs.WholeParts.{start_here, past_here}
use Rattle.rv_emit.proofs.OpParts.{ops_long}
use Rattle.rv_emit.proofs.Images.{IsEmitted, count, entry_within, place_by_entry, statement_there}
use Rattle.rv_emit.proofs.Free.{free_before, free_at, free_past, last_apart, statement_place}
use Rattle.rv_emit.proofs.Standing.{part_stands, apart}
use Rattle.rv_emit.proofs.Targets.{statement_near}
use Rattle.rv_emit.proofs.Start.{starts}
use Rattle.rv_emit.proofs.Past.{ends_past}
use Rattle.rv_emit.proofs.Carrying.{does}

not_below : (k n : ℕ) → (k == n) ≡ true → n ≤ k
not_below k n e = grind arith

module _ {image : Image} {settings : Settings} {c : MicroCode} (em : IsEmitted image settings c) where
  abbrev last : ℕ
  last = last_place settings c

  abbrev at : ℕ → ℕ
  at k = place_from settings c (place_of c k)

  -- ---- statements

  statement_is : (k q : ℕ) → entry_of c k ≡ Some q → get_or (map (λ e. e.place) image.statements) k last ≡ op_place settings c q
  statement_is k q e =
      let there = statement_there em k (entry_within c k q e) in
      let same = same_Some there.2.op q (sym there.2.entry ∙ e) in
      get_or_from_slice_get (map (λ e. e.place) image.statements) k there.0 last there.1 ∙ there.2.place ∙ ap (op_place settings c) same

  entries : (k : ℕ) → k < length c.entries → entry_at image.statements (at k) ≡ Some k
  entries k lt =
      let there = statement_there em k lt in
      let same : there.0 ≡ at k = there.2.place ∙ sym (ap (place_from settings c) (place_by_entry c k lt ∙ there.2.entry)) in
      subst (λ p. entry_at image.statements p ≡ Some k) same (statement_place em k there.0 there.1)

  beyond : (k : ℕ) → length c.entries ≤ k → place image last k ≡ last
  beyond k le = get_or_past (map (λ e. e.place) image.statements) k last (omega (arith, length-map image.statements (λ e. e.place), count em))

  places_by : (k q : ℕ) (b : Bool) → (k == length c.entries) ≡ b → cond b (Some (length c.ops)) (entry_of c k) ≡ Some q → op_place settings c q ≡ place image last k
  places_by k q true is e =
      let all = not_below k (length c.entries) is in
      sym (beyond k all ∙ ap (op_place settings c) (same_Some (length c.ops) q e))
  places_by k q false is e = sym (statement_is k q e)

  -- ---- the start

  top_small : stack_top settings c < 2 ^ 31 - 2 ^ 11
  top_small =
      let before = c.static_cells + hidden_cells settings + settings.dynamic_size in
      let l = legal settings.sizes em.can.legal.layout in
      let h = mul-le before settings.sizes.descr (2 ^ 20) 64 (omega (arith, em.can.cells)) l.most in
      omega arith

  begins : (tapes : Tapes) (n : ℕ) → n ≤ MAX_STEPS → HasRegions image → Starts image last (at 0) (stack_top settings c) tapes n
  unfolding start
  begins tapes n few regions =
      let code = start_code (stack_top settings c) (at 0) in
      let here = apart em 0 FIRST_WORD code (start_here settings c) (start_words (stack_top settings c) (at 0) top_small) (omega arith) (omega arith) (omega arith) in
      let near = statement_near em 0 (omega arith) in
      starts image last (stack_top settings c) (at 0) tapes n (omega arith) regions (code_at here (start image tapes n) refl) top_small near.0 near.1

  -- ---- the end

  last_is : FIRST_WORD + 4 * (217 + 2 * (settings.sizes.descr / 8) + 4 * length c.entries + length (ops_code settings c (first_op settings.sizes.descr (length c.entries)) c.ops)) ≡ last
  unfolding op_place
  last_is =
      let long = ops_long settings c (first_op settings.sizes.descr (length c.entries)) c.ops in
      let all = ap (λ ops. sum_by (length_of settings c.static_cells) ops) (take_all c.ops) in
      omega arith

  past : (s : State) → IsFile s.registers → s.pc ≡ last → Comes image last false STATEMENT_INSTRUCTIONS s (Ended (Some (Undefined (length c.entries))) s.tapes)
  past s file pc =
      let code = past_code (length c.entries) in
      let k = 217 + 2 * (settings.sizes.descr / 8) + 4 * length c.entries + length (ops_code settings c (first_op settings.sizes.descr (length c.entries)) c.ops) in
      let stands = part_stands em k s.pc code (past_here settings c) (past_words (length c.entries) em.can.whole.few) (last_is ∙ sym pc) in
      let near = last_near settings c em.can in
      let next : IsNext image last s code = record { stands = stands; free = λ q low high. free_past em q (omega arith); low = omega arith } in
      ends_past image last (length c.entries) s next file em.can.whole.few (omega (arith, count em))

pub carries : LawOfEmission
carries settings c can numbers image settings_are words constants places =
    let em : IsEmitted image settings c = record { can = can; numbers = numbers; settings_are = settings_are; words = words; constants = constants; places = places } in
    record {
      count = count em;
      entries = λ k lt. entries em k lt;
      places = λ k q e. places_by em k q (k == length c.entries) refl e;
      beyond = λ k le. beyond em k le;
      between = λ q op e other. free_at em q op e other;
      last_apart = last_apart em;
      first_apart = free_before em FIRST_WORD (omega arith);
      does = λ n q op u s few e st pc known. does em n few q op u s e st pc known;
      begins = λ tapes n few regions. begins em tapes n few regions;
      past = λ s file pc. past em s file pc;
    }
