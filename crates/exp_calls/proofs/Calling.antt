-- A call: its frame and its arguments go onto the stack, and the procedure follows.
use Rattle.std.proofs.Common.{◌≡◌, ℕ, ◌+◌, ◌*◌, ◌^◌, ◌<◌, ◌≤◌, List, ◌∷◌, length, Option, true, false, refl, sym, ap, ◌∙◌, subst, arith}
use Rattle.std.proofs.Math.Nat.{mul-le-mul_left}
use Rattle.std.specs.Prelude.{All, ℤ, pos, IfSome, int_lt, nat_lt, if◌then◌else◌}
use Rattle.sil_base.specs.declared.places.TheConstants.{FIRST_ENTRY}
use Rattle.sil_macros.specs.declared.names.Macro.TheVariants.{Rcall}
use Rattle.sil_model.specs.declared.program.Arg.{Arg}
use Rattle.sil_model.specs.declared.program.Flow.TheVariants.{To}
use Rattle.sil_model.specs.declared.program.Specials.{Specials}
use Rattle.sil_model.specs.Access.{◌>>=◌, integer_alone}
use Rattle.flow_clauses.specs.CallClauses.{entry_of, rcall}
use Rattle.flow_clauses.specs.FlowTable.{flow_visits}
use Rattle.sil_model.specs.OperandCounts.{listed}
use Rattle.sil_model.specs.Effects.{Effect, goes}
use Rattle.sil_model.specs.Integers.{◌⊞◌, wrapped_sum, wrapped_product}
use Rattle.sil_model.specs.Lists.{all_read, all_written}
use Rattle.sil_model.specs.Settling.{settle}
use Rattle.sil_model.specs.Memory.{Memory, IsMemory}
use Rattle.sil_model.specs.Sites.{Site}
use Rattle.flow_clauses.specs.StackClauses.{above, cells_above, summit, to_special}
use Rattle.sil_model.specs.States.{State}
use Rattle.sil_micro.specs.declared.op.Op.{Op}
use Rattle.sil_micro.specs.Expands.{Does, IsPiece, Makes, at, cost_at, site_at}
use Rattle.sil_micro.specs.MicroStates.{Setting, Micro, Registers}
use Rattle.sil_micro.specs.Pieces.{joined, is_part}
use Rattle.sil_micro.proofs.Making.{more, by_way, then_part}
use Rattle.sil_micro.proofs.Parts.{length_joined, part_joined}
use Rattle.exp_common.specs.Locations.{IsAmong}
use Rattle.exp_stack.specs.ListParts.{gather_code, guard_code, line_code, places_code, scatter_code, up_head}
use Rattle.exp_stack.proofs.Arithmetic.{add_pos, times_size}
use Rattle.exp_common.proofs.JoinedParts.{IsPart, both_parts, whole_piece}
use Rattle.exp_stack.proofs.ScratchWords.{HoldsAt, holds_below}
use Rattle.exp_stack.proofs.StackPlaces.{last_of, last_is}
use Rattle.exp_stack.proofs.Starts.{begun_at, up_first, up_goes, after_up, guard_goes, guard_inside, guard_light, guard_part, guard_weight}
use Rattle.exp_stack.proofs.AddressLists.{places_go, line_goes, places_part, line_part, line_length}
use Rattle.exp_stack.proofs.GatherLoop.{gather_goes, gather_part}
use Rattle.exp_stack.proofs.ScatterLoop.{scatter_goes, scatter_part}
use Rattle.exp_calls.specs.CallHalves.{DoesAnswer, answer}
use Rattle.exp_calls.specs.CallOperands.{IsCall}
use Rattle.exp_calls.specs.CallParts.{call_code, enter_code, frame_code, return_code}
use Rattle.exp_calls.proofs.Answering.{given_light, given_weight, return_does, return_inside, return_part}
use Rattle.exp_calls.proofs.Framing.{enter_part, frame_gathered, frame_part, framed, framed_values}
use Rattle.exp_calls.proofs.Grouping.{regrouped}

module _ (k : ℕ) (over : Option ℕ) (procedure : ℕ) (ds : List ℤ) (d : Option ℤ) (ls : List (Option ℕ)) where
  abbrev back : List Op
  back = return_code d k ls

  -- the parts from the end on
  abbrev code1 : List Op
  code1 = joined (enter_code procedure) back

  abbrev code2 : List Op
  code2 = joined (scatter_code (2 + length ds)) code1

  abbrev code3 : List Op
  code3 = joined (gather_code 206 (length ds)) code2

  abbrev code4 : List Op
  code4 = joined (frame_code k) code3

  abbrev code5 : List Op
  code5 = joined (line_code 100 (2 + length ds)) code4

  abbrev code6 : List Op
  code6 = joined (places_code 0 ds) code5

  abbrev code7 : List Op
  code7 = joined (guard_code over) code6

  abbrev code8 : List Op
  code8 = joined (up_head k (2 + length ds)) code7

  -- the call's own part, and behind it the return part
  abbrev pub rcall_code : List Op
  rcall_code = joined (call_code k over procedure ds) back

  grouped : code8 ≡ rcall_code
  grouped =
      regrouped (up_head k (2 + length ds)) _ code7 back
      (regrouped (guard_code over) _ code6 back
      (regrouped (places_code 0 ds) _ code5 back
      (regrouped (line_code 100 (2 + length ds)) _ code4 back
      (regrouped (frame_code k) _ code3 back
      (regrouped (gather_code 206 (length ds)) _ code2 back
      (regrouped (scatter_code (2 + length ds)) (enter_code procedure) code1 back refl))))))

  -- ---- what holds of their operations

  rest_part : (statements formats : ℕ) → k < statements → procedure < statements → IfSome over (λ place. place < statements) → All (IsAmong statements) ls →
      IsPart statements formats (guard_weight over + (44 * length ds + (84 + (276 + (276 + (220 + (92 + (given_weight d + 16 * length ls)))))))) code7
  rest_part statements formats lt lt' among located =
      both_parts (guard_part statements formats over among)
      (both_parts (places_part statements formats 0 ds)
      (both_parts (line_part statements formats 100 (2 + length ds))
      (both_parts (frame_part statements formats k)
      (both_parts (gather_part statements formats 206 (length ds))
      (both_parts (scatter_part statements formats (2 + length ds))
      (both_parts (enter_part statements formats procedure lt') (return_part statements formats d k ls lt located)))))))

  pub rcall_piece : (statements formats : ℕ) → k < statements → procedure < statements → IfSome over (λ place. place < statements) → All (IsAmong statements) ls → length ds ≤ 40 → length ls ≤ 40 → IsPiece k statements formats false rcall_code
  rcall_piece statements formats lt lt' among located few few' =
      subst (IsPiece k statements formats false) grouped
      (whole_piece (up_first k statements formats (2 + length ds)) (rest_part statements formats lt lt' among located) (omega (arith, guard_light over, given_light d, few, few')))

  -- ---- the return part

  pub rcall_answers : (args : List Arg) → IsCall args d procedure ds ls → length ls ≤ 40 → DoesAnswer k rcall_code (length (call_code k over procedure ds)) args
  unfolding up_head
  rcall_answers args is few = record {
    behind = omega (arith, length_joined (up_head k (2 + length ds)) (joined (guard_code over) (joined (places_code 0 ds) (joined (line_code 100 (2 + length ds)) (joined (frame_code k) (joined (gather_code 206 (length ds)) (joined (scatter_code (2 + length ds)) (enter_code procedure))))))));
    within = omega (arith, length_joined (call_code k over procedure ds) back);
    does = λ g u v.
        let front = call_code k over procedure ds in
        let same : length front + 0 ≡ length front = omega arith in
        subst (λ i. Makes g (k + 1) rcall_code i u (answer args k u.registers.r1 u.registers.r2 u.registers.r3 u.state) (u.spent + 1200)) same
        (then_part front (return_inside d k ls) (omega arith) (return_does g k args d ls u is.descriptor_is is.locations_are few v));
  }

  -- ---- the call's own part

  -- the effect where there is room
  abbrev entering : Site → State → Effect
  entering site s =
      all_read s.memory ds >>= (λ values. all_written s.memory (cells_above s (2 + length ds)) (integer_alone s.previous ∷ integer_alone (pos (entry_of site site.statement)) ∷ values)
      >>= (λ m. goes (To procedure) (record s { memory = m; current = above s.memory s.current (2 + length ds); previous = s.current })))

  rcall_is : (site : Site) (s : State) → IsCall site.args d procedure ds ls →
      (if int_lt (summit site) (above s.memory s.current (2 + length ds)) then to_special site.program.specials.over s else entering site s) ≡ rcall site s
  unfolding rcall
  rcall_is site s is = let e = is.procedure_is in let e' = is.places_are in simp (e, e') refl

  inside1 : is_part code1 ≡ true
  inside1 = part_joined (enter_code procedure) back (enter_part (procedure + 1) 0 procedure (omega arith)).part (return_inside d k ls)

  inside2 : is_part code2 ≡ true
  inside2 = part_joined (scatter_code (2 + length ds)) code1 (scatter_part 0 0 (2 + length ds)).part inside1

  inside3 : is_part code3 ≡ true
  inside3 = part_joined (gather_code 206 (length ds)) code2 (gather_part 0 0 206 (length ds)).part inside2

  inside4 : is_part code4 ≡ true
  inside4 = part_joined (frame_code k) code3 (frame_part 0 0 k).part inside3

  inside5 : is_part code5 ≡ true
  inside5 = part_joined (line_code 100 (2 + length ds)) code4 (line_part 0 0 100 (2 + length ds)).part inside4

  inside6 : is_part code6 ≡ true
  inside6 = part_joined (places_code 0 ds) code5 (places_part 0 0 0 ds).part inside5

  module _ (g : Setting) (u : Micro) where
    abbrev m : Memory
    m = u.state.memory

    abbrev before : State
    before = at k u.state

    abbrev size : ℕ
    size = u.state.memory.limits.cell_size

    abbrev top : ℤ
    top = above m u.state.current (2 + length ds)

    abbrev targets : List ℤ
    targets = cells_above before (2 + length ds)

    abbrev entry : ℤ
    entry = pos (FIRST_ENTRY + k * size)

    abbrev go : Memory → Effect
    go m' = goes (To procedure) (record before { memory = m'; current = top; previous = u.state.current })

    -- the effect where there is room, with the entry as operations compute it
    abbrev entered : ℕ → Effect
    entered n = all_read m ds >>= (λ values. all_written m targets (integer_alone u.state.previous ∷ integer_alone (pos (FIRST_ENTRY + k * n)) ∷ values) >>= go)

    abbrev in_frame : Registers → Option ℕ → ℕ → ℤ → ℤ → (ℕ → ℤ) → ℕ → Micro
    in_frame r failed i y at' words w = record {
      state = begun_at k u.state;
      registers = record r { r1 = pos i; r2 = y; r3 = pos 0; r4 = pos 0; r5 = pos 1; r10 = at'; r11 = pos size; r12 = top };
      scratch = words;
      failed = failed;
      spent = w;
    }

    -- from the frame on, where the words hold the addresses
    frame_goes : (r : Registers) (failed : Option ℕ) (cost i : ℕ) (y at' : ℤ) (words : ℕ → ℤ) (w : ℕ) →
        IsMemory m → k < 2 ^ 32 → length ds ≤ 40 → HoldsAt words 0 ds → HoldsAt words 100 targets → w + 460 * length ds + 832 ≤ cost →
        Makes g (k + 1) code4 0 (in_frame r failed i y at' words w) (settle before (entered size)) cost
    unfolding frame_code enter_code
    frame_goes r failed cost i y at' words w v named few held held' pays =
        let count = length ds in
        let r' = record r { r10 = at'; r11 = pos size; r12 = top } in
        let old = u.state.previous in
        let below : k * size ≤ k * 64 = mul-le-mul_left k v.limits.most in
        let product : wrapped_product (pos k) (pos size) ≡ pos (k * size) = times_size k size named v.limits.most in
        let sum : wrapped_sum (pos FIRST_ENTRY) (pos (k * size)) ≡ entry = add_pos FIRST_ENTRY (k * size) (FIRST_ENTRY + k * size) refl (omega arith) in
        let up0 : wrapped_sum (pos 200) (pos 1) ≡ pos 201 = add_pos 200 1 201 refl (omega arith) in
        let up1 : wrapped_sum (pos 201) (pos 1) ≡ pos 202 = add_pos 201 1 202 refl (omega arith) in
        let up2 : wrapped_sum (pos 202) (pos 1) ≡ pos 203 = add_pos 202 1 203 refl (omega arith) in
        let up3 : wrapped_sum (pos 203) (pos 1) ≡ pos 204 = add_pos 203 1 204 refl (omega arith) in
        let up4 : wrapped_sum (pos 204) (pos 1) ≡ pos 205 = add_pos 204 1 205 refl (omega arith) in
        let many = line_length (u.state.current ⊞ pos size) (pos size) (2 + count) in
        let words6 = framed words old entry in
        let frame = frame_gathered m.limits words old entry in
        let sources = holds_below ds 0 200 words words6 (omega arith) frame.kept held in
        let targets' = holds_below targets 100 200 words words6 (omega (arith, many)) frame.kept held' in
        by_way (then_part (frame_code k) inside3 (omega arith)
        (gather_goes g (k + 1) code2 inside2 before failed r' 206 count cost ds (pos i) (pos 205) (pos 0) entry (pos FIRST_ENTRY) r.r8 r.r9 words6 (w + 28 + 8 + 28 + 8 + 28 + 8 + 28 + 8 + 8 + 8 + 8 + 8 + 28 + 8 + 28 + 8 + 28)
        (λ values. all_written m targets (integer_alone old ∷ integer_alone entry ∷ values) >>= go) v refl (omega arith) (omega arith) sources (omega (arith, pays))
        (λ values from' to' x' a' f' v' words'' w'' gathered paid.
        let all = framed_values m.limits words words6 words'' old entry values count frame gathered in
        scatter_goes g (k + 1) code1 inside1 before failed r' words'' (2 + count) cost targets (integer_alone old ∷ integer_alone entry ∷ values) (pos from') (pos to') (pos 0) x' a' f' v' w'' go (sym many) (all.many ∙ sym many) (omega (arith, many))
        (holds_below targets 100 206 words6 words'' (omega (arith, many)) gathered.kept targets') all.holds all.fit (omega (arith, many, paid, pays))
        (λ cells from3 to3 x3 a3 f3 v3 w3 paid'. record { fuel = 4; meets = (refl, omega (arith, many, paid, paid', pays)) }))))
        (λ f z. record { fuel = more 17 f; meets = simp (product, sum, up0, up1, up2, up3, up4) z })

    rest_goes : (cost : ℕ) → IsMemory m → nat_lt u.state.steps g.bound ≡ true → k < 2 ^ 32 → length ds ≤ 40 → 2800 + 800 * length ds ≤ cost →
        Makes g (k + 1) code8 0 u (settle before (if int_lt (last_of m) top then to_special over before else entered size)) cost
    rest_goes cost v h named few enough =
        let count = length ds in
        let effect = entered size in
        let inside7 = guard_inside code6 inside6 over in
        let r = after_up g k code7 inside7 u (2 + count) in
        up_goes g k code7 inside7 u (2 + count) (settle before (if int_lt (last_of m) top then to_special over before else effect)) cost (omega (arith, few)) v h
        (guard_goes g (k + 1) code6 inside6 before over r u.scratch u.failed 160 cost effect (omega (arith, enough))
        (λ t.
        places_go g (k + 1) code5 inside5 (begun_at k u.state) u.failed r (settle before effect) cost ds 0 r.r1 r.r2 u.scratch 168 (omega (arith, few))
        (λ x y words w lined pays.
        line_goes g (k + 1) code4 inside4 (begun_at k u.state) u.failed (record r { r1 = x; r2 = y }) (settle before effect) cost (pos size) 100 (2 + count) x r.r3 r.r10 words w (omega (arith, few))
        (λ i at' words' w' lined' pays'.
        frame_goes (record r { r1 = x; r2 = y }) u.failed cost i y at' words' w' v named few (holds_below ds 0 100 words words' (omega (arith, few)) lined'.kept lined.holds) lined'.holds (omega (arith, pays, pays', enough))))))

  pub rcall_does : (specials : Specials) (args : List Arg) → IsCall args d procedure ds ls → specials.over ≡ over → k < 2 ^ 32 → length ds ≤ 40 → Does k rcall_code specials args rcall (flow_visits Rcall)
  rcall_does specials args is same named few g program parameters u h =
      let site = site_at program parameters k args in
      let start : State = at k u.state in
      let cost = cost_at args (flow_visits Rcall) site start in
      let t = top g u in
      let places = ap (λ o. listed o) is.places_are in
      let enough : 2800 + 800 * length ds ≤ cost = omega (arith, places) in
      let over_is : program.specials.over ≡ over = ap (λ (x : Specials). x.over) h.setting.symbols ∙ same in
      let size_is : u.state.memory.limits.cell_size ≡ parameters.settings.sizes.descr = ap (λ l. l.cell_size) h.valid.limits in
      subst (λ p. Makes g (k + 1) p 0 u (settle start (rcall site start)) cost) grouped
      (subst (λ e. Makes g (k + 1) code8 0 u (settle start e) cost) (rcall_is site start is)
      (subst (λ x. Makes g (k + 1) code8 0 u (settle start (if int_lt x t then to_special program.specials.over start else entering site start)) cost) (last_is g program parameters specials k args u h)
      (subst (λ o. Makes g (k + 1) code8 0 u (settle start (if int_lt (last_of u.state.memory) t then to_special o start else entering site start)) cost) (sym over_is)
      (subst (λ n. Makes g (k + 1) code8 0 u (settle start (if int_lt (last_of u.state.memory) t then to_special over start else entered g u n)) cost) size_is
      (rest_goes g u cost h.valid.memory h.left named few enough)))))
