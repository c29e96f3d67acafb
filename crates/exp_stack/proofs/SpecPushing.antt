-- The specifiers of a list go onto the stack.
use Rattle.std.proofs.Common.{ℕ, ◌+◌, ◌*◌, ◌<◌, ◌≤◌, List, [], ◌∷◌, length, false, refl, sym, subst, arith}
use Rattle.std.specs.Prelude.{ℤ, pos, IfSome, int_lt, if◌then◌else◌}
use Rattle.sil_macros.specs.declared.names.Macro.TheVariants.{Spush}
use Rattle.sil_model.specs.declared.program.Arg.TheVariants.{Places}
use Rattle.sil_model.specs.declared.program.Specials.{Specials}
use Rattle.flow_clauses.specs.FlowTable.{flow_visits}
use Rattle.sil_model.specs.Integers.{◌⊞◌}
use Rattle.sil_model.specs.Settling.{settle}
use Rattle.flow_clauses.specs.StackClauses.{above, specs_above, specs_moved, spush, to_special}
use Rattle.sil_model.specs.States.{State}
use Rattle.sil_micro.specs.declared.op.Op.{Op}
use Rattle.sil_micro.specs.Expands.{Does, IsPiece, Makes, at}
use Rattle.sil_micro.specs.Pieces.{joined}
use Rattle.sil_micro.proofs.Making.{more, by_way, then_part}
use Rattle.exp_stack.specs.ListParts.{up_head, guard_code, double_up, places_code, line_code, spec_moves_code}
use Rattle.exp_common.proofs.JoinedParts.{IsPart, both_parts, whole_piece}
use Rattle.exp_stack.proofs.ScratchWords.{holds_below}
use Rattle.exp_stack.proofs.StackPlaces.{last_of, last_is}
use Rattle.exp_stack.proofs.Starts.{begun_at, up_first, up_goes, after_up, guard_goes, guard_inside, guard_light, guard_part, guard_weight}
use Rattle.exp_stack.proofs.AddressLists.{places_go, line_goes, places_part, line_part, line_length}
use Rattle.exp_stack.proofs.SpecMoves.{spec_moves_part, spec_moves_go}

module _ (k : ℕ) (specials : Specials) (ss : List ℤ) where
  abbrev lines : List Op
  lines = joined (line_code 100 (length ss)) (spec_moves_code (length ss))

  abbrev places : List Op
  places = joined (places_code 0 ss) lines

  abbrev doubled : List Op
  doubled = joined double_up places

  abbrev rest : List Op
  rest = joined (guard_code specials.over) doubled

  abbrev pub spush_code : List Op
  spush_code = joined (up_head k (2 * length ss)) rest

  lines_part : (statements formats : ℕ) → IsPart statements formats 860 lines
  lines_part statements formats = both_parts (line_part statements formats 100 (length ss)) (spec_moves_part statements formats (length ss))

  all_places : (statements formats : ℕ) → IsPart statements formats (44 * length ss + 860) places
  all_places statements formats = both_parts (places_part statements formats 0 ss) (lines_part statements formats)

  double_part : (statements formats : ℕ) → IsPart statements formats 8 double_up
  double_part statements formats = record { part = refl; begins = refl; names = refl; quiet = refl; weight = refl }

  doubled_part : (statements formats : ℕ) → IsPart statements formats (8 + (44 * length ss + 860)) doubled
  doubled_part statements formats = both_parts (double_part statements formats) (all_places statements formats)

  rest_part : (statements formats : ℕ) → IfSome specials.over (λ place. place < statements) → IsPart statements formats (guard_weight specials.over + (8 + (44 * length ss + 860))) rest
  rest_part statements formats among = both_parts (guard_part statements formats specials.over among) (doubled_part statements formats)

  pub spush_piece : (statements formats : ℕ) → IfSome specials.over (λ place. place < statements) → length ss ≤ 40 → IsPiece k statements formats false spush_code
  spush_piece statements formats among few = whole_piece (up_first k statements formats (2 * length ss)) (rest_part statements formats among) (omega (arith, guard_light specials.over, few))

  pub spush_does : length ss ≤ 40 → Does k spush_code specials (Places ss ∷ []) spush (flow_visits Spush)
  unfolding spush
  spush_does few g program parameters u h =
      let count = length ss in
      let before : State = at k u.state in
      let m = u.state.memory in
      let d = pos m.limits.cell_size in
      let top = above m u.state.current (2 * count) in
      let targets = specs_above before count in
      let effect = specs_moved ss targets top before in
      let cost = 2000 + 400 * (count + 0 + 4 * count) in
      let inside = guard_inside doubled (doubled_part 0 0).part specials.over in
      let r = after_up g k rest inside u (2 * count) in
      let many = line_length (u.state.current ⊞ d) (d ⊞ d) count in
      subst (λ x. Makes g (k + 1) spush_code 0 u (settle before (if int_lt x top then to_special program.specials.over before else effect)) cost) (last_is g program parameters specials k (Places ss ∷ []) u h)
      (subst (λ x. Makes g (k + 1) spush_code 0 u (settle before (if int_lt (last_of m) top then to_special x.over before else effect)) cost) (sym h.setting.symbols)
      (up_goes g k rest inside u (2 * count) (settle before (if int_lt (last_of m) top then to_special specials.over before else effect)) cost (omega (arith, few)) h.valid.memory h.left
      (guard_goes g (k + 1) doubled (doubled_part 0 0).part before specials.over r u.scratch u.failed 160 cost effect (omega arith)
      (λ t.
      by_way (then_part double_up (all_places 0 0).part (omega arith)
      (places_go g (k + 1) lines (lines_part 0 0).part (begun_at k u.state) u.failed (record r { r11 = d ⊞ d }) (settle before effect) cost ss 0 r.r1 r.r2 u.scratch 176 (omega (arith, few))
      (λ x y words w lined pays.
      line_goes g (k + 1) (spec_moves_code count) (spec_moves_part 0 0 count).part (begun_at k u.state) u.failed (record r { r1 = x; r2 = y }) (settle before effect) cost (d ⊞ d) 100 count x r.r3 r.r10 words w (omega (arith, few))
      (λ i at' words' w' lined' pays'.
      spec_moves_go g before u.failed (record r { r2 = y; r10 = at'; r11 = d ⊞ d }) cost ss targets count (pos i) y (pos 0) r.r6 r.r7 r.r8 r.r9 words' w' h.valid.memory refl many (omega (arith, few)) (holds_below ss 0 100 words words' (omega (arith, few)) lined'.kept lined.holds) lined'.holds (omega (arith, pays, pays'))))))
      (λ f z. record { fuel = more 1 f; meets = z })))))
