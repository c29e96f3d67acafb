-- The specifiers at the top of the stack go to the items of a list.
use Rattle.std.proofs.Common.{ℕ, ◌+◌, ◌*◌, ◌<◌, ◌≤◌, List, [], ◌∷◌, length, false, refl, sym, subst, arith}
use Rattle.std.specs.Prelude.{ℤ, pos, IfSome, int_lt, if◌then◌else◌}
use Rattle.sil_macros.specs.declared.names.Macro.TheVariants.{Spop}
use Rattle.sil_model.specs.declared.program.Arg.TheVariants.{Places}
use Rattle.sil_model.specs.declared.program.Specials.{Specials}
use Rattle.flow_clauses.specs.FlowTable.{flow_visits}
use Rattle.sil_model.specs.Integers.{◌⊞◌, ◌⊟◌}
use Rattle.sil_model.specs.Settling.{settle}
use Rattle.flow_clauses.specs.StackClauses.{below, specs_below, step_down, specs_moved, spop, to_special}
use Rattle.sil_model.specs.States.{State}
use Rattle.sil_micro.specs.declared.op.Op.{Op}
use Rattle.sil_micro.specs.Expands.{Does, IsPiece, Makes, at}
use Rattle.sil_micro.specs.Pieces.{joined}
use Rattle.sil_micro.proofs.Making.{more, by_way, then_part}
use Rattle.exp_stack.specs.ListParts.{down_head, guard_code, double_down, places_code, line_code, spec_moves_code}
use Rattle.exp_common.proofs.JoinedParts.{IsPart, both_parts, whole_piece}
use Rattle.exp_stack.proofs.ScratchWords.{holds_below}
use Rattle.exp_stack.proofs.StackPlaces.{stack_of, bottom_is}
use Rattle.exp_stack.proofs.Starts.{begun_at, down_first, down_goes, after_down, guard_goes, guard_inside, guard_light, guard_part, guard_weight}
use Rattle.exp_stack.proofs.AddressLists.{places_go, line_goes, places_part, line_part, line_length}
use Rattle.exp_stack.proofs.SpecMoves.{spec_moves_part, spec_moves_go}

module _ (k : ℕ) (specials : Specials) (ss : List ℤ) where
  abbrev places : List Op
  places = joined (places_code 100 ss) (spec_moves_code (length ss))

  abbrev lines : List Op
  lines = joined (line_code 0 (length ss)) places

  abbrev doubled : List Op
  doubled = joined double_down lines

  abbrev rest : List Op
  rest = joined (guard_code specials.under) doubled

  abbrev pub spop_code : List Op
  spop_code = joined (down_head k (2 * length ss)) rest

  places_here : (statements formats : ℕ) → IsPart statements formats (44 * length ss + 776) places
  places_here statements formats = both_parts (places_part statements formats 100 ss) (spec_moves_part statements formats (length ss))

  lines_here : (statements formats : ℕ) → IsPart statements formats (84 + (44 * length ss + 776)) lines
  lines_here statements formats = both_parts (line_part statements formats 0 (length ss)) (places_here statements formats)

  double_part : (statements formats : ℕ) → IsPart statements formats 16 double_down
  double_part statements formats = record { part = refl; begins = refl; names = refl; quiet = refl; weight = refl }

  doubled_part : (statements formats : ℕ) → IsPart statements formats (16 + (84 + (44 * length ss + 776))) doubled
  doubled_part statements formats = both_parts (double_part statements formats) (lines_here statements formats)

  rest_part : (statements formats : ℕ) → IfSome specials.under (λ place. place < statements) → IsPart statements formats (guard_weight specials.under + (16 + (84 + (44 * length ss + 776)))) rest
  rest_part statements formats among = both_parts (guard_part statements formats specials.under among) (doubled_part statements formats)

  pub spop_piece : (statements formats : ℕ) → IfSome specials.under (λ place. place < statements) → length ss ≤ 40 → IsPiece k statements formats false spop_code
  spop_piece statements formats among few = whole_piece (down_first k statements formats (2 * length ss)) (rest_part statements formats among) (omega (arith, guard_light specials.under, few))

  pub spop_does : length ss ≤ 40 → Does k spop_code specials (Places ss ∷ []) spop (flow_visits Spop)
  unfolding spop
  spop_does few g program parameters u h =
      let count = length ss in
      let before : State = at k u.state in
      let m = u.state.memory in
      let down = step_down m in
      let top = below m u.state.current (2 * count) in
      let sources = specs_below before count in
      let effect = specs_moved sources ss top before in
      let cost = 2000 + 400 * (count + 0 + 4 * count) in
      let inside = guard_inside doubled (doubled_part 0 0).part specials.under in
      let r = after_down g k rest inside u (2 * count) in
      let many = line_length (u.state.current ⊞ down) (down ⊞ down) count in
      subst (λ x. Makes g (k + 1) spop_code 0 u (settle before (if int_lt top x then to_special program.specials.under before else effect)) cost) (bottom_is g program parameters specials k (Places ss ∷ []) u h)
      (subst (λ x. Makes g (k + 1) spop_code 0 u (settle before (if int_lt top (stack_of g ⊟ pos m.limits.cell_size) then to_special x.under before else effect)) cost) (sym h.setting.symbols)
      (down_goes g k rest inside u (2 * count) (settle before (if int_lt top (stack_of g ⊟ pos m.limits.cell_size) then to_special specials.under before else effect)) cost (omega (arith, few)) h.valid.memory h.left
      (guard_goes g (k + 1) doubled (doubled_part 0 0).part before specials.under r u.scratch u.failed 136 cost effect (omega arith)
      (λ t.
      by_way (then_part double_down (lines_here 0 0).part (omega arith)
      (line_goes g (k + 1) places (places_here 0 0).part (begun_at k u.state) u.failed (record r { r11 = down ⊞ down }) (settle before effect) cost (down ⊞ down) 0 count r.r1 r.r3 (u.state.current ⊞ down) u.scratch 160 (omega (arith, few))
      (λ i at' words w lined pays.
      places_go g (k + 1) (spec_moves_code count) (spec_moves_part 0 0 count).part (begun_at k u.state) u.failed (record r { r3 = pos 0; r10 = at'; r11 = down ⊞ down }) (settle before effect) cost ss 100 (pos i) r.r2 words w (omega (arith, few))
      (λ x y words' w' lined' pays'.
      spec_moves_go g before u.failed (record r { r10 = at'; r11 = down ⊞ down }) cost sources ss count x y (pos 0) r.r6 r.r7 r.r8 r.r9 words' w' h.valid.memory (sym many) (sym many) (omega (arith, many, few)) (holds_below sources 0 100 words words' (omega (arith, many)) lined'.kept lined.holds) lined'.holds (omega (arith, pays, pays', many))))))
      (λ f z. record { fuel = more 2 f; meets = z })))))
