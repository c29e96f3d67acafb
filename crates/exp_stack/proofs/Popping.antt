-- The cells at the top of the stack go to the items of a list.
use Rattle.std.proofs.Common.{ℕ, ◌+◌, ◌*◌, ◌<◌, ◌≤◌, List, [], ◌∷◌, length, false, sym, subst, arith}
use Rattle.std.specs.Prelude.{ℤ, pos, IfSome, int_lt, if◌then◌else◌}
use Rattle.sil_macros.specs.declared.names.Macro.TheVariants.{Pop}
use Rattle.sil_model.specs.declared.program.Arg.TheVariants.{Places}
use Rattle.sil_model.specs.declared.program.Specials.{Specials}
use Rattle.flow_clauses.specs.FlowTable.{flow_visits}
use Rattle.sil_model.specs.Integers.{◌⊟◌}
use Rattle.sil_model.specs.Settling.{settle}
use Rattle.flow_clauses.specs.StackClauses.{below, cells_below, step_down, moved, pop, to_special}
use Rattle.sil_model.specs.States.{State}
use Rattle.sil_micro.specs.declared.op.Op.{Op}
use Rattle.sil_micro.specs.Expands.{Does, IsPiece, Makes, at}
use Rattle.sil_micro.specs.Pieces.{joined}
use Rattle.exp_stack.specs.ListParts.{down_head, guard_code, places_code, line_code, moves_code}
use Rattle.exp_common.proofs.JoinedParts.{IsPart, both_parts, whole_piece}
use Rattle.exp_stack.proofs.ScratchWords.{holds_below}
use Rattle.exp_stack.proofs.StackPlaces.{stack_of, bottom_is}
use Rattle.exp_stack.proofs.Starts.{begun_at, down_first, down_goes, after_down, guard_goes, guard_inside, guard_light, guard_part, guard_weight}
use Rattle.exp_stack.proofs.AddressLists.{places_go, line_goes, places_part, line_part, line_length}
use Rattle.exp_stack.proofs.CellMoves.{moves_part, moves_go}

module _ (k : ℕ) (specials : Specials) (ds : List ℤ) where
  abbrev places : List Op
  places = joined (places_code 100 ds) (moves_code (length ds))

  abbrev lines : List Op
  lines = joined (line_code 0 (length ds)) places

  abbrev rest : List Op
  rest = joined (guard_code specials.under) lines

  abbrev pub pop_code : List Op
  pop_code = joined (down_head k (length ds)) rest

  places_here : (statements formats : ℕ) → IsPart statements formats (44 * length ds + 524) places
  places_here statements formats = both_parts (places_part statements formats 100 ds) (moves_part statements formats (length ds))

  lines_here : (statements formats : ℕ) → IsPart statements formats (84 + (44 * length ds + 524)) lines
  lines_here statements formats = both_parts (line_part statements formats 0 (length ds)) (places_here statements formats)

  rest_part : (statements formats : ℕ) → IfSome specials.under (λ place. place < statements) → IsPart statements formats (guard_weight specials.under + (84 + (44 * length ds + 524))) rest
  rest_part statements formats among = both_parts (guard_part statements formats specials.under among) (lines_here statements formats)

  pub pop_piece : (statements formats : ℕ) → IfSome specials.under (λ place. place < statements) → length ds ≤ 40 → IsPiece k statements formats false pop_code
  pop_piece statements formats among few = whole_piece (down_first k statements formats (length ds)) (rest_part statements formats among) (omega (arith, guard_light specials.under, few))

  pub pop_does : length ds ≤ 40 → Does k pop_code specials (Places ds ∷ []) pop (flow_visits Pop)
  unfolding pop
  pop_does few g program parameters u h =
      let count = length ds in
      let before : State = at k u.state in
      let m = u.state.memory in
      let down = step_down m in
      let top = below m u.state.current count in
      let sources = cells_below before count in
      let effect = moved sources ds top before in
      let cost = 2000 + 400 * (count + 0 + 2 * count) in
      let inside = guard_inside lines (lines_here 0 0).part specials.under in
      let r = after_down g k rest inside u count in
      let many = line_length u.state.current down count in
      subst (λ x. Makes g (k + 1) pop_code 0 u (settle before (if int_lt top x then to_special program.specials.under before else effect)) cost) (bottom_is g program parameters specials k (Places ds ∷ []) u h)
      (subst (λ x. Makes g (k + 1) pop_code 0 u (settle before (if int_lt top (stack_of g ⊟ pos m.limits.cell_size) then to_special x.under before else effect)) cost) (sym h.setting.symbols)
      (down_goes g k rest inside u count (settle before (if int_lt top (stack_of g ⊟ pos m.limits.cell_size) then to_special specials.under before else effect)) cost (omega (arith, few)) h.valid.memory h.left
      (guard_goes g (k + 1) lines (lines_here 0 0).part before specials.under r u.scratch u.failed 136 cost effect (omega arith)
      (λ t.
      line_goes g (k + 1) places (places_here 0 0).part (begun_at k u.state) u.failed r (settle before effect) cost down 0 count r.r1 r.r3 r.r10 u.scratch 144 (omega (arith, few))
      (λ i at' words w lined pays.
      places_go g (k + 1) (moves_code count) (moves_part 0 0 count).part (begun_at k u.state) u.failed (record r { r3 = pos 0; r10 = at' }) (settle before effect) cost ds 100 (pos i) r.r2 words w (omega (arith, few))
      (λ x y words' w' lined' pays'.
      moves_go g before u.failed (record r { r10 = at' }) cost sources ds count x y (pos 0) r.r6 r.r7 r.r8 r.r9 words' w' h.valid.memory (sym many) (sym many) (omega (arith, many, few)) (holds_below sources 0 100 words words' (omega (arith, many)) lined'.kept lined.holds) lined'.holds (omega (arith, pays, pays', many))))))))
