-- The items of a list go onto the stack.
use Rattle.std.proofs.Common.{ℕ, ◌+◌, ◌*◌, ◌<◌, ◌≤◌, List, [], ◌∷◌, length, false, refl, sym, subst, arith}
use Rattle.std.specs.Prelude.{ℤ, pos, IfSome, int_lt, if◌then◌else◌}
use Rattle.sil_macros.specs.declared.names.Macro.TheVariants.{Push}
use Rattle.sil_model.specs.declared.program.Arg.TheVariants.{Places}
use Rattle.sil_model.specs.declared.program.Specials.{Specials}
use Rattle.flow_clauses.specs.FlowTable.{flow_visits}
use Rattle.sil_model.specs.Integers.{◌⊞◌}
use Rattle.sil_model.specs.Settling.{settle}
use Rattle.flow_clauses.specs.StackClauses.{above, cells_above, moved, push, to_special}
use Rattle.sil_model.specs.States.{State}
use Rattle.sil_micro.specs.declared.op.Op.{Op}
use Rattle.sil_micro.specs.Expands.{Does, IsPiece, Makes, at}
use Rattle.sil_micro.specs.Pieces.{joined}
use Rattle.exp_stack.specs.ListParts.{up_head, guard_code, places_code, line_code, moves_code}
use Rattle.exp_common.proofs.JoinedParts.{IsPart, both_parts, whole_piece}
use Rattle.exp_stack.proofs.ScratchWords.{holds_below}
use Rattle.exp_stack.proofs.StackPlaces.{last_of, last_is}
use Rattle.exp_stack.proofs.Starts.{begun_at, up_first, up_goes, after_up, guard_goes, guard_inside, guard_light, guard_part, guard_weight}
use Rattle.exp_stack.proofs.AddressLists.{places_go, line_goes, places_part, line_part, line_length}
use Rattle.exp_stack.proofs.CellMoves.{moves_part, moves_go}

module _ (k : ℕ) (specials : Specials) (ds : List ℤ) where
  abbrev lines : List Op
  lines = joined (line_code 100 (length ds)) (moves_code (length ds))

  abbrev places : List Op
  places = joined (places_code 0 ds) lines

  abbrev rest : List Op
  rest = joined (guard_code specials.over) places

  abbrev pub push_code : List Op
  push_code = joined (up_head k (length ds)) rest

  lines_part : (statements formats : ℕ) → IsPart statements formats 608 lines
  lines_part statements formats = both_parts (line_part statements formats 100 (length ds)) (moves_part statements formats (length ds))

  pushes_part : (statements formats : ℕ) → IsPart statements formats (44 * length ds + 608) places
  pushes_part statements formats = both_parts (places_part statements formats 0 ds) (lines_part statements formats)

  rest_part : (statements formats : ℕ) → IfSome specials.over (λ place. place < statements) → IsPart statements formats (guard_weight specials.over + (44 * length ds + 608)) rest
  rest_part statements formats among = both_parts (guard_part statements formats specials.over among) (pushes_part statements formats)

  pub push_piece : (statements formats : ℕ) → IfSome specials.over (λ place. place < statements) → length ds ≤ 40 → IsPiece k statements formats false push_code
  push_piece statements formats among few = whole_piece (up_first k statements formats (length ds)) (rest_part statements formats among) (omega (arith, guard_light specials.over, few))

  pub push_does : length ds ≤ 40 → Does k push_code specials (Places ds ∷ []) push (flow_visits Push)
  unfolding push
  push_does few g program parameters u h =
      let count = length ds in
      let before : State = at k u.state in
      let m = u.state.memory in
      let d = pos m.limits.cell_size in
      let top = above m u.state.current count in
      let targets = cells_above before count in
      let effect = moved ds targets top before in
      let cost = 2000 + 400 * (count + 0 + 2 * count) in
      let inside = guard_inside places (pushes_part 0 0).part specials.over in
      let r = after_up g k rest inside u count in
      subst (λ x. Makes g (k + 1) push_code 0 u (settle before (if int_lt x top then to_special program.specials.over before else effect)) cost) (last_is g program parameters specials k (Places ds ∷ []) u h)
      (subst (λ x. Makes g (k + 1) push_code 0 u (settle before (if int_lt (last_of m) top then to_special x.over before else effect)) cost) (sym h.setting.symbols)
      (up_goes g k rest inside u count (settle before (if int_lt (last_of m) top then to_special specials.over before else effect)) cost (omega (arith, few)) h.valid.memory h.left
      (guard_goes g (k + 1) places (pushes_part 0 0).part before specials.over r u.scratch u.failed 160 cost effect (omega arith)
      (λ t.
      places_go g (k + 1) lines (lines_part 0 0).part (begun_at k u.state) u.failed r (settle before effect) cost ds 0 r.r1 r.r2 u.scratch 168 (omega (arith, few))
      (λ x y words w lined pays.
      line_goes g (k + 1) (moves_code count) (moves_part 0 0 count).part (begun_at k u.state) u.failed (record r { r1 = x; r2 = y }) (settle before effect) cost d 100 count x r.r3 r.r10 words w (omega (arith, few))
      (λ i at' words' w' lined' pays'.
      moves_go g before u.failed (record r { r2 = y; r10 = at' }) cost ds targets count (pos i) y (pos 0) r.r6 r.r7 r.r8 r.r9 words' w' h.valid.memory refl (line_length (u.state.current ⊞ d) d count) (omega (arith, few)) (holds_below ds 0 100 words words' (omega (arith, few)) lined'.kept lined.holds) lined'.holds (omega (arith, pays, pays'))))))))
