-- An RRTURN leaves its frame and hands over to its call.
use Rattle.std.proofs.Common.{◌≡◌, ℕ, ◌+◌, ◌-◌, ◌*◌, List, [], ◌∷◌, length, Option, Some, None, true, false, refl, sym, ap, ◌∙◌, subst, arith}
use Rattle.std.specs.Prelude.{ℤ, pos}
use Rattle.sil_base.specs.declared.places.TheConstants.{FIRST_CELL}
use Rattle.layout_params.specs.Areas.{hidden_cells}
use Rattle.layout_params.specs.Parameters.{Parameters}
use Rattle.sil_macros.specs.declared.names.Macro.TheVariants.{Rrturn}
use Rattle.sil_model.specs.declared.end.End.TheVariants as ends
use Rattle.sil_model.specs.declared.program.Arg.{Arg}
use Rattle.sil_model.specs.declared.program.Program.{Program}
use Rattle.sil_model.specs.declared.program.Specials.{Specials}
use Rattle.sil_model.specs.Access.{a_at}
use Rattle.sil_model.specs.Arguments.{maybe_number_at, maybe_place_at}
use Rattle.flow_clauses.specs.CallClauses.{is_between, is_top, rrturn}
use Rattle.flow_clauses.specs.FlowTable.{flow_visits}
use Rattle.sil_model.specs.Settling.{settle}
use Rattle.sil_model.specs.Sites.{Site}
use Rattle.flow_clauses.specs.StackClauses.{above, bottom}
use Rattle.sil_model.specs.States.{State}
use Rattle.sil_micro.specs.declared.op.Op.{Op}
use Rattle.sil_micro.specs.Expands.{CanBegin, IsPiece, Meets, at, cost_at, site_at}
use Rattle.sil_micro.specs.MicroStates.{Setting, Micro}
use Rattle.sil_micro.specs.MicroWays.{Way, Ended}
use Rattle.sil_micro.specs.Pieces.{joined}
use Rattle.exp_common.proofs.JoinedParts.{IsPart, both_parts, whole_piece}
use Rattle.exp_stack.proofs.StackPlaces.{last_of, last_is, bottom_is}
use Rattle.exp_calls.specs.CallHalves.{DoesReturn, MeetsReturn, handed, numbered}
use Rattle.exp_calls.specs.ReturnParts.{flagged, frame_read_code, hand_over_code, number_or_absent, place_or_absent, top_code}
use Rattle.exp_calls.proofs.ReturnClause.{no_saved, no_entry, no_top}
use Rattle.exp_calls.proofs.ReturnParts.{Comes, StaysLight, after_frame, after_test, begun, frame_goes, frame_read_first, hand_over_goes, hand_over_part, top_goes, top_part}

handed_place : (place : Option ℤ) (args : List Arg) → maybe_place_at (place_or_absent place ∷ args) 0 ≡ Some (handed (numbered place) (flagged place))
handed_place None args = refl
handed_place (Some at) args = refl

handed_number : (first : Arg) (number : Option ℤ) → maybe_number_at (first ∷ number_or_absent number ∷ []) 1 ≡ Some number
handed_number first None = refl
handed_number first (Some n) = refl

module _ (k : ℕ) (specials : Specials) (place number : Option ℤ) where
  abbrev pub operands : List Arg
  operands = place_or_absent place ∷ number_or_absent number ∷ []

  abbrev tail : List Op
  tail = joined top_code (hand_over_code place number)

  abbrev pub return_code : List Op
  return_code = joined (frame_read_code k) tail

  tail_part : (statements formats : ℕ) → IsPart statements formats 240 tail
  tail_part statements formats = both_parts (top_part statements formats) (hand_over_part statements formats place number)

  pub return_piece : (statements formats : ℕ) → IsPiece k statements formats false return_code
  return_piece statements formats = whole_piece (frame_read_first k statements formats) (tail_part statements formats) (omega arith)

  module _ (g : Setting) (program : Program) (parameters : Parameters) (u : Micro) (h : CanBegin g program parameters specials k operands u) where
    abbrev site : Site
    site = site_at program parameters k operands

    abbrev s : State
    s = at k u.state

    abbrev IsMet : Way → Type 0
    IsMet w = MeetsReturn w site s

    abbrev first : ℕ
    first =
        let settings = parameters.settings in
        FIRST_CELL + (length program.cells + hidden_cells settings + settings.dynamic_size) * settings.sizes.descr - settings.sizes.descr

    abbrev last : ℕ
    last = FIRST_CELL + length u.state.memory.cells * u.state.memory.limits.cell_size - u.state.memory.limits.cell_size

    fails : rrturn site s ≡ None → (v : Micro) → StaysLight u v → IsMet (Ended (Some (ends.Undefined k)) v)
    fails none v x = subst (λ e. Meets (Ended (Some (ends.Undefined k)) v) (settle s e) (cost_at operands (flow_visits Rrturn) site s)) (sym none) (refl, x.tapes, omega (arith, x.light))

    tested : (saved : ℤ) → is_top site saved ≡ is_between (pos first) (pos last) u.state.memory.limits.cell_size saved
    unfolding is_top
    tested saved =
        ap (λ z. is_between (bottom site) z parameters.settings.sizes.descr saved) (sym (last_is g program parameters specials k operands u h))
        ∙ ap (λ d. is_between (bottom site) (last_of u.state.memory) d saved) (sym (ap (λ l. l.cell_size) h.valid.limits))

    hands : (saved entry : ℤ) → a_at s.memory (above s.memory s.previous 1) ≡ Some saved → a_at s.memory (above s.memory s.previous 2) ≡ Some entry → is_between (pos first) (pos last) u.state.memory.limits.cell_size saved ≡ true →
        Comes IsMet g (k + 1) (hand_over_code place number) 0 (record { state = begun IsMet g k tail (tail_part 0 0).part u; registers = after_test IsMet g (k + 1) (hand_over_code place number) (hand_over_part 0 0 place number).part (begun IsMet g k tail (tail_part 0 0).part u) u.scratch u.failed (after_frame IsMet g k tail (tail_part 0 0).part u saved entry) saved first; scratch = u.scratch; failed = u.failed; spent = 264 })
    hands saved entry read found is =
        let st = begun IsMet g k tail (tail_part 0 0).part u in
        let frame = after_frame IsMet g k tail (tail_part 0 0).part u saved entry in
        hand_over_goes IsMet g (k + 1) place number st u.scratch u.failed (after_test IsMet g (k + 1) (hand_over_code place number) (hand_over_part 0 0 place number).part st u.scratch u.failed frame saved first)
        (record {
          saved = saved;
          read = read;
          entered = found;
          top = tested saved ∙ is;
          state = refl;
          place = handed_place place (number_or_absent number ∷ []);
          number = (number, handed_number (place_or_absent place) number, refl);
          light = omega arith;
        })

    comes : Comes IsMet g (k + 1) return_code 0 u
    comes =
        frame_goes IsMet g k tail (tail_part 0 0).part u h.left h.valid.memory (λ none. fails (no_saved site s none)) (λ none. fails (no_entry site s none)) (λ saved entry read found.
        let st = begun IsMet g k tail (tail_part 0 0).part u in
        top_goes IsMet g (k + 1) (hand_over_code place number) (hand_over_part 0 0 place number).part st u.scratch u.failed (after_frame IsMet g k tail (tail_part 0 0).part u saved entry) saved first h.valid.memory (bottom_is g program parameters specials k operands u h)
        (λ no v same light. fails (no_top site s saved read (tested saved ∙ no)) v (record { tapes = ap (λ t. t.tapes) same; light = light }))
        (λ is. hands saved entry read found is))

  pub return_does : DoesReturn k return_code specials operands
  return_does g program parameters u h = let x = comes g program parameters u h in record { fuel = x.fuel; meets = x.has }
