-- A selection by number.
use Rattle.std.proofs.Common.{ℕ, ◌+◌, ◌*◌, ◌<◌, ◌≤◌, List, [], ◌∷◌, length, Option, All, false, refl, arith}
use Rattle.std.specs.Prelude.{ℤ}
use Rattle.sil_macros.specs.declared.names.Macro.TheVariants.{Selbra}
use Rattle.sil_model.specs.declared.program.Arg.TheVariants.{Gotos, Place}
use Rattle.sil_model.specs.declared.program.Specials.{Specials}
use Rattle.flow_clauses.specs.FlowTable.{flow_visits}
use Rattle.sil_model.specs.Effects.{on_memory}
use Rattle.flow_clauses.specs.FlowClauses.{selbra}
use Rattle.sil_micro.specs.declared.op.Op.{Op}
use Rattle.sil_micro.specs.Expands.{Does, IsPiece}
use Rattle.sil_micro.specs.Pieces.{joined}
use Rattle.sil_micro.proofs.Making.{by_way, more, then_part}
use Rattle.exp_common.specs.Locations.{IsAmong}
use Rattle.exp_common.proofs.Leads.{goes_to}
use Rattle.exp_control.specs.SelectionParts.{choices_code, selection_head}
use Rattle.exp_control.proofs.Choosing.{choices_inside, choices_lead, choices_part}
use Rattle.exp_common.proofs.Questions.{by_read}
use Rattle.exp_common.proofs.JoinedParts.{IsFirst, whole_piece}

head_first : (k statements formats : ℕ) (d : ℤ) → IsFirst k statements formats 64 (selection_head k d)
unfolding selection_head
head_first k statements formats d = record { part = refl; begins = refl; once = refl; names = refl; quiet = refl; weight = refl }

abbrev pub selection_code : ℕ → ℤ → List (Option ℕ) → List Op
selection_code k d locations = joined (selection_head k d) (choices_code k 1 locations)

pub selection_piece : (k statements formats : ℕ) (d : ℤ) (locations : List (Option ℕ)) → k < statements → length locations ≤ 40 → All (IsAmong statements) locations → IsPiece k statements formats false (selection_code k d locations)
selection_piece k statements formats d locations lt few among = whole_piece (head_first k statements formats d) (choices_part statements formats k 1 locations lt among) (omega (arith, few))

pub selection_does : (k : ℕ) (specials : Specials) (d : ℤ) (locations : List (Option ℕ)) → Does k (selection_code k d locations) specials (Place d ∷ Gotos locations ∷ []) (on_memory selbra) (flow_visits Selbra)
unfolding selbra selection_head
selection_does k specials d locations g program parameters u h =
    let cost = 2000 + 400 * (1 + (length locations + 0) + 1) in
    by_read u.state.memory d h.valid.memory (λ none. record { fuel = 4; meets = simp (h.left, none) (refl, refl, omega arith) }) (λ a flags value is read.
    by_way (then_part (selection_head k d) (choices_inside k 1 locations) (omega arith) (choices_lead g k (record u.state { statement = k; steps = u.state.steps + 1 }) u.failed (record u.registers { r1 = d; r2 = a }) u.scratch cost locations 64 (omega arith)))
    (λ f z. record { fuel = more 3 f; meets = simp (h.left, is, goes_to) z }))
