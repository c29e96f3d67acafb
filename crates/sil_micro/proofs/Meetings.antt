-- The statements that a way meets.
use Rattle.std.proofs.Common.{◌≡◌, ℕ, zero, suc, ◌+◌, ◌<◌, List, [], ◌∷◌, ◌++◌, length, Option, Some, None, Bool, true, false, refl, ap, ◌∙◌, arith, append-nil}
use Rattle.std.specs.Prelude.{slice_get, nat_lt, if◌then◌else◌}
use Rattle.sil_micro.specs.declared.op.Op.{Op}
use Rattle.sil_micro.specs.declared.op.Op.TheVariants.{Begin}
use Rattle.sil_micro.specs.declared.op.Target.TheVariants.{Op as Place, Statement}
use Rattle.sil_micro.specs.Laws.{met_within, way_met, MeetsOnce}
use Rattle.sil_micro.specs.Operations.{Effect, On, To, ToReturn, Over, Stuck, begin_if, perform}
use Rattle.sil_micro.specs.Pieces.{is_part, is_no_begin, begins_once}
use Rattle.sil_micro.specs.MicroRuns.{met_by}
use Rattle.sil_micro.specs.MicroStates.{Setting, Micro}
use Rattle.sil_micro.specs.MicroWays.{effect_of}
use Rattle.sil_micro.proofs.Moved.{Stays, performs, op_at, op_inside}

no_begin : (piece : List Op) (i : ℕ) (op : Op) → begins_once piece ≡ true → 0 < i → slice_get piece i ≡ Some op → is_no_begin op ≡ true
no_begin [] i op h lt e = absurd (cc)
no_begin (first ∷ ops) zero op h lt e = absurd (omega (arith, lt))
no_begin (first ∷ ops) (suc i) op h lt e = op_at is_no_begin ops i op h e

meets_none : (g : Setting) (op : Op) (u : Micro) → is_no_begin op ≡ true → met_by g (Some op) u ≡ []
meets_none g (Begin k) u h = absurd (cc)
meets_none g _ u h = refl

module _ (g : Setting) (next : ℕ) (piece : List Op) (part : is_part piece ≡ true) (once : begins_once piece ≡ true) where
  abbrev MeetsNone : ℕ → Type 0
  MeetsNone fuel = (place : ℕ) (u : Micro) → 0 < place → way_met g next piece fuel place u ≡ []

  none_within : (fuel place : ℕ) → MeetsNone fuel → (e : Effect) → Stays (length piece) e → met_within (way_met g next piece fuel) place e ≡ []
  none_within fuel place all (On v) stays = all (place + 1) v (omega arith)
  none_within fuel place all (To (Place q) v) stays = all q v stays.0
  none_within fuel place all (To (Statement k) v) stays = refl
  none_within fuel place all (ToReturn entry v) stays = refl
  none_within fuel place all (Over end v) stays = refl
  none_within fuel place all Stuck stays = refl

  none_at : (fuel place : ℕ) (u : Micro) → MeetsNone fuel → 0 < place → (o : Option Op) → slice_get piece place ≡ o → (met_by g o u ++ met_within (way_met g next piece fuel) place (effect_of g next o u)) ≡ []
  none_at fuel place u all lt None e = refl
  none_at fuel place u all lt (Some op) e =
      let s = performs 0 (length piece) g op u (op_inside piece place op part e) in
      ap (λ l. l ++ met_within (way_met g next piece fuel) place (perform g op u)) (meets_none g op u (no_begin piece place op once lt e)) ∙ none_within fuel place all (perform g op u) s.stays

  later : (fuel : ℕ) → MeetsNone fuel
  later zero = λ place u lt. refl
  later (suc fuel) = λ place u lt. none_at fuel place u (later fuel) lt (slice_get piece place) refl

  none_after_begin : (fuel : ℕ) (b : Bool) (k : ℕ) (u : Micro) → met_within (way_met g next piece fuel) 0 (begin_if b k u) ≡ []
  none_after_begin fuel false k u = refl
  none_after_begin fuel true k u = later fuel (0 + 1) _ (omega arith)

  pub meets_once : (k fuel : ℕ) → slice_get piece 0 ≡ Some (Begin k) → MeetsOnce g next k piece fuel
  meets_once k fuel begins = record {
    beginning = λ u. ap (λ o. met_by g o u ++ met_within (way_met g next piece fuel) 0 (effect_of g next o u)) begins
        ∙ ap (λ l. (if nat_lt u.state.steps g.bound then k ∷ [] else []) ++ l) (none_after_begin fuel (nat_lt u.state.steps g.bound) k (record u { spent = u.spent + 28 }))
        ∙ append-nil (if nat_lt u.state.steps g.bound then k ∷ [] else []);
    later = later fuel;
  }
