-- A piece that stands in a code does there what it does by itself.
use Rattle.std.proofs.Common.{◌≡◌, ℕ, zero, suc, ◌+◌, ◌<◌, ◌≤◌, List, [], ◌∷◌, ◌++◌, length, Option, Some, None, refl, sym, ap, ◌∙◌, subst, arith}
use Rattle.std.specs.Prelude.{slice_get}
use Rattle.std.proofs.lemmas.Option.{slice_get_within}
use Rattle.sil_micro.specs.declared.op.Op.{Op}
use Rattle.sil_micro.specs.declared.op.Op.TheVariants.{Jump, JumpIf}
use Rattle.sil_micro.specs.declared.op.Target.TheVariants.{Op as Place, Statement}
use Rattle.sil_micro.specs.Codes.{MicroCode}
use Rattle.sil_micro.specs.Laws.{StandsAt, Leads, Follows, met_within, way_met}
use Rattle.sil_micro.specs.Operations.{Effect, On, To, ToReturn, Over, Stuck, perform}
use Rattle.sil_micro.specs.Pieces.{placed_op}
use Rattle.sil_micro.specs.MicroRuns.{At, at_op, at_statement, follow, met_by, step}
use Rattle.sil_micro.specs.MicroStates.{Setting, Micro}
use Rattle.sil_micro.specs.MicroWays.{effect_of, within, way}
use Rattle.sil_micro.proofs.Moved.{moved, Stays, performs, op_inside}
use Rattle.sil_micro.proofs.Leading.{here, alone, before}

pub slice_get_none : {A : Type 0} (xs : List A) (i : ℕ) → slice_get xs i ≡ None → length xs ≤ i
slice_get_none [] i e = omega arith
slice_get_none (x ∷ xs) zero e = absurd (cc)
slice_get_none (x ∷ xs) (suc i) e = let h = slice_get_none xs i e in omega arith

-- an operation meets what it meets wherever its piece stands
met_placed : (g : Setting) (base : ℕ) (op : Op) (u : Micro) → met_by g (Some (placed_op base op)) u ≡ met_by g (Some op) u
met_placed g base (Jump to) u = refl
met_placed g base (JumpIf test left right to) u = refl
met_placed g base _ u = refl

module _ (g : Setting) (c : MicroCode) (base next : ℕ) (piece : List Op) (stands : StandsAt c base next piece) where
  abbrev Goes : ℕ → Type 0
  Goes fuel = (place : ℕ) (u : Micro) → place ≤ length piece → Follows g c (base + place) u (way_met g next piece fuel place u) (way g next piece fuel place u)

  -- on from what an operation of the piece does
  through : (fuel place : ℕ) (u : Micro) (first : List ℕ) → Goes fuel → place < length piece → met_by g (slice_get c.ops (base + place)) u ≡ first → (e : Effect) → Stays (length piece) e →
      step g c (base + place) u ≡ follow c (base + place) (moved base e) → Follows g c (base + place) u (first ++ met_within (way_met g next piece fuel) place e) (within (way g next piece fuel) place e)
  through fuel place u first all lt meets (On v) stays is =
      let e : base + place + 1 ≡ base + (place + 1) = omega arith in
      before g c (base + place) (base + (place + 1)) u v first _ (way g next piece fuel (place + 1) v) (is ∙ ap (λ q. At q v) e) meets (all (place + 1) v (omega arith))
  through fuel place u first all lt meets (To (Place q) v) stays is = before g c (base + place) (base + q) u v first _ (way g next piece fuel q v) is meets (all q v stays.1)
  through fuel place u first all lt meets (To (Statement k) v) stays is = (1, alone g c (base + place) u _ first is meets)
  through fuel place u first all lt meets (ToReturn entry v) stays is = (1, alone g c (base + place) u _ first is meets)
  through fuel place u first all lt meets (Over end v) stays is = (1, alone g c (base + place) u _ first is meets)
  through fuel place u first all lt meets Stuck stays is = (1, alone g c (base + place) u _ first is meets)

  step_of : (place : ℕ) (u : Micro) (op : Op) → slice_get piece place ≡ Some op → step g c (base + place) u ≡ follow c (base + place) (perform g (placed_op base op) u)
  unfolding step
  step_of place u op e = ap (λ o. at_op g c o (base + place) u) (stands.each place op e)

  at_place : (fuel place : ℕ) (u : Micro) → Goes fuel → place ≤ length piece → (o : Option Op) → slice_get piece place ≡ o →
      Follows g c (base + place) u (met_by g o u ++ met_within (way_met g next piece fuel) place (effect_of g next o u)) (within (way g next piece fuel) place (effect_of g next o u))
  at_place fuel place u all le None e =
      let past : place ≡ length piece = omega (arith, le, slice_get_none piece place e) in
      (0, subst (λ o. Leads g c 0 (base + place) u o []) (ap (λ i. At (base + i) u) past ∙ sym (ap (λ o. at_statement o u) stands.follows)) (here g c (base + place) u))
  at_place fuel place u all le (Some op) e =
      let s = performs base (length piece) g op u (op_inside piece place op stands.part e) in
      through fuel place u (met_by g (Some op) u) all (slice_get_within piece place op e) (ap (λ o. met_by g o u) (stands.each place op e) ∙ met_placed g base op u) (perform g op u) s.stays
      (step_of place u op e ∙ ap (λ f. follow c (base + place) f) s.same)

  pub goes : (fuel : ℕ) → Goes fuel
  goes zero = λ place u le. tt
  goes (suc fuel) = λ place u le. at_place fuel place u (goes fuel) le (slice_get piece place) refl
