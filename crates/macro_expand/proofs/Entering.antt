-- Where statements are entered, and ways through their pieces as operations of the code.
use Rattle.std.proofs.Common.{◌≡◌, ℕ, suc, ◌+◌, ◌<◌, ◌≤◌, ◌==◌, inl, inr, List, [], ◌∷◌, ◌++◌, length, Some, true, refl, sym, ap, ◌∙◌, subst, arith, add-zero, append_assoc}
use Rattle.std.proofs.lemmas.Bool.Decides.{nat_tests}
use Rattle.std.proofs.lemmas.Option.{slice_get_cases, slice_get_within}
use Rattle.std.specs.Prelude.{slice_get, nat_lt, if◌then◌else◌}
use Rattle.layout_params.specs.Parameters.{Parameters}
use Rattle.sil_model.specs.declared.program.Program.{Program}
use Rattle.sil_model.specs.declared.program.Statement.{Statement}
use Rattle.sil_model.specs.Fits.{FitsRow, bounds_of}
use Rattle.sil_model.specs.States.{State, Step, Goes, Ends}
use Rattle.sil_model.specs.Valid.{IsValid}
use Rattle.sil_model.specs.WellFormed.{IsWellFormed}
use Rattle.sil_model.proofs.Keeps.{all_at}
use Rattle.sil_micro.specs.declared.op.Op.TheVariants.{Begin}
use Rattle.sil_micro.specs.Codes.{MicroCode, entry_of, place_of, setting_of}
use Rattle.sil_micro.specs.Expands.{CanBegin, Meets, at}
use Rattle.sil_micro.specs.Laws.{Follows, LawOfMeeting, LawOnWays, Leads, way_met}
use Rattle.sil_micro.specs.MicroRuns.{Outcome, At, and_on, at_statement, met, met_after, run}
use Rattle.sil_micro.specs.MicroRuns as runs
use Rattle.sil_micro.specs.MicroStates.{Setting, Micro}
use Rattle.sil_micro.specs.MicroWays.{Way, Came, way}
use Rattle.sil_micro.specs.MicroWays as ways
use Rattle.sil_micro.proofs.Making.{by_test}
use Rattle.macro_expand.specs.Expanded.{HasPiece, IsExpansion}
use Rattle.macro_expand.specs.Steps.{Makes}

-- ---- places

pub place_here : (c : MicroCode) (k : ℕ) → k ≡ length c.entries → place_of c k ≡ Some (length c.ops)
place_here c k e = let yes : (k == length c.entries) ≡ true = grind (arith, nat_tests, e) in ap (λ b. if b then Some (length c.ops) else entry_of c k) yes

pub place_there : (c : MicroCode) (k place : ℕ) → k < length c.entries → entry_of c k ≡ Some place → place_of c k ≡ Some place
place_there c k place lt e = by_test (k == length c.entries) (λ yes. let same : k ≡ length c.entries = grind (arith, nat_tests, yes) in absurd (omega (arith, same, lt))) (λ no. ap (λ b. if b then Some (length c.ops) else entry_of c k) no ∙ e)

-- ---- operations that lead to a step

-- so many operations from a place meet these statements and make this step
pub record Arrives (g : Setting) (c : MicroCode) (place : ℕ) (u : Micro) (statements : List ℕ) (step : Step) (most : ℕ) : Type 0 where
  pub count : ℕ
  pub outcome : Outcome
  pub leads : Leads g c count place u outcome statements
  pub makes : Makes c outcome step most

-- operations that come to a place, and those from there on
pub leads_then : (g : Setting) (c : MicroCode) (n m place q : ℕ) (u v : Micro) (o : Outcome) (first later : List ℕ) → Leads g c n place u (At q v) first → Leads g c m q v o later → Leads g c (n + m) place u o (first ++ later)
leads_then g c n m place q u v o first later x y = record {
  run = λ i. let e : n + m + i ≡ n + (m + i) = omega arith in ap (λ j. run g c j place u) e ∙ x.run (m + i) ∙ y.run i;
  met = λ i. let e : n + m + i ≡ n + (m + i) = omega arith in ap (λ j. met g c j place u) e ∙ x.met (m + i) ∙ ap (λ l. first ++ l) (y.met i) ∙ sym (append_assoc first later (met_after o (met g c i)));
}

-- what is made within a weight is made within a larger one
pub makes_within : (c : MicroCode) (o : Outcome) (s : Step) (most more : ℕ) → most ≤ more → Makes c o s most → Makes c o s more
makes_within c (At place u) (Goes s) most more le x = (x.0, x.1, omega (arith, x.2, le))
makes_within c (runs.Ended end u) (Ends end' tapes) most more le x = (x.0, x.1, omega (arith, x.2, le))
makes_within c (At place u) (Ends end' tapes) most more le x = absurd x
makes_within c (runs.Ended end u) (Goes s) most more le x = absurd x
makes_within c runs.IsStuck s most more le x = absurd x

module _ (program : Program) (parameters : Parameters) (c : MicroCode) (x : IsExpansion program c) (good : IsWellFormed program parameters.settings) (on_ways : LawOnWays) (meeting : LawOfMeeting) (n : ℕ) where
  abbrev pub g : Setting
  g = setting_of c parameters.settings n

  -- each statement, and the place after the last, has its place
  pub placed : (k : ℕ) → k ≤ length program.statements → (place : ℕ) × (place_of c k ≡ Some place)
  placed k le = elim (slice_get_cases program.statements k).1 as (λ cases. (place : ℕ) × (place_of c k ≡ Some place)) [
    | inl found ↦ let p = x.each k found.0 found.2 in (p.base, place_there c k p.base (omega (arith, found.1, x.statements)) p.entry)
    | inr past ↦ (length c.ops, place_here c k (omega (arith, le, past.0, x.statements)))
  ]

  module _ (k : ℕ) (statement : Statement) (there : slice_get program.statements k ≡ Some statement) where
    abbrev pub p : HasPiece c program.specials k statement
    p = x.each k statement there

    pub entered : place_of c k ≡ Some p.base
    entered = place_there c k p.base (omega (arith, slice_get_within program.statements k statement there, x.statements)) p.entry

    pub first : slice_get c.ops p.base ≡ Some (Begin k)
    first = ap (λ i. slice_get c.ops i) (sym (add-zero p.base)) ∙ p.stands.each 0 (Begin k) p.is_piece.begins

    pub can_begin : (u : Micro) → IsValid program parameters.settings (at k u.state) → nat_lt u.state.steps n ≡ true → CanBegin g program parameters program.specials k statement.args u
    can_begin u valid some = record {
      setting = record { well_formed = good; symbols = refl; settings = refl; statements = x.statements; static_cells = x.static_cells; formats = x.formats };
      within = (all_at (FitsRow (bounds_of program parameters.settings)) program.statements k statement good.rows there).within;
      valid = valid;
      left = some;
    }

    -- a way through the piece, from its beginning with steps left, and from any other place
    pub met_here : (fuel : ℕ) (u : Micro) → nat_lt u.state.steps n ≡ true → way_met g (k + 1) p.piece (suc fuel) 0 u ≡ k ∷ []
    met_here fuel u left = (meeting g (k + 1) k p.piece fuel p.is_piece.part p.is_piece.once p.is_piece.begins).beginning u ∙ ap (λ b. if b then k ∷ [] else []) left

    pub met_later : (fuel place : ℕ) (u : Micro) → 0 < place → way_met g (k + 1) p.piece fuel place u ≡ []
    met_later fuel place u lt = (meeting g (k + 1) k p.piece fuel p.is_piece.part p.is_piece.once p.is_piece.begins).later place u lt

    -- the code's run goes the way
    pub follows : (fuel place : ℕ) (u : Micro) (w : Way) → place ≤ length p.piece → way g (k + 1) p.piece fuel place u ≡ w → Follows g c (p.base + place) u (way_met g (k + 1) p.piece fuel place u) w
    follows fuel place u w le e = subst (λ v. Follows g c (p.base + place) u (way_met g (k + 1) p.piece fuel place u) v) e (on_ways g c p.base (k + 1) p.piece p.stands fuel place u le)

    pub arrives : (fuel place : ℕ) (u : Micro) (w : Way) (s : Step) (most : ℕ) → place ≤ length p.piece → way g (k + 1) p.piece fuel place u ≡ w → Meets w s most → ((t : State) → s ≡ Goes t → t.statement ≤ length program.statements) →
        Arrives g c (p.base + place) u (way_met g (k + 1) p.piece fuel place u) s most
    arrives fuel place u (Came j v) (Goes t) most le e meets within =
        let f = follows fuel place u (Came j v) le e in
        let same : j ≡ t.statement = ap (λ s. s.statement) meets.0 in
        let next = placed j (omega (arith, same, within t refl)) in
        record {
          count = f.0;
          outcome = At next.0 v;
          leads = subst (λ o. Leads g c f.0 (p.base + place) u (at_statement o v) (way_met g (k + 1) p.piece fuel place u)) next.1 f.1;
          makes = (ap (λ i. place_of c i) (sym same) ∙ next.1, ap (λ i. at i v.state) (sym same) ∙ meets.0, meets.1);
        }
    arrives fuel place u (ways.Ended end v) (Ends end' tapes) most le e meets within =
        let f = follows fuel place u (ways.Ended end v) le e in
        record { count = f.0; outcome = runs.Ended end v; leads = f.1; makes = meets }
    arrives fuel place u (Came j v) (Ends end' tapes) most le e meets within = absurd meets
    arrives fuel place u (ways.Ended end v) (Goes t) most le e meets within = absurd meets
    arrives fuel place u (ways.Returned entry v) s most le e meets within = absurd meets
    arrives fuel place u ways.IsStuck s most le e meets within = absurd meets
    arrives fuel place u ways.Unfinished s most le e meets within = absurd meets
