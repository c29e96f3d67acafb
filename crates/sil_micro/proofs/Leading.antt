-- Operations one after another.
use Rattle.std.proofs.Common.{◌≡◌, ℕ, suc, ◌+◌, List, [], ◌++◌, sym, ap, ◌∙◌, arith, append_assoc, append-nil}
use Rattle.std.specs.Prelude.{slice_get}
use Rattle.sil_micro.specs.Codes.{MicroCode}
use Rattle.sil_micro.specs.Laws.{Leads, Follows}
use Rattle.sil_micro.specs.MicroRuns.{Outcome, At, and_on, met_after, met_by, run, met, step}
use Rattle.sil_micro.specs.MicroStates.{Setting, Micro}
use Rattle.sil_micro.specs.MicroWays.{Way, Came, Returned}
use Rattle.sil_micro.specs.MicroWays as ways

module _ (g : Setting) (c : MicroCode) where
  no_operation : (i place : ℕ) (u : Micro) → run g c (0 + i) place u ≡ run g c i place u
  no_operation i place u = let e : 0 + i ≡ i = omega arith in ap (λ j. run g c j place u) e

  meets_nothing : (i place : ℕ) (u : Micro) → met g c (0 + i) place u ≡ met g c i place u
  meets_nothing i place u = let e : 0 + i ≡ i = omega arith in ap (λ j. met g c j place u) e

  -- no operation leads to the same place
  pub here : (place : ℕ) (u : Micro) → Leads g c 0 place u (At place u) []
  here place u = record { run = λ i. no_operation i place u; met = λ i. meets_nothing i place u }

  one_more : (n i place : ℕ) (u : Micro) → run g c (suc n + i) place u ≡ and_on (step g c place u) (run g c (n + i))
  unfolding run
  one_more n i place u = let e : suc n + i ≡ suc (n + i) = omega arith in ap (λ j. run g c j place u) e

  meets_more : (n i place : ℕ) (u : Micro) → met g c (suc n + i) place u ≡ met_by g (slice_get c.ops place) u ++ met_after (step g c place u) (met g c (n + i))
  unfolding met
  meets_more n i place u = let e : suc n + i ≡ suc (n + i) = omega arith in ap (λ j. met g c j place u) e

  -- one operation, and those after it
  pub and_then : (n place q : ℕ) (u v : Micro) (o : Outcome) (first later : List ℕ) → step g c place u ≡ At q v → met_by g (slice_get c.ops place) u ≡ first → Leads g c n q v o later → Leads g c (suc n) place u o (first ++ later)
  and_then n place q u v o first later is meets rest = record {
    run = λ i. one_more n i place u ∙ ap (λ x. and_on x (run g c (n + i))) is ∙ rest.run i;
    met = λ i. meets_more n i place u ∙ ap (λ x. met_by g (slice_get c.ops place) u ++ met_after x (met g c (n + i))) is
        ∙ ap (λ l. l ++ met g c (n + i) q v) meets ∙ ap (λ l. first ++ l) (rest.met i) ∙ sym (append_assoc first later (met_after o (met g c i)));
  }

  -- one operation
  pub alone : (place : ℕ) (u : Micro) (o : Outcome) (first : List ℕ) → step g c place u ≡ o → met_by g (slice_get c.ops place) u ≡ first → Leads g c 1 place u o (first ++ [])
  alone place u o first is meets = record {
    run = λ i. one_more 0 i place u ∙ (let e : 0 + i ≡ i = omega arith in ap (λ j. and_on (step g c place u) (run g c j)) e) ∙ ap (λ x. and_on x (run g c i)) is;
    met = λ i. meets_more 0 i place u ∙ (let e : 0 + i ≡ i = omega arith in ap (λ j. met_by g (slice_get c.ops place) u ++ met_after (step g c place u) (met g c j)) e)
        ∙ ap (λ x. met_by g (slice_get c.ops place) u ++ met_after x (met g c i)) is ∙ ap (λ l. l ++ met_after o (met g c i)) (meets ∙ sym (append-nil first));
  }

  -- one operation before what a way says
  pub before : (place q : ℕ) (u v : Micro) (first later : List ℕ) (w : Way) → step g c place u ≡ At q v → met_by g (slice_get c.ops place) u ≡ first → Follows g c q v later w → Follows g c place u (first ++ later) w
  before place q u v first later (Came k z) is meets rest = (suc rest.0, and_then rest.0 place q u v _ first later is meets rest.1)
  before place q u v first later (Returned entry z) is meets rest = (suc rest.0, and_then rest.0 place q u v _ first later is meets rest.1)
  before place q u v first later (ways.Ended end z) is meets rest = (suc rest.0, and_then rest.0 place q u v _ first later is meets rest.1)
  before place q u v first later ways.IsStuck is meets rest = (suc rest.0, and_then rest.0 place q u v _ first later is meets rest.1)
  before place q u v first later ways.Unfinished is meets rest = tt
