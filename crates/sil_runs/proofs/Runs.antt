-- A run goes on from where its first steps lead.
use Rattle.std.proofs.Common.{◌≡◌, ℕ, zero, suc, ◌+◌, ◌≤◌, length, Option, Some, None, refl, arith}
use Rattle.std.specs.Prelude.{slice_get}
use Rattle.sil_model.specs.declared.end.End.TheVariants as ends
use Rattle.layout_params.specs.Parameters.{Parameters}
use Rattle.sil_model.specs.declared.program.Program.{Program}
use Rattle.sil_model.specs.declared.program.Statement.{Statement}
use Rattle.sil_model.specs.States.{State, Step, Goes, Ends}
use Rattle.sil_runs.specs.Machine.{make_step, step, after, after_step, run, ended, meet, with_statement}
use Rattle.sil_model.specs.Settling.{ends_with}
use Rattle.sil_runs.specs.RunLaws.{LawOfRuns, SameOutcome, run_after}

-- one step, and what all later ones do
one_more : (program : Program) (parameters : Parameters) (m n : ℕ) (k : ℕ) (r : Step) → ((t : State) → SameOutcome (run program parameters (m + n) t) (run_after program parameters m n t)) →
    SameOutcome (meet k (after_step r ended (run program parameters (m + n)))) (after_step (after_step r Ends (after program parameters m)) ended (run program parameters n))
one_more program parameters m n k (Goes t) h = record { end = (h t).end; tapes = (h t).tapes }
one_more program parameters m n k (Ends e tapes) h = record { end = refl; tapes = refl }

at_statement : (program : Program) (parameters : Parameters) (m n : ℕ) (s : State) (o : Option Statement) → ((t : State) → SameOutcome (run program parameters (m + n) t) (run_after program parameters m n t)) →
    SameOutcome
    (with_statement o (ended (Some (ends.Undefined s.statement)) s.tapes) (λ statement. meet s.statement (after_step (make_step program parameters statement s) ended (run program parameters (m + n)))))
    (after_step (after_step (with_statement o (ends_with (ends.Undefined s.statement) s) (λ statement. make_step program parameters statement s)) Ends (after program parameters m)) ended (run program parameters n))
at_statement program parameters m n s None h = record { end = refl; tapes = refl }
at_statement program parameters m n s (Some statement) h = one_more program parameters m n s.statement (make_step program parameters statement s) h

goes_on : (program : Program) (parameters : Parameters) (m n : ℕ) (s : State) → SameOutcome (run program parameters (m + n) s) (run_after program parameters m n s)
unfolding run step after
goes_on program parameters zero n s = let e : zero + n ≡ n = omega arith in rw e (record { end = refl; tapes = refl })
goes_on program parameters (suc m) n s =
    let e : suc m + n ≡ suc (m + n) = omega arith in
    rw e (at_statement program parameters m n s (slice_get program.statements s.statement) (goes_on program parameters m n))

met_after : (program : Program) (parameters : Parameters) (n : ℕ) (k : ℕ) (r : Step) → ((t : State) → length (run program parameters n t).met ≤ n) → length (meet k (after_step r ended (run program parameters n))).met ≤ suc n
met_after program parameters n k (Goes t) h = let below : length (run program parameters n t).met ≤ n = h t in omega arith
met_after program parameters n k (Ends e tapes) h = omega arith

met_at : (program : Program) (parameters : Parameters) (n : ℕ) (s : State) (o : Option Statement) → ((t : State) → length (run program parameters n t).met ≤ n) →
    length (with_statement o (ended (Some (ends.Undefined s.statement)) s.tapes) (λ statement. meet s.statement (after_step (make_step program parameters statement s) ended (run program parameters n)))).met ≤ suc n
met_at program parameters n s None h = omega arith
met_at program parameters n s (Some statement) h = met_after program parameters n s.statement (make_step program parameters statement s) h

met_none : (s : State) (o : Option Statement) → length (with_statement o (ended (Some (ends.Undefined s.statement)) s.tapes) (λ statement. ended (Some ends.Budget) s.tapes)).met ≤ 0
met_none s None = omega arith
met_none s (Some statement) = omega arith

met_most : (program : Program) (parameters : Parameters) (n : ℕ) (s : State) → length (run program parameters n s).met ≤ n
unfolding run
met_most program parameters zero s = met_none s (slice_get program.statements s.statement)
met_most program parameters (suc n) s = met_at program parameters n s (slice_get program.statements s.statement) (met_most program parameters n)

pub runs : LawOfRuns
runs program parameters = record { outcome = goes_on program parameters; met = met_most program parameters }
