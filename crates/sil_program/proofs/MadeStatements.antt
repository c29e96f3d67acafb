-- Executable statements that are made one by one.
use Rattle.std.proofs.Common.{◌≡◌, ℕ, ◌+◌, ◌<◌, Bool, true, false, cond, List, [], ◌∷◌, ◌++◌, length, get_or, drop, Option, Some, refl, ap, ◌∙◌}
use Rattle.sil_macros.specs.MacroRows.{row}
use Rattle.sil_symbols.specs.declared.stmt.Stmt.{Stmt}
use Rattle.sil_model.specs.declared.program.Statement.{Statement}
use Rattle.sil_arguments.specs.MadeArguments.{Scope, and_before}
use Rattle.sil_program.specs.Programs.{machine_statement, machine_statements}
use Rattle.sil_arguments.proofs.Made.{after, after_push, first_left}

assembly_passed : (b : Bool) (o : Option Statement) (rest : Option (List Statement)) → b ≡ true → cond b rest (and_before o rest) ≡ rest
assembly_passed b o rest h = rw h refl

executable_first : (b : Bool) (o : Option Statement) (rest : Option (List Statement)) → b ≡ false → cond b rest (and_before o rest) ≡ and_before o rest
executable_first b o rest h = rw h refl

-- a statement of the assembly is passed over
pub passed_over : (scope : Scope) (source : List Stmt) (i : ℕ) (s : Stmt) → i < length source → s ≡ get_or source i s → (row s.name).assembly ≡ true →
    machine_statements scope (drop i source) ≡ machine_statements scope (drop (i + 1) source)
passed_over scope source i s h is b =
    ap (machine_statements scope) (first_left source i s h is)
    ∙ assembly_passed (row s.name).assembly (machine_statement scope s) (machine_statements scope (drop (i + 1) source)) b

-- an executable statement is made
pub taken : (scope : Scope) (source : List Stmt) (i : ℕ) (s : Stmt) (made : List Statement) (x : Statement) → i < length source → s ≡ get_or source i s → (row s.name).assembly ≡ false → machine_statement scope s ≡ Some x →
    after made (machine_statements scope (drop i source)) ≡ after (made ++ x ∷ []) (machine_statements scope (drop (i + 1) source))
taken scope source i s made x h is b some =
    ap (λ ss. after made (machine_statements scope ss)) (first_left source i s h is)
    ∙ ap (after made) (executable_first (row s.name).assembly (machine_statement scope s) (machine_statements scope (drop (i + 1) source)) b
    ∙ ap (λ o. and_before o (machine_statements scope (drop (i + 1) source))) some)
    ∙ after_push made x (machine_statements scope (drop (i + 1) source))
