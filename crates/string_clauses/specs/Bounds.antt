-- What turns lead to.
use Rattle.std.specs.Prelude.{◌≡◌, ℕ, ◌+◌, ◌≤◌, Option, IfSome}
use Rattle.std.specs.declared.ops.ControlFlow.{ControlFlow}
use Rattle.std.specs.declared.ops.ControlFlow.TheVariants.{Continue, Break}

-- it goes on with a number up to the second, or has an answer up to the first, if any
abbrev pub GoesWithin : ℕ → ℕ → ControlFlow (Option ℕ) ℕ → Type 0
GoesWithin most deepest (Break found) = IfSome found (λ j. j ≤ most)
GoesWithin most deepest (Continue depth) = depth ≤ deepest

-- either is up to a number
abbrev pub IsAnswerWithin : ℕ → ControlFlow (Option ℕ) ℕ → Type 0
IsAnswerWithin most t = GoesWithin most most t

-- it goes on with one less than so many, or has an answer up to it
abbrev pub IsWithin : ℕ → ControlFlow ℕ ℕ → Type 0
IsWithin most (Break answer) = answer ≤ most
IsWithin most (Continue left) = left + 1 ≡ most
