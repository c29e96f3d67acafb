-- What the macros of the stack ask of their operands and of the special symbols.
use Rattle.std.specs.Prelude.{ℕ, ◌<◌, ◌≤◌, length, IfSome}
use Rattle.sil_base.specs.declared.limits.TheConstants.{MAX_LIST_ITEMS}
use Rattle.sil_model.specs.declared.program.Arg.{Arg}
use Rattle.sil_model.specs.declared.program.Arg.TheVariants.{Gotos, Places}
use Rattle.sil_model.specs.declared.program.Specials.{Specials}

-- OVER and INTR10 are among so many statements, where they are there
pub record AreAmong (count : ℕ) (specials : Specials) : Type 0 where
  pub over : IfSome specials.over (λ k. k < count)
  pub under : IfSome specials.under (λ k. k < count)

-- a list has at most forty items
abbrev pub HasFewItems : Arg → Type 0
HasFewItems (Places ats) = length ats ≤ MAX_LIST_ITEMS
HasFewItems (Gotos locations) = length locations ≤ MAX_LIST_ITEMS
HasFewItems _ = Unit {0}
