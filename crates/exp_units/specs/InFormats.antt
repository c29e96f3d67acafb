-- Expansions that name a format of the code: what they are to do where the formats are those of the code.
use Rattle.std.specs.Prelude.{◌≡◌, ℕ, ◌+◌, Bool, List, length, Contains}
use Rattle.layout_params.specs.Parameters.{Parameters}
use Rattle.sil_model.specs.declared.program.Arg.{Arg}
use Rattle.sil_model.specs.declared.program.Arg.TheVariants.{Format}
use Rattle.sil_model.specs.declared.program.Program.{Program}
use Rattle.sil_model.specs.declared.program.Specials.{Specials}
use Rattle.sil_model.specs.Effects.{Effect}
use Rattle.sil_model.specs.Settling.{settle}
use Rattle.sil_model.specs.Sites.{Site}
use Rattle.sil_model.specs.States.{State}
use Rattle.sil_micro.specs.declared.op.Op.{Op}
use Rattle.sil_micro.specs.Codes.{MicroCode, appended, begun}
use Rattle.sil_micro.specs.Expands.{CanBegin, IsPiece, Makes, at, cost_at, site_at}
use Rattle.sil_micro.specs.MicroStates.{Setting, Micro}

-- the text of a format is one of these
abbrev pub HasFormat : List (List ℕ) → Arg → Type 0
HasFormat formats (Format text) = Contains formats text
HasFormat formats _ = Unit {0}

-- from each state where the statement can begin, in a program with these formats, the piece makes the step of its clause
abbrev pub DoesIn : List (List ℕ) → ℕ → List Op → Specials → List Arg → (Site → State → Effect) → (Site → State → ℕ) → Type 0
DoesIn formats k piece specials args clause visits =
    (g : Setting) (program : Program) (parameters : Parameters) (u : Micro) → CanBegin g program parameters specials k args u → g.formats ≡ formats →
    Makes g (k + 1) piece 0 u (settle (at k u.state) (clause (site_at program parameters k args) (at k u.state))) (cost_at args visits (site_at program parameters k args) (at k u.state))

-- the code has the entry of statement k and a piece more, and with the code's formats the piece makes the statement's step
pub record ExpandsIn (old new : MicroCode) (k : ℕ) (specials : Specials) (args : List Arg) (clause : Site → State → Effect) (visits : Site → State → ℕ) (prints : Bool) : Type 0 where
  pub piece : List Op
  pub stands : new ≡ appended (begun k old) piece
  pub is_piece : IsPiece k (length old.entries) (length old.formats) prints piece
  pub does : DoesIn old.formats k piece specials args clause visits
