-- What the halves of calls are to do: an RCALL's own part and its return part, and an RRTURN.
use Rattle.std.specs.Prelude.{◌≡◌, ℕ, ◌+◌, ◌<◌, ◌≤◌, List, length, Option, Some, None, true, false, ℤ, pos, if◌then◌else◌, slice_set}
use Rattle.layout_params.specs.Parameters.{Parameters}
use Rattle.sil_macros.specs.declared.names.Macro.TheVariants.{Rcall, Rrturn}
use Rattle.sil_model.specs.declared.end.End.TheVariants as ends
use Rattle.sil_model.specs.declared.program.Arg.{Arg}
use Rattle.sil_model.specs.declared.program.Program.{Program}
use Rattle.sil_model.specs.declared.program.Specials.{Specials}
use Rattle.sil_model.specs.Access.{◌>>=◌, a_at}
use Rattle.sil_model.specs.Arguments.{gotos_at, maybe_number_at, maybe_place_at, nth_location}
use Rattle.flow_clauses.specs.CallClauses.{hand_back, is_top, location_or, rcall, rrturn}
use Rattle.flow_clauses.specs.FlowTable.{flow_visits}
use Rattle.sil_model.specs.Settling.{ends_with, settle}
use Rattle.sil_model.specs.Memory.{Memory, IsMemory}
use Rattle.sil_model.specs.Sites.{Site}
use Rattle.flow_clauses.specs.StackClauses.{above}
use Rattle.sil_model.specs.States.{State, Step, Goes}
use Rattle.sil_micro.specs.declared.op.Op.{Op}
use Rattle.sil_micro.specs.Codes.{MicroCode, appended, begun}
use Rattle.sil_micro.specs.Expands.{CanBegin, Does, IsPiece, Makes, Meets, at, cost_at, site_at}
use Rattle.sil_micro.specs.MicroStates.{Setting, Micro}
use Rattle.sil_micro.specs.MicroWays.{Way, Returned, Ended, way}
use Rattle.sil_micro.specs.MicroWords.{same_integer}

-- ---- what a return hands over, and what the call does with it

-- the place of a descriptor; there is none where the second number is 0
abbrev pub handed : ℤ → ℤ → Option ℤ
handed place has = if same_integer has (pos 0) then None else Some place

-- a number, and 0 where there is none
abbrev pub numbered : Option ℤ → ℤ
numbered None = pos 0
numbered (Some n) = n

-- what a step comes to that goes on in a call, to a statement with a memory; undefined where there are none
abbrev pub gone_on : State → Option (ℕ × Memory) → Step
gone_on s None = ends_with (ends.Undefined s.statement) s
gone_on s (Some (k, m)) = Goes (record s { statement = k; memory = m })

-- what call k with these operands does with a place, whether there is one, and a number, in the state of the return whose step is counted and whose frame is gone
unfoldable pub answer : List Arg → ℕ → ℤ → ℤ → ℤ → State → Step
answer args k place has number s = gone_on s (do
  to ← maybe_place_at args 0
  locations ← gotos_at args 3
  m ← hand_back s.memory (handed place has) to
  Some (location_or (k + 1) (nth_location locations number), m))

-- ---- RCALL

-- from its return part on the piece does so, in every state with a valid memory; registers 1, 2 and 3 have what is handed over
pub record DoesAnswer (k : ℕ) (piece : List Op) (part : ℕ) (args : List Arg) : Type 0 where
  pub behind : 0 < part
  pub within : part ≤ length piece
  pub does : (g : Setting) (u : Micro) → IsMemory u.state.memory → Makes g (k + 1) piece part u (answer args k u.registers.r1 u.registers.r2 u.registers.r3 u.state) (u.spent + 1200)

-- the code has the entry of statement k, its return part and a piece more; the piece makes the step of the call, and from the return part on what it does with a return
pub record ExpandsCall (old new : MicroCode) (k : ℕ) (specials : Specials) (args : List Arg) : Type 0 where
  pub piece : List Op
  pub part : ℕ
  pub stands : new ≡ record (appended (begun k old) piece) { returns = slice_set old.returns k (Some (length old.ops + part)) }
  pub is_piece : IsPiece k (length old.entries) (length old.formats) false piece
  pub does : Does k piece specials args rcall (flow_visits Rcall)
  pub answers : DoesAnswer k piece part args

-- ---- RRTURN

-- what stands where a return jumps to the return part of the call with this entry; it has begun in a state s
pub record HandsOver (site : Site) (s : State) (entry : ℤ) (u : Micro) : Type 0 where
  pub saved : ℤ
  pub read : a_at s.memory (above s.memory s.previous 1) ≡ Some saved
  pub entered : a_at s.memory (above s.memory s.previous 2) ≡ Some entry
  pub top : is_top site saved ≡ true
  pub state : u.state ≡ record s { current = s.previous; previous = saved; steps = s.steps + 1 }
  pub place : maybe_place_at site.args 0 ≡ Some (handed u.registers.r1 u.registers.r2)
  pub number : (n : Option ℤ) × (maybe_number_at site.args 1 ≡ Some n) × (u.registers.r3 ≡ numbered n)
  pub light : u.spent ≤ 800

-- a way ends as the step ends, or jumps to a return part
abbrev pub MeetsReturn : Way → Site → State → Type 0
MeetsReturn (Returned entry u) site s = HandsOver site s entry u
MeetsReturn (Ended end u) site s = Meets (Ended end u) (settle s (rrturn site s)) (cost_at site.args (flow_visits Rrturn) site s)
MeetsReturn _ site s = ⊥

-- with this fuel it does
pub record MakesReturn (g : Setting) (next : ℕ) (piece : List Op) (u : Micro) (site : Site) (s : State) : Type 0 where
  pub fuel : ℕ
  pub meets : MeetsReturn (way g next piece fuel 0 u) site s

-- from every state where the statement can begin the piece does
abbrev pub DoesReturn : ℕ → List Op → Specials → List Arg → Type 0
DoesReturn k piece specials args =
    (g : Setting) (program : Program) (parameters : Parameters) (u : Micro) → CanBegin g program parameters specials k args u →
    MakesReturn g (k + 1) piece u (site_at program parameters k args) (at k u.state)

-- the code has the entry of statement k and a piece more, and the piece makes the statement's part of a return
pub record ExpandsReturn (old new : MicroCode) (k : ℕ) (specials : Specials) (args : List Arg) : Type 0 where
  pub piece : List Op
  pub stands : new ≡ appended (begun k old) piece
  pub is_piece : IsPiece k (length old.entries) (length old.formats) false piece
  pub does : DoesReturn k piece specials args
