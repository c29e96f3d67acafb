-- Where code stands in an image.
use Rattle.std.specs.Prelude.{◌≡◌, ℕ, ◌+◌, ◌-◌, ◌*◌, ◌^◌, ◌%◌, ◌<◌, ◌≤◌, List, [], ◌∷◌, length, Some}
use Rattle.rv_isa.specs.declared.instr.Instr.{Instr}
use Rattle.rv_isa.specs.InstrWords.{word_of, IsInstr}
use Rattle.image_file.specs.Image.{Image}
use Rattle.rv_emulate.specs.EmulatorSteps.{word_at}
use Rattle.rv_emulate.specs.EmulatorStates.{State}
use Rattle.rv_straight.specs.InstalledWays.{IsFree}

-- all of these have words
abbrev pub AreInstrs : List Instr → Type 0
AreInstrs [] = Unit {0}
AreInstrs (i ∷ is) = IsInstr i × AreInstrs is

-- instructions, and the words of them in the code from a place on
abbrev pub StandAt : List ℕ → ℕ → List Instr → Type 0
StandAt words pc [] = Unit {0}
StandAt words pc (i ∷ is) = IsInstr i × (word_at words pc ≡ Some (word_of i)) × StandAt words (pc + 4) is

-- code is what a state runs next, and no statement's place is within it, but maybe its first
pub record IsNext (image : Image) (last : ℕ) (s : State) (code : List Instr) : Type 0 where
  pub stands : StandAt image.words s.pc code
  pub free : (q : ℕ) → s.pc < q → q < s.pc + 4 * length code → IsFree image last q
  pub low : s.pc + 4 * length code < 2 ^ 31 - 2 ^ 13

-- code stands at a place between statements
pub record IsApart (image : Image) (last place : ℕ) (code : List Instr) : Type 0 where
  pub stands : StandAt image.words place code
  pub free : (q : ℕ) → place ≤ q → q < place + 4 * length code → IsFree image last q
  pub some : 0 < length code
  pub low : place + 4 * length code < 2 ^ 31 - 2 ^ 13
  pub even : place % 4 ≡ 0
