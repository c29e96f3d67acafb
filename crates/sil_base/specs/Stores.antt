-- What loads and saves answer and leave.
use Rattle.std.specs.Prelude.{◌≡◌, ℕ, ◌<◌, ◌≤◌, List, [], length, Option, Some, None, IfSome, IsSomeAnd}
use Rattle.std.specs.FinMap.{get, insert, remove}
use Rattle.sil_base.specs.Files.{Files}
use Rattle.sil_base.specs.declared.store.Load.{Load}
use Rattle.sil_base.specs.declared.store.Load.TheVariants as load
use Rattle.sil_base.specs.declared.store.Save.{Save}
use Rattle.sil_base.specs.declared.store.Save.TheVariants as save

-- what a load of a file, or of none, answers and reads; memory may be wanted for any file
abbrev pub LoadsFile : Load → ℕ → List ℕ → Option (List ℕ) → Type 0
LoadsFile load.Ok limit bytes file = file ≡ Some bytes
LoadsFile load.Missing limit bytes file = file ≡ None
LoadsFile load.TooLong limit bytes file = IsSomeAnd file (λ whole. limit < length whole)
LoadsFile load.Failed limit bytes file = Unit {0}
LoadsFile load.Memory limit bytes file = Unit {0}

-- the same of a store that tells its files
abbrev pub Loads : Load → List ℕ → ℕ → List ℕ → Option Files → Type 0
Loads answer name limit bytes files = IfSome files (λ m. LoadsFile answer limit bytes (get m name))

-- what is read has at most the limit, and nothing is read without an Ok
abbrev pub LoadedWithin : Load → ℕ → List ℕ → Type 0
LoadedWithin load.Ok limit bytes = length bytes ≤ limit
LoadedWithin load.Missing limit bytes = bytes ≡ []
LoadedWithin load.TooLong limit bytes = bytes ≡ []
LoadedWithin load.Failed limit bytes = bytes ≡ []
LoadedWithin load.Memory limit bytes = bytes ≡ []

-- all files but one are as they were
abbrev pub ChangesFile : List ℕ → Files → Option Files → Type 0
ChangesFile name before after = IsSomeAnd after (λ m. remove m name ≡ remove before name)

-- what a save leaves of a store that tells its files
abbrev pub Saves : Save → List ℕ → List ℕ → Option Files → Option Files → Type 0
Saves save.Ok name bytes before after = IfSome before (λ m. after ≡ Some (insert m name bytes))
Saves save.Failed name bytes before after = IfSome before (λ m. ChangesFile name m after)
Saves save.Memory name bytes before after = IfSome before (λ m. ChangesFile name m after)
