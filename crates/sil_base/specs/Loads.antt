-- Whole files that are loaded by name, and why they can't be had.
use Rattle.std.specs.Prelude.{◌≡◌, ℕ, nat_le, Bool, true, false, List, length, Option, Some, None, if◌then◌else◌}
use Rattle.std.specs.declared.result.Result.{Result}
use Rattle.std.specs.declared.result.Result.TheVariants.{Ok, Err}
use Rattle.std.specs.FinMap.{get}
use Rattle.sil_base.specs.Causes.{Rose}
use Rattle.sil_base.specs.Files.{Files}
use Rattle.sil_base.specs.declared.loading.LoadStop.{LoadStop}
use Rattle.sil_base.specs.declared.loading.LoadStop.TheVariants as stop

-- the bytes of a file, where there is one within the limit
abbrev pub of_file : Option (List ℕ) → List ℕ → ℕ → Result (List ℕ) LoadStop
of_file None name limit = Err (stop.Missing name)
of_file (Some bytes) name limit = if nat_le (length bytes) limit then Ok bytes else Err (stop.TooLong name)

-- what is loaded of these files
abbrev pub loaded : Files → List ℕ → ℕ → Result (List ℕ) LoadStop
loaded files name limit = of_file (get files name) name limit

-- a stop that has no cause in the files
abbrev pub is_free : LoadStop → Bool
is_free (stop.Missing name) = false
is_free (stop.TooLong name) = false
is_free (stop.Failed name) = true
is_free stop.Memory = true

-- a stop by a store fault comes only where the store's count rose
abbrev pub LoadCause : LoadStop → ℕ → ℕ → Type 0
LoadCause (stop.Missing name) before now = Unit {0}
LoadCause (stop.TooLong name) before now = Unit {0}
LoadCause (stop.Failed name) before now = Rose before now
LoadCause stop.Memory before now = Unit {0}

-- a stop names the file that was asked for
abbrev pub NamesFile : List ℕ → LoadStop → Type 0
NamesFile asked (stop.Missing name) = name ≡ asked
NamesFile asked (stop.TooLong name) = name ≡ asked
NamesFile asked (stop.Failed name) = name ≡ asked
NamesFile asked stop.Memory = Unit {0}

-- a result with another kind of stop
abbrev pub stopping : {A E D : Type 0} → (E → D) → Result A E → Result A D
stopping mapped (Ok x) = Ok x
stopping mapped (Err e) = Err (mapped e)
