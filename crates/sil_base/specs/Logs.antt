-- The files of a log of saves.
use Rattle.std.specs.Prelude.{ℕ, List, map}
use Rattle.std.specs.Global.{Vec}
use Rattle.std.specs.FinMap.{from_entries}
use Rattle.sil_base.specs.Files.{Files}

-- the newest save of each name
abbrev pub files_of : List (List ℕ × Vec ℕ) → Files
files_of log = from_entries (map (λ e. (e.0, e.1.items)) log)
