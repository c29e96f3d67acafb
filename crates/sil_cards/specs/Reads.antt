-- Everything that is read, file by file and line by line, as far as COPY leads.
use Rattle.std.specs.Prelude.{ℕ, zero, suc, List, [], ◌∷◌, ◌++◌, Option}
use Rattle.sil_base.specs.declared.limits.TheConstants.{MAX_FILE_BYTES}
use Rattle.std.specs.declared.result.Result.{Result}
use Rattle.std.specs.declared.result.Result.TheVariants.{Ok, Err}
use Rattle.std.specs.FinMap.{get}
use Rattle.sil_base.specs.Files.{Files}
use Rattle.sil_base.specs.Loads.{of_file, stopping}
use Rattle.sil_base.specs.declared.loading.LoadStop.{LoadStop}
use Rattle.sil_base.specs.declared.loading.LoadStop.TheVariants as load
use Rattle.sil_cards.specs.declared.stop.CardStop.{CardStop}
use Rattle.sil_cards.specs.declared.stop.CardStop.TheVariants as stop
use Rattle.sil_cards.specs.declared.verdict.Verdict.{Verdict}
use Rattle.sil_cards.specs.declared.verdict.Verdict.TheVariants.{Copies}
use Rattle.sil_base.specs.Lines.{lines_of, without_end}
use Rattle.sil_cards.specs.CardVerdicts.{verdict}

-- a file that is read; one that can't be; or a line, with its end, in a file where files may be so many levels deeper
pub data Read : Type 0 where
  Opened : List ℕ → Read
  Refused : List ℕ → CardStop → Read
  ReadLine : ℕ → List ℕ → Read

-- what a COPY leads to
abbrev pub copied : (List ℕ → List Read) → Verdict → List Read
copied copy (Copies name) = copy name
copied copy _ = []

abbrev pub lines_read : (List ℕ → List Read) → ℕ → List (List ℕ) → List Read
lines_read copy deeper [] = []
lines_read copy deeper (line ∷ lines) =
    ReadLine deeper line ∷ (copied copy (verdict deeper (without_end line)) ++ lines_read copy deeper lines)

-- why a file can't be read
abbrev pub card_stop : LoadStop → CardStop
card_stop (load.Missing name) = stop.Missing name
card_stop (load.TooLong name) = stop.TooLong name
card_stop (load.Failed name) = stop.Failed name
card_stop load.Memory = stop.Memory

-- the text of a file, or why it can't be read
abbrev pub text_of : List ℕ → Option (List ℕ) → Result (List ℕ) CardStop
text_of name file = stopping card_stop (of_file file name MAX_FILE_BYTES)

abbrev pub text_at : Files → List ℕ → Result (List ℕ) CardStop
text_at files name = text_of name (get files name)

abbrev pub text_read : (List ℕ → List Read) → ℕ → List ℕ → Result (List ℕ) CardStop → List Read
text_read copy deeper name (Ok text) = Opened name ∷ lines_read copy deeper (lines_of text)
text_read copy deeper name (Err stop) = Refused name stop ∷ []

-- what is read of a file, where files may be so many levels deep, it among them
abbrev pub file_read : Files → ℕ → List ℕ → List Read
file_read files zero name = []
file_read files (suc deeper) name = text_read (file_read files deeper) deeper name (text_at files name)
