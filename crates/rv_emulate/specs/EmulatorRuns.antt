-- Runs of the emulator, and the statements that they meet.
use Rattle.std.specs.Prelude.{ℕ, zero, suc, ◌+◌, ◌*◌, List, [], ◌∷◌, ◌++◌, Option, Some, None, if◌then◌else◌, ◌==◌}
use Rattle.sil_base.specs.declared.limits.TheConstants.{STATEMENT_INSTRUCTIONS, VISIT_INSTRUCTIONS}
use Rattle.unit_io.specs.Tapes.{Tapes}
use Rattle.unit_io.specs.RunEnds.{Run}
use Rattle.image_file.specs.Image.{Image, StatementEntry}
use Rattle.rv_emulate.specs.declared.end.CpuEnd.{CpuEnd}
use Rattle.rv_emulate.specs.declared.end.CpuEnd.TheVariants.{Runaway}
use Rattle.rv_emulate.specs.EmulatorStates.{State, Outcome, On, Ended, start, steps_left, cell_total}
use Rattle.rv_emulate.specs.EmulatorSteps.{step}

abbrev pub on_state : Outcome → (State → Outcome) → Outcome
on_state (On s) go = go s
on_state (Ended e tapes) go = Ended e tapes

-- n instructions, or fewer to the end
unfoldable pub run : Image → ℕ → State → Outcome
run image zero s = On s
run image (suc n) s = on_state (step image s) (run image n)

-- the number, counted from k on, of the statement whose place this is
abbrev pub entry_from : ℕ → List StatementEntry → ℕ → Option ℕ
entry_from k [] pc = None
entry_from k (e ∷ es) pc = if pc == e.place then Some k else entry_from (suc k) es pc

unfoldable pub entry_at : List StatementEntry → ℕ → Option ℕ
entry_at statements pc = entry_from 0 statements pc

-- a statement is met where pc is its place and steps are left
abbrev pub met_with : Option ℕ → ℕ → Option ℕ
met_with o zero = None
met_with o (suc left) = o

abbrev pub met_now : Image → State → Option ℕ
met_now image s = met_with (entry_at image.statements s.pc) (steps_left s)

abbrev pub listed : Option ℕ → List ℕ
listed None = []
listed (Some k) = k ∷ []

abbrev pub met_after : Outcome → (State → List ℕ) → List ℕ
met_after (On s) go = go s
met_after (Ended e tapes) go = []

-- the statements that are met at the starts of n instructions
unfoldable pub met : Image → ℕ → State → List ℕ
met image zero s = []
met image (suc n) s = listed (met_now image s) ++ met_after (step image s) (met image n)

-- a run that has not ended when its budget is used up is cut off
abbrev pub end_of : Outcome → Option CpuEnd
end_of (On s) = Some Runaway
end_of (Ended e tapes) = e

abbrev pub tapes_of : Outcome → Tapes
tapes_of (On s) = s.tapes
tapes_of (Ended e tapes) = tapes

-- a run from a state under a budget of instructions
abbrev pub run_under : Image → ℕ → State → Run CpuEnd
run_under image budget s = record {
  end = end_of (run image budget s);
  tapes = tapes_of (run image budget s);
  met = met image budget s;
}

-- the run of an image from its start, for at most n statements and `budget` instructions
unfoldable pub emulation : Image → Tapes → ℕ → ℕ → Run CpuEnd
emulation image tapes n budget = run_under image budget (start image tapes n)

-- the instructions that a run of at most n statements over so many cells of so many bytes may take
abbrev pub budget_of : ℕ → ℕ → ℕ → ℕ
budget_of n cells descr = (n + 1) * (STATEMENT_INSTRUCTIONS + VISIT_INSTRUCTIONS * (4096 + 4 * cells * descr))

abbrev pub budget : Image → ℕ → ℕ
budget image n = budget_of n (cell_total image) image.settings.sizes.descr
