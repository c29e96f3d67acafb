-- What the check says of demos.
use Rattle.std.specs.Prelude.{◌≡◌, ℕ, ◌≤◌, List, Some}
use Rattle.std.specs.declared.result.Result.TheVariants.{Ok}
use Rattle.std.specs.FinMap.{get}
use Rattle.sil_base.specs.Files.{Files}
use Rattle.sil_cards.specs.Readings.{cards_of}
use Rattle.layout_params.specs.Parameters.{standard}
use Rattle.sil_model.specs.declared.program.Program.{Program}
use Rattle.sil_check.specs.SourceNames.{Names}
use Rattle.sil_check.specs.Inputs.{checked_of}
use Rattle.sil_program.specs.Verdicts.{verdict}
use Rattle.demo_source.specs.DemoSource.{demo_source, demo_params, demo_tables}
use Rattle.demo_checks.specs.DemoCards.{cards_of_demo}

-- a file that holds the source of a demo is read as its cards
abbrev pub LawOfDemoCards : Type 0
LawOfDemoCards = (files : Files) (name : List ℕ) (n seed : ℕ) → n ≤ 16000 → get files name ≡ Some (demo_source n seed) → cards_of files name ≡ Ok (cards_of_demo n seed)

-- the cards of a demo have a program
abbrev pub LawOfDemoPrograms : Type 0
LawOfDemoPrograms = (n seed : ℕ) → n ≤ 16000 → (program : Program) × (verdict (cards_of_demo n seed) demo_tables standard ≡ Ok program)

-- the files of a demo, whatever their names, are checked without a fault: they give a program with the standard parameters
abbrev pub LawOfDemos : Type 0
LawOfDemos = (names : Names) (files : Files) (n seed : ℕ) → n ≤ 16000 → get files names.params ≡ Some demo_params → get files names.tables ≡ Some demo_tables → get files names.source ≡ Some (demo_source n seed)
    → (program : Program) × (checked_of names files ≡ Ok (record { program = program; parameters = standard }))
