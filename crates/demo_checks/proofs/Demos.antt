-- Files of a demo give a program.
use Rattle.std.proofs.Common.{◌≡◌, ℕ, ◌≤◌, true, List, [], length, Some, None, refl, sym, subst}
use Rattle.std.specs.Prelude.{nat_le}
use Rattle.std.specs.declared.result.Result.TheVariants.{Ok}
use Rattle.std.specs.FinMap.{get}
use Rattle.sil_base.specs.Files.{Files}
use Rattle.sil_base.specs.declared.limits.TheConstants.{MAX_FILE_BYTES}
use Rattle.layout_params.specs.Parameters.{Parameters, standard}
use Rattle.layout_params.specs.Entries.{values_of}
use Rattle.layout_params.specs.ParameterFaults.{parameter_fault}
use Rattle.sil_cards.specs.CardParts.{CardParts}
use Rattle.sil_cards.specs.Readings.{cards_of}
use Rattle.sil_model.specs.declared.program.Program.{Program}
use Rattle.sil_program.specs.ProgramLaws.{LawOfPrograms}
use Rattle.sil_program.specs.Verdicts.{verdict, verdict_of}
use Rattle.sil_check.specs.SourceNames.{Names}
use Rattle.sil_check.specs.Inputs.{Cards, inputs_of, job_in, checked_of}
use Rattle.demo_source.specs.DemoSource.{demo_source, demo_params, demo_tables}
use Rattle.demo_checks.specs.DemoCards.{cards_of_demo}
use Rattle.demo_checks.proofs.CardTexts.{LawOfReading}
use Rattle.demo_checks.proofs.CardsRead.{demo_cards_of}
use Rattle.demo_checks.proofs.Forms.{demo_form}
use Rattle.demo_checks.proofs.OtherPhases.{HasProgram, statements_pass}

-- the cards of a demo have a program
pub cards_pass : (law : LawOfReading) (programs : LawOfPrograms) (n seed : ℕ) → n ≤ 16000 → HasProgram (verdict (cards_of_demo n seed) demo_tables standard)
cards_pass law programs n seed few =
    let form = demo_form law n seed in
    subst (λ source. HasProgram (verdict_of standard source [])) (sym form.is) (statements_pass programs n form.count form.body few form.all form.size)

inputs_read : (names : Names) (files : Files) (params tables : List ℕ) (cards : List CardParts) → get files names.params ≡ Some params → get files names.tables ≡ Some tables
    → nat_le (length params) MAX_FILE_BYTES ≡ true → nat_le (length tables) MAX_FILE_BYTES ≡ true → cards_of files names.source ≡ Ok cards
    → inputs_of names files ≡ Ok (record { params = params; tables = tables; source = Cards cards })
inputs_read names files params tables cards p t short short_tables read = rw (p, t, short, short_tables, read) refl

job_made : (params tables : List ℕ) (p : Parameters) (cards : List CardParts) (program : Program) → parameter_fault params ≡ None → values_of params ≡ p → verdict cards tables p ≡ Ok program
    → job_in (record { params = params; tables = tables; source = Cards cards }) ≡ Ok (record { program = program; parameters = p })
unfolding job_in
job_made params tables p cards program fault values passed = rw (fault, values, passed) refl

checked : (names : Names) (files : Files) (params tables : List ℕ) (p : Parameters) (cards : List CardParts) (program : Program) → get files names.params ≡ Some params → get files names.tables ≡ Some tables
    → nat_le (length params) MAX_FILE_BYTES ≡ true → nat_le (length tables) MAX_FILE_BYTES ≡ true → cards_of files names.source ≡ Ok cards
    → parameter_fault params ≡ None → values_of params ≡ p → verdict cards tables p ≡ Ok program
    → checked_of names files ≡ Ok (record { program = program; parameters = p })
checked names files params tables p cards program held held_tables short short_tables read fault values passed =
    rw (inputs_read names files params tables cards held held_tables short short_tables read) (job_made params tables p cards program fault values passed)

pub demos_pass : (law : LawOfReading) (programs : LawOfPrograms) → parameter_fault demo_params ≡ None → values_of demo_params ≡ standard
    → (names : Names) (files : Files) (n seed : ℕ) → n ≤ 16000 → get files names.params ≡ Some demo_params → get files names.tables ≡ Some demo_tables → get files names.source ≡ Some (demo_source n seed)
    → (program : Program) × (checked_of names files ≡ Ok (record { program = program; parameters = standard }))
demos_pass law programs fault values names files n seed few params tables source =
    let there = cards_pass law programs n seed few in
    (there.program, checked names files demo_params demo_tables standard (cards_of_demo n seed) there.program params tables refl refl (demo_cards_of law files names.source n seed few source) fault values there.is)
