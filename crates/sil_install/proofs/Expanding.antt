-- The code of a program can be emitted, and what is emitted of it behaves as the program.
use Rattle.std.proofs.Common.{◌≡◌, ℕ, ◌^◌, ◌≤◌, List, length, map, All, Bool, true, false, sym, ap, subst, ◌∙◌, arith}
use Rattle.std.proofs.lemmas.List.{length-map}
use Rattle.std.specs.List.{flat_map}
use Rattle.std.specs.Prelude.{not, sum_by}
use Rattle.layout_params.specs.Areas.{all_cells}
use Rattle.layout_params.specs.Parameters.{Settings, Parameters}
use Rattle.sil_model.specs.declared.program.Program.{Program}
use Rattle.sil_model.specs.Prints.{IsSilent}
use Rattle.sil_runs.specs.StepLaws.{LawOfSteps}
use Rattle.sil_model.specs.WellFormed.{IsWellFormed}
use Rattle.sil_micro.specs.Codes.{MicroCode, IsCode}
use Rattle.sil_micro.specs.Forms.{all_ops}
use Rattle.sil_micro.specs.Pieces.{is_quiet}
use Rattle.macro_expand.specs.Expanded.{IsExpansion}
use Rattle.macro_expand.specs.Steps.{StepsWithinCosts}
use Rattle.image_file.specs.Image.{Image}
use Rattle.rv_emit.specs.Code.{last_place, place_from}
use Rattle.rv_emit.specs.Emits.{CanEmit, Carries, statement_places}
use Rattle.rv_emit.specs.Parts.{IsImageOf}
use Rattle.sil_install.specs.Emission.{BehaveAs}
use Rattle.sil_install.specs.Installed.{Behaves}
use Rattle.sil_install.proofs.Alike.{law}
use Rattle.sil_install.proofs.Join.{carries_out}

-- where no operation writes records, none is allowed to
hushed : (b : Bool) → b ≡ true → not b ≡ false
hushed b h = ap not h

module _ (program : Program) (parameters : Parameters) (c : MicroCode) (good : IsWellFormed program parameters.settings) (x : IsExpansion program c) where
  abbrev settings : Settings
  settings = parameters.settings

  pub can_emit : IsCode c → CanEmit c settings
  can_emit is = record {
    code = is;
    whole = x.whole;
    legal = good.legal;
    cells = subst (λ k. all_cells settings k ≤ 2 ^ 20) (sym x.static_cells) good.cell_count;
    format_lengths = subst (All (λ text. length text ≤ 256)) (sym x.formats) good.format_lengths;
    format_bytes = subst (λ texts. sum_by length texts ≤ 2097152) (sym x.formats) good.format_bytes;
  }

  pub statement_count : length (statement_places settings c) ≡ length program.statements
  statement_count = length-map c.entries (place_from settings c) ∙ x.statements

  pub same_texts : flat_map (λ text. text) c.formats ≡ flat_map (λ text. text) program.formats
  same_texts = ap (flat_map (λ text. text)) x.formats

  pub behave : LawOfSteps → StepsWithinCosts program parameters c → (words places : List ℕ) → Carries settings c words places → BehaveAs program parameters words places
  behave steady steps words places carries image of words_are places_are =
      let ops = carries image of.same_settings words_are (of.constants ∙ sym same_texts) places_are in
      law image program parameters (last_place settings c) (not (all_ops is_quiet c.ops)) (steady program parameters good) of
      (carries_out program parameters c image x steps of ops good)
      (λ silent. hushed (all_ops is_quiet c.ops) (x.quiet silent))
