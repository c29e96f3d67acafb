-- The count of instructions, over plain numbers.
use Rattle.std.proofs.Common.{◌≡◌, ℕ, suc, ◌+◌, ◌-◌, ◌*◌, ◌≤◌, length, Some, sym, ap, ◌∙◌, subst, arith}
use Rattle.std.proofs.lemmas.List.{length-map}
use Rattle.std.specs.Prelude.{slice_get}
use Rattle.layout_params.specs.Parameters.{Settings, Parameters}
use Rattle.sil_model.specs.declared.program.Program.{Program}
use Rattle.sil_model.specs.declared.program.Statement.{Statement}
use Rattle.sil_model.specs.States as machine
use Rattle.layout_params.specs.Areas.{all_cells}
use Rattle.sil_runs.specs.Costs.{cost, weight, weight_limit}
use Rattle.sil_model.specs.Valid.{IsValid}
use Rattle.sil_runs.specs.StepLaws.{IsSteady}
use Rattle.image_file.specs.Image.{Image}
use Rattle.sil_model.specs.CellWords.{kind_of}
use Rattle.rv_emit.specs.Parts.{IsImageOf}
use Rattle.rv_emulate.specs.EmulatorStates.{cell_total}

pub less : (left slot more b : ℕ) → suc left * slot + 2000 ≤ b → suc more ≤ slot → left * slot + 2000 ≤ b - suc more
less left slot more b h le = omega arith

pub enough : (left slot b : ℕ) → suc left * slot + 2000 ≤ b → slot ≤ b
enough left slot b h = omega arith

pub after_start : (n slot more : ℕ) → 4000 ≤ slot → suc more ≤ 2000 → n * slot + 2000 ≤ (n + 1) * slot - suc more
after_start n slot more h le = omega arith

pub at_start : (n slot more : ℕ) → 4000 ≤ slot → suc more ≤ 2000 → suc more ≤ (n + 1) * slot
at_start n slot more h le = omega arith

-- the instructions that one statement may take at most
abbrev pub slot_of : Image → ℕ
slot_of image = 2000 + 400 * (4096 + 4 * cell_total image * image.settings.sizes.descr)

pub slot_large : (image : Image) → 4000 ≤ slot_of image
slot_large image = omega arith

-- an image has as many cells as the memory of its program
pub same_cells : (image : Image) (program : Program) (settings : Settings) → IsImageOf image program settings → cell_total image ≡ all_cells settings (length program.cells)
same_cells image program settings of =
    ap (λ s. all_cells s (length image.kinds)) of.same_settings ∙ ap (λ k. all_cells settings (length k)) of.kinds ∙ ap (λ k. all_cells settings k) (length-map program.cells kind_of)

cost_below : (program : Program) (parameters : Parameters) (st : Statement) (m : machine.State) (limit : ℕ) → weight program parameters st m ≤ limit → cost program parameters st m ≤ 2000 + 400 * limit
unfolding cost
cost_below program parameters st m limit h = omega (arith, h)

-- the cost of a statement is within what one statement may take
pub cost_fits : (image : Image) (program : Program) (parameters : Parameters) (m : machine.State) (st : Statement) → IsImageOf image program parameters.settings → IsSteady program parameters → slice_get program.statements m.statement ≡ Some st → IsValid program parameters.settings m → cost program parameters st m ≤ slot_of image
cost_fits image program parameters m st of steady is valid =
    let settings = parameters.settings in
    let cells : length m.memory.cells ≡ cell_total image = valid.cells ∙ sym (same_cells image program settings of) in
    let below = cost_below program parameters st m (weight_limit settings (length m.memory.cells)) (steady.bound st m is valid) in
    let a : cost program parameters st m ≤ 2000 + 400 * (4096 + 4 * cell_total image * settings.sizes.descr) = subst (λ k. cost program parameters st m ≤ 2000 + 400 * (4096 + 4 * k * settings.sizes.descr)) cells below in
    subst (λ s. cost program parameters st m ≤ 2000 + 400 * (4096 + 4 * cell_total image * s.sizes.descr)) (sym of.same_settings) a
