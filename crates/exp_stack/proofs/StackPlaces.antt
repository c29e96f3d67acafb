-- The ends of the stack, as operations compute them.
use Rattle.std.proofs.Common.{◌≡◌, ℕ, ◌+◌, ◌-◌, ◌*◌, ◌≤◌, ◌^◌, List, length, ap, ◌∙◌, arith}
use Rattle.std.proofs.Math.Nat.{mul-le-mul_left}
use Rattle.std.specs.Prelude.{ℤ, pos}
use Rattle.sil_base.specs.declared.places.TheConstants.{FIRST_CELL}
use Rattle.layout_params.specs.Areas.{all_cells, empty_stack, hidden_cells}
use Rattle.layout_params.specs.Parameters.{Parameters}
use Rattle.sil_model.specs.declared.program.Arg.{Arg}
use Rattle.sil_model.specs.declared.program.Program.{Program}
use Rattle.sil_model.specs.declared.program.Specials.{Specials}
use Rattle.sil_model.specs.Integers.{◌⊟◌}
use Rattle.sil_model.specs.Memory.{Memory}
use Rattle.flow_clauses.specs.StackClauses.{last_cell}
use Rattle.sil_micro.specs.Expands.{CanBegin}
use Rattle.sil_micro.specs.MicroStates.{Setting, Micro}
use Rattle.sil_micro.specs.Operations.{cell_address}
use Rattle.exp_stack.proofs.Arithmetic.{difference_pos}

-- the address of the last cell
abbrev pub last_of : Memory → ℤ
last_of m = pos (FIRST_CELL + length m.cells * m.limits.cell_size - m.limits.cell_size)

-- the address of the stack's first cell
abbrev pub stack_of : Setting → ℤ
stack_of g = cell_address g (g.static_cells + hidden_cells g.settings + g.settings.dynamic_size)

module _ (g : Setting) (program : Program) (parameters : Parameters) (specials : Specials) (k : ℕ) (args : List Arg) (u : Micro) (h : CanBegin g program parameters specials k args u) where
  abbrev statics : ℕ
  statics = length program.cells

  size_is : u.state.memory.limits.cell_size ≡ parameters.settings.sizes.descr
  size_is = ap (λ l. l.cell_size) h.valid.limits

  pub last_is : last_of u.state.memory ≡ last_cell parameters.settings statics
  last_is =
      ap (λ n. pos (FIRST_CELL + n * u.state.memory.limits.cell_size - u.state.memory.limits.cell_size)) h.valid.cells
      ∙ ap (λ d. pos (FIRST_CELL + all_cells parameters.settings statics * d - d)) size_is

  pub bottom_is : stack_of g ⊟ pos u.state.memory.limits.cell_size ≡ empty_stack parameters.settings statics
  bottom_is =
      let settings = parameters.settings in
      let d = settings.sizes.descr in
      let x = statics + hidden_cells settings + settings.dynamic_size in
      let few : x ≤ 2 ^ 20 = omega (arith, h.valid.cells, h.valid.memory.count) in
      let most : d ≤ 64 = omega (arith, size_is, h.valid.memory.limits.most) in
      let short : x * d ≤ x * 64 = mul-le-mul_left x most in
      ap (λ d'. stack_of g ⊟ pos d') size_is
      ∙ ap (λ s. cell_address g (g.static_cells + hidden_cells s + s.dynamic_size) ⊟ pos d) h.setting.settings
      ∙ ap (λ n. cell_address g (n + hidden_cells settings + settings.dynamic_size) ⊟ pos d) h.setting.static_cells
      ∙ ap (λ s. pos (FIRST_CELL + x * s.sizes.descr) ⊟ pos d) h.setting.settings
      ∙ difference_pos (FIRST_CELL + x * d) d (omega (arith, most)) (omega (arith, few, short))
