-- What the constants of a setting are in the program's parameters, at a state where a statement can begin.
use Rattle.std.proofs.Common.{◌≡◌, ℕ, ◌+◌, ◌-◌, ◌*◌, ◌^◌, ◌≤◌, ◌<◌, List, length, ℤ, pos, negsuc, refl, sym, ap, ◌∙◌, arith}
use Rattle.std.proofs.lemmas.Int.{ints}
use Rattle.std.proofs.lemmas.Nat.{mul-le}
use Rattle.sil_base.specs.declared.places.TheConstants.{FIRST_CELL}
use Rattle.layout_params.specs.Areas.{empty_stack, hidden_cells}
use Rattle.layout_params.specs.Parameters.{Parameters, Settings}
use Rattle.sil_model.specs.declared.program.Arg.{Arg}
use Rattle.sil_model.specs.declared.program.Program.{Program}
use Rattle.sil_model.specs.declared.program.Specials.{Specials}
use Rattle.flow_clauses.specs.FlowClauses.{first_dynamic, past_dynamic}
use Rattle.sil_model.specs.Integers.{◌⊟◌, wrapped_difference}
use Rattle.sil_micro.specs.Expands.{CanBegin}
use Rattle.sil_model.specs.Entries.{entered_statement}
use Rattle.sil_micro.specs.Operations.{cell_address}
use Rattle.sil_micro.specs.MicroStates.{Setting, Micro}

-- differences of small numbers don't wrap
pub difference : (x y : ℕ) → y ≤ x → x < 2 ^ 63 → pos x ⊟ pos y ≡ pos (x - y)
unfolding wrapped_difference
difference x y h k = grind (arith, ints)

pub one_less : (n : ℕ) → n < 2 ^ 62 → pos (n + 1) ⊟ pos 1 ≡ pos n
one_less n h = let e : n + 1 - 1 ≡ n = omega arith in difference (n + 1) 1 (omega arith) (omega arith) ∙ ap pos e

module _ (g : Setting) (program : Program) (parameters : Parameters) (specials : Specials) (k : ℕ) (args : List Arg) (u : Micro) (h : CanBegin g program parameters specials k args u) where
  pub cell_size : u.state.memory.limits.cell_size ≡ parameters.settings.sizes.descr
  cell_size = ap (λ l. l.cell_size) h.valid.limits

  -- an address of the setting is one of the program's
  pub address : (count : Settings → ℕ → ℕ) → cell_address g (count g.settings g.static_cells) ≡ pos (FIRST_CELL + count parameters.settings (length program.cells) * parameters.settings.sizes.descr)
  address count =
      ap (λ (s : Settings). pos (FIRST_CELL + count s g.static_cells * s.sizes.descr)) h.setting.settings
      ∙ ap (λ n. pos (FIRST_CELL + count parameters.settings n * parameters.settings.sizes.descr)) h.setting.static_cells

  pub first : cell_address g (g.static_cells + hidden_cells g.settings) ≡ first_dynamic parameters.settings (length program.cells)
  first = address (λ s n. n + hidden_cells s)

  pub past : cell_address g (g.static_cells + hidden_cells g.settings + g.settings.dynamic_size) ≡ past_dynamic parameters.settings (length program.cells)
  past = address (λ s n. n + hidden_cells s + s.dynamic_size)

  pub bottom : cell_address g (g.static_cells + hidden_cells g.settings + g.settings.dynamic_size) ⊟ pos u.state.memory.limits.cell_size ≡ empty_stack parameters.settings (length program.cells)
  bottom =
      let d = parameters.settings.sizes.descr in
      let x = length program.cells + hidden_cells parameters.settings + parameters.settings.dynamic_size in
      let most : d ≤ 64 = omega (arith, cell_size, h.valid.memory.limits.most) in
      let few : x ≤ 2 ^ 20 = omega (arith, h.setting.well_formed.cell_count) in
      let low : x * d ≤ 2 ^ 20 * 64 = mul-le x d (2 ^ 20) 64 few most in
      ap (λ z. z ⊟ pos u.state.memory.limits.cell_size) past ∙ ap (λ n. past_dynamic parameters.settings (length program.cells) ⊟ pos n) cell_size
      ∙ difference (FIRST_CELL + x * d) d (omega arith) (omega arith)

  pub statement : (entry : ℤ) → entered_statement parameters.settings.sizes.descr (length program.statements) entry ≡ entered_statement u.state.memory.limits.cell_size g.statements entry
  statement entry = ap (λ n. entered_statement n (length program.statements) entry) (sym cell_size) ∙ ap (λ n. entered_statement u.state.memory.limits.cell_size n entry) (sym h.setting.statements)
