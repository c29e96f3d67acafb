-- A legal width that isn't one of the other two.
use Rattle.std.proofs.Common.{arith, sym, inl, inr}
use Rattle.layout_params.specs.Views.{sizes_of}
use Rattle.layout_params.proofs.LegalLayouts.{flag_limit_of}
use Rattle.layout_params.proofs.numbers.Numbers.flag_limit.Goals as goal

pub returns-in_default-clause-is_limit : goal.returns-in_default-clause-is_limit
returns-in_default-clause-is_limit c = elim (flag_limit_of (sizes_of c.args.self.now.sizes) c.args.self.now.legal) [ inl p ↦ grind (arith, c.in_default) | inr (inl p) ↦ grind (arith, c.in_default) | inr (inr p) ↦ sym p.1 ]
