use Rattle.std.proofs.Common.{◌≡◌, ◌≤◌, sym, subst}
use Rattle.std.specs.Prelude.{IfSome, IsNone, ◌↔◌}
use Rattle.sil_macros.specs.Macros.{number_of}
use Rattle.sil_macros.proofs.FoundLemmas.{IfSome-with_number, no_number}
use Rattle.sil_macros.proofs.lookup.macro_at.Goals as goal

pub returns : goal.returns
returns c = record {
  same = c.nth.ensures;
  numbered = subst (λ o. IfSome o (λ m. number_of m ≡ c.args.number)) (sym c.nth.ensures) (IfSome-with_number c.args.number);
  none = subst (λ o. IsNone o ↔ (130 ≤ c.args.number)) (sym c.nth.ensures) (no_number c.args.number);
}
