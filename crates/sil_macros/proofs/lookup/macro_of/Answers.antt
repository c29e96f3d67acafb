use Rattle.std.proofs.Common.{◌≡◌, ◌≢◌, ◌↔◌, IfSome, IsNone, sym, subst}
use Rattle.sil_macros.specs.declared.names.Macro.{Macro}
use Rattle.sil_macros.specs.Macros.{name_of}
use Rattle.sil_macros.proofs.FoundLemmas.{IfSome-with_name, no_name}
use Rattle.sil_macros.proofs.lookup.macro_of.Goals as goal

pub returns : goal.returns
returns c = record {
  same = c.first_named.ensures;
  named = subst (λ o. IfSome o (λ m. name_of m ≡ c.args.name.now)) (sym c.first_named.ensures) (IfSome-with_name c.args.name.now);
  none = subst (λ o. IsNone o ↔ ((m : Macro) → name_of m ≢ c.args.name.now)) (sym c.first_named.ensures) (no_name c.args.name.now);
}
