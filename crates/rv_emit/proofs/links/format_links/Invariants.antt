use Rattle.std.proofs.Common.{◌≡◌, ◌+◌, length, take}
use Rattle.std.specs.Prelude.{sum_by}
use Rattle.sil_base.specs.declared.places.TheConstants.{FIRST_CONSTANT}
use Rattle.rv_emit.proofs.links.format_links.Given as goal

abbrev pub invariant-loop-format : goal.invariant-loop-format
invariant-loop-format l = l.text ≡ FIRST_CONSTANT + sum_by length (take l.format-index l.before)
