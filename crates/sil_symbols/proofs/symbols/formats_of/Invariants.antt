use Rattle.std.proofs.Common.{◌≡◌, map, take}
use Rattle.sil_symbols.specs.StatementParts.{part_of, is_format}
use Rattle.sil_symbols.proofs.symbols.formats_of.Given as goal

abbrev pub invariant-loop-statement : goal.invariant-loop-statement
invariant-loop-statement l = l.formats.items ≡ map (λ s. is_format (part_of s.name)) (take l.statement-index l.statements)
