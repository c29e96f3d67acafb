-- A source that was resolved, as the code holds it.
use Rattle.std.specs.Prelude.{◌≡◌}
use Rattle.sil_symbols.specs.Resolved.{Resolves}
use Rattle.sil_shapes.specs.declared.resolution.Resolution.{Resolution}
use Rattle.sil_shapes.specs.Locations.{executable_count}
use Rattle.sil_shapes.specs.ShapeRules.{Measure, measure_of}

-- the symbols are those of the source, and the executable statements are counted
pub record IsResolution (source : Resolution) : Type 0 where
  pub resolves : Resolves source.params.now source.statements.now source.symbols.now
  pub counted : source.count ≡ executable_count source.statements.now

abbrev pub measure_in : Resolution → Measure
measure_in source = measure_of source.params.now source.statements.now
