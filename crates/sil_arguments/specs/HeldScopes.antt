-- Sources whose names are bound, as the code holds them, and stops on the way.
use Rattle.std.specs.Prelude.{◌≡◌, Option, None}
use Rattle.sil_shapes.specs.HeldSources.{IsResolution}
use Rattle.sil_arguments.specs.declared.bound.BoundSource.{BoundSource}
use Rattle.sil_arguments.specs.declared.stop.ProgramStop.{ProgramStop}
use Rattle.sil_arguments.specs.declared.stop.ProgramStop.TheVariants as stop
use Rattle.sil_arguments.specs.MadeArguments.{Scope, scope_of}

-- a stop where this is made, if anything is: want of memory, or nothing is made
abbrev pub IsUnmade : {A : Type 0} → Option A → ProgramStop → Type 0
IsUnmade made (stop.Faults faults) = ⊥
IsUnmade made stop.NotBuilt = made ≡ None
IsUnmade made stop.Memory = Unit {0}

-- the symbols are those of the source
abbrev pub IsBound : BoundSource → Type 0
IsBound bound = IsResolution bound.source

-- what its names stand for
abbrev pub scope_in : BoundSource → Scope
scope_in bound = scope_of bound.source.params.now bound.source.statements.now bound.tables.now
