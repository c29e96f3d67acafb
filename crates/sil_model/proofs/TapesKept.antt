-- Effects that are told and keep the tapes.
use Rattle.std.proofs.Common.{◌≡◌, Option, Some, None, refl}
use Rattle.std.specs.Prelude.{Bool, true, false, if◌then◌else◌}
use Rattle.unit_io.specs.Tapes.{Tapes}
use Rattle.sil_model.specs.declared.program.Flow.{Flow}
use Rattle.sil_model.specs.Access.{◌>>=◌}
use Rattle.sil_model.specs.Effects.{MemoryEffect, Effect, goes, with_memory}
use Rattle.sil_model.specs.States.{State}
use Rattle.sil_model.specs.UnitMacros.{KeepsTapes}

pub tapes_read : {A : Type 0} (tapes : Tapes) (o : Option A) (f : A → Effect) → ((a : A) → KeepsTapes tapes (f a)) → KeepsTapes tapes (o >>= f)
unfolding KeepsTapes
tapes_read tapes None f h = tt
tapes_read tapes (Some a) f h = h a

pub tapes_if : (tapes : Tapes) (b : Bool) (x y : Effect) → KeepsTapes tapes x → KeepsTapes tapes y → KeepsTapes tapes (if b then x else y)
tapes_if tapes true x y f g = f
tapes_if tapes false x y f g = g

pub tapes_go : (tapes : Tapes) (flow : Flow) (t : State) → t.tapes ≡ tapes → KeepsTapes tapes (goes flow t)
unfolding KeepsTapes
tapes_go tapes flow t e = e

pub tapes_none : (tapes : Tapes) → KeepsTapes tapes None
unfolding KeepsTapes
tapes_none tapes = tt

pub tapes_memory : (s : State) (o : MemoryEffect) → KeepsTapes s.tapes (with_memory s o)
unfolding KeepsTapes
tapes_memory s None = tt
tapes_memory s (Some (flow, m)) = refl
