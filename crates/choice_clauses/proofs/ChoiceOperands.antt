-- Where comparisons lead, and what integers that are delivered leave.
use Rattle.std.specs.Prelude.{FitsSigned, cond, int_lt, int_div, ◌==◌, bit_and}
use Rattle.std.specs.Int.{w64}
use Rattle.std.proofs.Common.{◌≡◌, ℕ, Bool, true, false, Option, Some, None, ℤ, pos, negsuc, zero, suc, refl}
use Rattle.layout_params.specs.declared.cell.Descr.{Descr as Descriptor}
use Rattle.sil_model.specs.declared.program.Flow.{Flow}
use Rattle.sil_model.specs.Effects.{leads}
use Rattle.sil_model.specs.Memory.{Memory, IsMemory, FitsDescr}
use Rattle.sil_model.proofs.Keeps.{Keeps, LeadsWithin, Writes, keeps_here, writes_set_descr}
use Rattle.sil_model.proofs.Operands.{range_fits}
use Rattle.choice_clauses.specs.ComparisonClauses.{by_order, by_sameness, by_flags}
use Rattle.choice_clauses.specs.IntegerClauses.{deliver, quotient}

chosen_leads : (last : ℕ) (c : Bool) (x y : Flow) → LeadsWithin last x → LeadsWithin last y → LeadsWithin last (cond c x y)
chosen_leads last true x y h k = h
chosen_leads last false x y h k = k

pub order_leads : (last : ℕ) (x y : ℤ) (greater equal less : Flow) → LeadsWithin last greater → LeadsWithin last equal → LeadsWithin last less → LeadsWithin last (by_order x y greater equal less)
order_leads last x y greater equal less g e l = chosen_leads last (int_lt y x) greater _ g (chosen_leads last (int_lt x y) less equal l e)

pub sameness_leads : (last : ℕ) (x y : Descriptor) (unequal equal : Flow) → LeadsWithin last unequal → LeadsWithin last equal → LeadsWithin last (by_sameness x y unequal equal)
sameness_leads last x y unequal equal u e =
    order_leads last x.a y.a unequal _ unequal u
    (order_leads last (pos x.f) (pos y.f) unequal _ unequal u (order_leads last (pos x.v) (pos y.v) unequal equal unequal u e u) u) u

pub flags_lead : (last f flags : ℕ) (lacking having : Flow) → LeadsWithin last lacking → LeadsWithin last having → LeadsWithin last (by_flags f flags lacking having)
flags_lead last f flags lacking having l h = chosen_leads last (bit_and f flags == flags) having lacking h l

pub quotient_fits : (x y a : ℤ) → quotient x y ≡ Some a → FitsSigned w64 a
quotient_fits x (pos zero) a is = cc
quotient_fits x (pos (suc n)) a is = range_fits (int_div x (pos (suc n))) a is
quotient_fits x (negsuc n) a is = range_fits (int_div x (negsuc n)) a is

keeps_leads : (last : ℕ) (m : Memory) (flow : Flow) (o : Option Memory) → LeadsWithin last flow → Writes m o → Keeps last m (leads flow o)
unfolding Keeps Writes
keeps_leads last m flow None l h = tt
keeps_leads last m flow (Some m') l h = (l, h)

pub keeps_deliver : (last : ℕ) (m : Memory) (d1 : ℤ) (d : Descriptor) (o : Option ℤ) (failure success : Flow) → IsMemory m → LeadsWithin last failure → LeadsWithin last success → FitsDescr m.limits d →
    ((a : ℤ) → o ≡ Some a → FitsSigned w64 a) → Keeps last m (deliver m d1 d o failure success)
keeps_deliver last m d1 d None failure success h f s fits range = keeps_here last m failure f h
keeps_deliver last m d1 d (Some a) failure success h f s fits range = keeps_leads last m success _ s (writes_set_descr m d1 (record d { a = a }) h (range a refl, fits.1, fits.2))
