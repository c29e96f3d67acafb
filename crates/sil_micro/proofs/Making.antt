-- Ways from a place on, and cases on what an operation finds: for the proofs of expansions.
use Rattle.std.proofs.Common.{◌≡◌, ℕ, zero, suc, ◌+◌, ◌≤◌, List, length, Option, Some, None, Bool, true, false, refl, sym, subst}
use Rattle.sil_model.specs.States.{Step}
use Rattle.sil_micro.specs.declared.op.Op.{Op}
use Rattle.sil_micro.specs.Expands.{Makes, Meets}
use Rattle.sil_micro.specs.Pieces.{joined, is_part}
use Rattle.sil_micro.specs.MicroStates.{Setting, Micro}
use Rattle.sil_micro.specs.MicroWays.{way}
use Rattle.sil_micro.proofs.Parts.{alike}

pub by_option : {A : Type 0} {P : Type 0} (o : Option A) → (o ≡ None → P) → ((x : A) → o ≡ Some x → P) → P
by_option None none some = none refl
by_option (Some x) none some = some x refl

pub by_test : {P : Type 0} (b : Bool) → (b ≡ true → P) → (b ≡ false → P) → P
by_test true holds fails = holds refl
by_test false holds fails = fails refl

-- so many more operations
abbrev pub more : ℕ → ℕ → ℕ
more zero fuel = fuel
more (suc n) fuel = suc (more n fuel)

pub by_way : {g : Setting} {next : ℕ} {piece : List Op} {place : ℕ} {u : Micro} {step : Step} {cost : ℕ} {G : Type 0} →
    Makes g next piece place u step cost → ((fuel : ℕ) → Meets (way g next piece fuel place u) step cost → G) → G
by_way x go = go x.fuel x.meets

-- what a part makes by itself, it makes behind another
pub then_part : {g : Setting} {next : ℕ} {part : List Op} {place : ℕ} {u : Micro} {step : Step} {cost : ℕ} (front : List Op) →
    is_part part ≡ true → place ≤ length part → Makes g next part place u step cost → Makes g next (joined front part) (length front + place) u step cost
then_part {g} {next} {part} {place} {u} {step} {cost} front inside le x = record {
  fuel = x.fuel;
  meets = subst (λ w. Meets w step cost) (sym (alike g next front part inside x.fuel place u le)) x.meets;
}
