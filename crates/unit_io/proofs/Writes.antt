-- Writes in order.
use Rattle.std.proofs.Common.{◌≡◌, ℕ, suc, ◌+◌, ◌<◌, List, [], ◌∷◌, ◌++◌, length, take, drop, get_or, Option, Some, None, IfSome, true, false, refl, sym, ap, ◌∙◌, if◌then◌else◌, add-one, drop-cons}
use Rattle.std.proofs.lemmas.Bool.{true≢false}
use Rattle.std.proofs.lemmas.List.{take_more, take-append-drop}
use Rattle.unit_io.specs.declared.answers.UnitAnswer.TheVariants as unit
use Rattle.unit_io.specs.declared.answers.UnitsAnswer.TheVariants as units
use Rattle.unit_io.specs.Tapes.{TapeState, after_writes, writes_fail, next_fails, called, recorded}
use Rattle.unit_io.specs.Answers.{answer_of, Writes}
use Rattle.unit_io.specs.Calls.{WritesTape}

-- writes after writes of which none fails
pub writes-append : (xs ys : List (List ℕ)) (t : TapeState) → writes_fail xs t ≡ false → (writes_fail (xs ++ ys) t ≡ writes_fail ys (after_writes xs t)) × (after_writes (xs ++ ys) t ≡ after_writes ys (after_writes xs t))
writes-append [] ys t e = (refl, refl)
writes-append (x ∷ xs) ys t e =
    elim (next_fails t) as (λ b. (if b then true else writes_fail xs (called (recorded x t))) ≡ false
    → ((if b then true else writes_fail (xs ++ ys) (called (recorded x t))) ≡ writes_fail ys (if b then called t else after_writes xs (called (recorded x t))))
    × ((if b then called t else after_writes (xs ++ ys) (called (recorded x t))) ≡ after_writes ys (if b then called t else after_writes xs (called (recorded x t))))) [
      | true ↦ λ e. absurd (true≢false e)
      | false ↦ λ e. writes-append xs ys (called (recorded x t)) e
    ] e

answered-ok : (t : TapeState) → answer_of t ≡ unit.Ok → next_fails t ≡ false
answered-ok t = elim (next_fails t) as (λ b. (if b then unit.Failed else unit.Ok) ≡ unit.Ok → b ≡ false) [ true ↦ λ e. cc | false ↦ λ e. refl ]

answered-failed : (t : TapeState) → answer_of t ≡ unit.Failed → next_fails t ≡ true
answered-failed t = elim (next_fails t) as (λ b. (if b then unit.Failed else unit.Ok) ≡ unit.Failed → b ≡ true) [ true ↦ λ e. refl | false ↦ λ e. cc ]

module _ (records : List (List ℕ)) (i : ℕ) (r : List ℕ) (within : i < length records) (is : r ≡ get_or records i r) where
  -- one write more
  go_on : (t : TapeState) → writes_fail (take i records) t ≡ false → next_fails (after_writes (take i records) t) ≡ false → (writes_fail (take (i + 1) records) t ≡ false) × (after_writes (take (i + 1) records) t ≡ called (recorded r (after_writes (take i records) t)))
  go_on t e ok =
      let more : take (i + 1) records ≡ take i records ++ r ∷ [] = take_more records i r within ∙ ap (λ x. take i records ++ x ∷ []) (sym is) in
      let both = writes-append (take i records) (r ∷ []) t e in
      rw more (rw ok at both)

  -- a write that fails
  stop : (t : TapeState) → writes_fail (take i records) t ≡ false → next_fails (after_writes (take i records) t) ≡ true → (writes_fail records t ≡ true) × (after_writes records t ≡ called (after_writes (take i records) t))
  stop t e fails =
      let rest : drop i records ≡ r ∷ drop (i + 1) records = rw (add-one) (drop-cons records i r within ∙ ap (λ x. x ∷ drop (suc i) records) (sym is)) in
      let whole : take i records ++ r ∷ drop (i + 1) records ≡ records = ap (λ x. take i records ++ x) (sym rest) ∙ take-append-drop i records in
      let both = writes-append (take i records) (r ∷ drop (i + 1) records) t e in
      rw whole at (rw fails at both)

  abbrev Written : Option TapeState → Option TapeState → Type 0
  Written before now = IfSome before (λ t. (writes_fail (take i records) t ≡ false) × (now ≡ Some (after_writes (take i records) t)))

  pub written-more : (before now after : Option TapeState) (bytes : List ℕ) → bytes ≡ r → Written before now → IfSome now (λ t. Writes bytes t unit.Ok after) → IfSome before (λ t. (writes_fail (take (i + 1) records) t ≡ false) × (after ≡ Some (after_writes (take (i + 1) records) t)))
  written-more None now after bytes same inv w = tt
  written-more (Some t) now after bytes same inv w =
      let s = after_writes (take i records) t in
      let write = rw inv.1 at w in
      let ok = answered-ok s write.0 in
      let both = go_on t inv.0 ok in
      (both.0, (rw (ok, same) at write.1) ∙ ap Some (sym both.1))

  pub written-failed : (before now after : Option TapeState) (bytes : List ℕ) → Written before now → IfSome now (λ t. Writes bytes t unit.Failed after) → IfSome before (λ t. (w : TapeState) × (after ≡ Some w) × WritesTape records t units.Failed w)
  written-failed None now after bytes inv w = tt
  written-failed (Some t) now after bytes inv w =
      let s = after_writes (take i records) t in
      let write = rw inv.1 at w in
      let fails = answered-failed s write.0 in
      let both = stop t inv.0 fails in
      (after_writes records t, (rw fails at write.1) ∙ ap Some (sym both.1), (both.0, refl))
