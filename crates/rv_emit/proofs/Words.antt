-- Where the words of a part of a code stand.
use Rattle.std.proofs.Common.{◌≡◌, ℕ, zero, suc, ◌+◌, ◌-◌, ◌*◌, ◌/◌, ◌%◌, List, [], ◌∷◌, ◌++◌, map, drop, Some, ap, subst, ◌∙◌, arith}
use Rattle.std.proofs.lemmas.List.{drop-map}
use Rattle.std.specs.Prelude.{slice_get}
use Rattle.rv_isa.specs.declared.instr.Instr.{Instr}
use Rattle.rv_isa.specs.InstrWords.{word_of}
use Rattle.sil_base.specs.declared.places.TheConstants.{FIRST_WORD}
use Rattle.rv_emulate.specs.EmulatorSteps.{word_at}
use Rattle.rv_straight.specs.Code.{AreInstrs, StandAt}
use Rattle.rv_emit.proofs.Parted.{IsPart}

-- the first of what is left, and the rest
get_of_drop : (k : ℕ) (xs : List ℕ) (x : ℕ) (ys : List ℕ) → drop k xs ≡ x ∷ ys → (slice_get xs k ≡ Some x) × (drop (suc k) xs ≡ ys)
get_of_drop k [] x ys e = absurd (none k e)
  where
    none : (k : ℕ) → drop {A = ℕ} k [] ≡ x ∷ ys → ⊥
    none zero e = cc
    none (suc k) e = cc
get_of_drop zero (z ∷ zs) x ys e = (cc, cc)
get_of_drop (suc k) (z ∷ zs) x ys e = get_of_drop k zs x ys e

word_is : (words : List ℕ) (k w : ℕ) → slice_get words k ≡ Some w → word_at words (FIRST_WORD + 4 * k) ≡ Some w
word_is words k w e =
    let at : (FIRST_WORD + 4 * k - FIRST_WORD) / 4 ≡ k = omega arith in
    let z : (FIRST_WORD + 4 * k) % 4 ≡ 0 = omega arith in
    rw at (grind arith)

-- what is left of the words from k on begins with those of this code
stand_from : (words : List ℕ) (k : ℕ) (code more : List Instr) → AreInstrs code → drop k words ≡ map word_of (code ++ more) → StandAt words (FIRST_WORD + 4 * k) code
stand_from words k [] more have e = tt
stand_from words k (i ∷ is) more have e =
    let h = get_of_drop k words (word_of i) (map word_of (is ++ more)) e in
    let at : FIRST_WORD + 4 * suc k ≡ FIRST_WORD + 4 * k + 4 = omega arith in
    (have.0, word_is words k (word_of i) h.0, subst (λ p. StandAt words p is) at (stand_from words (suc k) is more have.1 h.1))

-- the words of a part of a code stand at its place
pub stands : (words : List ℕ) (code part : List Instr) (k place : ℕ) → words ≡ map word_of code → IsPart code k part → AreInstrs part → FIRST_WORD + 4 * k ≡ place → StandAt words place part
stands words code part k place are p have at =
    let left : drop k words ≡ map word_of (part ++ p.more) = ap (λ ws. drop k ws) are ∙ drop-map word_of k code ∙ ap (λ is. map word_of is) p.is in
    subst (λ q. StandAt words q part) at (stand_from words k part p.more have left)

-- codes one behind another have words where each has
pub are_both : (a b : List Instr) → AreInstrs a → AreInstrs b → AreInstrs (a ++ b)
are_both [] b h g = g
are_both (i ∷ a) b h g = (h.0, are_both a b h.1 g)
