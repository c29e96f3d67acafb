-- The places of statements among all others.
use Rattle.std.proofs.Common.{◌≡◌, ◌≢◌, ℕ, zero, suc, ◌+◌, ◌<◌, List, [], ◌∷◌, map, Some, None, refl, ap, ◌∙◌, arith}
use Rattle.std.specs.Prelude.{slice_get}
use Rattle.image_file.specs.Image.{StatementEntry}
use Rattle.rv_emulate.specs.EmulatorRuns.{entry_from, entry_at}

abbrev places : List StatementEntry → List ℕ
places es = map (λ e. e.place) es

-- no statement stands at this place
none_from : (j q : ℕ) (es : List StatementEntry) → ((k p : ℕ) → slice_get (places es) k ≡ Some p → q ≢ p) → entry_from j es q ≡ None
none_from j q [] apart = refl
none_from j q (e ∷ es) apart =
    let ne = apart 0 e.place refl in
    let rest = none_from (suc j) q es (λ k p h. apart (suc k) p h) in
    grind arith

pub no_entry : (q : ℕ) (es : List StatementEntry) → ((k p : ℕ) → slice_get (map (λ e. e.place) es) k ≡ Some p → q ≢ p) → entry_at es q ≡ None
unfolding entry_at
no_entry q es apart = none_from 0 q es apart

-- the first that stands there
here_from : (j k q : ℕ) (es : List StatementEntry) → slice_get (places es) k ≡ Some q → ((i p : ℕ) → i < k → slice_get (places es) i ≡ Some p → q ≢ p) → entry_from j es q ≡ Some (j + k)
here_from j k q [] is apart = absurd cc
here_from j zero q (e ∷ es) is apart =
    let same : e.place ≡ q = cc in
    let z : j + 0 ≡ j = omega arith in
    grind arith
here_from j (suc k) q (e ∷ es) is apart =
    let ne = apart 0 e.place (omega arith) refl in
    let rest = here_from (suc j) k q es is (λ i p lt h. apart (suc i) p (omega arith) h) in
    let z : suc j + k ≡ j + suc k = omega arith in
    grind arith

pub entry_is : (k q : ℕ) (es : List StatementEntry) → slice_get (map (λ e. e.place) es) k ≡ Some q → ((i p : ℕ) → i < k → slice_get (map (λ e. e.place) es) i ≡ Some p → q ≢ p) → entry_at es q ≡ Some k
unfolding entry_at
entry_is k q es is apart = let z : 0 + k ≡ k = omega arith in here_from 0 k q es is apart ∙ ap Some z
