-- Where a place stands among places that rise.
use Rattle.std.proofs.Common.{◌≡◌, ◌≢◌, ℕ, zero, suc, ◌+◌, ◌<◌, ◌≤◌, ◌⊎◌, inl, inr, List, [], ◌∷◌, length, map, get_or, Bool, true, false, ◌==◌, Some, None, Result, Ok, Err, refl, ap, ◌∙◌, arith}
use Rattle.std.specs.Prelude.{IsTrue, ◌&&◌, ◌%◌, nat_le, nat_lt, MatchResult}
use Rattle.std.specs.List.{position_from}
use Rattle.std.specs.List.Sorted.{IsBinarySearchResult}
use Rattle.std.specs.Ordering.{nat_cmp}
use Rattle.std.specs.Result.{result_ok}
use Rattle.std.proofs.Math.Nat.{eq-or-lt_of_le}
use Rattle.std.proofs.lemmas.List.Sorted.{searched}
use Rattle.image_file.specs.Image.{StatementEntry, places_rise}
use Rattle.rv_emulate.specs.Ranges.{Rises}

-- ---- places that rise

tail_rises : (x : ℕ) (xs : List ℕ) → Rises (x ∷ xs) → Rises xs
tail_rises x xs h = λ i j below within. h (suc i) (suc j) (omega (arith, below)) (omega (arith, within))

never_falls : (xs : List ℕ) → Rises xs → (i j : ℕ) → i ≤ j → j < length xs → get_or xs i 0 ≤ get_or xs j 0
never_falls xs h i j le within = on (eq-or-lt_of_le le)
  where
    on : (i ≡ j) ⊎ (i < j) → get_or xs i 0 ≤ get_or xs j 0
    on (inl e) = omega (arith, ap (λ k. get_or xs k 0) e)
    on (inr lt) = omega (arith, h i j lt within)

-- ---- what a search finds

found : (k : ℕ) (xs : List ℕ) (x i : ℕ) → Rises xs → i < length xs → get_or xs i 0 ≡ x → Some (k + i) ≡ position_from (λ y. x == y) k xs
found k [] x i h within e = absurd (omega arith)
found k (y ∷ ys) x zero h within e =
    let test : (x == y) ≡ true = grind arith in
    rw test (ap Some (omega arith))
found k (y ∷ ys) x (suc i) h within e =
    let below = h 0 (suc i) (omega arith) within in
    let test : (x == y) ≡ false = grind arith in
    let place : k + suc i ≡ k + 1 + i = omega arith in
    rw test (ap Some place ∙ found (k + 1) ys x i (tail_rises y ys h) (omega (arith, within)) e)

absent : (k : ℕ) (xs : List ℕ) (x : ℕ) → ((i : ℕ) → i < length xs → get_or xs i 0 ≢ x) → None ≡ position_from (λ y. x == y) k xs
absent k [] x h = refl
absent k (y ∷ ys) x h =
    let other : y ≢ x = h 0 (omega arith) in
    let test : (x == y) ≡ false = grind arith in
    rw test (absent (k + 1) ys x (λ i within. h (suc i) (omega (arith, within))))

pub searched_position : (xs : List ℕ) (x : ℕ) (r : Result ℕ ℕ) → Rises xs → IsBinarySearchResult (λ y. nat_cmp y x) xs r → result_ok r ≡ position_from (λ y. x == y) 0 xs
searched_position xs x r h is = on r (searched xs x r is (never_falls xs h))
  where
    on : (r : Result ℕ ℕ) → MatchResult r (λ i. (i < length xs) × (get_or xs i 0 ≡ x)) (λ i. (i ≤ length xs) × ((k : ℕ) → k < i → get_or xs k 0 < x) × ((k : ℕ) → i ≤ k → k < length xs → x < get_or xs k 0)) → result_ok r ≡ position_from (λ y. x == y) 0 xs
    on (Ok i) m = (let same : i ≡ 0 + i = omega arith in ap Some same ∙ found 0 xs x i h m.0 m.1)
    on (Err i) m = absent 0 xs x (λ k within. other k i m.1 m.2 within (nat_lt k i) refl)
      where
        other : (k i : ℕ) → ((k : ℕ) → k < i → get_or xs k 0 < x) → ((k : ℕ) → i ≤ k → k < length xs → x < get_or xs k 0) → k < length xs → (b : Bool) → nat_lt k i ≡ b → get_or xs k 0 ≢ x
        other k i low high within true e = let lt : k < i = grind arith in λ same. absurd (omega (arith, low k lt, same))
        other k i low high within false e = let le : i ≤ k = grind arith in λ same. absurd (omega (arith, high k le within, same))

-- ---- the places of an image

abbrev places_of : List StatementEntry → List ℕ
places_of es = map (λ e. e.place) es

all_true : (a b c d : Bool) → IsTrue (a && b && c && d) → (a ≡ true) × (d ≡ true)
all_true a b c d h = grind arith

least_place : (least end : ℕ) (es : List StatementEntry) (i : ℕ) → IsTrue (places_rise least end es) → i < length (places_of es) → least ≤ get_or (places_of es) i 0
least_place least end [] i h within = absurd (omega arith)
least_place least end (e ∷ es) zero h within =
    let t = all_true (nat_le least e.place) (e.place % 4 == 0) (nat_lt e.place end) (places_rise (e.place + 1) end es) h in
    let first = t.0 in
    grind arith
least_place least end (e ∷ es) (suc i) h within =
    let t = all_true (nat_le least e.place) (e.place % 4 == 0) (nat_lt e.place end) (places_rise (e.place + 1) end es) h in
    let first : least ≤ e.place = (let test = t.0 in grind arith) in
    omega (arith, first, least_place (e.place + 1) end es i t.1 (omega (arith, within)))

head_rises : (x : ℕ) (xs : List ℕ) → ((j : ℕ) → j < length xs → x < get_or xs j 0) → Rises xs → Rises (x ∷ xs)
head_rises x xs first h zero zero below within = absurd (omega (arith, below))
head_rises x xs first h zero (suc j) below within = first j (omega (arith, within))
head_rises x xs first h (suc i) zero below within = absurd (omega (arith, below))
head_rises x xs first h (suc i) (suc j) below within = h i j (omega (arith, below)) (omega (arith, within))

pub rising : (least end : ℕ) (es : List StatementEntry) → IsTrue (places_rise least end es) → Rises (places_of es)
rising least end [] h = λ i j below within. absurd (omega (arith, within))
rising least end (e ∷ es) h =
    let t = all_true (nat_le least e.place) (e.place % 4 == 0) (nat_lt e.place end) (places_rise (e.place + 1) end es) h in
    head_rises e.place (places_of es) (λ j within. omega (arith, least_place (e.place + 1) end es j t.1 within)) (rising (e.place + 1) end es t.1)
