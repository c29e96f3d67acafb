-- A list that is filled from its front.
use Rattle.std.proofs.Common.{◌≡◌, ℕ, suc, ◌+◌, ◌-◌, ◌<◌, List, [], ◌∷◌, ◌++◌, map, set, replicate, sym, ap, ◌∙◌, append_assoc, append-nil, arith}
use Rattle.std.specs.List.{range_with_len}
use Rattle.std.proofs.lemmas.List.{set-append_right}
use Rattle.std.proofs.lemmas.List.FromFn.{length-map-range_with_len, map-range_with_len_more}

module _ {A : Type 0} (f : ℕ → A) (blank : A) where
  -- the first n of 256 places are filled
  abbrev pub IsFilled : ℕ → List A → Type 0
  IsFilled n xs = xs ≡ map f (range_with_len 0 n) ++ replicate (256 - n) blank

  pub filled_more : (n : ℕ) (xs : List A) → n < 256 → IsFilled n xs → IsFilled (n + 1) (set xs n (f n))
  filled_more n xs less h =
      let front = map f (range_with_len 0 n) in
      let rest = 256 - (n + 1) in
      let left : 256 - n ≡ suc rest = omega arith in
      let none : n - n ≡ 0 = omega arith in
      ap (λ ys. set ys n (f n)) h
      ∙ ap (λ m. set (front ++ replicate m blank) n (f n)) left
      ∙ set-append_right front (blank ∷ replicate rest blank) n n (f n) (length-map-range_with_len f 0 n) (omega arith)
      ∙ ap (λ m. front ++ set (blank ∷ replicate rest blank) m (f n)) none
      ∙ sym (append_assoc front (f n ∷ []) (replicate rest blank))
      ∙ ap (λ ys. ys ++ replicate rest blank) (sym (map-range_with_len_more f 0 n n (omega arith)))

  pub filled_whole : (n : ℕ) (xs : List A) → n ≡ 256 → IsFilled n xs → xs ≡ map f (range_with_len 0 256)
  filled_whole n xs end h =
      h
      ∙ ap (λ m. map f (range_with_len 0 m) ++ replicate (256 - m) blank) end
      ∙ append-nil (map f (range_with_len 0 256))
