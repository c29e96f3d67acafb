-- The list of the places of operations.
use Rattle.std.proofs.Common.{◌≡◌, ℕ, zero, suc, ◌+◌, ◌-◌, ◌<◌, ◌≤◌, List, [], ◌∷◌, ◌++◌, length, get_or, refl, sym, ap, ◌∙◌, arith, append_assoc}
use Rattle.layout_params.specs.Parameters.{Settings}
use Rattle.sil_micro.specs.Codes.{MicroCode}
use Rattle.rv_emit.specs.Code.{first_op, op_place}
use Rattle.rv_emit.specs.Emits.{op_places, op_places_from}

module _ (settings : Settings) (c : MicroCode) where
  pub first_place : op_place settings c 0 ≡ first_op settings.sizes.descr (length c.entries)
  unfolding op_place
  first_place = omega arith

  long_from : (q more : ℕ) → length (op_places_from settings c q more) ≡ more + 1
  long_from q zero = refl
  long_from q (suc more) = omega (arith, long_from (suc q) more)

  pub places_long : length (op_places settings c) ≡ length c.ops + 1
  places_long = long_from 0 (length c.ops)

  get_from : (q more k d : ℕ) → k ≤ more → get_or (op_places_from settings c q more) k d ≡ op_place settings c (q + k)
  get_from q zero zero d h = let z : q + 0 ≡ q = omega arith in ap (op_place settings c) (sym z)
  get_from q zero (suc k) d h = absurd (omega arith)
  get_from q (suc more) zero d h = let z : q + 0 ≡ q = omega arith in ap (op_place settings c) (sym z)
  get_from q (suc more) (suc k) d h =
      let z : suc q + k ≡ q + suc k = omega arith in
      get_from (suc q) more k d (omega arith) ∙ ap (op_place settings c) z

  -- the place of an operation in the list
  pub place_there : (q d : ℕ) → q ≤ length c.ops → get_or (op_places settings c) q d ≡ op_place settings c q
  place_there q d h = let z : 0 + q ≡ q = omega arith in get_from 0 (length c.ops) q d h ∙ ap (op_place settings c) z

  -- none so far
  pub no_place_yet : (places : List ℕ) → places ≡ [] → places ++ op_places_from settings c 0 (length c.ops - 0) ≡ op_places settings c
  no_place_yet places e =
      let n : length c.ops - 0 ≡ length c.ops = omega arith in
      ap (λ ps. ps ++ op_places_from settings c 0 (length c.ops - 0)) e ∙ ap (op_places_from settings c 0) n

  -- the places so far, and one more
  pub one_place_more : (places : List ℕ) (q place : ℕ) → q < length c.ops → place ≡ op_place settings c q → places ++ op_places_from settings c q (length c.ops - q) ≡ op_places settings c → (places ++ place ∷ []) ++ op_places_from settings c (q + 1) (length c.ops - (q + 1)) ≡ op_places settings c
  one_place_more places q place lt here so_far =
      let n : length c.ops - q ≡ suc (length c.ops - (q + 1)) = omega arith in
      let s : suc q ≡ q + 1 = omega arith in
      append_assoc places (place ∷ []) (op_places_from settings c (q + 1) (length c.ops - (q + 1)))
      ∙ ap (λ p. places ++ p ∷ op_places_from settings c (q + 1) (length c.ops - (q + 1))) here
      ∙ ap (λ j. places ++ op_place settings c q ∷ op_places_from settings c j (length c.ops - (q + 1))) (sym s)
      ∙ ap (λ m. places ++ op_places_from settings c q m) (sym n)
      ∙ so_far

  -- all of them, with the place after the last operation
  pub all_places : (places : List ℕ) (q place : ℕ) → q ≡ length c.ops → place ≡ op_place settings c q → places ++ op_places_from settings c q (length c.ops - q) ≡ op_places settings c → places ++ place ∷ [] ≡ op_places settings c
  all_places places q place end here so_far =
      let n : length c.ops - q ≡ 0 = omega arith in
      ap (λ p. places ++ p ∷ []) here ∙ ap (λ m. places ++ op_places_from settings c q m) (sym n) ∙ so_far
