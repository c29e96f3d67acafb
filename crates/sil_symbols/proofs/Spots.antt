-- Addresses, one statement more, and counts that are capped.
use Rattle.std.proofs.Common.{◌≡◌, ℕ, ◌+◌, ◌-◌, ◌*◌, ◌^◌, ◌≤◌, ◌<◌, min, List, [], ◌∷◌, ◌++◌, refl, ap, sym, length, take, get_or, ◌∙◌, ◌⊎◌, inl, inr, arith, pos, leb, Bool, true, false, if◌then◌else◌}
use Rattle.std.proofs.Math.Nat.{mul-le-mul_left}
use Rattle.std.proofs.lemmas.Nat.{mul-le}
use Rattle.std.proofs.lemmas.List.{take_more}
use Rattle.std.proofs.lemmas.Bool.Decides.{leb_tells, nat_tests}
use Rattle.sil_symbols.specs.declared.addresses.Spot.{Spot}
use Rattle.sil_base.specs.declared.places.TheConstants.{FIRST_CELL, FIRST_ENTRY}
use Rattle.sil_symbols.specs.declared.outcome.Outcome.{Outcome}
use Rattle.sil_symbols.specs.declared.outcome.Outcome.TheVariants.{NoValue}
use Rattle.sil_symbols.specs.declared.part.Part.{Part}
use Rattle.sil_symbols.specs.declared.part.Part.TheVariants.{Equation, Here, Unread, End, Descriptors, Array, Buffer, String, Format, Executable}
use Rattle.sil_symbols.specs.declared.stmt.Stmt.{Stmt}
use Rattle.sil_symbols.specs.StatementParts.{part_of}
use Rattle.sil_symbols.specs.Expressions.{bounded}
use Rattle.sil_symbols.specs.Addresses.{cells_of, past, past_part, label_address, addresses_from, spot_after}
use Rattle.sil_symbols.specs.HeldNames.{capped}

module _ (descr : ℕ) (names : List ℕ → Outcome) where
  pub spot_after-push : (spot : Spot) (xs : List Stmt) (s : Stmt) → spot_after descr names spot (xs ++ s ∷ []) ≡ past descr names (spot_after descr names spot xs) s
  spot_after-push spot [] s = refl
  spot_after-push spot (x ∷ xs) s = spot_after-push (past descr names spot x) xs s

  pub addresses_from-push : (spot : Spot) (xs : List Stmt) (s : Stmt)
      → addresses_from descr names spot (xs ++ s ∷ []) ≡ addresses_from descr names spot xs ++ label_address descr (spot_after descr names spot xs) (part_of s.name) ∷ []
  addresses_from-push spot [] s = refl
  addresses_from-push spot (x ∷ xs) s = ap (λ l. label_address descr spot (part_of x.name) ∷ l) (addresses_from-push (past descr names spot x) xs s)

bounded_large : (n : ℕ) → 2 ^ 63 ≤ n → bounded (pos n) ≡ NoValue
bounded_large n h = grind (arith, nat_tests)

capped_product : (c d : ℕ) → 16 ≤ d → (min c (2 ^ 64 - 1) * d ≡ c * d) ⊎ ((2 ^ 63 ≤ min c (2 ^ 64 - 1) * d) × (2 ^ 63 ≤ c * d))
capped_product c d h = by (leb_tells c (2 ^ 64 - 1))
  where
    by : ((leb c (2 ^ 64 - 1) ≡ true) × (c ≤ 2 ^ 64 - 1)) ⊎ ((leb c (2 ^ 64 - 1) ≡ false) × (2 ^ 64 - 1 < c)) → (min c (2 ^ 64 - 1) * d ≡ c * d) ⊎ ((2 ^ 63 ≤ min c (2 ^ 64 - 1) * d) × (2 ^ 63 ≤ c * d))
    by (inl p) = let e : min c (2 ^ 64 - 1) ≡ c = omega arith in inl (ap (λ n. n * d) e)
    by (inr p) =
        let e : min c (2 ^ 64 - 1) ≡ 2 ^ 64 - 1 = omega arith in
        inr (rw e (omega (arith, mul-le-mul_left (2 ^ 64 - 1) h)), omega (arith, mul-le (2 ^ 64 - 1) 16 c d (omega arith) h))

bounded_capped : (first c d : ℕ) → 16 ≤ d → bounded (pos (first + min c (2 ^ 64 - 1) * d)) ≡ bounded (pos (first + c * d))
bounded_capped first c d h = by (capped_product c d h)
  where
    by : (min c (2 ^ 64 - 1) * d ≡ c * d) ⊎ ((2 ^ 63 ≤ min c (2 ^ 64 - 1) * d) × (2 ^ 63 ≤ c * d)) → bounded (pos (first + min c (2 ^ 64 - 1) * d)) ≡ bounded (pos (first + c * d))
    by (inl e) = ap (λ n. bounded (pos (first + n))) e
    by (inr p) = bounded_large _ (omega arith) ∙ sym (bounded_large _ (omega arith))

here-capped : (d cells statements : ℕ) (b : Bool) → 16 ≤ d
    → (if b then bounded (pos (FIRST_CELL + min cells (2 ^ 64 - 1) * d)) else bounded (pos (FIRST_ENTRY + min statements (2 ^ 64 - 1) * d)))
    ≡ (if b then bounded (pos (FIRST_CELL + cells * d)) else bounded (pos (FIRST_ENTRY + statements * d)))
here-capped d cells statements true h = bounded_capped FIRST_CELL cells d h
here-capped d cells statements false h = bounded_capped FIRST_ENTRY statements d h

-- a label's address is the same by capped counts
pub label_address-capped : (d : ℕ) (spot : Spot) (part : Part) → 16 ≤ d → label_address d (capped spot) part ≡ label_address d spot part
label_address-capped d spot Equation h = refl
label_address-capped d spot Unread h = refl
label_address-capped d spot End h = refl
label_address-capped d spot Executable h = bounded_capped FIRST_ENTRY spot.statements d h
label_address-capped d spot Here h = here-capped d spot.cells spot.statements spot.in_data h
label_address-capped d spot (Descriptors n) h = bounded_capped FIRST_CELL spot.cells d h
label_address-capped d spot Array h = bounded_capped FIRST_CELL spot.cells d h
label_address-capped d spot Buffer h = bounded_capped FIRST_CELL spot.cells d h
label_address-capped d spot String h = bounded_capped FIRST_CELL spot.cells d h
label_address-capped d spot Format h = bounded_capped FIRST_CELL spot.cells d h

capped_sum : (c n : ℕ) → min (min c (2 ^ 64 - 1) + n) (2 ^ 64 - 1) ≡ min (c + n) (2 ^ 64 - 1)
capped_sum c n = omega arith

-- and what stands past a statement
pub past_part-capped : (spot : Spot) (n : ℕ) (part : Part) → capped (past_part (capped spot) n part) ≡ capped (past_part spot n part)
past_part-capped spot n Equation = grind arith
past_part-capped spot n Unread = grind arith
past_part-capped spot n End = grind arith
past_part-capped spot n Here = grind arith
past_part-capped spot n Executable = grind (arith, capped_sum)
past_part-capped spot n (Descriptors m) = grind (arith, capped_sum)
past_part-capped spot n Array = grind (arith, capped_sum)
past_part-capped spot n Buffer = grind (arith, capped_sum)
past_part-capped spot n String = grind (arith, capped_sum)
past_part-capped spot n Format = grind (arith, capped_sum)

take_step : (xs : List Stmt) (i : ℕ) (s : Stmt) → i < length xs → s ≡ get_or xs i s → take (i + 1) xs ≡ take i xs ++ s ∷ []
take_step xs i s h is = take_more xs i s h ∙ ap (λ x. take i xs ++ x ∷ []) (sym is)

module _ (descr : ℕ) (names : List ℕ → Outcome) (spot : Spot) (xs : List Stmt) (i : ℕ) (s : Stmt) (wide : 16 ≤ descr) (within : i < length xs) (is : s ≡ get_or xs i s)
    (at : Spot) (part : Part) (at_is : at ≡ capped (spot_after descr names spot (take i xs))) (part_is : part ≡ part_of s.name) where
  -- the addresses of one statement more
  pub addresses_from-more : (addresses more : List Outcome) (address : Outcome) → addresses ≡ addresses_from descr names spot (take i xs)
      → address ≡ label_address descr at part → more ≡ addresses ++ address ∷ [] → more ≡ addresses_from descr names spot (take (i + 1) xs)
  addresses_from-more addresses more address are address_is more_is =
      let before : Spot = spot_after descr names spot (take i xs) in
      let at_label : address ≡ label_address descr before (part_of s.name) =
      address_is ∙ ap (λ p. label_address descr at p) part_is ∙ ap (λ a. label_address descr a (part_of s.name)) at_is
      ∙ label_address-capped descr before (part_of s.name) wide in
      more_is ∙ ap (λ l. l ++ address ∷ []) are ∙ ap (λ a. addresses_from descr names spot (take i xs) ++ a ∷ []) at_label
      ∙ sym (addresses_from-push descr names spot (take i xs) s) ∙ ap (addresses_from descr names spot) (sym (take_step xs i s within is))

  -- and what stands after it
  pub spot_after-more : (cells : ℕ) (next : Spot) → cells ≡ cells_of descr names s → next ≡ capped (past_part at cells part)
      → next ≡ capped (spot_after descr names spot (take (i + 1) xs))
  spot_after-more cells next cells_are next_is =
      let before : Spot = spot_after descr names spot (take i xs) in
      next_is ∙ ap (λ p. capped (past_part at cells p)) part_is ∙ ap (λ a. capped (past_part a cells (part_of s.name))) at_is
      ∙ past_part-capped before cells (part_of s.name) ∙ ap (λ n. capped (past_part before n (part_of s.name))) cells_are
      ∙ ap capped (sym (spot_after-push descr names spot (take i xs) s)) ∙ ap (λ l. capped (spot_after descr names spot l)) (sym (take_step xs i s within is))
