-- A cell of characters that is copied one by one: what holds once so many are written.
use Rattle.std.proofs.Common.{◌≡◌, ◌≢◌, ◌⊎◌, inl, inr, ℕ, zero, suc, ◌+◌, ◌<◌, ◌≤◌, ◌∙◌, List, [], ◌∷◌, length, drop, Option, Some, None, refl, sym, ap, arith}
use Rattle.std.specs.Prelude.{ℤ, pos, slice_get, slice_set}
use Rattle.std.proofs.Math.ListN.{length-set}
use Rattle.std.proofs.lemmas.Bool.{cases_eq}
use Rattle.std.proofs.lemmas.Option.{same_Some, slice_get_within}
use Rattle.layout_params.specs.declared.cell.Cell.{Cell}
use Rattle.layout_params.specs.declared.cell.Cell.TheVariants.{Chars}
use Rattle.sil_model.specs.Access.{byte_place, char_at, chars_of, chars_or_zeros, put_char}
use Rattle.sil_model.specs.Memory.{Memory}
use Rattle.sil_model.proofs.Places.{set_here, set_there}

-- the first so many of the one list, and the others of the other
pub mixed : ℕ → List ℕ → List ℕ → List ℕ
mixed zero cs ts = ts
mixed (suc k) [] ts = ts
mixed (suc k) (c ∷ cs) [] = []
mixed (suc k) (c ∷ cs) (t ∷ ts) = c ∷ mixed k cs ts

mixed_step : (k : ℕ) (cs ts : List ℕ) (c : ℕ) → slice_get cs k ≡ Some c → length cs ≡ length ts → slice_set (mixed k cs ts) k c ≡ mixed (suc k) cs ts
unfolding mixed
mixed_step k [] ts c is long = absurd cc
mixed_step k (x ∷ cs) [] c is long = absurd cc
mixed_step zero (x ∷ cs) (t ∷ ts) c is long = ap (λ y. y ∷ ts) (sym (same_Some x c is))
mixed_step (suc k) (x ∷ cs) (t ∷ ts) c is long = ap (λ ys. x ∷ ys) (mixed_step k cs ts c is (omega (arith, long)))

pub mixed_end : (k : ℕ) (cs ts : List ℕ) → length cs ≡ length ts → drop k cs ≡ drop k ts → mixed k cs ts ≡ cs
unfolding mixed
mixed_end zero cs ts long rest = sym rest
mixed_end (suc k) [] [] long rest = refl
mixed_end (suc k) [] (t ∷ ts) long rest = absurd cc
mixed_end (suc k) (c ∷ cs) [] long rest = absurd cc
mixed_end (suc k) (c ∷ cs) (t ∷ ts) long rest = ap (λ ys. c ∷ ys) (mixed_end k cs ts (omega (arith, long)) rest)

set_again : {A : Type 0} (xs : List A) (j : ℕ) (x y : A) → slice_set (slice_set xs j y) j x ≡ slice_set xs j x
set_again [] j x y = refl
set_again (z ∷ zs) zero x y = refl
set_again (z ∷ zs) (suc j) x y = ap (λ ys. z ∷ ys) (set_again zs j x y)

-- k characters of cell i are written over those of cell j
pub record Half (i j : ℕ) (cs ts : List ℕ) (all : List Cell) (k : ℕ) (cells : List Cell) : Type 0 where
  pub source : List ℕ
  pub target : Cell
  pub source_is : slice_get cells i ≡ Some (Chars source)
  pub left : (l : ℕ) → k ≤ l → slice_get source l ≡ slice_get cs l
  pub target_is : slice_get cells j ≡ Some target
  pub made : chars_or_zeros target ≡ mixed k cs ts
  pub others : (x : Cell) → slice_set cells j x ≡ slice_set all j x
  pub count : length cells ≡ length all

-- nothing is written yet
pub none_made : (i j : ℕ) (cs : List ℕ) (target : Cell) (all : List Cell) → slice_get all i ≡ Some (Chars cs) → slice_get all j ≡ Some target → Half i j cs (chars_or_zeros target) all 0 all
unfolding mixed
none_made i j cs target all is is2 = record { source = cs; target = target; source_is = is; left = λ l le. refl; target_is = is2; made = refl; others = λ x. refl; count = refl }

module _ (i j : ℕ) (cs ts : List ℕ) (all : List Cell) (k : ℕ) (cells : List Cell) (h : Half i j cs ts all k cells) (c : ℕ) (is : slice_get cs k ≡ Some c) (long : length cs ≡ length ts) where
  abbrev new : Cell
  new = Chars (mixed (suc k) cs ts)

  abbrev after : List Cell
  after = slice_set cells j (Chars (mixed (suc k) cs ts))

  source_after : (source : List ℕ) × (slice_get after i ≡ Some (Chars source)) × ((l : ℕ) → suc k ≤ l → slice_get source l ≡ slice_get cs l)
  source_after = go (cases_eq i j) where
    chars_same : i ≡ j → h.source ≡ mixed k cs ts
    chars_same e = ap chars_or_zeros (same_Some (Chars h.source) h.target (sym h.source_is ∙ ap (slice_get cells) e ∙ h.target_is)) ∙ h.made

    go : (i ≡ j) ⊎ (i ≢ j) → (source : List ℕ) × (slice_get after i ≡ Some (Chars source)) × ((l : ℕ) → suc k ≤ l → slice_get source l ≡ slice_get cs l)
    go (inl e) = (
      mixed (suc k) cs ts,
      ap (slice_get after) e ∙ set_here cells j new (slice_get_within cells j h.target h.target_is),
      λ l le. ap (λ xs. slice_get xs l) (sym (mixed_step k cs ts c is long)) ∙ set_there (mixed k cs ts) k l c (λ same. absurd (omega (arith, le, same))) ∙ ap (λ xs. slice_get xs l) (sym (chars_same e)) ∙ h.left l (omega (arith, le)),
    )
    go (inr ne) = (h.source, set_there cells j i new ne ∙ h.source_is, λ l le. h.left l (omega (arith, le)))

  -- one more
  pub one_more : Half i j cs ts all (suc k) (slice_set cells j (Chars (mixed (suc k) cs ts)))
  one_more = record {
    source = source_after.0;
    target = new;
    source_is = source_after.1;
    left = source_after.2;
    target_is = set_here cells j new (slice_get_within cells j h.target h.target_is);
    made = refl;
    others = λ x. set_again cells j x new ∙ h.others x;
    count = length-set cells j new ∙ h.count;
  }

  pub is_read_char : (m : Memory) (at : ℤ) → m.cells ≡ cells → byte_place m at ≡ Some (i, k) → char_at m at ≡ Some c
  unfolding char_at
  is_read_char m at same place = simp (place, same, h.source_is, h.left k (omega arith), is) refl

  pub is_put_char : (m : Memory) (at : ℤ) → m.cells ≡ cells → byte_place m at ≡ Some (j, k) → put_char m at c ≡ Some (slice_set cells j (Chars (mixed (suc k) cs ts)))
  unfolding put_char
  is_put_char m at same place = simp (place, same, h.target_is, h.made, mixed_step k cs ts c is long) refl
