-- What scratch words hold.
use Rattle.std.proofs.Common.{◌≡◌, ℕ, suc, ◌+◌, ◌<◌, ◌≤◌, List, [], ◌∷◌, length, Option, Some, None, true, refl, ◌∙◌, arith}
use Rattle.std.proofs.lemmas.Bool.Decides.{nat_tests}
use Rattle.std.specs.Prelude.{ℤ, pos, nat_lt}
use Rattle.layout_params.specs.declared.cell.Descr.{Descr}
use Rattle.sil_model.specs.declared.limits.Limits.{Limits}
use Rattle.sil_model.specs.Access.{◌>>=◌}
use Rattle.sil_model.specs.Integers.{within}
use Rattle.sil_micro.specs.Operations.{with_word, scratch_words}

-- from a word on they hold these
abbrev pub HoldsAt : (ℕ → ℤ) → ℕ → List ℤ → Type 0
HoldsAt words i [] = Unit {0}
HoldsAt words i (x ∷ xs) = (words i ≡ x) × HoldsAt words (i + 1) xs

-- or these descriptors, three words each
abbrev pub HoldsValues : (ℕ → ℤ) → ℕ → List Descr → Type 0
HoldsValues words i [] = Unit {0}
HoldsValues words i (d ∷ ds) = (words i ≡ d.a) × (words (i + 1) ≡ pos d.f) × (words (i + 2) ≡ pos d.v) × HoldsValues words (i + 3) ds

-- the words below one are as before
pub record Below (limit : ℕ) (words words' : ℕ → ℤ) : Type 0 where
  pub same : (j : ℕ) → j < limit → words' j ≡ words j

pub below_trans : (limit limit' : ℕ) (a b c : ℕ → ℤ) → limit ≤ limit' → Below limit a b → Below limit' b c → Below limit a c
below_trans limit limit' a b c le h k = record { same = λ j lt. k.same j (omega arith) ∙ h.same j lt }

pub below_all : (limit : ℕ) (a : ℕ → ℤ) → Below limit a a
below_all limit a = record { same = λ j lt. refl }

pub put_same : (words : ℕ → ℤ) (i : ℕ) (v : ℤ) → with_word words i v i ≡ v
unfolding with_word
put_same words i v = grind (arith, nat_tests)

put_other : (words : ℕ → ℤ) (i : ℕ) (v : ℤ) (j : ℕ) → j < i → with_word words i v j ≡ words j
unfolding with_word
put_other words i v j lt = grind (arith, nat_tests)

pub put_below : (words : ℕ → ℤ) (i : ℕ) (v : ℤ) → Below i words (with_word words i v)
put_below words i v = record { same = λ j lt. put_other words i v j lt }

pub holds_below : (xs : List ℤ) (i limit : ℕ) (words words' : ℕ → ℤ) → i + length xs ≤ limit → Below limit words words' → HoldsAt words i xs → HoldsAt words' i xs
holds_below [] i limit words words' le b h = tt
holds_below (x ∷ xs) i limit words words' le b h = (b.same i (omega arith) ∙ h.0, holds_below xs (i + 1) limit words words' (omega arith) b h.1)

-- addresses were put from a word on
pub record Lined (words : ℕ → ℤ) (i : ℕ) (xs : List ℤ) (words' : ℕ → ℤ) : Type 0 where
  pub holds : HoldsAt words' i xs
  pub kept : Below i words words'

pub lined_none : (words : ℕ → ℤ) (i : ℕ) → Lined words i [] words
lined_none words i = record { holds = tt; kept = below_all i words }

pub lined_more : (words : ℕ → ℤ) (i : ℕ) (x : ℤ) (xs : List ℤ) (words' : ℕ → ℤ) → Lined (with_word words i x) (i + 1) xs words' → Lined words i (x ∷ xs) words'
lined_more words i x xs words' h = record {
  holds = (h.kept.same i (omega arith) ∙ put_same words i x, h.holds);
  kept = below_trans i (i + 1) words (with_word words i x) words' (omega arith) (put_below words i x) h.kept;
}

-- the words after a descriptor is put
abbrev pub with_value : (ℕ → ℤ) → ℕ → Descr → ℕ → ℤ
with_value words i d = with_word (with_word (with_word words i d.a) (i + 1) (pos d.f)) (i + 2) (pos d.v)

pub value_below : (words : ℕ → ℤ) (i : ℕ) (d : Descr) → Below i words (with_value words i d)
value_below words i d =
    let w1 = with_word words i d.a in
    let w2 = with_word w1 (i + 1) (pos d.f) in
    let b1 = put_below words i d.a in
    let b2 = put_below w1 (i + 1) (pos d.f) in
    let b3 = put_below w2 (i + 2) (pos d.v) in
    record { same = λ j lt. b3.same j (omega arith) ∙ b2.same j (omega arith) ∙ b1.same j lt }

-- the values can be written
abbrev pub AllFit : Limits → List Descr → Type 0
AllFit limits [] = Unit {0}
AllFit limits (d ∷ ds) = (within limits.flag_limit (pos d.f) ≡ Some d.f) × (within limits.value_limit (pos d.v) ≡ Some d.v) × AllFit limits ds

-- so many descriptors were put from a word on
pub record Gathered (limits : Limits) (words : ℕ → ℤ) (i count : ℕ) (values : List Descr) (words' : ℕ → ℤ) : Type 0 where
  pub holds : HoldsValues words' i values
  pub kept : Below i words words'
  pub fit : AllFit limits values
  pub many : length values ≡ count

pub gathered_none : (limits : Limits) (words : ℕ → ℤ) (i : ℕ) → Gathered limits words i 0 [] words
gathered_none limits words i = record { holds = tt; kept = below_all i words; fit = tt; many = refl }

pub gathered_more : (limits : Limits) (words : ℕ → ℤ) (i count : ℕ) (d : Descr) (values : List Descr) (words' : ℕ → ℤ) → within limits.flag_limit (pos d.f) ≡ Some d.f → within limits.value_limit (pos d.v) ≡ Some d.v → Gathered limits (with_value words i d) (i + 3) count values words' → Gathered limits words i (suc count) (d ∷ values) words'
gathered_more limits words i count d values words' f v h =
    let w1 = with_word words i d.a in
    let w2 = with_word w1 (i + 1) (pos d.f) in
    let w3 = with_word w2 (i + 2) (pos d.v) in
    let b1 = put_below words i d.a in
    let b2 = put_below w1 (i + 1) (pos d.f) in
    let b3 = put_below w2 (i + 2) (pos d.v) in
    record {
      holds = (
        h.kept.same i (omega arith) ∙ b3.same i (omega arith) ∙ b2.same i (omega arith) ∙ put_same words i d.a,
        h.kept.same (i + 1) (omega arith) ∙ b3.same (i + 1) (omega arith) ∙ put_same w1 (i + 1) (pos d.f),
        h.kept.same (i + 2) (omega arith) ∙ put_same w2 (i + 2) (pos d.v),
        h.holds,
      );
      kept = record { same = λ j lt. h.kept.same j (omega arith) ∙ b3.same j (omega arith) ∙ b2.same j (omega arith) ∙ b1.same j lt };
      fit = (f, v, h.fit);
      many = omega (arith, h.many);
    }

pub fits_word : (i : ℕ) → i < 8190 → nat_lt i scratch_words ≡ true
fits_word i h = grind (arith, nat_tests)

pub bind_assoc : {A B C : Type 0} (o : Option A) (f : A → Option B) (h : B → Option C) → ((o >>= f) >>= h) ≡ (o >>= (λ x. f x >>= h))
bind_assoc None f h = refl
bind_assoc (Some x) f h = refl
