-- What scratch words hold of specifiers.
use Rattle.std.proofs.Common.{◌≡◌, ℕ, suc, ◌+◌, ◌<◌, List, [], ◌∷◌, length, Some, refl, ◌∙◌, arith}
use Rattle.std.specs.Prelude.{ℤ, pos}
use Rattle.sil_model.specs.declared.limits.Limits.{Limits}
use Rattle.sil_model.specs.declared.specifier.Specifier.{Specifier}
use Rattle.sil_model.specs.Integers.{within}
use Rattle.sil_micro.specs.Operations.{with_word}
use Rattle.exp_stack.proofs.ScratchWords.{Below, below_all, put_below, put_same}

-- from a word on they hold these specifiers, five words each
abbrev pub HoldsSpecs : (ℕ → ℤ) → ℕ → List Specifier → Type 0
HoldsSpecs words i [] = Unit {0}
HoldsSpecs words i (s ∷ ss) = (words i ≡ s.a) × (words (i + 1) ≡ pos s.f) × (words (i + 2) ≡ pos s.v) × (words (i + 3) ≡ s.o) × (words (i + 4) ≡ pos s.l) × HoldsSpecs words (i + 5) ss

abbrev pub with_spec : (ℕ → ℤ) → ℕ → ℤ → ℕ → ℕ → ℤ → ℕ → ℕ → ℤ
with_spec words i a f v o l = with_word (with_word (with_word (with_word (with_word words i a) (i + 1) (pos f)) (i + 2) (pos v)) (i + 3) o) (i + 4) (pos l)

abbrev pub AllFitSpecs : Limits → List Specifier → Type 0
AllFitSpecs limits [] = Unit {0}
AllFitSpecs limits (s ∷ ss) = (within limits.flag_limit (pos s.f) ≡ Some s.f) × (within limits.value_limit (pos s.v) ≡ Some s.v) × (within limits.value_limit (pos s.l) ≡ Some s.l) × AllFitSpecs limits ss

pub record SpecsGathered (limits : Limits) (words : ℕ → ℤ) (i count : ℕ) (values : List Specifier) (words' : ℕ → ℤ) : Type 0 where
  pub holds : HoldsSpecs words' i values
  pub kept : Below i words words'
  pub fit : AllFitSpecs limits values
  pub many : length values ≡ count

pub specs_none : (limits : Limits) (words : ℕ → ℤ) (i : ℕ) → SpecsGathered limits words i 0 [] words
specs_none limits words i = record { holds = tt; kept = below_all i words; fit = tt; many = refl }

module _ (words : ℕ → ℤ) (i : ℕ) (a : ℤ) (f v : ℕ) (o : ℤ) (l : ℕ) where
  abbrev w1 : ℕ → ℤ
  w1 = with_word words i a

  abbrev w2 : ℕ → ℤ
  w2 = with_word w1 (i + 1) (pos f)

  abbrev w3 : ℕ → ℤ
  w3 = with_word w2 (i + 2) (pos v)

  abbrev w4 : ℕ → ℤ
  w4 = with_word w3 (i + 3) o

  after3 : (j : ℕ) → j < i + 3 → with_spec words i a f v o l j ≡ w3 j
  after3 j lt = (put_below w4 (i + 4) (pos l)).same j (omega arith) ∙ (put_below w3 (i + 3) o).same j (omega arith)

  pub spec_below : Below i words (with_spec words i a f v o l)
  spec_below = record { same = λ j lt. after3 j (omega arith) ∙ (put_below w2 (i + 2) (pos v)).same j (omega arith) ∙ (put_below w1 (i + 1) (pos f)).same j (omega arith) ∙ (put_below words i a).same j lt }

  pub specs_more : (limits : Limits) (count : ℕ) (values : List Specifier) (words' : ℕ → ℤ) → within limits.flag_limit (pos f) ≡ Some f → within limits.value_limit (pos v) ≡ Some v → within limits.value_limit (pos l) ≡ Some l → SpecsGathered limits (with_spec words i a f v o l) (i + 5) count values words' → SpecsGathered limits words i (suc count) (record { a = a; f = f; v = v; o = o; l = l } ∷ values) words'
  specs_more limits count values words' fits fits' fits'' h = record {
    holds = (
      h.kept.same i (omega arith) ∙ after3 i (omega arith) ∙ (put_below w2 (i + 2) (pos v)).same i (omega arith) ∙ (put_below w1 (i + 1) (pos f)).same i (omega arith) ∙ put_same words i a,
      h.kept.same (i + 1) (omega arith) ∙ after3 (i + 1) (omega arith) ∙ (put_below w2 (i + 2) (pos v)).same (i + 1) (omega arith) ∙ put_same w1 (i + 1) (pos f),
      h.kept.same (i + 2) (omega arith) ∙ after3 (i + 2) (omega arith) ∙ put_same w2 (i + 2) (pos v),
      h.kept.same (i + 3) (omega arith) ∙ (put_below w4 (i + 4) (pos l)).same (i + 3) (omega arith) ∙ put_same w3 (i + 3) o,
      h.kept.same (i + 4) (omega arith) ∙ put_same w4 (i + 4) (pos l),
      h.holds,
    );
    kept = record { same = λ j lt. h.kept.same j (omega arith) ∙ spec_below.same j lt };
    fit = (fits, fits', fits'', h.fit);
    many = omega (arith, h.many);
  }
