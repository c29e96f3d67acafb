-- Where a field stands in a legal layout.
use Rattle.std.proofs.Common.{◌≡◌, ℕ, ◌+◌, ◌*◌, ◌/◌, ◌%◌, ◌<◌, ◌≤◌, ◌⊎◌, inl, inr, refl, sym, ap, subst, ◌∙◌, arith}
use Rattle.layout_params.specs.declared.cell.Field.{Field}
use Rattle.layout_params.specs.declared.cell.Field.TheVariants.{A, F, V}
use Rattle.layout_params.specs.Sizes.{Sizes}
use Rattle.layout_params.specs.Packing.{place_of, width_of}
use Rattle.layout_params.proofs.LegalLayouts.{IsLegal}

-- where a field stands in a legal layout
pub record IsSpan (sizes : Sizes) (at n : ℕ) : Type 0 where
  pub width : (n ≡ 1) ⊎ (n ≡ 2) ⊎ (n ≡ 4) ⊎ (n ≡ 8)
  pub aligned : at % n ≡ 0
  pub within : at + n ≤ sizes.descr

pub span : (sizes : Sizes) (f : Field) → IsLegal sizes → IsSpan sizes (place_of sizes f) (width_of sizes f)
span sizes A h = record { width = inr (inr (inr refl)); aligned = h.a_aligned; within = h.a_within }
span sizes F h = record { width = elim h.f_width [ inl e ↦ inl e | inr (inl e) ↦ inr (inl e) | inr (inr e) ↦ inr (inr (inl e)) ]; aligned = h.f_aligned; within = h.f_within }
span sizes V h = record { width = elim h.v_width [ inl e ↦ inr (inl e) | inr (inl e) ↦ inr (inr (inl e)) | inr (inr e) ↦ inr (inr (inr e)) ]; aligned = h.v_aligned; within = h.v_within }

pub place_below : (sizes : Sizes) (f : Field) → IsLegal sizes → place_of sizes f < 64
place_below sizes f h =
    let sp = span sizes f h in
    let some : 0 < width_of sizes f = elim sp.width [ inl e ↦ omega arith | inr (inl e) ↦ omega arith | inr (inr (inl e)) ↦ omega arith | inr (inr (inr e)) ↦ omega arith ] in
    omega (arith, sp.within, h.most)

pub aligned_at : (i d at n : ℕ) → (n ≡ 1) ⊎ (n ≡ 2) ⊎ (n ≡ 4) ⊎ (n ≡ 8) → d % 8 ≡ 0 → at % n ≡ 0 → (0x4000_0000 + (i * d + at)) % n ≡ 0
aligned_at i d at n w h g =
    let e : d ≡ 8 * (d / 8) = omega arith in
    let q : i * d ≡ 8 * (i * (d / 8)) = ap (λ y. i * y) e ∙ omega arith in
    let P : ℕ → Type 0 = λ j. at % j ≡ 0 → (0x4000_0000 + (i * d + at)) % j ≡ 0 in
    elim w [
      | inl one ↦ subst P (sym one) (λ z. omega arith) g
      | inr (inl two) ↦ subst P (sym two) (λ z. omega arith) g
      | inr (inr (inl four)) ↦ subst P (sym four) (λ z. omega arith) g
      | inr (inr (inr eight)) ↦ subst P (sym eight) (λ z. omega arith) g
    ]

-- F has four bytes at most, and V eight
pub few_bytes_of : (sizes : Sizes) → IsLegal sizes → (sizes.f_len ≤ 4) × (sizes.v_len ≤ 8)
few_bytes_of sizes h = (elim h.f_width [ inl e ↦ omega arith | inr (inl e) ↦ omega arith | inr (inr e) ↦ omega arith ], elim h.v_width [ inl e ↦ omega arith | inr (inl e) ↦ omega arith | inr (inr e) ↦ omega arith ])
