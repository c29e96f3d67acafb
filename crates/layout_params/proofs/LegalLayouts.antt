-- The test of a layout says its facts.
use Rattle.std.proofs.Common.{◌≡◌, ℕ, ◌+◌, ◌-◌, ◌*◌, ◌^◌, ◌<◌, ◌≤◌, ◌⊎◌, inl, inr, Bool, min, arith, ap, lit<}
use Rattle.std.specs.Prelude.{IsTrue, ◌%◌, ◌&&◌}
use Rattle.layout_params.specs.Sizes.{Sizes, is_legal, widths_fit, fields_fit, fields_apart, flag_limit, value_limit}

-- what a legal layout meets
pub record IsLegal (s : Sizes) : Type 0 where
  pub multiple : s.descr % 8 ≡ 0
  pub least : 16 ≤ s.descr
  pub most : s.descr ≤ 64
  pub a_aligned : s.a_at % 8 ≡ 0
  pub a_within : s.a_at + 8 ≤ s.descr
  pub f_width : (s.f_len ≡ 1) ⊎ (s.f_len ≡ 2) ⊎ (s.f_len ≡ 4)
  pub f_aligned : s.f_at % s.f_len ≡ 0
  pub f_within : s.f_at + s.f_len ≤ s.descr
  pub v_width : (s.v_len ≡ 2) ⊎ (s.v_len ≡ 4) ⊎ (s.v_len ≡ 8)
  pub v_aligned : s.v_at % s.v_len ≡ 0
  pub v_within : s.v_at + s.v_len ≤ s.descr
  pub a_f_apart : (s.a_at + 8 ≤ s.f_at) ⊎ (s.f_at + s.f_len ≤ s.a_at)
  pub a_v_apart : (s.a_at + 8 ≤ s.v_at) ⊎ (s.v_at + s.v_len ≤ s.a_at)
  pub f_v_apart : (s.f_at + s.f_len ≤ s.v_at) ⊎ (s.v_at + s.v_len ≤ s.f_at)

record Widths (s : Sizes) : Type 0 where
  pub multiple : s.descr % 8 ≡ 0
  pub least : 16 ≤ s.descr
  pub most : s.descr ≤ 64
  pub f_width : (s.f_len ≡ 1) ⊎ (s.f_len ≡ 2) ⊎ (s.f_len ≡ 4)
  pub v_width : (s.v_len ≡ 2) ⊎ (s.v_len ≡ 4) ⊎ (s.v_len ≡ 8)

widths : (s : Sizes) → IsTrue (widths_fit s) → Widths s
widths s h = grind arith

record Within (s : Sizes) : Type 0 where
  pub a_aligned : s.a_at % 8 ≡ 0
  pub a_within : s.a_at + 8 ≤ s.descr
  pub f_aligned : s.f_at % s.f_len ≡ 0
  pub f_within : s.f_at + s.f_len ≤ s.descr
  pub v_aligned : s.v_at % s.v_len ≡ 0
  pub v_within : s.v_at + s.v_len ≤ s.descr

within : (s : Sizes) → IsTrue (fields_fit s) → Within s
within s h = grind arith

record Apart (s : Sizes) : Type 0 where
  pub a_f_apart : (s.a_at + 8 ≤ s.f_at) ⊎ (s.f_at + s.f_len ≤ s.a_at)
  pub a_v_apart : (s.a_at + 8 ≤ s.v_at) ⊎ (s.v_at + s.v_len ≤ s.a_at)
  pub f_v_apart : (s.f_at + s.f_len ≤ s.v_at) ⊎ (s.v_at + s.v_len ≤ s.f_at)

apart : (s : Sizes) → IsTrue (fields_apart s) → Apart s
apart s h = grind arith

parts : (a b c : Bool) → IsTrue (a && b && c) → IsTrue a × IsTrue b × IsTrue c
parts a b c h = grind arith

pub legal : (s : Sizes) → IsTrue (is_legal s) → IsLegal s
legal s h =
    let p = parts (widths_fit s) (fields_fit s) (fields_apart s) h in
    let w = widths s p.0 in
    let f = within s p.1 in
    let a = apart s p.2 in
    record {
      multiple = w.multiple;
      least = w.least;
      most = w.most;
      a_aligned = f.a_aligned;
      a_within = f.a_within;
      f_width = w.f_width;
      f_aligned = f.f_aligned;
      f_within = f.f_within;
      v_width = w.v_width;
      v_aligned = f.v_aligned;
      v_within = f.v_within;
      a_f_apart = a.a_f_apart;
      a_v_apart = a.a_v_apart;
      f_v_apart = a.f_v_apart;
    }

-- ---- the limits of the fields

pub flag_limit_of : (s : Sizes) → IsTrue (is_legal s) → ((s.f_len ≡ 1) × (flag_limit s ≡ 0xff)) ⊎ ((s.f_len ≡ 2) × (flag_limit s ≡ 0xffff)) ⊎ ((s.f_len ≡ 4) × (flag_limit s ≡ 0xffff_ffff))
flag_limit_of s h =
    let limit = λ (n : ℕ). 2 ^ (8 * n) - 1 in
    elim (legal s h).f_width [ inl e ↦ inl (e, ap limit e) | inr (inl e) ↦ inr (inl (e, ap limit e)) | inr (inr e) ↦ inr (inr (e, ap limit e)) ]

pub value_limit_of : (s : Sizes) → IsTrue (is_legal s) → ((s.v_len ≡ 2) × (value_limit s ≡ 0xffff)) ⊎ ((s.v_len ≡ 4) × (value_limit s ≡ 0xffff_ffff)) ⊎ ((s.v_len ≡ 8) × (value_limit s ≡ 0xffff_ffff_ffff))
value_limit_of s h =
    let limit = λ (n : ℕ). min (2 ^ (8 * n)) (2 ^ 48) - 1 in
    elim (legal s h).v_width [ inl e ↦ inl (e, ap limit e) | inr (inl e) ↦ inr (inl (e, ap limit e)) | inr (inr e) ↦ inr (inr (e, ap limit e)) ]

pub flag_limit_below : (s : Sizes) → IsTrue (is_legal s) → flag_limit s < 2 ^ 32
flag_limit_below s h = elim (flag_limit_of s h) [ inl p ↦ rw p.1 (lit< tt) | inr (inl p) ↦ rw p.1 (lit< tt) | inr (inr p) ↦ rw p.1 (lit< tt) ]

pub value_limit_below : (s : Sizes) → IsTrue (is_legal s) → value_limit s < 2 ^ 48
value_limit_below s h = elim (value_limit_of s h) [ inl p ↦ rw p.1 (lit< tt) | inr (inl p) ↦ rw p.1 (lit< tt) | inr (inr p) ↦ rw p.1 (lit< tt) ]
