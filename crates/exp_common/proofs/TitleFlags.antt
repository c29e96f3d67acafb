-- The flags of titles are small.
use Rattle.std.proofs.Common.{◌≡◌, ℕ, zero, suc, ◌*◌, ◌^◌, ◌<◌, ◌⊎◌, inl, inr, Bool, true, false, ◌||◌, ◌==◌, refl, arith}
use Rattle.std.proofs.Math.Pow.{pow-lt}
use Rattle.layout_params.specs.Parameters.{Settings, AreLegalSettings, is_bit_below}
use Rattle.layout_params.proofs.LegalLayouts.{flag_limit_below}

either : (a b : Bool) → (a || b) ≡ true → (a ≡ true) ⊎ (b ≡ true)
either true b h = inl refl
either false b h = inr h

bit_small : (w n : ℕ) → is_bit_below w n ≡ true → n < 2 ^ w
bit_small zero n h = cc
bit_small (suc w) n h =
    let larger : 2 ^ w < 2 ^ suc w = pow-lt {i = w} {j = suc w} (omega arith) in
    elim (either (n == 2 ^ w) (is_bit_below w n) h) [ inl e ↦ (let same : n ≡ 2 ^ w = grind (arith, e) in omega arith) | inr e ↦ (let low = bit_small w n e in omega arith) ]

pub string_title_small : (s : Settings) → AreLegalSettings s → s.string_title_flag < 2 ^ 32
string_title_small s h =
    let low = flag_limit_below s.sizes h.layout in
    let small = bit_small (8 * s.sizes.f_len) s.string_title_flag h.flags.2.2.2.0 in
    omega (arith, low, small)

pub title_small : (s : Settings) → AreLegalSettings s → s.title_flag < 2 ^ 32
title_small s h =
    let low = flag_limit_below s.sizes h.layout in
    let small = bit_small (8 * s.sizes.f_len) s.title_flag h.flags.2.2.2.2.0 in
    omega (arith, low, small)
