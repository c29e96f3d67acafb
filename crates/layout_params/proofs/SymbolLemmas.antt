-- The values of symbols are small.
use Rattle.std.proofs.Common.{◌≡◌, ℕ, zero, suc, ◌*◌, ◌^◌, ◌<◌, ◌≤◌, ◌⊎◌, inl, inr, Bool, true, false, ◌||◌, ◌==◌, List, [], ◌∷◌, length, get_or, Some, refl, sym, arith}
use Rattle.std.specs.Prelude.{pos, position, slice_index}
use Rattle.std.proofs.lemmas.Bool.{eqb-true}
use Rattle.std.proofs.Math.Nat.{pow-le-pow_right, pow-suc}
use Rattle.sil_base.specs.Names.{is_word}
use Rattle.layout_params.specs.Sizes.{Sizes, is_legal, value_limit}
use Rattle.layout_params.specs.Parameters.{Parameters, AreLegal, is_bit_below}
use Rattle.layout_params.specs.ParameterSymbols.{symbol_names, symbol_values, symbol_in}
use Rattle.layout_params.proofs.LegalLayouts.{legal, value_limit_below}

abbrev EachBelow : List ℕ → Type 0
EachBelow [] = Unit {0}
EachBelow (n ∷ ns) = (n < 2 ^ 63) × EachBelow ns

below_at : (ns : List ℕ) (i : ℕ) → EachBelow ns → i < length ns → get_or ns i 0 < 2 ^ 63
below_at [] i h lt = absurd (omega arith)
below_at (n ∷ ns) zero h lt = h.0
below_at (n ∷ ns) (suc i) h lt = below_at ns i h.1 (omega arith)

either : (a b : Bool) → (a || b) ≡ true → (a ≡ true) ⊎ (b ≡ true)
either true b h = inl refl
either false b h = inr h

twice : (w : ℕ) → 2 ^ suc w ≡ 2 * 2 ^ w
twice w = grind (arith, pow-suc)

-- a bit below 2 ^ w is below 2 ^ w
bit_small : (w n : ℕ) → is_bit_below w n ≡ true → n < 2 ^ w
bit_small zero n h = cc
bit_small (suc w) n h =
    let double = twice w in
    elim (either (n == 2 ^ w) (is_bit_below w n) h) [
      | inl e ↦ let same = eqb-true n (2 ^ w) e in let low : 0 < 2 ^ w = positive w in omega arith
      | inr e ↦ let rest = bit_small w n e in omega arith
    ]
  where
    positive : (w : ℕ) → 0 < 2 ^ w
    positive zero = omega arith
    positive (suc w) = let double = twice w in let rest = positive w in omega arith

flag_small : (s : Sizes) (n : ℕ) → is_legal s ≡ true → is_bit_below (8 * s.f_len) n ≡ true → n < 2 ^ 63
flag_small s n h bit =
    let fit = legal s h in
    let width = fit.f_width in
    let narrow : 8 * s.f_len ≤ 32 = omega arith in
    let two : 0 < 2 = omega arith in
    let most : 2 ^ (8 * s.f_len) ≤ 2 ^ 32 = pow-le-pow_right two narrow in
    let small = bit_small (8 * s.f_len) n bit in
    omega arith

pub symbols_small : (p : Parameters) (i : ℕ) → AreLegal p → i < 17 → get_or (symbol_values p) i 0 < 2 ^ 63
symbols_small p i h lt =
    let s = p.settings.sizes in
    let layout = h.settings.layout in
    let flags = h.settings.flags in
    let fit = legal s layout in
    let descr : s.descr < 2 ^ 63 = omega (arith, fit.most) in
    let units : (p.input_unit < 2 ^ 63) × (p.output_unit < 2 ^ 63) × (p.punch_unit < 2 ^ 63) = (omega (arith, h.input.1), omega (arith, h.output.1), omega (arith, h.punch.1)) in
    let counts : (p.settings.stack_size < 2 ^ 63) × (p.settings.dynamic_size < 2 ^ 63) × (p.settings.bucket_count < 2 ^ 63) = (omega (arith, h.settings.stack.1), omega (arith, h.settings.dynamic), omega (arith, h.settings.buckets.1)) in
    let function_flag : p.settings.function_flag < 2 ^ 63 = flag_small s p.settings.function_flag layout flags.0 in
    let mark_flag : p.settings.mark_flag < 2 ^ 63 = flag_small s p.settings.mark_flag layout flags.2.0 in
    let pointer_flag : p.settings.pointer_flag < 2 ^ 63 = flag_small s p.settings.pointer_flag layout flags.2.2.0 in
    let string_title_flag : p.settings.string_title_flag < 2 ^ 63 = flag_small s p.settings.string_title_flag layout flags.2.2.2.0 in
    let title_flag : p.settings.title_flag < 2 ^ 63 = flag_small s p.settings.title_flag layout flags.2.2.2.2.0 in
    let twice_descr : 2 * s.descr < 2 ^ 63 = omega (arith, fit.most) in
    let vmax : value_limit s < 2 ^ 63 = omega (arith, value_limit_below s layout) in
    let all : EachBelow (symbol_values p) = (descr, (twice_descr, (omega arith, (descr, (omega arith, (vmax, (function_flag, (mark_flag, (pointer_flag, (string_title_flag, (title_flag, (counts.0, (counts.1, (counts.2, (units.0, (units.1, (units.2, tt))))))))))))))))) in
    below_at (symbol_values p) i all lt

pub symbol_here : (values name : List ℕ) (at : ℕ) → Some at ≡ position (is_word name) symbol_names → symbol_in values name ≡ Some (pos (slice_index values at))
symbol_here values name at h = rw (sym h) refl
