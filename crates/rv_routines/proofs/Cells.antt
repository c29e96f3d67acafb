-- Where an address lies among the cells.
use Rattle.std.proofs.Common.{◌≡◌, ℕ, suc, ◌+◌, ◌-◌, ◌*◌, ◌/◌, ◌%◌, ◌^◌, ◌<◌, ◌≤◌, List, length, Option, Some, None, Bool, true, false, cond, ◌==◌, ◌&&◌, refl, sym, ap, subst, ◌∙◌, arith}
use Rattle.std.specs.Prelude.{ℤ, pos, negsuc, slice_get, nat_lt, nat_le, option_and_then}
use Rattle.std.specs.Int.{w64, cast_signed}
use Rattle.std.proofs.lemmas.Nat.{le-div, div-add-mod', mul-le}
use Rattle.layout_params.specs.declared.cell.Descr.{Descr as Descriptor}
use Rattle.layout_params.specs.declared.cell.Cell.{Cell}
use Rattle.layout_params.specs.declared.cell.Cell.TheVariants.{Descr, Chars}
use Rattle.layout_params.specs.Sizes.{Sizes}
use Rattle.sil_base.specs.declared.places.TheConstants.{FIRST_CELL}
use Rattle.sil_model.specs.Memory.{Memory}
use Rattle.sil_model.specs.Access.{descr_at, descr_of, cell_at, cell_number, byte_place}
use Rattle.rv_emulate.specs.EmulatorMemory as emulator
use Rattle.rv_routines.specs.Holds.{HoldsMemory}

-- the distance from the first cell, wrapped
abbrev pub offset : ℕ → ℕ
offset x = (x + (2 ^ 64 - 0x4000_0000)) % 2 ^ 64

-- the number of a cell and the place in it, by the test of an address: it is within the cells
abbrev pub place_by : Bool → ℕ → ℕ → Option (ℕ × ℕ)
place_by within q r = cond within (Some (q, r)) None

-- the number of a cell by the tests of an address: it is a whole one, and within the cells
abbrev pub number_by : Bool → Bool → ℕ → Option ℕ
number_by whole within q = cond whole (cond within (Some q) None) None

abbrev pub place_of : List Cell → ℕ → ℕ → Option (ℕ × ℕ)
place_of cells d o = place_by (nat_lt (o / d) (length cells)) (o / d) (o % d)

abbrev pub number_of : List Cell → ℕ → ℕ → Option ℕ
number_of cells d o = number_by (o % d == 0) (nat_lt (o / d) (length cells)) (o / d)

none_past : (n q r : ℕ) → n ≤ q → place_by (nat_lt q n) q r ≡ None
none_past n q r h = let no : nat_lt q n ≡ false = grind arith in rw no refl

module _ (m : Memory) (d : ℕ) (size : m.limits.cell_size ≡ d) (least : 16 ≤ d) (most : d ≤ 64) (count : length m.cells ≤ 2 ^ 20) where
  far : (o : ℕ) → 2 ^ 62 ≤ o → length m.cells ≤ o / d
  far o h = omega (arith, le-div (2 ^ 20) o d (omega arith) (omega arith))

  by_look : (x : ℕ) (low : Bool) → nat_le FIRST_CELL x ≡ low → byte_place m (pos x) ≡ place_by (low && nat_lt ((x - FIRST_CELL) / d) (length m.cells)) ((x - FIRST_CELL) / d) ((x - FIRST_CELL) % d)
  unfolding byte_place
  by_look x low e =
      ap (λ z. place_by (nat_le FIRST_CELL x && nat_lt ((x - FIRST_CELL) / z) (length m.cells)) ((x - FIRST_CELL) / z) ((x - FIRST_CELL) % z)) size
      ∙ ap (λ b. place_by (b && nat_lt ((x - FIRST_CELL) / d) (length m.cells)) ((x - FIRST_CELL) / d) ((x - FIRST_CELL) % d)) e

  negative : (n : ℕ) → byte_place m (negsuc n) ≡ None
  unfolding byte_place
  negative n = refl

  past : (x : ℕ) → 2 ^ 62 ≤ offset x → None ≡ place_of m.cells d (offset x)
  past x h = sym (none_past (length m.cells) (offset x / d) (offset x % d) (far (offset x) h))

  below_sign : (x : ℕ) (low : Bool) → x < 2 ^ 63 → nat_le FIRST_CELL x ≡ low → byte_place m (pos x) ≡ place_of m.cells d (offset x)
  below_sign x true h e =
      let le : 0x4000_0000 ≤ x = grind arith in
      let o : x - FIRST_CELL ≡ offset x = omega arith in
      by_look x true e ∙ ap (λ z. place_of m.cells d z) o
  below_sign x false h e =
      let lt : x < 0x4000_0000 = grind arith in
      by_look x false e ∙ past x (omega arith)

  by_sign : (x : ℕ) (b : Bool) → x < 2 ^ 64 → nat_lt x (2 ^ 63) ≡ b → byte_place m (cond b (pos x) (negsuc (2 ^ 64 - suc x))) ≡ place_of m.cells d (offset x)
  by_sign x true small e = below_sign x (nat_le FIRST_CELL x) (grind arith) refl
  by_sign x false small e = let ge : 2 ^ 63 ≤ x = grind arith in negative (2 ^ 64 - suc x) ∙ past x (omega arith)

  -- the model's place by the wrapped distance
  pub byte_place_is : (x : ℕ) → x < 2 ^ 64 → byte_place m (cast_signed w64 x) ≡ place_of m.cells d (offset x)
  byte_place_is x small = by_sign x (nat_lt x (2 ^ 63)) small refl

  -- and its number of a cell
  pub cell_number_is : (x : ℕ) → x < 2 ^ 64 → cell_number m (cast_signed w64 x) ≡ number_of m.cells d (offset x)
  unfolding cell_number
  cell_number_is x small = ap (λ o. option_and_then (λ (place : ℕ × ℕ). cond (place.1 == 0) (Some place.0) None) o) (byte_place_is x small) ∙ whole (offset x % d) (offset x / d) (nat_lt (offset x / d) (length m.cells))
    where
      whole : (r q : ℕ) (within : Bool) → option_and_then (λ (place : ℕ × ℕ). cond (place.1 == 0) (Some place.0) None) (place_by within q r) ≡ number_by (r == 0) within q
      whole r q true = refl
      whole r q false = on (r == 0)
        where
          on : (b : Bool) → None ≡ number_by b false q
          on true = refl
          on false = refl

-- the model's access by the number
abbrev pub descr_in : List Cell → Option ℕ → Option Descriptor
descr_in cells o = option_and_then descr_of (option_and_then (λ i. slice_get cells i) o)

pub descr_at_in : (m : Memory) (at : ℤ) → descr_at m at ≡ descr_in m.cells (cell_number m at)
unfolding descr_at cell_at
descr_at_in m at = refl

-- where a descriptor is found
pub record IsPlace (m : Memory) (d x : ℕ) (e : Descriptor) (i : ℕ) : Type 0 where
  pub number : cell_number m (cast_signed w64 x) ≡ Some i
  pub member : slice_get m.cells i ≡ Some (Descr e)
  pub address : x ≡ 0x4000_0000 + i * d
  pub within : i < length m.cells
  pub inside : i * d + d ≤ length m.cells * d

some_within : (whole within : Bool) (cells : List Cell) (q : ℕ) (e : Descriptor) → descr_in cells (number_by whole within q) ≡ Some e → (whole ≡ true) × (within ≡ true) × (slice_get cells q ≡ Some (Descr e))
some_within true true cells q e h = (refl, refl, of_cell (slice_get cells q) h)
  where
    of_cell : (o : Option Cell) → option_and_then descr_of o ≡ Some e → o ≡ Some (Descr e)
    of_cell None g = absurd cc
    of_cell (Some (Descr y)) g = let same : y ≡ e = cc in ap (λ z. Some (Descr z)) same
    of_cell (Some (Chars cs)) g = absurd cc
some_within true false cells q e h = absurd cc
some_within false within cells q e h = absurd cc

pub place_of_found : (m : Memory) (d x : ℕ) (e : Descriptor) → m.limits.cell_size ≡ d → 16 ≤ d → d ≤ 64 → length m.cells ≤ 2 ^ 20 → x < 2 ^ 64 → descr_at m (cast_signed w64 x) ≡ Some e → IsPlace m d x e (offset x / d)
place_of_found m d x e size least most count small h =
    let o = offset x in
    let number = cell_number_is m d size least most count x small in
    let t = some_within (o % d == 0) (nat_lt (o / d) (length m.cells)) m.cells (o / d) e (ap (λ n. descr_in m.cells n) (sym number) ∙ sym (descr_at_in m (cast_signed w64 x)) ∙ h) in
    let whole : o % d ≡ 0 = (let w = t.0 in grind arith) in
    let within : o / d < length m.cells = (let w = t.1 in grind arith) in
    let times : o / d * d ≡ o = omega (arith, div-add-mod' o d) in
    let room : (o / d + 1) * d ≤ length m.cells * d = mul-le (o / d + 1) d (length m.cells) d (omega arith) (omega arith) in
    let all : length m.cells * d ≤ 2 ^ 20 * 64 = mul-le (length m.cells) d (2 ^ 20) 64 count most in
    record {
      number = number ∙ ap (λ b. number_by b (nat_lt (o / d) (length m.cells)) (o / d)) t.0 ∙ ap (λ b. number_by true b (o / d)) t.1;
      member = t.2;
      address = omega arith;
      within = within;
      inside = omega arith;
    }

-- where a number is found
some_number : (whole within : Bool) (q i : ℕ) → number_by whole within q ≡ Some i → (whole ≡ true) × (within ≡ true) × (q ≡ i)
some_number true true q i e = (refl, refl, cc)
some_number true false q i e = absurd cc
some_number false within q i e = absurd cc

pub place_of_number : (m : Memory) (d x i : ℕ) → m.limits.cell_size ≡ d → 16 ≤ d → d ≤ 64 → length m.cells ≤ 2 ^ 20 → x < 2 ^ 64 → cell_number m (cast_signed w64 x) ≡ Some i → (x ≡ 0x4000_0000 + i * d) × (i < length m.cells)
place_of_number m d x i size least most count small h =
    let o = offset x in
    let t = some_number (o % d == 0) (nat_lt (o / d) (length m.cells)) (o / d) i (sym (cell_number_is m d size least most count x small) ∙ h) in
    let whole : o % d ≡ 0 = (let w = t.0 in grind arith) in
    let within : o / d < length m.cells = (let w = t.1 in grind arith) in
    let times : o / d * d ≡ o = omega (arith, div-add-mod' o d) in
    let room : (o / d + 1) * d ≤ length m.cells * d = mul-le (o / d + 1) d (length m.cells) d (omega arith) (omega arith) in
    let all : length m.cells * d ≤ 2 ^ 20 * 64 = mul-le (length m.cells) d (2 ^ 20) 64 count most in
    let address : x ≡ 0x4000_0000 + o / d * d = omega arith in
    (address ∙ ap (λ j. 0x4000_0000 + j * d) t.2, omega (arith, within, t.2))

pub few_bytes : (sizes : Sizes) (mm : Memory) (m : emulator.Memory) → HoldsMemory sizes mm m → sizes.descr ≤ 64 → length m.cells ≤ 2 ^ 26
few_bytes sizes mm m holds most = let h : length mm.cells * sizes.descr ≤ 2 ^ 20 * 64 = mul-le (length mm.cells) sizes.descr (2 ^ 20) 64 holds.valid.count most in omega (arith, holds.size)

-- where an address lies in a cell
pub record IsWithin (m : Memory) (d x i r : ℕ) : Type 0 where
  pub address : x ≡ 0x4000_0000 + i * d + r
  pub number : i < length m.cells
  pub place : r < d
  pub inside : i * d + d ≤ length m.cells * d

some_place : (within : Bool) (q r i s : ℕ) → place_by within q r ≡ Some (i, s) → (within ≡ true) × (q ≡ i) × (r ≡ s)
some_place true q r i s e =
    let pair : (q, r) ≡ (i, s) = cc in
    (refl, ap (λ (p : ℕ × ℕ). p.0) pair, ap (λ (p : ℕ × ℕ). p.1) pair)
some_place false q r i s e = absurd cc

pub place_of_byte : (m : Memory) (d x i r : ℕ) → m.limits.cell_size ≡ d → 16 ≤ d → d ≤ 64 → length m.cells ≤ 2 ^ 20 → x < 2 ^ 64 → byte_place m (cast_signed w64 x) ≡ Some (i, r) → IsWithin m d x i r
place_of_byte m d x i r size least most count small h =
    let o = offset x in
    let t = some_place (nat_lt (o / d) (length m.cells)) (o / d) (o % d) i r (sym (byte_place_is m d size least most count x small) ∙ h) in
    let within : o / d < length m.cells = (let w = t.0 in grind arith) in
    let times : o / d * d + o % d ≡ o = omega (arith, div-add-mod' o d) in
    let rest : o % d < d = omega arith in
    let room : (o / d + 1) * d ≤ length m.cells * d = mul-le (o / d + 1) d (length m.cells) d (omega arith) (omega arith) in
    let all : length m.cells * d ≤ 2 ^ 20 * 64 = mul-le (length m.cells) d (2 ^ 20) 64 count most in
    let address : x ≡ 0x4000_0000 + o / d * d + o % d = omega arith in
    record {
      address = address ∙ ap (λ j. 0x4000_0000 + j * d + o % d) t.1 ∙ ap (λ s. 0x4000_0000 + i * d + s) t.2;
      number = omega (arith, t.1);
      place = omega (arith, t.2);
      inside = ap-le (o / d) i t.1 (omega arith);
    }
  where
    ap-le : (q i : ℕ) → q ≡ i → q * d + d ≤ length m.cells * d → i * d + d ≤ length m.cells * d
    ap-le q i e h = subst (λ j. j * d + d ≤ length m.cells * d) e h
