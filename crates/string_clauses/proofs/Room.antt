-- How many characters may stand from an address on, or up to it.
use Rattle.std.proofs.Common.{◌≡◌, ℕ, suc, ◌+◌, ◌-◌, ◌*◌, ◌/◌, ◌%◌, ◌^◌, ◌<◌, ◌≤◌, length, Option, Some, None, refl, sym, subst, arith}
use Rattle.std.specs.Prelude.{ℤ, pos, negsuc, slice_get, nat_le, nat_lt, if◌then◌else◌}
use Rattle.std.proofs.Math.Nat.{div-add-mod, mod-lt, mul-le-mul_left, mul_comm}
use Rattle.std.proofs.lemmas.Bool.Decides.{nat_tests}
use Rattle.std.proofs.lemmas.Int.{ints}
use Rattle.sil_base.specs.declared.places.TheConstants.{FIRST_CELL}
use Rattle.layout_params.specs.declared.cell.Cell.{Cell}
use Rattle.layout_params.specs.declared.cell.Cell.TheVariants.{Descr, Chars}
use Rattle.sil_model.specs.Access.{◌>>=◌, byte_place, char_at, chars_of}
use Rattle.sil_model.specs.Integers.{◌⊞◌, wrapped_sum}
use Rattle.sil_model.specs.Memory.{Memory, IsMemory, SameShape, FitsCell}
use Rattle.sil_model.proofs.Keeps.{all_at}

-- ---- characters are bytes

byte_in : (m : Memory) (c : ℕ) (p : ℕ × ℕ) (o : Option Cell) → IsMemory m → slice_get m.cells p.0 ≡ o → (o >>= (λ cell. chars_of cell >>= (λ chars. slice_get chars p.1))) ≡ Some c → c < 256
byte_in m c p None h e is = absurd cc
byte_in m c p (Some (Descr d)) h e is = absurd cc
byte_in m c p (Some (Chars chars)) h e is = all_at (λ b. b < 256) chars p.1 c (all_at (FitsCell m.limits) m.cells p.0 (Chars chars) h.fit e).bytes is

byte_at : (m : Memory) (c : ℕ) (o : Option (ℕ × ℕ)) → IsMemory m → (o >>= (λ (p : ℕ × ℕ). slice_get m.cells p.0 >>= (λ cell. chars_of cell >>= (λ chars. slice_get chars p.1)))) ≡ Some c → c < 256
byte_at m c None h is = absurd cc
byte_at m c (Some p) h is = byte_in m c p (slice_get m.cells p.0) h refl is

pub char_is_byte : (m : Memory) (at : ℤ) (c : ℕ) → IsMemory m → char_at m at ≡ Some c → c < 256
unfolding char_at
char_is_byte m at c h is = byte_at m c (byte_place m at) h is

place_of : (m : Memory) (c : ℕ) (o : Option (ℕ × ℕ)) → (o >>= (λ (p : ℕ × ℕ). slice_get m.cells p.0 >>= (λ cell. chars_of cell >>= (λ chars. slice_get chars p.1)))) ≡ Some c → (p : ℕ × ℕ) × (o ≡ Some p)
place_of m c None is = absurd cc
place_of m c (Some p) is = (p, refl)

-- a character has a place
pub char_place : (m : Memory) (at : ℤ) (c : ℕ) → char_at m at ≡ Some c → (p : ℕ × ℕ) × (byte_place m at ≡ Some p)
unfolding char_at
char_place m at c is = place_of m c (byte_place m at) is

-- ---- addresses

-- behind an address and up to it, of so many cells of that size
pub record IsInside (m : Memory) (at : ℤ) : Type 0 where
  pub number : ℕ
  pub is : at ≡ pos number
  pub low : FIRST_CELL ≤ number
  pub high : number < FIRST_CELL + length m.cells * m.limits.cell_size

below_all : (offset size count : ℕ) → 0 < size → offset / size < count → offset < count * size
below_all offset size count h lt =
    let whole : size * (offset / size) + offset % size ≡ offset = div-add-mod offset size in
    let low : offset % size < size = mod-lt offset h in
    let most : (offset / size + 1) * size ≤ count * size = mul-le-mul_right size (omega (arith, lt)) in
    let turned : size * (offset / size) ≡ offset / size * size = mul_comm size (offset / size) in
    let more : (offset / size + 1) * size ≡ offset / size * size + size = omega arith in
    omega (arith, whole, low, most, turned, more)
  where
    mul-le-mul_right : (k : ℕ) {a b : ℕ} → a ≤ b → a * k ≤ b * k
    mul-le-mul_right k {a} {b} le = let l = mul-le-mul_left k le in omega (arith, l, mul_comm k a, mul_comm k b)

pub is_inside : (m : Memory) (at : ℤ) (p : ℕ × ℕ) → IsMemory m → byte_place m at ≡ Some p → IsInside m at
unfolding byte_place
is_inside m (negsuc at) p h is = absurd (grind (arith, is))
is_inside m (pos at) p h is =
    let two : (FIRST_CELL ≤ at) × ((at - FIRST_CELL) / m.limits.cell_size < length m.cells) = grind (arith, nat_tests, is) in
    let below = below_all (at - FIRST_CELL) m.limits.cell_size (length m.cells) (omega (arith, h.limits.least)) two.1 in
    record { number = at; is = refl; low = two.0; high = omega (arith, below, two.0) }

-- the bytes of all cells
abbrev pub all_bytes : Memory → ℕ
all_bytes m = length m.cells * m.limits.cell_size

-- the characters from an address on, at most, of so many
abbrev pub room_in : ℕ → ℤ → ℕ
room_in all (pos at) = if nat_le FIRST_CELL at then all - (at - FIRST_CELL) else 0
room_in all (negsuc at) = 0

-- those up to it
abbrev pub depth_in : ℕ → ℤ → ℕ
depth_in all (pos at) = if nat_lt at (FIRST_CELL + all) then at + 1 - FIRST_CELL else 0
depth_in all (negsuc at) = 0

pub room_most : (all : ℕ) (at : ℤ) → room_in all at ≤ all
room_most all (negsuc at) = omega arith
room_most all (pos at) = grind (arith, nat_tests)

pub depth_most : (all : ℕ) (at : ℤ) → depth_in all at ≤ all
depth_most all (negsuc at) = omega arith
depth_most all (pos at) = grind (arith, nat_tests)

pub same_bytes : (m n : Memory) → SameShape m n → all_bytes n ≡ all_bytes m
same_bytes m n shape = rw (shape.limits, shape.count) refl

all_few : (m : Memory) → IsMemory m → all_bytes m ≤ 2 ^ 26
all_few m h =
    let short : length m.cells * m.limits.cell_size ≤ length m.cells * 64 = mul-le-mul_left (length m.cells) h.limits.most in
    omega (arith, short, h.count)

-- the next address, by the distance from the first one
next_address : (at : ℤ) (i n : ℕ) → i + 1 < 2 ^ 63 → at ⊞ pos i ≡ pos n → n < 2 ^ 40 → at ⊞ pos (i + 1) ≡ pos (n + 1)
unfolding wrapped_sum
next_address at i n small is few = grind (arith, ints)

address_before : (at : ℤ) (i n : ℕ) → i + 1 < 2 ^ 63 → at ⊞ pos (suc i) ≡ pos n → FIRST_CELL ≤ n → n < 2 ^ 40 → at ⊞ pos i ≡ pos (n - 1)
unfolding wrapped_sum
address_before at i n small is low few = grind (arith, ints)

less_room : (all n : ℕ) → FIRST_CELL ≤ n → n < FIRST_CELL + all → room_in all (pos (n + 1)) < room_in all (pos n)
less_room all n low high = grind (arith, nat_tests)

pub room_less : (m : Memory) (at : ℤ) (i : ℕ) (p : ℕ × ℕ) → IsMemory m → i + 1 < 2 ^ 63 → byte_place m (at ⊞ pos i) ≡ Some p → room_in (all_bytes m) (at ⊞ pos (i + 1)) < room_in (all_bytes m) (at ⊞ pos i)
room_less m at i p h small is =
    let here = is_inside m (at ⊞ pos i) p h is in
    let next : at ⊞ pos (i + 1) ≡ pos (here.number + 1) = next_address at i here.number small here.is (omega (arith, here.high, all_few m h)) in
    let less = less_room (all_bytes m) here.number here.low here.high in
    subst (λ x. room_in (all_bytes m) x < room_in (all_bytes m) (at ⊞ pos i)) (sym next) (subst (λ x. room_in (all_bytes m) (pos (here.number + 1)) < room_in (all_bytes m) x) (sym here.is) less)

less_depth : (all n : ℕ) → FIRST_CELL ≤ n → n < FIRST_CELL + all → depth_in all (pos (n - 1)) < depth_in all (pos n)
less_depth all n low high = grind (arith, nat_tests)

pub depth_less : (m : Memory) (at : ℤ) (i : ℕ) (p : ℕ × ℕ) → IsMemory m → i + 1 < 2 ^ 63 → byte_place m (at ⊞ pos (suc i)) ≡ Some p → depth_in (all_bytes m) (at ⊞ pos i) < depth_in (all_bytes m) (at ⊞ pos (suc i))
depth_less m at i p h small is =
    let here = is_inside m (at ⊞ pos (suc i)) p h is in
    let before : at ⊞ pos i ≡ pos (here.number - 1) = address_before at i here.number small here.is here.low (omega (arith, here.high, all_few m h)) in
    let less = less_depth (all_bytes m) here.number here.low here.high in
    subst (λ x. depth_in (all_bytes m) x < depth_in (all_bytes m) (at ⊞ pos (suc i))) (sym before) (subst (λ x. depth_in (all_bytes m) (pos (here.number - 1)) < depth_in (all_bytes m) x) (sym here.is) less)

some_depth : (all n : ℕ) → FIRST_CELL ≤ n → n < FIRST_CELL + all → 0 < depth_in all (pos n)
some_depth all n low high = grind (arith, nat_tests)

pub depth_some : (m : Memory) (at : ℤ) (p : ℕ × ℕ) → IsMemory m → byte_place m at ≡ Some p → 0 < depth_in (all_bytes m) at
depth_some m at p h is = (let here = is_inside m at p h is in subst (λ x. 0 < depth_in (all_bytes m) x) (sym here.is) (some_depth (all_bytes m) here.number here.low here.high))
