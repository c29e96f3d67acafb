-- How many characters the clauses visit.
use Rattle.std.proofs.Common.{◌≡◌, ℕ, zero, suc, ◌+◌, ◌-◌, ◌*◌, ◌^◌, ◌<◌, ◌≤◌, List, Option, Some, None, Bool, true, false, refl, subst, arith}
use Rattle.std.proofs.lemmas.Option.{same_Some}
use Rattle.std.specs.Prelude.{ℤ, pos, negsuc, FitsSigned, ◌==◌, if◌then◌else◌}
use Rattle.std.specs.Int.{w64}
use Rattle.std.specs.declared.ops.ControlFlow.{ControlFlow}
use Rattle.std.specs.declared.ops.ControlFlow.TheVariants.{Continue, Break}
use Rattle.layout_params.specs.declared.cell.Descr.{Descr as Descriptor}
use Rattle.sil_model.specs.declared.program.Arg.{Arg}
use Rattle.sil_model.specs.declared.specifier.Specifier.{Specifier}
use Rattle.sil_model.specs.Access.{◌>>=◌, a_at, byte_place, char_at, descr_at}
use Rattle.sil_model.specs.Integers.{◌⊞◌}
use Rattle.sil_model.specs.Memory.{Memory, IsMemory}
use Rattle.sil_model.proofs.Keeps.{Follows, fits_descr_at, followed, follows_on, same}
use Rattle.sil_model.proofs.Lists.{spec_fits}
use Rattle.sil_model.proofs.Operands.{fits_a_at}
use Rattle.sil_model.specs.Specifiers.{spec_at}
use Rattle.string_clauses.specs.StringClauses.{balance_turn, compare_turn, copy_char, digit_turn, hash_turn, length_at, nothing_stands, pair_turn, positive, replace_turn, second_of, shorter, trim_char, trim_turn}
use Rattle.string_clauses.specs.StringTable.{apdsp_turns, getbal_turns, integer_turns, integer_visits, lexcmp_turns, or_none, replace_turns, rplace_turns, spcint_turns, trimsp_turns, varid_turns}
use Rattle.string_clauses.specs.Walks.{each, each_visits, walk_visits}
use Rattle.string_clauses.proofs.Room.{all_bytes, char_place, depth_in, depth_less, depth_most, depth_some, room_in, room_less, room_most, same_bytes}
use Rattle.string_clauses.proofs.StringKeeps.{AreBytes, copy_writes, pairs_give, replace_writes}
use Rattle.string_clauses.proofs.Turns.{few_more, few_turns}

-- a turn that goes on has read a character
read_one : {B : Type 0} (m : Memory) (at : ℤ) (o : Option ℕ) (f : ℕ → Option B) (b : B) → char_at m at ≡ o → (o >>= f) ≡ Some b → (p : ℕ × ℕ) × (byte_place m at ≡ Some p)
read_one m at None f b e is = absurd cc
read_one m at (Some c) f b e is = char_place m at c e

module _ (m : Memory) (h : IsMemory m) (at : ℤ) where
  abbrev measure : ℕ → ℕ
  measure i = room_in (all_bytes m) (at ⊞ pos i)

  measure_less : {B : Type 0} (i n : ℕ) (f : ℕ → Option B) (b : B) → i + suc n < 2 ^ 63 → (char_at m (at ⊞ pos i) >>= f) ≡ Some b → measure (i + 1) < measure i
  measure_less i n f b small is =
      let place = read_one m (at ⊞ pos i) (char_at m (at ⊞ pos i)) f b refl is in
      room_less m at i place.0 h (omega (arith, small)) place.1

  -- turns that read memory alone
  pub few_each : {S : Type 0} (body : ℕ → S → Option S) (f : ℕ → S → ℕ → Option S) → ((i : ℕ) (s : S) → body i s ≡ (char_at m (at ⊞ pos i) >>= f i s)) → (n : ℕ) (s : S) → n < 2 ^ 63 → each_visits body 0 n s ≤ all_bytes m + 1
  few_each {S} body f reads n s small =
      let most = few_more body (λ k i t. i + k < 2 ^ 63) measure (λ k i t u q e. (omega (arith, q), measure_less i k (f i t) u q (subst (λ o. o ≡ Some u) (reads i t) e))) n 0 s (omega (arith, small)) in
      omega (arith, most, room_most (all_bytes m) (at ⊞ pos 0))

  pub few_walk : {S R : Type 0} (turn : ℕ → S → Option (ControlFlow R S)) (f : ℕ → S → ℕ → Option (ControlFlow R S)) → ((i : ℕ) (s : S) → turn i s ≡ (char_at m (at ⊞ pos i) >>= f i s)) → (n i : ℕ) (s : S) → i + n < 2 ^ 63 → walk_visits turn i n s ≤ all_bytes m + 1
  few_walk turn f reads n i s small =
      let most = few_turns turn (λ k j t. j + k < 2 ^ 63) (λ k j t. measure j) (λ k j t u q e. (omega (arith, q), measure_less j k (f j t) (Continue u) q (subst (λ o. o ≡ Some (Continue u)) (reads j t) e))) n i s small in
      omega (arith, most, room_most (all_bytes m) (at ⊞ pos i))

  -- turns that write too
  abbrev StillHere : ℕ → ℕ → Memory → Type 0
  StillHere k i n = Follows m n × (i + k < 2 ^ 63)

  measure_in : (n : Memory) → Follows m n → (i k : ℕ) (f : ℕ → Option Memory) (b : Memory) → i + suc k < 2 ^ 63 → (char_at n (at ⊞ pos i) >>= f) ≡ Some b → measure (i + 1) < measure i
  measure_in n follows i k f b small is =
      let place = read_one n (at ⊞ pos i) (char_at n (at ⊞ pos i)) f b refl is in
      let same = same_bytes m n follows.shape in
      subst (λ all. room_in all (at ⊞ pos (i + 1)) < room_in all (at ⊞ pos i)) same (room_less n at i place.0 follows.is_memory (omega (arith, small)) place.1)

pub copies_few : (m : Memory) (to from : ℤ) (n : ℕ) → IsMemory m → n < 2 ^ 63 → each_visits (copy_char to from) 0 n m ≤ all_bytes m + 1
unfolding copy_char
copies_few m to from n h small =
    let most = few_more (copy_char to from) (StillHere m h from) (measure m h from)
    (λ k i s t q e. ((follows_on m s t q.0 (followed s t (copy_char to from i s) (copy_writes to from i s q.0.is_memory) e), omega (arith, q.1)), measure_in m h from s q.0 i k _ t q.1 e)) n 0 m (same m h, omega (arith, small)) in
    omega (arith, most, room_most (all_bytes m) (from ⊞ pos 0))

replaces_few : (m : Memory) (table : List (Option ℕ)) (at : ℤ) (n : ℕ) → AreBytes table → IsMemory m → n < 2 ^ 63 → each_visits (replace_turn table at) 0 n m ≤ all_bytes m + 1
unfolding replace_turn
replaces_few m table at n bytes h small =
    let most = few_more (replace_turn table at) (StillHere m h at) (measure m h at)
    (λ k i s t q e. ((follows_on m s t q.0 (followed s t (replace_turn table at i s) (replace_writes table at i s bytes q.0.is_memory) e), omega (arith, q.1)), measure_in m h at s q.0 i k _ t q.1 e)) n 0 m (same m h, omega (arith, small)) in
    omega (arith, most, room_most (all_bytes m) (at ⊞ pos 0))

-- ---- what is counted where all is found

pub or_few : {A : Type 0} (o : Option A) (f : A → Option ℕ) (k : ℕ) → ((a : A) → o ≡ Some a → or_none (f a) ≤ k) → or_none (o >>= f) ≤ k
or_few None f k h = omega arith
or_few (Some a) f k h = h a refl

v_small_of : (m : Memory) (at : ℤ) (v : ℕ) (o : Option Descriptor) → IsMemory m → descr_at m at ≡ o → (o >>= (λ d. Some d.v)) ≡ Some v → v < 2 ^ 48
v_small_of m at v None h e is = absurd cc
v_small_of m at v (Some d) h e is = subst (λ n. n < 2 ^ 48) (same_Some d.v v is) (omega (arith, (fits_descr_at m at d h e).2, h.limits.values))

pub length_small : (m : Memory) (s : ℤ) (l : ℕ) → IsMemory m → length_at m s ≡ Some l → l < 2 ^ 63
length_small m s l h is = (let few = v_small_of m (second_of m s) l (descr_at m (second_of m s)) h refl is in omega (arith, few))

spec_small : (m : Memory) (s : ℤ) (x : Specifier) → IsMemory m → spec_at m s ≡ Some x → x.l < 2 ^ 63
spec_small m s x h is = (let few = (spec_fits m s x h is).l in omega (arith, few, h.limits.values))

pub apdsp_few : (args : List Arg) (m : Memory) → IsMemory m → apdsp_turns args m ≤ all_bytes m + 1
apdsp_few args m h = search (or_few, copies_few, spec_small) depth 24

hash_few : (m : Memory) (at : ℤ) (n : ℕ) → IsMemory m → n < 2 ^ 63 → each_visits (hash_turn m at) 0 n 0 ≤ all_bytes m + 1
unfolding hash_turn
hash_few m at n h small = few_each m h at (hash_turn m at) _ (λ i s. refl) n 0 small

pub varid_few : (args : List Arg) (m : Memory) → IsMemory m → varid_turns args m ≤ all_bytes m + 1
varid_few args m h = search (or_few, hash_few, length_small) depth 24

balance_few : (m : Memory) (at : ℤ) (n : ℕ) → IsMemory m → n < 2 ^ 63 → walk_visits (balance_turn m at) 0 n 0 ≤ all_bytes m + 1
unfolding balance_turn
balance_few m at n h small = few_walk m h at (balance_turn m at) _ (λ i s. refl) n 0 0 (omega (arith, small))

positive_small : (a : ℤ) → FitsSigned w64 a → positive a < 2 ^ 63
positive_small (pos n) fits = omega (arith, fits)
positive_small (negsuc n) fits = omega arith

count_small : (m : Memory) (d a : ℤ) → a_at m d ≡ Some a → IsMemory m → positive a < 2 ^ 63
count_small m d a is h = positive_small a (fits_a_at m d a h is)

pub getbal_few : (args : List Arg) (m : Memory) → IsMemory m → getbal_turns args m ≤ all_bytes m + 1
getbal_few args m h = search (or_few, balance_few, count_small) depth 24

compare_few : (m : Memory) (at1 at2 : ℤ) (n : ℕ) (lengths : ℕ × ℕ) → IsMemory m → n < 2 ^ 63 → walk_visits (compare_turn m at1 at2) 0 n lengths ≤ all_bytes m + 1
unfolding compare_turn
compare_few m at1 at2 n lengths h small = few_walk m h at1 (compare_turn m at1 at2) _ (λ i s. refl) n 0 lengths (omega (arith, small))

shorter_small : (x y : ℕ) → x < 2 ^ 63 → y < 2 ^ 63 → shorter x y < 2 ^ 63
shorter_small x y h k = grind arith

pub lexcmp_few : (args : List Arg) (m : Memory) → IsMemory m → lexcmp_turns args m ≤ all_bytes m + 1
lexcmp_few args m h = search (or_few, compare_few, shorter_small, length_small) depth 30

-- from the end
trim_on_by : (left t : ℕ) (o : Option ℕ) → (o >>= (λ c. Some (trim_char left c))) ≡ Some (Continue t) → t ≡ left - 1
trim_on_by left t None e = absurd cc
trim_on_by left t (Some c) e = by (c == 32) (same_Some _ _ e)
  where
    chosen : Bool → ControlFlow ℕ ℕ
    chosen b = if b then Continue (left - 1) else Break left

    by : (b : Bool) → chosen b ≡ Continue t → t ≡ left - 1
    by true e' = cc
    by false e' = absurd cc

trim_on : (m : Memory) (at : ℤ) (i left t : ℕ) → trim_turn m at i left ≡ Some (Continue t) → (t ≡ left - 1) × ((p : ℕ × ℕ) × (byte_place m (at ⊞ pos (left - 1)) ≡ Some p))
unfolding trim_turn
trim_on m at i left t e = (trim_on_by left t (char_at m (at ⊞ pos (left - 1))) e, read_one m (at ⊞ pos (left - 1)) (char_at m (at ⊞ pos (left - 1))) _ (Continue t) refl e)

trim_few : (m : Memory) (at : ℤ) (n : ℕ) → IsMemory m → n < 2 ^ 63 → walk_visits (trim_turn m at) 0 n n ≤ all_bytes m + 1
trim_few m at n h small =
    let most = few_turns (trim_turn m at) (λ k i left. (left ≡ k) × (k < 2 ^ 63)) (λ k i left. below k) (λ k i s t q e. turned k i s t q e) n 0 n (refl, small) in
    omega (arith, most, below_most n)
  where
    below : ℕ → ℕ
    below zero = 0
    below (suc k) = depth_in (all_bytes m) (at ⊞ pos k)

    below_most : (k : ℕ) → below k ≤ all_bytes m
    below_most zero = omega arith
    below_most (suc k) = depth_most (all_bytes m) (at ⊞ pos k)

    shallower : (k : ℕ) (p : ℕ × ℕ) → k + 1 < 2 ^ 63 → byte_place m (at ⊞ pos k) ≡ Some p → below k < below (suc k)
    shallower zero p lt here = depth_some m (at ⊞ pos 0) p h here
    shallower (suc j) p lt here = depth_less m at j p h (omega (arith, lt)) here

    turned : (k i s t : ℕ) → (s ≡ suc k) × (suc k < 2 ^ 63) → trim_turn m at i s ≡ Some (Continue t) → ((t ≡ k) × (k < 2 ^ 63)) × (below k < below (suc k))
    turned k i s t q e =
        let s_is : s - 1 ≡ k = omega (arith, q.0) in
        let both = trim_on m at i s t e in
        let here : byte_place m (at ⊞ pos k) ≡ Some both.1.0 = subst (λ j. byte_place m (at ⊞ pos j) ≡ Some both.1.0) s_is both.1.1 in
        ((omega (arith, both.0, s_is), omega (arith, q.1)), shallower k both.1.0 (omega (arith, q.1)) here)

pub trimsp_few : (args : List Arg) (m : Memory) → IsMemory m → trimsp_turns args m ≤ all_bytes m + 1
trimsp_few args m h = search (or_few, trim_few, spec_small) depth 24

digits_few : (m : Memory) (at : ℤ) (limit i n : ℕ) → IsMemory m → i + n < 2 ^ 63 → walk_visits (digit_turn m at limit) i n 0 ≤ all_bytes m + 1
unfolding digit_turn
digits_few m at limit i n h small = few_walk m h at (digit_turn m at limit) _ (λ j s. refl) n i 0 small

integer_few : (m : Memory) (at : ℤ) (n : ℕ) → IsMemory m → n < 2 ^ 62 → integer_turns m at n ≤ all_bytes m + 2
integer_few m at zero h small = omega arith
integer_few m at (suc n) h small = by (char_at m (at ⊞ pos 0))
  where
    tested : (a b : Bool) → (if a then 1 + walk_visits (digit_turn m at (2 ^ 63)) 1 n 0 else (if b then 1 + walk_visits (digit_turn m at (2 ^ 63 - 1)) 1 n 0 else walk_visits (digit_turn m at (2 ^ 63 - 1)) 0 (suc n) 0)) ≤ all_bytes m + 2
    tested true b = omega (arith, digits_few m at (2 ^ 63) 1 n h (omega (arith, small)))
    tested false true = omega (arith, digits_few m at (2 ^ 63 - 1) 1 n h (omega (arith, small)))
    tested false false = omega (arith, digits_few m at (2 ^ 63 - 1) 0 (suc n) h (omega (arith, small)))

    by : (o : Option ℕ) → integer_visits m at n o ≤ all_bytes m + 2
    by None = omega arith
    by (Some c) = tested (c == 45) (c == 43)

length_few : (m : Memory) (s : ℤ) (l : ℕ) → IsMemory m → length_at m s ≡ Some l → l < 2 ^ 62
length_few m s l h is = (let few = v_small_of m (second_of m s) l (descr_at m (second_of m s)) h refl is in omega (arith, few))

pub spcint_few : (args : List Arg) (m : Memory) → IsMemory m → spcint_turns args m ≤ all_bytes m + 2
spcint_few args m h = search (or_few, integer_few, length_few) depth 24

pairs_few : (m : Memory) (at2 at3 : ℤ) (n : ℕ) → IsMemory m → n < 2 ^ 63 → each_visits (pair_turn m at2 at3) 0 n nothing_stands ≤ all_bytes m + 1
unfolding pair_turn
pairs_few m at2 at3 n h small = few_each m h at2 (pair_turn m at2 at3) _ (λ i s. refl) n nothing_stands small

after_pairs_few : (m : Memory) (at1 at2 at3 : ℤ) (l1 l2 : ℕ) (o : Option (List (Option ℕ))) → IsMemory m → l1 < 2 ^ 63 → each (pair_turn m at2 at3) 0 l2 nothing_stands ≡ o → replace_turns at1 l1 m o ≤ all_bytes m + 1
after_pairs_few m at1 at2 at3 l1 l2 None h small e = omega arith
after_pairs_few m at1 at2 at3 l1 l2 (Some table) h small e = replaces_few m table at1 l1 (pairs_give m at2 at3 l2 table h e) h small

both_few : (m : Memory) (at1 at2 at3 : ℤ) (l1 l2 l3 : ℕ) → IsMemory m → l1 < 2 ^ 63 → l2 < 2 ^ 63 →
    or_none (if l2 == l3 then Some (each_visits (pair_turn m at2 at3) 0 l2 nothing_stands + replace_turns at1 l1 m (each (pair_turn m at2 at3) 0 l2 nothing_stands)) else None) ≤ 2 * (all_bytes m + 1)
both_few m at1 at2 at3 l1 l2 l3 h small small2 = by (l2 == l3)
  where
    by : (b : Bool) → or_none (if b then Some (each_visits (pair_turn m at2 at3) 0 l2 nothing_stands + replace_turns at1 l1 m (each (pair_turn m at2 at3) 0 l2 nothing_stands)) else None) ≤ 2 * (all_bytes m + 1)
    by true =
        let one = pairs_few m at2 at3 l2 h small2 in
        let other = after_pairs_few m at1 at2 at3 l1 l2 _ h small refl in
        omega (arith, one, other)
    by false = omega arith

pub rplace_few : (args : List Arg) (m : Memory) → IsMemory m → rplace_turns args m ≤ 2 * (all_bytes m + 1)
rplace_few args m h = search (or_few, both_few, length_small) depth 30
