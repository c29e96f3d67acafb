-- How many characters the clauses visit, and how many may stand from an address on.
use Rattle.std.proofs.Common.{◌≡◌, ℕ, zero, suc, ◌+◌, ◌-◌, ◌*◌, ◌^◌, ◌<◌, ◌≤◌, List, Option, Some, None, Bool, true, false, refl, sym, ap, ◌∙◌, subst, arith}
use Rattle.std.proofs.Math.Nat.{mul-le-mul_left}
use Rattle.std.proofs.lemmas.Bool.Decides.{nat_tests}
use Rattle.std.proofs.lemmas.Int.{ints}
use Rattle.std.proofs.lemmas.Option.{same_Some}
use Rattle.std.specs.Prelude.{ℤ, pos, nat_le, if◌then◌else◌, length, slice_get, slice_set}
use Rattle.sil_base.specs.declared.places.TheConstants.{FIRST_CELL}
use Rattle.layout_params.specs.declared.cell.Cell.{Cell}
use Rattle.layout_params.specs.declared.cell.Cell.TheVariants.{Chars}
use Rattle.sil_model.specs.declared.program.Arg.{Arg}
use Rattle.sil_model.specs.Access.{◌>>=◌, byte_place, char_at, chars_or_zeros, put_char, set_char_at, with_cell}
use Rattle.sil_model.specs.Integers.{◌⊞◌, wrapped_sum}
use Rattle.sil_model.specs.Memory.{Memory, IsMemory}
use Rattle.sil_model.proofs.Characters.{writes_set_char}
use Rattle.sil_model.proofs.Keeps.{Follows, followed}
use Rattle.sil_model.proofs.Reading.{from_read}
use Rattle.string_clauses.specs.StringClauses.{chars_written}
use Rattle.string_clauses.specs.StringTable.{or_none}
use Rattle.string_clauses.proofs.Room.{IsInside, all_bytes, char_place, is_inside, room_in, room_most, same_bytes}
use Rattle.string_clauses.specs.Walks.{one_more}
use Rattle.record_clauses.specs.declared.reading.Reading.{Reading}
use Rattle.record_clauses.specs.RecordClauses.{Layout, blanks, chars_at, layout_of, string_of, to_read}
use Rattle.record_clauses.specs.RecordTable.{chars_visits, layout_turns, stprnt_turns, stread_turns, string_turns, turns_behind, written_visits}

all_few : (m : Memory) → IsMemory m → all_bytes m ≤ 2 ^ 26
all_few m h =
    let short : length m.cells * m.limits.cell_size ≤ length m.cells * 64 = mul-le-mul_left (length m.cells) h.limits.most in
    omega (arith, short, h.count)

-- the place of a character that was written, and the memory after
pub from_set_char : (m m' : Memory) (at : ℤ) (c : ℕ) → set_char_at m at c ≡ Some m' →
    (p : ℕ × ℕ) × (cell : Cell) × (byte_place m at ≡ Some p) × (slice_get m.cells p.0 ≡ Some cell) × (with_cell m p.0 (Chars (slice_set (chars_or_zeros cell) p.1 c)) ≡ m')
unfolding put_char
from_set_char m m' at c is =
    let cells = from_read _ _ m' is in
    let place = from_read _ _ cells.0 cells.1 in
    let was = from_read _ _ cells.0 place.2 in
    (place.0, was.0, place.1, was.1, ap (λ cs. record m { cells = cs }) (same_Some _ _ was.2) ∙ same_Some _ _ cells.2)

-- ---- the next address

pub next_number : (n : ℕ) → n + 1 < 2 ^ 63 → pos n ⊞ pos 1 ≡ pos (n + 1)
unfolding wrapped_sum
next_number n small = grind (arith, ints)

less_room : (all n : ℕ) → FIRST_CELL ≤ n → n < FIRST_CELL + all → room_in all (pos (n + 1)) < room_in all (pos n)
less_room all n low high = grind (arith, nat_tests)

-- an address that is found is a number, and so is the next one
pub record IsFound (m : Memory) (at : ℤ) : Type 0 where
  pub number : ℕ
  pub is : at ≡ pos number
  pub next : at ⊞ pos 1 ≡ pos (number + 1)
  pub small : number < 2 ^ 40
  pub less : room_in (all_bytes m) (at ⊞ pos 1) < room_in (all_bytes m) at

pub is_found : (m : Memory) (at : ℤ) (p : ℕ × ℕ) → IsMemory m → byte_place m at ≡ Some p → IsFound m at
is_found m at p h place =
    let here = is_inside m at p h place in
    let n = here.number in
    let small : n < 2 ^ 40 = omega (arith, here.high, all_few m h) in
    let after : pos n ⊞ pos 1 ≡ pos (n + 1) = next_number n (omega (arith, small)) in
    let next : at ⊞ pos 1 ≡ pos (n + 1) = subst (λ x. x ⊞ pos 1 ≡ pos (n + 1)) (sym here.is) after in
    let less = less_room (all_bytes m) n here.low here.high in
    record {
      number = n;
      is = here.is;
      next = next;
      small = small;
      less = subst (λ x. room_in (all_bytes m) x < room_in (all_bytes m) at) (sym next) (subst (λ x. room_in (all_bytes m) (pos (n + 1)) < room_in (all_bytes m) x) (sym here.is) less);
    }

pub char_found : (m : Memory) (at : ℤ) (c : ℕ) → IsMemory m → char_at m at ≡ Some c → IsFound m at
char_found m at c h is = let place = char_place m at c is in is_found m at place.0 h place.1

pub set_found : (m m' : Memory) (at : ℤ) (c : ℕ) → IsMemory m → set_char_at m at c ≡ Some m' → IsFound m at
set_found m m' at c h is = let found = from_set_char m m' at c is in is_found m at found.0 h found.2

-- ---- characters that are read

pub chars_room : (m : Memory) (h : IsMemory m) (n : ℕ) (at : ℤ) → chars_visits m at n ≤ room_in (all_bytes m) at + 1
unfolding chars_visits
chars_room m h zero at = omega arith
chars_room m h (suc n) at = by (char_at m at) refl (chars_room m h n (at ⊞ pos 1))
  where
    by : (o : Option ℕ) → char_at m at ≡ o → chars_visits m (at ⊞ pos 1) n ≤ room_in (all_bytes m) (at ⊞ pos 1) + 1 → one_more o (λ c. chars_visits m (at ⊞ pos 1) n) ≤ room_in (all_bytes m) at + 1
    by None e rest = omega arith
    by (Some c) e rest = (let found = char_found m at c h e in omega (arith, found.less, rest))

pub chars_few : (m : Memory) (at : ℤ) (n : ℕ) → IsMemory m → chars_visits m at n ≤ all_bytes m + 1
chars_few m at n h = omega (arith, chars_room m h n at, room_most (all_bytes m) at)

-- ---- blanks that are written

after_blank : (m m' : Memory) (at : ℤ) → IsMemory m → set_char_at m at 32 ≡ Some m' → Follows m m'
after_blank m m' at h is = followed m m' (set_char_at m at 32) (writes_set_char m at 32 h (omega arith)) is

pub blanks_room : (n : ℕ) (m : Memory) (h : IsMemory m) (at : ℤ) → written_visits at (blanks n) m ≤ room_in (all_bytes m) at + 1
unfolding written_visits
blanks_room zero m h at = omega arith
blanks_room (suc n) m h at = by (set_char_at m at 32) refl (λ m' is. blanks_room n m' is (at ⊞ pos 1))
  where
    by : (o : Option Memory) → set_char_at m at 32 ≡ o → ((m' : Memory) → IsMemory m' → written_visits (at ⊞ pos 1) (blanks n) m' ≤ room_in (all_bytes m') (at ⊞ pos 1) + 1) → one_more o (written_visits (at ⊞ pos 1) (blanks n)) ≤ room_in (all_bytes m) at + 1
    by None e rest = omega arith
    by (Some m') e rest =
        let found = set_found m m' at 32 h e in
        let follows = after_blank m m' at h e in
        let same = same_bytes m m' follows.shape in
        let fewer = subst (λ all. written_visits (at ⊞ pos 1) (blanks n) m' ≤ room_in all (at ⊞ pos 1) + 1) same (rest m' follows.is_memory) in
        omega (arith, found.less, fewer)

pub blanks_few : (m : Memory) (at : ℤ) (n : ℕ) → IsMemory m → written_visits at (blanks n) m ≤ all_bytes m + 1
blanks_few m at n h = omega (arith, blanks_room n m h at, room_most (all_bytes m) at)

-- as many as are written have room
blanks_within : (n : ℕ) (m m' : Memory) (h : IsMemory m) (at : ℤ) → chars_written at (blanks n) m ≡ Some m' → n ≤ room_in (all_bytes m) at
unfolding chars_written
blanks_within zero m m' h at is = omega arith
blanks_within (suc n) m m' h at is =
    let one = from_read (set_char_at m at 32) (λ next. chars_written (at ⊞ pos 1) (blanks n) next) m' is in
    let found = set_found m one.0 at 32 h one.1 in
    let follows = after_blank m one.0 at h one.1 in
    let same = same_bytes m one.0 follows.shape in
    let rest = subst (λ all. n ≤ room_in all (at ⊞ pos 1)) same (blanks_within n one.0 m' follows.is_memory (at ⊞ pos 1) one.2) in
    omega (arith, found.less, rest)

pub written_few : (m m' : Memory) (at : ℤ) (n : ℕ) → IsMemory m → chars_written at (blanks n) m ≡ Some m' → n ≤ 2 ^ 26
written_few m m' at n h is = omega (arith, blanks_within n m m' h at is, room_most (all_bytes m) at, all_few m h)

-- ---- the visits of the clauses

read_few : (m : Memory) (o : Option Reading) → IsMemory m → or_none (o >>= (λ r. Some (written_visits r.at (blanks r.count) m))) ≤ all_bytes m + 1
read_few m None h = omega arith
read_few m (Some r) h = blanks_few m r.at r.count h

pub stread_few : (args : List Arg) (m : Memory) → IsMemory m → stread_turns args m ≤ all_bytes m + 1
stread_few args m h = read_few m (to_read args m) h

string_few : (m : Memory) (o : Option (ℤ × ℕ)) → IsMemory m → string_turns m o ≤ all_bytes m + 1
string_few m None h = omega arith
string_few m (Some x) h = chars_few m x.0 x.1 h

behind_few : (o : Option (List ℕ)) (n k : ℕ) → n ≤ k → turns_behind o n ≤ k
behind_few None n k h = omega arith
behind_few (Some text) n k h = h

layout_few : (args : List Arg) (m : Memory) (o : Option Layout) → IsMemory m → layout_turns args m o ≤ 2 * (all_bytes m + 1)
layout_few args m None h = omega arith
layout_few args m (Some f) h =
    let text = chars_few m f.at f.size h in
    let string = behind_few (chars_at m f.at f.size) (string_turns m (string_of args m)) (all_bytes m + 1) (string_few m (string_of args m) h) in
    omega (arith, text, string)

pub stprnt_few : (args : List Arg) (m : Memory) → IsMemory m → stprnt_turns args m ≤ 2 * (all_bytes m + 1)
stprnt_few args m h = layout_few args m (layout_of args m) h
