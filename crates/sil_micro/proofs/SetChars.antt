-- Characters that are written from an address on: each finds its cell where there were characters, and the memory stays one.
use Rattle.std.proofs.Common.{◌≡◌, ◌≢◌, ◌⊎◌, inl, inr, ℕ, zero, suc, ◌<◌, List, [], ◌∷◌, length, Option, Some, None, true, refl, sym, ap, subst, ◌∙◌, arith}
use Rattle.std.specs.Prelude.{ℤ, pos, ◌%◌, is_some, map, nat_lt, slice_get, slice_set}
use Rattle.std.specs.List.{list_all}
use Rattle.std.proofs.lemmas.Bool.{cases_eq}
use Rattle.std.proofs.lemmas.Option.{same_Some, slice_get_within}
use Rattle.std.proofs.lemmas.List.{length-set}
use Rattle.layout_params.specs.declared.cell.Cell.{Cell}
use Rattle.layout_params.specs.declared.cell.Cell.TheVariants.{Descr, Chars}
use Rattle.sil_model.specs.Access.{◌>>=◌, byte_place, chars_of, chars_or_zeros, char_at, put_char, set_char_at, with_cell, with_cells}
use Rattle.sil_model.specs.Integers.{◌⊞◌}
use Rattle.sil_model.specs.Memory.{Memory, IsMemory}
use Rattle.sil_model.proofs.Characters.{writes_set_char}
use Rattle.sil_model.proofs.Keeps.{Writes, same, writes_then}
use Rattle.sil_model.proofs.Places.{same_place, set_here, set_there}
use Rattle.sil_micro.specs.UnitCalls.{chars_from, or_nothing, set_chars_from}
use Rattle.sil_micro.proofs.Moved.{and_first, and_second}

-- ---- one character

-- the characters around an address
record IsIn (m : Memory) (at : ℤ) : Type 0 where
  place : ℕ × ℕ
  chars : List ℕ
  is : byte_place m at ≡ Some place
  cell : slice_get m.cells place.0 ≡ Some (Chars chars)
  within : place.1 < length chars

some_within : (xs : List ℕ) (i : ℕ) → is_some (slice_get xs i) ≡ true → i < length xs
some_within [] i h = absurd cc
some_within (x ∷ xs) zero h = omega arith
some_within (x ∷ xs) (suc i) h = omega (arith, some_within xs i h)

within_some : (xs : List ℕ) (i : ℕ) → i < length xs → is_some (slice_get xs i) ≡ true
within_some [] i h = absurd (omega arith)
within_some (x ∷ xs) zero h = refl
within_some (x ∷ xs) (suc i) h = within_some xs i (omega arith)

char_in : (m : Memory) (at : ℤ) → is_some (char_at m at) ≡ true → IsIn m at
unfolding char_at
char_in m at h = by (byte_place m at) refl h
  where
    of_cell : (p : ℕ × ℕ) → byte_place m at ≡ Some p → (o : Option Cell) → slice_get m.cells p.0 ≡ o → is_some (o >>= (λ cell. chars_of cell >>= (λ chars. slice_get chars p.1))) ≡ true → IsIn m at
    of_cell p e None g some = absurd cc
    of_cell p e (Some (Descr d)) g some = absurd cc
    of_cell p e (Some (Chars chars)) g some = record { place = p; chars = chars; is = e; cell = g; within = some_within chars p.1 some }

    by : (o : Option (ℕ × ℕ)) → byte_place m at ≡ o → is_some (o >>= (λ (p : ℕ × ℕ). slice_get m.cells p.0 >>= (λ cell. chars_of cell >>= (λ chars. slice_get chars p.1)))) ≡ true → IsIn m at
    by None e some = absurd cc
    by (Some p) e some = of_cell p e (slice_get m.cells p.0) refl some

in_char : (m : Memory) (at : ℤ) → IsIn m at → is_some (char_at m at) ≡ true
unfolding char_at
in_char m at h = rw (h.is, h.cell) (within_some h.chars h.place.1 h.within)

-- the place of a character that is written, and the memory after
record IsSet (m m' : Memory) (at : ℤ) (c : ℕ) : Type 0 where
  place : ℕ × ℕ
  was : Cell
  is : byte_place m at ≡ Some place
  cell : slice_get m.cells place.0 ≡ Some was
  left : with_cell m place.0 (Chars (slice_set (chars_or_zeros was) place.1 c)) ≡ m'

set_in : (m m' : Memory) (at : ℤ) (c : ℕ) → set_char_at m at c ≡ Some m' → IsSet m m' at c
unfolding put_char
set_in m m' at c h = by (byte_place m at) refl h
  where
    of_cell : (p : ℕ × ℕ) → byte_place m at ≡ Some p → (o : Option Cell) → slice_get m.cells p.0 ≡ o → with_cells m (o >>= (λ cell. Some (slice_set m.cells p.0 (Chars (slice_set (chars_or_zeros cell) p.1 c))))) ≡ Some m' → IsSet m m' at c
    of_cell p e None g left = absurd cc
    of_cell p e (Some was) g left = record { place = p; was = was; is = e; cell = g; left = same_Some _ m' left }

    by : (o : Option (ℕ × ℕ)) → byte_place m at ≡ o → with_cells m (o >>= (λ (p : ℕ × ℕ). slice_get m.cells p.0 >>= (λ cell. Some (slice_set m.cells p.0 (Chars (slice_set (chars_or_zeros cell) p.1 c)))))) ≡ Some m' → IsSet m m' at c
    by None e left = absurd cc
    by (Some p) e left = of_cell p e (slice_get m.cells p.0) refl left

-- where there were characters, there are some
stays_in : (m m' : Memory) (at other : ℤ) (c : ℕ) → IsSet m m' at c → IsIn m other → IsIn m' other
stays_in m m' at other c h was = subst (λ n. IsIn n other) h.left (by (cases_eq was.place.0 h.place.0))
  where
    new : List ℕ
    new = slice_set (chars_or_zeros h.was) h.place.1 c

    after : Memory
    after = with_cell m h.place.0 (Chars new)

    place_is : byte_place after other ≡ Some was.place
    place_is = same_place m h.place.0 (Chars new) other ∙ was.is

    by : (was.place.0 ≡ h.place.0) ⊎ (was.place.0 ≢ h.place.0) → IsIn after other
    by (inl e) =
        let same_cell : h.was ≡ Chars was.chars = same_Some h.was (Chars was.chars) (sym h.cell ∙ ap (λ i. slice_get m.cells i) (sym e) ∙ was.cell) in
        let long : length new ≡ length was.chars = length-set (chars_or_zeros h.was) h.place.1 c ∙ ap (λ k. length (chars_or_zeros k)) same_cell in
        record { place = was.place; chars = new; is = place_is; cell = ap (λ i. slice_get after.cells i) e ∙ set_here m.cells h.place.0 (Chars new) (slice_get_within m.cells h.place.0 h.was h.cell); within = omega (arith, long, was.within) }
    by (inr ne) = record { place = was.place; chars = was.chars; is = place_is; cell = set_there m.cells h.place.0 was.place.0 (Chars new) ne ∙ was.cell; within = was.within }

-- a character is written where there was one
set_is : (m : Memory) (at : ℤ) (c : ℕ) → IsIn m at → (m' : Memory) × (set_char_at m at c ≡ Some m')
unfolding put_char
set_is m at c h = (with_cell m h.place.0 (Chars (slice_set h.chars h.place.1 c)), rw (h.is, h.cell) refl)

-- ---- characters from an address on

-- the first one, and the others
pub record AreFrom (m : Memory) (at : ℤ) (n : ℕ) : Type 0 where
  pub first : is_some (char_at m at) ≡ true
  pub rest : is_some (chars_from m (at ⊞ pos 1) n) ≡ true

pub chars_first : (m : Memory) (at : ℤ) (n : ℕ) → is_some (chars_from m at (suc n)) ≡ true → AreFrom m at n
unfolding chars_from
chars_first m at n h = by (char_at m at) refl h
  where
    others : (c : ℕ) (o : Option (List ℕ)) → is_some (o >>= (λ rest. Some (c ∷ rest))) ≡ true → is_some o ≡ true
    others c None g = g
    others c (Some cs) g = refl

    by : (o : Option ℕ) → char_at m at ≡ o → is_some (o >>= (λ c. chars_from m (at ⊞ pos 1) n >>= (λ rest. Some (c ∷ rest)))) ≡ true → AreFrom m at n
    by None e g = absurd cc
    by (Some c) e g = record { first = ap is_some e; rest = others c (chars_from m (at ⊞ pos 1) n) g }

chars_all : (m : Memory) (at : ℤ) (n : ℕ) → AreFrom m at n → is_some (chars_from m at (suc n)) ≡ true
unfolding chars_from
chars_all m at n h = by (char_at m at) (chars_from m (at ⊞ pos 1) n) h.first h.rest
  where
    by : (o : Option ℕ) (p : Option (List ℕ)) → is_some o ≡ true → is_some p ≡ true → is_some (o >>= (λ c. p >>= (λ rest. Some (c ∷ rest)))) ≡ true
    by None p e f = absurd cc
    by (Some c) None e f = absurd cc
    by (Some c) (Some cs) e f = refl

no_chars : (m : Memory) (at : ℤ) → is_some (chars_from m at zero) ≡ true
unfolding chars_from
no_chars m at = refl

-- there are as many as were asked for
pub chars_count : (m : Memory) (at : ℤ) (n : ℕ) → is_some (chars_from m at n) ≡ true → length (or_nothing (chars_from m at n)) ≡ n
unfolding chars_from
chars_count m at zero h = refl
chars_count m at (suc n) h = let all = chars_first m at n h in by (chars_count m (at ⊞ pos 1) n all.rest) all (char_at m at) refl
  where
    long : (c : ℕ) (o : Option (List ℕ)) → is_some o ≡ true → length (or_nothing o) ≡ n → length (or_nothing (o >>= (λ rest. Some (c ∷ rest)))) ≡ suc n
    long c None some e = absurd cc
    long c (Some cs) some e = ap suc e

    by : length (or_nothing (chars_from m (at ⊞ pos 1) n)) ≡ n → AreFrom m at n → (o : Option ℕ) → char_at m at ≡ o → length (or_nothing (o >>= (λ c. chars_from m (at ⊞ pos 1) n >>= (λ rest. Some (c ∷ rest))))) ≡ suc n
    by more all None e = let first = all.first in absurd cc
    by more all (Some c) e = long c (chars_from m (at ⊞ pos 1) n) all.rest more

-- a character that is written leaves all of them there
chars_stay : (m m' : Memory) (at other : ℤ) (c n : ℕ) → IsSet m m' at c → is_some (chars_from m other n) ≡ true → is_some (chars_from m' other n) ≡ true
chars_stay m m' at other c zero h is = no_chars m' other
chars_stay m m' at other c (suc n) h is =
    let all = chars_first m other n is in
    chars_all m' other n (record { first = in_char m' other (stays_in m m' at other c h (char_in m other all.first)); rest = chars_stay m m' at (other ⊞ pos 1) c n h all.rest })

pub chars_kept : (m m' : Memory) (at other : ℤ) (c n : ℕ) → set_char_at m at c ≡ Some m' → is_some (chars_from m other n) ≡ true → is_some (chars_from m' other n) ≡ true
chars_kept m m' at other c n set is = chars_stay m m' at other c n (set_in m m' at c set) is

-- as many characters as there are can be written
pub sets_chars : (m : Memory) (at : ℤ) (cs : List ℕ) → is_some (chars_from m at (length cs)) ≡ true → is_some (set_chars_from m at cs) ≡ true
unfolding set_chars_from
sets_chars m at [] h = refl
sets_chars m at (c ∷ cs) h =
    let all = chars_first m at (length cs) h in
    let one = set_is m at c (char_in m at all.first) in
    ap (λ o. is_some (o >>= (λ after. set_chars_from after (at ⊞ pos 1) cs))) one.1 ∙ sets_chars one.0 (at ⊞ pos 1) cs (chars_kept m one.0 at (at ⊞ pos 1) c (length cs) one.1 all.rest)

no_writes : (m : Memory) → IsMemory m → Writes m (Some m)
unfolding Writes
no_writes m is = same m is

-- bytes leave as many cells, which fit
pub writes_chars : (m : Memory) (at : ℤ) (cs : List ℕ) → IsMemory m → list_all (λ c. nat_lt c 256) cs ≡ true → Writes m (set_chars_from m at cs)
unfolding set_chars_from
writes_chars m at [] is bytes = no_writes m is
writes_chars m at (c ∷ cs) is bytes =
    let small : c < 256 = (let b = and_first (nat_lt c 256) (list_all (λ x. nat_lt x 256) cs) bytes in grind arith) in
    writes_then m (set_char_at m at c) (λ after. set_chars_from after (at ⊞ pos 1) cs) (writes_set_char m at c is small) (λ m' f. writes_chars m' (at ⊞ pos 1) cs f.is_memory (and_second (nat_lt c 256) (list_all (λ x. nat_lt x 256) cs) bytes))

-- the lowest eight bits of numbers are bytes
pub low_bits : (cs : List ℕ) → list_all (λ c. nat_lt c 256) (map (λ c. c % 256) cs) ≡ true
low_bits [] = refl
low_bits (c ∷ cs) = let b : nat_lt (c % 256) 256 ≡ true = (let lt : c % 256 < 256 = omega arith in grind arith) in rw b (low_bits cs)
