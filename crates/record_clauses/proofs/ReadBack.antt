-- Characters that were written one by one are read there.
use Rattle.std.proofs.Common.{◌≡◌, ◌≢◌, ◌⊎◌, inl, inr, ℕ, zero, suc, ◌+◌, ◌-◌, ◌*◌, ◌/◌, ◌%◌, ◌^◌, ◌<◌, ◌≤◌, List, [], ◌∷◌, length, Option, Some, None, Bool, true, false, All, refl, sym, ap, subst, ◌∙◌, arith}
use Rattle.std.proofs.Math.Nat.{div-add-mod}
use Rattle.std.proofs.lemmas.Bool.{cases_eq}
use Rattle.std.proofs.lemmas.Bool.Decides.{nat_tests}
use Rattle.std.proofs.lemmas.Option.{same_Some}
use Rattle.std.specs.Prelude.{ℤ, pos, negsuc, nat_le, nat_lt, ◌&&◌, if◌then◌else◌, slice_get, slice_set}
use Rattle.sil_base.specs.declared.places.TheConstants.{FIRST_CELL}
use Rattle.layout_params.specs.declared.cell.Cell.{Cell}
use Rattle.layout_params.specs.declared.cell.Cell.TheVariants.{Descr, Chars}
use Rattle.sil_model.specs.Access.{◌>>=◌, byte_place, char_at, chars_of, chars_or_zeros, set_char_at, with_cell}
use Rattle.sil_model.specs.Integers.{◌⊞◌}
use Rattle.sil_model.specs.Memory.{Memory, IsMemory}
use Rattle.sil_model.proofs.Characters.{writes_set_char}
use Rattle.sil_model.proofs.Keeps.{Follows, followed}
use Rattle.sil_model.proofs.Places.{same_place, set_there}
use Rattle.sil_model.proofs.Reading.{from_read}
use Rattle.sil_model.proofs.ReadingChars.{char_read, chars_stay}
use Rattle.string_clauses.specs.StringClauses.{chars_written}
use Rattle.string_clauses.proofs.Room.{char_place}
use Rattle.record_clauses.specs.RecordClauses.{chars_at}
use Rattle.record_clauses.proofs.RecordVisits.{IsFound, from_set_char, set_found}

-- ---- one place has one address

abbrev address_of : Memory → ℕ × ℕ → ℤ
address_of m p = pos (FIRST_CELL + (m.limits.cell_size * p.0 + p.1))

placed_at : (m : Memory) (at : ℕ) (p : ℕ × ℕ) (low : Bool) (high : Bool) → nat_le FIRST_CELL at ≡ low →
    (if low && high then Some ((at - FIRST_CELL) / m.limits.cell_size, (at - FIRST_CELL) % m.limits.cell_size) else None) ≡ Some p → pos at ≡ address_of m p
placed_at m at p true true le is =
    let size = m.limits.cell_size in
    let whole : size * ((at - FIRST_CELL) / size) + (at - FIRST_CELL) % size ≡ at - FIRST_CELL = div-add-mod (at - FIRST_CELL) size in
    let low : FIRST_CELL ≤ at = grind (arith, nat_tests, le) in
    let same : at ≡ FIRST_CELL + (size * ((at - FIRST_CELL) / size) + (at - FIRST_CELL) % size) = omega (arith, whole, low) in
    ap pos same ∙ ap (λ q. address_of m q) (same_Some _ p is)
placed_at m at p true false le is = absurd cc
placed_at m at p false high le is = absurd cc

address_is : (m : Memory) (at : ℤ) (p : ℕ × ℕ) → byte_place m at ≡ Some p → at ≡ address_of m p
unfolding byte_place
address_is m (pos at) p is = placed_at m at p (nat_le FIRST_CELL at) (nat_lt ((at - FIRST_CELL) / m.limits.cell_size) (length m.cells)) refl is
address_is m (negsuc at) p is = absurd cc

-- ---- one character

char_of_cell : (m : Memory) (at : ℤ) (x : ℕ) (q : ℕ × ℕ) (cell : Cell) → byte_place m at ≡ Some q → slice_get m.cells q.0 ≡ Some cell → char_at m at ≡ Some x → slice_get (chars_or_zeros cell) q.1 ≡ Some x
unfolding char_at
char_of_cell m at x q (Descr d) place was is = (let e : None ≡ Some x = rw (place, was) at is in absurd cc)
char_of_cell m at x q (Chars cs) place was is = rw (place, was) at is

char_elsewhere : (m : Memory) (i : ℕ) (cell : Cell) (at : ℤ) (q : ℕ × ℕ) → byte_place m at ≡ Some q → q.0 ≢ i → char_at (with_cell m i cell) at ≡ char_at m at
unfolding char_at
char_elsewhere m i cell at q place ne =
    let there : byte_place (with_cell m i cell) at ≡ Some q = same_place m i cell at ∙ place in
    rw (there, place, set_there m.cells i q.0 cell ne) refl

-- a character apart from one that is written stays
char_stays : (m m' : Memory) (at other : ℤ) (c x : ℕ) → set_char_at m at c ≡ Some m' → other ≢ at → char_at m other ≡ Some x → char_at m' other ≡ Some x
char_stays m m' at other c x set apart is = by (from_set_char m m' at c set) (char_place m other x is)
  where
    by : (p : ℕ × ℕ) × (cell : Cell) × (byte_place m at ≡ Some p) × (slice_get m.cells p.0 ≡ Some cell) × (with_cell m p.0 (Chars (slice_set (chars_or_zeros cell) p.1 c)) ≡ m') → (q : ℕ × ℕ) × (byte_place m other ≡ Some q) → char_at m' other ≡ Some x
    by (p, cell, place, was, left) (q, place') = elim (cases_eq q.0 p.0) [
      | inl same ↦ (
          let was' : slice_get m.cells q.0 ≡ Some cell = ap (λ i. slice_get m.cells i) same ∙ was in
          let read = char_of_cell m other x q cell place' was' is in
          chars_stay m m' at other c p q cell place place' was set same (λ e. apart (address_is m other q place' ∙ ap (λ o. pos (FIRST_CELL + o)) (ap (λ i. m.limits.cell_size * i + q.1) same ∙ ap (λ j. m.limits.cell_size * p.0 + j) e) ∙ sym (address_is m at p place))) ∙ read)
      | inr ne ↦ subst (λ n. char_at n other ≡ Some x) left (char_elsewhere m p.0 _ other q place' ne ∙ is)
    ]

-- ---- all of them

-- those that are written behind a character leave it
later_stay : (cs : List ℕ) (j k x : ℕ) (m m' : Memory) → IsMemory m → All (λ c. c < 256) cs → k < j → chars_written (pos j) cs m ≡ Some m' → char_at m (pos k) ≡ Some x → char_at m' (pos k) ≡ Some x
unfolding chars_written
later_stay [] j k x m m' h bytes lt is read = subst (λ n. char_at n (pos k) ≡ Some x) (same_Some m m' is) read
later_stay (c ∷ cs) j k x m m' h bytes lt is read =
    let one = from_read (set_char_at m (pos j) c) (λ next. chars_written (pos j ⊞ pos 1) cs next) m' is in
    let found = set_found m one.0 (pos j) c h one.1 in
    let number : j ≡ found.number = (let e = found.is in cc) in
    let next : pos j ⊞ pos 1 ≡ pos (j + 1) = found.next ∙ ap (λ n. pos (n + 1)) (sym number) in
    let follows = followed m one.0 (set_char_at m (pos j) c) (writes_set_char m (pos j) c h (bytes 0 0 (omega arith))) one.1 in
    let rest : chars_written (pos (j + 1)) cs one.0 ≡ Some m' = subst (λ a. chars_written a cs one.0 ≡ Some m') next one.2 in
    let stays = char_stays m one.0 (pos j) (pos k) c x one.1 (λ e. let same : k ≡ j = cc in absurd (omega (arith, lt, same))) read in
    later_stay cs (j + 1) k x one.0 m' follows.is_memory (λ i d below. bytes (suc i) d (omega arith)) (omega (arith, lt)) rest stays

pub read_back : (cs : List ℕ) (m m' : Memory) (at : ℤ) → IsMemory m → All (λ c. c < 256) cs → chars_written at cs m ≡ Some m' → chars_at m' at (length cs) ≡ Some cs
unfolding chars_written chars_at
read_back [] m m' at h bytes is = refl
read_back (c ∷ cs) m m' at h bytes is =
    let one = from_read (set_char_at m at c) (λ next. chars_written (at ⊞ pos 1) cs next) m' is in
    let found = set_found m one.0 at c h one.1 in
    let n = found.number in
    let follows = followed m one.0 (set_char_at m at c) (writes_set_char m at c h (bytes 0 0 (omega arith))) one.1 in
    let others : All (λ x. x < 256) cs = λ i d below. bytes (suc i) d (omega arith) in
    let rest : chars_written (pos (n + 1)) cs one.0 ≡ Some m' = subst (λ a. chars_written a cs one.0 ≡ Some m') found.next one.2 in
    let here : char_at one.0 (pos n) ≡ Some c = subst (λ a. char_at one.0 a ≡ Some c) found.is (char_read m one.0 at c h one.1) in
    let stays = later_stay cs (n + 1) n c one.0 m' follows.is_memory others (omega arith) rest here in
    let first : char_at m' at ≡ Some c = subst (λ a. char_at m' a ≡ Some c) (sym found.is) stays in
    rw (first, read_back cs one.0 m' (at ⊞ pos 1) follows.is_memory others one.2) refl
