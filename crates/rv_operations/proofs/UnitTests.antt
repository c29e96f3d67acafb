-- Calls on units that can be made, and what they make, by what their registers hold.
use Rattle.std.proofs.Common.{◌≡◌, ℕ, zero, suc, ◌+◌, ◌*◌, ◌^◌, ◌<◌, ◌≤◌, ◌⊎◌, inl, inr, List, [], ◌∷◌, length, take, Option, Some, None, Bool, true, false, cond, ◌==◌, ◌&&◌, ◌||◌, refl, sym, ap, ◌∙◌, arith, length-append}
use Rattle.std.specs.Prelude.{ℤ, pos, negsuc, nat_le, is_some, option_and_then, slice_get, sum_by, FitsSigned}
use Rattle.std.specs.List.{flat_map, fold}
use Rattle.std.specs.Int.{w64, cast_unsigned}
use Rattle.std.proofs.lemmas.Int.{to_z-of_z}
use Rattle.std.proofs.lemmas.Nat.{mul-le}
use Rattle.sil_base.specs.declared.limits.TheConstants.{SCRATCH_BYTES}
use Rattle.sil_base.specs.declared.places.TheConstants.{FIRST_CELL, FIRST_CONSTANT, FIRST_SCRATCH}
use Rattle.sil_format.specs.declared.value.Value.{Value}
use Rattle.sil_format.specs.declared.value.Laid.{Laid}
use Rattle.sil_format.specs.declared.value.Laid.TheVariants.{Records, Real, Unfit}
use Rattle.unit_io.specs.Tapes.{TapeState, rewound, backspaced, ended, next_fails, writes_fail}
use Rattle.unit_calls.specs.CallsMade.{Made, moved, printed, print_on, laid_by, read}
use Rattle.layout_params.specs.Sizes.{Sizes}
use Rattle.layout_params.proofs.LegalLayouts.{IsLegal}
use Rattle.sil_model.specs.Memory as abstract
use Rattle.sil_model.specs.Access.{char_at}
use Rattle.sil_model.specs.Integers.{wrapped_sum, ◌⊞◌}
use Rattle.sil_micro.specs.UnitCalls.{chars_from}
use Rattle.rv_emulate.specs.EmulatorMemory.{Memory, bytes_at, can_store, can_load, holds}
use Rattle.rv_emulate.specs.EmulatorStates.{register}
use Rattle.rv_emulate.specs.Ecalls.{can_read, can_take, can_write, is_unit_call, made_by, values_at}
use Rattle.rv_routines.specs.Holds.{HoldsMemory}
use Rattle.rv_routines.specs.Tests.{cell_around, with_chars}
use Rattle.rv_routines.proofs.Cells.{place_of_byte}
use Rattle.rv_operations.specs.Links.{format_place}
use Rattle.rv_operations.proofs.CharsFound.{chars_around, char_is, nowhere}

-- ---- the emulator's test, by the number of the call

abbrev test_of : List ℕ → Memory → List ℕ → ℕ → Bool
test_of constants m ys a7 = cond (a7 == 2) (can_read m ys) (cond (a7 == 3) (can_write constants m ys) ((a7 == 4) || (a7 == 5) || (a7 == 6)))

pub reads_call : (constants : List ℕ) (m : Memory) (ys : List ℕ) (at len : ℕ) → register ys 17 ≡ 2 → register ys 11 ≡ at → register ys 12 ≡ len → can_store m len at ≡ true → is_unit_call constants m ys ≡ true
reads_call constants m ys at len e7 e1 e2 h = ap (test_of constants m ys) e7 ∙ ap (λ n. can_store m n (register ys 11)) e2 ∙ ap (λ a. can_store m len a) e1 ∙ h

pub others_call : (constants : List ℕ) (m : Memory) (ys : List ℕ) (call : ℕ) → register ys 17 ≡ call → (call ≡ 4) ⊎ (call ≡ 5) ⊎ (call ≡ 6) → is_unit_call constants m ys ≡ true
others_call constants m ys call e7 (inl e) = ap (test_of constants m ys) (e7 ∙ e)
others_call constants m ys call e7 (inr (inl e)) = ap (test_of constants m ys) (e7 ∙ e)
others_call constants m ys call e7 (inr (inr e)) = ap (test_of constants m ys) (e7 ∙ e)

abbrev write_of : List ℕ → Memory → ℕ → ℕ → ℕ → ℕ → ℕ → Bool
write_of constants m at len a3 a4 a5 = nat_le len 256 && can_load constants m len at && can_take constants m a3 a4 a5

pub writes_call : (constants : List ℕ) (m : Memory) (ys : List ℕ) (at len a3 a4 a5 : ℕ) → register ys 17 ≡ 3 → register ys 11 ≡ at → register ys 12 ≡ len → register ys 13 ≡ a3 → register ys 14 ≡ a4 → register ys 15 ≡ a5 → nat_le len 256 ≡ true → can_load constants m len at ≡ true → can_take constants m a3 a4 a5 ≡ true → is_unit_call constants m ys ≡ true
writes_call constants m ys at len a3 a4 a5 e7 e1 e2 e3 e4 e5 short text values =
    ap (test_of constants m ys) e7
    ∙ ap (λ a. write_of constants m a (register ys 12) (register ys 13) (register ys 14) (register ys 15)) e1
    ∙ ap (λ a. write_of constants m at a (register ys 13) (register ys 14) (register ys 15)) e2
    ∙ ap (λ a. write_of constants m at len a (register ys 14) (register ys 15)) e3
    ∙ ap (λ a. write_of constants m at len a3 a (register ys 15)) e4
    ∙ ap (λ a. write_of constants m at len a3 a4 a) e5
    ∙ three (nat_le len 256) (can_load constants m len at) (can_take constants m a3 a4 a5) short text values
  where
    three : (a b c : Bool) → a ≡ true → b ≡ true → c ≡ true → (a && b && c) ≡ true
    three a b c x y z = rw (x, y, z) refl

-- ---- what a call makes on a unit, by the number of the call

abbrev pub made_of : List ℕ → Memory → List ℕ → TapeState → ℕ → Made
made_of constants m ys t a7 =
    cond (a7 == 2) (read t) (cond (a7 == 3) (print_on (bytes_at constants m (register ys 12) (register ys 11)) (values_at constants m (register ys 13) (register ys 14) (register ys 15)) t) (cond (a7 == 4) (moved rewound t) (cond (a7 == 5) (moved backspaced t) (moved ended t))))

pub made_as : (constants : List ℕ) (m : Memory) (ys : List ℕ) (t : TapeState) (call : ℕ) → register ys 17 ≡ call → made_by constants m ys t ≡ made_of constants m ys t call
made_as constants m ys t call e = ap (made_of constants m ys t) e

abbrev print_of : List ℕ → Memory → TapeState → ℕ → ℕ → ℕ → ℕ → ℕ → Made
print_of constants m t at len a3 a4 a5 = print_on (bytes_at constants m len at) (values_at constants m a3 a4 a5) t

pub prints_made : (constants : List ℕ) (m : Memory) (ys : List ℕ) (t : TapeState) (at len a3 a4 a5 : ℕ) → register ys 17 ≡ 3 → register ys 11 ≡ at → register ys 12 ≡ len → register ys 13 ≡ a3 → register ys 14 ≡ a4 → register ys 15 ≡ a5 → made_by constants m ys t ≡ print_on (bytes_at constants m len at) (values_at constants m a3 a4 a5) t
prints_made constants m ys t at len a3 a4 a5 e7 e1 e2 e3 e4 e5 =
    made_as constants m ys t 3 e7
    ∙ ap (λ a. print_of constants m t a (register ys 12) (register ys 13) (register ys 14) (register ys 15)) e1
    ∙ ap (λ a. print_of constants m t at a (register ys 13) (register ys 14) (register ys 15)) e2
    ∙ ap (λ a. print_of constants m t at len a (register ys 14) (register ys 15)) e3
    ∙ ap (λ a. print_of constants m t at len a3 a (register ys 15)) e4
    ∙ ap (λ a. print_of constants m t at len a3 a4 a) e5

few_answers : (b : Bool) → cond b 1 0 ≤ 4
few_answers true = omega arith
few_answers false = omega arith

pub moved_few : (change : TapeState → TapeState) (t : TapeState) → (moved change t).answer ≤ 4
moved_few change t = few_answers (next_fails t)

printed_few : (o : Option Laid) (t : TapeState) → (printed o t).answer ≤ 4
printed_few None t = omega arith
printed_few (Some Unfit) t = omega arith
printed_few (Some Real) t = omega arith
printed_few (Some (Records records)) t = few_answers (writes_fail records t)

pub print_few : (text : List ℕ) (values : List Value) (t : TapeState) → (print_on text values t).answer ≤ 4
print_few text values t = printed_few (laid_by text values) t

-- ---- bytes that can be written and read

pub none_stores : (m : Memory) (at : ℕ) → can_store m 0 at ≡ true
unfolding can_store
none_stores m at = refl

cells_store : (m : Memory) (n at : ℕ) → FIRST_CELL ≤ at → at + n ≤ FIRST_CELL + length m.cells → can_store m n at ≡ true
unfolding can_store
cells_store m n at low high =
    let a : nat_le FIRST_CELL at ≡ true = grind arith in
    let b : nat_le (at + n) (FIRST_CELL + length m.cells) ≡ true = grind arith in
    second (n == 0) (holds FIRST_CELL m.cells n at) _ _ _ (rw (a, b) refl)
  where
    second : (x y z v w : Bool) → y ≡ true → (x || y || z || v || w) ≡ true
    second x y z v w e = grind arith

pub stores_load : (constants : List ℕ) (m : Memory) (n at : ℕ) → can_store m n at ≡ true → can_load constants m n at ≡ true
unfolding can_load
stores_load constants m n at e = rw e refl

pub scratch_load : (constants : List ℕ) (m : Memory) (n : ℕ) → length m.scratch ≡ SCRATCH_BYTES → n ≤ 320 → can_load constants m n (FIRST_SCRATCH + 16) ≡ true
unfolding can_store
scratch_load constants m n size few = stores_load constants m n (FIRST_SCRATCH + 16) (last_true (n == 0) _ _ _ (holds FIRST_SCRATCH m.scratch n (FIRST_SCRATCH + 16)) in_scratch)
  where
    in_scratch : holds FIRST_SCRATCH m.scratch n (FIRST_SCRATCH + 16) ≡ true
    in_scratch = let high : nat_le (FIRST_SCRATCH + 16 + n) (FIRST_SCRATCH + length m.scratch) ≡ true = (let room : FIRST_SCRATCH + 16 + n ≤ FIRST_SCRATCH + length m.scratch = omega (arith, size, few) in grind arith) in rw high refl

    last_true : (a b c e f : Bool) → f ≡ true → (a || b || c || e || f) ≡ true
    last_true a b c e f h = grind arith

pub constants_load : (constants : List ℕ) (m : Memory) (n i : ℕ) → i + n ≤ length constants → can_load constants m n (FIRST_CONSTANT + i) ≡ true
unfolding can_load
constants_load constants m n i h =
    let low : nat_le FIRST_CONSTANT (FIRST_CONSTANT + i) ≡ true = grind arith in
    let high : nat_le (FIRST_CONSTANT + i + n) (FIRST_CONSTANT + length constants) ≡ true = (let room : FIRST_CONSTANT + i + n ≤ FIRST_CONSTANT + length constants = omega (arith, h) in grind arith) in
    second (can_store m n (FIRST_CONSTANT + i)) _ (rw (low, high) refl)
  where
    second : (x y : Bool) → y ≡ true → (x || y) ≡ true
    second true y e = refl
    second false y e = e

-- ---- texts of formats, one after another

-- a text and those before it are among all of them
text_room : (texts : List (List ℕ)) (i start : ℕ) (text : List ℕ) → slice_get texts i ≡ Some text → fold (λ a t. a + length t) start (take i texts) + length text ≤ start + length (flat_map (λ t. t) texts)
text_room [] i start text e = absurd cc
text_room (t ∷ texts) zero start text e =
    let same : t ≡ text = cc in
    omega (arith, length-append t (flat_map (λ x. x) texts), ap length same)
text_room (t ∷ texts) (suc i) start text e = omega (arith, text_room texts i (start + length t) text e, length-append t (flat_map (λ x. x) texts))

pub format_room : (constants : List ℕ) (formats : List (List ℕ)) (i : ℕ) (text : List ℕ) → constants ≡ flat_map (λ t. t) formats → slice_get formats i ≡ Some text → sum_by length (take i formats) + length text ≤ length constants
format_room constants formats i text is e = omega (arith, ap length is, text_room formats i 0 text e)

pub format_load : (constants : List ℕ) (m : Memory) (formats : List (List ℕ)) (i : ℕ) (text : List ℕ) → constants ≡ flat_map (λ t. t) formats → slice_get formats i ≡ Some text → can_load constants m (length text) (format_place formats i) ≡ true
format_load constants m formats i text is e = constants_load constants m (length text) (sum_by length (take i formats)) (format_room constants formats i text is e)

-- ---- characters lie in the cells

-- no characters, or so many from an address on in the cells
abbrev pub AreWithin : abstract.Memory → ℕ → ℕ → ℕ → Type 0
AreWithin mm d x n = (n ≡ 0) ⊎ ((FIRST_CELL ≤ x) × (x + n ≤ FIRST_CELL + length mm.cells * d))

pub next_address : (x : ℕ) → x < 2 ^ 62 → pos x ⊞ pos 1 ≡ pos (x + 1)
unfolding wrapped_sum
next_address x h = grind arith

pub fits_signed : (x : ℕ) → x < 2 ^ 63 → FitsSigned w64 (pos x)
fits_signed x h = record { sfits = omega arith }

abbrev pub chars_after : abstract.Memory → ℤ → ℕ → Option ℕ → Option (List ℕ)
chars_after mm z n o = option_and_then (λ c. option_and_then (λ rest. Some (c ∷ rest)) (chars_from mm (z ⊞ pos 1) n)) o

pub chars_step : (mm : abstract.Memory) (z : ℤ) (n : ℕ) → chars_from mm z (suc n) ≡ chars_after mm z n (char_at mm z)
unfolding chars_from
chars_step mm z n = refl

no_char : (mm : abstract.Memory) (n : ℕ) → char_at mm (negsuc n) ≡ None
unfolding char_at
no_char mm n = rw (nowhere mm n) refl

module _ (sizes : Sizes) (l : IsLegal sizes) (mm : abstract.Memory) (m : Memory) (h : HoldsMemory sizes mm m) where
  abbrev d : ℕ
  d = sizes.descr

  -- a character is in the cells
  char_within : (x c : ℕ) → x < 2 ^ 63 → char_at mm (pos x) ≡ Some c → (FIRST_CELL ≤ x) × (x + 1 ≤ FIRST_CELL + length mm.cells * d)
  char_within x c small e =
      let z = to_z-of_z w64 (pos x) (fits_signed x small) in
      by (option_and_then with_chars (cell_around mm x)) refl (sym (char_is mm x) ∙ ap (λ y. char_at mm y) z ∙ e)
    where
      by : (o : Option (ℕ × ℕ × List ℕ)) → option_and_then with_chars (cell_around mm x) ≡ o → option_and_then (λ (t : ℕ × ℕ × List ℕ). slice_get t.2 t.1) o ≡ Some c → (FIRST_CELL ≤ x) × (x + 1 ≤ FIRST_CELL + length mm.cells * d)
      by None is g = absurd cc
      by (Some t) is g =
          let here = chars_around mm x t is in
          let w = place_of_byte mm d x t.0 t.1 h.limit l.least l.most h.valid.count (omega (arith, small)) here.place in
          (omega (arith, w.address), omega (arith, w.address, w.place, w.inside))

  pub chars_within : (n x : ℕ) → x < 2 ^ 63 → is_some (chars_from mm (pos x) n) ≡ true → AreWithin mm d x n
  chars_within zero x small e = inl refl
  chars_within (suc n) x small e = by (λ y. chars_within n y) (char_at mm (pos x)) refl (sym (ap is_some (chars_step mm (pos x) n)) ∙ e)
    where
      rest : (o : Option (List ℕ)) (c : ℕ) → is_some (option_and_then (λ cs. Some (c ∷ cs)) o) ≡ true → is_some o ≡ true
      rest None c g = g
      rest (Some cs) c g = refl

      by : ((y : ℕ) → y < 2 ^ 63 → is_some (chars_from mm (pos y) n) ≡ true → AreWithin mm d y n) → (o : Option ℕ) → char_at mm (pos x) ≡ o → is_some (chars_after mm (pos x) n o) ≡ true → AreWithin mm d x (suc n)
      by again None is g = absurd cc
      by again (Some c) is g =
          let here = char_within x c small is in
          let all : length mm.cells * d ≤ 2 ^ 20 * 64 = mul-le (length mm.cells) d (2 ^ 20) 64 h.valid.count l.most in
          let low : x < 2 ^ 62 = omega (arith, here.1, all) in
          let more = rest (chars_from mm (pos x ⊞ pos 1) n) c g in
          let next = again (x + 1) (omega (arith, low)) (ap (λ z. is_some (chars_from mm z n)) (sym (next_address x low)) ∙ more) in
          elim next [ inl none ↦ inr (here.0, omega (arith, here.1, none)) | inr w ↦ inr (here.0, omega (arith, w.1)) ]

  pub none_of : (n k : ℕ) → is_some (chars_from mm (negsuc k) (suc n)) ≡ true → ⊥
  none_of n k e = let no : is_some (chars_from mm (negsuc k) (suc n)) ≡ false = ap is_some (chars_step mm (negsuc k) n) ∙ ap (λ o. is_some (chars_after mm (negsuc k) n o)) (no_char mm k) in absurd cc

  -- the characters from an address on can be written over
  pub chars_store : (z : ℤ) (n : ℕ) → FitsSigned w64 z → is_some (chars_from mm z n) ≡ true → can_store m n (cast_unsigned w64 z) ≡ true
  chars_store z zero fits e = none_stores m (cast_unsigned w64 z)
  chars_store (pos x) (suc n) fits e =
      let small : x < 2 ^ 63 = omega (arith, fits.sfits) in
      let w = chars_within (suc n) x small e in
      elim w [ inl gone ↦ absurd (omega (arith, gone)) | inr in_cells ↦ cells_store m (suc n) x in_cells.0 (omega (arith, in_cells.1, h.size)) ]
  chars_store (negsuc k) (suc n) fits e = absurd (none_of n k e)
