-- Blanks and numbers at the front of bytes.
use Rattle.std.proofs.Common.{◌≡◌, ℕ, zero, suc, ◌+◌, ◌-◌, ◌*◌, ◌<◌, ◌≤◌, Bool, true, false, cond, ◌&&◌, List, [], ◌∷◌, ◌++◌, length, take, drop, get_or, filter, refl, sym, ap, subst, ◌∙◌, arith}
use Rattle.std.specs.Prelude.{not, nat_le, Some, None}
use Rattle.std.specs.Char.{digit_value}
use Rattle.std.specs.List.{list_all}
use Rattle.std.specs.Str.Parse.{digits_value}
use Rattle.std.proofs.lemmas.Bool.Decides.{nat_tests}
use Rattle.std.proofs.lemmas.Grind.{take_at_read}
use Rattle.std.proofs.lemmas.Int.Digits.{digits_value_push}
use Rattle.std.proofs.lemmas.List.{take-append-drop, take_all, take_at, append-nil}
use Rattle.std.proofs.lemmas.List.Elements.{filter-append}
use Rattle.std.proofs.lemmas.List.Folds.{list_all-append}
use Rattle.std.proofs.lemmas.Str.Parse.{digits_value-take-le}
use Rattle.std.proofs.Math.Seq.{drop-cons}
use Rattle.sil_format.specs.FormatGrammar.{is_blank, are_blanks, is_digit_or_blank, value_of}
use Rattle.sil_format.specs.FormatReading.{number_part, after_number, number_in}

pub both : (a b : Bool) → (a && b) ≡ true → (a ≡ true) × (b ≡ true)
both a b h = grind arith

pub together : (a b : Bool) → a ≡ true → b ≡ true → (a && b) ≡ true
together a b p q = rw (p, q) refl

-- bytes that aren't blanks
abbrev pub shown : List ℕ → List ℕ
shown bytes = filter (λ c. not (is_blank c)) bytes

pub shown_blanks : (bytes : List ℕ) → are_blanks bytes ≡ true → shown bytes ≡ []
shown_blanks [] h = refl
shown_blanks (c ∷ cs) h =
    let tests = both (is_blank c) (are_blanks cs) h in
    ap (λ b. cond (not b) (c ∷ shown cs) (shown cs)) tests.0 ∙ shown_blanks cs tests.1

-- ---- parts at the front

pub part_append : (xs ys : List ℕ) → list_all is_digit_or_blank xs ≡ true → number_part (xs ++ ys) ≡ xs ++ number_part ys
part_append [] ys h = refl
part_append (c ∷ cs) ys h =
    let tests = both (is_digit_or_blank c) (list_all is_digit_or_blank cs) h in
    ap (λ b. cond b (c ∷ number_part (cs ++ ys)) []) tests.0 ∙ ap (λ zs. c ∷ zs) (part_append cs ys tests.1)

pub after_append : (xs ys : List ℕ) → list_all is_digit_or_blank xs ≡ true → after_number (xs ++ ys) ≡ after_number ys
after_append [] ys h = refl
after_append (c ∷ cs) ys h =
    let tests = both (is_digit_or_blank c) (list_all is_digit_or_blank cs) h in
    ap (λ b. cond b (after_number (cs ++ ys)) (c ∷ (cs ++ ys))) tests.0 ∙ after_append cs ys tests.1

pub part_mark : (c : ℕ) (cs : List ℕ) → is_digit_or_blank c ≡ false → (number_part (c ∷ cs) ≡ []) × (after_number (c ∷ cs) ≡ c ∷ cs)
part_mark c cs h = (ap (λ b. cond b (c ∷ number_part cs) []) h, ap (λ b. cond b (after_number cs) (c ∷ cs)) h)

-- the first byte that is neither a digit nor a blank
pub at_mark : (bytes : List ℕ) (i : ℕ) → i < length bytes → list_all is_digit_or_blank (take i bytes) ≡ true → is_digit_or_blank (get_or bytes i 0) ≡ false → (number_part bytes ≡ take i bytes) × (after_number bytes ≡ drop i bytes)
at_mark bytes i below front mark =
    let whole = sym (take-append-drop i bytes) in
    let cut = drop-cons bytes i 0 below in
    let here = part_mark (get_or bytes i 0) (drop (suc i) bytes) mark in (
      ap number_part whole ∙ part_append (take i bytes) (drop i bytes) front ∙ ap (λ xs. take i bytes ++ number_part xs) cut ∙ ap (λ xs. take i bytes ++ xs) here.0 ∙ append-nil (take i bytes),
      ap after_number whole ∙ after_append (take i bytes) (drop i bytes) front ∙ ap after_number cut ∙ here.1 ∙ sym cut,
    )

-- no such byte
pub no_mark : (bytes : List ℕ) (i : ℕ) → length bytes ≤ i → list_all is_digit_or_blank (take i bytes) ≡ true → (number_part bytes ≡ bytes) × (after_number bytes ≡ []) × (list_all is_digit_or_blank bytes ≡ true)
no_mark bytes i all front =
    let h = subst (λ (xs : List ℕ). list_all is_digit_or_blank xs ≡ true) (take_all i bytes all) front in
    (ap number_part (sym (append-nil bytes)) ∙ part_append bytes [] h ∙ append-nil bytes, ap after_number (sym (append-nil bytes)) ∙ after_append bytes [] h, h)

pub next_all : (p : ℕ → Bool) (bytes : List ℕ) (i : ℕ) → i < length bytes → list_all p (take i bytes) ≡ true → p (get_or bytes i 0) ≡ true → list_all p (take (i + 1) bytes) ≡ true
next_all p bytes i below front one =
    ap (list_all p) (take_at_read bytes i 0 below).1
    ∙ list_all-append p (take i bytes) (get_or bytes i 0 ∷ [])
    ∙ together (list_all p (take i bytes)) (p (get_or bytes i 0) && true) front (together (p (get_or bytes i 0)) true one refl)

-- ---- the value of a number

pub list_all_at : (p : ℕ → Bool) (xs : List ℕ) (i : ℕ) → i < length xs → list_all p xs ≡ true → p (get_or xs i 0) ≡ true
list_all_at p [] i below h = absurd (omega arith)
list_all_at p (x ∷ xs) zero below h = (both (p x) (list_all p xs) h).0
list_all_at p (x ∷ xs) (suc i) below h = list_all_at p xs i (omega arith) (both (p x) (list_all p xs) h).1

digit_is : (c : ℕ) → is_digit_or_blank c ≡ true → is_blank c ≡ false → (48 ≤ c) × (c ≤ 57) × (digit_value c ≡ c - 48)
digit_is c h k = grind (arith, nat_tests)

value_below : (xs ys : List ℕ) → digits_value 10 xs ≤ digits_value 10 (xs ++ ys)
value_below xs ys =
    let le : digits_value 10 (take (length xs) (xs ++ ys)) ≤ digits_value 10 (xs ++ ys) = digits_value-take-le 10 (xs ++ ys) (length xs) (omega arith) in
    subst (λ (zs : List ℕ). digits_value 10 zs ≤ digits_value 10 (xs ++ ys)) (take_at xs ys (length xs) refl) le

pub value_so_far : (bytes : List ℕ) (i : ℕ) → value_of (take i bytes) ≤ value_of bytes
value_so_far bytes i =
    let whole : shown bytes ≡ shown (take i bytes) ++ shown (drop i bytes) = ap shown (sym (take-append-drop i bytes)) ∙ filter-append (λ c. not (is_blank c)) (take i bytes) (drop i bytes) in
    rw whole (value_below (shown (take i bytes)) (shown (drop i bytes)))

shown_next : (bytes : List ℕ) (i : ℕ) → i < length bytes → shown (take (i + 1) bytes) ≡ shown (take i bytes) ++ shown (get_or bytes i 0 ∷ [])
shown_next bytes i below = ap shown (take_at_read bytes i 0 below).1 ∙ filter-append (λ c. not (is_blank c)) (take i bytes) (get_or bytes i 0 ∷ [])

-- a blank changes nothing
pub next_blank : (bytes : List ℕ) (i : ℕ) → i < length bytes → is_blank (get_or bytes i 0) ≡ true → value_of (take (i + 1) bytes) ≡ value_of (take i bytes)
next_blank bytes i below blank =
    let c = get_or bytes i 0 in
    ap (digits_value 10) (shown_next bytes i below ∙ ap (λ b. shown (take i bytes) ++ cond (not b) (c ∷ []) []) blank ∙ append-nil (shown (take i bytes)))

-- one more digit, and what it leaves of the whole
pub record IsNext (bytes : List ℕ) (i : ℕ) : Type 0 where
  pub low : 48 ≤ get_or bytes i 0
  pub high : get_or bytes i 0 ≤ 57
  pub next : value_of (take (i + 1) bytes) ≡ value_of (take i bytes) * 10 + (get_or bytes i 0 - 48)
  pub whole : value_of (take (i + 1) bytes) ≤ value_of bytes

pub next_digit : (bytes : List ℕ) (i : ℕ) → list_all is_digit_or_blank bytes ≡ true → i < length bytes → is_blank (get_or bytes i 0) ≡ false → IsNext bytes i
next_digit bytes i h below shows =
    let c = get_or bytes i 0 in
    let digit = digit_is c (list_all_at is_digit_or_blank bytes i below h) shows in
    record {
      low = digit.0;
      high = digit.1;
      next = ap (digits_value 10) (shown_next bytes i below ∙ ap (λ b. shown (take i bytes) ++ cond (not b) (c ∷ []) []) shows) ∙ digits_value_push 10 (shown (take i bytes)) c ∙ ap (λ d. value_of (take i bytes) * 10 + d) digit.2;
      whole = value_so_far bytes (i + 1);
    }

-- ---- numbers between others

none_either : (a b : Bool) (n : ℕ) → cond a None (cond (b && false) (Some n) None) ≡ None
none_either true b n = refl
none_either false true n = refl
none_either false false n = refl

pub too_high : (low high : ℕ) (bytes : List ℕ) → high < value_of bytes → number_in low high bytes ≡ None
too_high low high bytes h =
    let no : nat_le (value_of bytes) high ≡ false = grind (arith, nat_tests) in
    ap (λ b. cond (are_blanks bytes) None (cond (nat_le low (value_of bytes) && b) (Some (value_of bytes)) None)) no ∙ none_either (are_blanks bytes) (nat_le low (value_of bytes)) (value_of bytes)
