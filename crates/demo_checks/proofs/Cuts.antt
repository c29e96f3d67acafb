-- Lines, and the fields of cards, where digits stand last.
use Rattle.std.proofs.Common.{◌≡◌, ℕ, zero, suc, ◌-◌, Bool, true, false, cond, List, [], ◌∷◌, ◌++◌, length, take, get_or, refl, ap, arith}
use Rattle.std.specs.Prelude.{◌==◌, slice_index}
use Rattle.std.specs.Char.{is_ascii_digit}
use Rattle.std.specs.List.{list_all}
use Rattle.std.specs.Str.Lines.{strip_carriage_return}
use Rattle.std.proofs.Math.Seq.{get_or-append_seam, take-append_seam}
use Rattle.std.proofs.lemmas.List.{length_push}
use Rattle.sil_base.specs.Lines.{lines_of, onto_lines, without_end}
use Rattle.sil_cards.specs.CardVerdicts.{is_card_byte}
use Rattle.sil_cards.specs.CardFields.{is_blank, to_open_blank}
use Rattle.demo_checks.proofs.Digits.{both, differs}

-- ---- lines

first_either : (b : Bool) (c : ℕ) (text rest : List ℕ) (lines : List (List ℕ)) → b ≡ false → lines_of (text ++ 10 ∷ rest) ≡ (text ++ 10 ∷ []) ∷ lines → cond b ((c ∷ []) ∷ lines_of (text ++ 10 ∷ rest)) (onto_lines c (lines_of (text ++ 10 ∷ rest))) ≡ ((c ∷ text) ++ 10 ∷ []) ∷ lines
first_either true c text rest lines unlike h = absurd (let none : ⊥ = cc in none)
first_either false c text rest lines unlike h = rw h refl

-- the first line of a text
pub first_line : (text rest : List ℕ) → list_all is_card_byte text ≡ true → lines_of (text ++ 10 ∷ rest) ≡ (text ++ 10 ∷ []) ∷ lines_of rest
first_line [] rest h = refl
first_line (c ∷ text) rest h =
    let p = both (is_card_byte c) (list_all is_card_byte text) h in
    first_either (c == 10) c text rest (lines_of rest) (differs is_card_byte c 10 p.0 refl) (first_line text rest p.1)

byte_at : (text : List ℕ) (i : ℕ) → list_all is_card_byte text ≡ true → (get_or text i 0 == 13) ≡ false
byte_at [] i h = refl
byte_at (c ∷ text) zero h = differs is_card_byte c 13 (both (is_card_byte c) (list_all is_card_byte text) h).0 refl
byte_at (c ∷ text) (suc i) h = byte_at text i (both (is_card_byte c) (list_all is_card_byte text) h).1

unstripped : (text : List ℕ) → list_all is_card_byte text ≡ true → strip_carriage_return text ≡ text
unstripped text h = rw (byte_at text (length text - 1) h) refl

pub text_of_line : (text : List ℕ) → list_all is_card_byte text ≡ true → without_end (text ++ 10 ∷ []) ≡ text
text_of_line text h =
    let long : length (text ++ 10 ∷ []) - 1 ≡ length text = omega (arith, length_push text 10) in
    let last : slice_index (text ++ 10 ∷ []) (length text) ≡ 10 = get_or-append_seam text 10 [] 0 in
    let front : take (length text) (text ++ 10 ∷ []) ≡ text = take-append_seam text (10 ∷ []) in
    rw (long, last, front) (unstripped text h)

-- ---- fields

open_either : (b q : Bool) (c : ℕ) (ds : List ℕ) → b ≡ false → q ≡ false → to_open_blank false ds ≡ ds → cond b [] (c ∷ to_open_blank (cond q true false) ds) ≡ c ∷ ds
open_either true q c ds h g e = absurd (let none : ⊥ = cc in none)
open_either false true c ds h g e = absurd (let none : ⊥ = cc in none)
open_either false false c ds h g e = ap (λ l. c ∷ l) e

no_blank : (c : ℕ) → is_ascii_digit c ≡ true → is_blank c ≡ false
no_blank c h = rw (differs is_ascii_digit c 32 h refl, differs is_ascii_digit c 9 h refl) refl

-- digits have no blank and no quote
pub open_digits : (ds : List ℕ) → list_all is_ascii_digit ds ≡ true → to_open_blank false ds ≡ ds
open_digits [] h = refl
open_digits (c ∷ ds) h =
    let p = both (is_ascii_digit c) (list_all is_ascii_digit ds) h in
    open_either (is_blank c) (c == 39) c ds (no_blank c p.0) (differs is_ascii_digit c 39 p.0 refl) (open_digits ds p.1)

digit_byte : (c : ℕ) → is_ascii_digit c ≡ true → is_card_byte c ≡ true
digit_byte c h = grind arith

-- digits may stand on a card
pub digit_bytes : (ds : List ℕ) → list_all is_ascii_digit ds ≡ true → list_all is_card_byte ds ≡ true
digit_bytes [] h = refl
digit_bytes (c ∷ ds) h =
    let p = both (is_ascii_digit c) (list_all is_ascii_digit ds) h in
    rw (digit_byte c p.0, digit_bytes ds p.1) refl
