-- An operand field is no longer than its card, and a card no longer than its line.
use Rattle.std.proofs.Common.{ℕ, ◌-◌, ◌≤◌, Bool, true, false, cond, not, suc, ◌&&◌, List, [], ◌∷◌, length, take, drop, arith}
use Rattle.std.specs.Prelude.{◌==◌, slice_index}
use Rattle.std.specs.List.{position_or_len}
use Rattle.std.specs.Str.Lines.{strip_carriage_return}
use Rattle.std.proofs.lemmas.List.{length-drop, length-take}
use Rattle.sil_base.specs.Lines.{without_end}
use Rattle.sil_cards.specs.CardFields.{is_blank, after_word, quoted_after, to_open_blank, fields_of}

-- ---- the operand field

dropped : (n : ℕ) (text : List ℕ) → length (drop n text) ≤ length text
dropped n text = omega (arith, length-drop n text)

word_within : (text : List ℕ) → length (after_word text) ≤ length text
word_within text =
    let rest = drop (position_or_len is_blank text) text in
    omega (arith, dropped (position_or_len is_blank text) text, dropped (position_or_len (λ c. not (is_blank c)) rest) rest)

open_or : (b : Bool) (c n : ℕ) (rest : List ℕ) → length rest ≤ n → length (cond b [] (c ∷ rest)) ≤ suc n
open_or true c n rest h = omega arith
open_or false c n rest h = omega (arith, h)

open_within : (quoted : Bool) (text : List ℕ) → length (to_open_blank quoted text) ≤ length text
open_within quoted [] = omega arith
open_within quoted (c ∷ text) =
    open_or (not quoted && is_blank c) c (length text) (to_open_blank (quoted_after quoted c) text) (open_within (quoted_after quoted c) text)

pub operands_within : (text : List ℕ) → length (fields_of text).operands ≤ length text
unfolding fields_of
operands_within text = omega (arith, open_within false (after_word (after_word text)), word_within (after_word text), word_within text)

-- ---- the text of a line

taken : (n : ℕ) (text : List ℕ) → length (take n text) ≤ length text
taken n text = omega (arith, length-take n text)

either_within : (b : Bool) (n : ℕ) (first second : List ℕ) → length first ≤ n → length second ≤ n → length (cond b first second) ≤ n
either_within true n first second h k = h
either_within false n first second h k = k

stripped : (text : List ℕ) → length (strip_carriage_return text) ≤ length text
stripped text =
    either_within (slice_index text (length text - 1) == 13) (length text) (take (length text - 1) text) text (taken (length text - 1) text) (omega arith)

pub ended_within : (line : List ℕ) → length (without_end line) ≤ length line
ended_within line =
    let front = take (length line - 1) line in
    either_within (slice_index line (length line - 1) == 10) (length line) (strip_carriage_return front) line
    (omega (arith, stripped front, taken (length line - 1) line)) (omega arith)
