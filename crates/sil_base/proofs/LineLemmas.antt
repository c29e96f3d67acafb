-- Lines of texts.
use Rattle.std.proofs.Common.{◌≡◌, ℕ, ◌+◌, ◌-◌, ◌<◌, ◌≤◌, Bool, true, false, cond, not, suc, eqb, List, [], ◌∷◌, length, take, drop, Some, None, refl, ap, arith}
use Rattle.std.specs.Prelude.{position, nat_lt}
use Rattle.std.specs.List.{position_or_len}
use Rattle.std.proofs.lemmas.Bool.Decides.{nat_tests}
use Rattle.std.proofs.lemmas.List.{take_all, length-drop}
use Rattle.sil_base.specs.Lines.{lines_of, onto_lines}

abbrev is_lf : ℕ → Bool
is_lf c = eqb c 10

some_at : (b : Bool) (n i : ℕ) → cond b (Some n) None ≡ Some i → (b ≡ true) × (n ≡ i)
some_at b n i h = grind arith

none_at : (b : Bool) (n : ℕ) → cond b (Some n) None ≡ None → b ≡ false
none_at b n h = grind arith

-- the first line, by the number of bytes before its LF
abbrev CutAt : List ℕ → ℕ → Type 0
CutAt text n = lines_of text ≡ take (n + 1) text ∷ lines_of (drop (n + 1) text)

cut_more : (c n : ℕ) (text : List ℕ) → CutAt text n → onto_lines c (lines_of text) ≡ take (1 + n + 1) (c ∷ text) ∷ lines_of (drop (1 + n + 1) (c ∷ text))
cut_more c n text h =
    let e : 1 + n + 1 ≡ suc (n + 1) = omega arith in
    rw (h, e) refl

cut_either : (b : Bool) (c n : ℕ) (text : List ℕ) → (b ≡ true → c ≡ c) → (b ≡ false → CutAt text n) → cond b ((c ∷ []) ∷ lines_of text) (onto_lines c (lines_of text)) ≡ take (cond (not b) (1 + n) 0 + 1) (c ∷ text) ∷ lines_of (drop (cond (not b) (1 + n) 0 + 1) (c ∷ text))
cut_either true c n text here more = refl
cut_either false c n text here more = cut_more c n text (more refl)

below_more : (b : Bool) (n m : ℕ) → cond (not b) (1 + n) 0 < suc m → b ≡ false → n < m
below_more true n m h e = absurd (cc)
below_more false n m h e = omega arith

pub line_cut : (text : List ℕ) → position_or_len is_lf text < length text → CutAt text (position_or_len is_lf text)
line_cut [] h = absurd (omega arith)
line_cut (c ∷ text) h =
    cut_either (is_lf c) c (position_or_len is_lf text) text (λ _. refl) (λ e. line_cut text (below_more (is_lf c) (position_or_len is_lf text) (length text) h e))

pub first_line : (text : List ℕ) (i : ℕ) → position is_lf text ≡ Some i → lines_of text ≡ take (i + 1) text ∷ lines_of (take (length text - (i + 1)) (drop (i + 1) text))
first_line text i h =
    let there = some_at (nat_lt (position_or_len is_lf text) (length text)) (position_or_len is_lf text) i h in
    let within : position_or_len is_lf text < length text = grind (arith, nat_tests) in
    let all = take_all (length text - (i + 1)) (drop (i + 1) text) (omega (arith, length-drop (i + 1) text)) in
    rw (all, ← there.1) (line_cut text within)

whole_either : (b : Bool) (c : ℕ) (text : List ℕ) → b ≡ false → (0 < length text → lines_of text ≡ text ∷ []) → cond b ((c ∷ []) ∷ lines_of text) (onto_lines c (lines_of text)) ≡ (c ∷ text) ∷ []
whole_either true c text e h = absurd (cc)
whole_either false c [] e h = refl
whole_either false c (d ∷ text) e h = ap (onto_lines c) (h (omega arith))

past_more : (b : Bool) (n m : ℕ) → suc m ≤ cond (not b) (1 + n) 0 → (b ≡ false) × (m ≤ n)
past_more true n m h = absurd (omega arith)
past_more false n m h = (refl, omega arith)

pub one_line : (text : List ℕ) → 0 < length text → length text ≤ position_or_len is_lf text → lines_of text ≡ text ∷ []
one_line [] some h = absurd (omega arith)
one_line (c ∷ text) some h =
    let past = past_more (is_lf c) (position_or_len is_lf text) (length text) h in
    whole_either (is_lf c) c text past.0 (λ more. one_line text more past.1)

pub last_line : (text : List ℕ) → 0 < length text → position is_lf text ≡ None → lines_of text ≡ text ∷ lines_of (take (length text - length text) (drop (length text) text))
last_line text some h =
    let past = none_at (nat_lt (position_or_len is_lf text) (length text)) (position_or_len is_lf text) h in
    let within : length text ≤ position_or_len is_lf text = grind (arith, nat_tests) in
    let none : length text - length text ≡ 0 = omega arith in
    rw none (one_line text some within)
