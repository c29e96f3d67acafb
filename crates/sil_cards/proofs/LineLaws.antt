-- Lines with their ends, against those that std cuts.
use Rattle.std.proofs.Common.{◌≡◌, ℕ, ◌-◌, ◌<◌, Bool, true, false, cond, not, zero, suc, List, [], ◌∷◌, ◌++◌, length, map, get_or, refl, ap, ◌∙◌, arith}
use Rattle.std.specs.Prelude.{◌==◌}
use Rattle.std.specs.List.{list_all, slice_split, onto_first, concat}
use Rattle.std.specs.Str.Lines.{lines, lines_of_parts, strip_carriage_return}
use Rattle.std.proofs.Math.Dec.{eqb-suc-zero}
use Rattle.std.proofs.Math.Seq.{get_or-append_seam, take-append_seam}
use Rattle.std.proofs.lemmas.Bool.{eqb-true}
use Rattle.std.proofs.lemmas.List.{length_push}
use Rattle.sil_cards.proofs.Booleans.{both, and_true}
use Rattle.sil_base.specs.Lines.{lines_of, onto_lines, without_end}

-- ---- the lines by the parts between LFs

abbrev raw_last : List ℕ → List (List ℕ)
raw_last [] = []
raw_last (c ∷ part) = (c ∷ part) ∷ []

abbrev raw_of : List (List ℕ) → List (List ℕ)
raw_of [] = []
raw_of (part ∷ []) = raw_last part
raw_of (part ∷ next ∷ parts) = (part ++ 10 ∷ []) ∷ raw_of (next ∷ parts)

onto_raw : (c : ℕ) (parts : List (List ℕ)) → onto_lines c (raw_of parts) ≡ raw_of (onto_first c parts)
onto_raw c [] = refl
onto_raw c ([] ∷ []) = refl
onto_raw c ((d ∷ part) ∷ []) = refl
onto_raw c (part ∷ next ∷ parts) = refl

abbrev HasPart : List (List ℕ) → Type 0
HasPart parts = (part : List ℕ) × (more : List (List ℕ)) × (parts ≡ part ∷ more)

onto_has : (c : ℕ) (parts : List (List ℕ)) → HasPart (onto_first c parts)
onto_has c [] = (c ∷ [], [], refl)
onto_has c (part ∷ parts) = (c ∷ part, parts, refl)

either_has : (b : Bool) (c : ℕ) (parts : List (List ℕ)) → HasPart (cond b ([] ∷ parts) (onto_first c parts))
either_has true c parts = ([], parts, refl)
either_has false c parts = onto_has c parts

abbrev is_lf : ℕ → Bool
is_lf c = c == 10

split_has : (text : List ℕ) → HasPart (slice_split is_lf text)
split_has [] = ([], [], refl)
split_has (c ∷ text) = either_has (is_lf c) c (slice_split is_lf text)

raw_either : (b : Bool) (c : ℕ) (part : List ℕ) (more : List (List ℕ)) → (b ≡ true → c ≡ 10) → cond b ((c ∷ []) ∷ raw_of (part ∷ more)) (onto_lines c (raw_of (part ∷ more))) ≡ raw_of (cond b ([] ∷ part ∷ more) (onto_first c (part ∷ more)))
raw_either true c part more h = rw (h refl) refl
raw_either false c part more h = onto_raw c (part ∷ more)

is_raw : (text : List ℕ) → lines_of text ≡ raw_of (slice_split is_lf text)
is_raw [] = refl
is_raw (c ∷ text) =
    let (part, more, is) = split_has text in
    rw (is_raw text, is) (raw_either (is_lf c) c part more (λ h. eqb-true c 10 h))

-- ---- no part has an LF

abbrev is_clean : List ℕ → Bool
is_clean part = list_all (λ c. not (is_lf c)) part

clean_onto : (c : ℕ) (parts : List (List ℕ)) → is_lf c ≡ false → list_all is_clean parts ≡ true → list_all is_clean (onto_first c parts) ≡ true
clean_onto c [] h all = rw h refl
clean_onto c (part ∷ parts) h all =
    let split = both (is_clean part) (list_all is_clean parts) all in
    rw h (and_true (is_clean part) (list_all is_clean parts) split.0 split.1)

clean_either : (b : Bool) (c : ℕ) (parts : List (List ℕ)) → is_lf c ≡ b → list_all is_clean parts ≡ true → list_all is_clean (cond b ([] ∷ parts) (onto_first c parts)) ≡ true
clean_either true c parts h all = all
clean_either false c parts h all = clean_onto c parts h all

split_clean : (text : List ℕ) → list_all is_clean (slice_split is_lf text) ≡ true
split_clean [] = refl
split_clean (c ∷ text) = clean_either (is_lf c) c (slice_split is_lf text) refl (split_clean text)

-- ---- lines without their ends

clean_at : (part : List ℕ) (i : ℕ) → i < length part → is_clean part ≡ true → is_lf (get_or part i 0) ≡ false
clean_at [] i below h = absurd (omega arith)
clean_at (c ∷ part) zero below h = (let split = both (not (is_lf c)) (is_clean part) h in grind arith)
clean_at (c ∷ part) (suc i) below h = clean_at part i (omega arith) (both (not (is_lf c)) (is_clean part) h).1

last_end : (c : ℕ) (part : List ℕ) → is_clean (c ∷ part) ≡ true → without_end (c ∷ part) ≡ c ∷ part
last_end c part h = rw (clean_at (c ∷ part) (length (c ∷ part) - 1) (omega arith) h) refl

line_end : (part : List ℕ) → without_end (part ++ 10 ∷ []) ≡ strip_carriage_return part
line_end part =
    let len : length (part ++ 10 ∷ []) - 1 ≡ length part = omega (arith, length_push part 10) in
    rw (len, get_or-append_seam part 10 [] 0, take-append_seam part (10 ∷ [])) refl

ends_last : (part : List ℕ) → is_clean part ≡ true → map without_end (raw_last part) ≡ lines_of_parts (part ∷ [])
ends_last [] h = refl
ends_last (c ∷ part) h = rw (eqb-suc-zero (length part)) (ap (λ line. line ∷ []) (last_end c part h))

ends_parts : (parts : List (List ℕ)) → list_all is_clean parts ≡ true → map without_end (raw_of parts) ≡ lines_of_parts parts
ends_parts [] h = refl
ends_parts (part ∷ []) h = ends_last part (both (is_clean part) true h).0
ends_parts (part ∷ next ∷ parts) h =
    let rest = ends_parts (next ∷ parts) (both (is_clean part) (list_all is_clean (next ∷ parts)) h).1 in
    ap (λ line. line ∷ map without_end (raw_of (next ∷ parts))) (line_end part)
    ∙ ap (λ more. strip_carriage_return part ∷ more) rest

pub same_lines : (text : List ℕ) → map without_end (lines_of text) ≡ lines text
same_lines text = ap (map without_end) (is_raw text) ∙ ends_parts (slice_split is_lf text) (split_clean text)

-- ---- joined again

concat_onto : (c : ℕ) (parts : List (List ℕ)) → concat (onto_lines c parts) ≡ c ∷ concat parts
concat_onto c [] = refl
concat_onto c (part ∷ parts) = refl

concat_either : (b : Bool) (c : ℕ) (parts : List (List ℕ)) → concat (cond b ((c ∷ []) ∷ parts) (onto_lines c parts)) ≡ c ∷ concat parts
concat_either true c parts = refl
concat_either false c parts = concat_onto c parts

pub joined_lines : (text : List ℕ) → concat (lines_of text) ≡ text
joined_lines [] = refl
joined_lines (c ∷ text) = concat_either (is_lf c) c (lines_of text) ∙ ap (λ rest. c ∷ rest) (joined_lines text)
