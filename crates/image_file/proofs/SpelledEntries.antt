-- The bytes of statements' entries.
use Rattle.std.proofs.Common.{◌≡◌, ◌∙◌, ℕ, ◌+◌, ◌*◌, ◌^◌, ◌<◌, List, [], ◌∷◌, ◌++◌, length, take, drop, refl, ap, arith, append_assoc, length-append, map, sym, subst}
use Rattle.std.proofs.lemmas.List.{take-append-drop, length-take, length-drop, drop-drop, take_all, append-nil, map-append}
use Rattle.std.specs.List.{flat_map}
use Rattle.sil_macros.specs.declared.names.Macro.{Macro}
use Rattle.sil_macros.specs.Macros.{number_of}
use Rattle.sil_macros.proofs.FoundLemmas.{number_below, one_number as one_macro}
use Rattle.sil_base.specs.Bytes.{number, low_bytes, piece, AreBytes}
use Rattle.sil_base.proofs.Numbers.{number-low_bytes, AreBytes-piece}
use Rattle.image_file.specs.Image.{StatementEntry, entry_of}
use Rattle.image_file.specs.Spelling.{entry_part}
use Rattle.image_file.specs.ImageReading.{FitEntries}
use Rattle.image_file.proofs.Fitting.{FitEntries-append}
use Rattle.image_file.proofs.Parts.{same_front, same_rest, low_again}

number_of_below : (m : Macro) → number_of m < 256 ^ 2
number_of_below m = omega (arith, number_below m)

pub length-entry_part : (e : StatementEntry) → length (entry_part e) ≡ 16
unfolding entry_part
length-entry_part e = refl

pub length-entries : (es : List StatementEntry) → length (flat_map entry_part es) ≡ 16 * length es
length-entries [] = refl
length-entries (e ∷ es) = omega (arith, length-append (entry_part e) (flat_map entry_part es), length-entry_part e, length-entries es)

-- what stands at the end of an entry
pub entry_name : (e : StatementEntry) (bytes : List ℕ) → bytes ≡ entry_part e → number (take 2 (drop 12 bytes)) ≡ number_of e.name
unfolding entry_part
entry_name e bytes h = ap (λ bs. number (take 2 (drop 12 bs))) h ∙ number-low_bytes 2 (number_of e.name) (number_of_below e.name)

pub entry_zeros : (e : StatementEntry) (bytes : List ℕ) → bytes ≡ entry_part e → number (take 2 (drop 14 bytes)) ≡ 0
unfolding entry_part
entry_zeros e bytes h = ap (λ bs. number (take 2 (drop 14 bs))) h

same_fields : (d e : StatementEntry) → d.place ≡ e.place → d.card ≡ e.card → d.name ≡ e.name → d ≡ e
same_fields d e p q r = ap (λ x. entry_of (x, d.card, d.name)) p ∙ ap (λ x. entry_of (e.place, x, d.name)) q ∙ ap (λ x. entry_of (e.place, e.card, x)) r

-- entries whose numbers fit are those of their bytes alone
pub same_entry : (d e : StatementEntry) → d.place < 256 ^ 8 → d.card < 256 ^ 4 → e.place < 256 ^ 8 → e.card < 256 ^ 4 → entry_part d ≡ entry_part e → d ≡ e
unfolding entry_part
same_entry d e dp dc ep ec h =
    let place : d.place ≡ e.place = sym (number-low_bytes 8 d.place dp) ∙ ap (λ bs. number (take 8 bs)) h ∙ number-low_bytes 8 e.place ep in
    let card : d.card ≡ e.card = sym (number-low_bytes 4 d.card dc) ∙ ap (λ bs. number (take 4 (drop 8 bs))) h ∙ number-low_bytes 4 e.card ec in
    same_fields d e place card (one_macro d.name e.name (sym (number-low_bytes 2 (number_of d.name) (number_of_below d.name)) ∙ ap (λ bs. number (take 2 (drop 12 bs))) h ∙ number-low_bytes 2 (number_of e.name) (number_of_below e.name)))

-- sixteen bytes in four parts
in_four : (bytes a b c d : List ℕ) → length bytes ≡ 16 → a ≡ take 8 bytes → b ≡ take 4 (drop 8 bytes) → c ≡ take 2 (drop 12 bytes) → d ≡ take 2 (drop 14 bytes) → bytes ≡ a ++ b ++ c ++ d
in_four bytes a b c d size p q r s =
    let last : drop 14 bytes ≡ take 2 (drop 14 bytes) = sym (take_all 2 (drop 14 bytes) (omega (arith, length-drop 14 bytes))) in
    let third : drop 12 bytes ≡ take 2 (drop 12 bytes) ++ drop 14 bytes = sym (take-append-drop 2 (drop 12 bytes)) ∙ ap (λ xs. take 2 (drop 12 bytes) ++ xs) (drop-drop 2 12 bytes) in
    let second : drop 8 bytes ≡ take 4 (drop 8 bytes) ++ drop 12 bytes = sym (take-append-drop 4 (drop 8 bytes)) ∙ ap (λ xs. take 4 (drop 8 bytes) ++ xs) (drop-drop 4 8 bytes) in
    let whole : bytes ≡ take 8 bytes ++ (take 4 (drop 8 bytes) ++ (take 2 (drop 12 bytes) ++ take 2 (drop 14 bytes))) =
    sym (take-append-drop 8 bytes)
    ∙ ap (λ xs. take 8 bytes ++ xs) second
    ∙ ap (λ xs. take 8 bytes ++ (take 4 (drop 8 bytes) ++ xs)) third
    ∙ ap (λ xs. take 8 bytes ++ (take 4 (drop 8 bytes) ++ (take 2 (drop 12 bytes) ++ xs))) last in
    whole
    ∙ ap (λ xs. xs ++ (take 4 (drop 8 bytes) ++ (take 2 (drop 12 bytes) ++ take 2 (drop 14 bytes)))) (sym p)
    ∙ ap (λ xs. a ++ (xs ++ (take 2 (drop 12 bytes) ++ take 2 (drop 14 bytes)))) (sym q)
    ∙ ap (λ xs. a ++ (b ++ (xs ++ take 2 (drop 14 bytes)))) (sym r)
    ∙ ap (λ xs. a ++ (b ++ (c ++ xs))) (sym s)
    ∙ simp append_assoc

-- bytes of an entry are those of what was read from them
pub entry_again : (bytes : List ℕ) (place card : ℕ) (name : Macro) → length bytes ≡ 16 → AreBytes bytes → place ≡ number (take 8 bytes) → card ≡ number (take 4 (drop 8 bytes)) → number_of name ≡ number (take 2 (drop 12 bytes)) → number (take 2 (drop 14 bytes)) ≡ 0 → bytes ≡ entry_part (entry_of (place, card, name))
unfolding entry_part
entry_again bytes place card name size fit p q r z =
    let a : low_bytes 8 place ≡ take 8 bytes = ap (λ x. low_bytes 8 x) p ∙ low_again 8 (take 8 bytes) (omega (arith, length-take 8 bytes)) (AreBytes-piece 0 8 bytes fit) in
    let b : low_bytes 4 card ≡ take 4 (drop 8 bytes) = ap (λ x. low_bytes 4 x) q ∙ low_again 4 (piece 8 4 bytes) (omega (arith, length-take 4 (drop 8 bytes), length-drop 8 bytes)) (AreBytes-piece 8 4 bytes fit) in
    let c : low_bytes 2 (number_of name) ≡ take 2 (drop 12 bytes) = ap (λ x. low_bytes 2 x) r ∙ low_again 2 (piece 12 2 bytes) (omega (arith, length-take 2 (drop 12 bytes), length-drop 12 bytes)) (AreBytes-piece 12 2 bytes fit) in
    let d : low_bytes 2 0 ≡ take 2 (drop 14 bytes) = ap (λ x. low_bytes 2 x) (sym z) ∙ low_again 2 (piece 14 2 bytes) (omega (arith, length-take 2 (drop 14 bytes), length-drop 14 bytes)) (AreBytes-piece 14 2 bytes fit) in
    in_four bytes (low_bytes 8 place) (low_bytes 4 card) (low_bytes 2 (number_of name)) (low_bytes 2 0) size a b c d

-- after some entries comes an entry
pub entry_after : (done es : List StatementEntry) (entry more : List ℕ) → flat_map entry_part done ++ (entry ++ more) ≡ flat_map entry_part es → length entry ≡ 16 → (e : StatementEntry) × (entry ≡ entry_part e)
entry_after [] [] entry more h size = absurd (omega (arith, ap length h, length-append entry more))
entry_after [] (e ∷ es) entry more h size = (e, same_front entry (entry_part e) more (flat_map entry_part es) h (size ∙ sym (length-entry_part e)))
entry_after (d ∷ done) [] entry more h size = absurd (omega (arith, ap length h, length-append (entry_part d ++ flat_map entry_part done) (entry ++ more), length-append (entry_part d) (flat_map entry_part done), length-entry_part d))
entry_after (d ∷ done) (e ∷ es) entry more h size =
    entry_after done es entry more (same_rest (entry_part d) (entry_part e) _ _ (sym (append_assoc (entry_part d) (flat_map entry_part done) (entry ++ more)) ∙ h) (length-entry_part d ∙ sym (length-entry_part e))) size

pub in_two : (n : ℕ) (xs front rest : List ℕ) → front ≡ take n xs → rest ≡ drop n xs → xs ≡ front ++ rest
in_two n xs front rest e f = sym (take-append-drop n xs) ∙ ap (λ ys. ys ++ drop n xs) (sym e) ∙ ap (λ ys. front ++ ys) (sym f)

entries_append : (es fs : List StatementEntry) → flat_map entry_part (es ++ fs) ≡ flat_map entry_part es ++ flat_map entry_part fs
entries_append [] fs = refl
entries_append (e ∷ es) fs = ap (λ xs. entry_part e ++ xs) (entries_append es fs) ∙ sym (append_assoc (entry_part e) (flat_map entry_part es) (flat_map entry_part fs))

-- one entry more is read
pub one_more : (read all : List (ℕ × ℕ × Macro)) (entry : ℕ × ℕ × Macro) (bytes rest here more : List ℕ) → bytes ≡ flat_map entry_part (map entry_of read) ++ rest → rest ≡ here ++ more → here ≡ entry_part (entry_of entry) → all ≡ read ++ entry ∷ [] → bytes ≡ flat_map entry_part (map entry_of all) ++ more
one_more read all entry bytes rest here more e cut h same =
    e
    ∙ ap (λ xs. flat_map entry_part (map entry_of read) ++ xs) (cut ∙ ap (λ xs. xs ++ more) (h ∙ sym (append-nil (entry_part (entry_of entry)))))
    ∙ sym (append_assoc (flat_map entry_part (map entry_of read)) (entry_part (entry_of entry) ++ []) more)
    ∙ ap (λ xs. xs ++ more) (sym (entries_append (map entry_of read) (entry_of entry ∷ [])) ∙ ap (λ es. flat_map entry_part es) (sym (map-append entry_of read (entry ∷ [])) ∙ ap (λ xs. map entry_of xs) (sym same)))

pub fit_more : (read all : List (ℕ × ℕ × Macro)) (entry : ℕ × ℕ × Macro) → FitEntries (map entry_of read) → entry.0 < 256 ^ 8 → entry.1 < 256 ^ 4 → all ≡ read ++ entry ∷ [] → FitEntries (map entry_of all)
fit_more read all entry fit place card same =
    subst (λ es. FitEntries es) (sym (ap (λ xs. map entry_of xs) same ∙ map-append entry_of read (entry ∷ []))) (FitEntries-append (map entry_of read) (entry_of entry ∷ []) fit (place, card, tt))

-- where whole entries are read from the bytes of so many, nothing is left
pub none_left : (n count : ℕ) (bytes rest : List ℕ) → length bytes ≡ 16 * count → 16 * n + length rest ≡ length bytes → length rest < 16 → (rest ≡ []) × (n ≡ count)
none_left n count bytes [] size sum few = (refl, omega arith)
none_left n count bytes (b ∷ rest) size sum few = absurd (omega arith)
