-- What is read is spelled.
use Rattle.std.proofs.Common.{◌≡◌, ℕ, zero, suc, ◌≤◌, Bool, true, false, cond, ◌&&◌, List, [], ◌∷◌, ◌++◌, length, take, drop, Option, Some, None, inl, inr, ◌⊎◌, subst, refl, sym, ap, ◌∙◌, append_assoc, arith, length-take-le}
use Rattle.std.proofs.Math.Logic.{⊎_elim}
use Rattle.std.specs.Prelude.{◌==◌, ◌||◌, nat_le, option_and_then}
use Rattle.std.specs.Option.{option_map}
use Rattle.std.specs.List.{list_all}
use Rattle.std.proofs.lemmas.Bool.Decides.{nat_tests}
use Rattle.std.proofs.lemmas.Option.{same_Some, none-some}
use Rattle.std.proofs.lemmas.List.{take-append-drop}
use Rattle.sil_format.specs.FormatGrammar.{is_blank, are_blanks, is_digit_or_blank, value_of, is_slash, SpellsNumber, SpellsOptionalCount, SpellsKind, SpellsItem, SpellsItems, SpellsInside, SpellsFormat}
use Rattle.sil_format.specs.FormatReading.{skip_blanks, number_part, after_number, number_in, count_in, optional_count_in, number_at, character_at, decimals_at, kind_at, text_at, item_behind, item_at, next_at, read_on, items_in, closed_or_items, inside_of, opened, format_of}
use Rattle.sil_format.specs.declared.format.DataKind.{DataKind}
use Rattle.sil_format.specs.declared.format.DataKind.TheVariants.{Integer, Character, Real}
use Rattle.sil_format.specs.declared.format.Item.{Item}
use Rattle.sil_format.specs.declared.format.Item.TheVariants.{Blanks, Text, NewRecord, Data}
use Rattle.sil_format.proofs.NumberLemmas.{both, together}
use Rattle.sil_format.proofs.ReadLemmas.{items_behind}

-- ---- options and tests

chosen : {A : Type 0} (b : Bool) (x y z : A) → cond b x y ≡ z → ((b ≡ true) × (x ≡ z)) ⊎ ((b ≡ false) × (y ≡ z))
chosen true x y z h = inl (refl, h)
chosen false x y z h = inr (refl, h)

cond_is_some : {A : Type 0} (b : Bool) (r : Option A) (x : A) → cond b r None ≡ Some x → (b ≡ true) × (r ≡ Some x)
cond_is_some true r x h = (refl, h)
cond_is_some false r x h = absurd (none-some x h)

mapped : {A B : Type 0} (f : A → B) (r : Option A) (y : B) → option_map f r ≡ Some y → (x : A) × (r ≡ Some x) × (f x ≡ y)
mapped f None y h = cc
mapped f (Some x) y h = (x, refl, cc)

then : {A B : Type 0} (f : A → Option B) (r : Option A) (y : B) → option_and_then f r ≡ Some y → (x : A) × (r ≡ Some x) × (f x ≡ Some y)
then f None y h = cc
then f (Some x) y h = (x, refl, h)

is_equal : (a b : ℕ) → (a == b) ≡ true → a ≡ b
is_equal a b h = grind (arith, nat_tests)

-- ---- what stands at the front

blanks_step : (b : Bool) (c : ℕ) (cs : List ℕ) → is_blank c ≡ b → (blanks : List ℕ) × (cs ≡ blanks ++ skip_blanks cs) × (are_blanks blanks ≡ true) → (blanks : List ℕ) × (c ∷ cs ≡ blanks ++ cond b (skip_blanks cs) (c ∷ cs)) × (are_blanks blanks ≡ true)
blanks_step true c cs e t = (c ∷ t.0, ap (λ xs. c ∷ xs) t.1, together (is_blank c) (are_blanks t.0) e t.2)
blanks_step false c cs e t = ([], refl, refl)

pub blanks_front : (bytes : List ℕ) → (blanks : List ℕ) × (bytes ≡ blanks ++ skip_blanks bytes) × (are_blanks blanks ≡ true)
blanks_front [] = ([], refl, refl)
blanks_front (c ∷ cs) = blanks_step (is_blank c) c cs refl (blanks_front cs)

number_step : (b : Bool) (c : ℕ) (cs : List ℕ) → is_digit_or_blank c ≡ b → (cs ≡ number_part cs ++ after_number cs) × (list_all is_digit_or_blank (number_part cs) ≡ true) → (c ∷ cs ≡ cond b (c ∷ number_part cs) [] ++ cond b (after_number cs) (c ∷ cs)) × (list_all is_digit_or_blank (cond b (c ∷ number_part cs) []) ≡ true)
number_step true c cs e t = (ap (λ xs. c ∷ xs) t.0, together (is_digit_or_blank c) (list_all is_digit_or_blank (number_part cs)) e t.1)
number_step false c cs e t = (refl, refl)

number_front : (bytes : List ℕ) → (bytes ≡ number_part bytes ++ after_number bytes) × (list_all is_digit_or_blank (number_part bytes) ≡ true)
number_front [] = (refl, refl)
number_front (c ∷ cs) = number_step (is_digit_or_blank c) c cs refl (number_front cs)

-- ---- numbers

number_cases : (a b : Bool) (v n : ℕ) → cond a None (cond b (Some v) None) ≡ Some n → (a ≡ false) × (b ≡ true) × (v ≡ n)
number_cases true b v n h = cc
number_cases false true v n h = (refl, refl, cc)
number_cases false false v n h = cc

number_sound : (low high : ℕ) (bytes : List ℕ) (n : ℕ) → list_all is_digit_or_blank bytes ≡ true → number_in low high bytes ≡ Some n → SpellsNumber low high bytes n
number_sound low high bytes n digits h =
    let c = number_cases (are_blanks bytes) (nat_le low (value_of bytes) && nat_le (value_of bytes) high) (value_of bytes) n h in
    let tests = both (nat_le low (value_of bytes)) (nat_le (value_of bytes) high) c.1 in
    let above : low ≤ value_of bytes = grind (arith, nat_tests) in
    let below : value_of bytes ≤ high = grind (arith, nat_tests) in
    let same : value_of bytes ≡ n = c.2 in
    (digits, c.0, sym same, omega arith, omega arith)

optional_sound : (bytes : List ℕ) (n : ℕ) → list_all is_digit_or_blank bytes ≡ true → optional_count_in bytes ≡ Some n → SpellsOptionalCount bytes n
optional_sound bytes n digits h =
    ⊎_elim
    (λ a. inr (a.0, sym (same_Some 1 n a.1)))
    (λ a. inl (number_sound 1 1000 bytes n digits a.1))
    (chosen (are_blanks bytes) (Some 1) (count_in bytes) (Some n) h)

number_at_sound : (low high : ℕ) (bytes : List ℕ) (p : ℕ × List ℕ) → number_at low high bytes ≡ Some p → (text : List ℕ) × (bytes ≡ text ++ p.1) × SpellsNumber low high text p.0
number_at_sound low high bytes p h =
    let a = mapped (λ n. (n, after_number bytes)) (number_in low high (number_part bytes)) p h in
    let front = number_front bytes in
    subst (λ (q : ℕ × List ℕ). (text : List ℕ) × (bytes ≡ text ++ q.1) × SpellsNumber low high text q.0) a.2 (number_part bytes, front.0, number_sound low high (number_part bytes) a.0 front.1 a.1)

-- ---- data items

character_sound : (bytes : List ℕ) (q : DataKind × List ℕ) → character_at bytes ≡ Some q → (bytes ≡ 49 ∷ q.1) × (Character ≡ q.0)
character_sound [] q h = cc
character_sound (c ∷ cs) q h =
    let a = cond_is_some (c == 49) (Some (Character, cs)) q h in
    let e = same_Some (Character, cs) q a.1 in
    (ap (λ b. b ∷ cs) (is_equal c 49 a.0) ∙ ap (λ (r : DataKind × List ℕ). 49 ∷ r.1) e, ap (λ (r : DataKind × List ℕ). r.0) e)

decimals_sound : (width : ℕ) (bytes : List ℕ) (q : DataKind × List ℕ) → decimals_at width bytes ≡ Some q → (second : List ℕ) × (d : ℕ) × (bytes ≡ 46 ∷ (second ++ q.1)) × SpellsNumber 0 width second d × (Real width d ≡ q.0)
decimals_sound width [] q h = cc
decimals_sound width (c ∷ cs) q h =
    let a = cond_is_some (c == 46) (option_map (λ p. (Real width p.0, p.1)) (number_at 0 width cs)) q h in
    let b = mapped (λ p. (Real width p.0, p.1)) (number_at 0 width cs) q a.1 in
    let s = number_at_sound 0 width cs b.0 b.1 in
    (s.0, b.0.0, ap (λ x. x ∷ cs) (is_equal c 46 a.0) ∙ ap (λ xs. 46 ∷ xs) s.1 ∙ ap (λ (r : DataKind × List ℕ). 46 ∷ (s.0 ++ r.1)) b.2, s.2, ap (λ (r : DataKind × List ℕ). r.0) b.2)

-- a kind that a letter and bytes spell, and what is left of them
abbrev KindRead : ℕ → List ℕ → DataKind × List ℕ → Type 0
KindRead letter bytes q = (text : List ℕ) × (letter ∷ bytes ≡ text ++ q.1) × SpellsKind text q.0

integer_sound : (letter : ℕ) (bytes : List ℕ) (q : DataKind × List ℕ) → letter ≡ 73 → option_map (λ p. (Integer p.0, p.1)) (number_at 1 255 bytes) ≡ Some q → KindRead letter bytes q
integer_sound letter bytes q e h =
    let a = mapped (λ p. (Integer p.0, p.1)) (number_at 1 255 bytes) q h in
    let s = number_at_sound 1 255 bytes a.0 a.1 in
    subst (KindRead letter bytes) a.2 (letter ∷ s.0, ap (λ xs. letter ∷ xs) s.1, (s.0, ap (λ c. c ∷ s.0) e, s.2))

one_sound : (letter : ℕ) (bytes : List ℕ) (q : DataKind × List ℕ) → letter ≡ 65 → character_at (skip_blanks bytes) ≡ Some q → KindRead letter bytes q
one_sound letter bytes q e h =
    let a = character_sound (skip_blanks bytes) q h in
    let f = blanks_front bytes in
    let whole = f.1 ∙ ap (λ xs. f.0 ++ xs) a.0 ∙ sym (append_assoc f.0 (49 ∷ []) q.1) in
    let text = letter ∷ (f.0 ++ 49 ∷ []) in
    (text, ap (λ xs. letter ∷ xs) whole, subst (SpellsKind text) a.1 (f.0, ap (λ c. c ∷ (f.0 ++ 49 ∷ [])) e, f.2))

real_sound : (letter : ℕ) (bytes : List ℕ) (q : DataKind × List ℕ) → letter ≡ 70 → option_and_then (λ p. decimals_at p.0 p.1) (number_at 1 255 bytes) ≡ Some q → KindRead letter bytes q
real_sound letter bytes q e h =
    let a = then (λ p. decimals_at p.0 p.1) (number_at 1 255 bytes) q h in
    let s = number_at_sound 1 255 bytes a.0 a.1 in
    let d = decimals_sound a.0.0 a.0.1 q a.2 in
    let whole = s.1 ∙ ap (λ xs. s.0 ++ xs) d.2 ∙ sym (append_assoc s.0 (46 ∷ d.0) q.1) in
    let text = letter ∷ (s.0 ++ 46 ∷ d.0) in
    (text, ap (λ xs. letter ∷ xs) whole, subst (SpellsKind text) d.4 (s.0, d.0, ap (λ c. c ∷ (s.0 ++ 46 ∷ d.0)) e, s.2, d.3))

kind_sound : (letter : ℕ) (bytes : List ℕ) (q : DataKind × List ℕ) → kind_at letter bytes ≡ Some q → KindRead letter bytes q
kind_sound letter bytes q h =
    let int = option_map (λ p. (Integer p.0, p.1)) (number_at 1 255 bytes) in
    let one = character_at (skip_blanks bytes) in
    let real = option_and_then (λ p. decimals_at p.0 p.1) (number_at 1 255 bytes) in
    ⊎_elim
    (λ a. integer_sound letter bytes q (is_equal letter 73 a.0) a.1)
    (λ a. ⊎_elim
    (λ b. one_sound letter bytes q (is_equal letter 65 b.0) b.1)
    (λ b. let c = cond_is_some (letter == 70) real q b.1 in real_sound letter bytes q (is_equal letter 70 c.0) c.1)
    (chosen (letter == 65) one (cond (letter == 70) real None) (Some q) a.1))
    (chosen (letter == 73) int (cond (letter == 65) one (cond (letter == 70) real None)) (Some q) h)

-- ---- items

-- an item that bytes spell, and what is left of them
abbrev ItemRead : List ℕ → Item × List ℕ → Type 0
ItemRead bytes q = (first : List ℕ) × (bytes ≡ first ++ q.1) × SpellsItem first q.0

slash_sound : (count : List ℕ) (letter : ℕ) (rest : List ℕ) (q : Item × List ℕ) → letter ≡ 47 → cond (are_blanks count) (Some (NewRecord, rest)) None ≡ Some q → ItemRead (count ++ letter ∷ rest) q
slash_sound count letter rest q e h =
    let a = cond_is_some (are_blanks count) (Some (NewRecord, rest)) q h in
    subst (ItemRead (count ++ letter ∷ rest)) (same_Some (NewRecord, rest) q a.1) (count ++ letter ∷ [], sym (append_assoc count (letter ∷ []) rest), (count, ap (λ c. count ++ c ∷ []) e, a.0))

text_sound : (count : List ℕ) (letter : ℕ) (rest : List ℕ) (q : Item × List ℕ) → list_all is_digit_or_blank count ≡ true → letter ≡ 72 → option_and_then (λ n. text_at n rest) (count_in count) ≡ Some q → ItemRead (count ++ letter ∷ rest) q
text_sound count letter rest q digits e h =
    let a = then (λ n. text_at n rest) (count_in count) q h in
    let n = a.0 in
    let b = cond_is_some (nat_le n (length rest)) (Some (Text (take n rest), drop n rest)) q a.2 in
    let within : n ≤ length rest = grind (arith, nat_tests) in
    let size : length (take n rest) ≡ n = length-take-le n rest within in
    let whole = ap (λ xs. count ++ letter ∷ xs) (sym (take-append-drop n rest)) ∙ sym (append_assoc count (letter ∷ take n rest) (drop n rest)) in
    subst (ItemRead (count ++ letter ∷ rest)) (same_Some (Text (take n rest), drop n rest) q b.1)
    (count ++ letter ∷ take n rest, whole, (count, ap (λ c. count ++ c ∷ take n rest) e, subst (λ (k : ℕ). SpellsNumber 1 1000 count k) (sym size) (number_sound 1 1000 count n digits a.1)))

blanks_sound : (count : List ℕ) (letter : ℕ) (rest : List ℕ) (q : Item × List ℕ) → list_all is_digit_or_blank count ≡ true → letter ≡ 88 → option_map (λ n. (Blanks n, rest)) (optional_count_in count) ≡ Some q → ItemRead (count ++ letter ∷ rest) q
blanks_sound count letter rest q digits e h =
    let a = mapped (λ n. (Blanks n, rest)) (optional_count_in count) q h in
    subst (ItemRead (count ++ letter ∷ rest)) a.2 (count ++ letter ∷ [], sym (append_assoc count (letter ∷ []) rest), (count, ap (λ c. count ++ c ∷ []) e, optional_sound count a.0 digits a.1))

data_sound : (count : List ℕ) (letter : ℕ) (rest : List ℕ) (q : Item × List ℕ) → list_all is_digit_or_blank count ≡ true → option_and_then (λ n. option_map (λ p. (Data n p.0, p.1)) (kind_at letter rest)) (optional_count_in count) ≡ Some q → ItemRead (count ++ letter ∷ rest) q
data_sound count letter rest q digits h =
    let a = then (λ n. option_map (λ p. (Data n p.0, p.1)) (kind_at letter rest)) (optional_count_in count) q h in
    let b = mapped (λ p. (Data a.0 p.0, p.1)) (kind_at letter rest) q a.2 in
    let k = kind_sound letter rest b.0 b.1 in
    subst (ItemRead (count ++ letter ∷ rest)) b.2
    (count ++ k.0, ap (λ xs. count ++ xs) k.1 ∙ sym (append_assoc count k.0 b.0.1), (count, k.0, refl, optional_sound count a.0 digits a.1, k.2))

behind_sound : (count tail : List ℕ) (q : Item × List ℕ) → list_all is_digit_or_blank count ≡ true → item_behind count tail ≡ Some q → ItemRead (count ++ tail) q
behind_sound count [] q digits h = cc
behind_sound count (letter ∷ rest) q digits h =
    let slash = cond (are_blanks count) (Some (NewRecord, rest)) None in
    let text = option_and_then (λ n. text_at n rest) (count_in count) in
    let blanks = option_map (λ n. (Blanks n, rest)) (optional_count_in count) in
    let data_item = option_and_then (λ n. option_map (λ p. (Data n p.0, p.1)) (kind_at letter rest)) (optional_count_in count) in
    ⊎_elim
    (λ a. slash_sound count letter rest q (is_equal letter 47 a.0) a.1)
    (λ a. ⊎_elim
    (λ b. text_sound count letter rest q digits (is_equal letter 72 b.0) b.1)
    (λ b. ⊎_elim
    (λ c. blanks_sound count letter rest q digits (is_equal letter 88 c.0) c.1)
    (λ c. data_sound count letter rest q digits c.1)
    (chosen (letter == 88) blanks data_item (Some q) b.1))
    (chosen (letter == 72) text (cond (letter == 88) blanks data_item) (Some q) a.1))
    (chosen (letter == 47) slash (cond (letter == 72) text (cond (letter == 88) blanks data_item)) (Some q) h)

item_sound : (bytes : List ℕ) (q : Item × List ℕ) → item_at bytes ≡ Some q → ItemRead bytes q
item_sound bytes q h =
    let front = number_front bytes in
    let r = behind_sound (number_part bytes) (after_number bytes) q front.1 h in
    (r.0, front.0 ∙ r.1, r.2)

-- ---- what follows an item

-- the bracket and blanks, a comma, or a slash at either side
abbrev NextRead : Bool → List ℕ → Option (List ℕ) → Type 0
NextRead slash bytes next =
    ((back : List ℕ) × (bytes ≡ 41 ∷ back) × (are_blanks back ≡ true) × (None ≡ next))
    ⊎ (((rest : List ℕ) × (bytes ≡ 44 ∷ rest) × (Some rest ≡ next))
    ⊎ ((c : ℕ) × (cs : List ℕ) × (bytes ≡ c ∷ cs) × ((c == 47 || slash) ≡ true) × (Some (c ∷ cs) ≡ next)))

next_sound : (slash : Bool) (bytes : List ℕ) (next : Option (List ℕ)) → next_at slash bytes ≡ Some next → NextRead slash bytes next
next_sound slash [] next h = cc
next_sound slash (c ∷ cs) next h =
    let other = cond (c == 47 || slash) (Some (Some (c ∷ cs))) None in
    ⊎_elim
    (λ a. let b = cond_is_some (are_blanks cs) (Some None) next a.1 in inl (cs, ap (λ x. x ∷ cs) (is_equal c 41 a.0), b.0, same_Some None next b.1))
    (λ a. ⊎_elim
    (λ b. inr (inl (cs, ap (λ x. x ∷ cs) (is_equal c 44 b.0), same_Some (Some cs) next b.1)))
    (λ b. let d = cond_is_some (c == 47 || slash) (Some (Some (c ∷ cs))) next b.1 in inr (inr (c, cs, refl, d.0, same_Some (Some (c ∷ cs)) next d.1)))
    (chosen (c == 44) (Some (Some cs)) other (Some next) a.1))
    (chosen (c == 41) (cond (are_blanks cs) (Some None) None) (cond (c == 44) (Some (Some cs)) other) (Some next) h)

-- ---- items

abbrev starts_slash : List Item → Bool
starts_slash [] = false
starts_slash (item ∷ items) = is_slash item

-- a slash is read as a slash
slash_first : (most : ℕ) (cs : List ℕ) (items : List Item) → items_in most (47 ∷ cs) ≡ Some items → starts_slash items ≡ true
slash_first zero cs items h = cc
slash_first (suc most) cs items h =
    let a = then (λ next. option_map (λ xs. NewRecord ∷ xs) (read_on (items_in most) next)) (next_at true (skip_blanks cs)) items h in
    let b = mapped (λ xs. NewRecord ∷ xs) (read_on (items_in most) a.0) items a.2 in
    ap starts_slash (sym b.2)

one_before : (item : Item) (items : List Item) (first blanks between rest : List ℕ) → SpellsItem first item → are_blanks blanks ≡ true → (between ≡ 44 ∷ []) ⊎ ((between ≡ []) × ((is_slash item || starts_slash items) ≡ true)) → SpellsItems rest items → SpellsItems (first ++ (blanks ++ (between ++ rest))) (item ∷ items)
one_before item [] first blanks between rest spelled empty apart h = absurd h
one_before item (next ∷ items) first blanks between rest spelled empty apart h = (first, blanks, between, rest, refl, spelled, empty, apart, h)

-- items up to the closing bracket, and blanks behind it
abbrev ItemsRead : List ℕ → List Item → Type 0
ItemsRead bytes items = (inside : List ℕ) × (back : List ℕ) × (bytes ≡ inside ++ 41 ∷ back) × SpellsItems inside items × (are_blanks back ≡ true)

-- an item and what separates it before others
more_sound : (item : Item) (items : List Item) (first blanks between rest : List ℕ) → SpellsItem first item → are_blanks blanks ≡ true → (between ≡ 44 ∷ []) ⊎ ((between ≡ []) × ((is_slash item || starts_slash items) ≡ true)) → ItemsRead rest items → ItemsRead (first ++ (blanks ++ (between ++ rest))) (item ∷ items)
more_sound item items first blanks between rest spelled empty apart (inside, back, e, h, blank) =
    let tail = 41 ∷ back in (
      first ++ (blanks ++ (between ++ inside)),
      back,
      ap (λ xs. first ++ (blanks ++ (between ++ xs))) e
          ∙ ap (λ xs. first ++ (blanks ++ xs)) (sym (append_assoc between inside tail))
          ∙ ap (λ xs. first ++ xs) (sym (append_assoc blanks (between ++ inside) tail))
          ∙ sym (append_assoc first (blanks ++ (between ++ inside)) tail),
      one_before item items first blanks between inside spelled empty apart h,
      blank,
    )

last_sound : (item : Item) (first blanks back : List ℕ) → SpellsItem first item → are_blanks blanks ≡ true → are_blanks back ≡ true → ItemsRead (first ++ (blanks ++ 41 ∷ back)) (item ∷ [])
last_sound item first blanks back spelled empty blank = (first ++ blanks, back, sym (append_assoc first blanks (41 ∷ back)), (first, blanks, refl, spelled, empty), blank)

either_slash : (item : Item) (items : List Item) (c : ℕ) → (c ≡ 47 → starts_slash items ≡ true) → (c == 47 || is_slash item) ≡ true → (is_slash item || starts_slash items) ≡ true
either_slash item items c starts h = by_slash (is_slash item) (starts_slash items) (c == 47) (λ e. starts (is_equal c 47 e)) h where
  by_slash : (a b d : Bool) → (d ≡ true → b ≡ true) → (d || a) ≡ true → (a || b) ≡ true
  by_slash true b d f k = refl
  by_slash false b true f k = f refl
  by_slash false b false f k = cc

module _ (read : List ℕ → Option (List Item)) (sound : (bytes : List ℕ) (items : List Item) → read bytes ≡ Some items → ItemsRead bytes items) (slashes : (cs : List ℕ) (items : List Item) → read (47 ∷ cs) ≡ Some items → starts_slash items ≡ true) where
  -- what is read behind an item and blanks
  behind_item : (item : Item) (items : List Item) (first blanks rest : List ℕ) (next : Option (List ℕ)) → SpellsItem first item → are_blanks blanks ≡ true → NextRead (is_slash item) rest next → read_on read next ≡ Some items → ItemsRead (first ++ (blanks ++ rest)) (item ∷ items)
  behind_item item items first blanks rest next spelled empty (inl (back, e, blank, same)) h =
      let none : [] ≡ items = same_Some [] items (ap (read_on read) same ∙ h) in
      subst (λ (xs : List Item). ItemsRead (first ++ (blanks ++ rest)) (item ∷ xs)) none
      (subst (λ (bs : List ℕ). ItemsRead (first ++ (blanks ++ bs)) (item ∷ [])) (sym e) (last_sound item first blanks back spelled empty blank))
  behind_item item items first blanks rest next spelled empty (inr (inl (after, e, same))) h =
      subst (λ (bs : List ℕ). ItemsRead (first ++ (blanks ++ bs)) (item ∷ items)) (sym e)
      (more_sound item items first blanks (44 ∷ []) after spelled empty (inl refl) (sound after items (ap (read_on read) same ∙ h)))
  behind_item item items first blanks rest next spelled empty (inr (inr (c, cs, e, slash, same))) h =
      let there : read (c ∷ cs) ≡ Some items = ap (read_on read) same ∙ h in
      let apart = either_slash item items c (λ is. slashes cs items (ap (λ x. read (x ∷ cs)) (sym is) ∙ there)) slash in
      subst (λ (bs : List ℕ). ItemsRead (first ++ (blanks ++ bs)) (item ∷ items)) (sym e)
      (more_sound item items first blanks [] (c ∷ cs) spelled empty (inr (refl, apart)) (sound (c ∷ cs) items there))

  -- an item and what is read behind it
  from_item : (bytes : List ℕ) (p : Item × List ℕ) (items : List Item) → item_at bytes ≡ Some p → items_behind read p ≡ Some items → ItemsRead bytes items
  from_item bytes p items at h =
      let a = then (λ next. option_map (λ xs. p.0 ∷ xs) (read_on read next)) (next_at (is_slash p.0) (skip_blanks p.1)) items h in
      let b = mapped (λ xs. p.0 ∷ xs) (read_on read a.0) items a.2 in
      let r = item_sound bytes p at in
      let f = blanks_front p.1 in
      let front = r.1 ∙ ap (λ xs. r.0 ++ xs) f.1 in
      subst (ItemsRead bytes) b.2
      (subst (λ (bs : List ℕ). ItemsRead bs (p.0 ∷ b.0)) (sym front) (behind_item p.0 b.0 r.0 f.0 (skip_blanks p.1) a.0 r.2 f.2 (next_sound (is_slash p.0) (skip_blanks p.1) a.0 a.1) b.1))

items_sound : (most : ℕ) (bytes : List ℕ) (items : List Item) → items_in most bytes ≡ Some items → ItemsRead bytes items
items_sound zero bytes items h = cc
items_sound (suc most) bytes items h =
    let a = then (items_behind (items_in most)) (item_at bytes) items h in
    from_item (items_in most) (items_sound most) (slash_first most) bytes a.0 items a.1 a.2

-- ---- formats

-- a format behind its opening bracket
abbrev InsideRead : List ℕ → List Item → Type 0
InsideRead bytes items = (inside : List ℕ) × (back : List ℕ) × (bytes ≡ inside ++ 41 ∷ back) × SpellsInside inside items × (are_blanks back ≡ true)

some_inside : (inside : List ℕ) (items : List Item) → SpellsItems inside items → SpellsInside inside items
some_inside inside [] h = absurd h
some_inside inside (item ∷ items) h = h

any_inside : (bytes : List ℕ) (items : List Item) → items_in (suc (length bytes)) bytes ≡ Some items → InsideRead bytes items
any_inside bytes items h =
    let r = items_sound (suc (length bytes)) bytes items h in
    (r.0, r.1, r.2, some_inside r.0 items r.3, r.4)

closed_sound : (bytes front shown : List ℕ) (items : List Item) → bytes ≡ front ++ shown → are_blanks front ≡ true → closed_or_items bytes shown ≡ Some items → InsideRead bytes items
closed_sound bytes front [] items e blank h = any_inside bytes items h
closed_sound bytes front (c ∷ cs) items e blank h =
    ⊎_elim
    (λ a.
    let b = cond_is_some (are_blanks cs) (Some []) items a.1 in
    subst (InsideRead bytes) (same_Some [] items b.1) (front, cs, e ∙ ap (λ x. front ++ x ∷ cs) (is_equal c 41 a.0), blank, b.0))
    (λ a. any_inside bytes items a.1)
    (chosen (c == 41) (cond (are_blanks cs) (Some []) None) (items_in (suc (length bytes)) bytes) (Some items) h)

opened_sound : (shown : List ℕ) (items : List Item) → opened shown ≡ Some items → (cs : List ℕ) × (shown ≡ 40 ∷ cs) × InsideRead cs items
opened_sound [] items h = cc
opened_sound (c ∷ cs) items h =
    let a = cond_is_some (c == 40) (inside_of cs) items h in
    let f = blanks_front cs in
    (cs, ap (λ x. x ∷ cs) (is_equal c 40 a.0), closed_sound cs f.0 (skip_blanks cs) items f.1 f.2 a.1)

pub format_sound : (bytes : List ℕ) (items : List Item) → format_of bytes ≡ Some items → SpellsFormat bytes items
format_sound bytes items h =
    let f = blanks_front bytes in
    let r = opened_sound (skip_blanks bytes) items h in
    let i = r.2 in
    (f.0, i.0, i.1, f.1 ∙ ap (λ xs. f.0 ++ xs) (r.1 ∙ ap (λ xs. 40 ∷ xs) i.2), f.2, i.3, i.4)
