-- What is spelled is read.
use Rattle.std.proofs.Common.{◌≡◌, ℕ, zero, suc, ◌≤◌, Bool, true, false, cond, ◌&&◌, List, [], ◌∷◌, ◌++◌, length, take, drop, Option, Some, None, inl, inr, ◌⊎◌, subst, refl, sym, ap, ◌∙◌, append_assoc, arith, length-append, take_at, drop_at}
use Rattle.std.specs.Prelude.{◌==◌, ◌||◌, not, nat_le, option_and_then}
use Rattle.std.specs.Option.{option_map}
use Rattle.std.specs.List.{list_all}
use Rattle.std.specs.Str.Parse.{digits_value}
use Rattle.std.proofs.lemmas.Bool.Decides.{nat_tests}
use Rattle.std.proofs.lemmas.Option.{same_Some}
use Rattle.std.proofs.lemmas.List.{append-nil}
use Rattle.std.proofs.lemmas.List.Elements.{filter-append}
use Rattle.std.proofs.lemmas.List.Folds.{list_all-append}
use Rattle.sil_format.specs.FormatGrammar.{is_blank, are_blanks, is_digit_or_blank, value_of, is_slash, SpellsNumber, SpellsOptionalCount, SpellsKind, SpellsItem, SpellsItems, Separates, SpellsInside, SpellsFormat}
use Rattle.sil_format.specs.FormatReading.{skip_blanks, number_part, after_number, number_in, count_in, optional_count_in, number_at, character_at, decimals_at, kind_at, text_at, item_with, item_behind, item_at, next_at, read_on, items_in, closed_or_items, inside_of, opened, format_of}
use Rattle.sil_format.specs.declared.format.DataKind.{DataKind}
use Rattle.sil_format.specs.declared.format.DataKind.TheVariants.{Integer, Character, Real}
use Rattle.sil_format.specs.declared.format.Item.{Item}
use Rattle.sil_format.specs.declared.format.Item.TheVariants.{Blanks, Text, NewRecord, Data}
use Rattle.sil_format.proofs.NumberLemmas.{both, together, shown, shown_blanks, part_append, after_append, part_mark}
use Rattle.sil_format.proofs.ReadLemmas.{items_behind}
use Rattle.sil_format.proofs.Sound.{blanks_front}

-- ---- blanks

blank_is_part : (c : ℕ) → is_blank c ≡ true → is_digit_or_blank c ≡ true
blank_is_part c h = grind (arith, nat_tests)

mark_no_blank : (c : ℕ) → is_digit_or_blank c ≡ false → is_blank c ≡ false
mark_no_blank c h = grind (arith, nat_tests)

blanks_are_part : (bytes : List ℕ) → are_blanks bytes ≡ true → list_all is_digit_or_blank bytes ≡ true
blanks_are_part [] h = refl
blanks_are_part (c ∷ cs) h =
    let tests = both (is_blank c) (are_blanks cs) h in
    together (is_digit_or_blank c) (list_all is_digit_or_blank cs) (blank_is_part c tests.0) (blanks_are_part cs tests.1)

pub skip_append : (blanks bytes : List ℕ) → are_blanks blanks ≡ true → skip_blanks (blanks ++ bytes) ≡ skip_blanks bytes
skip_append [] bytes h = refl
skip_append (c ∷ cs) bytes h =
    let tests = both (is_blank c) (are_blanks cs) h in
    ap (λ b. cond b (skip_blanks (cs ++ bytes)) (c ∷ (cs ++ bytes))) tests.0 ∙ skip_append cs bytes tests.1

skip_shown : (c : ℕ) (cs : List ℕ) → is_blank c ≡ false → skip_blanks (c ∷ cs) ≡ c ∷ cs
skip_shown c cs h = ap (λ b. cond b (skip_blanks cs) (c ∷ cs)) h

skip_twice_step : (b : Bool) (c : ℕ) (cs : List ℕ) → is_blank c ≡ b → skip_blanks (skip_blanks cs) ≡ skip_blanks cs → skip_blanks (cond b (skip_blanks cs) (c ∷ cs)) ≡ cond b (skip_blanks cs) (c ∷ cs)
skip_twice_step true c cs e h = h
skip_twice_step false c cs e h = skip_shown c cs e

skip_twice : (bytes : List ℕ) → skip_blanks (skip_blanks bytes) ≡ skip_blanks bytes
skip_twice [] = refl
skip_twice (c ∷ cs) = skip_twice_step (is_blank c) c cs refl (skip_twice cs)

and_true : (a : Bool) → (a && true) ≡ a
and_true true = refl
and_true false = refl

-- blanks behind or before digits change nothing
behind_digits : (digits blanks : List ℕ) → are_blanks blanks ≡ true → (are_blanks (digits ++ blanks) ≡ are_blanks digits) × (value_of (digits ++ blanks) ≡ value_of digits)
behind_digits digits blanks h = (
  list_all-append is_blank digits blanks ∙ ap (λ b. are_blanks digits && b) h ∙ and_true (are_blanks digits),
  ap (digits_value 10) (filter-append (λ c. not (is_blank c)) digits blanks ∙ ap (λ xs. shown digits ++ xs) (shown_blanks blanks h) ∙ append-nil (shown digits)),
)

before_digits : (blanks digits : List ℕ) → are_blanks blanks ≡ true → (are_blanks (blanks ++ digits) ≡ are_blanks digits) × (value_of (blanks ++ digits) ≡ value_of digits)
before_digits blanks digits h = (
  list_all-append is_blank blanks digits ∙ ap (λ b. b && are_blanks digits) h,
  ap (digits_value 10) (filter-append (λ c. not (is_blank c)) blanks digits ∙ ap (λ xs. xs ++ shown digits) (shown_blanks blanks h)),
)

-- a number goes by what its blanks and its value are
abbrev number_by : ℕ → ℕ → Bool → ℕ → Option ℕ
number_by low high empty value = cond empty None (cond (nat_le low value && nat_le value high) (Some value) None)

number_behind : (low high : ℕ) (digits blanks : List ℕ) → are_blanks blanks ≡ true → number_in low high (digits ++ blanks) ≡ number_in low high digits
number_behind low high digits blanks h =
    let same = behind_digits digits blanks h in
    ap (λ b. number_by low high b (value_of (digits ++ blanks))) same.0 ∙ ap (number_by low high (are_blanks digits)) same.1

number_before : (low high : ℕ) (blanks digits : List ℕ) → are_blanks blanks ≡ true → number_in low high (blanks ++ digits) ≡ number_in low high digits
number_before low high blanks digits h =
    let same = before_digits blanks digits h in
    ap (λ b. number_by low high b (value_of (blanks ++ digits))) same.0 ∙ ap (number_by low high (are_blanks digits)) same.1

-- ---- numbers

-- blanks and then neither a digit nor a blank
record Ends (rest : List ℕ) : Type 0 where
  blanks : List ℕ
  mark : ℕ
  tail : List ℕ
  whole : rest ≡ blanks ++ mark ∷ tail
  empty : are_blanks blanks ≡ true
  ends : is_digit_or_blank mark ≡ false

ends_at : (mark : ℕ) (tail : List ℕ) → is_digit_or_blank mark ≡ false → Ends (mark ∷ tail)
ends_at mark tail h = record { blanks = []; mark = mark; tail = tail; whole = refl; empty = refl; ends = h }

number_complete : (low high : ℕ) (bytes : List ℕ) (n : ℕ) → SpellsNumber low high bytes n → number_in low high bytes ≡ Some n
number_complete low high bytes n (digits, some, same, above, below) =
    let value : value_of bytes ≡ n = sym same in
    let low_test : nat_le low n ≡ true = grind (arith, nat_tests) in
    let high_test : nat_le n high ≡ true = grind (arith, nat_tests) in
    ap (λ b. number_by low high b (value_of bytes)) some
    ∙ ap (number_by low high false) value
    ∙ ap (λ b. cond (b && nat_le n high) (Some n) None) low_test
    ∙ ap (λ b. cond b (Some n) None) high_test

number_at_complete : (low high : ℕ) (text rest : List ℕ) (n : ℕ) → SpellsNumber low high text n → Ends rest → number_at low high (text ++ rest) ≡ Some (n, skip_blanks rest)
number_at_complete low high text rest n h e =
    let end = e.mark ∷ e.tail in
    let blank_part = blanks_are_part e.blanks e.empty in
    let stop = part_mark e.mark e.tail e.ends in
    let part : number_part (text ++ rest) ≡ text ++ e.blanks =
    part_append text rest h.0 ∙ ap (λ xs. text ++ number_part xs) e.whole ∙ ap (λ xs. text ++ xs) (part_append e.blanks end blank_part ∙ ap (λ xs. e.blanks ++ xs) stop.0 ∙ append-nil e.blanks) in
    let skipped : skip_blanks rest ≡ end = ap skip_blanks e.whole ∙ skip_append e.blanks end e.empty ∙ skip_shown e.mark e.tail (mark_no_blank e.mark e.ends) in
    let left : after_number (text ++ rest) ≡ skip_blanks rest = after_append text rest h.0 ∙ ap after_number e.whole ∙ after_append e.blanks end blank_part ∙ stop.1 ∙ sym skipped in
    let number = ap (number_in low high) part ∙ number_behind low high text e.blanks e.empty ∙ number_complete low high text n h in
    ap (option_map (λ k. (k, after_number (text ++ rest)))) number ∙ ap (λ xs. Some (n, xs)) left

optional_complete : (bytes : List ℕ) (n : ℕ) → SpellsOptionalCount bytes n → optional_count_in bytes ≡ Some n
optional_complete bytes n (inl h) = ap (λ b. cond b (Some 1) (count_in bytes)) h.1 ∙ number_complete 1 1000 bytes n h
optional_complete bytes n (inr h) = ap (λ b. cond b (Some 1) (count_in bytes)) h.0 ∙ ap Some (sym h.1)

optional_part : (bytes : List ℕ) (n : ℕ) → SpellsOptionalCount bytes n → list_all is_digit_or_blank bytes ≡ true
optional_part bytes n (inl h) = h.0
optional_part bytes n (inr h) = blanks_are_part bytes h.0

-- ---- data items

-- a kind that is read, and what is left
record KindIs (text rest : List ℕ) (kind : DataKind) : Type 0 where
  letter : ℕ
  more : List ℕ
  left : List ℕ
  whole : text ≡ letter ∷ more
  mark : is_digit_or_blank letter ≡ false
  other : ((letter == 47) ≡ false) × ((letter == 72) ≡ false) × ((letter == 88) ≡ false)
  opens : ((letter == 41) ≡ false) × ((letter == 44) ≡ false)
  reads : kind_at letter (more ++ rest) ≡ Some (kind, left)
  same : skip_blanks left ≡ skip_blanks rest

kind_complete : (text rest : List ℕ) (kind : DataKind) → SpellsKind text kind → Ends rest → KindIs text rest kind
kind_complete text rest (Integer width) (digits, whole, h) e = record {
  letter = 73;
  more = digits;
  left = skip_blanks rest;
  whole = whole;
  mark = refl;
  other = (refl, refl, refl);
  opens = (refl, refl);
  reads = ap (option_map (λ p. (Integer p.0, p.1))) (number_at_complete 1 255 digits rest width h e);
  same = skip_twice rest;
}
kind_complete text rest Character (blanks, whole, h) e = record {
  letter = 65;
  more = blanks ++ 49 ∷ [];
  left = rest;
  whole = whole;
  mark = refl;
  other = (refl, refl, refl);
  opens = (refl, refl);
  reads = ap (λ xs. character_at (skip_blanks xs)) (append_assoc blanks (49 ∷ []) rest) ∙ ap character_at (skip_append blanks (49 ∷ rest) h);
  same = refl;
}
kind_complete text rest (Real width decimals) (first, second, whole, h, k) e = record {
  letter = 70;
  more = first ++ 46 ∷ second;
  left = skip_blanks rest;
  whole = whole;
  mark = refl;
  other = (refl, refl, refl);
  opens = (refl, refl);
  reads =
      ap (λ xs. option_and_then (λ p. decimals_at p.0 p.1) (number_at 1 255 xs)) (append_assoc first (46 ∷ second) rest)
      ∙ ap (option_and_then (λ p. decimals_at p.0 p.1)) (number_at_complete 1 255 first (46 ∷ (second ++ rest)) width h (ends_at 46 (second ++ rest) refl))
      ∙ ap (option_map (λ p. (Real width p.0, p.1))) (number_at_complete 0 width second rest decimals k e);
  same = skip_twice rest;
}

-- ---- items

at_letter : (count : List ℕ) (letter : ℕ) (tail : List ℕ) → list_all is_digit_or_blank count ≡ true → is_digit_or_blank letter ≡ false → item_at (count ++ letter ∷ tail) ≡ item_with count letter tail
at_letter count letter tail digits mark =
    let stop = part_mark letter tail mark in
    ap (λ xs. item_behind xs (after_number (count ++ letter ∷ tail))) (part_append count (letter ∷ tail) digits ∙ ap (λ xs. count ++ xs) stop.0 ∙ append-nil count)
    ∙ ap (item_behind count) (after_append count (letter ∷ tail) digits ∙ stop.1)

-- the first byte that is no blank neither closes nor separates
record Starts (bytes : List ℕ) : Type 0 where
  first : ℕ
  tail : List ℕ
  whole : skip_blanks bytes ≡ first ∷ tail
  opens : (first == 41) ≡ false
  goes : (first == 44) ≡ false

digit_opens : (c : ℕ) → is_digit_or_blank c ≡ true → is_blank c ≡ false → ((c == 41) ≡ false) × ((c == 44) ≡ false)
digit_opens c h k = (grind (arith, nat_tests), grind (arith, nat_tests))

starts_step : (b : Bool) (c : ℕ) (bytes : List ℕ) → is_blank c ≡ b → is_digit_or_blank c ≡ true → Starts bytes → Starts (c ∷ bytes)
starts_step true c bytes e digit s = record { first = s.first; tail = s.tail; whole = ap (λ b. cond b (skip_blanks bytes) (c ∷ bytes)) e ∙ s.whole; opens = s.opens; goes = s.goes }
starts_step false c bytes e digit s =
    let other = digit_opens c digit e in
    record { first = c; tail = bytes; whole = skip_shown c bytes e; opens = other.0; goes = other.1 }

starts_count : (count : List ℕ) (letter : ℕ) (tail : List ℕ) → list_all is_digit_or_blank count ≡ true → is_digit_or_blank letter ≡ false → (letter == 41) ≡ false → (letter == 44) ≡ false → Starts (count ++ letter ∷ tail)
starts_count [] letter tail digits mark opens goes = record { first = letter; tail = tail; whole = skip_shown letter tail (mark_no_blank letter mark); opens = opens; goes = goes }
starts_count (c ∷ cs) letter tail digits mark opens goes =
    let tests = both (is_digit_or_blank c) (list_all is_digit_or_blank cs) digits in
    starts_step (is_blank c) c (cs ++ letter ∷ tail) refl tests.0 (starts_count cs letter tail tests.1 mark opens goes)

-- an item that is read, and what is left
record ItemIs (bytes rest : List ℕ) (item : Item) : Type 0 where
  left : List ℕ
  reads : item_at bytes ≡ Some (item, left)
  same : skip_blanks left ≡ skip_blanks rest
  starts : Starts bytes

item_with_text : (n : ℕ) (text rest : List ℕ) → n ≡ length text → text_at n (text ++ rest) ≡ Some (Text text, rest)
item_with_text n text rest e =
    let within : nat_le n (length (text ++ rest)) ≡ true = grind (arith, nat_tests, length-append text rest) in
    ap (λ b. cond b (Some (Text (take n (text ++ rest)), drop n (text ++ rest))) None) within
    ∙ ap (λ xs. Some (Text xs, drop n (text ++ rest))) (take_at text rest n (sym e))
    ∙ ap (λ xs. Some (Text text, xs)) (drop_at text rest n (sym e))

data_complete : (count text rest : List ℕ) (n : ℕ) (kind : DataKind) → SpellsOptionalCount count n → KindIs text rest kind → ItemIs (count ++ (text ++ rest)) rest (Data n kind)
data_complete count text rest n kind counted k =
    let digits = optional_part count n counted in
    let tail = k.more ++ rest in
    let whole : count ++ (text ++ rest) ≡ count ++ k.letter ∷ tail = ap (λ xs. count ++ (xs ++ rest)) k.whole in
    let data_item = option_and_then (λ m. option_map (λ p. (Data m p.0, p.1)) (kind_at k.letter tail)) (optional_count_in count) in
    let text_item = option_and_then (λ m. text_at m tail) (count_in count) in
    let blanks = option_map (λ m. (Blanks m, tail)) (optional_count_in count) in
    let reads =
    ap item_at whole
    ∙ at_letter count k.letter tail digits k.mark
    ∙ ap (λ b. cond b (cond (are_blanks count) (Some (NewRecord, tail)) None) (cond (k.letter == 72) text_item (cond (k.letter == 88) blanks data_item))) k.other.0
    ∙ ap (λ b. cond b text_item (cond (k.letter == 88) blanks data_item)) k.other.1
    ∙ ap (λ b. cond b blanks data_item) k.other.2
    ∙ ap (option_and_then (λ m. option_map (λ p. (Data m p.0, p.1)) (kind_at k.letter tail))) (optional_complete count n counted)
    ∙ ap (option_map (λ p. (Data n p.0, p.1))) k.reads in
    record {
      left = k.left;
      reads = reads;
      same = k.same;
      starts = subst Starts (sym whole) (starts_count count k.letter tail digits k.mark k.opens.0 k.opens.1);
    }

item_complete : (first rest : List ℕ) (item : Item) → SpellsItem first item → (is_slash item ≡ false → Ends rest) → ItemIs (first ++ rest) rest item
item_complete first rest (Blanks n) (count, whole, counted) ends =
    let digits = optional_part count n counted in
    let e = ap (λ xs. xs ++ rest) whole ∙ append_assoc count (88 ∷ []) rest in
    record {
      left = rest;
      reads = ap item_at e ∙ at_letter count 88 rest digits refl ∙ ap (option_map (λ m. (Blanks m, rest))) (optional_complete count n counted);
      same = refl;
      starts = subst Starts (sym e) (starts_count count 88 rest digits refl refl refl);
    }
item_complete first rest (Text text) (count, whole, counted) ends =
    let digits = counted.0 in
    let e = ap (λ xs. xs ++ rest) whole ∙ append_assoc count (72 ∷ text) rest in
    record {
      left = rest;
      reads =
          ap item_at e
          ∙ at_letter count 72 (text ++ rest) digits refl
          ∙ ap (option_and_then (λ m. text_at m (text ++ rest))) (number_complete 1 1000 count (length text) counted)
          ∙ item_with_text (length text) text rest refl;
      same = refl;
      starts = subst Starts (sym e) (starts_count count 72 (text ++ rest) digits refl refl refl);
    }
item_complete first rest NewRecord (blanks, whole, empty) ends =
    let digits = blanks_are_part blanks empty in
    let e = ap (λ xs. xs ++ rest) whole ∙ append_assoc blanks (47 ∷ []) rest in
    record {
      left = rest;
      reads = ap item_at e ∙ at_letter blanks 47 rest digits refl ∙ ap (λ b. cond b (Some (NewRecord, rest)) None) empty;
      same = refl;
      starts = subst Starts (sym e) (starts_count blanks 47 rest digits refl refl refl);
    }
item_complete first rest (Data n kind) (count, text, whole, counted, spelled) ends =
    let e = ap (λ xs. xs ++ rest) whole ∙ append_assoc count text rest in
    subst (λ (bs : List ℕ). ItemIs bs rest (Data n kind)) (sym e) (data_complete count text rest n kind counted (kind_complete text rest kind spelled (ends refl)))

-- ---- blanks before an item

optional_before : (blanks digits : List ℕ) → are_blanks blanks ≡ true → optional_count_in (blanks ++ digits) ≡ optional_count_in digits
optional_before blanks digits h =
    ap (λ b. cond b (Some 1) (count_in (blanks ++ digits))) (before_digits blanks digits h).0
    ∙ ap (λ r. cond (are_blanks digits) (Some 1) r) (number_before 1 1000 blanks digits h)

-- an item goes by whether its count is blank, and by its count where it must stand and where it may be missing
abbrev item_by : Bool → Option ℕ → Option ℕ → ℕ → List ℕ → Option (Item × List ℕ)
item_by empty count optional letter rest =
    cond (letter == 47) (cond empty (Some (NewRecord, rest)) None)
    (cond (letter == 72) (option_and_then (λ n. text_at n rest) count)
    (cond (letter == 88) (option_map (λ n. (Blanks n, rest)) optional)
    (option_and_then (λ n. option_map (λ p. (Data n p.0, p.1)) (kind_at letter rest)) optional)))

behind_same : (blanks count tail : List ℕ) → are_blanks blanks ≡ true → item_behind (blanks ++ count) tail ≡ item_behind count tail
behind_same blanks count [] h = refl
behind_same blanks count (letter ∷ rest) h =
    ap (λ b. item_by b (count_in (blanks ++ count)) (optional_count_in (blanks ++ count)) letter rest) (before_digits blanks count h).0
    ∙ ap (λ r. item_by (are_blanks count) r (optional_count_in (blanks ++ count)) letter rest) (number_before 1 1000 blanks count h)
    ∙ ap (λ r. item_by (are_blanks count) (count_in count) r letter rest) (optional_before blanks count h)

item_behind_blanks : (blanks bytes : List ℕ) → are_blanks blanks ≡ true → item_at (blanks ++ bytes) ≡ item_at bytes
item_behind_blanks blanks bytes h =
    let part = blanks_are_part blanks h in
    ap (λ xs. item_behind xs (after_number (blanks ++ bytes))) (part_append blanks bytes part)
    ∙ ap (item_behind (blanks ++ number_part bytes)) (after_append blanks bytes part)
    ∙ behind_same blanks (number_part bytes) (after_number bytes) h

items_skip : (most : ℕ) (bytes : List ℕ) → items_in most (skip_blanks bytes) ≡ items_in most bytes
items_skip zero bytes = refl
items_skip (suc most) bytes =
    let f = blanks_front bytes in
    ap (option_and_then (items_behind (items_in most))) (sym (ap item_at f.1 ∙ item_behind_blanks f.0 (skip_blanks bytes) f.2))

-- ---- what follows an item

-- a slash is blanks and its byte
slash_items : (rest : List ℕ) (next : Item) (items : List Item) → is_slash next ≡ true → SpellsItems rest (next ∷ items) → (blanks : List ℕ) × (more : List ℕ) × (rest ≡ blanks ++ 47 ∷ more) × (are_blanks blanks ≡ true)
slash_items rest (Blanks n) items slash h = cc
slash_items rest (Text text) items slash h = cc
slash_items rest (Data n kind) items slash h = cc
slash_items rest NewRecord [] slash (first, behind, whole, (blanks, e, empty), other) =
    (blanks, behind, whole ∙ ap (λ xs. xs ++ behind) e ∙ append_assoc blanks (47 ∷ []) behind, empty)
slash_items rest NewRecord (next ∷ items) slash (first, behind, between, more, whole, (blanks, e, empty), other, apart, h) =
    (blanks, behind ++ (between ++ more), whole ∙ ap (λ xs. xs ++ (behind ++ (between ++ more))) e ∙ append_assoc blanks (47 ∷ []) (behind ++ (between ++ more)), empty)

or_false : (a b : Bool) → a ≡ false → (a || b) ≡ true → b ≡ true
or_false true b e h = cc
or_false false b e h = h

-- an item that is no slash ends before what separates it from the next
ends_before : (item next : Item) (items : List Item) (blanks between rest tail : List ℕ) → are_blanks blanks ≡ true → Separates between item next → SpellsItems rest (next ∷ items) → is_slash item ≡ false → Ends (blanks ++ (between ++ (rest ++ tail)))
ends_before item next items blanks between rest tail empty (inl comma) h plain =
    record { blanks = blanks; mark = 44; tail = rest ++ tail; whole = ap (λ xs. blanks ++ (xs ++ (rest ++ tail))) comma; empty = empty; ends = refl }
ends_before item next items blanks between rest tail empty (inr (none, slash)) h plain =
    let s = slash_items rest next items (or_false (is_slash item) (is_slash next) plain slash) h in
    record {
      blanks = blanks ++ s.0;
      mark = 47;
      tail = s.1 ++ tail;
      whole =
          ap (λ xs. blanks ++ (xs ++ (rest ++ tail))) none
          ∙ ap (λ xs. blanks ++ (xs ++ tail)) s.2
          ∙ ap (λ xs. blanks ++ xs) (append_assoc s.0 (47 ∷ s.1) tail)
          ∙ sym (append_assoc blanks s.0 (47 ∷ (s.1 ++ tail)));
      empty = list_all-append is_blank blanks s.0 ∙ together (are_blanks blanks) (are_blanks s.0) empty s.3;
      ends = refl;
    }

goes_on : (slash : Bool) (c : ℕ) (cs : List ℕ) → (c == 41) ≡ false → (c == 44) ≡ false → (c == 47 || slash) ≡ true → next_at slash (c ∷ cs) ≡ Some (Some (c ∷ cs))
goes_on slash c cs opens goes h =
    let other = cond (c == 47 || slash) (Some (Some (c ∷ cs))) None in
    ap (λ b. cond b (cond (are_blanks cs) (Some None) None) (cond (c == 44) (Some (Some cs)) other)) opens
    ∙ ap (λ b. cond b (Some (Some cs)) other) goes
    ∙ ap (λ b. cond b (Some (Some (c ∷ cs))) None) h

or_true : (a : Bool) → (a || true) ≡ true
or_true true = refl
or_true false = refl

either_true : (a b : Bool) → (a || b) ≡ true → (a ≡ true) ⊎ (b ≡ true)
either_true true b h = inl refl
either_true false b h = inr h

-- where the next item is read
record Goes (most : ℕ) (slash : Bool) (rest bytes : List ℕ) : Type 0 where
  there : List ℕ
  next : next_at slash (skip_blanks rest) ≡ Some (Some there)
  same : items_in most there ≡ items_in most bytes

go_slash : (most : ℕ) (item next : Item) (items : List Item) (rest tail : List ℕ) → (is_slash item || is_slash next) ≡ true → SpellsItems rest (next ∷ items) → Starts (rest ++ tail) → next_at (is_slash item) (skip_blanks (rest ++ tail)) ≡ Some (Some (skip_blanks (rest ++ tail)))
go_slash most item next items rest tail slash h s =
    elim (either_true (is_slash item) (is_slash next) slash) [
      | inl before ↦
          ap (next_at (is_slash item)) s.whole
          ∙ goes_on (is_slash item) s.first s.tail s.opens s.goes (ap (λ b. s.first == 47 || b) before ∙ or_true (s.first == 47))
          ∙ ap (λ xs. Some (Some xs)) (sym s.whole)
      | inr behind ↦
          let f = slash_items rest next items behind h in
          let e : skip_blanks (rest ++ tail) ≡ 47 ∷ (f.1 ++ tail) = ap (λ xs. skip_blanks (xs ++ tail)) f.2 ∙ ap skip_blanks (append_assoc f.0 (47 ∷ f.1) tail) ∙ skip_append f.0 (47 ∷ (f.1 ++ tail)) f.3 in
          ap (next_at (is_slash item)) e ∙ ap (λ xs. Some (Some xs)) (sym e)
    ]

go_on : (most : ℕ) (item next : Item) (items : List Item) (blanks between rest tail : List ℕ) → are_blanks blanks ≡ true → Separates between item next → SpellsItems rest (next ∷ items) → Starts (rest ++ tail) → Goes most (is_slash item) (blanks ++ (between ++ (rest ++ tail))) (rest ++ tail)
go_on most item next items blanks between rest tail empty (inl comma) h s =
    record {
      there = rest ++ tail;
      next = ap (λ xs. next_at (is_slash item) (skip_blanks (blanks ++ (xs ++ (rest ++ tail))))) comma ∙ ap (next_at (is_slash item)) (skip_append blanks (44 ∷ (rest ++ tail)) empty);
      same = refl;
    }
go_on most item next items blanks between rest tail empty (inr (none, slash)) h s =
    record {
      there = skip_blanks (rest ++ tail);
      next = ap (λ xs. next_at (is_slash item) (skip_blanks (blanks ++ (xs ++ (rest ++ tail))))) none ∙ ap (next_at (is_slash item)) (skip_append blanks (rest ++ tail) empty) ∙ go_slash most item next items rest tail slash h s;
      same = items_skip most (rest ++ tail);
    }

-- ---- items

-- items that are read
record ItemsAre (most : ℕ) (bytes : List ℕ) (items : List Item) : Type 0 where
  reads : items_in most bytes ≡ Some items
  starts : Starts bytes

step_complete : (read : List ℕ → Option (List Item)) (bytes rest : List ℕ) (item : Item) (next : Option (List ℕ)) (items : List Item) → (i : ItemIs bytes rest item) → next_at (is_slash item) (skip_blanks rest) ≡ Some next → read_on read next ≡ Some items → option_and_then (items_behind read) (item_at bytes) ≡ Some (item ∷ items)
step_complete read bytes rest item next items i e h =
    ap (option_and_then (items_behind read)) i.reads
    ∙ ap (option_and_then (λ n. option_map (λ xs. item ∷ xs) (read_on read n))) (ap (next_at (is_slash item)) i.same ∙ e)
    ∙ ap (option_map (λ xs. item ∷ xs)) h

items_complete : (most : ℕ) (bytes back : List ℕ) (items : List Item) → length items ≤ most → are_blanks back ≡ true → SpellsItems bytes items → ItemsAre most (bytes ++ 41 ∷ back) items
items_complete most bytes back [] few blank h = absurd h
items_complete zero bytes back (item ∷ []) few blank h = absurd (omega arith)
items_complete (suc most) bytes back (item ∷ []) few blank (first, blanks, whole, spelled, empty) =
    let tail = 41 ∷ back in
    let rest = blanks ++ tail in
    let e = ap (λ xs. xs ++ tail) whole ∙ append_assoc first blanks tail in
    let i = item_complete first rest item spelled (λ plain. record { blanks = blanks; mark = 41; tail = back; whole = refl; empty = empty; ends = refl }) in
    let next : next_at (is_slash item) (skip_blanks rest) ≡ Some None = ap (next_at (is_slash item)) (skip_append blanks tail empty) ∙ ap (λ b. cond b (Some None) None) blank in
    subst (λ (bs : List ℕ). ItemsAre (suc most) bs (item ∷ [])) (sym e)
    (record { reads = step_complete (items_in most) (first ++ rest) rest item None [] i next refl; starts = i.starts })
items_complete zero bytes back (item ∷ next ∷ items) few blank h = absurd (omega arith)
items_complete (suc most) bytes back (item ∷ next ∷ items) few blank (first, blanks, between, more, whole, spelled, empty, apart, h) =
    let tail = 41 ∷ back in
    let rest = blanks ++ (between ++ (more ++ tail)) in
    let e =
    ap (λ xs. xs ++ tail) whole
    ∙ append_assoc first (blanks ++ (between ++ more)) tail
    ∙ ap (λ xs. first ++ xs) (append_assoc blanks (between ++ more) tail ∙ ap (λ xs. blanks ++ xs) (append_assoc between more tail)) in
    let others = items_complete most more back (next ∷ items) (omega arith) blank h in
    let i = item_complete first rest item spelled (λ plain. ends_before item next items blanks between more tail empty apart h plain) in
    let g = go_on most item next items blanks between more tail empty apart h others.starts in
    subst (λ (bs : List ℕ). ItemsAre (suc most) bs (item ∷ next ∷ items)) (sym e)
    (record { reads = step_complete (items_in most) (first ++ rest) rest item (Some g.there) (next ∷ items) i g.next (g.same ∙ others.reads); starts = i.starts })

-- ---- formats

kind_some : (text : List ℕ) (kind : DataKind) → SpellsKind text kind → 1 ≤ length text
kind_some text (Integer width) h = omega (arith, ap length h.1)
kind_some text Character h = omega (arith, ap length h.1)
kind_some text (Real width decimals) h = omega (arith, ap length h.2)

item_some : (first : List ℕ) (item : Item) → SpellsItem first item → 1 ≤ length first
item_some first (Blanks n) h = omega (arith, ap length h.1, length-append h.0 (88 ∷ []))
item_some first (Text text) h = omega (arith, ap length h.1, length-append h.0 (72 ∷ text))
item_some first NewRecord h = omega (arith, ap length h.1, length-append h.0 (47 ∷ []))
item_some first (Data n kind) h = omega (arith, ap length h.2, length-append h.0 h.1, kind_some h.1 kind h.4)

few_items : (bytes : List ℕ) (items : List Item) → SpellsItems bytes items → length items ≤ length bytes
few_items bytes [] h = absurd h
few_items bytes (item ∷ []) (first, blanks, whole, spelled, empty) = omega (arith, ap length whole, length-append first blanks, item_some first item spelled)
few_items bytes (item ∷ next ∷ items) (first, blanks, between, rest, whole, spelled, empty, apart, h) =
    omega (arith, ap length whole, length-append first (blanks ++ (between ++ rest)), length-append blanks (between ++ rest), length-append between rest, item_some first item spelled, few_items rest (next ∷ items) h)

inside_complete : (inside back : List ℕ) (items : List Item) → are_blanks back ≡ true → SpellsInside inside items → inside_of (inside ++ 41 ∷ back) ≡ Some items
inside_complete inside back [] blank h =
    ap (closed_or_items (inside ++ 41 ∷ back)) (skip_append inside (41 ∷ back) h) ∙ ap (λ b. cond b (Some []) None) blank
inside_complete inside back (item ∷ items) blank h =
    let bytes = inside ++ 41 ∷ back in
    let few : length (item ∷ items) ≤ suc (length bytes) = omega (arith, few_items inside (item ∷ items) h, length-append inside (41 ∷ back)) in
    let all = items_complete (suc (length bytes)) inside back (item ∷ items) few blank h in
    ap (closed_or_items bytes) all.starts.whole
    ∙ ap (λ b. cond b (cond (are_blanks all.starts.tail) (Some []) None) (items_in (suc (length bytes)) bytes)) all.starts.opens
    ∙ all.reads

pub format_complete : (bytes : List ℕ) (items : List Item) → SpellsFormat bytes items → format_of bytes ≡ Some items
format_complete bytes items (front, inside, back, whole, blank, h, empty) =
    ap (λ xs. opened (skip_blanks xs)) whole
    ∙ ap opened (skip_append front (40 ∷ (inside ++ 41 ∷ back)) blank)
    ∙ inside_complete inside back items empty h

pub one_format : (bytes : List ℕ) (a b : List Item) → SpellsFormat bytes a → SpellsFormat bytes b → a ≡ b
one_format bytes a b h k = same_Some a b (sym (format_complete bytes a h) ∙ format_complete bytes b k)
