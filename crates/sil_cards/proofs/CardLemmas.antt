-- Cards that break no rule, one after another.
use Rattle.std.proofs.Common.{◌≡◌, ℕ, ◌+◌, ◌<◌, ◌≤◌, Bool, true, false, cond, not, ◌&&◌, ◌||◌, eqb, List, [], ◌∷◌, ◌++◌, length, get_or, Some, None, Option, refl, sym, ◌∙◌, arith, All, codes, ◌⊎◌, ⊎_elim, inl, inr}
use Rattle.std.specs.Prelude.{nat_lt, nat_le}
use Rattle.std.specs.List.{list_all}
use Rattle.std.specs.List.Sorted.{IsStrictlyIncreasing}
use Rattle.std.proofs.Math.Seq.{get_or-append_seam}
use Rattle.std.proofs.lemmas.Bool.{cases_lt}
use Rattle.std.proofs.lemmas.Bool.Decides.{nat_tests}
use Rattle.std.proofs.lemmas.List.{length_push, length-append, get_or_append_left, map-append, append-nil}
use Rattle.std.proofs.lemmas.List.Elements.{All-push, All-head, All-tail, All-get_or}
use Rattle.std.proofs.lemmas.List.Sums.{sum_by_push}
use Rattle.std.proofs.lemmas.Slice.Eq.{bytes_eq-Decides}
use Rattle.sil_cards.proofs.Booleans.{both, is_true}
use Rattle.sil_cards.proofs.FieldLemmas.{operands_within}
use Rattle.sil_cards.specs.declared.verdict.Verdict.{Verdict}
use Rattle.sil_cards.specs.declared.verdict.Verdict.TheVariants.{Skipped, Broken, Copies, Taken}
use Rattle.sil_cards.specs.CardParts.{CardParts}
use Rattle.sil_cards.specs.Cards.{IsEnd, IsGood, IsShort, EndsOnce, AreCards, numbers_of, field_bytes, card_at}
use Rattle.sil_cards.specs.CardFields.{Fields, fields_of, is_comment}
use Rattle.sil_cards.specs.Readings.{given_cards, given_faults, limited, is_full}
use Rattle.sil_cards.specs.CardSteps.{AreFirst, IsGoing, HasEnded, StepKeeps, step_of}
use Rattle.sil_cards.specs.declared.reader.Reader.{Reader}
use Rattle.sil_base.specs.Names.{is_word}
use Rattle.sil_cards.specs.CardVerdicts.{is_card_byte, is_macro, is_label, has_operands, copied_file, copy_verdict, other_verdict, verdict_of_fields, verdict, is_end}

-- ---- a card that is taken

past : (b : Bool) (v w : Verdict) → (v ≡ Taken → ⊥) → cond b v w ≡ Taken → (b ≡ false) × (w ≡ Taken)
past true v w never h = absurd (never h)
past false v w never h = (refl, h)

not_skipped : Skipped ≡ Taken → ⊥
not_skipped h = cc

not_broken : (rule : ℕ) → Broken rule ≡ Taken → ⊥
not_broken rule h = cc

not_copied : (name : List ℕ) → Copies name ≡ Taken → ⊥
not_copied name h = cc

pub copy_not_taken : (deeper : ℕ) (label : List ℕ) (file : Option (List ℕ)) → copy_verdict deeper label file ≡ Taken → ⊥
copy_not_taken deeper label None h = not_broken 4 h
copy_not_taken deeper label (Some name) h =
    not_copied name
    (past (eqb deeper 0) (Broken 6) (Copies name) (not_broken 6)
    (past (not (is_label label)) (Broken 5) (cond (eqb deeper 0) (Broken 6) (Copies name)) (not_broken 5) h).1).1

some_reads : (title end fits : Bool) → title ≡ false → (not title && not end && not fits) ≡ false → (end || fits) ≡ true
some_reads true end fits t h = absurd (cc)
some_reads false true fits t h = refl
some_reads false false true t h = refl
some_reads false false false t h = absurd (cc)

-- what holds of the fields of such a card
pub record AreGood (f : Fields) : Type 0 where
  pub operation : is_macro f.operation ≡ true
  pub not_copy : is_word f.operation (codes "COPY") ≡ false
  pub not_title : is_word f.operation (codes "TITLE") ≡ false
  pub operands : (is_word f.operation (codes "END") || has_operands f.operands) ≡ true
  pub label : is_label f.label ≡ true

good_fields : (deeper : ℕ) (f : Fields) → verdict_of_fields deeper f ≡ Taken → AreGood f
good_fields deeper f h =
    let title = is_word f.operation (codes "TITLE") in
    let end = is_word f.operation (codes "END") in
    let fits = has_operands f.operands in
    let a = past (not (is_macro f.operation)) (Broken 3) _ (not_broken 3) h in
    let b = past (is_word f.operation (codes "COPY")) (copy_verdict deeper f.label (copied_file f.operands)) (other_verdict f fits) (copy_not_taken deeper f.label (copied_file f.operands)) a.1 in
    let c = past (not title && not end && not fits) (Broken 4) _ (not_broken 4) b.1 in
    let d = past (not (is_label f.label)) (Broken 5) _ (not_broken 5) c.1 in
    let e = past title Skipped Taken not_skipped d.1 in
    record {
      operation = is_true (is_macro f.operation) a.0;
      not_copy = b.0;
      not_title = e.0;
      operands = some_reads title end fits e.0 c.0;
      label = is_true (is_label f.label) d.0;
    }

pub good_card : (deeper number : ℕ) (text : List ℕ) → verdict deeper text ≡ Taken → IsGood (card_at number text)
unfolding verdict
good_card deeper number text h =
    let a = past (is_comment text) Skipped _ not_skipped h in
    let b = past (nat_lt 256 (length text)) (Broken 1) _ (not_broken 1) a.1 in
    let c = past (not (list_all is_card_byte text)) (Broken 2) _ (not_broken 2) b.1 in
    let f = good_fields deeper (fields_of text) c.1 in
    record { operation = f.operation; not_copy = f.not_copy; not_title = f.not_title; operands = f.operands; label = f.label }

-- the text of such a card is short
short_text : (n : ℕ) → nat_lt 256 n ≡ false → n ≤ 256
short_text n h = grind (arith, nat_tests)

pub short_card : (deeper number : ℕ) (text : List ℕ) → verdict deeper text ≡ Taken → IsShort (card_at number text)
unfolding verdict
short_card deeper number text h =
    let a = past (is_comment text) Skipped _ not_skipped h in
    let b = past (nat_lt 256 (length text)) (Broken 1) _ (not_broken 1) a.1 in
    omega (arith, short_text (length text) b.0, operands_within text)

-- ---- END

at_most : (n m : ℕ) → nat_le n m ≡ true → nat_lt m n ≡ false
at_most n m h = grind (arith, nat_tests)

-- how a card is END
pub record IsEndText (text : List ℕ) : Type 0 where
  pub card : is_comment text ≡ false
  pub short : nat_lt 256 (length text) ≡ false
  pub bytes : list_all is_card_byte text ≡ true
  pub word : is_word (fields_of text).operation (codes "END") ≡ true

is_false : (b : Bool) → not b ≡ true → b ≡ false
is_false true h = absurd (cc)
is_false false h = refl

end_text : (text : List ℕ) → is_end text ≡ true → IsEndText text
unfolding is_end
end_text text h =
    let a = both (not (is_comment text) && nat_le (length text) 256 && list_all is_card_byte text) (is_word (fields_of text).operation (codes "END")) h in
    let b = both (not (is_comment text) && nat_le (length text) 256) (list_all is_card_byte text) a.0 in
    let d = both (not (is_comment text)) (nat_le (length text) 256) b.0 in
    record { card = is_false (is_comment text) d.0; short = at_most (length text) 256 d.1; bytes = b.1; word = a.1 }

unbroken : (b : Bool) (rule n : ℕ) (w : Verdict) → given_faults n (cond b (Broken rule) w) ≡ [] → (b ≡ false) × (given_faults n w ≡ [])
unbroken true rule n w h = absurd (cc)
unbroken false rule n w h = (refl, h)

end_fields : (deeper number : ℕ) (f : Fields) → is_word f.operation (codes "END") ≡ true → given_faults number (verdict_of_fields deeper f) ≡ [] → verdict_of_fields deeper f ≡ Taken
end_fields deeper number f end h =
    let op = (bytes_eq-Decides f.operation (codes "END")).0 end in
    let copy : is_word f.operation (codes "COPY") ≡ false = rw op refl in
    let title : is_word f.operation (codes "TITLE") ≡ false = rw op refl in
    let fits = has_operands f.operands in
    let rest = other_verdict f fits in
    let a = unbroken (not (is_macro f.operation)) 3 number (cond (is_word f.operation (codes "COPY")) (copy_verdict deeper f.label (copied_file f.operands)) rest) h in
    let b : given_faults number rest ≡ [] = rw copy at a.1 in
    let c = unbroken (not (is_word f.operation (codes "TITLE")) && not (is_word f.operation (codes "END")) && not fits) 4 number (cond (not (is_label f.label)) (Broken 5) (cond (is_word f.operation (codes "TITLE")) Skipped Taken)) b in
    let d = unbroken (not (is_label f.label)) 5 number (cond (is_word f.operation (codes "TITLE")) Skipped Taken) c.1 in
    rw (a.0, copy, c.0, d.0, title) refl

pub end_taken : (deeper number : ℕ) (text : List ℕ) → is_end text ≡ true → given_faults number (verdict deeper text) ≡ [] → verdict deeper text ≡ Taken
unfolding verdict
end_taken deeper number text end h =
    let e = end_text text end in
    let same : verdict deeper text ≡ verdict_of_fields deeper (fields_of text) = rw (e.card, e.short, e.bytes) refl in
    let clean : given_faults number (verdict_of_fields deeper (fields_of text)) ≡ [] = rw same at h in
    rw same (end_fields deeper number (fields_of text) e.word clean)

sound : (a b c w : Bool) → a ≡ false → b ≡ true → c ≡ true → (not a && b && c && w) ≡ false → w ≡ false
sound a b c w ha hb hc h = grind arith

at_most_256 : (n : ℕ) → nat_lt 256 n ≡ false → nat_le n 256 ≡ true
at_most_256 n h = grind (arith, nat_tests)

-- a card that is taken and isn't END
pub not_end : (deeper : ℕ) (text : List ℕ) → verdict deeper text ≡ Taken → is_end text ≡ false → is_word (fields_of text).operation (codes "END") ≡ false
unfolding verdict is_end
not_end deeper text h end =
    let a = past (is_comment text) Skipped _ not_skipped h in
    let b = past (nat_lt 256 (length text)) (Broken 1) _ (not_broken 1) a.1 in
    let c = past (not (list_all is_card_byte text)) (Broken 2) _ (not_broken 2) b.1 in
    sound (is_comment text) (nat_le (length text) 256) (list_all is_card_byte text) (is_word (fields_of text).operation (codes "END")) a.0 (at_most_256 (length text) b.0) (is_true (list_all is_card_byte text) c.0) end

-- ---- one more card

rise_push : (xs : List ℕ) (low y : ℕ) → All (λ n. n ≤ low) xs → low < y → IsStrictlyIncreasing xs → IsStrictlyIncreasing (xs ++ y ∷ [])
rise_push xs low y numbers above rise k h =
    ⊎_elim
    (λ (below : k + 1 < length xs).
    let first : k < length xs = omega arith in
    rw (get_or_append_left xs (y ∷ []) 0 k first, get_or_append_left xs (y ∷ []) 0 (k + 1) below) (rise k below))
    (λ (past : length xs ≤ k + 1).
    let last : k + 1 ≡ length xs = omega (arith, length_push xs y) in
    let first : k < length xs = omega arith in
    let small : get_or xs k 0 ≤ low = All-get_or (λ n. n ≤ low) xs k 0 first numbers in
    rw (get_or_append_left xs (y ∷ []) 0 k first, last, get_or-append_seam xs y [] 0) (omega arith))
    (cases_lt (k + 1) (length xs))

-- what the fields of a card take of a line with so many bytes
pub record Takes (card : CardParts) (size : ℕ) : Type 0 where
  pub short : IsShort card
  pub within : length card.operands ≤ size

taken_fields : (deeper number size : ℕ) (text : List ℕ) → verdict deeper text ≡ Taken → length text ≤ size → Takes (card_at number text) size
taken_fields deeper number size text h within =
    record { short = short_card deeper number text h; within = omega (arith, operands_within text, within) }

more_bytes : (cards : List CardParts) (card : CardParts) (size more : ℕ) → field_bytes cards ≤ size → length card.operands ≤ more → field_bytes (cards ++ card ∷ []) ≤ size + more
more_bytes cards card size more h within = omega (arith, sum_by_push (λ (c : CardParts). length c.operands) cards card)

pub first_more : (cards : List CardParts) (number size more : ℕ) (card : CardParts) → AreFirst cards number size → card.number ≡ number + 1 → IsGood card → Takes card more → is_word card.operation (codes "END") ≡ false → AreFirst (cards ++ card ∷ []) (number + 1) (size + more)
first_more cards number size more card h e good takes no_end =
    let above : number < card.number = omega arith in
    let map_is : numbers_of (cards ++ card ∷ []) ≡ numbers_of cards ++ card.number ∷ [] = map-append (λ (c : CardParts). c.number) cards (card ∷ []) in
    let last : card.number ≤ number + 1 = omega arith in
    let below : All (λ n. n ≤ number + 1) (numbers_of cards) = λ k d less. omega (arith, h.numbers k d less) in
    record {
      good = All-push IsGood cards card h.good good;
      no_end = All-push (λ card. is_word card.operation (codes "END") ≡ false) cards card h.no_end no_end;
      rise = rw map_is (rise_push (numbers_of cards) number card.number h.numbers above h.rise);
      numbers = rw map_is (All-push (λ n. n ≤ number + 1) (numbers_of cards) card.number below last);
      few = omega (arith, length_push cards card, h.few);
      short = All-push IsShort cards card h.short takes.short;
      bytes = more_bytes cards card size more h.bytes takes.within;
    }

first_same : (cards : List CardParts) (number size more : ℕ) → AreFirst cards number size → AreFirst (cards ++ []) (number + 1) (size + more)
first_same cards number size more h =
    let below : All (λ n. n ≤ number + 1) (numbers_of cards) = λ k d less. omega (arith, h.numbers k d less) in
    let same = append-nil cards in
    rw same record { good = h.good; no_end = h.no_end; rise = h.rise; numbers = below; few = omega (arith, h.few); short = h.short; bytes = omega (arith, h.bytes) }

first_given : (deeper : ℕ) (cards : List CardParts) (number size more : ℕ) (text : List ℕ) (v : Verdict) → AreFirst cards number size → length text ≤ more → v ≡ verdict deeper text → is_end text ≡ false → AreFirst (cards ++ given_cards (number + 1) text v) (number + 1) (size + more)
first_given deeper cards number size more text Skipped h within e end = first_same cards number size more h
first_given deeper cards number size more text (Broken rule) h within e end = first_same cards number size more h
first_given deeper cards number size more text (Copies name) h within e end = first_same cards number size more h
first_given deeper cards number size more text Taken h within e end =
    first_more cards number size more (card_at (number + 1) text) h refl (good_card deeper (number + 1) text (sym e)) (taken_fields deeper (number + 1) more text (sym e) within) (not_end deeper text (sym e) end)

ends_push : (cards : List CardParts) (card : CardParts) → All (λ card. is_word card.operation (codes "END") ≡ false) cards → IsEnd card → EndsOnce (cards ++ card ∷ [])
ends_push [] card h end = end
ends_push (first ∷ []) card h end = (All-head (λ card. is_word card.operation (codes "END") ≡ false) first [] h, end)
ends_push (first ∷ next ∷ cards) card h end =
    (All-head (λ card. is_word card.operation (codes "END") ≡ false) first (next ∷ cards) h, ends_push (next ∷ cards) card (All-tail (λ card. is_word card.operation (codes "END") ≡ false) first (next ∷ cards) h) end)

pub cards_end : (cards : List CardParts) (number size more : ℕ) (card : CardParts) → AreFirst cards number size → card.number ≡ number + 1 → IsGood card → Takes card more → size + more ≤ 2097152 → IsEnd card → AreCards (cards ++ card ∷ [])
cards_end cards number size more card h e good takes most end =
    let above : number < card.number = omega arith in
    let map_is : numbers_of (cards ++ card ∷ []) ≡ numbers_of cards ++ card.number ∷ [] = map-append (λ (c : CardParts). c.number) cards (card ∷ []) in
    record {
      good = All-push IsGood cards card h.good good;
      ends = ends_push cards card h.no_end end;
      rise = rw map_is (rise_push (numbers_of cards) number card.number h.numbers above h.rise);
      short = All-push IsShort cards card h.short takes.short;
      bytes = omega (arith, more_bytes cards card size more h.bytes takes.within, most);
    }

-- ---- one more line

within_limits : (count bytes : ℕ) → is_full count bytes ≡ false → (count ≤ 40000) × (bytes ≤ 2097152)
within_limits count bytes h = (grind (arith, nat_tests), grind (arith, nat_tests))

pub keeps_going : (v : Verdict) (r : Reader) → IsGoing r → StepKeeps (step_of v) r
keeps_going Skipped r h = h
keeps_going (Broken rule) r h = h
keeps_going (Copies name) r h = h
keeps_going Taken r h = h

-- what a line of so many bytes gives, from r to s
pub record Gives (r s : Reader) (deeper size : ℕ) (text : List ℕ) (v : Verdict) : Type 0 where
  pub within : length text ≤ size
  pub verdict : v ≡ limited (is_full s.number s.bytes) (verdict deeper text)
  pub number : s.number ≡ r.number + 1
  pub bytes : s.bytes ≡ r.bytes + size
  pub cards : s.cards.items ≡ r.cards.items ++ given_cards (r.number + 1) text v
  pub faults : s.faults.items ≡ r.faults.items ++ given_faults (r.number + 1) v

pub going_line : (r s : Reader) (deeper size : ℕ) (text : List ℕ) (v : Verdict) → IsGoing r → Gives r s deeper size text v → is_full s.number s.bytes ≡ false → is_end text ≡ false → IsGoing s
going_line r s deeper size text v h g full end =
    let same : v ≡ verdict deeper text = rw full at g.verdict in
    let within = within_limits s.number s.bytes full in
    record {
      first = rw (g.cards, g.number, g.bytes) (first_given deeper r.cards.items r.number r.bytes size text v h.first g.within same end);
      cards_left = within.0;
      bytes_left = within.1;
    }

append_empty : {A : Type 0} (xs ys : List A) → xs ++ ys ≡ [] → ys ≡ []
append_empty [] ys h = h
append_empty (x ∷ xs) ys h = absurd (cc)

given_few : (n : ℕ) (text : List ℕ) (v : Verdict) → length (given_cards n text v) ≤ 1
given_few n text Skipped = omega arith
given_few n text (Broken rule) = omega arith
given_few n text (Copies name) = omega arith
given_few n text Taken = omega arith

full_breaks : (n : ℕ) (v : Verdict) → given_faults n (limited true v) ≡ [] → ⊥
full_breaks n Skipped h = cc
full_breaks n (Broken rule) h = cc
full_breaks n (Copies name) h = cc
full_breaks n Taken h = cc

full_gives : (n : ℕ) (text : List ℕ) (v : Verdict) → given_cards n text (limited true v) ≡ []
full_gives n text Skipped = refl
full_gives n text (Broken rule) = refl
full_gives n text (Copies name) = refl
full_gives n text Taken = refl

ends_full : (r s : Reader) (deeper size : ℕ) (text : List ℕ) (v : Verdict) → IsGoing r → Gives r s deeper size text v → is_full s.number s.bytes ≡ true → HasEnded s
ends_full r s deeper size text v h g full =
    let same : v ≡ limited true (verdict deeper text) = rw full at g.verdict in
    let none : s.cards.items ≡ r.cards.items = g.cards ∙ rw (same, full_gives (r.number + 1) text (verdict deeper text)) (append-nil r.cards.items) in
    let few : length r.cards.items ≤ 40000 = omega (arith, h.first.few, h.cards_left) in
    record {
      cards = λ clean.
          let empty : r.faults.items ++ given_faults (r.number + 1) v ≡ [] = sym g.faults ∙ clean in
          let given : given_faults (r.number + 1) v ≡ [] = append_empty r.faults.items (given_faults (r.number + 1) v) empty in
          absurd (full_breaks (r.number + 1) (verdict deeper text) (rw same at given));
      few = rw none few;
    }

ends_clean : (r s : Reader) (deeper size : ℕ) (text : List ℕ) (v : Verdict) → IsGoing r → Gives r s deeper size text v → is_full s.number s.bytes ≡ false → is_end text ≡ true → HasEnded s
ends_clean r s deeper size text v h g full end =
    let same : v ≡ verdict deeper text = rw full at g.verdict in
    let within = within_limits s.number s.bytes full in
    let one = given_few (r.number + 1) text v in
    let most : length (r.cards.items ++ given_cards (r.number + 1) text v) ≤ 40000 =
    simp length-append (omega (arith, one, h.first.few, within.0, g.number)) in
    record {
      cards = λ clean.
          let empty : r.faults.items ++ given_faults (r.number + 1) v ≡ [] = sym g.faults ∙ clean in
          let given : given_faults (r.number + 1) v ≡ [] = append_empty r.faults.items (given_faults (r.number + 1) v) empty in
          let taken : verdict deeper text ≡ Taken = end_taken deeper (r.number + 1) text end (rw same at given) in
          let card = card_at (r.number + 1) text in
          let word : IsEnd card = (end_text text end).word in
          let takes : Takes card size = taken_fields deeper (r.number + 1) size text taken g.within in
          let most : r.bytes + size ≤ 2097152 = omega (arith, g.bytes, within.1) in
          rw (g.cards, same, taken) (cards_end r.cards.items r.number r.bytes size card h.first refl (good_card deeper (r.number + 1) text taken) takes most word);
      few = rw g.cards most;
    }

ends_either : (full end : Bool) → (full || end) ≡ true → (full ≡ true) ⊎ ((full ≡ false) × (end ≡ true))
ends_either true end h = inl refl
ends_either false end h = inr (refl, h)

pub ends_line : (r s : Reader) (deeper size : ℕ) (text : List ℕ) (v : Verdict) → IsGoing r → Gives r s deeper size text v → (is_full s.number s.bytes || is_end text) ≡ true → HasEnded s
ends_line r s deeper size text v h g last =
    ⊎_elim
    (λ full. ends_full r s deeper size text v h g full)
    (λ end. ends_clean r s deeper size text v h g end.0 end.1)
    (ends_either (is_full s.number s.bytes) (is_end text) last)

pub goes_either : (full end : Bool) → (full || end) ≡ false → (full ≡ false) × (end ≡ false)
goes_either true end h = absurd (cc)
goes_either false end h = (refl, h)

pub goes_line : (r s : Reader) (deeper size : ℕ) (text : List ℕ) (v : Verdict) → IsGoing r → Gives r s deeper size text v → (is_full s.number s.bytes || is_end text) ≡ false → StepKeeps (step_of v) s
goes_line r s deeper size text v h g last =
    let not_last = goes_either (is_full s.number s.bytes) (is_end text) last in
    keeps_going v s (going_line r s deeper size text v h g not_last.0 not_last.1)

-- ---- cards that are taken

-- what is taken within the limits is taken by the rules of a card alone
pub taken_within : (full : Bool) (v : Verdict) → limited full v ≡ Taken → v ≡ Taken
taken_within true Skipped h = absurd (cc)
taken_within true (Broken rule) h = absurd (cc)
taken_within true (Copies name) h = absurd (cc)
taken_within true Taken h = absurd (cc)
taken_within false v h = h
