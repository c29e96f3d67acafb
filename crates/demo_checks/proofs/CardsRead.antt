-- The source of a demo is read card by card.
use Rattle.std.proofs.Common.{◌≡◌, ℕ, zero, suc, ◌+◌, ◌*◌, ◌<◌, ◌≤◌, true, false, List, [], ◌∷◌, ◌++◌, length, Some, None, refl, sym, ap, subst, ◌∙◌, arith, append_assoc, length-append}
use Rattle.std.specs.Prelude.{nat_le, codes}
use Rattle.std.specs.declared.result.Result.TheVariants.{Ok}
use Rattle.std.specs.FinMap.{get}
use Rattle.std.proofs.lemmas.Bool.Decides.{nat_tests}
use Rattle.std.proofs.lemmas.List.{length_push}
use Rattle.sil_base.specs.Files.{Files}
use Rattle.sil_base.specs.Lines.{lines_of}
use Rattle.sil_base.specs.Names.{is_word}
use Rattle.sil_cards.specs.CardParts.{CardParts}
use Rattle.sil_cards.specs.CardFields.{Fields}
use Rattle.sil_cards.specs.CardVerdicts.{is_end}
use Rattle.sil_cards.specs.Cards.{card_at}
use Rattle.sil_cards.specs.Reads.{Read, ReadLine, lines_read, file_read}
use Rattle.sil_cards.specs.Readings.{Reading, reading, reading_of, is_full, cards_of}
use Rattle.demo_source.specs.DemoSource.{next_of, demo_card, demo_cards, demo_tail, demo_source}
use Rattle.demo_checks.specs.DemoCards.{card_after, tail_cards, cards_after, cards_of_demo}
use Rattle.demo_checks.proofs.Cuts.{first_line, text_of_line}
use Rattle.demo_checks.proofs.CardTexts.{LawOfReading, IsLine, taken, not_end, number_text, number_fields, number_line, number_goes_on, number_card_text}
use Rattle.demo_checks.proofs.TailTexts.{output_line, endex_line, x_line, y_line, z_line, u_line, f_line, end_line, ends, fields_as}

-- ---- one line

-- a reading without a fault that comes to these cards
abbrev plain : List CardParts → Reading
plain cards = record { loads = []; refused = None; cards = cards; faults = [] }

not_full : (count bytes : ℕ) → count < 40000 → bytes ≤ 2097152 → is_full (count + 1) bytes ≡ false
not_full count bytes h g = grind (arith, nat_tests)

abbrev line : List ℕ → List ℕ
line text = text ++ 10 ∷ []

room_after : (count bytes : ℕ) (text : List ℕ) → length text ≤ 20 → count ≤ 16007 → bytes ≤ 21 * count → bytes + length (line text) ≤ 21 * (count + 1)
room_after count bytes text short few h = omega (arith, length_push text 10)

full_by : (count bytes : ℕ) (text : List ℕ) → length text ≤ 20 → count ≤ 16007 → bytes ≤ 21 * count → is_full (count + 1) (bytes + length (line text)) ≡ false
full_by count bytes text short few h = not_full count (bytes + length (line text)) (omega arith) (omega (arith, room_after count bytes text short few h))

card_is : (count : ℕ) (text : List ℕ) (f : Fields) → IsLine text f → card_at (count + 1) text ≡ card_after count f.label f.operation f.operands
card_is count text f is = rw is.fields refl

-- a line that goes on
goes_on : (count bytes : ℕ) (text : List ℕ) (f : Fields) (reads : List Read) (cards : List CardParts) → IsLine text f → is_word f.operation (codes "END") ≡ false → count ≤ 16007 → bytes ≤ 21 * count
    → reading (count + 1) (bytes + length (line text)) reads ≡ plain cards
    → reading count bytes (ReadLine 8 (line text) ∷ reads) ≡ plain (card_after count f.label f.operation f.operands ∷ cards)
goes_on count bytes text f reads cards is other few room rest =
    rw (text_of_line text is.bytes, full_by count bytes text is.short few room, taken text f is, not_end text f is other, rest, card_is count text f is) refl

-- the line of END
stops : (count bytes : ℕ) (text : List ℕ) (f : Fields) (reads : List Read) → IsLine text f → is_end text ≡ true → count ≤ 16007 → bytes ≤ 21 * count
    → reading count bytes (ReadLine 8 (line text) ∷ reads) ≡ plain (card_after count f.label f.operation f.operands ∷ [])
stops count bytes text f reads is last few room =
    rw (text_of_line text is.bytes, full_by count bytes text is.short few room, taken text f is, last, card_is count text f is) refl

-- ---- lines one after another

-- what is read of a line that copies nothing
read_first : (copy : List ℕ → List Read) (text : List ℕ) (f : Fields) (lines : List (List ℕ)) → IsLine text f → lines_read copy 8 (line text ∷ lines) ≡ ReadLine 8 (line text) ∷ lines_read copy 8 lines
read_first copy text f lines is = rw (text_of_line text is.bytes, taken text f is) refl

-- cards that are read of lines, from so many cards and bytes on
record ReadAs (copy : List ℕ → List Read) (count bytes : ℕ) (lines : List (List ℕ)) (cards : List CardParts) : Type 0 where
  read : reading count bytes (lines_read copy 8 lines) ≡ plain cards

more : (copy : List ℕ → List Read) (count bytes : ℕ) (text : List ℕ) (f : Fields) (lines : List (List ℕ)) (cards : List CardParts) → IsLine text f → is_word f.operation (codes "END") ≡ false → count ≤ 16006 → bytes ≤ 21 * count
    → ((b : ℕ) → b ≤ 21 * (count + 1) → ReadAs copy (count + 1) b lines cards)
    → ReadAs copy count bytes (line text ∷ lines) (card_after count f.label f.operation f.operands ∷ cards)
more copy count bytes text f lines cards is other few room rest = record {
  read = subst (λ reads. reading count bytes reads ≡ plain (card_after count f.label f.operation f.operands ∷ cards)) (sym (read_first copy text f lines is))
      (goes_on count bytes text f (lines_read copy 8 lines) cards is other (omega arith) room
      (rest (bytes + length (line text)) (room_after count bytes text is.short (omega arith) room)).read);
}

last : (copy : List ℕ → List Read) (count bytes : ℕ) → count ≤ 16007 → bytes ≤ 21 * count → ReadAs copy count bytes (line (codes " END") ∷ []) (card_after count [] (codes "END") [] ∷ [])
last copy count bytes few room = record {
  read = subst (λ reads. reading count bytes reads ≡ plain (card_after count [] (codes "END") [] ∷ [])) (sym (read_first copy (codes " END") (fields_as [] (codes "END") []) [] end_line))
      (stops count bytes (codes " END") (fields_as [] (codes "END") []) [] end_line ends few room);
}

abbrev tail_lines : List (List ℕ)
tail_lines =
    line (codes " OUTPUT U,F,(X)")
    ∷ line (codes " ENDEX Z")
    ∷ line (codes "X DESCR")
    ∷ line (codes "Y DESCR")
    ∷ line (codes "Z DESCR")
    ∷ line (codes "U DESCR UNITO")
    ∷ line (codes "F FORMAT '(I20)'")
    ∷ line (codes " END")
    ∷ []

tail_read : (copy : List ℕ → List Read) (count bytes : ℕ) → count ≤ 16000 → bytes ≤ 21 * count → ReadAs copy count bytes tail_lines (tail_cards count)
tail_read copy count bytes few room =
    more copy _ _ (codes " OUTPUT U,F,(X)") _ _ _ output_line refl (omega arith) room (λ a ha.
    more copy _ _ (codes " ENDEX Z") _ _ _ endex_line refl (omega arith) ha (λ b hb.
    more copy _ _ (codes "X DESCR") _ _ _ x_line refl (omega arith) hb (λ c hc.
    more copy _ _ (codes "Y DESCR") _ _ _ y_line refl (omega arith) hc (λ d hd.
    more copy _ _ (codes "Z DESCR") _ _ _ z_line refl (omega arith) hd (λ e he.
    more copy _ _ (codes "U DESCR UNITO") _ _ _ u_line refl (omega arith) he (λ f hf.
    more copy _ _ (codes "F FORMAT '(I20)'") _ _ _ f_line refl (omega arith) hf (λ g hg.
    last copy _ _ (omega arith) hg)))))))

cut_card : (law : LawOfReading) (x : ℕ) (rest : List ℕ) → lines_of (demo_card x ++ rest) ≡ line (number_text x) ∷ lines_of rest
cut_card law x rest =
    rw (number_card_text x, append_assoc (number_text x) (10 ∷ []) rest) (first_line (number_text x) rest (number_line law x).bytes)

cards_read : (law : LawOfReading) (copy : List ℕ → List Read) (n count bytes x : ℕ) → count + n ≤ 16000 → bytes ≤ 21 * count → ReadAs copy count bytes (lines_of (demo_cards n x ++ demo_tail)) (cards_after count n x)
cards_read law copy zero count bytes x few room = tail_read copy count bytes (omega arith) room
cards_read law copy (suc n) count bytes x few room =
    let cut : lines_of ((demo_card (next_of x) ++ demo_cards n (next_of x)) ++ demo_tail) ≡ line (number_text (next_of x)) ∷ lines_of (demo_cards n (next_of x) ++ demo_tail) =
    ap lines_of (append_assoc (demo_card (next_of x)) (demo_cards n (next_of x)) demo_tail) ∙ cut_card law (next_of x) (demo_cards n (next_of x) ++ demo_tail) in
    subst (λ lines. ReadAs copy count bytes lines (cards_after count (suc n) x)) (sym cut)
    (more copy count bytes (number_text (next_of x)) (number_fields (next_of x)) (lines_of (demo_cards n (next_of x) ++ demo_tail)) (cards_after (count + 1) n (next_of x))
    (number_line law (next_of x)) (number_goes_on (next_of x)) (omega arith) room
    (λ b h. cards_read law copy n (count + 1) b (next_of x) (omega arith) h))

-- ---- the whole source

card_size : (law : LawOfReading) (x : ℕ) → length (demo_card x) ≤ 21
card_size law x = rw (number_card_text x) (omega (arith, length_push (number_text x) 10, (number_line law x).short))

cards_size : (law : LawOfReading) (n x : ℕ) → length (demo_cards n x) ≤ 21 * n
cards_size law zero x = omega arith
cards_size law (suc n) x = omega (arith, length-append (demo_card (next_of x)) (demo_cards n (next_of x)), card_size law (next_of x), cards_size law n (next_of x))

source_size : (law : LawOfReading) (n seed : ℕ) → n ≤ 16000 → nat_le (length (demo_source n seed)) 2097152 ≡ true
source_size law n seed few =
    let whole : length (demo_source n seed) ≤ 2097152 = omega (arith, length-append (demo_cards n seed) demo_tail, cards_size law n seed) in
    grind (arith, nat_tests)

whole_read : (law : LawOfReading) (files : Files) (name : List ℕ) (n seed : ℕ) → n ≤ 16000 → get files name ≡ Some (demo_source n seed) → reading_of files name ≡ record { loads = name ∷ []; refused = None; cards = cards_of_demo n seed; faults = [] }
unfolding reading_of
whole_read law files name n seed few held =
    rw (held, source_size law n seed few, (cards_read law (file_read files 8) n 0 0 seed (omega arith) (omega arith)).read) refl

pub demo_cards_of : (law : LawOfReading) (files : Files) (name : List ℕ) (n seed : ℕ) → n ≤ 16000 → get files name ≡ Some (demo_source n seed) → cards_of files name ≡ Ok (cards_of_demo n seed)
demo_cards_of law files name n seed few held = rw (whole_read law files name n seed few held) refl
