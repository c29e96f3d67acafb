-- What is read, one line and one copied file after another.
use Rattle.std.proofs.Common.{◌≡◌, ℕ, ◌-◌, ◌≤◌, Bool, true, false, cond, not, suc, eqb, List, [], ◌∷◌, ◌++◌, length, Some, None, Option, refl, ap, sym, ◌∙◌, arith, codes, ◌&&◌}
use Rattle.std.specs.Prelude.{nat_lt, IfSome}
use Rattle.std.specs.List.{list_all}
use Rattle.std.proofs.lemmas.Bool.Decides.{nat_tests}
use Rattle.std.proofs.lemmas.List.{append_assoc, append-nil}
use Rattle.sil_base.specs.Files.{Files}
use Rattle.sil_cards.proofs.Booleans.{is_true}
use Rattle.sil_cards.specs.declared.reader.Reader.{Reader}
use Rattle.sil_cards.specs.declared.verdict.Verdict.{Verdict}
use Rattle.sil_cards.specs.declared.verdict.Verdict.TheVariants.{Skipped, Broken, Copies, Taken}
use Rattle.sil_cards.specs.CardFields.{Fields, fields_of, is_comment}
use Rattle.sil_base.specs.Lines.{lines_of, without_end}
use Rattle.sil_cards.specs.Reads.{Read, ReadLine, lines_read, file_read}
use Rattle.sil_cards.specs.Readings.{reading_of, cards_of}
use Rattle.sil_cards.specs.CardSteps.{Answer, going_on, step_of, StepCopies}
use Rattle.sil_cards.proofs.AsciiLemmas.{file_ascii}
use Rattle.sil_base.specs.Names.{is_word}
use Rattle.sil_cards.specs.CardVerdicts.{is_card_byte, is_label, is_macro, has_operands, copied_file, copy_verdict, other_verdict, verdict}

-- ---- a COPY that is followed

pub line_copies : (copy : List ℕ → List Read) (deeper : ℕ) (line : List ℕ) (lines : List (List ℕ)) (name : List ℕ) (rest : List Read) → verdict deeper (without_end line) ≡ Copies name → lines_read copy deeper (line ∷ lines) ++ rest ≡ ReadLine deeper line ∷ (copy name ++ (lines_read copy deeper lines ++ rest))
line_copies copy deeper line lines name rest h =
    rw h (ap (λ reads. ReadLine deeper line ∷ reads) (append_assoc (copy name) (lines_read copy deeper lines) rest))

pub after_copy : (files : Files) (r s : Reader) (deeper : ℕ) (text line more name : List ℕ) (rest : List Read) (whole : Answer) → whole ≡ going_on r (lines_read (file_read files deeper) deeper (lines_of text) ++ rest) → lines_of text ≡ line ∷ lines_of more → verdict deeper (without_end line) ≡ Copies name → ((next : List Read) → going_on r (ReadLine deeper line ∷ next) ≡ going_on s next) → whole ≡ going_on s (file_read files deeper name ++ (lines_read (file_read files deeper) deeper (lines_of more) ++ rest))
after_copy files r s deeper text line more name rest whole h cut copies step =
    h
    ∙ ap (λ lines. going_on r (lines_read (file_read files deeper) deeper lines ++ rest)) cut
    ∙ ap (going_on r) (line_copies (file_read files deeper) deeper line (lines_of more) name rest copies)
    ∙ step (file_read files deeper name ++ (lines_read (file_read files deeper) deeper (lines_of more) ++ rest))

-- the levels of a file that is copied
pub levels : (deeper : ℕ) → 1 ≤ deeper → suc (deeper - 1) ≡ deeper
levels deeper h = omega arith

pub after_copied : (files : Files) (r s : Reader) (deeper : ℕ) (text line more name : List ℕ) (rest : List Read) (whole : Answer) → 1 ≤ deeper → whole ≡ going_on r (lines_read (file_read files deeper) deeper (lines_of text) ++ rest) → lines_of text ≡ line ∷ lines_of more → verdict deeper (without_end line) ≡ Copies name → ((next : List Read) → going_on r (ReadLine deeper line ∷ next) ≡ going_on s next) → whole ≡ going_on s (file_read files (suc (deeper - 1)) name ++ (lines_read (file_read files deeper) deeper (lines_of more) ++ rest))
after_copied files r s deeper text line more name rest whole some h cut copies step =
    after_copy files r s deeper text line more name rest whole h cut copies step
    ∙ ap (λ n. going_on s (file_read files n name ++ (lines_read (file_read files deeper) deeper (lines_of more) ++ rest))) (sym (levels deeper some))

-- ---- how deep files may be

past : (b : Bool) (v w : Verdict) (x : List ℕ) → (v ≡ Copies x → ⊥) → cond b v w ≡ Copies x → (b ≡ false) × (w ≡ Copies x)
past true v w x never h = absurd (never h)
past false v w x never h = (refl, h)

not_skipped : (x : List ℕ) → Skipped ≡ Copies x → ⊥
not_skipped x h = cc

not_broken : (rule : ℕ) (x : List ℕ) → Broken rule ≡ Copies x → ⊥
not_broken rule x h = cc

not_taken : (x : List ℕ) → Taken ≡ Copies x → ⊥
not_taken x h = cc

copies_name : (x y : List ℕ) → Copies x ≡ Copies y → x ≡ y
copies_name x y h = cc

-- how a card is a COPY that is followed
pub record CopiesFile (deeper : ℕ) (field : List ℕ) (name : List ℕ) : Type 0 where
  pub some_deeper : 1 ≤ deeper
  pub file : copied_file field ≡ Some name

copy_copies : (deeper : ℕ) (label field : List ℕ) (file : Option (List ℕ)) (name : List ℕ) → copied_file field ≡ file → copy_verdict deeper label file ≡ Copies name → CopiesFile deeper field name
copy_copies deeper label field None name e h = absurd (not_broken 4 name h)
copy_copies deeper label field (Some other) name e h =
    let a = past (not (is_label label)) (Broken 5) (cond (eqb deeper 0) (Broken 6) (Copies other)) name (not_broken 5 name) h in
    let b = past (eqb deeper 0) (Broken 6) (Copies other) name (not_broken 6 name) a.1 in
    record { some_deeper = grind (arith, nat_tests); file = e ∙ ap Some (copies_name other name b.1) }

title_or_taken : (b : Bool) (x : List ℕ) → cond b Skipped Taken ≡ Copies x → ⊥
title_or_taken true x h = not_skipped x h
title_or_taken false x h = not_taken x h

other_never : (f : Fields) (fits : Bool) (x : List ℕ) → other_verdict f fits ≡ Copies x → ⊥
other_never f fits x h =
    let title = is_word f.operation (codes "TITLE") in
    let a = past (not title && not (is_word f.operation (codes "END")) && not fits) (Broken 4) _ x (not_broken 4 x) h in
    let b = past (not (is_label f.label)) (Broken 5) (cond title Skipped Taken) x (not_broken 5 x) a.1 in
    title_or_taken title x b.1

copy_or : (b : Bool) (deeper : ℕ) (f : Fields) (x : List ℕ) → cond b (copy_verdict deeper f.label (copied_file f.operands)) (other_verdict f (has_operands f.operands)) ≡ Copies x → CopiesFile deeper f.operands x
copy_or true deeper f x h = copy_copies deeper f.label f.operands (copied_file f.operands) x refl h
copy_or false deeper f x h = absurd (other_never f (has_operands f.operands) x h)

pub record CopiesText (deeper : ℕ) (text : List ℕ) (name : List ℕ) : Type 0 where
  pub some_deeper : 1 ≤ deeper
  pub bytes : list_all is_card_byte text ≡ true
  pub file : copied_file (fields_of text).operands ≡ Some name

pub copies_text : (deeper : ℕ) (text name : List ℕ) → verdict deeper text ≡ Copies name → CopiesText deeper text name
unfolding verdict
copies_text deeper text name h =
    let f = fields_of text in
    let a = past (is_comment text) Skipped _ name (not_skipped name) h in
    let b = past (nat_lt 256 (length text)) (Broken 1) _ name (not_broken 1 name) a.1 in
    let c = past (not (list_all is_card_byte text)) (Broken 2) _ name (not_broken 2 name) b.1 in
    let d = past (not (is_macro f.operation)) (Broken 3) _ name (not_broken 3 name) c.1 in
    let e = copy_or (is_word f.operation (codes "COPY")) deeper f name d.1 in
    record { some_deeper = e.some_deeper; bytes = is_true (list_all is_card_byte text) c.0; file = e.file }

pub step_copies : (v : Verdict) (deeper : ℕ) (line : List ℕ) → v ≡ verdict deeper (without_end line) → StepCopies (step_of v) deeper line
step_copies Skipped deeper line e = λ name h. cc
step_copies (Broken rule) deeper line e = λ name h. cc
step_copies Taken deeper line e = λ name h. cc
step_copies (Copies name) deeper line e =
    let h = copies_text deeper (without_end line) name (sym e) in
    (sym e, h.some_deeper, file_ascii (without_end line) name h.bytes h.file)

-- ---- the whole reading

pub whole : (files : Files) (name : List ℕ) (r : Reader) → (r.cards.items ≡ []) × (r.faults.items ≡ []) → (r.number ≡ 0) × (r.bytes ≡ 0) → cards_of files name ≡ going_on r (file_read files 9 name ++ [])
unfolding reading_of
whole files name r empty none =
    rw (empty.0, empty.1, none.0, none.1, append-nil (file_read files 9 name)) refl

pub told_is : (o : Option Files) → IfSome o (λ files. o ≡ Some files)
told_is None = tt
told_is (Some files) = refl
