-- A record as it is read byte by byte.
use Rattle.std.proofs.Common.{◌≡◌, ◌≢◌, ℕ, ◌-◌, false, true, ◌+◌, ◌^◌, min, zero, suc, subst, inl, inr, ◌<◌, ◌≤◌, List, [], ◌∷◌, ◌++◌, length, take, drop, slice_set, Option, Some, None, IfSome, IsSomeAnd, refl, ap, sym, ◌∙◌, append_assoc, append-nil, arith, length-append}
use Rattle.std.proofs.lemmas.Grind.{common_steps}
use Rattle.std.proofs.lemmas.Bool.{cases_lt}
use Rattle.sil_base.specs.Lines.{onto_lines}
use Rattle.unit_io.specs.Answers.{overlaid}
use Rattle.real_units.specs.RecordTexts.{records_in, IsFirstRecord}
use Rattle.unit_io.specs.declared.answers.ReadAnswer.TheVariants as read
use Rattle.real_units.specs.RecordStreams.{MovesPlace, TakesByte, ReadsRecord}
use Rattle.real_units.specs.declared.record_reader.NextByte.TheVariants as next
use Rattle.real_units.proofs.Texts.{onto_all, records_in-cons, onto_all-cons, onto_all-none, onto_all-more}

-- of a text, so many bytes were taken, all of the first record, and copied as far as they fit
pub record SoFar (text : List ℕ) (count : ℕ) (left : Option (List ℕ)) (old new : List ℕ) : Type 0 where
  pub bytes : List ℕ
  pub rest : List ℕ
  pub left_is : left ≡ Some rest
  pub text_is : text ≡ bytes ++ rest
  pub count_is : length bytes ≡ count
  pub records : records_in text ≡ onto_all bytes (records_in rest)
  pub copied : new ≡ overlaid (Some bytes) old

overlaid-none : (old : List ℕ) → old ≡ overlaid (Some []) old
overlaid-none old = grind (arith, common_steps)

overlaid-there : (bytes old : List ℕ) (byte : ℕ) → length bytes < length old → slice_set (overlaid (Some bytes) old) (length bytes) byte ≡ overlaid (Some (bytes ++ byte ∷ [])) old
overlaid-there [] [] byte h = absurd (omega arith)
overlaid-there [] (first ∷ old) byte h = grind (arith, common_steps)
overlaid-there (b ∷ bytes) [] byte h = absurd (omega arith)
overlaid-there (b ∷ bytes) (first ∷ old) byte h = ap (λ rest. b ∷ rest) (overlaid-there bytes old byte (omega arith))

overlaid-past : (bytes old : List ℕ) (byte : ℕ) → length old ≤ length bytes → overlaid (Some bytes) old ≡ overlaid (Some (bytes ++ byte ∷ [])) old
overlaid-past bytes [] byte h = grind (arith, common_steps)
overlaid-past [] (first ∷ old) byte h = absurd (omega arith)
overlaid-past (b ∷ bytes) (first ∷ old) byte h = ap (λ rest. b ∷ rest) (overlaid-past bytes old byte (omega arith))

-- nothing is taken at the start
pub none_so_far : (known : Option (List ℕ)) (old : List ℕ) → IfSome known (λ text. SoFar text 0 known old old)
none_so_far None old = tt
none_so_far (Some text) old = record {
  bytes = [];
  rest = text;
  left_is = refl;
  text_is = refl;
  count_is = refl;
  records = refl;
  copied = overlaid-none old;
}

copied_more : (count byte : ℕ) (bytes old new then : List ℕ) → length bytes ≡ count → new ≡ overlaid (Some bytes) old → length new ≡ length old → (count < length new → then ≡ slice_set new count byte) → (length new ≤ count → then ≡ new) → then ≡ overlaid (Some (bytes ++ byte ∷ [])) old
copied_more count byte bytes old new then counted copied same there past =
    elim (cases_lt count (length old)) [
      | inl below ↦
          there (omega arith) ∙ ap (λ list. slice_set list count byte) copied ∙ ap (λ k. slice_set (overlaid (Some bytes) old) k byte) (sym counted) ∙ overlaid-there bytes old byte (omega arith)
      | inr above ↦ past (omega arith) ∙ copied ∙ overlaid-past bytes old byte (omega arith)
    ]

more_at : (text : List ℕ) (left after : Option (List ℕ)) (count byte : ℕ) (old new then : List ℕ) (so : SoFar text count left old new) → byte ≢ 10 → IsSomeAnd after (λ more. so.rest ≡ byte ∷ more) → length new ≡ length old → (count < length new → then ≡ slice_set new count byte) → (length new ≤ count → then ≡ new) → SoFar text (count + 1) after old then
more_at text left None count byte old new then so other taken same there past = absurd taken
more_at text left (Some rest) count byte old new then so other taken same there past = record {
  bytes = so.bytes ++ byte ∷ [];
  rest = rest;
  left_is = refl;
  text_is = rw append_assoc (so.text_is ∙ ap (λ list. so.bytes ++ list) taken);
  count_is = omega (arith, length-append so.bytes (byte ∷ []), so.count_is);
  records = so.records ∙ ap (λ list. onto_all so.bytes (records_in list)) taken ∙ ap (onto_all so.bytes) (records_in-cons byte rest other) ∙ onto_all-more so.bytes byte (records_in rest);
  copied = copied_more count byte so.bytes old new then so.count_is so.copied same there past;
}

-- another byte of the record is taken
pub more_so_far : (known left after : Option (List ℕ)) (count byte : ℕ) (old new then : List ℕ) → IfSome known (λ text. SoFar text count left old new) → IfSome left (λ text. TakesByte text (next.Byte byte) after) → byte ≢ 10 → length new ≡ length old → (count < length new → then ≡ slice_set new count byte) → (length new ≤ count → then ≡ new) → IfSome known (λ text. SoFar text (count + 1) after old then)
more_so_far None left after count byte old new then so taken other same there past = tt
more_so_far (Some text) left after count byte old new then so taken other same there past =
    more_at text left after count byte old new then so other (subst (λ known. IfSome known (λ list. TakesByte list (next.Byte byte) after)) so.left_is taken) same there past

ended_at : (text : List ℕ) (left after : Option (List ℕ)) (count byte got : ℕ) (old new : List ℕ) (so : SoFar text count left old new) → byte ≡ 10 → IsSomeAnd after (λ more. so.rest ≡ byte ∷ more) → length new ≡ length old → count ≤ 2 ^ 30 → got ≡ min count (length new) → ReadsRecord text (read.Rec got) old new after false
ended_at text left None count byte got old new so is taken same most answer = absurd taken
ended_at text left (Some rest) count byte got old new so is taken same most answer =
    let records : records_in text ≡ so.bytes ∷ records_in rest =
    so.records ∙ ap (λ list. onto_all so.bytes (records_in list)) (taken ∙ ap (λ first. first ∷ rest) is) ∙ onto_all-cons so.bytes [] (records_in rest) ∙ ap (λ first. first ∷ records_in rest) (append-nil so.bytes) in
    let first : IsFirstRecord text so.bytes rest false = record {
      text_is = rw append_assoc (so.text_is ∙ ap (λ list. so.bytes ++ list) (taken ∙ ap (λ first. first ∷ rest) is));
      last = λ e. absurd (cc);
      records = records;
    } in
    (so.bytes, first, omega (arith, so.count_is), omega (arith, so.count_is), so.copied)

-- an LF ends the record
pub ended_by_lf : (known left after : Option (List ℕ)) (count byte got : ℕ) (old new : List ℕ) → IfSome known (λ text. SoFar text count left old new) → IfSome left (λ text. TakesByte text (next.Byte byte) after) → byte ≡ 10 → length new ≡ length old → count ≤ 2 ^ 30 → got ≡ min count (length new) → IfSome known (λ text. ReadsRecord text (read.Rec got) old new after false)
ended_by_lf None left after count byte got old new so taken is same most answer = tt
ended_by_lf (Some text) left after count byte got old new so taken is same most answer =
    ended_at text left after count byte got old new so is (subst (λ known. IfSome known (λ list. TakesByte list (next.Byte byte) after)) so.left_is taken) same most answer

onto_all-some : (bytes : List ℕ) → length bytes ≢ 0 → onto_all bytes [] ≡ bytes ∷ []
onto_all-some [] some = absurd (some refl)
onto_all-some (byte ∷ bytes) some = onto_all-none byte bytes

last_at : (text : List ℕ) (left after : Option (List ℕ)) (count got : ℕ) (old new : List ℕ) (so : SoFar text count left old new) → so.rest ≡ [] → after ≡ Some [] → count ≢ 0 → length new ≡ length old → count ≤ 2 ^ 30 → got ≡ min count (length new) → ReadsRecord text (read.Rec got) old new after true
last_at text left None count got old new so none ends some same most answer = absurd (cc)
last_at text left (Some rest) count got old new so none ends some same most answer =
    let empty : [] ≡ rest = cc in
    let records : records_in text ≡ so.bytes ∷ records_in rest =
    so.records ∙ ap (λ list. onto_all so.bytes (records_in list)) none ∙ onto_all-some so.bytes (λ e. some (sym so.count_is ∙ e)) ∙ ap (λ list. so.bytes ∷ records_in list) empty in
    let first : IsFirstRecord text so.bytes rest true = record {
      text_is = so.text_is ∙ ap (λ list. so.bytes ++ list) (none ∙ empty);
      last = λ _. sym empty;
      records = records;
    } in
    (so.bytes, first, omega (arith, so.count_is), omega (arith, so.count_is), so.copied)

-- the end of the text ends the record
pub ended_by_end : (known left after : Option (List ℕ)) (count got : ℕ) (old new : List ℕ) → IfSome known (λ text. SoFar text count left old new) → IfSome left (λ text. TakesByte text next.End after) → count ≢ 0 → length new ≡ length old → count ≤ 2 ^ 30 → got ≡ min count (length new) → IfSome known (λ text. ReadsRecord text (read.Rec got) old new after true)
ended_by_end None left after count got old new so taken some same most answer = tt
ended_by_end (Some text) left after count got old new so taken some same most answer =
    let at = subst (λ known. IfSome known (λ list. TakesByte list next.End after)) so.left_is taken in
    last_at text left after count got old new so at.0 at.1 some same most answer
