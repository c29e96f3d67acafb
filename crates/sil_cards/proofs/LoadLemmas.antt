-- The file that can't be read is the last that is loaded.
use Rattle.std.proofs.Common.{◌≡◌, ℕ, zero, suc, ◌+◌, ◌<◌, Bool, true, false, cond, ◌||◌, List, [], ◌∷◌, ◌++◌, length, Some, None, Option, Ok, Err, refl, ap, sym, arith}
use Rattle.std.specs.Prelude.{nat_le, IsSomeAnd}
use Rattle.std.specs.FinMap.{get}
use Rattle.std.proofs.lemmas.Bool.Decides.{nat_tests}
use Rattle.sil_base.specs.Files.{Files}
use Rattle.sil_base.specs.Loads.{stopping}
use Rattle.sil_base.specs.declared.limits.TheConstants.{MAX_FILE_BYTES}
use Rattle.sil_base.specs.declared.loading.LoadStop.TheVariants as load
use Rattle.sil_base.specs.declared.line.Fault.{Fault}
use Rattle.sil_cards.specs.declared.stop.CardStop.{CardStop}
use Rattle.sil_cards.specs.declared.stop.CardStop.TheVariants as stop
use Rattle.sil_cards.specs.declared.verdict.Verdict.{Verdict}
use Rattle.sil_cards.specs.declared.verdict.Verdict.TheVariants.{Skipped, Broken, Copies, Taken}
use Rattle.sil_cards.specs.CardParts.{CardParts}
use Rattle.sil_base.specs.Lines.{lines_of, without_end}
use Rattle.sil_cards.specs.CardVerdicts.{verdict, is_end}
use Rattle.sil_cards.specs.Reads.{Read, Opened, Refused, ReadLine, copied, lines_read, card_stop, text_of, text_read, file_read}
use Rattle.sil_cards.specs.Readings.{Reading, nothing, is_full, limited, with_line, reading, reading_of, answer_of, cards_of, StopsAt}

-- a stop that comes at a file
abbrev IsWhy : Files → List ℕ → CardStop → Type 0
IsWhy files name (stop.Missing other) = (other ≡ name) × (get files name ≡ None)
IsWhy files name (stop.TooLong other) = (other ≡ name) × IsSomeAnd (get files name) (λ text. MAX_FILE_BYTES < length text)
IsWhy files name (stop.Faults faults) = ⊥
IsWhy files name (stop.Failed other) = ⊥
IsWhy files name stop.Memory = ⊥

-- each file that can't be read has its cause
abbrev AreWhy : Files → List Read → Type 0
AreWhy files [] = Unit {0}
AreWhy files (Opened name ∷ reads) = AreWhy files reads
AreWhy files (Refused name stop ∷ reads) = IsWhy files name stop × AreWhy files reads
AreWhy files (ReadLine deeper line ∷ reads) = AreWhy files reads

why_append : (files : Files) (reads more : List Read) → AreWhy files reads → AreWhy files more → AreWhy files (reads ++ more)
why_append files [] more h g = g
why_append files (Opened name ∷ reads) more h g = why_append files reads more h g
why_append files (Refused name stop ∷ reads) more h g = (h.0, why_append files reads more h.1 g)
why_append files (ReadLine deeper line ∷ reads) more h g = why_append files reads more h g

why_copied : (files : Files) (copy : List ℕ → List Read) (v : Verdict) → ((name : List ℕ) → AreWhy files (copy name)) → AreWhy files (copied copy v)
why_copied files copy Skipped h = tt
why_copied files copy (Broken rule) h = tt
why_copied files copy (Copies name) h = h name
why_copied files copy Taken h = tt

why_lines : (files : Files) (copy : List ℕ → List Read) (deeper : ℕ) (lines : List (List ℕ)) → ((name : List ℕ) → AreWhy files (copy name)) → AreWhy files (lines_read copy deeper lines)
why_lines files copy deeper [] h = tt
why_lines files copy deeper (line ∷ lines) h =
    let v = verdict deeper (without_end line) in
    why_append files (copied copy v) (lines_read copy deeper lines) (why_copied files copy v h) (why_lines files copy deeper lines h)

too_long : (n : ℕ) → nat_le n MAX_FILE_BYTES ≡ false → MAX_FILE_BYTES < n
too_long n h = grind (arith, nat_tests)

why_either : (b : Bool) (files : Files) (copy : List ℕ → List Read) (deeper : ℕ) (name text : List ℕ) → nat_le (length text) MAX_FILE_BYTES ≡ b → get files name ≡ Some text → ((name : List ℕ) → AreWhy files (copy name)) → AreWhy files (text_read copy deeper name (stopping card_stop (cond b (Ok text) (Err (load.TooLong name)))))
why_either true files copy deeper name text fits is h = why_lines files copy deeper (lines_of text) h
why_either false files copy deeper name text fits is h = ((refl, rw is (too_long (length text) fits)), tt)

why_text : (files : Files) (copy : List ℕ → List Read) (deeper : ℕ) (name : List ℕ) (o : Option (List ℕ)) → get files name ≡ o → ((name : List ℕ) → AreWhy files (copy name)) → AreWhy files (text_read copy deeper name (text_of name o))
why_text files copy deeper name None is h = ((refl, is), tt)
why_text files copy deeper name (Some text) is h = why_either (nat_le (length text) MAX_FILE_BYTES) files copy deeper name text refl is h

why_file : (files : Files) (levels : ℕ) (name : List ℕ) → AreWhy files (file_read files levels name)
why_file files zero name = tt
why_file files (suc deeper) name = why_text files (file_read files deeper) deeper name (get files name) refl (why_file files deeper)

-- ---- the last that is loaded

stops_more : (files : Files) (name : List ℕ) (loads : List (List ℕ)) (e : CardStop) → StopsAt files loads e → StopsAt files (name ∷ loads) e
stops_more files name loads (stop.Missing last) h = (name ∷ h.0, ap (λ xs. name ∷ xs) h.1, h.2)
stops_more files name loads (stop.TooLong last) h = (name ∷ h.0, ap (λ xs. name ∷ xs) h.1, h.2)
stops_more files name loads (stop.Faults faults) h = tt
stops_more files name loads (stop.Failed last) h = tt
stops_more files name loads stop.Memory h = tt

stops_here : (files : Files) (name : List ℕ) (e : CardStop) → IsWhy files name e → StopsAt files (name ∷ []) e
stops_here files name (stop.Missing other) h = ([], ap (λ x. x ∷ []) (sym h.0), rw h.0 h.1)
stops_here files name (stop.TooLong other) h = ([], ap (λ x. x ∷ []) (sym h.0), rw h.0 h.1)
stops_here files name (stop.Faults faults) h = absurd h
stops_here files name (stop.Failed other) h = absurd h
stops_here files name stop.Memory h = absurd h

stops_either : (b : Bool) (files : Files) (number : ℕ) (text : List ℕ) (v : Verdict) (rest : Reading) (e : CardStop) → (with_line number text v (cond b nothing rest)).refused ≡ Some e → (rest.refused ≡ Some e → StopsAt files rest.loads e) → StopsAt files (with_line number text v (cond b nothing rest)).loads e
stops_either true files number text v rest e h next = absurd (cc)
stops_either false files number text v rest e h next = next h

stops_reading : (files : Files) (count bytes : ℕ) (reads : List Read) (e : CardStop) → AreWhy files reads → (reading count bytes reads).refused ≡ Some e → StopsAt files (reading count bytes reads).loads e
stops_reading files count bytes [] e h is = absurd (cc)
stops_reading files count bytes (Opened name ∷ reads) e h is =
    stops_more files name (reading count bytes reads).loads e (stops_reading files count bytes reads e h is)
stops_reading files count bytes (Refused name stop ∷ reads) e h is =
    let same : stop ≡ e = cc in
    rw (← same) (stops_here files name stop h.0)
stops_reading files count bytes (ReadLine deeper line ∷ reads) e h is =
    let text = without_end line in
    let full = is_full (count + 1) (bytes + length line) in
    stops_either (full || is_end text) files (count + 1) text (limited full (verdict deeper text)) (reading (count + 1) (bytes + length line) reads) e is
    (stops_reading files (count + 1) (bytes + length line) reads e h)

faults_free : (files : Files) (loads : List (List ℕ)) (faults : List Fault) (cards : List CardParts) (e : CardStop) → answer_of None faults cards ≡ Err e → StopsAt files loads e
faults_free files loads [] cards e h = absurd (cc)
faults_free files loads (fault ∷ faults) cards e h =
    let same : stop.Faults (fault ∷ faults) ≡ e = cc in
    rw (← same) tt

stops_answer : (files : Files) (o : Option CardStop) (loads : List (List ℕ)) (faults : List Fault) (cards : List CardParts) (e : CardStop) → (o ≡ Some e → StopsAt files loads e) → answer_of o faults cards ≡ Err e → StopsAt files loads e
stops_answer files None loads faults cards e next h = faults_free files loads faults cards e h
stops_answer files (Some other) loads faults cards e next h = next (cc)

pub stops_at : (files : Files) (name : List ℕ) (e : CardStop) → cards_of files name ≡ Err e → StopsAt files (reading_of files name).loads e
unfolding reading_of
stops_at files name e h =
    let r = reading 0 0 (file_read files 9 name) in
    stops_answer files r.refused r.loads r.faults r.cards e (stops_reading files 0 0 (file_read files 9 name) e (why_file files 9 name)) h
