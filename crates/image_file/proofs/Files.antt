-- Files of images, and bytes that are none.
use Rattle.std.proofs.Common.{◌≡◌, ◌∙◌, ℕ, zero, suc, ◌-◌, ◌*◌, ◌/◌, ◌≤◌, List, [], ◌∷◌, ◌++◌, length, take, drop, refl, ap, sym, subst, arith, append_assoc, inl, inr}
use Rattle.std.specs.List.{flat_map}
use Rattle.std.proofs.lemmas.List.{take-append-drop, take-take, take_all, append-nil}
use Rattle.std.proofs.lemmas.Bool.{cases_lt}
use Rattle.layout_params.specs.Parameters.{Settings, AreLegalSettings}
use Rattle.std.specs.Prelude.{IsErrAnd, MatchResult}
use Rattle.std.specs.declared.result.Result.{Result}
use Rattle.std.specs.declared.result.Result.TheVariants.{Ok, Err}
use Rattle.image_file.specs.declared.stop.ImageStop.{ImageStop}
use Rattle.image_file.specs.declared.stop.ImageStop.TheVariants.{Part as PartStop, Memory}
use Rattle.image_file.specs.declared.counts.Counts.{Counts}
use Rattle.image_file.specs.Image.{Image, IsImage, StatementEntry}
use Rattle.image_file.specs.Spelling.{FitAll, numbers_in, mark_part, version_part, settings_part, counts_part, counts_list, counts_of, entry_part, spelling}
use Rattle.image_file.specs.ImageGrammar.{Part, EndPart, AreWithin, Begins, Stand, head_parts, body_parts, parts, IsImageFile, BeginSo, IsFirstWrong, IsRefused}
use Rattle.image_file.specs.ImageReading.{StopsAt}
use Rattle.image_file.proofs.Agreement.{counts_from, Known, AllAgree, AreHead, head_agrees, body_agrees}

-- ---- some parts, and others

pub stand_join : (ps qs : List Part) (c : Counts) (i : Image) (a m rest : List ℕ) → Stand ps c i a m → Stand qs c i m rest → Stand (ps ++ qs) c i a rest
stand_join [] qs c i a m rest p q = subst (λ x. Stand qs c i x rest) (sym p) q
stand_join (x ∷ ps) qs c i a m rest p q = (p.0, p.1, stand_join ps qs c i p.0 m rest p.2 q)

pub record Split (ps qs : List Part) (c : Counts) (i : Image) (a rest : List ℕ) : Type 0 where
  pub middle : List ℕ
  pub front : Stand ps c i a middle
  pub back : Stand qs c i middle rest

pub stand_split : (ps qs : List Part) (c : Counts) (i : Image) (a rest : List ℕ) → Stand (ps ++ qs) c i a rest → Split ps qs c i a rest
stand_split [] qs c i a rest p = record { middle = a; front = refl; back = p }
stand_split (x ∷ ps) qs c i a rest p =
    let s = stand_split ps qs c i p.0 rest p.2 in
    record { middle = s.middle; front = (p.0, p.1, s.front); back = s.back }

-- one part more
pub stand_then : (ps : List Part) (p : Part) (c : Counts) (i : Image) (a m rest : List ℕ) → Stand ps c i a m → Begins p c i m rest → Stand (ps ++ p ∷ []) c i a rest
stand_then ps p c i a m rest h b = stand_join ps (p ∷ []) c i a m rest h (rest, b, refl)

-- ---- the first part that is wrong

next_wrong : (k : ℕ) (ps : List Part) (p : Part) (c : Counts) (i : Image) (whole bytes : List ℕ) → take (k - 1) parts ≡ ps → take k parts ≡ ps ++ p ∷ [] → Stand ps c i whole bytes → ((d : Counts) (j : Image) (more rest : List ℕ) → Stand ps d j whole more → Begins p d j more rest → ⊥) → IsFirstWrong k whole
next_wrong k ps p c i whole bytes e f h none = record {
  before = record {
    counts = c;
    image = i;
    rest = bytes;
    stand = subst (λ qs. Stand qs c i whole bytes) (sym e) h;
  };
  wrong = λ b.
      let s = stand_split ps (p ∷ []) b.counts b.image whole b.rest (subst (λ qs. Stand qs b.counts b.image whole b.rest) f b.stand) in
      none b.counts b.image s.middle s.back.0 s.front s.back.1;
}

-- of those by which the others are read
pub head_wrong : (k : ℕ) (ps : List Part) (p : Part) (c : Counts) (i : Image) (whole bytes : List ℕ) → take (k - 1) parts ≡ ps → take k parts ≡ ps ++ p ∷ [] → AreHead ps → Stand ps c i whole bytes → ((d : Counts) (j : Image) (rest : List ℕ) → AllAgree ps c i d j → ¬ Begins p d j bytes rest) → IsFirstWrong k whole
head_wrong k ps p c i whole bytes e f head h none =
    next_wrong k ps p c i whole bytes e f h (λ d j more rest t b.
    let same = head_agrees ps c d i j whole whole bytes more head refl h t in
    none d j rest same.0 (subst (λ x. Begins p d j x rest) (sym same.1) b))

pub record HeadKnown (c : Counts) (i : Image) (d : Counts) (j : Image) (rest more : List ℕ) : Type 0 where
  pub known : Known c i d j
  pub rests : rest ≡ more

head_known : (c d : Counts) (i j : Image) (a rest more : List ℕ) → Stand head_parts c i a rest → Stand head_parts d j a more → HeadKnown c i d j rest more
head_known c d i j a rest more p q =
    let same = head_agrees head_parts c d i j a a rest more (refl, (refl, (refl, (refl, (refl, tt))))) refl p q in
    let say = same.0 in
    record { known = record { counts = say.1.1.1.0; settings = say.1.1.0; within = say.1.1.1.1.0 }; rests = same.1 }

-- of the others
pub body_wrong : (k : ℕ) (ps : List Part) (p : Part) (c : Counts) (i : Image) (whole bytes : List ℕ) → take (k - 1) parts ≡ head_parts ++ ps → take k parts ≡ head_parts ++ ps ++ p ∷ [] → Stand (head_parts ++ ps) c i whole bytes → ((j : Image) (rest : List ℕ) → j.settings ≡ i.settings → ¬ Begins p c j bytes rest) → IsFirstWrong k whole
body_wrong k ps p c i whole bytes e f h none =
    next_wrong k (head_parts ++ ps) p c i whole bytes e f h (λ d j more rest t b.
    let s = stand_split head_parts ps c i whole bytes h in
    let u = stand_split head_parts ps d j whole more t in
    let head = head_known c d i j whole s.middle u.middle s.front u.front in
    let same = body_agrees ps c d i j s.middle u.middle bytes more head.known head.rests s.back u.back in
    none j rest (sym head.known.settings) (subst (λ (x : Counts). Begins p x j bytes rest) (sym head.known.counts) (subst (λ x. Begins p d j x rest) (sym same.1) b)))

-- ---- two images

of_fields : Settings → List StatementEntry → List ℕ → List ℕ → List ℕ → List ℕ → List ℕ → Image
of_fields settings statements words constants cells kinds tables = record {
  settings = settings;
  statements = statements;
  words = words;
  constants = constants;
  cells = cells;
  kinds = kinds;
  tables = tables;
}

same_image : (i j : Image) → i.settings ≡ j.settings → i.statements ≡ j.statements → i.words ≡ j.words → i.constants ≡ j.constants → i.cells ≡ j.cells → i.kinds ≡ j.kinds → i.tables ≡ j.tables → i ≡ j
unfolding of_fields
same_image i j a b c d e f g =
    ap (λ x. of_fields x i.statements i.words i.constants i.cells i.kinds i.tables) a
    ∙ ap (λ x. of_fields j.settings x i.words i.constants i.cells i.kinds i.tables) b
    ∙ ap (λ x. of_fields j.settings j.statements x i.constants i.cells i.kinds i.tables) c
    ∙ ap (λ x. of_fields j.settings j.statements j.words x i.cells i.kinds i.tables) d
    ∙ ap (λ x. of_fields j.settings j.statements j.words j.constants x i.kinds i.tables) e
    ∙ ap (λ x. of_fields j.settings j.statements j.words j.constants j.cells x i.tables) f
    ∙ ap (λ x. of_fields j.settings j.statements j.words j.constants j.cells j.kinds x) g

-- images of which the same bytes are all parts but the end are one
eleven_agree : (c d : Counts) (i j : Image) (a rest more : List ℕ) → Stand (take 11 parts) c i a rest → Stand (take 11 parts) d j a more → (i ≡ j) × (rest ≡ more)
eleven_agree c d i j a rest more p q =
    let s = stand_split head_parts (take 6 body_parts) c i a rest p in
    let u = stand_split head_parts (take 6 body_parts) d j a more q in
    let head = head_known c d i j a s.middle u.middle s.front u.front in
    let same = body_agrees (take 6 body_parts) c d i j s.middle u.middle rest more head.known head.rests s.back u.back in
    let say = same.0 in
    (same_image i j head.known.settings say.0 say.1.0 say.1.1.0 say.1.1.1.0 say.1.1.1.1.0 say.1.1.1.1.1.0, same.1)

-- ---- the spelling

after_settings : Image → List ℕ → List ℕ
after_settings i rest =
    counts_part (counts_of i) ++ (flat_map entry_part i.statements ++ (numbers_in 4 i.words ++ (i.constants ++ (i.cells ++ (i.kinds ++ (i.tables ++ rest))))))

spelled_parts : (i : Image) (rest : List ℕ) → spelling i ++ rest ≡ mark_part ++ (version_part ++ (settings_part i.settings ++ after_settings i rest))
unfolding spelling after_settings
spelled_parts i rest = simp append_assoc

counts_fit : (i : Image) → IsImage i → FitAll 4 (counts_list (counts_of i))
counts_fit i h = (omega arith, (omega arith, (omega arith, (omega arith, (omega arith, tt)))))

are_within : (i : Image) → IsImage i → AreWithin i.settings (counts_of i)
are_within i h = record {
  statements = h.statements;
  some_words = h.some_words;
  few_words = h.few_words;
  constants = h.constants;
  cells = h.cell_count;
  tables = omega (arith, h.table_bytes);
}

stand_eleven : (i : Image) (rest bytes : List ℕ) → IsImage i → bytes ≡ spelling i ++ rest → Stand (take 11 parts) (counts_of i) i bytes rest
unfolding after_settings
stand_eleven i rest bytes h e =
    let tables = i.tables ++ rest in
    let kinds = i.kinds ++ tables in
    let cells = i.cells ++ kinds in
    let constants = i.constants ++ cells in
    let words = numbers_in 4 i.words ++ constants in
    let statements = flat_map entry_part i.statements ++ words in
    let counts = counts_part (counts_of i) ++ statements in
    let settings = settings_part i.settings ++ counts in
    let whole_tables : length i.tables ≡ (length i.tables / 4096) * 4096 = omega (arith, h.whole_tables) in
    let last : Stand (take 5 (drop 6 parts)) (counts_of i) i words rest = (constants, (refl, refl, h.wide_words), (cells, (refl, refl), (kinds, (refl, h.cells), (tables, (refl, refl, h.kinds), (rest, (refl, whole_tables, h.tables), refl))))) in
    (version_part ++ settings, e ∙ spelled_parts i rest, (settings, refl, (counts, (refl, h.settings), (statements, (refl, counts_fit i h), (statements, (refl, are_within i h), (words, (refl, refl, h.places, h.cards), last))))))

pub file_of : (i : Image) (bytes : List ℕ) → IsImage i → bytes ≡ spelling i → IsImageFile i bytes
file_of i bytes h e = record { stand = stand_join (take 11 parts) (EndPart ∷ []) (counts_of i) i bytes [] [] (stand_eleven i [] bytes h (e ∙ sym (append-nil (spelling i)))) ([], (refl, refl), refl) }

abbrev pub eleven : List Part
eleven = take 11 parts

-- a file's parts but the end, with nothing behind them
file_parts : (i : Image) (bytes : List ℕ) → IsImageFile i bytes → Stand eleven (counts_of i) i bytes []
file_parts i bytes h =
    let s = stand_split eleven (EndPart ∷ []) (counts_of i) i bytes [] h.stand in
    subst (λ x. Stand eleven (counts_of i) i bytes x) s.back.1.0 s.front

pub counts_are : (c : Counts) (i : Image) (bytes rest : List ℕ) → Stand body_parts c i bytes rest → c ≡ counts_of i
counts_are c i bytes rest s =
    let constants = s.2.2 in
    let kinds = constants.2.2 in
    let tables : c.tables ≡ length i.tables / 4096 = omega (arith, kinds.2.1.1) in
    ap (λ n. counts_from (n ∷ c.words ∷ c.constants ∷ c.cells ∷ c.tables ∷ [])) (sym s.1.1)
    ∙ ap (λ n. counts_from (length i.statements ∷ n ∷ c.constants ∷ c.cells ∷ c.tables ∷ [])) (sym s.2.1.1)
    ∙ ap (λ n. counts_from (length i.statements ∷ length i.words ∷ n ∷ c.cells ∷ c.tables ∷ [])) (sym constants.1.1)
    ∙ ap (λ n. counts_from (length i.statements ∷ length i.words ∷ length i.constants ∷ n ∷ c.tables ∷ [])) (sym kinds.1.1)
    ∙ ap (λ n. counts_from (length i.statements ∷ length i.words ∷ length i.constants ∷ length i.kinds ∷ n ∷ [])) tables

legal_counted : (i : Image) (bytes rest : List ℕ) → AreLegalSettings i.settings → AreWithin i.settings (counts_of i) → Stand body_parts (counts_of i) i bytes rest → IsImage i
legal_counted i bytes rest settings within s =
    let constants = s.2.2 in
    let tables = constants.2.2.2 in
    record {
      settings = settings;
      statements = within.statements;
      cards = s.1.3;
      few_words = within.few_words;
      some_words = within.some_words;
      wide_words = s.2.1.2;
      constants = within.constants;
      cell_count = within.cells;
      table_bytes = omega (arith, within.tables, tables.1.1);
      whole_tables = omega (arith, tables.1.1);
      places = s.1.2;
      cells = constants.2.1.1;
      kinds = constants.2.2.1.2;
      tables = tables.1.2;
    }

-- parts that were read are an image's
pub legal_parts : (c : Counts) (i : Image) (bytes rest : List ℕ) → AreLegalSettings i.settings → AreWithin i.settings c → Stand body_parts c i bytes rest → IsImage i
legal_parts c i bytes rest settings within s =
    let e = counts_are c i bytes rest s in
    legal_counted i bytes rest settings (subst (λ (d : Counts). AreWithin i.settings d) e within) (subst (λ (d : Counts). Stand body_parts d i bytes rest) e s)

pub whole_file : (c : Counts) (i : Image) (whole bytes : List ℕ) → Stand head_parts c i whole bytes → Stand body_parts c i bytes [] → IsImageFile i whole
whole_file c i whole bytes p q = record { stand = subst (λ (d : Counts). Stand parts d i whole []) (counts_are c i bytes [] q) (stand_join head_parts body_parts c i whole bytes [] p q) }

pub image_of_file : (i : Image) (bytes : List ℕ) → IsImageFile i bytes → IsImage i
image_of_file i bytes h =
    let s = stand_split head_parts body_parts (counts_of i) i bytes [] h.stand in
    legal_counted i s.middle [] s.front.2.2.1.1 s.front.2.2.2.2.1.1 s.back

pub spelled : (i : Image) (bytes : List ℕ) → IsImageFile i bytes → bytes ≡ spelling i
unfolding after_settings
spelled i bytes h =
    let s = file_parts i bytes h in
    let statements = s.2.2.2.2.2 in
    let constants = statements.2.2 in
    let tables = constants.2.2.2 in
    s.1
    ∙ ap (λ xs. mark_part ++ xs) (s.2.1
    ∙ ap (λ xs. version_part ++ xs) (s.2.2.1.0
    ∙ ap (λ xs. settings_part i.settings ++ xs) (s.2.2.2.1.0
    ∙ ap (λ xs. counts_part (counts_of i) ++ xs) (s.2.2.2.2.1.0
    ∙ statements.1.0
    ∙ ap (λ xs. flat_map entry_part i.statements ++ xs) (statements.2.1.0
    ∙ ap (λ xs. numbers_in 4 i.words ++ xs) (constants.1.0
    ∙ ap (λ xs. i.constants ++ xs) (constants.2.1.0
    ∙ ap (λ xs. i.cells ++ xs) (constants.2.2.1.0
    ∙ ap (λ xs. i.kinds ++ xs) (tables.1.0
    ∙ ap (λ xs. i.tables ++ xs) tables.2)))))))))
    ∙ sym (spelled_parts i [])
    ∙ append-nil (spelling i)

pub one_image : (i j : Image) (bytes : List ℕ) → IsImageFile i bytes → IsImageFile j bytes → i ≡ j
one_image i j bytes h g = (eleven_agree (counts_of i) (counts_of j) i j bytes [] [] (file_parts i bytes h) (file_parts j bytes g)).0

pub no_prefix : (i j : Image) (bytes more : List ℕ) → IsImageFile i bytes → IsImageFile j (bytes ++ more) → more ≡ []
no_prefix i j bytes more h g =
    let mine = stand_eleven i more (bytes ++ more) (image_of_file i bytes h) (ap (λ xs. xs ++ more) (spelled i bytes h)) in
    (eleven_agree (counts_of i) (counts_of j) i j (bytes ++ more) more [] mine (file_parts j (bytes ++ more) g)).1

-- ---- the one first part

shorter : (k m : ℕ) (bytes : List ℕ) → k ≤ m → BeginSo m bytes → BeginSo k bytes
shorter k m bytes le b =
    let two : take k parts ++ drop k (take m parts) ≡ take m parts = ap (λ ps. ps ++ drop k (take m parts)) (sym (take-take k m parts le)) ∙ take-append-drop k (take m parts) in
    let s = stand_split (take k parts) (drop k (take m parts)) b.counts b.image bytes b.rest (subst (λ ps. Stand ps b.counts b.image bytes b.rest) (sym two) b.stand) in
    record { counts = b.counts; image = b.image; rest = s.middle; stand = s.front }

begins_file : (i : Image) (bytes : List ℕ) → IsImageFile i bytes → BeginSo 12 bytes
begins_file i bytes h = record { counts = counts_of i; image = i; rest = []; stand = h.stand }

all_parts : (k : ℕ) → 12 ≤ k → take k parts ≡ parts
all_parts k h = take_all k parts h

longer : (k : ℕ) (bytes : List ℕ) → 12 ≤ k → BeginSo 12 bytes → BeginSo k bytes
longer k bytes h b = record {
  counts = b.counts;
  image = b.image;
  rest = b.rest;
  stand = subst (λ ps. Stand ps b.counts b.image bytes b.rest) (sym (all_parts k h)) b.stand;
}

pub no_image : (k : ℕ) (i : Image) (bytes : List ℕ) → IsFirstWrong k bytes → ¬ IsImageFile i bytes
no_image k i bytes w h = elim (cases_lt k 12) [ inl lt ↦ w.wrong (shorter k 12 bytes (omega arith) (begins_file i bytes h)) | inr le ↦ w.wrong (longer k bytes le (begins_file i bytes h)) ]

pub at_least_one : (k : ℕ) (bytes : List ℕ) → IsFirstWrong k bytes → 1 ≤ k
at_least_one zero bytes w = absurd (w.wrong w.before)
at_least_one (suc k) bytes w = omega arith

pub at_most_twelve : (k : ℕ) (bytes : List ℕ) → IsFirstWrong k bytes → k ≤ 12
at_most_twelve k bytes w =
    elim (cases_lt 12 k) [ inl lt ↦ absurd (w.wrong (longer k bytes (omega arith) (shorter 12 (k - 1) bytes (omega arith) w.before))) | inr le ↦ le ]

not_before : (k m : ℕ) (bytes : List ℕ) → IsFirstWrong k bytes → IsFirstWrong m bytes → m ≤ k
not_before k m bytes v w =
    elim (cases_lt k m) [ inl lt ↦ absurd (v.wrong (shorter k (m - 1) bytes (omega arith) w.before)) | inr le ↦ le ]

pub one_part : (k m : ℕ) (bytes : List ℕ) → IsFirstWrong k bytes → IsFirstWrong m bytes → k ≡ m
one_part k m bytes v w =
    let a : m ≤ k = not_before k m bytes v w in
    let b : k ≤ m = not_before m k bytes w v in
    omega arith

-- ---- what a load answers

pub reads_again : (r : Result Image ImageStop) (bytes : List ℕ) → MatchResult r (λ i. IsImageFile i bytes) (λ e. IsRefused e bytes) → (i : Image) → IsImage i → bytes ≡ spelling i → MatchResult r (λ j. j ≡ i) (λ e. e ≡ Memory)
reads_again (Ok j) bytes h i image e = one_image j i bytes h (file_of i bytes image e)
reads_again (Err (PartStop k)) bytes h i image e = absurd (no_image k i bytes h (file_of i bytes image e))
reads_again (Err Memory) bytes h i image e = refl

pub refuses : (r : Result Image ImageStop) (bytes : List ℕ) → MatchResult r (λ i. IsImageFile i bytes) (λ e. IsRefused e bytes) → (k : ℕ) → IsFirstWrong k bytes → IsErrAnd r (λ e. StopsAt e k (IsFirstWrong k bytes))
refuses (Ok j) bytes h k w = no_image k j bytes w h
refuses (Err (PartStop m)) bytes h k w = (one_part m k bytes h w, w)
refuses (Err Memory) bytes h k w = tt
