-- Bytes have their parts in one way alone.
use Rattle.std.proofs.Common.{◌≡◌, ◌∙◌, ℕ, ◌+◌, ◌*◌, ◌^◌, ◌≤◌, Bool, true, false, List, [], ◌∷◌, length, get_or, refl, ap, sym, arith, length-append}
use Rattle.std.specs.Prelude.{IsTrue}
use Rattle.std.specs.List.{flat_map}
use Rattle.sil_base.specs.declared.places.TheConstants.{FIRST_WORD}
use Rattle.layout_params.specs.Parameters.{Settings, AreLegalSettings, settings_numbers}
use Rattle.image_file.specs.declared.counts.Counts.{Counts}
use Rattle.image_file.specs.Image.{Image, StatementEntry}
use Rattle.image_file.specs.Spelling.{FitAll, numbers_in, mark_part, version_part, settings_part, counts_part, counts_list, entry_part}
use Rattle.image_file.specs.ImageGrammar.{Part, MarkPart, VersionPart, SettingsPart, CountsPart, LimitsPart, StatementsPart, WordsPart, ConstantsPart, CellsPart, KindsPart, TablesPart, EndPart, AreWithin, Begins, Stand}
use Rattle.image_file.specs.ImageReading.{FitEntries}
use Rattle.image_file.proofs.Parts.{each_place, same_parts, same_front, same_rest, length-numbers_in, same_numbers}
use Rattle.image_file.proofs.SpelledEntries.{length-entries, length-entry_part, same_entry}
use Rattle.image_file.proofs.Fitting.{parameters_fit, words_fit, entries_fit_bytes}

-- ---- settings, counts and entries

abbrev pub settings_of : List ℕ → List ℕ → Settings
settings_of xs date = record {
  sizes = record {
    descr = get_or xs 0 0;
    a_at = get_or xs 1 0;
    f_at = get_or xs 2 0;
    f_len = get_or xs 3 0;
    v_at = get_or xs 4 0;
    v_len = get_or xs 5 0;
  };
  function_flag = get_or xs 6 0;
  mark_flag = get_or xs 7 0;
  pointer_flag = get_or xs 8 0;
  string_title_flag = get_or xs 9 0;
  title_flag = get_or xs 10 0;
  stack_size = get_or xs 11 0;
  dynamic_size = get_or xs 12 0;
  bucket_count = get_or xs 13 0;
  date = date;
}

-- settings of fourteen numbers
pub settings_again : (xs date : List ℕ) → length xs ≡ 14 → settings_numbers (settings_of xs date) ≡ xs
settings_again xs date h = sym (each_place 14 0 xs h)

same_fields : (s t : Settings) → settings_numbers s ≡ settings_numbers t → s.date ≡ t.date → s ≡ t
same_fields s t e f = ap (λ xs. settings_of xs s.date) e ∙ ap (λ d. settings_of (settings_numbers t) d) f

pub length-settings : (s : Settings) → AreLegalSettings s → length (settings_part s) ≡ 120
unfolding settings_part
length-settings s h = omega (arith, length-append (numbers_in 8 (settings_numbers s)) s.date, length-numbers_in 8 (settings_numbers s), h.date.0)

same_settings_part : (s t : Settings) → AreLegalSettings s → AreLegalSettings t → settings_part s ≡ settings_part t → s ≡ t
unfolding settings_part
same_settings_part s t p q e =
    let size : length (numbers_in 8 (settings_numbers s)) ≡ length (numbers_in 8 (settings_numbers t)) = length-numbers_in 8 (settings_numbers s) ∙ sym (length-numbers_in 8 (settings_numbers t)) in
    let numbers = same_front (numbers_in 8 (settings_numbers s)) (numbers_in 8 (settings_numbers t)) s.date t.date e size in
    let dates = same_rest (numbers_in 8 (settings_numbers s)) (numbers_in 8 (settings_numbers t)) s.date t.date e size in
    same_fields s t (same_numbers 8 (settings_numbers s) (settings_numbers t) (parameters_fit s p) (parameters_fit t q) refl numbers) dates

abbrev pub counts_from : List ℕ → Counts
counts_from xs = record {
  statements = get_or xs 0 0;
  words = get_or xs 1 0;
  constants = get_or xs 2 0;
  cells = get_or xs 3 0;
  tables = get_or xs 4 0;
}

pub length-counts : (c : Counts) → length (counts_part c) ≡ 20
unfolding counts_part
length-counts c = length-numbers_in 4 (counts_list c)

same_counts_part : (c d : Counts) → FitAll 4 (counts_list c) → FitAll 4 (counts_list d) → counts_part c ≡ counts_part d → c ≡ d
unfolding counts_part
same_counts_part c d p q e = ap counts_from (same_numbers 4 (counts_list c) (counts_list d) p q refl e)

pub same_entries : (es fs : List StatementEntry) → FitEntries es → FitEntries fs → length es ≡ length fs → flat_map entry_part es ≡ flat_map entry_part fs → es ≡ fs
same_entries [] [] p q h e = refl
same_entries [] (f ∷ fs) p q h e = cc
same_entries (d ∷ es) [] p q h e = cc
same_entries (d ∷ es) (f ∷ fs) p q h e =
    let size : length (entry_part d) ≡ length (entry_part f) = length-entry_part d ∙ sym (length-entry_part f) in
    let first : d ≡ f = same_entry d f p.0 p.1 q.0 q.1 (same_front (entry_part d) (entry_part f) _ _ e size) in
    let others : es ≡ fs = same_entries es fs p.2 q.2 (omega arith) (same_rest (entry_part d) (entry_part f) _ _ e size) in
    cc

-- ---- one part

-- two images say the same in a part
abbrev pub SaySame : Part → Counts → Image → Counts → Image → Type 0
SaySame MarkPart c i d j = Unit {0}
SaySame VersionPart c i d j = Unit {0}
SaySame SettingsPart c i d j = i.settings ≡ j.settings
SaySame CountsPart c i d j = c ≡ d
SaySame LimitsPart c i d j = AreWithin i.settings c
SaySame StatementsPart c i d j = i.statements ≡ j.statements
SaySame WordsPart c i d j = i.words ≡ j.words
SaySame ConstantsPart c i d j = i.constants ≡ j.constants
SaySame CellsPart c i d j = i.cells ≡ j.cells
SaySame KindsPart c i d j = i.kinds ≡ j.kinds
SaySame TablesPart c i d j = i.tables ≡ j.tables
SaySame EndPart c i d j = Unit {0}

pub record Agree (p : Part) (c : Counts) (i : Image) (d : Counts) (j : Image) (rest more : List ℕ) : Type 0 where
  pub say : SaySame p c i d j
  pub rests : rest ≡ more

-- what the others are read by
pub record Known (c : Counts) (i : Image) (d : Counts) (j : Image) : Type 0 where
  pub counts : c ≡ d
  pub settings : i.settings ≡ j.settings
  pub within : AreWithin i.settings c

abbrev pub is_head : Part → Bool
is_head MarkPart = true
is_head VersionPart = true
is_head SettingsPart = true
is_head CountsPart = true
is_head LimitsPart = true
is_head StatementsPart = false
is_head WordsPart = false
is_head ConstantsPart = false
is_head CellsPart = false
is_head KindsPart = false
is_head TablesPart = false
is_head EndPart = false

head_part : (p : Part) (c d : Counts) (i j : Image) (a b rest more : List ℕ) → IsTrue (is_head p) → a ≡ b → Begins p c i a rest → Begins p d j b more → Agree p c i d j rest more
head_part MarkPart c d i j a b rest more head same p q = record { say = tt; rests = (same_parts mark_part mark_part rest more a b same p q refl).rests }
head_part VersionPart c d i j a b rest more head same p q = record { say = tt; rests = (same_parts version_part version_part rest more a b same p q refl).rests }
head_part SettingsPart c d i j a b rest more head same p q =
    let two = same_parts (settings_part i.settings) (settings_part j.settings) rest more a b same p.0 q.0 (length-settings i.settings p.1 ∙ sym (length-settings j.settings q.1)) in
    record { say = same_settings_part i.settings j.settings p.1 q.1 two.fronts; rests = two.rests }
head_part CountsPart c d i j a b rest more head same p q =
    let two = same_parts (counts_part c) (counts_part d) rest more a b same p.0 q.0 (length-counts c ∙ sym (length-counts d)) in
    record { say = same_counts_part c d p.1 q.1 two.fronts; rests = two.rests }
head_part LimitsPart c d i j a b rest more head same p q = record { say = p.1; rests = sym p.0 ∙ same ∙ q.0 }
head_part StatementsPart c d i j a b rest more head same p q = cc
head_part WordsPart c d i j a b rest more head same p q = cc
head_part ConstantsPart c d i j a b rest more head same p q = cc
head_part CellsPart c d i j a b rest more head same p q = cc
head_part KindsPart c d i j a b rest more head same p q = cc
head_part TablesPart c d i j a b rest more head same p q = cc
head_part EndPart c d i j a b rest more head same p q = cc

pub end_of_code : (c : Counts) → c.words ≤ 201310208 → FIRST_WORD + 4 * c.words ≤ 2 ^ 33
end_of_code c h = omega arith

one_part : (p : Part) (c d : Counts) (i j : Image) (a b rest more : List ℕ) → Known c i d j → a ≡ b → Begins p c i a rest → Begins p d j b more → Agree p c i d j rest more
one_part MarkPart c d i j a b rest more known same p q = head_part MarkPart c d i j a b rest more refl same p q
one_part VersionPart c d i j a b rest more known same p q = head_part VersionPart c d i j a b rest more refl same p q
one_part SettingsPart c d i j a b rest more known same p q = head_part SettingsPart c d i j a b rest more refl same p q
one_part CountsPart c d i j a b rest more known same p q = head_part CountsPart c d i j a b rest more refl same p q
one_part LimitsPart c d i j a b rest more known same p q = head_part LimitsPart c d i j a b rest more refl same p q
one_part StatementsPart c d i j a b rest more known same p q =
    let count : length i.statements ≡ length j.statements = p.1 ∙ ap (λ (x : Counts). x.statements) known.counts ∙ sym q.1 in
    let two = same_parts (flat_map entry_part i.statements) (flat_map entry_part j.statements) rest more a b same p.0 q.0 (omega (arith, length-entries i.statements, length-entries j.statements)) in
    let few : c.words ≤ 201310208 = known.within.few_words in
    let words : c.words ≡ d.words = ap (λ (x : Counts). x.words) known.counts in
    let fit = entries_fit_bytes FIRST_WORD (FIRST_WORD + 4 * c.words) i.statements (end_of_code c few) p.2 p.3 in
    let fits = entries_fit_bytes FIRST_WORD (FIRST_WORD + 4 * d.words) j.statements (end_of_code d (omega arith)) q.2 q.3 in
    record { say = same_entries i.statements j.statements fit fits count two.fronts; rests = two.rests }
one_part WordsPart c d i j a b rest more known same p q =
    let count : length i.words ≡ length j.words = p.1 ∙ ap (λ (x : Counts). x.words) known.counts ∙ sym q.1 in
    let two = same_parts (numbers_in 4 i.words) (numbers_in 4 j.words) rest more a b same p.0 q.0 (length-numbers_in 4 i.words ∙ ap (λ n. 4 * n) count ∙ sym (length-numbers_in 4 j.words)) in
    record { say = same_numbers 4 i.words j.words (words_fit i.words p.2) (words_fit j.words q.2) count two.fronts; rests = two.rests }
one_part ConstantsPart c d i j a b rest more known same p q =
    let two = same_parts i.constants j.constants rest more a b same p.0 q.0 (p.1 ∙ ap (λ (x : Counts). x.constants) known.counts ∙ sym q.1) in
    record { say = two.fronts; rests = two.rests }
one_part CellsPart c d i j a b rest more known same p q =
    let size : length i.cells ≡ length j.cells = p.1 ∙ ap (λ (x : Counts). x.cells * i.settings.sizes.descr) known.counts ∙ ap (λ (s : Settings). d.cells * s.sizes.descr) known.settings ∙ sym q.1 in
    let two = same_parts i.cells j.cells rest more a b same p.0 q.0 size in
    record { say = two.fronts; rests = two.rests }
one_part KindsPart c d i j a b rest more known same p q =
    let two = same_parts i.kinds j.kinds rest more a b same p.0 q.0 (p.1 ∙ ap (λ (x : Counts). x.cells) known.counts ∙ sym q.1) in
    record { say = two.fronts; rests = two.rests }
one_part TablesPart c d i j a b rest more known same p q =
    let two = same_parts i.tables j.tables rest more a b same p.0 q.0 (p.1 ∙ ap (λ (x : Counts). x.tables * 4096) known.counts ∙ sym q.1) in
    record { say = two.fronts; rests = two.rests }
one_part EndPart c d i j a b rest more known same p q = record { say = tt; rests = p.1 ∙ sym q.1 }

-- ---- parts one after another

-- two images say the same in these parts, and the same rest follows
abbrev pub AllAgree : List Part → Counts → Image → Counts → Image → Type 0
AllAgree [] c i d j = Unit {0}
AllAgree (p ∷ ps) c i d j = SaySame p c i d j × AllAgree ps c i d j

abbrev pub AreHead : List Part → Type 0
AreHead [] = Unit {0}
AreHead (p ∷ ps) = IsTrue (is_head p) × AreHead ps

pub head_agrees : (ps : List Part) (c d : Counts) (i j : Image) (a b rest more : List ℕ) → AreHead ps → a ≡ b → Stand ps c i a rest → Stand ps d j b more → AllAgree ps c i d j × (rest ≡ more)
head_agrees [] c d i j a b rest more head same p q = (tt, sym p ∙ same ∙ q)
head_agrees (x ∷ ps) c d i j a b rest more head same p q =
    let first = head_part x c d i j a b p.0 q.0 head.0 same p.1 q.1 in
    let others = head_agrees ps c d i j p.0 q.0 rest more head.1 first.rests p.2 q.2 in
    ((first.say, others.0), others.1)

pub body_agrees : (ps : List Part) (c d : Counts) (i j : Image) (a b rest more : List ℕ) → Known c i d j → a ≡ b → Stand ps c i a rest → Stand ps d j b more → AllAgree ps c i d j × (rest ≡ more)
body_agrees [] c d i j a b rest more known same p q = (tt, sym p ∙ same ∙ q)
body_agrees (x ∷ ps) c d i j a b rest more known same p q =
    let first = one_part x c d i j a b p.0 q.0 known same p.1 q.1 in
    let others = body_agrees ps c d i j p.0 q.0 rest more known first.rests p.2 q.2 in
    ((first.say, others.0), others.1)
