-- Entries by their names.
use Rattle.std.proofs.Common.{◌≡◌, ◌∙◌, ℕ, ◌+◌, ◌<◌, ◌≤◌, Bool, true, false, cond, not, ◌||◌, List, [], ◌∷◌, ◌++◌, map, length, drop, get_or, Some, None, Bor, refl, ap, sym, append_assoc, drop-cons, drop_of_length-le, add-one}
use Rattle.std.proofs.lemmas.List.{map-append}
use Rattle.layout_params.specs.declared.entries.Entry.{Entry as HeldEntry}
use Rattle.sil_base.specs.Names.{is_word, texts_of}
use Rattle.layout_params.specs.ParameterLines.{Entry, Value, parts_of, entries_from}
use Rattle.layout_params.specs.Entries.{entry_named}
use Rattle.layout_params.specs.ParameterFaults.{name_fault, is_new_name, fault}
use Rattle.layout_params.specs.HeldEntries.{entry_held, entries_held}

-- ---- a search by name

-- the entry at a place has the name
pub named_here : (entries : List HeldEntry) (name : List ℕ) (i : ℕ) (d : HeldEntry) → i < length entries → is_word (get_or entries i d).name.now name ≡ true → entry_named (entries_held (drop i entries)) name ≡ Some (entry_held (get_or entries i d))
named_here entries name i d below same = rw (drop-cons entries i d below, same) refl

-- it has another name
pub named_later : (entries : List HeldEntry) (name : List ℕ) (i : ℕ) (d : HeldEntry) → i < length entries → is_word (get_or entries i d).name.now name ≡ false → entry_named (entries_held (drop i entries)) name ≡ entry_named (entries_held (drop (i + 1) entries)) name
named_later entries name i d below other = rw (drop-cons entries i d below, other, add-one) refl

pub named_nowhere : (entries : List HeldEntry) (name : List ℕ) (i : ℕ) → length entries ≤ i → entry_named (entries_held (drop i entries)) name ≡ None
named_nowhere entries name i past = rw (drop_of_length-le entries past) refl

-- ---- the entries of lines, one line more

-- a line that gives nothing
pub entries_skip : (lines : List (Bor (List ℕ))) (n i : ℕ) (d : Bor (List ℕ)) → i < length lines → None ≡ parts_of (get_or lines i d).now → entries_from n (texts_of (drop i lines)) ≡ entries_from (n + 1) (texts_of (drop (i + 1) lines))
entries_skip lines n i d below h = rw (drop-cons lines i d below, sym h, add-one i) refl

-- a line that gives a value to a name
pub entries_take : (lines : List (Bor (List ℕ))) (n i : ℕ) (d : Bor (List ℕ)) (parts : List ℕ × Value) → i < length lines → Some parts ≡ parts_of (get_or lines i d).now → entries_from n (texts_of (drop i lines)) ≡ record { line = n; name = parts.0; value = parts.1 } ∷ entries_from (n + 1) (texts_of (drop (i + 1) lines))
entries_take lines n i d parts below h = rw (drop-cons lines i d below, sym h, add-one i) refl

pub entries_held-push : (all entries : List HeldEntry) (e : HeldEntry) → all ≡ entries ++ e ∷ [] → entries_held all ≡ entries_held entries ++ entry_held e ∷ []
entries_held-push all entries e h = rw (h, map-append) refl

-- the entries so far and the rest, one entry more
pub entries_more : (whole done : List Entry) (rest next : List Entry) (e : Entry) → whole ≡ done ++ rest → rest ≡ e ∷ next → whole ≡ (done ++ e ∷ []) ++ next
entries_more whole done rest next e h k = h ∙ rw (k, append_assoc) refl

-- a new name has no fault
pub name_fault-new : (before rest next : List Entry) (e : Entry) → rest ≡ e ∷ next → is_new_name before e.name ≡ true → name_fault before rest ≡ name_fault (before ++ e ∷ []) next
name_fault-new before rest next e h k = rw (h, k) refl

-- a name that isn't new has one
pub name_fault-old : (before rest next : List Entry) (e : Entry) → rest ≡ e ∷ next → is_new_name before e.name ≡ false → name_fault before rest ≡ Some (fault 2 e.line)
name_fault-old before rest next e h k = rw (h, k) refl
