-- The rules of an image's parts, a part at a time.
use Rattle.std.proofs.Common.{◌≡◌, ℕ, suc, ◌/◌, ◌≤◌, ◌<◌, ◌^◌, ◌&&◌, All, List, length, map, take, drop, get_or, ap, arith, length-drop}
use Rattle.std.proofs.lemmas.List.{get_or-map, length-map}
use Rattle.sil_macros.specs.declared.names.Macro.{Macro}
use Rattle.image_file.specs.Image.{entry_of}
use Rattle.image_file.specs.TableEntries.{entry_fits, entries_fit}

-- the first entry, and the others
pub entries_in_turn : (tables : ℕ) (bytes : List ℕ) → 16 ≤ length bytes → entries_fit tables (length bytes / 16) bytes ≡ (entry_fits tables (take 16 bytes) && entries_fit tables (length (drop 16 bytes) / 16) (drop 16 bytes))
entries_in_turn tables bytes h =
    let e : length bytes / 16 ≡ suc (length (drop 16 bytes) / 16) = omega (arith, length-drop 16 bytes) in
    ap (λ n. entries_fit tables n bytes) e

-- cards that fit one by one
pub cards_fit : (entries : List (ℕ × ℕ × Macro)) → ((k : ℕ) (d : ℕ × ℕ × Macro) → k < length entries → (get_or entries k d).1 < 2 ^ 32) → All (λ e. e.card < 2 ^ 32) (map entry_of entries)
cards_fit entries h k d lt =
    let e : ℕ × ℕ × Macro = (d.place, d.card, d.name) in
    let long : k < length entries = omega (arith, simp length-map at lt) in
    let at : get_or (map entry_of entries) k d ≡ entry_of (get_or entries k e) = get_or-map entry_of entries k e d long in
    rw at (h k e long)
