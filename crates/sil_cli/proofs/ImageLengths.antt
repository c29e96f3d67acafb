-- An installed image is short enough to be loaded again.
use Rattle.std.proofs.Common.{◌≡◌, ℕ, zero, suc, ◌+◌, ◌*◌, ◌^◌, ◌≤◌, List, [], ◌++◌, length, Option, Some, true, cond, nat_le, refl, sym, ap, ◌∙◌, arith, append_assoc, length-append, Ok}
use Rattle.std.specs.List.{flat_map}
use Rattle.std.specs.FinMap.{get, insert, get-insert}
use Rattle.std.proofs.lemmas.Bool.Decides.{nat_tests}
use Rattle.std.proofs.lemmas.Cmp.{nat_list_cmp_total, eq_by_cmp_equiv}
use Rattle.sil_base.specs.Files.{Files}
use Rattle.sil_base.specs.Loads.{of_file, stopping}
use Rattle.layout_params.specs.Parameters.{Parameters}
use Rattle.layout_params.proofs.LegalLayouts.{legal}
use Rattle.sil_model.specs.declared.program.Program.{Program}
use Rattle.image_file.specs.Image.{Image, IsImage}
use Rattle.image_file.specs.Spelling.{counts_of, counts_part, entry_part, mark_part, numbers_in, settings_part, spelling, version_part}
use Rattle.image_file.proofs.Agreement.{length-counts, length-settings}
use Rattle.image_file.proofs.Parts.{length-numbers_in}
use Rattle.image_file.proofs.SpelledEntries.{length-entries}
use Rattle.sil_install.specs.Installed.{IsInstalled}
use Rattle.command_report.specs.Endings.{unloaded_by}
use Rattle.sil_cli.specs.CommandFiles.{image_at}

-- parts of at most so many bytes
both : (xs ys : List ℕ) (n m : ℕ) → length xs ≤ n → length ys ≤ m → length (xs ++ ys) ≤ n + m
both xs ys n m h k = omega (arith, length-append xs ys, h, k)

times-few : (k d : ℕ) → d ≤ 64 → k * d ≤ k * 64
times-few zero d h = omega arith
times-few (suc k) d h = let less = times-few k d h in grind (arith, less, h)

-- the parts after the counts
abbrev rest : Image → List ℕ
rest i = flat_map entry_part i.statements ++ (numbers_in 4 i.words ++ (i.constants ++ (i.cells ++ (i.kinds ++ i.tables))))

marks : length mark_part ≡ 8
marks = refl

versions : length version_part ≡ 4
versions = refl

few-parts : (i : Image) → IsImage i → length (mark_part ++ (version_part ++ (settings_part i.settings ++ (counts_part (counts_of i) ++ rest i)))) ≤ 2 ^ 30
few-parts i is =
    let d = (legal i.settings.sizes is.settings.layout).most in
    let cells : length i.cells ≤ 67108864 = omega (arith, is.cells, times-few (length i.kinds) i.settings.sizes.descr d, is.cell_count) in
    let entries : length (flat_map entry_part i.statements) ≤ 262144 = omega (arith, length-entries i.statements, is.statements) in
    let words : length (numbers_in 4 i.words) ≤ 805240832 = omega (arith, length-numbers_in 4 i.words, is.few_words) in
    let kinds : length i.kinds ≤ 1048576 = omega (arith, is.cell_count) in
    let tables : length i.tables ≤ 1048576 = omega (arith, is.table_bytes) in
    let tail = both i.cells (i.kinds ++ i.tables) 67108864 2097152 cells (both i.kinds i.tables 1048576 1048576 kinds tables) in
    let more = both i.constants (i.cells ++ (i.kinds ++ i.tables)) 67108864 69206016 is.constants tail in
    let code = both (numbers_in 4 i.words) (i.constants ++ (i.cells ++ (i.kinds ++ i.tables))) 805240832 136314880 words more in
    let body = both (flat_map entry_part i.statements) (numbers_in 4 i.words ++ (i.constants ++ (i.cells ++ (i.kinds ++ i.tables)))) 262144 941555712 entries code in
    let counts = both (counts_part (counts_of i)) (rest i) 20 941817856 (omega (arith, length-counts (counts_of i))) body in
    let settings = both (settings_part i.settings) (counts_part (counts_of i) ++ rest i) 120 941817876 (omega (arith, length-settings i.settings is.settings)) counts in
    let versioned = both version_part (settings_part i.settings ++ (counts_part (counts_of i) ++ rest i)) 4 941817996 (omega (arith, versions)) settings in
    let all = both mark_part (version_part ++ (settings_part i.settings ++ (counts_part (counts_of i) ++ rest i))) 8 941818000 (omega (arith, marks)) versioned in
    omega (arith, all)

spelled-parts : (i : Image) → spelling i ≡ mark_part ++ (version_part ++ (settings_part i.settings ++ (counts_part (counts_of i) ++ rest i)))
unfolding spelling
spelled-parts i = simp append_assoc

few-bytes : (i : Image) → IsImage i → length (spelling i) ≤ 2 ^ 30
few-bytes i is = rw (spelled-parts i) (few-parts i is)

get-inserted : (m : Files) (name bytes : List ℕ) → get (insert m name bytes) name ≡ Some bytes
get-inserted m name bytes = get-insert nat_list_cmp_total m name bytes name ∙ ap (λ x. cond x (Some bytes) (get m name)) ((eq_by_cmp_equiv nat_list_cmp_total).refl name)

is-within : (a b : ℕ) → a ≤ b → nat_le a b ≡ true
is-within a b h = grind (arith, nat_tests)

-- what was saved of a program is loaded again
pub saved-is-loaded : (m : Files) (name image : List ℕ) {program : Program} {parameters : Parameters} → IsInstalled image program parameters → image_at name (insert m name image) ≡ Ok image
saved-is-loaded m name image i =
    let short : nat_le (length image) (2 ^ 30) ≡ true = is-within _ _ (rw i.spelled (few-bytes i.image i.is_image)) in
    ap (λ o. stopping unloaded_by (of_file o name (2 ^ 30))) (get-inserted m name image) ∙ (rw short refl)
