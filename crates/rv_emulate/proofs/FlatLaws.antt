-- Instructions in the flat form.
use Rattle.std.proofs.Common.{◌≡◌, ℕ, zero, suc, ◌+◌, ◌-◌, ◌/◌, ◌%◌, ◌^◌, ◌<◌, ◌≤◌, ◌&&◌, ◌==◌, List, [], ◌∷◌, ◌++◌, length, map, take, take_all, get_or, true, Option, Some, None, Bor, refl, sym, ap, ◌∙◌, arith}
use Rattle.std.specs.Prelude.{nat_le, option_map, slice_get}
use Rattle.std.specs.Option.{option_copied}
use Rattle.std.specs.Slice.{IsItemAt}
use Rattle.std.proofs.lemmas.Option.{slice_get-map}
use Rattle.std.proofs.lemmas.List.{length-map}
use Rattle.sil_base.specs.declared.places.TheConstants.{FIRST_WORD}
use Rattle.rv_isa.specs.Decoded.{decoded}
use Rattle.rv_emulate.specs.declared.flat.Flat.{Flat}
use Rattle.rv_emulate.specs.CpuView.{instr_at, instr_of}

-- the instruction at a place of the code
pub at_place : (flats : List Flat) (pc : ℕ) (o : Option Flat) → pc % 4 ≡ 0 → FIRST_WORD ≤ pc → o ≡ slice_get flats ((pc - FIRST_WORD) / 4) → instr_at (map instr_of flats) pc ≡ option_map instr_of o
at_place flats pc o aligned from e =
    let test : ((pc % 4 == 0) && nat_le FIRST_WORD pc) ≡ true = grind arith in
    rw test (slice_get-map instr_of flats ((pc - FIRST_WORD) / 4) ∙ ap (option_map instr_of) (sym e))

-- all words are read
pub all_words : (flats : List Flat) (words : List ℕ) (k : ℕ) → length words ≤ k → map instr_of flats ≡ take k (map decoded words) → map instr_of flats ≡ map decoded words
all_words flats words k le e =
    e ∙ take_all k (map decoded words) (let same : length (map decoded words) ≡ length words = length-map words decoded in omega (arith, same, le))

-- there are as many as words
pub as_many : (flats : List Flat) (words : List ℕ) → map instr_of flats ≡ map decoded words → length flats ≡ length words
as_many flats words e = sym (length-map flats instr_of) ∙ ap length e ∙ length-map words decoded

-- ---- one word more

one_more : (words : List ℕ) (k : ℕ) → k < length words → take (suc k) (map decoded words) ≡ take k (map decoded words) ++ decoded (get_or words k 0) ∷ []
one_more [] k lt = absurd (omega (arith, lt))
one_more (w ∷ words) zero lt = refl
one_more (w ∷ words) (suc k) lt = ap (λ xs. decoded w ∷ xs) (one_more words k (omega (arith, lt)))

pushed : (flats : List Flat) (f : Flat) → map instr_of (flats ++ f ∷ []) ≡ map instr_of flats ++ instr_of f ∷ []
pushed [] f = refl
pushed (g ∷ flats) f = ap (λ xs. instr_of g ∷ xs) (pushed flats f)

pub one_word : (flats more : List Flat) (f : Flat) (words : List ℕ) (k : ℕ) → k < length words → more ≡ flats ++ f ∷ [] → instr_of f ≡ decoded (get_or words k 0) → map instr_of flats ≡ take k (map decoded words) → map instr_of more ≡ take (k + 1) (map decoded words)
one_word flats more f words k lt is same e =
    let next : suc k ≡ k + 1 = omega arith in
    ap (map instr_of) is ∙ pushed flats f ∙ ap (λ o. map instr_of flats ++ o ∷ []) same ∙ ap (λ xs. xs ++ decoded (get_or words k 0) ∷ []) e ∙ sym (one_more words k lt) ∙ ap (λ n. take n (map decoded words)) next

-- ---- a look-up

beyond : (xs : List Flat) (k : ℕ) → length xs ≤ k → slice_get xs k ≡ None
beyond [] k le = refl
beyond (x ∷ xs) zero le = absurd (omega (arith, le))
beyond (x ∷ xs) (suc k) le = beyond xs k (omega (arith, le))

inside : (xs : List Flat) (k : ℕ) (y : Flat) → k < length xs → y ≡ get_or xs k y → slice_get xs k ≡ Some y
inside [] k y lt e = absurd (omega (arith, lt))
inside (x ∷ xs) zero y lt e = ap Some (sym e)
inside (x ∷ xs) (suc k) y lt e = inside xs k y (omega (arith, lt)) e

pub got : (xs : List Flat) (k : ℕ) (r : Option (Bor Flat)) → IsItemAt xs k r → option_copied r ≡ slice_get xs k
got xs k None h = sym (beyond xs k h.3)
got xs k (Some x) h = sym (inside xs k x.now h.3.0 h.1)
