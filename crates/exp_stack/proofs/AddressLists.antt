-- Addresses are put into scratch words: places one by one, the cells of a stack by a loop.
use Rattle.std.proofs.Common.{◌≡◌, ℕ, zero, suc, ◌+◌, ◌*◌, ◌<◌, ◌≤◌, List, [], ◌∷◌, ◌++◌, length, Option, true, false, refl, sym, ap, ◌∙◌, subst, take, get_or, length-take, arith}
use Rattle.std.proofs.lemmas.List.{take_more}
use Rattle.std.specs.Prelude.{ℤ, pos, nat_eq}
use Rattle.sil_model.specs.Integers.{◌⊞◌, wrapped_sum, wrapped_difference}
use Rattle.sil_model.specs.Lists.{line}
use Rattle.sil_model.specs.States.{State, Step}
use Rattle.sil_micro.specs.declared.op.Area.TheVariants.{Scratch}
use Rattle.sil_micro.specs.declared.op.Fixed.TheVariants.{Number}
use Rattle.sil_micro.specs.declared.op.Op.{Op}
use Rattle.sil_micro.specs.declared.op.Op.TheVariants.{Const, StoreWord}
use Rattle.sil_micro.specs.Codes.{MicroCode, appended}
use Rattle.sil_micro.specs.Expands.{Makes}
use Rattle.sil_micro.specs.Forms.{all_ops}
use Rattle.sil_micro.specs.MicroStates.{Setting, Micro, Registers}
use Rattle.sil_micro.specs.Operations.{with_word}
use Rattle.sil_micro.specs.Pieces.{placed, joined, is_part, fits_part, is_no_begin, is_quiet, names_within, weights}
use Rattle.sil_micro.proofs.Making.{more, by_way, then_part}
use Rattle.sil_micro.proofs.Parts.{placed_joined, part_joined}
use Rattle.exp_stack.specs.ListParts.{places_code, line_code}
use Rattle.exp_stack.proofs.Arithmetic.{sub_one, add_pos}
use Rattle.exp_common.proofs.JoinedParts.{IsPart, grows_then}
use Rattle.exp_stack.proofs.ScratchWords.{Lined, lined_none, lined_more, fits_word}

-- the operations of one place
abbrev pub place_code : ℕ → ℤ → List Op
place_code first at = Const 1 (Number (pos first)) ∷ Const 2 (Number at) ∷ StoreWord Scratch 1 2 ∷ []

-- ---- what holds of their operations

places_placed : (b first : ℕ) (ats : List ℤ) → placed b (places_code first ats) ≡ places_code first ats
unfolding placed places_code
places_placed b first [] = refl
places_placed b first (at ∷ ats) = ap (λ l. Const 1 (Number (pos first)) ∷ Const 2 (Number at) ∷ StoreWord Scratch 1 2 ∷ l) (places_placed b (first + 1) ats)

places_fit : (size first : ℕ) (ats : List ℤ) → all_ops (fits_part size) (places_code first ats) ≡ true
unfolding places_code
places_fit size first [] = refl
places_fit size first (at ∷ ats) = places_fit size (first + 1) ats

places_begin : (first : ℕ) (ats : List ℤ) → all_ops is_no_begin (places_code first ats) ≡ true
unfolding places_code
places_begin first [] = refl
places_begin first (at ∷ ats) = places_begin (first + 1) ats

places_name : (statements formats first : ℕ) (ats : List ℤ) → all_ops (names_within statements formats) (places_code first ats) ≡ true
unfolding places_code
places_name statements formats first [] = refl
places_name statements formats first (at ∷ ats) = places_name statements formats (first + 1) ats

places_quiet : (first : ℕ) (ats : List ℤ) → all_ops is_quiet (places_code first ats) ≡ true
unfolding places_code
places_quiet first [] = refl
places_quiet first (at ∷ ats) = places_quiet (first + 1) ats

places_weight : (first : ℕ) (ats : List ℤ) → weights (places_code first ats) ≡ 44 * length ats
unfolding places_code
places_weight first [] = refl
places_weight first (at ∷ ats) = omega (arith, places_weight (first + 1) ats)

pub places_part : (statements formats first : ℕ) (ats : List ℤ) → IsPart statements formats (44 * length ats) (places_code first ats)
places_part statements formats first ats = record {
  part = places_fit (length (places_code first ats)) first ats;
  begins = places_begin first ats;
  names = places_name statements formats first ats;
  quiet = places_quiet first ats;
  weight = places_weight first ats;
}

pub line_part : (statements formats first count : ℕ) → IsPart statements formats 84 (line_code first count)
unfolding line_code
line_part statements formats first count = record { part = refl; begins = refl; names = refl; quiet = refl; weight = refl }

pub line_length : (first step : ℤ) (n : ℕ) → length (line first step n) ≡ n
unfolding line
line_length first step zero = refl
line_length first step (suc n) = ap suc (line_length (first ⊞ step) step n)

-- ---- the loop that appends places

places_more : (first : ℕ) (ats : List ℤ) (at : ℤ) → places_code first (ats ++ at ∷ []) ≡ places_code first ats ++ place_code (first + length ats) at
unfolding places_code
places_more first [] at = let e : first ≡ first + 0 = omega arith in ap (λ i. place_code i at) e
places_more first (x ∷ ats) at =
    let e : first + 1 + length ats ≡ first + suc (length ats) = omega arith in
    ap (λ l. Const 1 (Number (pos first)) ∷ Const 2 (Number x) ∷ StoreWord Scratch 1 2 ∷ l) (places_more (first + 1) ats at ∙ ap (λ i. places_code (first + 1) ats ++ place_code i at) e)

places_behind : (front : List Op) (first : ℕ) (x : ℤ) → joined front (place_code first x) ≡ front ++ place_code first x
unfolding placed
places_behind front first x = refl

-- a turn of it
pub places_grow : (first i : ℕ) (z : ℤ) (ats : List ℤ) (old code new : MicroCode) → z ≡ pos (first + i) → i < length ats → code ≡ appended old (places_code first (take i ats)) →
    new ≡ appended code (Const 1 (Number z) ∷ Const 2 (Number (get_or ats i (pos 0))) ∷ StoreWord Scratch 1 2 ∷ []) → new ≡ appended old (places_code first (take (i + 1) ats))
places_grow first i z ats old code new ez lt e1 e2 =
    let x = get_or ats i (pos 0) in
    let many : length (take i ats) ≡ i = simp length-take (omega arith) in
    let front = places_code first (take i ats) in
    let grown : places_code first (take (i + 1) ats) ≡ front ++ place_code (first + i) x =
    ap (λ l. places_code first l) (take_more ats i (pos 0) lt) ∙ places_more first (take i ats) x ∙ ap (λ j. front ++ place_code (first + j) x) many in
    let e3 : new ≡ appended code (place_code (first + i) x) = e2 ∙ ap (λ q. appended code (Const 1 (Number q) ∷ Const 2 (Number x) ∷ StoreWord Scratch 1 2 ∷ [])) ez in
    grows_then old code new front (place_code (first + i) x) e1 e3 ∙ ap (λ l. appended old l) (places_behind front (first + i) x ∙ sym grown)

-- ---- what they do

places_step : (first : ℕ) (at : ℤ) (ats : List ℤ) (rest : List Op) → joined (places_code first (at ∷ ats)) rest ≡ joined (place_code first at) (joined (places_code (first + 1) ats) rest)
unfolding places_code
places_step first at ats rest =
    let others = places_code (first + 1) ats in
    let count : suc (suc (suc (length others))) ≡ 3 + length others = omega arith in
    ap (λ l. Const 1 (Number (pos first)) ∷ Const 2 (Number at) ∷ StoreWord Scratch 1 2 ∷ l)
    (ap (λ i. others ++ placed i rest) count ∙ ap (λ l. l ++ placed (3 + length others) rest) (sym (places_placed 3 (first + 1) ats)) ∙ sym (placed_joined 3 others rest))

module _ (g : Setting) (next : ℕ) (rest : List Op) (inside : is_part rest ≡ true) (s : State) (failed : Option ℕ) (r : Registers) (step : Step) (cost : ℕ) where
  abbrev pub at_places : ℤ → ℤ → (ℕ → ℤ) → ℕ → Micro
  at_places x y words w = record { state = s; registers = record r { r1 = x; r2 = y }; scratch = words; failed = failed; spent = w }

  -- the places, where the code behind them does the rest
  pub places_go : (ats : List ℤ) (first : ℕ) (x y : ℤ) (words : ℕ → ℤ) (w : ℕ) → first + length ats ≤ 8000 →
      ((x' y' : ℤ) (words' : ℕ → ℤ) (w' : ℕ) → Lined words first ats words' → w' ≡ w + 44 * length ats → Makes g next rest 0 (at_places x' y' words' w') step cost) →
      Makes g next (joined (places_code first ats) rest) 0 (at_places x y words w) step cost
  unfolding places_code
  places_go [] first x y words w small exit = then_part [] inside (omega arith) (exit x y words w (lined_none words first) (omega arith))
  places_go (at ∷ ats) first x y words w small exit =
      let t = fits_word first (omega arith) in
      let rest' = joined (places_code (first + 1) ats) rest in
      let inside' = part_joined (places_code (first + 1) ats) rest (places_fit (length (places_code (first + 1) ats)) (first + 1) ats) inside in
      subst (λ ops. Makes g next ops 0 (at_places x y words w) step cost) (sym (places_step first at ats rest))
      (by_way (then_part (place_code first at) inside' (omega arith) (places_go ats (first + 1) (pos first) at (with_word words first at) (w + 8 + 8 + 28) (omega arith)
      (λ x' y' words' w' lined pays. exit x' y' words' w' (lined_more words first at ats words' lined) (omega (arith, pays)))))
      (λ f z. record { fuel = more 3 f; meets = simp t z }))

  module _ (apart : ℤ) (first0 count0 : ℕ) where
    abbrev pub at_line : ℕ → ℕ → ℤ → (ℕ → ℤ) → ℕ → Micro
    at_line i left at words w = record { state = s; registers = record r { r1 = pos i; r3 = pos left; r4 = pos 0; r5 = pos 1; r10 = at; r11 = apart }; scratch = words; failed = failed; spent = w }

    abbrev Exits : ℕ → List ℤ → (ℕ → ℤ) → ℕ → Type 0
    Exits i ats words paid = (i' : ℕ) (at' : ℤ) (words' : ℕ → ℤ) (w' : ℕ) → Lined words i ats words' → w' ≡ paid → Makes g next rest 0 (at_line i' 0 at' words' w') step cost

    line_loop : (left i : ℕ) (at : ℤ) (words : ℕ → ℤ) (w : ℕ) → i + left ≤ 8000 → Exits i (line at apart left) words (w + 68 * left + 8) → Makes g next (joined (line_code first0 count0) rest) 2 (at_line i left at words w) step cost
    unfolding line line_code
    line_loop zero i at words w small exit =
        by_way (then_part (line_code first0 count0) inside (omega arith) (exit i at words (w + 8) (lined_none words i) (omega arith))) (λ f z. record { fuel = suc f; meets = z })
    line_loop (suc left) i at words w small exit =
        let z : nat_eq (suc left) 0 ≡ false = grind arith in
        let t = fits_word i (omega arith) in
        let up : wrapped_sum (pos i) (pos 1) ≡ pos (i + 1) = add_pos i 1 (i + 1) refl (omega arith) in
        let down : wrapped_difference (pos (suc left)) (pos 1) ≡ pos left = sub_one left (omega arith) in
        by_way (line_loop left (i + 1) (at ⊞ apart) (with_word words i at) (w + 8 + 28 + 8 + 8 + 8 + 8) (omega arith)
        (λ i' at' words' w' lined pays. exit i' at' words' w' (lined_more words i at (line (at ⊞ apart) apart left) words' lined) (omega (arith, pays))))
        (λ f y. record { fuel = more 6 f; meets = simp (z, t, up, down) y })

    abbrev pub before_line : ℤ → ℤ → ℤ → (ℕ → ℤ) → ℕ → Micro
    before_line x y at words w = record { state = s; registers = record r { r1 = x; r3 = y; r4 = pos 0; r5 = pos 1; r10 = at; r11 = apart }; scratch = words; failed = failed; spent = w }

    pub line_goes : (x y at : ℤ) (words : ℕ → ℤ) (w : ℕ) → first0 + count0 ≤ 8000 → Exits first0 (line at apart count0) words (w + 68 * count0 + 24) → Makes g next (joined (line_code first0 count0) rest) 0 (before_line x y at words w) step cost
    unfolding line_code
    line_goes x y at words w small exit =
        by_way (line_loop count0 first0 at words (w + 8 + 8) small (λ i' at' words' w' lined pays. exit i' at' words' w' lined (omega (arith, pays)))) (λ f z. record { fuel = more 2 f; meets = z })
