-- The A fields of items are put into scratch words.
use Rattle.std.proofs.Common.{◌≡◌, ℕ, suc, ◌+◌, ◌*◌, ◌<◌, ◌≤◌, List, [], ◌∷◌, ◌++◌, length, Option, true, refl, sym, ap, ◌∙◌, subst, take, get_or, length-take, arith}
use Rattle.std.proofs.lemmas.List.{take_more}
use Rattle.std.specs.Prelude.{ℤ, pos}
use Rattle.layout_params.specs.declared.cell.Field.TheVariants.{A}
use Rattle.sil_model.specs.Access.{◌>>=◌, descr_at}
use Rattle.sil_model.specs.Effects.{Effect}
use Rattle.sil_model.specs.Lists.{all_a_read}
use Rattle.sil_model.specs.Settling.{settle}
use Rattle.sil_model.specs.States.{State}
use Rattle.sil_micro.specs.declared.op.Area.TheVariants.{Scratch}
use Rattle.sil_micro.specs.declared.op.Fixed.TheVariants.{Number}
use Rattle.sil_micro.specs.declared.op.Op.{Op}
use Rattle.sil_micro.specs.declared.op.Op.TheVariants.{Const, LoadField, StoreWord}
use Rattle.sil_micro.specs.Codes.{MicroCode, appended}
use Rattle.sil_micro.specs.Expands.{Makes}
use Rattle.sil_micro.specs.Forms.{all_ops}
use Rattle.sil_micro.specs.MicroStates.{Setting, Micro, Registers}
use Rattle.sil_micro.specs.Operations.{with_word}
use Rattle.sil_micro.specs.Pieces.{placed, joined, is_part, fits_part, is_no_begin, is_quiet, names_within, weights}
use Rattle.sil_micro.specs.UnitCalls.{words_from}
use Rattle.sil_micro.proofs.Making.{by_option, by_way, more, then_part}
use Rattle.sil_micro.proofs.Parts.{placed_joined, part_joined}
use Rattle.exp_common.proofs.JoinedParts.{IsPart, grows_then}
use Rattle.exp_stack.proofs.ScratchWords.{HoldsAt, Lined, lined_none, lined_more, fits_word, bind_assoc}
use Rattle.exp_units.specs.UnitParts.{items_code}

-- the operations of one item
abbrev pub item_code : ℕ → ℤ → List Op
item_code first at = Const 1 (Number at) ∷ LoadField A 2 1 ∷ Const 3 (Number (pos first)) ∷ StoreWord Scratch 3 2 ∷ []

-- ---- what holds of their operations

items_placed : (b first : ℕ) (ats : List ℤ) → placed b (items_code first ats) ≡ items_code first ats
unfolding placed items_code
items_placed b first [] = refl
items_placed b first (at ∷ ats) = ap (λ l. Const 1 (Number at) ∷ LoadField A 2 1 ∷ Const 3 (Number (pos first)) ∷ StoreWord Scratch 3 2 ∷ l) (items_placed b (first + 1) ats)

items_fit : (size first : ℕ) (ats : List ℤ) → all_ops (fits_part size) (items_code first ats) ≡ true
unfolding items_code
items_fit size first [] = refl
items_fit size first (at ∷ ats) = items_fit size (first + 1) ats

items_begin : (first : ℕ) (ats : List ℤ) → all_ops is_no_begin (items_code first ats) ≡ true
unfolding items_code
items_begin first [] = refl
items_begin first (at ∷ ats) = items_begin (first + 1) ats

items_name : (statements formats first : ℕ) (ats : List ℤ) → all_ops (names_within statements formats) (items_code first ats) ≡ true
unfolding items_code
items_name statements formats first [] = refl
items_name statements formats first (at ∷ ats) = items_name statements formats (first + 1) ats

items_quiet : (first : ℕ) (ats : List ℤ) → all_ops is_quiet (items_code first ats) ≡ true
unfolding items_code
items_quiet first [] = refl
items_quiet first (at ∷ ats) = items_quiet (first + 1) ats

items_weight : (first : ℕ) (ats : List ℤ) → weights (items_code first ats) ≡ 72 * length ats
unfolding items_code
items_weight first [] = refl
items_weight first (at ∷ ats) = omega (arith, items_weight (first + 1) ats)

pub items_part : (statements formats first : ℕ) (ats : List ℤ) → IsPart statements formats (72 * length ats) (items_code first ats)
items_part statements formats first ats = record {
  part = items_fit (length (items_code first ats)) first ats;
  begins = items_begin first ats;
  names = items_name statements formats first ats;
  quiet = items_quiet first ats;
  weight = items_weight first ats;
}

-- ---- the loop that appends them

items_more : (first : ℕ) (ats : List ℤ) (at : ℤ) → items_code first (ats ++ at ∷ []) ≡ items_code first ats ++ item_code (first + length ats) at
unfolding items_code
items_more first [] at = let e : first ≡ first + 0 = omega arith in ap (λ i. item_code i at) e
items_more first (x ∷ ats) at =
    let e : first + 1 + length ats ≡ first + suc (length ats) = omega arith in
    ap (λ l. Const 1 (Number x) ∷ LoadField A 2 1 ∷ Const 3 (Number (pos first)) ∷ StoreWord Scratch 3 2 ∷ l) (items_more (first + 1) ats at ∙ ap (λ i. items_code (first + 1) ats ++ item_code i at) e)

items_behind : (front : List Op) (first : ℕ) (x : ℤ) → joined front (item_code first x) ≡ front ++ item_code first x
unfolding placed
items_behind front first x = refl

-- a turn of it
pub items_grow : (i : ℕ) (z : ℤ) (ats : List ℤ) (old code new : MicroCode) → z ≡ pos i → i < length ats → code ≡ appended old (items_code 0 (take i ats)) →
    new ≡ appended code (Const 1 (Number (get_or ats i (pos 0))) ∷ LoadField A 2 1 ∷ Const 3 (Number z) ∷ StoreWord Scratch 3 2 ∷ []) → new ≡ appended old (items_code 0 (take (i + 1) ats))
items_grow i z ats old code new ez lt e1 e2 =
    let x = get_or ats i (pos 0) in
    let many : 0 + length (take i ats) ≡ i = simp length-take (omega arith) in
    let front = items_code 0 (take i ats) in
    let grown : items_code 0 (take (i + 1) ats) ≡ front ++ item_code i x =
    ap (λ l. items_code 0 l) (take_more ats i (pos 0) lt) ∙ items_more 0 (take i ats) x ∙ ap (λ j. front ++ item_code j x) many in
    let e3 : new ≡ appended code (item_code i x) = e2 ∙ ap (λ q. appended code (Const 1 (Number x) ∷ LoadField A 2 1 ∷ Const 3 (Number q) ∷ StoreWord Scratch 3 2 ∷ [])) ez in
    grows_then old code new front (item_code i x) e1 e3 ∙ ap (λ l. appended old l) (items_behind front i x ∙ sym grown)

-- ---- what they do

items_step : (first : ℕ) (at : ℤ) (ats : List ℤ) (rest : List Op) → joined (items_code first (at ∷ ats)) rest ≡ joined (item_code first at) (joined (items_code (first + 1) ats) rest)
unfolding items_code
items_step first at ats rest =
    let others = items_code (first + 1) ats in
    let count : suc (suc (suc (suc (length others)))) ≡ 4 + length others = omega arith in
    ap (λ l. Const 1 (Number at) ∷ LoadField A 2 1 ∷ Const 3 (Number (pos first)) ∷ StoreWord Scratch 3 2 ∷ l)
    (ap (λ i. others ++ placed i rest) count ∙ ap (λ l. l ++ placed (4 + length others) rest) (sym (items_placed 4 (first + 1) ats)) ∙ sym (placed_joined 4 others rest))

-- the words from one on hold these
pub held_words : (words : ℕ → ℤ) (i : ℕ) (xs : List ℤ) → HoldsAt words i xs → words_from words i (length xs) ≡ xs
held_words words i [] h = refl
held_words words i (x ∷ xs) h =
    let next : suc i ≡ i + 1 = omega arith in
    ap (λ y. y ∷ words_from words (suc i) (length xs)) h.0 ∙ ap (λ l. x ∷ l) (ap (λ j. words_from words j (length xs)) next ∙ held_words words (i + 1) xs h.1)

module _ (g : Setting) (next : ℕ) (rest : List Op) (inside : is_part rest ≡ true) (before : State) (failed : Option ℕ) (r : Registers) (cost : ℕ) where
  abbrev begun : State
  begun = record before { steps = before.steps + 1 }

  abbrev pub at_items : ℤ → ℤ → ℤ → (ℕ → ℤ) → ℕ → Micro
  at_items x y z words w = record { state = begun; registers = record r { r1 = x; r2 = y; r3 = z }; scratch = words; failed = failed; spent = w }

  -- what was read is in the words, and what comes behind goes on with it
  abbrev Exits : ℕ → ℕ → (ℕ → ℤ) → (List ℤ → Effect) → ℕ → Type 0
  Exits first count words go paid = (numbers : List ℤ) (x' y' z' : ℤ) (words' : ℕ → ℤ) (w' : ℕ) → length numbers ≡ count → Lined words first numbers words' → w' ≡ paid →
      Makes g next rest 0 (at_items x' y' z' words' w') (settle before (go numbers)) cost

  pub items_go : (ats : List ℤ) (first : ℕ) (x y z : ℤ) (words : ℕ → ℤ) (w : ℕ) (go : List ℤ → Effect) → first + length ats ≤ 8000 → w + 72 * length ats ≤ cost →
      Exits first (length ats) words go (w + 72 * length ats) → Makes g next (joined (items_code first ats) rest) 0 (at_items x y z words w) (settle before (all_a_read before.memory ats >>= go)) cost
  unfolding items_code all_a_read
  items_go [] first x y z words w go small pays exit = then_part [] inside (omega arith) (exit [] x y z words w refl (lined_none words first) (omega arith))
  items_go (at ∷ ats) first x y z words w go small pays exit =
      let t = fits_word first (omega arith) in
      let inside' = part_joined (items_code (first + 1) ats) rest (items_fit (length (items_code (first + 1) ats)) (first + 1) ats) inside in
      subst (λ ops. Makes g next ops 0 (at_items x y z words w) (settle before (all_a_read before.memory (at ∷ ats) >>= go)) cost) (sym (items_step first at ats rest))
      (by_option (descr_at before.memory at)
      (λ e. record { fuel = 3; meets = simp e (refl, refl, omega (arith, pays)) })
      (λ d e.
      by_way (then_part (item_code first at) inside' (omega arith) (items_go ats (first + 1) at d.a (pos first) (with_word words first d.a) (w + 8 + 28 + 8 + 28) (λ numbers. go (d.a ∷ numbers)) (omega arith) (omega (arith, pays))
      (λ numbers x' y' z' words' w' many lined paid. exit (d.a ∷ numbers) x' y' z' words' w' (ap suc many) (lined_more words first d.a numbers words' lined) (omega (arith, paid)))))
      (λ f q. record { fuel = more 4 f; meets = simp (e, t, bind_assoc) q })))
