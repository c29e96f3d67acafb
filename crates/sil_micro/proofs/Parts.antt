-- The parts of pieces.
use Rattle.std.proofs.Common.{◌≡◌, ℕ, zero, suc, ◌+◌, ◌<◌, ◌≤◌, List, [], ◌∷◌, ◌++◌, length, map, Option, Some, None, Bool, true, false, ◌&&◌, refl, sym, ap, ◌∙◌, arith, append_assoc, length-append}
use Rattle.std.specs.Prelude.{slice_get}
use Rattle.std.specs.Option.{option_map}
use Rattle.std.proofs.lemmas.Option.{slice_get_within, slice_get-map}
use Rattle.std.proofs.lemmas.Bool.Decides.{nat_tests}
use Rattle.sil_micro.specs.declared.op.Target.{Target}
use Rattle.sil_micro.specs.declared.op.Target.TheVariants.{Op as Place, Statement}
use Rattle.sil_micro.specs.declared.op.Op.{Op}
use Rattle.sil_micro.specs.declared.op.Op.TheVariants.{Jump, JumpIf, Begin, UnitCall}
use Rattle.sil_micro.specs.Codes.{MicroCode, appended}
use Rattle.sil_micro.specs.Forms.{is_op, all_ops}
use Rattle.sil_micro.specs.Operations.{Effect, On, To, ToReturn, Over, Stuck, perform, weight}
use Rattle.sil_micro.specs.Pieces.{placed, placed_op, placed_target, joined, weights, target_within, op_within, fits_part, is_part, names_within, is_no_begin, begins_once}
use Rattle.sil_micro.specs.MicroStates.{Setting, Micro}
use Rattle.sil_micro.specs.MicroWays.{effect_of, within, way}
use Rattle.sil_micro.proofs.Moved.{moved, Stays, performs, op_inside, and_first, and_second}

part_op : (front : List Op) (b : ℕ) (part : List Op) (i : ℕ) → slice_get (front ++ placed b part) (length front + i) ≡ option_map (placed_op b) (slice_get part i)
unfolding placed
part_op [] b part i = let e : 0 + i ≡ i = omega arith in ap (λ j. slice_get (map (placed_op b) part) j) e ∙ slice_get-map (placed_op b) part i
part_op (x ∷ front) b part i = let e : suc (length front) + i ≡ suc (length front + i) = omega arith in ap (λ j. slice_get (x ∷ (front ++ placed b part)) j) e ∙ part_op front b part i

module _ (g : Setting) (next : ℕ) (front part : List Op) (inside : is_part part ≡ true) where
  abbrev Alike : ℕ → Type 0
  Alike fuel = (place : ℕ) (u : Micro) → place ≤ length part → way g next (joined front part) fuel (length front + place) u ≡ way g next part fuel place u

  through : (fuel place : ℕ) → Alike fuel → place < length part → (e : Effect) → Stays (length part) e → within (way g next (joined front part) fuel) (length front + place) (moved (length front) e) ≡ within (way g next part fuel) place e
  through fuel place all lt (On u) s =
      let e : length front + place + 1 ≡ length front + (place + 1) = omega arith in
      ap (λ x. way g next (joined front part) fuel x u) e ∙ all (place + 1) u (omega arith)
  through fuel place all lt (To (Place q) u) s = all q u s.1
  through fuel place all lt (To (Statement k) u) s = refl
  through fuel place all lt (ToReturn entry u) s = refl
  through fuel place all lt (Over end u) s = refl
  through fuel place all lt Stuck s = refl

  at_place : (fuel place : ℕ) (u : Micro) → Alike fuel → (o : Option Op) → slice_get part place ≡ o →
      within (way g next (joined front part) fuel) (length front + place) (effect_of g next (option_map (placed_op (length front)) o) u) ≡ within (way g next part fuel) place (effect_of g next o u)
  at_place fuel place u all None e = refl
  at_place fuel place u all (Some op) e =
      let s = performs (length front) (length part) g op u (op_inside part place op inside e) in
      ap (λ x. within (way g next (joined front part) fuel) (length front + place) x) s.same ∙ through fuel place all (slice_get_within part place op e) (perform g op u) s.stays

  pub alike : (fuel : ℕ) → Alike fuel
  alike zero = λ place u le. refl
  alike (suc fuel) = λ place u le.
      ap (λ o. within (way g next (joined front part) fuel) (length front + place) (effect_of g next o u)) (part_op front (length front) part place) ∙ at_place fuel place u (alike fuel) (slice_get part place) refl

-- ---- placed twice

placed_target_twice : (a b : ℕ) (target : Target) → placed_target a (placed_target b target) ≡ placed_target (a + b) target
placed_target_twice a b (Place q) = let e : a + (b + q) ≡ a + b + q = omega arith in ap (λ x. Place x) e
placed_target_twice a b (Statement k) = refl

placed_op_twice : (a b : ℕ) (op : Op) → placed_op a (placed_op b op) ≡ placed_op (a + b) op
placed_op_twice a b (Jump to) = ap (λ t. Jump t) (placed_target_twice a b to)
placed_op_twice a b (JumpIf test left right to) = ap (λ t. JumpIf test left right t) (placed_target_twice a b to)
placed_op_twice a b _ = refl

placed_twice : (a b : ℕ) (ops : List Op) → placed a (placed b ops) ≡ placed (a + b) ops
unfolding placed
placed_twice a b [] = refl
placed_twice a b (op ∷ ops) = cc (placed_op_twice a b op, placed_twice a b ops)

pub placed-append : (base : ℕ) (a b : List Op) → placed base (a ++ b) ≡ placed base a ++ placed base b
unfolding placed
placed-append base [] b = refl
placed-append base (x ∷ a) b = ap (λ l. placed_op base x ∷ l) (placed-append base a b)

pub placed_joined : (a : ℕ) (x y : List Op) → placed a (joined x y) ≡ placed a x ++ placed (a + length x) y
placed_joined a x y = placed-append a x (placed (length x) y) ∙ ap (λ l. placed a x ++ l) (placed_twice a (length x) y)

pub length_placed : (b : ℕ) (ops : List Op) → length (placed b ops) ≡ length ops
unfolding placed
length_placed b [] = refl
length_placed b (op ∷ ops) = ap suc (length_placed b ops)

pub length_joined : (x y : List Op) → length (joined x y) ≡ length x + length y
length_joined x y = length-append x (placed (length x) y) ∙ ap (λ i. length x + i) (length_placed (length x) y)

-- a code that grows by one part and then by another
pub appended_twice : (c : MicroCode) (x y : List Op) → appended (appended c x) y ≡ appended c (joined x y)
appended_twice c x y =
    let count : length (c.ops ++ placed (length c.ops) x) ≡ length c.ops + length x = length-append c.ops (placed (length c.ops) x) ∙ ap (λ i. length c.ops + i) (length_placed (length c.ops) x) in
    ap (λ l. record c { ops = l })
    (append_assoc c.ops (placed (length c.ops) x) (placed (length (c.ops ++ placed (length c.ops) x)) y)
    ∙ ap (λ l. c.ops ++ l) (ap (λ i. placed (length c.ops) x ++ placed i y) count ∙ sym (placed_joined (length c.ops) x y)))

-- ---- what holds of joined parts

pub and_both : (a b : Bool) → a ≡ true → b ≡ true → (a && b) ≡ true
and_both true b h k = k
and_both false b h k = absurd (cc)

pub all_alike : (t s : Op → Bool) (f : Op → Op) → ((op : Op) → t op ≡ true → s (f op) ≡ true) → (ops : List Op) → all_ops t ops ≡ true → all_ops s (map f ops) ≡ true
all_alike t s f alike [] h = refl
all_alike t s f alike (op ∷ ops) h = and_both _ _ (alike op (and_first _ _ h)) (all_alike t s f alike ops (and_second _ _ h))

all_weaker : (t s : Op → Bool) → ((op : Op) → t op ≡ true → s op ≡ true) → (ops : List Op) → all_ops t ops ≡ true → all_ops s ops ≡ true
all_weaker t s weaker [] h = refl
all_weaker t s weaker (op ∷ ops) h = and_both _ _ (weaker op (and_first _ _ h)) (all_weaker t s weaker ops (and_second _ _ h))

pub all_append : (t : Op → Bool) (x y : List Op) → all_ops t x ≡ true → all_ops t y ≡ true → all_ops t (x ++ y) ≡ true
all_append t [] y h k = k
all_append t (op ∷ x) y h k = and_both _ _ (and_first _ _ h) (all_append t x y (and_second _ _ h) k)

target_further : (size more : ℕ) (target : Target) → target_within size target ≡ true → target_within (size + more) target ≡ true
target_further size more (Place q) h = grind (arith, nat_tests)
target_further size more (Statement k) h = refl

target_placed : (b size : ℕ) (target : Target) → target_within size target ≡ true → target_within (b + size) (placed_target b target) ≡ true
target_placed b size (Place q) h = grind (arith, nat_tests)
target_placed b size (Statement k) h = refl

op_further : (size more : ℕ) (op : Op) → op_within size op ≡ true → op_within (size + more) op ≡ true
op_further size more (Jump to) h = target_further size more to h
op_further size more (JumpIf test left right to) h = target_further size more to h
op_further size more _ h = refl

op_placed : (b size : ℕ) (op : Op) → op_within size op ≡ true → op_within (b + size) (placed_op b op) ≡ true
op_placed b size (Jump to) h = target_placed b size to h
op_placed b size (JumpIf test left right to) h = target_placed b size to h
op_placed b size _ h = refl

pub rules_placed : (b : ℕ) (op : Op) → is_op (placed_op b op) ≡ is_op op
rules_placed b (Jump to) = refl
rules_placed b (JumpIf test left right to) = refl
rules_placed b _ = refl

fits_further : (size more : ℕ) (op : Op) → fits_part size op ≡ true → fits_part (size + more) op ≡ true
fits_further size more op h = and_both _ _ (and_first _ _ h) (op_further size more op (and_second _ _ h))

fits_placed : (b size : ℕ) (op : Op) → fits_part size op ≡ true → fits_part (b + size) (placed_op b op) ≡ true
fits_placed b size op h = and_both _ _ (rules_placed b op ∙ and_first _ _ h) (op_placed b size op (and_second _ _ h))

pub part_joined : (x y : List Op) → is_part x ≡ true → is_part y ≡ true → is_part (joined x y) ≡ true
unfolding placed
part_joined x y h k =
    ap (λ i. all_ops (fits_part i) (joined x y)) (length_joined x y)
    ∙ all_append (fits_part (length x + length y)) x (placed (length x) y) (all_weaker (fits_part (length x)) (fits_part (length x + length y)) (fits_further (length x) (length y)) x h)
    (all_alike (fits_part (length y)) (fits_part (length x + length y)) (placed_op (length x)) (fits_placed (length x) (length y)) y k)

names_placed : (statements formats b : ℕ) (op : Op) → names_within statements formats op ≡ true → names_within statements formats (placed_op b op) ≡ true
names_placed statements formats b (Jump (Place q)) h = refl
names_placed statements formats b (Jump (Statement k)) h = h
names_placed statements formats b (JumpIf test left right (Place q)) h = refl
names_placed statements formats b (JumpIf test left right (Statement k)) h = h
names_placed statements formats b (UnitCall call unit to text values) h = h
names_placed statements formats b _ h = refl

pub names_joined : (statements formats : ℕ) (x y : List Op) → all_ops (names_within statements formats) x ≡ true → all_ops (names_within statements formats) y ≡ true → all_ops (names_within statements formats) (joined x y) ≡ true
unfolding placed
names_joined statements formats x y h k =
    all_append (names_within statements formats) x (placed (length x) y) h (all_alike (names_within statements formats) (names_within statements formats) (placed_op (length x)) (names_placed statements formats (length x)) y k)

no_begin_placed : (b : ℕ) (op : Op) → is_no_begin op ≡ true → is_no_begin (placed_op b op) ≡ true
no_begin_placed b (Jump to) h = refl
no_begin_placed b (JumpIf test left right to) h = refl
no_begin_placed b (Begin k) h = h
no_begin_placed b _ h = refl

-- a part behind a first one has no Begin
pub once_joined : (op : Op) (x y : List Op) → begins_once (op ∷ x) ≡ true → all_ops is_no_begin y ≡ true → begins_once (joined (op ∷ x) y) ≡ true
unfolding placed
once_joined op x y h k = all_append is_no_begin x (placed (length (op ∷ x)) y) h (all_alike is_no_begin is_no_begin (placed_op (length (op ∷ x))) (no_begin_placed (length (op ∷ x))) y k)

pub no_begin_joined : (x y : List Op) → all_ops is_no_begin x ≡ true → all_ops is_no_begin y ≡ true → all_ops is_no_begin (joined x y) ≡ true
unfolding placed
no_begin_joined x y h k = all_append is_no_begin x (placed (length x) y) h (all_alike is_no_begin is_no_begin (placed_op (length x)) (no_begin_placed (length x)) y k)

weight_placed : (b : ℕ) (op : Op) → weight (placed_op b op) ≡ weight op
weight_placed b (Jump to) = refl
weight_placed b (JumpIf test left right to) = refl
weight_placed b _ = refl

pub weights_placed : (b : ℕ) (ops : List Op) → weights (placed b ops) ≡ weights ops
unfolding placed
weights_placed b [] = refl
weights_placed b (op ∷ ops) = cc (weight_placed b op, weights_placed b ops)

pub weights_append : (x y : List Op) → weights (x ++ y) ≡ weights x + weights y
weights_append [] y = omega arith
weights_append (op ∷ x) y = omega (arith, weights_append x y)

pub weights_joined : (x y : List Op) → weights (joined x y) ≡ weights x + weights y
weights_joined x y = weights_append x (placed (length x) y) ∙ ap (λ i. weights x + i) (weights_placed (length x) y)
