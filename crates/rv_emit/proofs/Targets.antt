-- The places that jumps go to are near.
use Rattle.std.proofs.Common.{◌≡◌, ℕ, zero, suc, ◌<◌, ◌≤◌, List, [], ◌∷◌, length, Option, Some, None, Bool, true, false, cond, ◌==◌, refl, sym, subst, ◌∙◌, arith}
use Rattle.std.proofs.lemmas.Option.{same_Some, slice_get_within, get_or_from_slice_get}
use Rattle.std.specs.Prelude.{IsTrue, slice_get}
use Rattle.std.specs.Option.{option_map}
use Rattle.layout_params.specs.Parameters.{Settings}
use Rattle.layout_params.proofs.LegalLemmas.{both_true}
use Rattle.sil_micro.specs.declared.op.Fixed.TheVariants.{Number}
use Rattle.sil_micro.specs.declared.op.Op.{Op}
use Rattle.sil_micro.specs.declared.op.Op.TheVariants.{Const, Jump, JumpIf, Begin}
use Rattle.sil_micro.specs.declared.op.Target.{Target}
use Rattle.sil_micro.specs.declared.op.Target.TheVariants.{Op as Place, Statement}
use Rattle.sil_micro.specs.Codes.{MicroCode, entry_of, place_of, return_of, setting_of, targets_within, op_leads}
use Rattle.sil_micro.specs.Forms.{all_ops}
use Rattle.sil_micro.specs.Pieces.{names_statement, names_within}
use Rattle.image_file.specs.Image.{Image}
use Rattle.rv_operations.specs.Ops.{IsNear, NamesNear}
use Rattle.rv_operations.specs.CodePlaces.{target_place}
use Rattle.rv_emit.specs.Code.{op_place, place_from, places_of}
use Rattle.rv_emit.specs.Emits.{HasNumber}
use Rattle.rv_emit.proofs.Placed.{place_even, place_near}
use Rattle.rv_emit.proofs.Images.{IsEmitted, entry_within}

-- what all operations keep, each does
pub op_keeps : (test : Op → Bool) (ops : List Op) (q : ℕ) (op : Op) → IsTrue (all_ops test ops) → slice_get ops q ≡ Some op → IsTrue (test op)
op_keeps test [] q op h e = absurd cc
op_keeps test (first ∷ ops) zero op h e = subst (λ x. IsTrue (test x)) (same_Some first op e) (both_true (test first) (all_ops test ops) h).0
op_keeps test (first ∷ ops) (suc q) op h e = op_keeps test ops q op (both_true (test first) (all_ops test ops) h).1 e

mapped : {A B : Type 0} (f : A → B) (o : Option A) (y : B) → option_map f o ≡ Some y → (x : A) × (o ≡ Some x) × (f x ≡ y)
mapped f None y e = absurd cc
mapped f (Some x) y e = (x, refl, same_Some (f x) y e)

module _ {image : Image} {settings : Settings} {c : MicroCode} (em : IsEmitted image settings c) where
  near : (q : ℕ) → q ≤ length c.ops → IsNear (op_place settings c q)
  near q h = let low = place_near settings c em.can q h in (omega arith, place_even settings c q)

  near_from : (o : Option ℕ) → ((q : ℕ) → o ≡ Some q → q ≤ length c.ops) → IsNear (place_from settings c o)
  near_from None h = near (length c.ops) (omega arith)
  near_from (Some q) h = near q (h q refl)

  -- a statement's place, and that after the last
  within_by : (k q : ℕ) (b : Bool) → k ≤ length c.entries → (k == length c.entries) ≡ b → cond b (Some (length c.ops)) (entry_of c k) ≡ Some q → q ≤ length c.ops
  within_by k q true le is e = let same = same_Some (length c.ops) q e in omega arith
  within_by k q false le is e =
      let lt : k < length c.entries = grind arith in
      let there = em.can.whole.entries k lt in
      let same = same_Some q there.0 (sym e ∙ there.1) in
      let within = slice_get_within c.ops there.0 (Begin k) there.2 in
      omega arith

  pub statement_near : (k : ℕ) → k ≤ length c.entries → IsNear (place_from settings c (place_of c k))
  statement_near k le = near_from (place_of c k) (λ q e. within_by k q (k == length c.entries) le refl e)

  pub entry_near : (k to : ℕ) → k < length c.entries → Some (place_from settings c (place_of c k)) ≡ Some to → IsNear to
  entry_near k to lt e = subst IsNear (same_Some (place_from settings c (place_of c k)) to e) (statement_near k (omega arith))

  pub return_near : (k to : ℕ) → (places_of settings c).returns k ≡ Some to → IsNear to
  return_near k to e =
      let m = mapped (op_place settings c) (return_of c k) to e in
      subst IsNear m.2 (near m.0 (em.can.whole.returns k m.0 m.1))

  -- ---- what operations name

  target_near : (to : Target) → IsTrue (targets_within (length c.ops) to) → IsTrue (names_statement (length c.entries) to) → IsNear (target_place (places_of settings c) to)
  target_near (Place q) a b = near q (grind arith)
  target_near (Statement k) a b = statement_near k (grind arith)

  has_number : (q : ℕ) (op : Op) → slice_get c.ops q ≡ Some op → HasNumber op
  has_number q op e = subst HasNumber (get_or_from_slice_get c.ops q op op e) (em.numbers q op (slice_get_within c.ops q op e))

  names_by : (bound q : ℕ) (op : Op) → slice_get c.ops q ≡ Some op → IsTrue (op_leads (length c.ops) op) → IsTrue (names_within (length c.entries) (length c.formats) op) → HasNumber op → NamesNear (setting_of c settings bound) (places_of settings c) op
  names_by bound q (Const to (Number n)) e leads names number = number
  names_by bound q (Jump to) e leads names number = target_near to leads names
  names_by bound q (JumpIf test left right to) e leads names number = target_near to leads names
  names_by bound q (Begin k) e leads names number =
      let lt = entry_within c k q (em.can.whole.begins q k e) in
      omega arith
  names_by bound q _ e leads names number = tt

  pub names_near : (bound q : ℕ) (op : Op) → slice_get c.ops q ≡ Some op → NamesNear (setting_of c settings bound) (places_of settings c) op
  names_near bound q op e = names_by bound q op e (op_keeps (op_leads (length c.ops)) c.ops q op em.can.whole.jumps e) (op_keeps (names_within (length c.entries) (length c.formats)) c.ops q op em.can.whole.names e) (has_number q op e)
