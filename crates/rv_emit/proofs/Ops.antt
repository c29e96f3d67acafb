-- What is known of the operations of a code that can be emitted, each by its number.
use Rattle.std.proofs.Common.{◌≡◌, ℕ, zero, suc, ◌-◌, ◌^◌, ◌<◌, ◌≤◌, ◌⊎◌, inl, inr, Bool, List, [], ◌∷◌, length, get_or, Some, sym, ap, subst, ◌∙◌, arith}
use Rattle.std.proofs.lemmas.Bool.{cases_lt}
use Rattle.std.proofs.lemmas.List.{get_or_past}
use Rattle.std.proofs.lemmas.List.Sums.{sum_by-take-le}
use Rattle.std.proofs.lemmas.Option.{slice_get-get_or, slice_get_within, same_Some}
use Rattle.std.specs.Prelude.{All, IsTrue, pos, slice_get, sum_by, ◌&&◌}
use Rattle.layout_params.specs.Parameters.{Settings}
use Rattle.sil_micro.specs.declared.op.Fixed.TheVariants.{Number}
use Rattle.sil_micro.specs.declared.op.Op.{Op}
use Rattle.sil_micro.specs.declared.op.Op.TheVariants.{Const, Jump, JumpIf, UnitCall, Begin}
use Rattle.sil_micro.specs.declared.op.Text.TheVariants as text
use Rattle.sil_micro.specs.Codes.{MicroCode, entry_of, op_leads}
use Rattle.sil_micro.specs.Forms.{all_ops, is_op}
use Rattle.sil_micro.specs.Pieces.{names_within}
use Rattle.rv_operations.specs.declared.places.Links.{Links}
use Rattle.rv_operations.specs.Links.{format_length, format_place, links_of}
use Rattle.rv_operations.specs.CodePlaces.{Places}
use Rattle.rv_operations.specs.OpSites.{CanStand, HasRules, IsBegun}
use Rattle.rv_operations.proofs.OpRules.{rules}
use Rattle.rv_emit.specs.Code.{places_of, site_of}
use Rattle.rv_emit.specs.Emits.{CanEmit}
use Rattle.rv_emit.specs.Planned.{IsWord}
use Rattle.rv_emit.proofs.Images.{entry_within}

-- what holds of an operation of a code
pub record IsOpOf (c : MicroCode) (op : Op) : Type 0 where
  pub rules : HasRules op
  pub begun : IsBegun op
  pub leads : IsTrue (op_leads (length c.ops) op)
  pub names : IsTrue (names_within (length c.entries) (length c.formats) op)

first_true : (a b : Bool) → IsTrue (a && b) → IsTrue a
first_true a b h = grind arith

second_true : (a b : Bool) → IsTrue (a && b) → IsTrue b
second_true a b h = grind arith

test_at : (test : Op → Bool) (ops : List Op) (q : ℕ) (op : Op) → IsTrue (all_ops test ops) → slice_get ops q ≡ Some op → IsTrue (test op)
test_at test [] q op h e = absurd cc
test_at test (first ∷ ops) zero op h e =
    let same : first ≡ op = cc in
    subst (λ o. IsTrue (test o)) same (first_true (test first) (all_ops test ops) h)
test_at test (first ∷ ops) (suc q) op h e = test_at test ops q op (second_true (test first) (all_ops test ops) h) e

begun : (c : MicroCode) (settings : Settings) → CanEmit c settings → (q : ℕ) (op : Op) → slice_get c.ops q ≡ Some op → IsBegun op
begun c settings can q (Begin k) e = omega (arith, entry_within c k q (can.whole.begins q k e), can.whole.few)
begun c settings can q _ e = tt

pub op_at : (c : MicroCode) (settings : Settings) → CanEmit c settings → (q : ℕ) (op : Op) → slice_get c.ops q ≡ Some op → IsOpOf c op
op_at c settings can q op e = record {
  rules = rules op (test_at is_op c.ops q op can.code.rules e);
  begun = begun c settings can q op e;
  leads = test_at (op_leads (length c.ops)) c.ops q op can.whole.jumps e;
  names = test_at (names_within (length c.entries) (length c.formats)) c.ops q op can.whole.names e;
}

-- an entry is within the code
pub entry_near : (c : MicroCode) (settings : Settings) → CanEmit c settings → (k q : ℕ) → entry_of c k ≡ Some q → q ≤ length c.ops
entry_near c settings can k q e =
    let at = can.whole.entries k (entry_within c k q e) in
    let same : at.0 ≡ q = same_Some at.0 q (sym at.1 ∙ e) in
    omega (arith, slice_get_within c.ops at.0 (Begin k) at.2)

-- ---- what an operation is linked to

text_near : (formats : List (List ℕ)) (i : ℕ) → sum_by length formats ≤ 2097152 → format_place formats i < 2 ^ 31 - 2 ^ 11
text_near formats i few = omega (arith, sum_by-take-le length formats i)

text_short : (formats : List (List ℕ)) (i : ℕ) → All (λ text. length text ≤ 256) formats → format_length formats i ≤ 256
text_short formats i short = by_order (cases_lt i (length formats))
  where
    by_order : (i < length formats) ⊎ (length formats ≤ i) → format_length formats i ≤ 256
    by_order (inl lt) = short i [] lt
    by_order (inr le) = let none = ap length (get_or_past formats i [] le) in omega arith

abbrev AreNear : Links → Type 0
AreNear links = (links.text < 2 ^ 31 - 2 ^ 11) × (links.text_len ≤ 256)

links_near : (settings : Settings) (statics : ℕ) (formats : List (List ℕ)) (places : Places) (op : Op) → sum_by length formats ≤ 2097152 → All (λ text. length text ≤ 256) formats → AreNear (links_of settings statics formats places op)
links_near settings statics formats places (UnitCall call unit to (text.Format i) values) few short = (text_near formats i few, text_short formats i short)
links_near settings statics formats places (UnitCall call unit to text.None values) few short = (omega arith, omega arith)
links_near settings statics formats places (UnitCall call unit to (text.Chars at len) values) few short = (omega arith, omega arith)
links_near settings statics formats places (Const to value) few short = (omega arith, omega arith)
links_near settings statics formats places (Jump to) few short = (omega arith, omega arith)
links_near settings statics formats places (JumpIf test left right to) few short = (omega arith, omega arith)
links_near settings statics formats places _ few short = (omega arith, omega arith)

-- an operation of the code can stand at a place, and its number is a word
pub can_stand : (c : MicroCode) (settings : Settings) → CanEmit c settings → (op : Op) → IsOpOf c op → (place : ℕ) → place < 2 ^ 31 - 2 ^ 13 → CanStand (site_of settings c place op) op
can_stand c settings can op of place low =
    let near = links_near settings c.static_cells c.formats (places_of settings c) op can.format_bytes can.format_lengths in
    record { place = low; text = near.0; text_len = near.1; number = of.begun }

pub number_fits : (c : MicroCode) (settings : Settings) (op : Op) → IsWord settings c.static_cells op → (links_of settings c.static_cells c.formats (places_of settings c) op).number < 2 ^ 64
number_fits c settings (Const to value) word = word.fits
number_fits c settings (Jump to) word = omega arith
number_fits c settings (JumpIf test left right to) word = omega arith
number_fits c settings (UnitCall call unit to text.None values) word = omega arith
number_fits c settings (UnitCall call unit to (text.Format i) values) word = omega arith
number_fits c settings (UnitCall call unit to (text.Chars at len) values) word = omega arith
number_fits c settings _ word = omega arith

-- ---- the operation of a number, as code reads it

abbrev pub no_op : Op
no_op = Const 0 (Number (pos 0))

pub op_there : (c : MicroCode) (ops : List Op) (q : ℕ) → ops ≡ c.ops → q < length ops → slice_get c.ops q ≡ Some (get_or ops q no_op)
op_there c ops q is lt = ap (λ os. slice_get os q) (sym is) ∙ slice_get-get_or ops q no_op lt

pub op_known : (c : MicroCode) (settings : Settings) → CanEmit c settings → (ops : List Op) (q : ℕ) → ops ≡ c.ops → q < length ops → IsOpOf c (get_or ops q no_op)
op_known c settings can ops q is lt = op_at c settings can q (get_or ops q no_op) (op_there c ops q is lt)
