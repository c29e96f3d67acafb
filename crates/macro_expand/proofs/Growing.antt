-- A code that grows statement by statement.
use Rattle.std.proofs.Common.{◌≡◌, ℕ, zero, suc, ◌+◌, ◌*◌, ◌<◌, ◌≤◌, ◌==◌, List, [], ◌∷◌, ◌++◌, length, Option, Some, None, Bool, true, false, ◌&&◌, ◌||◌, refl, sym, ap, ◌∙◌, arith}
use Rattle.std.proofs.lemmas.Bool.Decides.{nat_tests}
use Rattle.std.proofs.lemmas.Option.{slice_get_read}
use Rattle.std.specs.Prelude.{get_or, slice_get, if◌then◌else◌}
use Rattle.sil_model.specs.declared.program.Program.{Program}
use Rattle.sil_model.specs.declared.program.Statement.{Statement}
use Rattle.flow_clauses.specs.CallClauses.{is_rcall}
use Rattle.sil_model.specs.Prints.{writes_records, IsSilent}
use Rattle.sil_micro.specs.declared.op.Op.{Op}
use Rattle.sil_micro.specs.declared.op.Op.TheVariants.{Begin, Jump, JumpIf}
use Rattle.sil_micro.specs.declared.op.Target.{Target}
use Rattle.sil_micro.specs.declared.op.Target.TheVariants.{Op as Place, Statement as ToStatement}
use Rattle.sil_micro.specs.Codes.{MicroCode, entry_of, return_of, targets_within, op_leads}
use Rattle.sil_micro.specs.Expands.{IsPiece}
use Rattle.sil_micro.specs.Forms.{is_op, all_ops}
use Rattle.sil_micro.specs.Pieces.{placed, placed_op, placed_target, target_within, op_within, fits_part, is_no_begin, is_quiet, begins_once, names_within, weights}
use Rattle.sil_micro.proofs.Moved.{and_first, and_second, op_at}
use Rattle.exp_calls.specs.Group.{is_return}
use Rattle.macro_expand.specs.Expanded.{DoesStep, HasReturns}

-- ---- lists

pub get_left : {A : Type 0} (a b : List A) (i : ℕ) (x : A) → slice_get a i ≡ Some x → slice_get (a ++ b) i ≡ Some x
get_left [] b i x e = absurd (cc)
get_left (y ∷ a) b zero x e = e
get_left (y ∷ a) b (suc i) x e = get_left a b i x e

pub get_front : {A : Type 0} (a b : List A) (i : ℕ) → i < length a → slice_get (a ++ b) i ≡ slice_get a i
get_front [] b i lt = absurd (omega (arith, lt))
get_front (y ∷ a) b zero lt = refl
get_front (y ∷ a) b (suc i) lt = get_front a b i (omega (arith, lt))

pub get_right : {A : Type 0} (a b : List A) (i : ℕ) → slice_get (a ++ b) (length a + i) ≡ slice_get b i
get_right [] b i = let e : 0 + i ≡ i = omega arith in ap (λ j. slice_get b j) e
get_right (y ∷ a) b i = let e : suc (length a) + i ≡ suc (length a + i) = omega arith in ap (λ j. slice_get (y ∷ (a ++ b)) j) e ∙ get_right a b i

pub get_placed : (base : ℕ) (ops : List Op) (i : ℕ) (op : Op) → slice_get ops i ≡ Some op → slice_get (placed base ops) i ≡ Some (placed_op base op)
unfolding placed
get_placed base [] i op e = absurd (cc)
get_placed base (o ∷ ops) zero op e = let same : o ≡ op = cc in ap (λ x. Some (placed_op base x)) same
get_placed base (o ∷ ops) (suc i) op e = get_placed base ops i op e

-- where a Begin stands in a placed piece, it stands in the piece
pub begin_placed : (base : ℕ) (ops : List Op) (i k : ℕ) → slice_get (placed base ops) i ≡ Some (Begin k) → slice_get ops i ≡ Some (Begin k)
unfolding placed
begin_placed base [] i k e = absurd (cc)
begin_placed base (Jump to ∷ ops) zero k e = absurd (cc)
begin_placed base (JumpIf test left right to ∷ ops) zero k e = absurd (cc)
begin_placed base (_ ∷ ops) zero k e = e
begin_placed base (o ∷ ops) (suc i) k e = begin_placed base ops i k e

-- it stands there first
pub first_begin : (piece : List Op) (i k j : ℕ) → begins_once piece ≡ true → slice_get piece 0 ≡ Some (Begin k) → slice_get piece i ≡ Some (Begin j) → (i ≡ 0) × (j ≡ k)
first_begin [] i k j once first e = absurd (cc)
first_begin (op ∷ ops) zero k j once first e = let a : Begin k ≡ Begin j = cc in (refl, cc)
first_begin (op ∷ ops) (suc i) k j once first e = let no : is_no_begin (Begin j) ≡ true = op_at is_no_begin ops i (Begin j) once e in absurd (cc)

-- ---- statements so far

-- the statement that was read at a place
pub statement_at : (program : Program) (items : List Statement) (k : ℕ) (statement : Statement) → items ≡ program.statements → k < length items → statement ≡ get_or items k statement → slice_get program.statements k ≡ Some statement
statement_at program items k statement e lt is = ap (λ l. slice_get l k) (sym e) ∙ slice_get_read items (length items) k statement refl lt is

-- the place of statement k, of which those below i have one
abbrev pub place_so_far : MicroCode → ℕ → ℕ → Option ℕ
place_so_far c i k = if k == i then Some (length c.ops) else entry_of c k

pub record Stands (c : MicroCode) (program : Program) (i k : ℕ) (statement : Statement) : Type 0 where
  pub base : ℕ
  pub piece : List Op
  pub entry : entry_of c k ≡ Some base
  pub each : (j : ℕ) (op : Op) → slice_get piece j ≡ Some op → slice_get c.ops (base + j) ≡ Some (placed_op base op)
  pub follows : place_so_far c i (k + 1) ≡ Some (base + length piece)
  pub is_piece : IsPiece k (length c.entries) (length c.formats) (writes_records statement.name) piece
  pub does : DoesStep (is_return statement.name) c.formats k piece program.specials statement.name statement.args
  pub returns : HasReturns (is_rcall statement.name) c k base piece statement.args

pub record SoFar (program : Program) (i : ℕ) (c : MicroCode) : Type 0 where
  pub statements : length c.entries ≡ length program.statements
  pub static_cells : c.static_cells ≡ length program.cells
  pub formats : c.formats ≡ program.formats
  pub set : (k : ℕ) → k < i → (place : ℕ) × (entry_of c k ≡ Some place)
  pub unset : (k : ℕ) → i ≤ k → entry_of c k ≡ None
  pub begun : (k place : ℕ) → entry_of c k ≡ Some place → slice_get c.ops place ≡ Some (Begin k)
  pub rise : (j k place next : ℕ) → j < k → entry_of c j ≡ Some place → entry_of c k ≡ Some next → place < next
  pub begins : (place k : ℕ) → slice_get c.ops place ≡ Some (Begin k) → entry_of c k ≡ Some place
  pub count : length c.returns ≡ length c.entries
  pub unreturned : (k : ℕ) → i ≤ k → return_of c k ≡ None
  pub returns : (k place : ℕ) → return_of c k ≡ Some place → place ≤ length c.ops
  pub jumps : all_ops (op_leads (length c.ops)) c.ops ≡ true
  pub names : all_ops (names_within (length c.entries) (length c.formats)) c.ops ≡ true
  pub quiet : IsSilent program → all_ops is_quiet c.ops ≡ true
  pub light : weights c.ops ≤ 12000 * i
  pub each : (k : ℕ) (statement : Statement) → k < i → slice_get program.statements k ≡ Some statement → Stands c program i k statement

-- ---- jumps of a longer code

target_longer : (n m : ℕ) (target : Target) → n ≤ m → targets_within n target ≡ true → targets_within m target ≡ true
target_longer n m (Place q) le h = grind (arith, nat_tests, le)
target_longer n m (ToStatement k) le h = refl

leads_longer : (n m : ℕ) → n ≤ m → (op : Op) → op_leads n op ≡ true → op_leads m op ≡ true
leads_longer n m le (Jump to) h = target_longer n m to le h
leads_longer n m le (JumpIf test left right to) h = target_longer n m to le h
leads_longer n m le _ h = refl

pub all_longer : (n m : ℕ) → n ≤ m → (ops : List Op) → all_ops (op_leads n) ops ≡ true → all_ops (op_leads m) ops ≡ true
all_longer n m le [] h = refl
all_longer n m le (op ∷ ops) h =
    let a = leads_longer n m le op (and_first (op_leads n op) (all_ops (op_leads n) ops) h) in
    let b = all_longer n m le ops (and_second (op_leads n op) (all_ops (op_leads n) ops) h) in
    ap (λ x. x && all_ops (op_leads m) ops) a ∙ b

target_leads : (base size : ℕ) (target : Target) → target_within size target ≡ true → targets_within (base + size) (placed_target base target) ≡ true
target_leads base size (Place q) h = grind (arith, nat_tests)
target_leads base size (ToStatement k) h = refl

within_leads : (base size : ℕ) (op : Op) → op_within size op ≡ true → op_leads (base + size) (placed_op base op) ≡ true
within_leads base size (Jump to) h = target_leads base size to h
within_leads base size (JumpIf test left right to) h = target_leads base size to h
within_leads base size _ h = refl

pub part_leads : (base size : ℕ) (op : Op) → fits_part size op ≡ true → op_leads (base + size) (placed_op base op) ≡ true
part_leads base size op h = within_leads base size op (and_second (is_op op) (op_within size op) h)

pub names_placed : (statements formats b : ℕ) (op : Op) → names_within statements formats op ≡ true → names_within statements formats (placed_op b op) ≡ true
names_placed statements formats b (Jump (Place q)) h = refl
names_placed statements formats b (Jump (ToStatement k)) h = h
names_placed statements formats b (JumpIf test left right (Place q)) h = refl
names_placed statements formats b (JumpIf test left right (ToStatement k)) h = h
names_placed statements formats b _ h = h

pub quiet_placed : (b : ℕ) (op : Op) → is_quiet op ≡ true → is_quiet (placed_op b op) ≡ true
quiet_placed b (Jump to) h = refl
quiet_placed b (JumpIf test left right to) h = refl
quiet_placed b _ h = h

-- a macro that writes nothing has a piece that doesn't
pub quiet_piece : (prints : Bool) (ops : List Op) → prints ≡ false → (prints || all_ops is_quiet ops) ≡ true → all_ops is_quiet ops ≡ true
quiet_piece prints ops e h = sym (ap (λ b. b || all_ops is_quiet ops) e) ∙ h
