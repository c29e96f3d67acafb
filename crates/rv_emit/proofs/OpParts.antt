-- Operations and jumps of tables within the code, each at its place.
use Rattle.std.proofs.Common.{◌≡◌, ℕ, zero, suc, ◌+◌, ◌*◌, ◌<◌, List, [], ◌∷◌, length, take, length-append, Option, Some, refl, ap, subst, arith}
use Rattle.std.specs.Prelude.{slice_get, sum_by}
use Rattle.std.proofs.lemmas.List.Sums.{sum_by-cons}
use Rattle.rv_isa.specs.declared.instr.Instr.{Instr}
use Rattle.layout_params.specs.Parameters.{Settings}
use Rattle.sil_micro.specs.declared.op.Op.{Op}
use Rattle.sil_micro.specs.Codes.{MicroCode, setting_of}
use Rattle.rv_straight.specs.Jumps.{leap_code}
use Rattle.rv_operations.specs.OpCodes.{instructions}
use Rattle.rv_operations.specs.Switch.{led}
use Rattle.rv_operations.specs.Ops.{length_of}
use Rattle.rv_operations.proofs.OpRules.{lengths_in}
use Rattle.rv_emit.specs.Code.{table_code, site_of, places_of, ops_code}
use Rattle.rv_emit.proofs.Parted.{IsPart, first_part, next_part}

-- the jump of a statement in a table
leap_is : (all : List Instr) (routine : ℕ) (places : ℕ → Option ℕ) (i j here there k m : ℕ) → i ≡ j → here ≡ there → k ≡ m → IsPart all i (leap_code 28 0 here (led routine (places k))) → IsPart all j (leap_code 28 0 there (led routine (places m)))
leap_is all routine places i j here there k m e f g p =
    subst (λ a. IsPart all a (leap_code 28 0 there (led routine (places m)))) e (subst (λ a. IsPart all i (leap_code 28 0 a (led routine (places m)))) f (subst (λ a. IsPart all i (leap_code 28 0 here (led routine (places a)))) g p))

pub leap_part : (all : List Instr) (routine : ℕ) (places : ℕ → Option ℕ) (i here first more k : ℕ) → k < more → IsPart all i (table_code routine places here first more) → IsPart all (i + 2 * k) (leap_code 28 0 (here + 8 * k) (led routine (places (first + k))))
leap_part all routine places i here first zero k lt p = absurd (omega arith)
leap_part all routine places i here first (suc more) zero lt p =
    leap_is all routine places i (i + 2 * 0) here (here + 8 * 0) first (first + 0) (omega arith) (omega arith) (omega arith) (first_part (leap_code 28 0 here (led routine (places first))) (table_code routine places (here + 8) (suc first) more) p)
leap_part all routine places i here first (suc more) (suc k) lt p =
    let rest = next_part (leap_code 28 0 here (led routine (places first))) (table_code routine places (here + 8) (suc first) more) (i + 2) refl p in
    leap_is all routine places (i + 2 + 2 * k) (i + 2 * suc k) (here + 8 + 8 * k) (here + 8 * suc k) (suc first + k) (first + suc k) (omega arith) (omega arith) (omega arith)
    (leap_part all routine places (i + 2) (here + 8) (suc first) more k (omega arith) rest)

module _ (settings : Settings) (c : MicroCode) where
  abbrev long : Op → ℕ
  long op = length_of settings c.static_cells op

  abbrev pub code_at : ℕ → Op → List Instr
  code_at place op = instructions settings.sizes (site_of settings c place op) op

  pub code_long : (place : ℕ) (op : Op) → length (code_at place op) ≡ long op
  code_long place op = lengths_in (setting_of c settings 0) (places_of settings c) place op

  pub ops_long : (place : ℕ) (ops : List Op) → length (ops_code settings c place ops) ≡ sum_by long ops
  ops_long place [] = refl
  ops_long place (op ∷ ops) =
      omega (arith, length-append (code_at place op) (ops_code settings c (place + 4 * long op) ops), code_long place op, sum_by-cons long op ops, ops_long (place + 4 * long op) ops)

  op_is : {all : List Instr} (i j here there : ℕ) (first op : Op) → i ≡ j → here ≡ there → first ≡ op → IsPart all i (code_at here first) → IsPart all j (code_at there op)
  op_is {all} i j here there first op e f g p = subst (λ a. IsPart all a (code_at there op)) e (subst (λ a. IsPart all i (code_at a op)) f (subst (λ a. IsPart all i (code_at here a)) g p))

  -- the instructions of an operation
  pub op_part : (all : List Instr) (i place : ℕ) (ops : List Op) (q : ℕ) (op : Op) → slice_get ops q ≡ Some op → IsPart all i (ops_code settings c place ops) → IsPart all (i + sum_by long (take q ops)) (code_at (place + 4 * sum_by long (take q ops)) op)
  op_part all i place [] q op e p = absurd cc
  op_part all i place (first ∷ ops) zero op e p =
      op_is i (i + 0) place (place + 4 * 0) first op (omega arith) (omega arith) (cc) (first_part (code_at place first) (ops_code settings c (place + 4 * long first) ops) p)
  op_part all i place (first ∷ ops) (suc q) op e p =
      let rest = next_part (code_at place first) (ops_code settings c (place + 4 * long first) ops) (i + long first) (ap (λ k. i + k) (code_long place first)) p in
      let sum = sum_by-cons long first (take q ops) in
      op_is (i + long first + sum_by long (take q ops)) (i + sum_by long (take (suc q) (first ∷ ops))) (place + 4 * long first + 4 * sum_by long (take q ops)) (place + 4 * sum_by long (take (suc q) (first ∷ ops))) op op (omega arith) (omega arith) refl
      (op_part all (i + long first) (place + 4 * long first) ops q op e rest)
