-- The routine that sets the kind of a cell.
use Rattle.std.proofs.Common.{◌≡◌, ℕ, ◌+◌, ◌*◌, ◌/◌, ◌%◌, ◌^◌, ◌<◌, ◌≤◌, [], ◌∷◌, length, Some, None, Bool, true, false, cond, refl, sym, ap, subst, ◌∙◌, arith}
use Rattle.std.specs.Prelude.{pos, nat_lt, not}
use Rattle.std.proofs.lemmas.Nat.{mul-le}
use Rattle.sil_base.specs.Bytes.{low_bytes, with_piece}
use Rattle.rv_isa.specs.declared.instr.IOp.TheVariants.{Jalr}
use Rattle.rv_isa.specs.declared.instr.Instr.TheVariants.{I}
use Rattle.layout_params.specs.Sizes.{Sizes}
use Rattle.layout_params.proofs.LegalLayouts.{IsLegal, legal}
use Rattle.sil_model.specs.Memory as abstract
use Rattle.image_file.specs.Image.{Image}
use Rattle.rv_emulate.specs.EmulatorMemory.{Memory, stored}
use Rattle.rv_emulate.specs.EmulatorStates.{State, On, register}
use Rattle.rv_emulate.specs.InstrValues.{sum64, extended}
use Rattle.rv_straight.specs.InstalledWays.{Comes}
use Rattle.rv_straight.specs.Registers.{IsFile, Writes}
use Rattle.rv_straight.specs.InstrEffects.{Value, Leaves}
use Rattle.rv_straight.specs.Straight.{◌▸◌}
use Rattle.rv_straight.specs.Code.{IsNext}
use Rattle.rv_straight.specs.Constants.{upper_of}
use Rattle.rv_straight.specs.Reaching.{Reaches}
use Rattle.rv_straight.proofs.Ways.{comes_within}
use Rattle.rv_straight.proofs.Reaching.{start, straight, passes, branches, undefined}
use Rattle.rv_straight.proofs.Numbers.{constant_is}
use Rattle.rv_straight.proofs.Leaps.{code_at}
use Rattle.rv_routines.specs.Holds.{HoldsMemory}
use Rattle.rv_routines.specs.Routines.{Tested}
use Rattle.rv_routines.specs.RoutineCodes.{kind_code}
use Rattle.rv_routines.specs.Tests.{kinded, zeroed}
use Rattle.rv_routines.specs.Laws.{LawOfKind}
use Rattle.rv_routines.proofs.Cells.{few_bytes}
use Rattle.rv_routines.proofs.Regions.{store_kind}
use Rattle.rv_routines.proofs.Returning.{returns}
use Rattle.rv_routines.proofs.Checking.{lt_of}
use Rattle.rv_routines.proofs.Zeros.{zeros, first_at, some_behind}

module _ {image : Image} {last : ℕ} (sizes : Sizes) (legal_sizes : IsLegal sizes) {s : State} (mm : abstract.Memory) (holds : HoldsMemory sizes mm s.memory) (c : IsNext image last s (kind_code sizes.descr (length mm.cells))) (file : IsFile s.registers) (few : register s.registers 26 ≤ length image.statements) (even : register s.registers 11 % 2 ≡ 0) where
  abbrev d : ℕ
  d = sizes.descr

  abbrev count : ℕ
  count = length mm.cells

  abbrev x : ℕ
  x = register s.registers 10

  abbrev v : ℕ
  v = register s.registers 12

  abbrev up : ℕ
  up = extended (upper_of count * 2 ^ 12)

  to_1 : Reaches c 1 1 ((28, 2) ∷ []) s.memory
  to_1 = straight (start c file) 1 (Value 2 ∷ []) (omega arith) (omega arith) (refl ▸ tt)

  abbrev ws : Writes
  ws = (28, count) ∷ (28, up) ∷ (28, 2) ∷ []

  to_4 : nat_lt v 2 ≡ true → Reaches c 4 4 ws s.memory
  to_4 e = straight (passes to_1 refl (omega arith) (ap not e)) 2 (Value up ∷ Value count ∷ []) (omega arith) (omega arith) (refl ▸ constant_is count (omega (arith, holds.valid.count)) ▸ tt)

  abbrev at : ℕ
  at = x * d

  abbrev marked : Memory
  marked = record s.memory { kinds = with_piece x (low_bytes 1 v) s.memory.kinds }

  room : x < count → at + d ≤ length s.memory.cells
  room lt = let all : (x + 1) * d ≤ count * d = mul-le (x + 1) d count d (omega (arith, lt)) (omega arith) in omega (arith, holds.size)

  abbrev ws2 : Writes
  ws2 = (30, 0x4000_0000 + at) ∷ (30, 0x4000_0000) ∷ (29, at) ∷ (29, d) ∷ (28, 0x5000_0000 + x) ∷ (28, 0x5000_0000) ∷ ws

  to_15 : nat_lt v 2 ≡ true → nat_lt x count ≡ true → Reaches c 12 15 ws2 marked
  to_15 e g =
      let lt = lt_of x count g in
      let space = room lt in
      let most = few_bytes sizes mm s.memory holds legal_sizes.most in
      let near : sum64 (0x5000_0000 + x) 0 ≡ 0x5000_0000 + x = omega (arith, lt, holds.valid.count) in
      let mark_is : stored s.memory 1 (sum64 (0x5000_0000 + x) 0) v ≡ Some marked = rw near (store_kind s.memory x v most (omega (arith, lt, holds.kinds_size))) in
      let small : at < 2 ^ 27 = omega (arith, space, most) in
      straight (branches (to_4 e) 8 refl (omega arith) (omega arith) g (omega (arith, c.low))) 7 (Value 0x5000_0000 ∷ Value (0x5000_0000 + x) ∷ Leaves marked ∷ Value d ∷ Value at ∷ Value 0x4000_0000 ∷ Value (0x4000_0000 + at) ∷ []) (omega arith) (omega (arith, some_behind 0 (d / 8) (I Jalr 0 11 (pos 0))))
      (refl ▸ omega (arith, lt, holds.valid.count) ▸ mark_is ▸ omega (arith, legal_sizes.most) ▸ omega (arith, small) ▸ refl ▸ omega (arith, small) ▸ tt)

  multiple : at % 8 ≡ 0
  multiple =
      let e : d ≡ 8 * (d / 8) = omega (arith, legal_sizes.multiple) in
      let all : at ≡ 8 * (x * (d / 8)) = ap (λ y. x * y) e ∙ omega arith in
      omega arith

  by_number : (b : Bool) → nat_lt v 2 ≡ true → nat_lt x count ≡ b → Tested (kinded d s.memory) image last 8 21 s (cond b (Some (x, v)) None)
  by_number false e g = undefined (passes (to_4 e) refl (omega arith) g) _ refl refl (omega arith) refl few
  by_number true e g =
      let lt = lt_of x count g in
      let n = d / 8 in
      let words : 8 * n ≡ d = omega (arith, legal_sizes.multiple) in
      let space = room lt in
      let z = zeros c ws2 at (I Jalr 0 11 (pos 0) ∷ []) (omega arith) refl multiple (omega (arith, space, few_bytes sizes mm s.memory holds legal_sizes.most)) n 12 15 0 marked (to_15 e g) refl (omega (arith, space, words)) (omega (arith, words, legal_sizes.most)) in
      let back = returns z.reaches (first_at (15 + n) (kind_code d count) (I Jalr 0 11 (pos 0)) [] z.behind) refl even file in
      let start_is : at + 8 * 0 ≡ at = omega arith in
      let Way : ℕ → Type 0 = λ p. Comes image last false (12 + n + 1) s (On (record s { pc = register s.registers 11; registers = back.0; memory = record marked { cells = zeroed p n s.memory.cells } })) in
      (back.0, comes_within image last false (12 + n + 1) 21 s _ (subst Way start_is back.1) (omega (arith, words, legal_sizes.most)), back.2, back.3)

  pub tested : (b : Bool) → nat_lt v 2 ≡ b → Tested (kinded d s.memory) image last 8 21 s (cond b (cond (nat_lt x count) (Some (x, v)) None) None)
  tested false e = comes_within image last false 5 8 s _ (undefined (branches to_1 5 refl (omega arith) (omega arith) (ap not e) (omega (arith, c.low))) _ refl refl (omega arith) refl few) (omega arith)
  tested true e = by_number (nat_lt x count) e refl

pub sets_kind : LawOfKind
sets_kind image last sizes count place is apart = record {
  free = apart.free place (omega arith) (omega (arith, apart.some));
  low = omega (arith, apart.low);
  even = apart.even;
  runs = λ memory s same at holds file few even. tested sizes (legal sizes is) memory holds (subst (λ n. IsNext image last s (kind_code sizes.descr n)) (sym same) (code_at apart s at)) file few even (nat_lt (register s.registers 12) 2) refl;
}
