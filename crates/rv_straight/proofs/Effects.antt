-- Values have 64 bits, and the table of effects is the emulator's.
use Rattle.std.proofs.Common.{◌≡◌, ℕ, ◌+◌, ◌-◌, ◌*◌, ◌/◌, ◌%◌, ◌^◌, ◌<◌, List, Bool, true, false, cond, refl, ap, subst, ◌∙◌, arith}
use Rattle.std.specs.Prelude.{ℤ, ◌==◌}
use Rattle.std.proofs.lemmas.Nat.{and_le_l, or_lt, xor_lt, shr_le}
use Rattle.std.proofs.Math.Nat.{div-le_self}
use Rattle.rv_isa.specs.declared.instr.ROp.{ROp}
use Rattle.rv_isa.specs.declared.instr.ROp.TheVariants.{Add, Sll, Slt, Sltu, Xor, Srl, Or, And, Sub, Mul, Divu, Remu}
use Rattle.rv_isa.specs.declared.instr.IOp.{IOp}
use Rattle.rv_isa.specs.declared.instr.IOp.TheVariants.{Addi, Addiw, Slti, Sltiu, Andi, Slli, Srli, Ld, Lbu, Lhu, Lwu}
use Rattle.rv_isa.specs.declared.instr.UOp.TheVariants.{Lui, Auipc}
use Rattle.rv_isa.specs.declared.instr.Instr.{Instr}
use Rattle.rv_isa.specs.declared.instr.Instr.TheVariants.{R, I, S, B, U, J, Ecall}
use Rattle.rv_isa.specs.InstrWords.{IsInstr, twos}
use Rattle.image_file.specs.Image.{Image}
use Rattle.rv_emulate.specs.EmulatorMemory.{Memory, stored}
use Rattle.rv_emulate.specs.EmulatorStates.{State, register}
use Rattle.rv_emulate.specs.EmulatorSteps.{act, i_step, load_step, store_step, next_with}
use Rattle.rv_emulate.specs.InstrValues.{s_width, r_value, sum64, extended}
use Rattle.rv_straight.specs.Registers.{Writes, Knows}
use Rattle.rv_straight.specs.InstrEffects.{Effect, Puts, Loads, Stores, Other, i_effect, r_effect, effect, Given, Value, Leaves, Gives, target}
use Rattle.rv_straight.specs.Straight.{writes_with}
use Rattle.rv_straight.specs.Laws.{after}
use Rattle.rv_straight.proofs.Registers.{knows_write}

-- ---- values have 64 bits

by_cond : (b : Bool) (x y : ℕ) → x < 2 ^ 64 → y < 2 ^ 64 → cond b x y < 2 ^ 64
by_cond true x y p q = p
by_cond false x y p q = q

extended_small : (n : ℕ) → n < 2 ^ 32 → extended n < 2 ^ 64
extended_small n h = grind arith

quotient_small : (x y : ℕ) → x < 2 ^ 64 → cond (y == 0) (2 ^ 64 - 1) (x / y) < 2 ^ 64
quotient_small x y p = by_cond (y == 0) (2 ^ 64 - 1) (x / y) (omega arith) (omega (arith, div-le_self x y))

remainder_small : (x y : ℕ) → x < 2 ^ 64 → cond (y == 0) x (x % y) < 2 ^ 64
remainder_small x y p = grind arith

-- a value that is put is below 2 ^ 64
abbrev IsSmall : Effect → Type 0
IsSmall (Puts v) = v < 2 ^ 64
IsSmall _ = Unit {0}

r_small : (op : ROp) (x y : ℕ) → x < 2 ^ 64 → y < 2 ^ 64 → IsSmall (r_effect op (r_value op x y))
r_small Add x y p q = omega arith
r_small Sub x y p q = omega arith
r_small Sll x y p q = omega arith
r_small Srl x y p q = omega (arith, shr_le x (y % 64))
r_small Slt x y p q = grind arith
r_small Sltu x y p q = grind arith
r_small Xor x y p q = xor_lt 64 x y p q
r_small Or x y p q = or_lt 64 x y p q
r_small And x y p q = omega (arith, and_le_l x y)
r_small Mul x y p q = omega arith
r_small Divu x y p q = quotient_small x y p
r_small Remu x y p q = remainder_small x y p
r_small _ x y p q = tt

i_small : (constants : List ℕ) (m : Memory) (op : IOp) (x : ℕ) (imm : ℤ) → x < 2 ^ 64 → IsSmall (i_effect constants m op x imm)
i_small constants m Addi x imm p = omega arith
i_small constants m Addiw x imm p = extended_small ((x + twos 64 imm) % 2 ^ 32) (omega arith)
i_small constants m Slti x imm p = grind arith
i_small constants m Sltiu x imm p = grind arith
i_small constants m Andi x imm p = omega (arith, and_le_l x (twos 64 imm))
i_small constants m Slli x imm p = omega arith
i_small constants m Srli x imm p = omega (arith, shr_le x (twos 64 imm % 64))
i_small constants m _ x imm p = tt

pub small : (constants : List ℕ) (m : Memory) (pc : ℕ) (x : ℕ → ℕ) (i : Instr) → IsInstr i → ((q : ℕ) → x q < 2 ^ 64) → IsSmall (effect constants m pc x i)
small constants m pc x (R op rd rs1 rs2) is h = r_small op (x rs1) (x rs2) (h rs1) (h rs2)
small constants m pc x (I op rd rs1 imm) is h = i_small constants m op (x rs1) imm (h rs1)
small constants m pc x (S op rs1 rs2 imm) is h = tt
small constants m pc x (B op rs1 rs2 imm) is h = tt
small constants m pc x (U Lui rd imm) is h = extended_small (imm * 2 ^ 12) (omega (arith, is.1))
small constants m pc x (U Auipc rd imm) is h = omega arith
small constants m pc x (J rd imm) is h = tt
small constants m pc x Ecall is h = tt

pub given_small : (e : Effect) (v : ℕ) → IsSmall e → Gives e (Value v) → v < 2 ^ 64
given_small (Puts w) v h e = subst (λ y. y < 2 ^ 64) e h
given_small (Loads o) v h e = e.1
given_small (Stores o) v h e = absurd e
given_small Other v h e = absurd e

-- ---- the effect is the emulator's step

i_acts : (image : Image) (op : IOp) (s : State) (rd x : ℕ) (imm : ℤ) (g : Given) → Gives (i_effect image.constants s.memory op x imm) g → i_step image op s rd x imm ≡ after s rd g
i_acts image Addi s rd x imm (Value v) e = ap (λ y. next_with s rd y) e
i_acts image Addiw s rd x imm (Value v) e = ap (λ y. next_with s rd y) e
i_acts image Slti s rd x imm (Value v) e = ap (λ y. next_with s rd y) e
i_acts image Sltiu s rd x imm (Value v) e = ap (λ y. next_with s rd y) e
i_acts image Andi s rd x imm (Value v) e = ap (λ y. next_with s rd y) e
i_acts image Slli s rd x imm (Value v) e = ap (λ y. next_with s rd y) e
i_acts image Srli s rd x imm (Value v) e = ap (λ y. next_with s rd y) e
i_acts image Ld s rd x imm (Value v) e = ap (λ y. load_step s rd y) e.0
i_acts image Lbu s rd x imm (Value v) e = ap (λ y. load_step s rd y) e.0
i_acts image Lhu s rd x imm (Value v) e = ap (λ y. load_step s rd y) e.0
i_acts image Lwu s rd x imm (Value v) e = ap (λ y. load_step s rd y) e.0
i_acts image _ s rd x imm g e = absurd e

put_as : (s : State) (rd v : ℕ) (g : Given) → Gives (Puts v) g → next_with s rd v ≡ after s rd g
put_as s rd v (Value w) e = ap (λ y. next_with s rd y) e
put_as s rd v (Leaves m) e = absurd e

r_acts : (op : ROp) (s : State) (rd v : ℕ) (g : Given) → Gives (r_effect op v) g → next_with s rd v ≡ after s rd g
r_acts Add s rd v g e = put_as s rd v g e
r_acts Sub s rd v g e = put_as s rd v g e
r_acts Sll s rd v g e = put_as s rd v g e
r_acts Srl s rd v g e = put_as s rd v g e
r_acts Slt s rd v g e = put_as s rd v g e
r_acts Sltu s rd v g e = put_as s rd v g e
r_acts Xor s rd v g e = put_as s rd v g e
r_acts Or s rd v g e = put_as s rd v g e
r_acts And s rd v g e = put_as s rd v g e
r_acts Mul s rd v g e = put_as s rd v g e
r_acts Divu s rd v g e = put_as s rd v g e
r_acts Remu s rd v g e = put_as s rd v g e
r_acts _ s rd v (Value w) e = let same : v ≡ w = (let some = e.0 in cc) in ap (λ y. next_with s rd y) same
r_acts _ s rd v (Leaves m) e = absurd e

pub acts : (image : Image) (s : State) (i : Instr) (g : Given) → Gives (effect image.constants s.memory s.pc (λ q. register s.registers q) i) g → act image i s ≡ after s (target i) g
acts image s (R op rd rs1 rs2) g e = r_acts op s rd (r_value op (register s.registers rs1) (register s.registers rs2)) g e
acts image s (I op rd rs1 imm) g e = i_acts image op s rd (register s.registers rs1) imm g e
acts image s (S op rs1 rs2 imm) (Leaves m) e = ap (λ o. store_step s o) e
acts image s (S op rs1 rs2 imm) (Value v) e = absurd e
acts image s (U Lui rd imm) (Value v) e = ap (λ y. next_with s rd y) e
acts image s (U Auipc rd imm) (Value v) e = ap (λ y. next_with s rd y) e
acts image s _ g e = absurd e

-- only the values of registers count
pub effect_same : (constants : List ℕ) (m : Memory) (pc : ℕ) (x y : ℕ → ℕ) (i : Instr) → ((q : ℕ) → x q ≡ y q) → effect constants m pc x i ≡ effect constants m pc y i
effect_same constants m pc x y (R op rd rs1 rs2) h = ap (λ a. r_effect op (r_value op a (x rs2))) (h rs1) ∙ ap (λ b. r_effect op (r_value op (y rs1) b)) (h rs2)
effect_same constants m pc x y (I op rd rs1 imm) h = ap (λ a. i_effect constants m op a imm) (h rs1)
effect_same constants m pc x y (S op rs1 rs2 imm) h = ap (λ a. Stores (stored m (s_width op) (sum64 a (twos 64 imm)) (x rs2))) (h rs1) ∙ ap (λ b. Stores (stored m (s_width op) (sum64 (y rs1) (twos 64 imm)) b)) (h rs2)
effect_same constants m pc x y (B op rs1 rs2 imm) h = refl
effect_same constants m pc x y (U Lui rd imm) h = refl
effect_same constants m pc x y (U Auipc rd imm) h = refl
effect_same constants m pc x y (J rd imm) h = refl
effect_same constants m pc x y Ecall h = refl

-- what is known after an instruction
target_small : (i : Instr) → IsInstr i → target i < 32
target_small (R op rd rs1 rs2) is = is.0
target_small (I op rd rs1 imm) is = is.0
target_small (S op rs1 rs2 imm) is = omega arith
target_small (B op rs1 rs2 imm) is = omega arith
target_small (U op rd imm) is = is.0
target_small (J rd imm) is = is.0
target_small Ecall is = omega arith

pub knows_next : (xs : List ℕ) (ws : Writes) (i : Instr) (g : Given) → IsInstr i → ((v : ℕ) → g ≡ Value v → v < 2 ^ 64) → Knows xs ws → Knows xs (writes_with ws i g)
knows_next xs ws i (Value v) is h k = knows_write xs ws (target i) v k (target_small i is) (h v refl)
knows_next xs ws i (Leaves m) is h k = k
