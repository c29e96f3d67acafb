-- A constant is made in a register, and nothing else changes.
use Rattle.std.proofs.Common.{◌≡◌, ℕ, ◌+◌, ◌-◌, ◌*◌, ◌%◌, ◌^◌, ◌<◌, ◌≤◌, List, [], ◌∷◌, length, take, drop, Bool, true, false, cond, refl, sym, ap, subst, ◌∙◌, arith}
use Rattle.rv_isa.specs.declared.instr.ROp.TheVariants.{Addw}
use Rattle.rv_isa.specs.declared.instr.Instr.{Instr}
use Rattle.rv_isa.specs.InstrWords.{twos}
use Rattle.image_file.specs.Image.{Image}
use Rattle.rv_emulate.specs.EmulatorMemory.{Memory}
use Rattle.rv_emulate.specs.EmulatorStates.{State, On}
use Rattle.rv_emulate.specs.InstrValues.{sum64, extended, r_value}
use Rattle.rv_straight.specs.InstalledWays.{Comes}
use Rattle.rv_straight.specs.Registers.{Writes, written, read, Knows}
use Rattle.rv_straight.specs.InstrEffects.{Given, Value}
use Rattle.rv_straight.specs.Straight.{Follow, at, ◌▸◌}
use Rattle.rv_straight.specs.Code.{IsNext}
use Rattle.rv_straight.specs.Constants.{upper_of, lower_of, is_short, is_word, constant_12, constant_32, constant_64, constant_code, constant_length}
use Rattle.rv_straight.specs.Laws.{LawOfConstants}
use Rattle.rv_straight.proofs.Registers.{knows_start, knows_write, read_here, read_zero, written_again}
use Rattle.rv_straight.proofs.Straight.{straight}
use Rattle.rv_straight.proofs.Leaps.{from_start}

pub constant_is : (n : ℕ) → n < 2 ^ 31 - 2 ^ 11 → sum64 (extended (upper_of n * 2 ^ 12)) (twos 64 (lower_of n)) ≡ n
constant_is n h = grind arith

pub short_is : (n : ℕ) → n < 2 ^ 64 → is_short n ≡ true → sum64 0 (twos 64 (lower_of n)) ≡ n
short_is n h e = grind arith

pub word_is : (n : ℕ) → n < 2 ^ 64 → is_word n ≡ true → r_value Addw (extended (upper_of n % 2 ^ 20 * 2 ^ 12)) (twos 64 (lower_of n)) ≡ n
word_is n h e = grind arith

-- the upper part shifted and the lower part added
joined_is : (n : ℕ) → n < 2 ^ 64 → sum64 (upper_of n * 2 ^ 12 % 2 ^ 64) (twos 64 (lower_of n)) ≡ n
joined_is n h = grind arith

module _ (image : Image) (last : ℕ) (s : State) (code : List Instr) (c : IsNext image last s code) (k : ℕ) (ws : Writes) (m : Memory) (rd n : ℕ) (some : 0 < rd) (low : rd < 32) (fits : n < 2 ^ 64) (know : Knows s.registers ws) where
  abbrev xs : List ℕ
  xs = s.registers

  -- the register is read after it was written
  after : (us : Writes) (a v b : ℕ) → sum64 a v ≡ b → sum64 (read xs ((rd, a) ∷ us) rd) v ≡ b
  after us a v b e = ap (λ x. sum64 x v) (read_here xs us rd a some) ∙ e

  shifted : (us : Writes) (a : ℕ) → read xs ((rd, a) ∷ us) rd * 2 ^ 12 % 2 ^ 64 ≡ a * 2 ^ 12 % 2 ^ 64
  shifted us a = ap (λ x. x * 2 ^ 12 % 2 ^ 64) (read_here xs us rd a some)

  abbrev Makes : List Instr → Type 0
  Makes is = Comes image last false (length is) (at s (s.pc + 4 * k) ws m) (On (at s (s.pc + 4 * (k + length is)) ((rd, n) ∷ ws) m))

  short_made : is_short n ≡ true → take 1 (drop k code) ≡ constant_12 rd n → k + 1 ≤ length code → Makes (constant_12 rd n)
  short_made h e room =
      let zero_is : sum64 (read xs ws 0) (twos 64 (lower_of n)) ≡ n = ap (λ x. sum64 x (twos 64 (lower_of n))) (read_zero xs ws) ∙ short_is n fits h in
      straight image last s code c k ws m (constant_12 rd n) (Value n ∷ []) e (omega arith) room know (zero_is ▸ tt)

  made_32 : is_word n ≡ true → take 2 (drop k code) ≡ constant_32 rd n → k + 2 ≤ length code → Makes (constant_32 rd n)
  made_32 h e room =
      let up = extended (upper_of n % 2 ^ 20 * 2 ^ 12) in
      let low = twos 64 (lower_of n) in
      let last_is : r_value Addw (read xs ((rd, up) ∷ ws) rd) low ≡ n = ap (λ x. r_value Addw x low) (read_here xs ws rd up some) ∙ word_is n fits h in
      let way = straight image last s code c k ws m (constant_32 rd n) (Value up ∷ Value n ∷ []) e (omega arith) room know (refl ▸ last_is ▸ tt) in
      subst (λ ys. Comes image last false 2 (at s (s.pc + 4 * k) ws m) (On (record s { pc = s.pc + 4 * (k + 2); registers = ys; memory = m }))) (written_again xs ws rd up n) way

  made_64 : take 8 (drop k code) ≡ constant_64 rd n → k + 8 ≤ length code → Makes (constant_64 rd n)
  made_64 e room =
      let n1 = upper_of n in
      let n2 = upper_of n1 in
      let n3 = upper_of n2 in
      let up = extended (upper_of n3 * 2 ^ 12) in
      let sh : ℕ → ℕ = λ x. x * 2 ^ 12 % 2 ^ 64 in
      let w1 : Writes = (rd, up) ∷ ws in
      let w2 : Writes = (rd, n3) ∷ w1 in
      let w3 : Writes = (rd, sh n3) ∷ w2 in
      let w4 : Writes = (rd, n2) ∷ w3 in
      let w5 : Writes = (rd, sh n2) ∷ w4 in
      let w6 : Writes = (rd, n1) ∷ w5 in
      let w7 : Writes = (rd, sh n1) ∷ w6 in
      let gs : List Given = Value up ∷ Value n3 ∷ Value (sh n3) ∷ Value n2 ∷ Value (sh n2) ∷ Value n1 ∷ Value (sh n1) ∷ Value n ∷ [] in
      let does : Follow image.constants xs s.pc k ws m (constant_64 rd n) gs =
      refl
      ▸ after ws up (twos 64 (lower_of n3)) n3 (constant_is n3 (omega arith))
      ▸ shifted w1 n3
      ▸ after w2 (sh n3) (twos 64 (lower_of n2)) n2 (joined_is n2 (omega arith))
      ▸ shifted w3 n2
      ▸ after w4 (sh n2) (twos 64 (lower_of n1)) n1 (joined_is n1 (omega arith))
      ▸ shifted w5 n1
      ▸ after w6 (sh n1) (twos 64 (lower_of n)) n (joined_is n fits)
      ▸ tt in
      let way = straight image last s code c k ws m (constant_64 rd n) gs e (omega arith) room know does in
      subst (λ ys. Comes image last false 8 (at s (s.pc + 4 * k) ws m) (On (record s { pc = s.pc + 4 * (k + 8); registers = ys; memory = m }))) (again_8 up n3 (sh n3) n2 (sh n2) n1 (sh n1)) way
    where
      again_8 : (a b c d e f g : ℕ) → written xs ((rd, n) ∷ (rd, g) ∷ (rd, f) ∷ (rd, e) ∷ (rd, d) ∷ (rd, c) ∷ (rd, b) ∷ (rd, a) ∷ ws) ≡ written xs ((rd, n) ∷ ws)
      again_8 a b c d e f g =
          written_again xs ((rd, f) ∷ (rd, e) ∷ (rd, d) ∷ (rd, c) ∷ (rd, b) ∷ (rd, a) ∷ ws) rd g n
          ∙ written_again xs ((rd, e) ∷ (rd, d) ∷ (rd, c) ∷ (rd, b) ∷ (rd, a) ∷ ws) rd f n
          ∙ written_again xs ((rd, d) ∷ (rd, c) ∷ (rd, b) ∷ (rd, a) ∷ ws) rd e n
          ∙ written_again xs ((rd, c) ∷ (rd, b) ∷ (rd, a) ∷ ws) rd d n
          ∙ written_again xs ((rd, b) ∷ (rd, a) ∷ ws) rd c n
          ∙ written_again xs ((rd, a) ∷ ws) rd b n
          ∙ written_again xs ws rd a n

  by_size : (a b : Bool) → is_short n ≡ a → is_word n ≡ b → (is : List Instr) → is ≡ cond a (constant_12 rd n) (cond b (constant_32 rd n) (constant_64 rd n)) → take (length is) (drop k code) ≡ is → k + length is ≤ length code → Makes is
  by_size true b p q is same e room = subst Makes (sym same) (short_made p (subst (λ js. take (length js) (drop k code) ≡ js) same e) (subst (λ js. k + length js ≤ length code) same room))
  by_size false true p q is same e room = subst Makes (sym same) (made_32 q (subst (λ js. take (length js) (drop k code) ≡ js) same e) (subst (λ js. k + length js ≤ length code) same room))
  by_size false false p q is same e room = subst Makes (sym same) (made_64 (subst (λ js. take (length js) (drop k code) ≡ js) same e) (subst (λ js. k + length js ≤ length code) same room))

  -- the constant's instructions, where they stand in a code
  pub constant_runs : take (length (constant_code rd n)) (drop k code) ≡ constant_code rd n → k + length (constant_code rd n) ≤ length code → Makes (constant_code rd n)
  constant_runs e room = by_size (is_short n) (is_word n) refl refl (constant_code rd n) refl e room

  pub constant_known : Knows xs ((rd, n) ∷ ws)
  constant_known = knows_write xs ws rd n know low fits

-- how many they are
pub length-constant : (rd n : ℕ) → length (constant_code rd n) ≡ constant_length n
length-constant rd n = by (is_short n) (is_word n)
  where
    by : (a b : Bool) → length (cond a (constant_12 rd n) (cond b (constant_32 rd n) (constant_64 rd n))) ≡ cond a 1 (cond b 2 8)
    by true b = refl
    by false true = refl
    by false false = refl

-- a constant by itself
pub constants : LawOfConstants
constants image last s rd n c some low fits file =
    let long = length-constant rd n in
    let whole : take (length (constant_code rd n)) (constant_code rd n) ≡ constant_code rd n = take-whole (constant_code rd n) in
    let way = constant_runs image last s (constant_code rd n) c 0 [] s.memory rd n some low fits (knows_start s.registers file) whole (omega arith) in
    let zero_is : 0 + length (constant_code rd n) ≡ length (constant_code rd n) = omega arith in
    let Way : ℕ → ℕ → Type 0 = λ i j. Comes image last false i (at s (s.pc + 4 * 0) [] s.memory) (On (at s (s.pc + 4 * j) ((rd, n) ∷ []) s.memory)) in
    from_start image last s (constant_code rd n) c false (constant_length n) _ (subst (λ j. Way j j) long (subst (λ j. Way (length (constant_code rd n)) j) zero_is way))
  where
    take-whole : (is : List Instr) → take (length is) is ≡ is
    take-whole [] = refl
    take-whole (i ∷ is) = ap (λ js. i ∷ js) (take-whole is)
