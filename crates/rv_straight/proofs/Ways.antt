-- Ways of one step, and ways one after another.
use Rattle.std.proofs.Common.{◌≡◌, ℕ, zero, suc, ◌+◌, ◌≤◌, Some, Bool, true, false, refl, sym, ap, subst, ◌∙◌, arith}
use Rattle.rv_isa.specs.declared.instr.Instr.{Instr}
use Rattle.rv_isa.specs.declared.instr.Instr.TheVariants.{R, I, S, B, U, J, Ecall}
use Rattle.rv_isa.specs.InstrWords.{word_of, IsInstr}
use Rattle.rv_isa.proofs.Back.{decoded-word, one-word}
use Rattle.image_file.specs.Image.{Image}
use Rattle.rv_emulate.specs.EmulatorStates.{State, Outcome, On, Ended, register}
use Rattle.rv_emulate.specs.EmulatorSteps.{step, act, word_at, with_word, with_instr}
use Rattle.rv_emulate.specs.EmulatorRuns.{run, on_state}
use Rattle.rv_emulate.specs.AlongRuns.{Along}
use Rattle.rv_emulate.proofs.RunLaws.{run-add}
use Rattle.rv_straight.specs.InstalledWays.{IsBetween, Permits, Comes}

pub step_at : (image : Image) (t : State) (i : Instr) → IsInstr i → word_at image.words t.pc ≡ Some (word_of i) → step image t ≡ act image i t
unfolding step
step_at image t i h e = ap (λ w. with_word image w t) e ∙ ap (λ o. with_instr image o t) (decoded-word i h)

abbrev pub is_call : Instr → Bool
is_call (R op rd rs1 rs2) = false
is_call (I op rd rs1 imm) = false
is_call (S op rs1 rs2 imm) = false
is_call (B op rs1 rs2 imm) = false
is_call (U op rd imm) = false
is_call (J rd imm) = false
is_call Ecall = true

-- what is permitted where nothing is printed is permitted
pub permits : (image : Image) (prints : Bool) (s : State) → Permits image false s → Permits image prints s
permits image true s h = tt
permits image false s h = h

-- an instruction that is no call makes none
pub silent_at : (image : Image) (s : State) (i : Instr) → IsInstr i → word_at image.words s.pc ≡ Some (word_of i) → is_call i ≡ false → Permits image false s
silent_at image s i is here other h =
    let word : word_of i ≡ word_of Ecall = let call = h.0 in cc in
    let same = ap is_call (one-word i Ecall is tt word) in
    let both : false ≡ true = sym other ∙ same in
    cc

-- call 1 is not call 3
pub one_call : (image : Image) (s : State) → register s.registers 17 ≡ 1 → Permits image false s
one_call image s e = λ h. absurd (omega (arith, e, h.1))

-- a way of one step
pub comes_now : (image : Image) (last : ℕ) (prints : Bool) (s : State) (o : Outcome) → step image s ≡ o → Permits image prints s → Comes image last prints 1 s o
unfolding run
comes_now image last prints s o e p = record { more = 0; soon = omega arith; comes = ap (λ x. on_state x (run image 0)) e ∙ same o; between = tt; calls = (p, tt) }
  where
    same : (x : Outcome) → on_state x (run image 0) ≡ x
    same (On t) = refl
    same (Ended c tapes) = refl

-- ---- ways one after another

along-add : (image : Image) (P : State → Type 0) (n k : ℕ) (o : Outcome) (t : State) → Along image P n o → on_state o (run image n) ≡ On t → Along image P k (On t) → Along image P (n + k) o
unfolding run
along-add image P zero k (On s) t h e g = let z : 0 + k ≡ k = omega arith in rw z (subst (λ x. Along image P k x) (sym e) g)
along-add image P (suc n) k (On s) t h e g =
    let z : suc n + k ≡ suc (n + k) = omega arith in
    rw z ((h.0, along-add image P n k (step image s) t h.1 e g))
along-add image P n k (Ended c tapes) t h e g = absurd cc

along-any : (image : Image) (P Q : State → Type 0) (n : ℕ) (o : Outcome) → ((s : State) → P s → Q s) → Along image P n o → Along image Q n o
along-any image P Q zero o f h = tt
along-any image P Q (suc n) (On s) f h = (f s h.0, along-any image P Q n (step image s) f h.1)
along-any image P Q (suc n) (Ended c tapes) f h = tt

-- a way that prints nothing serves where printing is permitted
pub comes_any : (image : Image) (last : ℕ) (prints : Bool) (a : ℕ) (s : State) (o : Outcome) → Comes image last false a s o → Comes image last prints a s o
comes_any image last prints a s o c = record { more = c.more; soon = c.soon; comes = c.comes; between = c.between; calls = along-any image (Permits image false) (Permits image prints) (suc c.more) (On s) (permits image prints) c.calls }

pub then_comes : (image : Image) (last : ℕ) (prints : Bool) (a b : ℕ) (s t : State) (o : Outcome) → Comes image last prints a s (On t) → IsBetween image last t → Comes image last prints b t o → Comes image last prints (a + b) s o
unfolding run
then_comes image last prints a b s t o f between g =
    let z : suc (f.more + suc g.more) ≡ suc f.more + suc g.more = omega arith in
    record {
      more = f.more + suc g.more;
      soon = omega (arith, f.soon, g.soon);
      comes = subst (λ n. run image n s ≡ o) (sym z) (run-add image (suc f.more) (suc g.more) s t f.comes ∙ g.comes);
      between = along-add image (IsBetween image last) f.more (suc g.more) (step image s) t f.between f.comes (between, g.between);
      calls = subst (λ n. Along image (Permits image prints) n (On s)) (sym z) (along-add image (Permits image prints) (suc f.more) (suc g.more) (On s) t f.calls f.comes g.calls);
    }

-- a way within fewer instructions serves
pub comes_within : (image : Image) (last : ℕ) (prints : Bool) (a b : ℕ) (s : State) (o : Outcome) → Comes image last prints a s o → a ≤ b → Comes image last prints b s o
comes_within image last prints a b s o c le = record { more = c.more; soon = omega (arith, c.soon); comes = c.comes; between = c.between; calls = c.calls }
