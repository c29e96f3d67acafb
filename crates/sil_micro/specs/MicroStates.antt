-- The states of micro code.
use Rattle.std.specs.Prelude.{ℕ, zero, suc, List, Option, None, ℤ, pos}
use Rattle.layout_params.specs.Parameters.{Settings}
use Rattle.sil_model.specs.States.{State}

-- what a run rests on beside its operations: the parameters, the steps that are allowed, and of the code the number of its statements, that of its static cells, and the texts of its formats
pub record Setting : Type 0 where
  pub settings : Settings
  pub bound : ℕ
  pub statements : ℕ
  pub static_cells : ℕ
  pub formats : List (List ℕ)

-- sixteen registers
pub record Registers : Type 0 where
  pub r0 : ℤ
  pub r1 : ℤ
  pub r2 : ℤ
  pub r3 : ℤ
  pub r4 : ℤ
  pub r5 : ℤ
  pub r6 : ℤ
  pub r7 : ℤ
  pub r8 : ℤ
  pub r9 : ℤ
  pub r10 : ℤ
  pub r11 : ℤ
  pub r12 : ℤ
  pub r13 : ℤ
  pub r14 : ℤ
  pub r15 : ℤ

-- what a register holds
abbrev pub held : Registers → ℕ → ℤ
held r zero = r.r0
held r (suc zero) = r.r1
held r (suc (suc zero)) = r.r2
held r (suc (suc (suc zero))) = r.r3
held r (suc (suc (suc (suc zero)))) = r.r4
held r (suc (suc (suc (suc (suc zero))))) = r.r5
held r (suc (suc (suc (suc (suc (suc zero)))))) = r.r6
held r (suc (suc (suc (suc (suc (suc (suc zero))))))) = r.r7
held r (suc (suc (suc (suc (suc (suc (suc (suc zero)))))))) = r.r8
held r (suc (suc (suc (suc (suc (suc (suc (suc (suc zero))))))))) = r.r9
held r (suc (suc (suc (suc (suc (suc (suc (suc (suc (suc zero)))))))))) = r.r10
held r (suc (suc (suc (suc (suc (suc (suc (suc (suc (suc (suc zero))))))))))) = r.r11
held r (suc (suc (suc (suc (suc (suc (suc (suc (suc (suc (suc (suc zero)))))))))))) = r.r12
held r (suc (suc (suc (suc (suc (suc (suc (suc (suc (suc (suc (suc (suc zero))))))))))))) = r.r13
held r (suc (suc (suc (suc (suc (suc (suc (suc (suc (suc (suc (suc (suc (suc zero)))))))))))))) = r.r14
held r (suc (suc (suc (suc (suc (suc (suc (suc (suc (suc (suc (suc (suc (suc (suc zero))))))))))))))) = r.r15
held r _ = pos 0

-- one register set
abbrev pub put : ℕ → ℤ → Registers → Registers
put zero v r = record r { r0 = v }
put (suc zero) v r = record r { r1 = v }
put (suc (suc zero)) v r = record r { r2 = v }
put (suc (suc (suc zero))) v r = record r { r3 = v }
put (suc (suc (suc (suc zero)))) v r = record r { r4 = v }
put (suc (suc (suc (suc (suc zero))))) v r = record r { r5 = v }
put (suc (suc (suc (suc (suc (suc zero)))))) v r = record r { r6 = v }
put (suc (suc (suc (suc (suc (suc (suc zero))))))) v r = record r { r7 = v }
put (suc (suc (suc (suc (suc (suc (suc (suc zero)))))))) v r = record r { r8 = v }
put (suc (suc (suc (suc (suc (suc (suc (suc (suc zero))))))))) v r = record r { r9 = v }
put (suc (suc (suc (suc (suc (suc (suc (suc (suc (suc zero)))))))))) v r = record r { r10 = v }
put (suc (suc (suc (suc (suc (suc (suc (suc (suc (suc (suc zero))))))))))) v r = record r { r11 = v }
put (suc (suc (suc (suc (suc (suc (suc (suc (suc (suc (suc (suc zero)))))))))))) v r = record r { r12 = v }
put (suc (suc (suc (suc (suc (suc (suc (suc (suc (suc (suc (suc (suc zero))))))))))))) v r = record r { r13 = v }
put (suc (suc (suc (suc (suc (suc (suc (suc (suc (suc (suc (suc (suc (suc zero)))))))))))))) v r = record r { r14 = v }
put (suc (suc (suc (suc (suc (suc (suc (suc (suc (suc (suc (suc (suc (suc (suc zero))))))))))))))) v r = record r { r15 = v }
put _ v r = r

abbrev pub no_registers : Registers
no_registers = record {
  r0 = pos 0;
  r1 = pos 0;
  r2 = pos 0;
  r3 = pos 0;
  r4 = pos 0;
  r5 = pos 0;
  r6 = pos 0;
  r7 = pos 0;
  r8 = pos 0;
  r9 = pos 0;
  r10 = pos 0;
  r11 = pos 0;
  r12 = pos 0;
  r13 = pos 0;
  r14 = pos 0;
  r15 = pos 0;
}

-- the abstract machine's state, whose statement is the one that was begun last; the registers; the scratch words; the unit of the last unit call where that call failed; and the weight of the operations since the last Begin, itself included
pub record Micro : Type 0 where
  pub state : State
  pub registers : Registers
  pub scratch : ℕ → ℤ
  pub failed : Option ℕ
  pub spent : ℕ

-- the start of a run from a state: all registers and scratch words are 0
abbrev pub first_micro : State → Micro
first_micro s = record { state = s; registers = no_registers; scratch = λ i. pos 0; failed = None; spent = 0 }
