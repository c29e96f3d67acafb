-- The operations of macros up to the part that writes.
use Rattle.std.proofs.Common.{◌≡◌, ℕ, ◌+◌, List, [], ◌∷◌, true, refl}
use Rattle.std.specs.Prelude.{ℤ, pos, nat_le}
use Rattle.layout_params.specs.declared.cell.Field.TheVariants.{A, F, V}
use Rattle.sil_micro.specs.declared.op.Arith.TheVariants.{Add, Sub, And, Mul, Div}
use Rattle.sil_micro.specs.declared.op.Fixed.TheVariants.{Number, Descr, Sttl}
use Rattle.sil_micro.specs.declared.op.Op.{Op}
use Rattle.sil_micro.specs.declared.op.Op.TheVariants.{Const, Copy, Arith, Jump, JumpIf, LoadField, StoreField, Begin}
use Rattle.sil_micro.specs.declared.op.Target.TheVariants.{Op as Place, Statement}
use Rattle.sil_micro.specs.declared.op.Test.TheVariants.{Eq, Ge, Lt, Ne}
use Rattle.exp_common.proofs.JoinedParts.{IsFirst}

abbrev pub bksize_head : ℕ → ℤ → List Op
bksize_head k d2 =
    Begin k ∷ Const 1 (Number d2) ∷ LoadField A 2 1 ∷ LoadField F 3 2 ∷ LoadField V 4 2 ∷ Const 5 Sttl ∷ Const 6 Descr ∷ Arith And 7 3 5 ∷ JumpIf Eq 7 5 (Place 11) ∷ Arith Add 4 4 6 ∷ Jump (Place 19)
    ∷ Const 8 (Number (pos 1)) ∷ JumpIf Ge 4 8 (Place 14) ∷ Copy 4 8 ∷ Arith Sub 4 4 8 ∷ Arith Div 4 4 6 ∷ Const 8 (Number (pos 5)) ∷ Arith Add 4 4 8 ∷ Arith Mul 4 6 4 ∷ []

pub bksize_first : (k statements formats : ℕ) (d2 : ℤ) → IsFirst k statements formats 232 (bksize_head k d2)
bksize_first k statements formats d2 = record { part = refl; begins = refl; once = refl; names = refl; quiet = refl; weight = refl }

abbrev pub getspc_head : ℕ → ℤ → ℤ → ℤ → List Op
getspc_head k s d n =
    Begin k ∷ Const 1 (Number d) ∷ LoadField A 1 1 ∷ Const 2 (Number n) ∷ Arith Add 1 1 2
    ∷ LoadField A 2 1 ∷ LoadField F 3 1 ∷ LoadField V 4 1 ∷ Const 7 Descr ∷ Arith Add 1 1 7 ∷ LoadField A 5 1 ∷ LoadField V 6 1 ∷ Const 1 (Number s) ∷ []

pub getspc_first : (k statements formats : ℕ) (s d n : ℤ) → IsFirst k statements formats 244 (getspc_head k s d n)
getspc_first k statements formats s d n = record { part = refl; begins = refl; once = refl; names = refl; quiet = refl; weight = refl }

abbrev pub locsp_head : ℕ → ℤ → ℤ → List Op
locsp_head k s d =
    Begin k ∷ Const 1 (Number d) ∷ LoadField A 2 1 ∷ LoadField F 3 1 ∷ LoadField V 4 1 ∷ Const 7 Descr ∷ Const 1 (Number s) ∷ Const 8 (Number (pos 0))
    ∷ JumpIf Ne 2 8 (Place 12) ∷ Arith Add 1 1 7 ∷ StoreField V 1 8 ∷ Jump (Statement (k + 1)) ∷ LoadField V 6 2 ∷ Arith Add 5 7 7 ∷ Arith Add 5 5 5 ∷ []

pub locsp_first : (k statements formats : ℕ) (s d : ℤ) → nat_le (k + 1) statements ≡ true → IsFirst k statements formats 240 (locsp_head k s d)
locsp_first k statements formats s d within = record { part = refl; begins = refl; once = refl; names = simp within; quiet = refl; weight = refl }

abbrev pub putspc_head : ℕ → ℤ → ℤ → ℤ → List Op
putspc_head k d n s =
    Begin k ∷ Const 1 (Number d) ∷ LoadField A 8 1 ∷ Const 9 (Number n) ∷ Arith Add 8 8 9 ∷ Const 1 (Number s)
    ∷ LoadField A 2 1 ∷ LoadField F 3 1 ∷ LoadField V 4 1 ∷ Const 7 Descr ∷ Arith Add 1 1 7 ∷ LoadField A 5 1 ∷ LoadField V 6 1 ∷ Copy 1 8 ∷ []

pub putspc_first : (k statements formats : ℕ) (d n s : ℤ) → IsFirst k statements formats 252 (putspc_head k d n s)
putspc_first k statements formats d n s = record { part = refl; begins = refl; once = refl; names = refl; quiet = refl; weight = refl }

abbrev pub remsp_head : ℕ → ℤ → ℤ → ℤ → List Op
remsp_head k s1 s2 s3 =
    Begin k ∷ Const 1 (Number s2)
    ∷ LoadField A 2 1 ∷ LoadField F 3 1 ∷ LoadField V 4 1 ∷ Const 7 Descr ∷ Arith Add 1 1 7 ∷ LoadField A 5 1 ∷ LoadField V 6 1
    ∷ Const 1 (Number s3) ∷ Arith Add 1 1 7 ∷ LoadField V 8 1 ∷ Arith Add 5 5 8 ∷ Arith Sub 6 6 8 ∷ Const 1 (Number s1) ∷ []

pub remsp_first : (k statements formats : ℕ) (s1 s2 s3 : ℤ) → IsFirst k statements formats 260 (remsp_head k s1 s2 s3)
remsp_first k statements formats s1 s2 s3 = record { part = refl; begins = refl; once = refl; names = refl; quiet = refl; weight = refl }

abbrev pub setsp_head : ℕ → ℤ → ℤ → List Op
setsp_head k s1 s2 =
    Begin k ∷ Const 1 (Number s2)
    ∷ LoadField A 2 1 ∷ LoadField F 3 1 ∷ LoadField V 4 1 ∷ Const 7 Descr ∷ Arith Add 1 1 7 ∷ LoadField A 5 1 ∷ LoadField V 6 1 ∷ Const 1 (Number s1) ∷ []

pub setsp_first : (k statements formats : ℕ) (s1 s2 : ℤ) → IsFirst k statements formats 200 (setsp_head k s1 s2)
setsp_first k statements formats s1 s2 = record { part = refl; begins = refl; once = refl; names = refl; quiet = refl; weight = refl }

abbrev pub subsp_head : ℕ → ℤ → ℤ → ℤ → ℕ → List Op
subsp_head k s1 s2 s3 failure =
    Begin k ∷ Const 7 Descr ∷ Const 1 (Number s2) ∷ Arith Add 1 1 7 ∷ LoadField V 6 1 ∷ Const 1 (Number s3) ∷ Arith Add 9 1 7 ∷ LoadField V 8 9 ∷ JumpIf Lt 8 6 (Statement failure)
    ∷ LoadField A 2 1 ∷ LoadField F 3 1 ∷ LoadField V 4 1 ∷ LoadField A 5 9 ∷ Const 1 (Number s1) ∷ []

pub subsp_first : (k statements formats : ℕ) (s1 s2 s3 : ℤ) (failure : ℕ) → nat_le failure statements ≡ true → IsFirst k statements formats 252 (subsp_head k s1 s2 s3 failure)
subsp_first k statements formats s1 s2 s3 failure within = record { part = refl; begins = refl; once = refl; names = simp within; quiet = refl; weight = refl }
