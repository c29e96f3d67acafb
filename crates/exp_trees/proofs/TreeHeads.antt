-- The operations of macros that read, up to the part that writes.
use Rattle.std.proofs.Common.{ℕ, List, [], ◌∷◌, refl}
use Rattle.std.specs.Prelude.{ℤ}
use Rattle.layout_params.specs.declared.cell.Field.TheVariants.{A, F, V}
use Rattle.sil_micro.specs.declared.op.Arith.TheVariants.{Add}
use Rattle.sil_micro.specs.declared.op.Fixed.TheVariants.{Number, Descr}
use Rattle.sil_micro.specs.declared.op.Op.{Op}
use Rattle.sil_micro.specs.declared.op.Op.TheVariants.{Const, Arith, LoadField, Begin}
use Rattle.exp_common.proofs.JoinedParts.{IsFirst}

abbrev pub addsib_head : ℕ → ℤ → ℤ → List Op
addsib_head k d1 d2 =
    Begin k ∷ Const 1 (Number d1) ∷ LoadField A 12 1 ∷ Const 14 Descr ∷ Arith Add 15 14 14 ∷ Arith Add 13 15 15 ∷ Arith Add 15 15 14
    ∷ Arith Add 1 12 14 ∷ LoadField A 2 1 ∷ LoadField F 3 1 ∷ LoadField V 4 1 ∷ Const 1 (Number d2) ∷ LoadField A 5 1 ∷ LoadField F 6 1 ∷ LoadField V 7 1
    ∷ Arith Add 12 12 15 ∷ LoadField A 8 12 ∷ LoadField F 9 12 ∷ LoadField V 10 12 ∷ Arith Add 13 2 13 ∷ LoadField V 11 13 ∷ []

pub addsib_first : (k statements formats : ℕ) (d1 d2 : ℤ) → IsFirst k statements formats 408 (addsib_head k d1 d2)
addsib_first k statements formats d1 d2 = record { part = refl; begins = refl; once = refl; names = refl; quiet = refl; weight = refl }

abbrev pub addson_head : ℕ → ℤ → ℤ → List Op
addson_head k d1 d2 =
    Begin k ∷ Const 1 (Number d1) ∷ LoadField A 2 1 ∷ LoadField F 3 1 ∷ LoadField V 4 1 ∷ Const 1 (Number d2) ∷ LoadField A 5 1 ∷ LoadField F 6 1 ∷ LoadField V 7 1
    ∷ Const 14 Descr ∷ Arith Add 12 14 14 ∷ Arith Add 15 12 14 ∷ Arith Add 13 12 12 ∷ Arith Add 12 2 12
    ∷ LoadField A 8 12 ∷ LoadField F 9 12 ∷ LoadField V 10 12 ∷ Arith Add 13 2 13 ∷ LoadField V 11 13 ∷ []

pub addson_first : (k statements formats : ℕ) (d1 d2 : ℤ) → IsFirst k statements formats 372 (addson_head k d1 d2)
addson_first k statements formats d1 d2 = record { part = refl; begins = refl; once = refl; names = refl; quiet = refl; weight = refl }

abbrev pub insert_head : ℕ → ℤ → ℤ → List Op
insert_head k d1 d2 =
    Begin k ∷ Const 1 (Number d1) ∷ LoadField A 2 1 ∷ LoadField F 3 1 ∷ LoadField V 4 1 ∷ Const 14 Descr ∷ Arith Add 1 2 14 ∷ LoadField A 5 1 ∷ LoadField F 6 1 ∷ LoadField V 7 1
    ∷ Const 1 (Number d2) ∷ LoadField A 8 1 ∷ LoadField F 9 1 ∷ LoadField V 10 1 ∷ Arith Add 15 14 14 ∷ Arith Add 1 15 14 ∷ Arith Add 1 2 1
    ∷ LoadField A 11 1 ∷ LoadField F 12 1 ∷ LoadField V 13 1 ∷ []

pub insert_first : (k statements formats : ℕ) (d1 d2 : ℤ) → IsFirst k statements formats 420 (insert_head k d1 d2)
insert_first k statements formats d1 d2 = record { part = refl; begins = refl; once = refl; names = refl; quiet = refl; weight = refl }

abbrev pub three_head : ℕ → ℤ → ℤ → ℤ → ℤ → List Op
three_head k block third second first =
    Begin k ∷ Const 1 (Number block) ∷ LoadField A 2 1 ∷ LoadField F 3 1 ∷ LoadField V 4 1 ∷ Const 1 (Number first) ∷ LoadField A 5 1 ∷ LoadField F 6 1 ∷ LoadField V 7 1
    ∷ Const 1 (Number second) ∷ LoadField A 8 1 ∷ Const 1 (Number third) ∷ LoadField A 9 1 ∷ []

pub three_first : (k statements formats : ℕ) (block third second first : ℤ) → IsFirst k statements formats 284 (three_head k block third second first)
three_first k statements formats block third second first = record { part = refl; begins = refl; once = refl; names = refl; quiet = refl; weight = refl }

abbrev pub four_head : ℕ → ℤ → ℤ → ℤ → ℤ → ℤ → List Op
four_head k block third second first fourth =
    Begin k ∷ Const 1 (Number block) ∷ LoadField A 2 1 ∷ LoadField F 3 1 ∷ LoadField V 4 1 ∷ Const 1 (Number first) ∷ LoadField A 5 1 ∷ LoadField F 6 1 ∷ LoadField V 7 1
    ∷ Const 1 (Number second) ∷ LoadField A 8 1 ∷ Const 1 (Number third) ∷ LoadField A 9 1 ∷ Const 1 (Number fourth) ∷ LoadField A 10 1 ∷ LoadField F 11 1 ∷ LoadField V 12 1 ∷ []

pub four_first : (k statements formats : ℕ) (block third second first fourth : ℤ) → IsFirst k statements formats 376 (four_head k block third second first fourth)
four_first k statements formats block third second first fourth = record { part = refl; begins = refl; once = refl; names = refl; quiet = refl; weight = refl }
