-- The operations of the macros of syntax tables. Register 4 holds 0, register 5 the size of a cell, and register 11 holds 1. An entry has two words: table t begins with word 512 * t.
use Rattle.std.specs.Prelude.{ℕ, ◌+◌, ◌*◌, List, [], ◌∷◌, ℤ, pos}
use Rattle.layout_params.specs.declared.cell.Field.TheVariants.{A, F, V}
use Rattle.sil_micro.specs.declared.op.Area.TheVariants.{Tables}
use Rattle.sil_micro.specs.declared.op.Arith.TheVariants.{Add, Sub, Div, Rem}
use Rattle.sil_micro.specs.declared.op.Test.TheVariants.{Eq}
use Rattle.sil_micro.specs.declared.op.Target.TheVariants.{Op as Place, Statement}
use Rattle.sil_micro.specs.declared.op.Fixed.TheVariants.{Number, Descr}
use Rattle.sil_micro.specs.declared.op.Op.{Op}
use Rattle.sil_micro.specs.declared.op.Op.TheVariants.{Const, Copy, Arith, Jump, JumpIf, LoadField, StoreField, StoreCell, LoadChar, LoadWord, StoreWord, Begin, End as EndBy}

-- every entry of table t gets the action of a number; what it puts goes first
unfoldable pub clear_code : ℕ → ℕ → ℕ → List Op
clear_code k t action =
    Begin k ∷ Const 4 (Number (pos 0)) ∷ Const 11 (Number (pos 1)) ∷ Const 10 (Number (pos (512 * t))) ∷ Const 8 (Number (pos (512 * t + 512))) ∷ Const 9 (Number (pos action))
    ∷ JumpIf Eq 10 8 (Place 12) ∷ Arith Add 12 10 11 ∷ StoreWord Tables 12 4 ∷ StoreWord Tables 10 9 ∷ Arith Add 10 12 11 ∷ Jump (Place 6) ∷ []

-- the entries in table t of the characters of a specifier get the action of a number
unfoldable pub plug_code : ℕ → ℤ → ℕ → ℕ → List Op
plug_code k s t action =
    Begin k ∷ Const 4 (Number (pos 0)) ∷ Const 5 Descr ∷ Const 11 (Number (pos 1)) ∷ Const 1 (Number s) ∷ Arith Add 6 1 5 ∷ LoadField V 7 6
    ∷ JumpIf Eq 7 4 (Place 24) ∷ LoadField A 2 1 ∷ LoadField A 3 6 ∷ Arith Add 2 2 3
    ∷ Const 9 (Number (pos (512 * t))) ∷ Const 8 (Number (pos action)) ∷ Const 10 (Number (pos 0))
    ∷ JumpIf Eq 10 7 (Place 24) ∷ Arith Add 12 2 10 ∷ LoadChar 12 12 ∷ Arith Add 12 12 12 ∷ Arith Add 12 12 9 ∷ Arith Add 13 12 11
    ∷ StoreWord Tables 13 4 ∷ StoreWord Tables 12 8 ∷ Arith Add 10 10 11 ∷ Jump (Place 14) ∷ []

-- registers 2, 3, 6, 7 and 8 := the fields of a specifier, and register 9 the address of its first character
unfoldable pub read_code : ℕ → ℤ → List Op
read_code k s =
    Begin k ∷ Const 4 (Number (pos 0)) ∷ Const 5 Descr ∷ Const 11 (Number (pos 1)) ∷ Const 1 (Number s) ∷ LoadField A 2 1 ∷ LoadField F 3 1 ∷ LoadField V 6 1
    ∷ Arith Add 1 1 5 ∷ LoadField A 7 1 ∷ LoadField V 8 1 ∷ Arith Add 9 2 7 ∷ []

-- the characters from register 9 on, as many as register 8 says, are walked from table t on: register 10 := those up to the end of the walk, register 13 what was put last, or 0, and register 14 := 0 where no character is left, else 1
unfoldable pub walk_code : ℕ → ℤ → ℕ → List Op
walk_code t stype error =
    Const 10 (Number (pos 0)) ∷ Const 13 (Number (pos 0)) ∷ Const 12 (Number (pos (512 * t)))
    ∷ JumpIf Eq 10 8 (Place 30) ∷ Arith Add 1 9 10 ∷ LoadChar 1 1 ∷ Arith Add 1 1 1 ∷ Arith Add 1 1 12 ∷ LoadWord Tables 14 1 ∷ Arith Add 1 1 11 ∷ LoadWord Tables 15 1
    ∷ Const 0 (Number (pos 256)) ∷ Arith Rem 1 14 0 ∷ Arith Div 14 14 0 ∷ Arith Rem 0 14 0 ∷ JumpIf Eq 0 4 (Place 17) ∷ Copy 13 15
    ∷ JumpIf Eq 1 4 (Place 28) ∷ JumpIf Eq 1 11 (Place 26) ∷ Const 15 (Number (pos 2)) ∷ JumpIf Eq 1 15 (Place 32) ∷ Const 15 (Number (pos 3)) ∷ JumpIf Eq 1 15 (Place 33)
    ∷ Const 1 (Number stype) ∷ StoreField A 1 4 ∷ Jump (Statement error)
    ∷ Arith Sub 14 14 0 ∷ Arith Add 12 14 14 ∷ Arith Add 10 10 11 ∷ Jump (Place 3)
    ∷ Const 14 (Number (pos 0)) ∷ Jump (Place 34) ∷ Arith Add 10 10 11 ∷ Const 14 (Number (pos 1)) ∷ []

-- what a walk leaves: STYPE.A, the specifier of what was walked, and that of the rest
unfoldable pub part_code : ℤ → ℤ → ℤ → ℕ → ℕ → List Op
part_code stype s1 s2 run_out stop =
    Const 1 (Number stype) ∷ StoreField A 1 13 ∷ Const 1 (Number s1) ∷ StoreCell 1 2 3 6 ∷ Arith Add 1 1 5 ∷ StoreCell 1 7 4 10
    ∷ Const 1 (Number s2) ∷ Arith Add 1 1 5 ∷ Arith Add 7 7 10 ∷ StoreField A 1 7 ∷ Arith Sub 8 8 10 ∷ StoreField V 1 8
    ∷ JumpIf Eq 14 4 (Statement run_out) ∷ Jump (Statement stop) ∷ []

-- there is no STYPE
unfoldable pub no_stype : ℕ → List Op
no_stype k = Begin k ∷ Const 6 (Number (pos 3)) ∷ EndBy 6 ∷ []
