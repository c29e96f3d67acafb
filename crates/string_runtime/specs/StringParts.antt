-- The parts of the pieces of strings. Register 4 holds 0, register 5 the size of a cell, and register 11 holds 1.
use Rattle.std.specs.Prelude.{ℕ, List, [], ◌∷◌, ℤ, pos, negsuc}
use Rattle.layout_params.specs.declared.cell.Field.TheVariants.{A, F, V}
use Rattle.sil_micro.specs.declared.op.Area.TheVariants.{Scratch}
use Rattle.sil_micro.specs.declared.op.Arith.TheVariants.{Add, Sub, Mul, Div, Rem}
use Rattle.sil_micro.specs.declared.op.Test.TheVariants.{Eq, Ne, Lt, Ge, Ltu, Geu}
use Rattle.sil_micro.specs.declared.op.Target.TheVariants.{Op as Place, Statement}
use Rattle.sil_micro.specs.declared.op.Fixed.TheVariants.{Number, Descr, Obsiz, Date, Hidden}
use Rattle.sil_micro.specs.declared.op.Op.{Op}
use Rattle.sil_micro.specs.declared.op.Op.TheVariants.{Const, Copy, Arith, Jump, JumpIf, LoadField, StoreField, StoreCell, LoadChar, StoreChar, LoadWord, StoreWord, Begin, End as EndBy}

-- statement k begins
unfoldable pub start_code : ℕ → List Op
start_code k = Begin k ∷ Const 4 (Number (pos 0)) ∷ Const 11 (Number (pos 1)) ∷ Const 5 Descr ∷ []

-- register 7 := the length of a specifier
unfoldable pub length_code : ℤ → List Op
length_code s = Const 1 (Number s) ∷ Arith Add 1 1 5 ∷ LoadField V 7 1 ∷ []

-- register 2 := the address of the first character of a specifier, where register 7 isn't 0
unfoldable pub first_code : ℤ → List Op
first_code s =
    Const 1 (Number s) ∷ Arith Add 6 1 5 ∷ Const 2 (Number (pos 0)) ∷ JumpIf Eq 7 4 (Place 7)
    ∷ LoadField A 2 1 ∷ LoadField A 3 6 ∷ Arith Add 2 2 3 ∷ []

-- the hash of the characters from register 2 on, as many as register 7 says, in register 9; and its descriptor
unfoldable pub hash_code : ℤ → List Op
hash_code d =
    Const 9 (Number (pos 0)) ∷ Const 10 (Number (pos 0)) ∷ Const 12 (Number (pos 131)) ∷ Const 13 (Number (pos 2147483648))
    ∷ JumpIf Eq 10 7 (Place 12) ∷ Arith Add 14 2 10 ∷ LoadChar 15 14 ∷ Arith Mul 9 9 12 ∷ Arith Add 9 9 15 ∷ Arith Rem 9 9 13
    ∷ Arith Add 10 10 11 ∷ Jump (Place 4)
    ∷ Const 3 Obsiz ∷ Arith Rem 14 9 3 ∷ Arith Mul 14 5 14 ∷ Arith Div 15 9 3 ∷ Const 3 (Number (pos 32768)) ∷ Arith Rem 15 15 3
    ∷ Const 1 (Number d) ∷ StoreCell 1 14 4 15 ∷ []

-- a specifier without its blanks at the end
unfoldable pub trim_code : ℕ → ℤ → ℤ → List Op
trim_code k s1 s2 =
    Begin k ∷ Const 1 (Number s2) ∷ LoadField A 2 1 ∷ LoadField F 3 1 ∷ LoadField V 4 1
    ∷ Const 5 Descr ∷ Arith Add 1 1 5 ∷ LoadField A 6 1 ∷ LoadField V 7 1 ∷ Arith Add 8 2 6
    ∷ Const 9 (Number (pos 0)) ∷ Const 10 (Number (pos 1)) ∷ Const 11 (Number (pos 32))
    ∷ JumpIf Eq 7 9 (Place 20) ∷ Arith Sub 12 7 10 ∷ Arith Add 13 8 12 ∷ LoadChar 14 13
    ∷ JumpIf Ne 14 11 (Place 20) ∷ Copy 7 12 ∷ Jump (Place 13)
    ∷ Const 1 (Number s1) ∷ StoreCell 1 2 3 4 ∷ Const 5 Descr ∷ Arith Add 1 1 5 ∷ StoreCell 1 6 9 7 ∷ []

-- register 8 := register 7
abbrev pub first_length : List Op
first_length = Copy 8 7 ∷ []

-- register 9 := register 7, and register 7 the lesser of registers 8 and 9
unfoldable pub shorter_code : List Op
shorter_code = Copy 9 7 ∷ JumpIf Lt 8 9 (Place 3) ∷ Jump (Place 4) ∷ Copy 7 8 ∷ []

-- register 13 := register 2
abbrev pub first_string : List Op
first_string = Copy 13 2 ∷ []

-- the characters of two strings, pair by pair from registers 13 and 2 on, as many as register 7 says; where none differ the lengths in registers 8 and 9 decide
unfoldable pub compare_code : ℕ → ℕ → ℕ → List Op
compare_code greater equal less =
    Copy 14 2 ∷ Copy 12 7 ∷ Const 10 (Number (pos 0))
    ∷ JumpIf Eq 10 12 (Place 14) ∷ Arith Add 1 13 10 ∷ LoadChar 1 1 ∷ Arith Add 2 14 10 ∷ LoadChar 2 2 ∷ JumpIf Ne 1 2 (Place 11)
    ∷ Arith Add 10 10 11 ∷ Jump (Place 3)
    ∷ JumpIf Lt 2 1 (Statement greater) ∷ JumpIf Lt 1 2 (Statement less) ∷ Jump (Statement equal)
    ∷ JumpIf Lt 9 8 (Statement greater) ∷ JumpIf Lt 8 9 (Statement less) ∷ Jump (Statement equal) ∷ []

-- the characters of one string behind those of another
unfoldable pub append_code : ℕ → ℤ → ℤ → List Op
append_code k s1 s2 =
    Begin k ∷ Const 1 (Number s1) ∷ LoadField A 2 1 ∷ Const 5 Descr ∷ Arith Add 6 1 5 ∷ LoadField A 3 6 ∷ LoadField V 4 6
    ∷ Arith Add 2 2 3 ∷ Arith Add 2 2 4 ∷ Const 1 (Number s2) ∷ LoadField A 7 1 ∷ Arith Add 1 1 5 ∷ LoadField A 8 1
    ∷ LoadField V 9 1 ∷ Arith Add 7 7 8 ∷ Arith Add 4 4 9 ∷ Const 10 (Number (pos 0)) ∷ Const 11 (Number (pos 1))
    ∷ JumpIf Eq 10 9 (Place 25) ∷ Arith Add 12 7 10 ∷ LoadChar 13 12 ∷ Arith Add 12 2 10 ∷ StoreChar 12 13
    ∷ Arith Add 10 10 11 ∷ Jump (Place 18) ∷ StoreField V 6 4 ∷ []

-- the least number of characters that are balanced
unfoldable pub balance_code : ℕ → ℤ → ℤ → ℕ → ℕ → List Op
balance_code k s d failure success =
    Begin k ∷ Const 4 (Number (pos 0)) ∷ Const 5 Descr ∷ Const 1 (Number s) ∷ Arith Add 6 1 5 ∷ LoadField V 7 6
    ∷ Const 3 (Number d) ∷ LoadField A 8 3 ∷ JumpIf Ge 4 8 (Statement failure)
    ∷ LoadField A 2 1 ∷ LoadField A 3 6 ∷ Arith Add 2 2 3 ∷ Arith Add 2 2 7
    ∷ Const 9 (Number (pos 0)) ∷ Const 10 (Number (pos 0)) ∷ Const 11 (Number (pos 1)) ∷ Const 12 (Number (pos 41)) ∷ Const 13 (Number (pos 40))
    ∷ JumpIf Eq 10 8 (Statement failure) ∷ Arith Add 14 2 10 ∷ LoadChar 15 14 ∷ Arith Add 10 10 11
    ∷ JumpIf Eq 15 12 (Place 26) ∷ JumpIf Eq 15 13 (Place 29)
    ∷ JumpIf Eq 9 4 (Place 31) ∷ Jump (Place 18)
    ∷ JumpIf Eq 9 4 (Statement failure) ∷ Arith Sub 9 9 11 ∷ Jump (Place 24)
    ∷ Arith Add 9 9 11 ∷ Jump (Place 18)
    ∷ Arith Add 7 7 10 ∷ StoreField V 6 7 ∷ Jump (Statement success) ∷ []

-- S := (the hidden buffer, 0, 0, 0, register 9)
unfoldable pub text_code : ℤ → List Op
text_code s = Const 3 Hidden ∷ Const 5 Descr ∷ Const 1 (Number s) ∷ StoreCell 1 3 4 4 ∷ Arith Add 1 1 5 ∷ StoreCell 1 4 4 9 ∷ []

-- the date goes into the hidden buffer
unfoldable pub date_code : ℕ → List Op
date_code k =
    Begin k ∷ Const 4 (Number (pos 0)) ∷ Const 11 (Number (pos 1)) ∷ Const 2 Date ∷ Const 3 Hidden ∷ Const 9 (Number (pos 8)) ∷ Const 10 (Number (pos 8)) ∷ Const 12 (Number (pos 256))
    ∷ JumpIf Eq 10 4 (Place 14) ∷ StoreChar 3 2 ∷ Arith Div 2 2 12 ∷ Arith Add 3 3 11 ∷ Arith Sub 10 10 11 ∷ Jump (Place 8) ∷ []

-- the integer that the characters from register 2 on spell, as many as register 7 says, goes to D with the value of I
unfoldable pub digits_code : ℤ → ℕ → ℕ → ℕ → List Op
digits_code d code failure success =
    Const 9 (Number (pos 0)) ∷ Const 10 (Number (pos 0)) ∷ Const 12 (Number (pos 0)) ∷ Const 8 (Number (negsuc 9223372036854775806)) ∷ Const 3 (Number (negsuc 922337203685477579)) ∷ Const 13 (Number (pos 10)) ∷ Const 14 (Number (pos 48))
    ∷ JumpIf Eq 7 4 (Place 32) ∷ Arith Add 15 2 10 ∷ LoadChar 15 15 ∷ Const 1 (Number (pos 45)) ∷ JumpIf Eq 15 1 (Place 16)
    ∷ Const 1 (Number (pos 43)) ∷ JumpIf Ne 15 1 (Place 20) ∷ Const 10 (Number (pos 1)) ∷ Jump (Place 19)
    ∷ Const 12 (Number (pos 1)) ∷ Const 8 (Number (negsuc 9223372036854775807)) ∷ Const 10 (Number (pos 1))
    ∷ JumpIf Eq 7 10 (Statement failure)
    ∷ JumpIf Eq 10 7 (Place 32) ∷ Arith Add 15 2 10 ∷ LoadChar 15 15 ∷ Arith Sub 15 15 14 ∷ JumpIf Geu 15 13 (Statement failure) ∷ JumpIf Lt 9 3 (Statement failure)
    ∷ Arith Mul 9 9 13 ∷ Arith Sub 1 9 8 ∷ JumpIf Ltu 1 15 (Statement failure) ∷ Arith Sub 9 9 15 ∷ Arith Add 10 10 11 ∷ Jump (Place 20)
    ∷ JumpIf Ne 12 4 (Place 34) ∷ Arith Sub 9 4 9 ∷ Const 1 (Number d) ∷ Const 6 (Number (pos code)) ∷ StoreCell 1 9 4 6 ∷ Jump (Statement success) ∷ []

-- there is no value of I
unfoldable pub no_code : ℕ → List Op
no_code k = Begin k ∷ Const 6 (Number (pos 3)) ∷ EndBy 6 ∷ []

-- registers 12 and 13 := registers 2 and 7
abbrev pub keep_first : List Op
keep_first = Copy 12 2 ∷ Copy 13 7 ∷ []

-- registers 14 and 15 := registers 2 and 7
abbrev pub keep_second : List Op
keep_second = Copy 14 2 ∷ Copy 15 7 ∷ []

-- the characters from register 12 on, as many as register 13 says, are replaced: for those from register 14 on stand those from register 2 on, as many as registers 15 and 7 say
unfoldable pub replace_code : List Op
replace_code =
    JumpIf Eq 15 7 (Place 3) ∷ Const 1 (Number (pos 3)) ∷ EndBy 1
    ∷ Const 10 (Number (pos 0)) ∷ Const 8 (Number (pos 256)) ∷ JumpIf Eq 10 8 (Place 9) ∷ StoreWord Scratch 10 4 ∷ Arith Add 10 10 11 ∷ Jump (Place 5)
    ∷ Const 10 (Number (pos 0)) ∷ JumpIf Eq 10 15 (Place 19) ∷ Arith Add 1 14 10 ∷ LoadChar 1 1 ∷ Arith Add 3 2 10 ∷ LoadChar 3 3 ∷ Arith Add 3 3 11 ∷ StoreWord Scratch 1 3 ∷ Arith Add 10 10 11 ∷ Jump (Place 10)
    ∷ Const 10 (Number (pos 0)) ∷ JumpIf Eq 10 13 (Place 29) ∷ Arith Add 1 12 10 ∷ LoadChar 3 1 ∷ LoadWord Scratch 3 3 ∷ JumpIf Eq 3 4 (Place 27) ∷ Arith Sub 3 3 11 ∷ StoreChar 1 3
    ∷ Arith Add 10 10 11 ∷ Jump (Place 20) ∷ []

-- the decimal text of D.A goes into the hidden buffer, and its length to register 9; its characters are made from the last on, in the scratch words below 100
unfoldable pub decimal_code : ℕ → ℤ → List Op
decimal_code k d =
    Begin k ∷ Const 4 (Number (pos 0)) ∷ Const 11 (Number (pos 1)) ∷ Const 1 (Number d) ∷ LoadField A 2 1 ∷ Const 12 (Number (pos 10)) ∷ Const 13 (Number (pos 48)) ∷ Const 10 (Number (pos 100)) ∷ Const 9 (Number (pos 0)) ∷ Const 14 (Number (pos 0))
    ∷ JumpIf Lt 2 4 (Place 13) ∷ Arith Sub 2 4 2 ∷ Jump (Place 14) ∷ Const 14 (Number (pos 1))
    ∷ Arith Rem 15 2 12 ∷ Arith Sub 15 13 15 ∷ Arith Sub 10 10 11 ∷ StoreWord Scratch 10 15 ∷ Arith Add 9 9 11 ∷ Arith Div 2 2 12 ∷ JumpIf Ne 2 4 (Place 14)
    ∷ JumpIf Eq 14 4 (Place 26) ∷ Const 15 (Number (pos 45)) ∷ Arith Sub 10 10 11 ∷ StoreWord Scratch 10 15 ∷ Arith Add 9 9 11
    ∷ Copy 8 9 ∷ Const 3 Hidden
    ∷ JumpIf Eq 8 4 (Place 35) ∷ LoadWord Scratch 15 10 ∷ StoreChar 3 15 ∷ Arith Add 3 3 11 ∷ Arith Add 10 10 11 ∷ Arith Sub 8 8 11 ∷ Jump (Place 28) ∷ []
