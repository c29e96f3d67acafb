-- The instructions of the shared routines. Each ends with its own three words of the undefined end, or has them behind a branch.
use Rattle.std.specs.Prelude.{ℕ, zero, suc, ◌*◌, ◌/◌, pos, List, [], ◌∷◌, ◌++◌}
use Rattle.rv_isa.specs.declared.instr.ROp.TheVariants.{Add, Sub, Mul, Divu, Remu}
use Rattle.rv_isa.specs.declared.instr.IOp.TheVariants.{Addi, Andi, Slli, Srli, Lbu, Jalr}
use Rattle.rv_isa.specs.declared.instr.SOp.TheVariants.{Sb, Sd}
use Rattle.rv_isa.specs.declared.instr.BOp.TheVariants.{Beq, Bne, Bltu, Bgeu}
use Rattle.rv_isa.specs.declared.instr.UOp.TheVariants.{Lui}
use Rattle.rv_isa.specs.declared.instr.Instr.{Instr}
use Rattle.rv_isa.specs.declared.instr.Instr.TheVariants.{R, I, S, B, U, Ecall}
use Rattle.rv_straight.specs.Constants.{upper_of, lower_of}

-- whether the cell at the address in x10 is one of so many cells of d bytes, and a descriptor
abbrev pub check_code : ℕ → ℕ → List Instr
check_code d count =
    U Lui 28 0x4_0000
    ∷ R Sub 28 10 28
    ∷ I Addi 29 0 (pos d)
    ∷ R Remu 30 28 29
    ∷ B Bne 30 0 (pos 40)
    ∷ R Divu 28 28 29
    ∷ U Lui 29 (upper_of count)
    ∷ I Addi 29 29 (lower_of count)
    ∷ B Bgeu 28 29 (pos 24)
    ∷ U Lui 29 0x5_0000
    ∷ R Add 28 28 29
    ∷ I Lbu 28 28 (pos 0)
    ∷ B Bne 28 0 (pos 8)
    ∷ I Jalr 0 11 (pos 0)
    ∷ I Addi 17 0 (pos 1)
    ∷ I Addi 10 0 (pos 3)
    ∷ Ecall
    ∷ []

-- the same, where the number in x12 has so many bits
abbrev pub fit_code : ℕ → ℕ → ℕ → List Instr
fit_code bits d count = I Srli 28 12 (pos bits) ∷ B Bne 28 0 (pos 60) ∷ check_code d count

-- whether the numbers in x12 and x13 have so many bits and the address in x10 is that of a cell, which becomes a descriptor
abbrev pub open_code : ℕ → ℕ → ℕ → ℕ → List Instr
open_code fbits vbits d count =
    I Srli 28 12 (pos fbits)
    ∷ B Bne 28 0 (pos 64)
    ∷ I Srli 28 13 (pos vbits)
    ∷ B Bne 28 0 (pos 56)
    ∷ U Lui 28 0x4_0000
    ∷ R Sub 28 10 28
    ∷ I Addi 29 0 (pos d)
    ∷ R Remu 30 28 29
    ∷ B Bne 30 0 (pos 36)
    ∷ R Divu 28 28 29
    ∷ U Lui 29 (upper_of count)
    ∷ I Addi 29 29 (lower_of count)
    ∷ B Bgeu 28 29 (pos 20)
    ∷ U Lui 29 0x5_0000
    ∷ R Add 28 28 29
    ∷ S Sb 28 0 (pos 0)
    ∷ I Jalr 0 11 (pos 0)
    ∷ I Addi 17 0 (pos 1)
    ∷ I Addi 10 0 (pos 3)
    ∷ Ecall
    ∷ []

-- whether the cell in which the address in x10 lies has characters
abbrev pub char_code : ℕ → ℕ → List Instr
char_code d count =
    U Lui 28 0x4_0000
    ∷ R Sub 28 10 28
    ∷ I Addi 29 0 (pos d)
    ∷ R Divu 28 28 29
    ∷ U Lui 29 (upper_of count)
    ∷ I Addi 29 29 (lower_of count)
    ∷ B Bgeu 28 29 (pos 24)
    ∷ U Lui 29 0x5_0000
    ∷ R Add 28 28 29
    ∷ I Lbu 28 28 (pos 0)
    ∷ B Beq 28 0 (pos 8)
    ∷ I Jalr 0 11 (pos 0)
    ∷ I Addi 17 0 (pos 1)
    ∷ I Addi 10 0 (pos 3)
    ∷ Ecall
    ∷ []

-- the same, where the address is a multiple of 8
abbrev pub word_code : ℕ → ℕ → List Instr
word_code d count = I Andi 28 10 (pos 7) ∷ B Bne 28 0 (pos 52) ∷ char_code d count

-- whether the number in x10 is below another
abbrev pub below_code : ℕ → List Instr
below_code n =
    U Lui 28 (upper_of n)
    ∷ I Addi 28 28 (lower_of n)
    ∷ B Bgeu 10 28 (pos 8)
    ∷ I Jalr 0 11 (pos 0)
    ∷ I Addi 17 0 (pos 1)
    ∷ I Addi 10 0 (pos 3)
    ∷ Ecall
    ∷ []

-- n words of zeros, from the k-th one on, at the address in x30
abbrev pub zeros_code : ℕ → ℕ → List Instr
zeros_code k zero = []
zeros_code k (suc n) = S Sd 30 0 (pos (8 * k)) ∷ zeros_code (suc k) n

-- the tests of the next routine, and its mark
abbrev pub make_front : ℕ → ℕ → List Instr
make_front d count =
    U Lui 28 0x4_0000
    ∷ R Sub 28 10 28
    ∷ I Addi 29 0 (pos d)
    ∷ R Remu 30 28 29
    ∷ R Divu 28 28 29
    ∷ U Lui 29 (upper_of count)
    ∷ I Addi 29 29 (lower_of count)
    ∷ B Bgeu 28 29 (pos 24)
    ∷ U Lui 29 0x5_0000
    ∷ R Add 28 28 29
    ∷ I Lbu 29 28 (pos 0)
    ∷ B Beq 29 0 (pos 20)
    ∷ I Jalr 0 11 (pos 0)
    ∷ I Addi 17 0 (pos 1)
    ∷ I Addi 10 0 (pos 3)
    ∷ Ecall
    ∷ I Addi 29 0 (pos 1)
    ∷ S Sb 28 29 (pos 0)
    ∷ R Sub 30 10 30
    ∷ []

-- whether the address in x10 lies in a cell, which becomes zeros as characters where it had none
abbrev pub make_code : ℕ → ℕ → List Instr
make_code d count = make_front d count ++ zeros_code 0 (d / 8) ++ I Jalr 0 11 (pos 0) ∷ []

-- the tests of the next routine, and the kind
abbrev pub kind_front : ℕ → ℕ → List Instr
kind_front d count =
    I Addi 28 0 (pos 2)
    ∷ B Bgeu 12 28 (pos 16)
    ∷ U Lui 28 (upper_of count)
    ∷ I Addi 28 28 (lower_of count)
    ∷ B Bltu 10 28 (pos 16)
    ∷ I Addi 17 0 (pos 1)
    ∷ I Addi 10 0 (pos 3)
    ∷ Ecall
    ∷ U Lui 28 0x5_0000
    ∷ R Add 28 28 10
    ∷ S Sb 28 12 (pos 0)
    ∷ I Addi 29 0 (pos d)
    ∷ R Mul 29 10 29
    ∷ U Lui 30 0x4_0000
    ∷ R Add 30 30 29
    ∷ []

-- whether the number in x12 is a kind and that in x10 the number of a cell, which becomes zeros of this kind
abbrev pub kind_code : ℕ → ℕ → List Instr
kind_code d count = kind_front d count ++ zeros_code 0 (d / 8) ++ I Jalr 0 11 (pos 0) ∷ []

-- whether the number in x10 is 0 or 1, or 2 where that in x12 is the number of steps taken; into word 0 or 1 of the scratch region goes the number in x12
abbrev pub state_code : List Instr
state_code =
    I Addi 28 0 (pos 2)
    ∷ B Bltu 10 28 (pos 32)
    ∷ B Bne 10 28 (pos 16)
    ∷ R Sub 28 25 27
    ∷ B Bne 12 28 (pos 8)
    ∷ I Jalr 0 11 (pos 0)
    ∷ I Addi 17 0 (pos 1)
    ∷ I Addi 10 0 (pos 3)
    ∷ Ecall
    ∷ I Slli 28 10 (pos 3)
    ∷ U Lui 29 0x6_C000
    ∷ R Add 28 28 29
    ∷ S Sd 28 12 (pos 0)
    ∷ I Jalr 0 11 (pos 0)
    ∷ []

-- ---- the same for contracts, which don't unfold

unfoldable pub check_routine : ℕ → ℕ → List Instr
check_routine d count = check_code d count

unfoldable pub fit_routine : ℕ → ℕ → ℕ → List Instr
fit_routine bits d count = fit_code bits d count

unfoldable pub open_routine : ℕ → ℕ → ℕ → ℕ → List Instr
open_routine fbits vbits d count = open_code fbits vbits d count

unfoldable pub char_routine : ℕ → ℕ → List Instr
char_routine d count = char_code d count

unfoldable pub word_routine : ℕ → ℕ → List Instr
word_routine d count = word_code d count

unfoldable pub below_routine : ℕ → List Instr
below_routine n = below_code n

unfoldable pub make_routine : ℕ → ℕ → List Instr
make_routine d count = make_code d count

unfoldable pub kind_routine : ℕ → ℕ → List Instr
kind_routine d count = kind_code d count

unfoldable pub state_routine : List Instr
state_routine = state_code
