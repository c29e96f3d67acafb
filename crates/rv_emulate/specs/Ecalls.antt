-- What an ECALL asks for: the number of the call stands in a7 (x17), its operands in a0 to a5 (x10 to x15).
use Rattle.std.specs.Prelude.{ℕ, zero, suc, ◌*◌, ◌%◌, Bool, false, ◌&&◌, ◌||◌, ◌==◌, nat_lt, nat_le, List, [], ◌∷◌, take, drop, map, Option, Some, None, if◌then◌else◌, ℤ}
use Rattle.std.specs.Int.{w64, cast_signed}
use Rattle.sil_base.specs.Bytes.{number}
use Rattle.sil_format.specs.declared.value.Value.{Value}
use Rattle.sil_format.specs.declared.value.Value.TheVariants.{Number, Char}
use Rattle.unit_io.specs.Tapes.{TapeState, rewound, backspaced, ended}
use Rattle.unit_io.specs.Answers.{read_bytes}
use Rattle.unit_calls.specs.CallsMade.{Made, moved, print_on, read}
use Rattle.sil_base.specs.declared.limits.TheConstants.{MAX_FORMAT_BYTES, MAX_LIST_ITEMS, MAX_VALUE_CHARACTERS}
use Rattle.rv_emulate.specs.declared.end.CpuEnd.{CpuEnd}
use Rattle.rv_emulate.specs.declared.end.CpuEnd.TheVariants.{Exit, Trap, Undefined, Budget, UnitFault, BadCall}
use Rattle.rv_emulate.specs.EmulatorMemory.{Memory, bytes_at, can_load, can_store, with_bytes}
use Rattle.rv_emulate.specs.EmulatorStates.{register}

-- the end at a statement where the last unit call failed
abbrev pub unit_fault : ℕ → Option ℕ → ℕ → CpuEnd
unit_fault statement (Some unit) pc = UnitFault statement unit
unit_fault statement None pc = BadCall pc

-- the end that the number in a0 asks for
abbrev pub end_by : ℕ → ℕ → Option ℕ → ℕ → CpuEnd
end_by a0 statement failed pc =
    if nat_lt a0 2 then Exit a0
    else if a0 == 2 then Trap statement
    else if a0 == 3 then Undefined statement
    else if a0 == 4 then Budget
    else if a0 == 5 then unit_fault statement failed pc
    else BadCall pc

-- a call that ends the run: call 1 at a statement, or at the place after the last, and any other call that can't be made
abbrev pub call : ℕ → ℕ → ℕ → ℕ → Option ℕ → ℕ → CpuEnd
call count a7 a0 statement failed pc = if (a7 == 1) && nat_le statement count then end_by a0 statement failed pc else BadCall pc

-- call 2 reads into a2 bytes at a1
abbrev pub can_read : Memory → List ℕ → Bool
can_read m xs = can_store m (register xs 12) (register xs 11)

-- the values of call 3: a4 characters at a3 where a5 is 0, as many words of eight bytes where it is 1
abbrev pub can_take : List ℕ → Memory → ℕ → ℕ → ℕ → Bool
can_take constants m a3 a4 a5 =
    if a5 == 0 then nat_le a4 MAX_VALUE_CHARACTERS && can_load constants m a4 a3
    else if a5 == 1 then nat_le a4 MAX_LIST_ITEMS && (a3 % 8 == 0) && can_load constants m (8 * a4) a3
    else false

-- call 3 writes values by a format of a2 bytes at a1
abbrev pub can_write : List ℕ → Memory → List ℕ → Bool
can_write constants m xs =
    nat_le (register xs 12) MAX_FORMAT_BYTES && can_load constants m (register xs 12) (register xs 11) && can_take constants m (register xs 13) (register xs 14) (register xs 15)

-- a call on a unit that can be made: 2 reads, 3 writes, 4 rewinds, 5 backspaces, and 6 ends the file
abbrev pub is_unit_call : List ℕ → Memory → List ℕ → Bool
is_unit_call constants m xs =
    let a7 = register xs 17 in
    if a7 == 2 then can_read m xs
    else if a7 == 3 then can_write constants m xs
    else (a7 == 4) || (a7 == 5) || (a7 == 6)

-- ---- what is handed to a unit, and what the call leaves

-- as many words of eight bytes, as signed numbers
abbrev pub words_in : ℕ → List ℕ → List ℤ
words_in zero bytes = []
words_in (suc n) bytes = cast_signed w64 (number (take 8 bytes)) ∷ words_in n (drop 8 bytes)

-- the values of call 3
abbrev pub values_at : List ℕ → Memory → ℕ → ℕ → ℕ → List Value
values_at constants m a3 a4 a5 = if a5 == 0 then map Char (bytes_at constants m a4 a3) else map Number (words_in a4 (bytes_at constants m (8 * a4) a3))

-- a call that can be made, on the unit's tape
abbrev pub made_by : List ℕ → Memory → List ℕ → TapeState → Made
made_by constants m xs t =
    let a7 = register xs 17 in
    if a7 == 2 then read t
    else if a7 == 3 then print_on (bytes_at constants m (register xs 12) (register xs 11)) (values_at constants m (register xs 13) (register xs 14) (register xs 15)) t
    else if a7 == 4 then moved rewound t
    else if a7 == 5 then moved backspaced t
    else moved ended t

-- the bytes after a read into old ones; a number of a record that is no byte counts by its lowest eight bits
abbrev pub bytes_read : TapeState → List ℕ → List ℕ
bytes_read t old = map (λ c. c % 256) (read_bytes t old)

-- the memory that it leaves: call 2 reads into it
abbrev pub memory_after : Memory → List ℕ → TapeState → Memory
memory_after m xs t = if register xs 17 == 2 then with_bytes m (register xs 11) (bytes_read t (bytes_at [] m (register xs 12) (register xs 11))) else m
