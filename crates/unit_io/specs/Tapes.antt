-- Tapes: records with a place among them, and what calls leave of them.
use Rattle.std.specs.Prelude.{ℕ, ◌+◌, ◌-◌, min, Bool, true, false, List, [], ◌∷◌, ◌++◌, length, take, slice_get, Option, Some, None, if◌then◌else◌, map, replicate}
use Rattle.std.specs.Option.{option_map}
use Rattle.sil_base.specs.Causes.{next_count, call_fails}
use Rattle.unit_io.specs.Numbered.{with_unit}

-- records, the place of the next one, the calls made, and the numbers of the calls that fail
pub record TapeState : Type 0 where
  pub records : List (List ℕ)
  pub place : ℕ
  pub calls : ℕ
  pub fails : List ℕ

-- the next call has a number that fails
abbrev pub next_fails : TapeState → Bool
next_fails t = call_fails t.calls t.fails

-- the tape with one call more
abbrev pub called : TapeState → TapeState
called t = record t { calls = next_count t.calls }

-- the tape after a call that changes it, unless the call fails
abbrev pub unless_fails : TapeState → (TapeState → TapeState) → TapeState
unless_fails t change = if next_fails t then called t else called (change t)

-- the record at the place, none at the end
abbrev pub next_record : TapeState → Option (List ℕ)
next_record t = slice_get t.records t.place

-- a read goes one record further, and no further than the end
abbrev pub forward : TapeState → TapeState
forward t = record t { place = min (t.place + 1) (length t.records) }

-- a write keeps the records before the place, and appends this one
abbrev pub recorded : List ℕ → TapeState → TapeState
recorded bytes t = record t { records = take t.place t.records ++ bytes ∷ []; place = t.place + 1 }

abbrev pub rewound : TapeState → TapeState
rewound t = record t { place = 0 }

abbrev pub backspaced : TapeState → TapeState
backspaced t = record t { place = t.place - 1 }

-- the end of a file drops the records from the place on
abbrev pub ended : TapeState → TapeState
ended t = record t { records = take t.place t.records }

-- a finish changes nothing
abbrev pub finished : TapeState → TapeState
finished t = t

-- the tape after these writes, in order up to the first that fails
abbrev pub after_writes : List (List ℕ) → TapeState → TapeState
after_writes [] t = t
after_writes (bytes ∷ rest) t = if next_fails t then called t else after_writes rest (called (recorded bytes t))

-- one of these writes fails
abbrev pub writes_fail : List (List ℕ) → TapeState → Bool
writes_fail [] t = false
writes_fail (bytes ∷ rest) t = if next_fails t then true else writes_fail rest (called (recorded bytes t))

-- for each number from 1: no unit, a unit that doesn't tell its tape, or a tape
abbrev pub Tapes : Type 0
Tapes = List (Option (Option TapeState))

abbrev pub no_tapes : Tapes
no_tapes = replicate 15 None

-- the same tapes, with this one as unit n's
abbrev pub with_tape : Tapes → ℕ → TapeState → Tapes
with_tape tapes n t = with_unit tapes n (Some (Some t))

-- each attached unit tells its tape
abbrev pub all_told : Tapes → Bool
all_told [] = true
all_told (None ∷ tapes) = all_told tapes
all_told (Some None ∷ tapes) = false
all_told (Some (Some t) ∷ tapes) = all_told tapes

-- the tapes after one finish of each
abbrev pub finished_tapes : Tapes → Tapes
finished_tapes tapes = map (option_map (option_map (λ t. unless_fails t finished))) tapes

-- how many of these finishes fail
abbrev pub failed_finishes : Tapes → ℕ
failed_finishes [] = 0
failed_finishes (None ∷ tapes) = failed_finishes tapes
failed_finishes (Some None ∷ tapes) = failed_finishes tapes
failed_finishes (Some (Some t) ∷ tapes) = (if next_fails t then 1 else 0) + failed_finishes tapes
