-- The files that a program is made from, and what a check of them answers.
use Rattle.std.specs.Prelude.{◌≡◌, ℕ, false, List, Option, Some, None}
use Rattle.sil_base.specs.declared.limits.TheConstants.{MAX_FILE_BYTES}
use Rattle.std.specs.declared.result.Result.{Result}
use Rattle.std.specs.declared.result.Result.TheVariants.{Ok, Err}
use Rattle.sil_base.specs.Files.{Files}
use Rattle.sil_base.specs.Loads as loads
use Rattle.sil_base.specs.Loads.{stopping}
use Rattle.sil_base.specs.declared.line.Fault.{Fault}
use Rattle.layout_params.specs.Parameters.{Parameters}
use Rattle.layout_params.specs.Entries.{values_of}
use Rattle.layout_params.specs.ParameterFaults.{parameter_fault}
use Rattle.sil_cards.specs.CardParts.{CardParts}
use Rattle.sil_cards.specs.Readings.{cards_of}
use Rattle.sil_cards.specs.declared.stop.CardStop.{CardStop}
use Rattle.sil_cards.specs.declared.stop.CardStop.TheVariants as read
use Rattle.sil_program.specs.Statements.{statements_of}
use Rattle.sil_program.specs.Verdicts.{verdict, is_built_source}
use Rattle.sil_check.specs.declared.stop.CheckStop.{CheckStop}
use Rattle.sil_check.specs.declared.stop.CheckStop.TheVariants as stop
use Rattle.sil_check.specs.SourceNames.{Names}
use Rattle.sil_check.specs.CheckedPrograms.{Job}
use Rattle.sil_check.specs.CheckStops.{stop_by_load, stop_by_program}

-- what a source and its copies come to: cards, or the faults of their lines
pub data Source : Type 0 where
  Cards : List CardParts → Source
  Faulty : List Fault → Source

-- the bytes of the parameters and the tables, and what the source comes to
pub record Inputs : Type 0 where
  pub params : List ℕ
  pub tables : List ℕ
  pub source : Source

-- a value, or the stop that came first
abbrev pub on_result : {T E X : Type 0} → Result T E → (T → X) → (E → X) → X
on_result (Ok x) go stop = go x
on_result (Err e) go stop = stop e

-- and then what is made of a value
abbrev pub and_then : {T U E : Type 0} → Result T E → (T → Result U E) → Result U E
and_then r next = on_result r next (λ e. Err e)

-- ---- what is loaded

-- a file, or the stop that names it
abbrev pub loaded : Files → List ℕ → ℕ → Result (List ℕ) CheckStop
loaded files name limit = stopping stop_by_load (loads.loaded files name limit)

-- a file that can't be had stops the check; faults are told later, since the parameters come first
abbrev pub refused_source : CardStop → Result Source CheckStop
refused_source (read.Faults faults) = Ok (Faulty faults)
refused_source (read.Missing name) = Err (stop.Missing name)
refused_source (read.TooLong name) = Err (stop.TooLong name)
refused_source (read.Failed name) = Err (stop.Failed name)
refused_source read.Memory = Err stop.Memory

abbrev pub source_by : Result (List CardParts) CardStop → Result Source CheckStop
source_by r = on_result r (λ cards. Ok (Cards cards)) refused_source

-- what is loaded of these files, or the stop of the first that can't be had
abbrev pub inputs_of : Names → Files → Result Inputs CheckStop
inputs_of names files =
    and_then (loaded files names.params MAX_FILE_BYTES) (λ params.
    and_then (loaded files names.tables MAX_FILE_BYTES) (λ tables.
    and_then (source_by (cards_of files names.source)) (λ source.
    Ok (record { params = params; tables = tables; source = source }))))

-- ---- what is checked

abbrev pub unless_faulty : Option Fault → Parameters → Result Parameters CheckStop
unless_faulty (Some fault) p = Err (stop.Params fault)
unless_faulty None p = Ok p

-- the parameters that a file gives, or its fault
abbrev pub parameters_by : List ℕ → Result Parameters CheckStop
parameters_by params = unless_faulty (parameter_fault params) (values_of params)

abbrev pub cards_by : Source → Result (List CardParts) CheckStop
cards_by (Cards cards) = Ok cards
cards_by (Faulty faults) = Err (stop.Faults faults)

-- the program of cards and the parameters, or what the check says of them
abbrev pub job_of : Parameters → List ℕ → List CardParts → Result Job CheckStop
job_of p tables cards = on_result (verdict cards tables p) (λ program. Ok (record { program = program; parameters = p })) (λ e. Err (stop_by_program e))

-- the fault of the parameters comes first, then the faults of the cards, then what the check says
unfoldable pub job_in : Inputs → Result Job CheckStop
job_in inputs = and_then (parameters_by inputs.params) (λ p. and_then (cards_by inputs.source) (job_of p inputs.tables))

-- the program and the parameters that files of these names give, or why they give none
abbrev pub checked_of : Names → Files → Result Job CheckStop
checked_of names files = and_then (inputs_of names files) job_in

-- ---- what isn't installed so far

-- one of the cards has a macro that isn't installed
abbrev pub AreUnbuilt : List CardParts → Type 0
AreUnbuilt cards = is_built_source (statements_of cards) ≡ false

-- a source with such a card
abbrev pub IsUnbuiltSource : Source → Type 0
IsUnbuiltSource (Cards cards) = AreUnbuilt cards
IsUnbuiltSource (Faulty faults) = ⊥
