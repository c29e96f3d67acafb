-- What is left to be laid out, and what a stop answers.
use Rattle.std.specs.Prelude.{◌≡◌, ℕ, List, [], ◌∷◌, ◌++◌, Bool}
use Rattle.sil_format.specs.Records.{Step, laid}
use Rattle.sil_format.specs.declared.sheet.Sheet.{Sheet}
use Rattle.sil_format.specs.declared.sheet.Stop.{Stop}
use Rattle.sil_format.specs.declared.sheet.Stop.TheVariants as stop
use Rattle.sil_format.specs.declared.value.Value.{Value}
use Rattle.sil_format.specs.declared.value.Laid.{Laid}
use Rattle.sil_format.specs.declared.value.Laid.TheVariants.{Records, Real, Unfit}

-- records before what is laid out after them
abbrev pub behind : List (List ℕ) → Laid → Laid
behind records (Records more) = Records (records ++ more)
behind records Real = Real
behind records Unfit = Unfit

-- what a sheet comes to by the steps and values that are left
abbrev pub outcome : Bool → Sheet → List Step → List Value → Laid
outcome again sheet steps values = behind sheet.ended.items (laid again steps sheet.last.items values)

-- all records of a sheet, the last one too
abbrev pub all_records : Sheet → List (List ℕ)
all_records sheet = sheet.ended.items ++ sheet.last.items ∷ []

-- what a stop makes of the whole
abbrev pub Stops : Stop → Laid → Sheet → Type 0
Stops stop.NoValue whole sheet = whole ≡ Records (all_records sheet)
Stops stop.Real whole sheet = whole ≡ Real
Stops stop.Unfit whole sheet = whole ≡ Unfit
Stops stop.Memory whole sheet = Unit {0}
