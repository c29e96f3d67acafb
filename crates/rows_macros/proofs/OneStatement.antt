-- Programs of one statement that are well formed.
use Rattle.std.proofs.Common.{◌≡◌, ◌≤◌, ◌<◌, ℕ, List, [], ◌∷◌, arith, refl}
use Rattle.std.specs.Prelude.{All, Contains, FitsSigned, ℤ, length, sum_by, true}
use Rattle.std.specs.Int.{w64}
use Rattle.std.proofs.lemmas.List.Elements.{All-cons, All-nil}
use Rattle.layout_params.specs.Parameters.{Parameters, AreLegal, standard}
use Rattle.layout_params.specs.declared.cell.Cell.{Cell}
use Rattle.layout_params.specs.declared.cell.Cell.TheVariants.{Descr}
use Rattle.sil_format.specs.FormatGrammar.{IsFormat}
use Rattle.sil_macros.specs.declared.names.Macro.TheVariants.{Output}
use Rattle.sil_model.specs.declared.program.Arg.{Arg}
use Rattle.sil_model.specs.declared.program.Arg.TheVariants.{Format, Place, Places}
use Rattle.sil_model.specs.declared.program.Statement.{Statement}
use Rattle.sil_model.specs.Fits.{Bounds, FitsRow, IsWithin, bounds_of}
use Rattle.sil_model.specs.Memory.{FitsCell}
use Rattle.sil_model.specs.Needs.{has_needed}
use Rattle.sil_model.specs.Start.{limits_of}
use Rattle.sil_model.specs.WellFormed.{AreSpecials, IsTable, IsWellFormed}
use Rattle.rows_macros.specs.OneStatement.{three_cells, no_specials, only}

one : {A : Type 0} (P : A → Type 0) (x : A) → P x → All P (x ∷ [])
one P x p = All-cons P x [] p (All-nil P)

abbrev cell_of : ℤ → Cell
cell_of a = Descr (record { a = a; f = 0; v = 0 })

abbrev Fits : Cell → Type 0
Fits = FitsCell (limits_of standard.settings)

three_fit : (a b c : ℤ) → FitsSigned w64 a → FitsSigned w64 b → FitsSigned w64 c → All Fits (three_cells a b c)
three_fit a b c fa fb fc =
    All-cons Fits (cell_of a) (cell_of b ∷ cell_of c ∷ []) (fa, omega arith, omega arith) (All-cons Fits (cell_of b) (cell_of c ∷ []) (fb, omega arith, omega arith) (one Fits (cell_of c) (fc, omega arith, omega arith)))

no_symbols : (statement : Statement) (cells : List Cell) (formats : List (List ℕ)) → has_needed no_specials statement.name ≡ true → AreSpecials (only statement cells formats) standard.settings
no_symbols statement cells formats needed = record {
  over = tt;
  under = tt;
  stype = tt;
  first = tt;
  head = tt;
  tail = tt;
  int_code = tt;
  needed = one (λ (s : Statement). has_needed no_specials s.name ≡ true) statement needed;
}

-- a statement that fits, over three descriptors
pub only_well_formed : (p : Parameters) (statement : Statement) (a b c : ℤ) (formats : List (List ℕ)) → p ≡ standard → AreLegal p → ((bounds : Bounds) → bounds.formats ≡ formats → FitsRow bounds statement) →
    has_needed no_specials statement.name ≡ true → All IsFormat formats → All (λ text. length text ≤ 256) formats → sum_by length formats ≤ 2097152 → FitsSigned w64 a → FitsSigned w64 b → FitsSigned w64 c →
    IsWellFormed (only statement (three_cells a b c) formats) p.settings
only_well_formed p statement a b c formats is legal fits needed are short few fa fb fc =
    let standard_legal : AreLegal standard = rw is at legal in
    rw is (made standard_legal)
  where
    bounds : Bounds
    bounds = bounds_of (only statement (three_cells a b c) formats) standard.settings

    made : AreLegal standard → IsWellFormed (only statement (three_cells a b c) formats) standard.settings
    made legal = record {
      legal = legal.settings;
      statements = omega arith;
      rows = one (FitsRow bounds) statement (fits bounds refl);
      cells = three_fit a b c fa fb fc;
      cell_count = omega arith;
      table_count = omega arith;
      tables = All-nil (IsTable 0);
      formats = are;
      format_lengths = short;
      format_bytes = few;
      specials = no_symbols statement (three_cells a b c) formats needed;
    }

-- an OUTPUT by the only format
pub output_fits : (bounds : Bounds) (card : ℕ) (text : List ℕ) (d : ℤ) (items : List ℤ) → bounds.formats ≡ text ∷ [] → FitsSigned w64 d → (length items ≤ 40) × All (FitsSigned w64) items →
    FitsRow bounds (record { card = card; name = Output; args = Place d ∷ Format text ∷ Places items ∷ [] })
output_fits bounds card text d items is fd fit = record {
  runs = refl;
  shape = refl;
  within = All-cons (IsWithin bounds) (Place d) (Format text ∷ Places items ∷ []) fd (All-cons (IsWithin bounds) (Format text) (Places items ∷ []) there (one (IsWithin bounds) (Places items) fit));
}
  where
    there : Contains bounds.formats text
    there = rw is (0, omega arith, refl)

pub no_places : (length {A = ℤ} [] ≤ 40) × All (FitsSigned w64) []
no_places = (omega arith, All-nil (FitsSigned w64))

pub one_place : (a : ℤ) → FitsSigned w64 a → (length (a ∷ []) ≤ 40) × All (FitsSigned w64) (a ∷ [])
one_place a fa = (omega arith, one (FitsSigned w64) a fa)

pub two_places : (a b : ℤ) → FitsSigned w64 a → FitsSigned w64 b → (length (a ∷ b ∷ []) ≤ 40) × All (FitsSigned w64) (a ∷ b ∷ [])
two_places a b fa fb = (omega arith, All-cons (FitsSigned w64) a (b ∷ []) fa (one (FitsSigned w64) b fb))

pub one_format : (text : List ℕ) → IsFormat text → All IsFormat (text ∷ [])
one_format text is = one IsFormat text is

pub one_short : (text : List ℕ) → length text ≤ 256 → All (λ (t : List ℕ). length t ≤ 256) (text ∷ [])
one_short text short = one (λ (t : List ℕ). length t ≤ 256) text short

pub no_formats : All IsFormat []
no_formats = All-nil IsFormat

pub none_long : All (λ (t : List ℕ). length t ≤ 256) []
none_long = All-nil (λ (t : List ℕ). length t ≤ 256)

pub ruleset statements = (only_well_formed, output_fits, no_places, one_place, two_places, one_format, one_short, no_formats, none_long)
