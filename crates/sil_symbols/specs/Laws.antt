-- Laws of symbols.
use Rattle.std.specs.Prelude.{◌≡◌, ℕ, ◌+◌, ◌*◌, ◌≤◌, ◌<◌, List, [], ◌∷◌, ◌++◌, All, Some, true, sum_by, count_by, ℤ, pos, FitsSigned}
use Rattle.std.specs.Int.{w64}
use Rattle.layout_params.specs.Parameters.{Parameters}
use Rattle.sil_operands.specs.declared.expr.Term.{Term}
use Rattle.sil_symbols.specs.declared.stmt.Stmt.{Stmt}
use Rattle.sil_symbols.specs.StatementParts.{part_of, takes_size, is_data, is_executable}
use Rattle.sil_symbols.specs.NameValues.{first_expression}
use Rattle.sil_symbols.specs.Addresses.{size_of, cells_of}
use Rattle.sil_symbols.specs.Symbols.{size_names, value_of, value_of_name, IsWithinLimits}
use Rattle.sil_symbols.specs.Labels.{is_labelled}
use Rattle.sil_symbols.specs.SymbolRules.{faults_of}
use Rattle.sil_base.specs.declared.places.TheConstants.{FIRST_CELL, FIRST_ENTRY}

-- values have 64 bits
abbrev pub LawOfValues : Type 0
LawOfValues = (p : Parameters) (source : List Stmt) (terms : List Term) (z : ℤ) → value_of p source terms ≡ Some z → FitsSigned w64 z

-- the size of an ARRAY or a BUFFER is the value of its first operand
pub record HasSize (p : Parameters) (source : List Stmt) (s : Stmt) : Type 0 where
  pub size : ℕ
  pub terms : List Term
  pub first : first_expression s.operands ≡ Some terms
  pub counted : size_of (size_names p source) s ≡ Some size
  pub value : value_of p source terms ≡ Some (pos size)

-- where there are no faults, each ARRAY and each BUFFER has a size
abbrev pub LawOfSizes : Type 0
LawOfSizes = (p : Parameters) (source : List Stmt) → faults_of p source ≡ [] → All (λ s. takes_size (part_of s.name) ≡ true → HasSize p source s) source

-- how many cells, and how many executable statements, stand in a part of a source
abbrev pub cell_count : Parameters → List Stmt → List Stmt → ℕ
cell_count p source part = sum_by (cells_of p.settings.sizes.descr (size_names p source)) part

abbrev pub statement_count : List Stmt → ℕ
statement_count part = count_by (λ s. is_executable (part_of s.name)) part

-- the label of a data statement has the address of the next cell after those of all statements before it, and that of an executable statement the entry of its number
pub record HasAddress (p : Parameters) (source before : List Stmt) (s : Stmt) : Type 0 where
  pub cell : is_data (part_of s.name) ≡ true → value_of_name p source s.label ≡ Some (pos (FIRST_CELL + cell_count p source before * p.settings.sizes.descr))
  pub entry : is_executable (part_of s.name) ≡ true → value_of_name p source s.label ≡ Some (pos (FIRST_ENTRY + statement_count before * p.settings.sizes.descr))

-- where there are no faults, each label has its address
abbrev pub LawOfAddresses : Type 0
LawOfAddresses = (p : Parameters) (before : List Stmt) (s : Stmt) (after : List Stmt) → faults_of p (before ++ s ∷ after) ≡ [] → IsWithinLimits p (before ++ s ∷ after) → p.settings.sizes.descr ≤ 64
    → is_labelled s ≡ true → HasAddress p (before ++ s ∷ after) before s

-- of two labels with addresses a and b, the first before the second: the cells of the first end before those of the second, two statements have two entries, and no entry is the address of a cell
pub record AreApart (p : Parameters) (source : List Stmt) (s t : Stmt) (a b : ℕ) : Type 0 where
  pub cells : is_data (part_of s.name) ≡ true → is_data (part_of t.name) ≡ true → a + cells_of p.settings.sizes.descr (size_names p source) s * p.settings.sizes.descr ≤ b
  pub entries : is_executable (part_of s.name) ≡ true → is_executable (part_of t.name) ≡ true → a < b
  pub kinds : is_data (part_of s.name) ≡ true → is_executable (part_of t.name) ≡ true → a < b
  pub others : is_executable (part_of s.name) ≡ true → is_data (part_of t.name) ≡ true → b < a

abbrev pub LawOfPlaces : Type 0
LawOfPlaces = (p : Parameters) (before : List Stmt) (s : Stmt) (between : List Stmt) (t : Stmt) (after : List Stmt) → faults_of p (before ++ s ∷ (between ++ t ∷ after)) ≡ [] → IsWithinLimits p (before ++ s ∷ (between ++ t ∷ after))
    → 1 ≤ p.settings.sizes.descr → p.settings.sizes.descr ≤ 64 → is_labelled s ≡ true → is_labelled t ≡ true → (a b : ℕ) → value_of_name p (before ++ s ∷ (between ++ t ∷ after)) s.label ≡ Some (pos a) → value_of_name p (before ++ s ∷ (between ++ t ∷ after)) t.label ≡ Some (pos b)
    → AreApart p (before ++ s ∷ (between ++ t ∷ after)) s t a b
