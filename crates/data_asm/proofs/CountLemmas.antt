-- As many cells stand as the addresses of symbols count.
use Rattle.std.proofs.Common.{◌≡◌, ℕ, ◌+◌, ◌*◌, ◌≤◌, ◌<◌, ◌^◌, Bool, true, false, not, cond, ◌&&◌, get_or, drop, List, [], ◌∷◌, ◌++◌, length, Option, Some, None, pos, refl, sym, ap, ◌∙◌, arith, length-append, add-one, suc}
use Rattle.std.specs.List.{list_all}
use Rattle.std.specs.Prelude.{All, ℤ, unwrap_or}
use Rattle.std.specs.Int.{div_ceil}
use Rattle.std.proofs.Math.Nat.{mul-le-mul_left}
use Rattle.std.proofs.Math.Seq.{drop-cons}
use Rattle.std.proofs.lemmas.List.{length-replicate}
use Rattle.std.proofs.lemmas.List.Elements.{All-head, All-tail}
use Rattle.layout_params.specs.declared.cell.Cell.{Cell}
use Rattle.layout_params.specs.Parameters.{Parameters}
use Rattle.sil_base.specs.declared.line.Fault.{Fault}
use Rattle.sil_macros.specs.declared.names.Macro.{Macro}
use Rattle.sil_macros.specs.declared.names.Macro.TheVariants as macros
use Rattle.sil_operands.specs.declared.expr.Term.{Term}
use Rattle.sil_operands.specs.declared.operand.Operand.{Operand}
use Rattle.sil_operands.specs.declared.operand.Operand.TheVariants.{Null, Expr, List as Listed, Text}
use Rattle.sil_symbols.specs.declared.stmt.Stmt.{Stmt}
use Rattle.sil_symbols.specs.StatementParts.{part_of, takes_size}
use Rattle.sil_symbols.specs.NameValues.{first_expression}
use Rattle.sil_symbols.specs.Addresses as symbols
use Rattle.sil_symbols.specs.Addresses.{size_of, text_length, part_cells, past_part, past, spot_after, first_spot}
use Rattle.sil_symbols.specs.Symbols.{size_names, value_of, extent}
use Rattle.sil_symbols.specs.SymbolRules.{with_fault, faults_from}
use Rattle.sil_symbols.specs.Laws.{HasSize}
use Rattle.sil_base.specs.declared.places.TheConstants.{FIRST_CELL}
use Rattle.sil_model.specs.Start.{zero_cell}
use Rattle.data_asm.specs.CharacterCells.{text_cells}
use Rattle.data_asm.specs.DataFields.{value_at, first_text, as_number}
use Rattle.data_asm.specs.Cells.{specifier, data_cells, cells_of, cells_after, static_cells_of}
use Rattle.data_asm.specs.DataFaults.{statement_fits, is_formatted, data_rule, data_faults}
use Rattle.data_asm.proofs.TextLemmas.{cells_count}

text_same : (operands : List Operand) → length (first_text operands) ≡ text_length operands
text_same [] = refl
text_same (Null ∷ operands) = refl
text_same (Expr terms ∷ operands) = refl
text_same (Listed items ∷ operands) = refl
text_same (Text text ∷ operands) = refl

text_count : (size : ℕ) (operands : List Operand) → length (text_cells size (first_text operands)) ≡ div_ceil (text_length operands) size
text_count size operands = cells_count size (div_ceil (length (first_text operands)) size) (first_text operands) ∙ ap (λ n. div_ceil n size) (text_same operands)

abbrev IsSize : (List Term → Option ℤ) → List Operand → Option ℕ → Type 0
IsSize values operands n = (k : ℕ) × (n ≡ Some k) × (value_at values operands 0 ≡ pos k)

data_count : (size : ℕ) (values : List Term → Option ℤ) (at : ℤ) (m : Macro) (operands : List Operand) (n : Option ℕ) → (takes_size (part_of m) ≡ true → IsSize values operands n) → length (data_cells size values at m operands) ≡ part_cells size (unwrap_or n 0) (text_length operands) (part_of m)
data_count size values at macros.Descr operands n h = refl
data_count size values at macros.Spec operands n h = refl
data_count size values at macros.Array operands n h =
    let (k, is, value) = h refl in
    length-replicate (as_number (value_at values operands 0)) zero_cell ∙ ap as_number value ∙ sym (ap (λ o. unwrap_or o 0) is)
data_count size values at macros.Buffer operands n h =
    let (k, is, value) = h refl in
    length-replicate (div_ceil (as_number (value_at values operands 0)) size) _ ∙ ap (λ z. div_ceil (as_number z) size) value ∙ sym (ap (λ o. div_ceil (unwrap_or o 0) size) is)
data_count size values at macros.String operands n h = omega (arith, text_count size operands, length-append (specifier at (length (first_text operands))) (text_cells size (first_text operands)))
data_count size values at macros.Format operands n h = text_count size operands
data_count size values at _ operands n h = refl

past_count : (m : Macro) (size n text : ℕ) (spot : _) → (past_part spot (part_cells size n text (part_of m)) (part_of m)).cells ≡ spot.cells + part_cells size n text (part_of m)
past_count macros.Descr size n text spot = refl
past_count macros.Spec size n text spot = refl
past_count macros.Array size n text spot = refl
past_count macros.Buffer size n text spot = refl
past_count macros.String size n text spot = refl
past_count macros.Format size n text spot = refl
past_count _ size n text spot = omega arith

first_value : (values : List Term → Option ℤ) (operands : List Operand) (terms : List Term) (k : ℕ) → first_expression operands ≡ Some terms → values terms ≡ Some (pos k) → value_at values operands 0 ≡ pos k
first_value values [] terms k first value = let no : ⊥ = cc in absurd no
first_value values (Null ∷ operands) terms k first value = let no : ⊥ = cc in absurd no
first_value values (Expr these ∷ operands) terms k first value =
    let same : these ≡ terms = cc in
    ap (λ ts. unwrap_or (values ts) (pos 0)) same ∙ ap (λ o. unwrap_or o (pos 0)) value
first_value values (Listed items ∷ operands) terms k first value = let no : ⊥ = cc in absurd no
first_value values (Text text ∷ operands) terms k first value = let no : ⊥ = cc in absurd no

-- each ARRAY and each BUFFER has a size
abbrev pub IsSizedBy : Parameters → List Stmt → Stmt → Type 0
IsSizedBy p whole s = takes_size (part_of s.name) ≡ true → HasSize p whole s

abbrev pub AreSized : Parameters → List Stmt → List Stmt → Type 0
AreSized p whole source = All (IsSizedBy p whole) source

-- a statement has as many cells as are counted for it
pub cells_counted : (p : Parameters) (whole : List Stmt) (before : ℕ) (s : Stmt) → IsSizedBy p whole s → length (cells_of p.settings.sizes.descr (value_of p whole) before s) ≡ symbols.cells_of p.settings.sizes.descr (size_names p whole) s
cells_counted p whole before s sized =
    let size = p.settings.sizes.descr in
    data_count size (value_of p whole) (pos (FIRST_CELL + (before + 2) * size)) s.name s.operands (size_of (size_names p whole) s)
    (λ takes. let has = sized takes in
    (has.size, has.counted, first_value (value_of p whole) s.operands has.terms has.size has.first has.value))

after_count : (p : Parameters) (whole : List Stmt) (size : ℕ) (before : List Cell) (spot : _) (source : List Stmt) → AreSized p whole source → length before ≡ (spot_after size (size_names p whole) spot []).cells → length (cells_after size (value_of p whole) before source) ≡ (spot_after size (size_names p whole) spot source).cells
after_count p whole size before spot [] sized h = h
after_count p whole size before spot (s ∷ source) sized h =
    let values = value_of p whole in
    let at = pos (FIRST_CELL + (length before + 2) * size) in
    let this = data_count size values at s.name s.operands (size_of (size_names p whole) s)
    (λ takes. let has = All-head (λ s. takes_size (part_of s.name) ≡ true → HasSize p whole s) s source sized takes in
    (has.size, has.counted, first_value values s.operands has.terms has.size has.first has.value)) in
    let next = past_count s.name size (unwrap_or (size_of (size_names p whole) s) 0) (text_length s.operands) spot in
    after_count p whole size (before ++ cells_of size values (length before) s) (past size (size_names p whole) spot s) source
    (All-tail (λ s. takes_size (part_of s.name) ≡ true → HasSize p whole s) s source sized)
    (omega (arith, this, next, length-append before (cells_of size values (length before) s)))

-- the static cells of a source are as many as it counts
pub static_count : (p : Parameters) (source : List Stmt) → AreSized p source source → length (static_cells_of p source) ≡ (extent p source).cells
unfolding static_cells_of
static_count p source sized = after_count p source p.settings.sizes.descr [] first_spot source sized refl

-- cells only get more
pub cells_grow : (size : ℕ) (values : List Term → Option ℤ) (before : List Cell) (source : List Stmt) → length before ≤ length (cells_after size values before source)
cells_grow size values before [] = omega arith
cells_grow size values before (s ∷ source) =
    omega (arith, cells_grow size values (before ++ cells_of size values (length before) s) source, length-append before (cells_of size values (length before) s))

pub bytes_below : (n size : ℕ) → size ≤ 64 → n ≤ 2 ^ 20 → (n + 2) * size ≤ 67108992
bytes_below n size small few =
    let wide : (n + 2) * size ≤ (n + 2) * 64 = mul-le-mul_left (n + 2) small in
    omega arith

-- the cells after one statement more
pub after_step : (size : ℕ) (values : List Term → Option ℤ) (before : List Cell) (source : List Stmt) (i : ℕ) (s : Stmt) → i < length source → s ≡ get_or source i s → cells_after size values before (drop i source) ≡ cells_after size values (before ++ cells_of size values (length before) s) (drop (i + 1) source)
after_step size values before source i s h is =
    let e : drop i source ≡ s ∷ drop (i + 1) source = rw add-one (drop-cons source i s h ∙ ap (λ x. x ∷ drop (suc i) source) (sym is)) in
    ap (cells_after size values before) e

-- where no line breaks a rule, all data fit, and all texts of FORMAT are formats
abbrev broken : Bool → Bool → Option ℕ
broken fits formatted = cond (not fits) (Some 1) (cond (not formatted) (Some 2) None)

clean_first : (fits formatted : Bool) (card : ℕ) (rest : List Fault) → with_fault 65 card (broken fits formatted) rest ≡ [] → (fits ≡ true) × (formatted ≡ true) × (rest ≡ [])
clean_first true true card rest h = (refl, refl, h)
clean_first true false card rest h = let no : ⊥ = cc in absurd no
clean_first false formatted card rest h = let no : ⊥ = cc in absurd no

both_true : (a b : Bool) → a ≡ true → b ≡ true → (a && b) ≡ true
both_true a b h k = rw (h, k) refl

abbrev IsClean : Parameters → List Stmt → List Stmt → Type 0
IsClean p whole source = (list_all (statement_fits p whole) source ≡ true) × (list_all is_formatted source ≡ true)

clean_from : (p : Parameters) (whole : List Stmt) (place : ℕ) (source : List Stmt) → faults_from 65 (data_rule p whole) place source ≡ [] → IsClean p whole source
clean_from p whole place [] h = (refl, refl)
clean_from p whole place (s ∷ source) h =
    let (fits, formatted, rest) = clean_first (statement_fits p whole s) (is_formatted s) s.card (faults_from 65 (data_rule p whole) (place + 1) source) h in
    let (all_fit, all_formatted) = clean_from p whole (place + 1) source rest in
    (both_true (statement_fits p whole s) (list_all (statement_fits p whole) source) fits all_fit, both_true (is_formatted s) (list_all is_formatted source) formatted all_formatted)

pub clean : (p : Parameters) (source : List Stmt) → data_faults p source ≡ [] → IsClean p source source
unfolding data_faults
clean p source h = clean_from p source 0 source h
