-- Programs of sources that were checked are well formed.
use Rattle.std.proofs.Common.{◌≡◌, ℕ, zero, suc, ◌+◌, ◌-◌, ◌*◌, ◌/◌, ◌%◌, ◌^◌, ◌<◌, ◌≤◌, Bool, true, false, cond, ◌&&◌, ◌==◌, List, [], ◌∷◌, length, Option, Some, None, ◌⊎◌, inl, inr, subst, pos, negsuc, refl, sym, ap, ◌∙◌, arith}
use Rattle.std.specs.Prelude.{All, IfSome, codes, option_and_then, option_map, nat_le, nat_lt, ◌||◌, slice_get, ℤ, sum_by}
use Rattle.std.specs.Int.{div_ceil}
use Rattle.std.specs.List.{list_all}
use Rattle.std.proofs.lemmas.Bool.Decides.{nat_tests}
use Rattle.std.proofs.lemmas.Option.{slice_get_within}
use Rattle.std.proofs.lemmas.List.Elements.{All-nil, All-cons, All-head, All-tail, All-weaker}
use Rattle.layout_params.specs.declared.cell.Cell.{Cell}
use Rattle.layout_params.specs.Sizes.{value_limit}
use Rattle.layout_params.specs.Parameters.{AreLegalSettings, Parameters, Settings}
use Rattle.layout_params.proofs.LegalLayouts.{legal}
use Rattle.sil_macros.specs.declared.names.Macro.{Macro}
use Rattle.sil_macros.specs.declared.names.Macro.TheVariants as macros
use Rattle.sil_macros.specs.MacroRows.{row}
use Rattle.sil_symbols.specs.declared.stmt.Stmt.{Stmt}
use Rattle.sil_base.specs.declared.line.Fault.{Fault}
use Rattle.sil_operands.specs.Limits.{are_within_limits}
use Rattle.sil_symbols.specs.Laws.{LawOfValues}
use Rattle.sil_symbols.specs.StatementParts.{part_of}
use Rattle.sil_symbols.specs.SymbolRules.{faults_from, with_fault}
use Rattle.sil_shapes.specs.Locations.{executable_count, statement_at, number_within}
use Rattle.sil_symbols.specs.Addresses.{cells_of, past_part, past, spot_after, first_spot}
use Rattle.sil_symbols.specs.Symbols.{size_names, value_of_name, extent, IsWithinLimits}
use Rattle.sil_base.specs.declared.places.TheConstants.{FIRST_CELL}
use Rattle.sil_model.specs.declared.program.Arg.{Arg}
use Rattle.sil_model.specs.declared.program.Arg.TheVariants as arg
use Rattle.sil_model.specs.declared.program.Program.{Program}
use Rattle.sil_model.specs.declared.program.Statement.{Statement}
use Rattle.layout_params.specs.Areas.{hidden_cells, all_cells}
use Rattle.sil_base.specs.declared.places.TheConstants.{FIRST_ENTRY}
use Rattle.sil_model.specs.declared.program.Specials.{Specials}
use Rattle.sil_program.specs.Built.{AreBuilt, is_built}
use Rattle.sil_model.specs.Fits.{Bounds, FitsRow, IsStatement, bounds_of}
use Rattle.sil_model.specs.Needs.{has_needed}
use Rattle.sil_format.specs.FormatGrammar.{IsFormat}
use Rattle.sil_model.specs.WellFormed.{AreSpecials, IsWellFormed}
use Rattle.syntax_tables.specs.declared.saying.Said.{Said}
use Rattle.sil_arguments.specs.MadeArguments.{Scope, scope_of, and_before, args_of}
use Rattle.sil_program.specs.Specials.{special_faults, special_rule, specials_in}
use Rattle.sil_program.specs.Programs.{formats_of, statement_with, machine_statement, machine_statements, program_with}
use Rattle.sil_program.specs.Verdicts.{is_built_macro, is_built_statement}
use Rattle.sil_program.specs.HeldPrograms.{HasFitPlaces, HaveShortLists, IsProgramOf}
use Rattle.sil_arguments.proofs.ArgLemmas.{IsFirst, IsScope, args_fit, both, first_is}
use Rattle.sil_program.proofs.FormatLemmas.{LawOfFormats, are_formats, are_short, few_bytes}
use Rattle.sil_program.proofs.ScopeLemmas.{scope_is}

-- ---- statements

abbrev IsStep : Bool → Option Statement → Option (List Statement) → List Statement → Type 0
IsStep b first rest made = ((b ≡ true) × (rest ≡ Some made)) ⊎ ((b ≡ false) × IsFirst first rest made)

step_is : (b : Bool) (first : Option Statement) (rest : Option (List Statement)) (made : List Statement) → cond b rest (and_before first rest) ≡ Some made → IsStep b first rest made
step_is true first rest made h = inl (refl, h)
step_is false first rest made h = inr (refl, first_is first rest made h)

-- an executable statement raises the count by one
counted_once : (m : Macro) (n : ℕ) (spot : _) → (past_part spot n (part_of m)).statements ≡ cond (row m).assembly spot.statements (spot.statements + 1)
counted_once macros.Array n spot = refl
counted_once macros.Buffer n spot = refl
counted_once macros.Copy n spot = refl
counted_once macros.Descr n spot = refl
counted_once macros.End n spot = refl
counted_once macros.Equ n spot = refl
counted_once macros.Format n spot = refl
counted_once macros.Lhere n spot = refl
counted_once macros.Spec n spot = refl
counted_once macros.String n spot = refl
counted_once macros.Title n spot = refl
counted_once _ n spot = refl

counted_if : (b : Bool) (n more : ℕ) → cond b n (n + 1) + more ≡ n + cond b more (more + 1)
counted_if true n more = refl
counted_if false n more = omega arith

-- the executable statements are counted
counted : (descr : ℕ) (names : _) (spot : _) (source : List Stmt) → (spot_after descr names spot source).statements ≡ spot.statements + executable_count source
counted descr names spot [] = omega arith
counted descr names spot (s ∷ source) =
    counted descr names (past descr names spot s) source
    ∙ ap (λ n. n + executable_count source) (counted_once s.name (cells_of descr names s) spot)
    ∙ counted_if (row s.name).assembly spot.statements (executable_count source)

passed_if : (b : Bool) (n : ℕ) → b ≡ true → cond b n (n + 1) ≡ n
passed_if b n h = rw h refl

taken_if : (b : Bool) (n : ℕ) → b ≡ false → cond b n (n + 1) ≡ n + 1
taken_if b n h = rw h refl

-- as many statements are made as are executable
made_count : (scope : Scope) (source : List Stmt) (made : List Statement) → machine_statements scope source ≡ Some made → executable_count source ≡ length made
made_count scope [] made h = let is : made ≡ [] = cc in rw is refl
made_count scope (s ∷ source) made h =
    elim (step_is (row s.name).assembly (machine_statement scope s) (machine_statements scope source) made h) [
      | inl e ↦ passed_if (row s.name).assembly (executable_count source) e.0 ∙ made_count scope source made e.1
      | inr e ↦
          let (item, more, first, rest, is) = e.1 in
          let next = made_count scope source more rest in
          let count : length made ≡ length more + 1 = rw is (omega arith) in
          taken_if (row s.name).assembly (executable_count source) e.0 ∙ omega (arith, next, count)
    ]

-- ---- statements of a program

is_built_of : (a b : Bool) → (a || b) ≡ true → a ≡ false → b ≡ true
is_built_of a b h unlike = grind arith

-- what holds of each statement that is made
pub record IsFit (b : Bounds) (specials : Specials) (statement : Statement) : Type 0 where
  pub row : FitsRow b statement
  pub built : is_built statement.name ≡ true
  pub needed : has_needed specials statement.name ≡ true

-- and of each statement that it is made of
pub record IsSound (specials : Specials) (s : Stmt) : Type 0 where
  pub built : is_built_macro s.name ≡ true
  pub needed : has_needed specials s.name ≡ true
  pub lists : are_within_limits s.operands ≡ true

statement_fits : (b : Bounds) (specials : Specials) (scope : Scope) → IsScope b scope → (s : Stmt) (o : Option (List Arg)) (made : Statement) → args_of scope (row s.name).places s.operands ≡ o → option_map (statement_with s) o ≡ Some made →
    (row s.name).assembly ≡ false → IsSound specials s → IsFit b specials made
statement_fits b specials scope are s None made e h runs sound = let no : ⊥ = cc in absurd no
statement_fits b specials scope are s (Some args) made e h runs sound =
    let is : made ≡ statement_with s args = cc in
    let (shape, within) = args_fit b scope are (row s.name).places s.operands args sound.lists e in
    rw is (record {
      row = record { runs = runs; shape = shape; within = within };
      built = is_built_of (row s.name).assembly (is_built s.name) sound.built runs;
      needed = sound.needed;
    })

statements_fit : (b : Bounds) (specials : Specials) (scope : Scope) → IsScope b scope → (source : List Stmt) (made : List Statement) → All (IsSound specials) source → machine_statements scope source ≡ Some made → All (IsFit b specials) made
statements_fit b specials scope are [] made sound h =
    let is : made ≡ [] = cc in
    rw is (All-nil (IsFit b specials))
statements_fit b specials scope are (s ∷ source) made sound h =
    let this = All-head (IsSound specials) s source sound in
    let others = All-tail (IsSound specials) s source sound in
    elim (step_is (row s.name).assembly (machine_statement scope s) (machine_statements scope source) made h) [
      | inl e ↦ statements_fit b specials scope are source made others e.1
      | inr e ↦
          let (item, more, first, rest, is) = e.1 in
          let fit = statement_fits b specials scope are s (args_of scope (row s.name).places s.operands) item refl first e.0 this in
          rw is (All-cons (IsFit b specials) item more fit (statements_fit b specials scope are source more others rest))
    ]

-- ---- statements without a fault

no_rule : (letter card : ℕ) (o : Option ℕ) (faults : List Fault) → with_fault letter card o faults ≡ [] → (o ≡ None) × (faults ≡ [])
no_rule letter card None faults h = (refl, h)
no_rule letter card (Some rule) faults h = let no : ⊥ = cc in absurd no

needed_of : (b : Bool) → cond {A = Option ℕ} b None (Some 1) ≡ None → b ≡ true
needed_of true h = refl
needed_of false h = let no : ⊥ = cc in absurd no

all_sound : (specials : Specials) (place : ℕ) (source : List Stmt) → faults_from 80 (special_rule specials) place source ≡ [] → list_all is_built_statement source ≡ true → HaveShortLists source → All (IsSound specials) source
all_sound specials place [] none built short = All-nil (IsSound specials)
all_sound specials place (s ∷ source) none built short =
    let (rule, rules) = no_rule 80 s.card (special_rule specials place s) (faults_from 80 (special_rule specials) (place + 1) source) none in
    let (this, others) = both (is_built_statement s) (list_all is_built_statement source) built in
    let one : IsSound specials s = record {
      built = this;
      needed = needed_of (has_needed specials s.name) rule;
      lists = All-head (λ (t : Stmt). are_within_limits t.operands ≡ true) s source short;
    } in
    All-cons (IsSound specials) s source one (all_sound specials (place + 1) source rules others (All-tail (λ (t : Stmt). are_within_limits t.operands ≡ true) s source short))

sound : (p : Parameters) (source : List Stmt) → special_faults p source ≡ [] → list_all is_built_statement source ≡ true → HaveShortLists source → All (IsSound (specials_in p source)) source
unfolding special_faults
sound p source none built short = all_sound (specials_in p source) 0 source none built short

-- ---- special symbols

statement_within : (size count : ℕ) (b : Bounds) (value : Option ℤ) → count ≤ b.statements → IsStatement b (option_and_then (statement_at size count) value)
statement_within size count b None h = tt
statement_within size count b (Some (negsuc n)) h = tt
statement_within size count b (Some (pos n)) h = test (nat_le FIRST_ENTRY n && ((n - FIRST_ENTRY) % size == 0) && nat_lt ((n - FIRST_ENTRY) / size) count) refl
  where
    test : (t : Bool) → (nat_le FIRST_ENTRY n && ((n - FIRST_ENTRY) % size == 0) && nat_lt ((n - FIRST_ENTRY) / size) count) ≡ t → IsStatement b (cond t (Some ((n - FIRST_ENTRY) / size)) None)
    test false is = tt
    test true is =
        let below : (n - FIRST_ENTRY) / size < count = grind (arith, nat_tests) in
        omega arith

number_most : (limit : ℕ) (value : Option ℤ) → IfSome (option_and_then (number_within limit) value) (λ v. v ≤ limit)
number_most limit None = tt
number_most limit (Some (negsuc n)) = tt
number_most limit (Some (pos n)) = test (nat_le n limit) refl
  where
    test : (t : Bool) → nat_le n limit ≡ t → IfSome (cond t (Some n) None) (λ v. v ≤ limit)
    test false is = tt
    test true is = grind (arith, nat_tests)

-- ---- programs

found : (p : Parameters) (source : List Stmt) (lines : List Said) (cells : List Cell) (o : Option (List Statement)) (program : Program) → option_map (program_with p source lines cells) o ≡ Some program → (made : List Statement) × (o ≡ Some made) × (program ≡ program_with p source lines cells made)
found p source lines cells None program h = let no : ⊥ = cc in absurd no
found p source lines cells (Some made) program h = (made, refl, cc)

-- what each program of a source that was checked meets
pub record IsChecked (settings : Settings) (program : Program) : Type 0 where
  pub well_formed : IsWellFormed program settings
  pub built : AreBuilt program

-- the cells of the hidden buffer, by the size of a cell in words
hidden_by : (words : ℕ) → 2 ≤ words → words ≤ 8 → (20 + 8 * words - 1) / (8 * words) ≡ div_ceil 20 (8 * words)
hidden_by zero least most = absurd (omega arith)
hidden_by (suc zero) least most = absurd (omega arith)
hidden_by (suc (suc zero)) least most = refl
hidden_by (suc (suc (suc zero))) least most = refl
hidden_by (suc (suc (suc (suc zero)))) least most = refl
hidden_by (suc (suc (suc (suc (suc zero))))) least most = refl
hidden_by (suc (suc (suc (suc (suc (suc zero)))))) least most = refl
hidden_by (suc (suc (suc (suc (suc (suc (suc zero))))))) least most = refl
hidden_by (suc (suc (suc (suc (suc (suc (suc (suc zero)))))))) least most = refl
hidden_by (suc (suc (suc (suc (suc (suc (suc (suc (suc words))))))))) least most = absurd (omega arith)

hidden_is : (settings : Settings) → AreLegalSettings settings → hidden_cells settings ≡ div_ceil 20 settings.sizes.descr
hidden_is settings good =
    let l = legal settings.sizes good.layout in
    let whole : 8 * (settings.sizes.descr / 8) ≡ settings.sizes.descr = omega (arith, l.multiple) in
    subst (λ d. (20 + d - 1) / d ≡ div_ceil 20 d) whole (hidden_by (settings.sizes.descr / 8) (omega (arith, l.least)) (omega (arith, l.most)))

-- the cells of all kinds
few_cells : (p : Parameters) (source : List Stmt) (count : ℕ) → AreLegalSettings p.settings → IsWithinLimits p source → count ≡ (extent p source).cells → all_cells p.settings count ≤ 2 ^ 20
few_cells p source count good limits is = omega (arith, hidden_is p.settings good, limits.cells)

-- the special symbols of a program that was made
specials_fit : (p : Parameters) (source : List Stmt) (program : Program) → program.specials ≡ specials_in p source → executable_count source ≤ (bounds_of program p.settings).statements → HasFitPlaces program.specials →
    All (λ (s : Statement). has_needed program.specials s.name ≡ true) program.statements → AreSpecials program p.settings
specials_fit p source program specials count places needed =
    let size = p.settings.sizes.descr in
    let values = value_of_name p source in
    record {
      over = rw (ap (λ s. s.over) specials) (statement_within size (executable_count source) (bounds_of program p.settings) (values (codes "OVER")) count);
      under = rw (ap (λ s. s.under) specials) (statement_within size (executable_count source) (bounds_of program p.settings) (values (codes "INTR10")) count);
      stype = places.stype;
      first = places.first;
      head = places.head;
      tail = places.tail;
      int_code = rw (ap (λ s. s.int_code) specials) (number_most (value_limit p.settings.sizes) (values (codes "I")));
      needed = needed;
    }

pub checked : LawOfValues → LawOfFormats → (p : Parameters) (source : List Stmt) (program : Program) → IsProgramOf p source program → IsChecked p.settings program
checked values_fit formats_spelled p source program h =
    let over = h.made in
    let scope = scope_of p source h.lines in
    let (made, made_is, is) = found p source h.lines program.cells (machine_statements scope source) program over.made in
    let b = bounds_of program p.settings in
    let statements : program.statements ≡ made = ap (λ q. q.statements) is in
    let texts : program.formats ≡ formats_of source = ap (λ q. q.formats) is in
    let specials : program.specials ≡ specials_in p source = ap (λ q. q.specials) is in
    let same : length program.statements ≡ length made = ap length statements in
    let count : executable_count source ≡ b.statements = made_count scope source made made_is ∙ sym same in
    let are = scope_is values_fit p source h.lines b count (sym over.named) (sym texts) refl in
    let sounds = subst (λ (x : Specials). All (IsSound x) source) (sym specials) (sound p source over.needs over.built h.lists) in
    let fit : All (IsFit b program.specials) program.statements = subst (All (IsFit b program.specials)) (sym statements) (statements_fit b program.specials scope are source made sounds made_is) in
    let executable = counted p.settings.sizes.descr (size_names p source) first_spot source in
    let all = few_cells p source (length program.cells) over.legal.settings h.limits h.count in
    record {
      well_formed = record {
        legal = over.legal.settings;
        statements = omega (arith, executable, count, h.limits.executable);
        rows = All-weaker (IsFit b program.specials) (FitsRow b) (λ s f. f.row) program.statements fit;
        cells = h.fit;
        cell_count = all;
        table_count = over.table_count;
        tables = over.tables;
        formats = subst (All IsFormat) (sym texts) (are_formats formats_spelled source h.formatted);
        format_lengths = subst (All (λ text. length text ≤ 256)) (sym texts) (are_short source h.texts.each);
        format_bytes = omega (arith, ap (sum_by length) texts, few_bytes source, h.texts.together);
        specials = specials_fit p source program specials (omega (arith, count)) over.specials (All-weaker (IsFit b program.specials) (λ (s : Statement). has_needed program.specials s.name ≡ true) (λ s f. f.needed) program.statements fit);
      };
      built = All-weaker (IsFit b program.specials) (λ (s : Statement). is_built s.name ≡ true) (λ s f. f.built) program.statements fit;
    }
