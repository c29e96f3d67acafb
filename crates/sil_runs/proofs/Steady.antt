-- A well formed program runs through valid states alone.
use Rattle.std.proofs.Common.{◌≡◌, ℕ, zero, suc, ◌+◌, ◌-◌, ◌*◌, ◌%◌, ◌^◌, ◌≤◌, ◌<◌, ◌⊎◌, List, [], ◌∷◌, length, replicate, Some, None, refl, sym, ap, subst, arith, length-append}
use Rattle.std.proofs.Math.IntN.{+ℤ_idr}
use Rattle.std.proofs.Math.Nat.{mul_assoc}
use Rattle.std.specs.Prelude.{slice_get, All, IsTrue, Bool, true, ◌&&◌, nat_le}
use Rattle.std.specs.List.{list_all}
use Rattle.std.proofs.lemmas.List.{length-replicate}
use Rattle.std.proofs.lemmas.Bool.Decides.{nat_tests}
use Rattle.std.proofs.lemmas.Option.{slice_get_within, same_Some}
use Rattle.layout_params.specs.Sizes.{Sizes, is_legal, widths_fit, fields_fit, fields_apart}
use Rattle.layout_params.specs.Parameters.{Settings, Parameters}
use Rattle.layout_params.specs.declared.cell.Cell.{Cell}
use Rattle.unit_io.specs.Tapes.{Tapes}
use Rattle.sil_macros.specs.declared.names.Macro.{Macro}
use Rattle.sil_macros.specs.declared.shapes.Place.{Place as Slot}
use Rattle.sil_macros.specs.Macros.{macros, number_of, with_number}
use Rattle.sil_macros.specs.MacroRows.{row}
use Rattle.sil_model.specs.declared.program.Arg.{Arg}
use Rattle.sil_model.specs.declared.program.Arg.TheVariants.{Places, Gotos}
use Rattle.sil_model.specs.declared.program.Flow.TheVariants.{Next, To, Exit, Trap}
use Rattle.sil_model.specs.declared.program.Program.{Program}
use Rattle.sil_model.specs.declared.program.Statement.{Statement}
use Rattle.sil_model.specs.Memory.{AreLimits}
use Rattle.sil_model.specs.Effects.{Effect, On, Undefined, UnitFault, Untold}
use Rattle.sil_model.specs.Fits.{Bounds, bounds_of, IsWithin, FitsRow, fit}
use Rattle.sil_model.specs.Sites.{site_of}
use Rattle.sil_runs.specs.Costs.{weight, weight_limit}
use Rattle.sil_model.specs.OperandCounts.{operand_count, item_count}
use Rattle.sil_runs.specs.Machine.{make_step}
use Rattle.sil_model.specs.Settling.{settle, at_next}
use Rattle.layout_params.specs.Areas.{blank_cells, all_cells, empty_stack}
use Rattle.sil_model.specs.Start.{limits_of, first_memory, first_state, zero_cell}
use Rattle.sil_model.specs.States.{State, Goes}
use Rattle.sil_model.specs.Valid.{IsValid, IsTop}
use Rattle.sil_runs.specs.StepLaws.{LawOfSteps}
use Rattle.sil_model.specs.WellFormed.{IsWellFormed}
use Rattle.sil_model.proofs.Fits.{start_fits}
use Rattle.sil_runs.proofs.ClauseLaws.{lawful}
use Rattle.sil_model.proofs.Keeps.{all_at}
use Rattle.sil_model.proofs.Lawful.{at_start}
use Rattle.sil_model.proofs.Leaves.{IsHere, IsSound, IsRoomy, Leaves}

record Widths (s : Sizes) : Type 0 where
  pub least : 16 ≤ s.descr
  pub most : s.descr ≤ 64
  pub words : s.descr % 8 ≡ 0
  pub flags : (s.f_len ≡ 1) ⊎ (s.f_len ≡ 2) ⊎ (s.f_len ≡ 4)

widths : (s : Sizes) → IsTrue (widths_fit s) → Widths s
widths s h = grind arith

first_part : (a b c : Bool) → IsTrue (a && b && c) → IsTrue a
first_part a b c h = grind arith

flags_fit : (n : ℕ) → (n ≡ 1) ⊎ (n ≡ 2) ⊎ (n ≡ 4) → 2 ^ (8 * n) - 1 < 2 ^ 32
flags_fit n h = grind arith

-- the limits of a legal layout
pub limits_are : (settings : Settings) → IsTrue (is_legal settings.sizes) → AreLimits (limits_of settings)
limits_are settings h =
    let w : Widths settings.sizes = widths settings.sizes (first_part (widths_fit settings.sizes) (fields_fit settings.sizes) (fields_apart settings.sizes) h) in
    record { least = w.least; most = w.most; words = w.words; flags = flags_fit settings.sizes.f_len w.flags; values = omega arith }

cell_count : (settings : Settings) (statics : List Cell) → length (first_memory settings statics).cells ≡ all_cells settings (length statics)
cell_count settings statics = omega (arith, length-append statics (replicate (blank_cells settings) zero_cell), length-replicate {A = Cell} (blank_cells settings) zero_cell)

is_empty_top : (settings : Settings) (statics : ℕ) → IsTop settings statics (empty_stack settings statics)
is_empty_top settings statics =
    let none : 0 * settings.sizes.descr ≡ 0 = omega arith in
    (0, omega arith, rw none (sym (+ℤ_idr (empty_stack settings statics))))

starts : (program : Program) (settings : Settings) → IsWellFormed program settings → (tapes : Tapes) →
    IsValid program settings (first_state program settings tapes) × ((first_state program settings tapes).steps ≡ 0)
unfolding first_state
starts program settings h tapes = (
  record {
    within = omega arith;
    memory = start_fits (limits_of settings) program.cells (blank_cells settings) (limits_are settings h.legal.layout) h.cells (omega (arith, h.cell_count));
    limits = refl;
    cells = cell_count settings program.cells;
    table_count = refl;
    tables = h.tables;
    current = is_empty_top settings (length program.cells);
    previous = is_empty_top settings (length program.cells);
    steps = omega arith;
  },
  refl,
)

sound : (program : Program) (settings : Settings) (s : State) → IsValid program settings s → IsSound program settings s
sound program settings s v = record { memory = v.memory; limits = v.limits; cells = v.cells; table_count = v.table_count; tables = v.tables; current = v.current; previous = v.previous }

next_valid : (program : Program) (settings : Settings) (s t : State) (k : ℕ) → IsSound program settings t → s.steps < 2 ^ 40 → k ≤ length program.statements → IsValid program settings (at_next s k t)
next_valid program settings s t k v few within = record {
  within = within;
  memory = v.memory;
  limits = v.limits;
  cells = v.cells;
  table_count = v.table_count;
  tables = v.tables;
  current = v.current;
  previous = v.previous;
  steps = omega arith;
}

same_goes : (s t : State) → Goes s ≡ Goes t → s ≡ t
same_goes s t e = cc

abbrev IsNext : Program → Settings → State → State → Type 0
IsNext program settings s t = IsValid program settings t × (t.steps ≡ s.steps + 1)

settles : (program : Program) (settings : Settings) (s t : State) (o : Effect) → s.steps < 2 ^ 40 → s.statement < length program.statements →
    Leaves program settings o → settle s o ≡ Goes t → IsNext program settings s t
unfolding Leaves
settles program settings s t None few below h e = cc
settles program settings s t (Some (Untold, u)) few below h e = cc
settles program settings s t (Some (On Next, u)) few below h e =
    subst (IsNext program settings s) (same_goes _ t e) (next_valid program settings s u (s.statement + 1) h.1 few (omega arith), refl)
settles program settings s t (Some (On (To k), u)) few below h e =
    subst (IsNext program settings s) (same_goes _ t e) (next_valid program settings s u k h.1 few h.0, refl)
settles program settings s t (Some (On (Exit code), u)) few below h e = cc
settles program settings s t (Some (On Trap, u)) few below h e = cc
settles program settings s t (Some (Undefined, u)) few below h e = cc
settles program settings s t (Some (UnitFault unit, u)) few below h e = cc

roomy : (program : Program) (settings : Settings) → IsWellFormed program settings → IsRoomy settings (length program.cells)
roomy program settings h = let limits = limits_are settings h.legal.layout in record { least = limits.least; most = limits.most; few = h.cell_count }

here : (program : Program) (parameters : Parameters) → IsWellFormed program parameters.settings → (statement : Statement) (s : State) → slice_get program.statements s.statement ≡ Some statement →
    IsValid program parameters.settings s → s.steps < 2 ^ 40 → IsHere (site_of program parameters s.statement statement) s
here program parameters h statement s is v few = record {
  number = omega (arith, h.statements, slice_get_within program.statements s.statement statement is);
  rows = h.rows;
  args = (all_at (FitsRow (bounds_of program parameters.settings)) program.statements s.statement statement h.rows is).within;
  specials = h.specials;
  roomy = roomy program parameters.settings h;
  sound = sound program parameters.settings s v;
  steps = few;
}

keeps : (program : Program) (parameters : Parameters) → IsWellFormed program parameters.settings → (statement : Statement) (s t : State) → slice_get program.statements s.statement ≡ Some statement →
    IsValid program parameters.settings s → s.steps < 2 ^ 40 → make_step program parameters statement s ≡ Goes t → IsNext program parameters.settings s t
unfolding make_step
keeps program parameters h statement s t is v few e =
    settles program parameters.settings s t _ few (slice_get_within program.statements s.statement statement is)
    ((lawful statement.name).leaves (site_of program parameters s.statement statement) s h.legal (here program parameters h statement s is v few)) e

-- ---- weights

-- a test that all pass is passed by what a look-up finds
found_passes : {A : Type 0} (test : A → Bool) (xs : List A) (i : ℕ) (x : A) → list_all test xs ≡ true → slice_get xs i ≡ Some x → test x ≡ true
found_passes test [] i x all is = cc
found_passes test (y ∷ ys) zero x all is = let first : test y ≡ true = grind arith in subst (λ z. test z ≡ true) (same_Some y x is) first
found_passes test (y ∷ ys) (suc i) x all is = found_passes test ys i x (grind arith) is

-- no row has more than six operands
abbrev is_few : Macro → Bool
is_few m = nat_le (length (row m).places) 6

few_slots : ((m : Macro) → with_number (number_of m) ≡ Some m) → (m : Macro) → length (row m).places ≤ 6
few_slots placed m =
    let all : list_all is_few macros ≡ true = refl in
    let few : is_few m ≡ true = found_passes is_few macros (number_of m) m all (placed m) in
    grind (arith, nat_tests)

fit_length : (slots : List Slot) (args : List Arg) → IsTrue (fit slots args) → length args ≡ length slots
fit_length [] [] h = refl
fit_length (slot ∷ slots) (arg ∷ args) h = let same : length args ≡ length slots = fit_length slots args (grind arith) in omega arith
fit_length [] (arg ∷ args) h = grind arith
fit_length (slot ∷ slots) [] h = grind arith

few_items : (b : Bounds) (arg : Arg) → IsWithin b arg → item_count arg ≤ 40
few_items b (Places ats) h = h.0
few_items b (Gotos locations) h = h.0
few_items b _ h = omega arith

count_most : (b : Bounds) (args : List Arg) → All (IsWithin b) args → operand_count args ≤ 40 * length args
count_most b [] h = omega arith
count_most b (arg ∷ args) h =
    let one : item_count arg ≤ 40 = few_items b arg (h 0 arg (omega arith)) in
    let rest : operand_count args ≤ 40 * length args = count_most b args (λ i d below. h (suc i) d (omega arith)) in
    omega arith

-- a state with no step taken
rested : (program : Program) (settings : Settings) (s : State) → IsValid program settings s → IsValid program settings (at_start s)
rested program settings s v = record {
  within = v.within;
  memory = v.memory;
  limits = v.limits;
  cells = v.cells;
  table_count = v.table_count;
  tables = v.tables;
  current = v.current;
  previous = v.previous;
  steps = omega arith;
}

all_bytes : (cells size descr : ℕ) → size ≡ descr → 4 * (cells * size) ≡ 4 * cells * descr
all_bytes cells size descr e = rw e (sym (mul_assoc 4 cells descr))

weighs : ((m : Macro) → with_number (number_of m) ≡ Some m) → (program : Program) (parameters : Parameters) → IsWellFormed program parameters.settings → (statement : Statement) (s : State) →
    slice_get program.statements s.statement ≡ Some statement → IsValid program parameters.settings s → weight program parameters statement s ≤ weight_limit parameters.settings (length s.memory.cells)
unfolding weight
weighs placed program parameters h statement s is v =
    let fits = all_at (FitsRow (bounds_of program parameters.settings)) program.statements s.statement statement h.rows is in
    let few : operand_count statement.args ≤ 240 = omega (arith, count_most (bounds_of program parameters.settings) statement.args fits.within, fit_length (row statement.name).places statement.args fits.shape, few_slots placed statement.name) in
    let most = (lawful statement.name).bounded (site_of program parameters s.statement statement) s few (here program parameters h statement (at_start s) is (rested program parameters.settings s v) (omega arith)) in
    let bytes = all_bytes (length s.memory.cells) s.memory.limits.cell_size parameters.settings.sizes.descr (ap (λ l. l.cell_size) v.limits) in
    omega (arith, most, bytes)

pub steady : ((m : Macro) → with_number (number_of m) ≡ Some m) → LawOfSteps
steady placed program parameters h = record {
  start = starts program parameters.settings h;
  keeps = keeps program parameters h;
  bound = λ statement s is v. weighs placed program parameters h statement s is v;
}
