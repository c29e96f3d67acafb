-- What a state stands for after registers or cells were written.
use Rattle.std.proofs.Common.{◌≡◌, ◌≢◌, ℕ, suc, ◌+◌, ◌*◌, ◌<◌, ◌⊎◌, inl, inr, List, length, true, false, cond, ◌==◌, refl, sym, ap, subst, ◌∙◌, arith}
use Rattle.std.specs.Prelude.{ℤ, FitsSigned}
use Rattle.std.specs.Int.{w64, cast_unsigned}
use Rattle.std.proofs.lemmas.Bool.{cases_eq}
use Rattle.sil_base.specs.Bytes.{number, piece}
use Rattle.sil_model.specs.Memory as abstract
use Rattle.sil_micro.specs.MicroStates.{Setting, Micro, held, put}
use Rattle.sil_micro.proofs.Registers.{what_is_held}
use Rattle.rv_emulate.specs.EmulatorMemory.{Memory}
use Rattle.rv_emulate.specs.EmulatorStates.{State, register}
use Rattle.rv_straight.specs.Registers.{IsFile, Keeps}
use Rattle.rv_routines.specs.Holds.{HoldsMemory}
use Rattle.rv_operations.specs.Homes.{home, is_temporary}
use Rattle.rv_operations.specs.StandsFor.{StandsFor, HoldsWords, HoldsTables}

pub home_small : (r : ℕ) → r < 16 → home r < 25
home_small r h = grind arith

pub home_positive : (r : ℕ) → 0 < home r
home_positive r = grind arith

home_apart : (r q : ℕ) → r < 16 → q < 16 → r ≢ q → home r ≢ home q
home_apart r q h p n = grind arith

pub home_kept : (r : ℕ) → r < 16 → is_temporary (home r) ≡ false
home_kept r h = grind arith

-- a micro register was set
abbrev pub with_register : Micro → ℕ → ℤ → Micro
with_register u to z = record u { registers = put to z u.registers }

-- another memory was left
abbrev pub with_memory : Micro → abstract.Memory → Micro
with_memory u memory = record u { state = record u.state { memory = memory } }

-- all but the micro register and the temporaries is as it was
pub stands_set : (g : Setting) (u : Micro) (s : State) (to : ℕ) (z : ℤ) (pc : ℕ) (ys : List ℕ) → StandsFor g u s → to < 16 → FitsSigned w64 z → IsFile ys → register ys (home to) ≡ cast_unsigned w64 z → ((q : ℕ) → q ≢ home to → is_temporary q ≡ false → register ys q ≡ register s.registers q) → StandsFor g (with_register u to z) (record s { pc = pc; registers = ys })
stands_set g u s to z pc ys st lt fits file is kept = record {
  file = file;
  registers = λ r h. at r h (cases_eq r to);
  fit = λ r h. fit r h (cases_eq r to);
  bound = kept 25 (omega (arith, home_small to lt)) refl ∙ st.bound;
  statement = kept 26 (omega (arith, home_small to lt)) refl ∙ st.statement;
  left = ap (λ n. n + u.state.steps) (kept 27 (omega (arith, home_small to lt)) refl) ∙ st.left;
  memory = st.memory;
  count = st.count;
  words = words_of st.words;
  tables = tables_of st.tables;
  tapes = st.tapes;
  failed = st.failed;
}
  where
    here : (r : ℕ) → r < 16 → r ≡ to → held (put to z u.registers) r ≡ z
    here r h e = let yes : (r == to) ≡ true = grind arith in what_is_held u.registers z to lt r h ∙ ap (λ b. cond b z (held u.registers r)) yes

    there : (r : ℕ) → r < 16 → r ≢ to → held (put to z u.registers) r ≡ held u.registers r
    there r h ne = let no : (r == to) ≡ false = grind arith in what_is_held u.registers z to lt r h ∙ ap (λ b. cond b z (held u.registers r)) no

    fit : (r : ℕ) → r < 16 → (r ≡ to) ⊎ (r ≢ to) → FitsSigned w64 (held (put to z u.registers) r)
    fit r h (inl e) = subst (FitsSigned w64) (sym (here r h e)) fits
    fit r h (inr ne) = subst (FitsSigned w64) (sym (there r h ne)) (st.fit r h)

    at : (r : ℕ) → r < 16 → (r ≡ to) ⊎ (r ≢ to) → register ys (home r) ≡ cast_unsigned w64 (held (put to z u.registers) r)
    at r h (inl e) = ap (λ k. register ys (home k)) e ∙ is ∙ ap (cast_unsigned w64) (sym (here r h e))
    at r h (inr ne) = kept (home r) (home_apart r to h lt ne) (home_kept r h) ∙ st.registers r h ∙ ap (cast_unsigned w64) (sym (there r h ne))

    words_of : HoldsWords u s.memory → HoldsWords (with_register u to z) s.memory
    words_of w = record { current = w.current; previous = w.previous; words = w.words; current_fits = w.current_fits; previous_fits = w.previous_fits; words_fit = w.words_fit }

    tables_of : HoldsTables u s.memory → HoldsTables (with_register u to z) s.memory
    tables_of t = record { bytes = t.bytes; count = t.count; whole = t.whole }

-- the cells are those of another memory of as many, and all registers but temporaries are as they were
pub stands_stored : (g : Setting) (u : Micro) (s : State) (memory : abstract.Memory) (after : Memory) (pc : ℕ) (ys : List ℕ) → StandsFor g u s → IsFile ys → Keeps is_temporary s.registers ys → HoldsMemory g.settings.sizes memory after → length memory.cells ≡ length u.state.memory.cells → after.scratch ≡ s.memory.scratch → after.tables ≡ s.memory.tables → StandsFor g (with_memory u memory) (record s { pc = pc; registers = ys; memory = after })
stands_stored g u s memory after pc ys st file kept holds count scratch tables = record {
  file = file;
  registers = λ r h. kept (home r) (home_kept r h) ∙ st.registers r h;
  fit = st.fit;
  bound = kept 25 refl ∙ st.bound;
  statement = kept 26 refl ∙ st.statement;
  left = ap (λ n. n + u.state.steps) (kept 27 refl) ∙ st.left;
  memory = holds;
  count = count ∙ st.count;
  words = words_of st.words;
  tables = tables_of st.tables;
  tapes = st.tapes;
  failed = st.failed;
}
  where
    word : (i : ℕ) → number (piece i 8 after.scratch) ≡ number (piece i 8 s.memory.scratch)
    word i = ap (λ bytes. number (piece i 8 bytes)) scratch

    words_of : HoldsWords u s.memory → HoldsWords (with_memory u memory) after
    words_of w = record { current = word 0 ∙ w.current; previous = word 8 ∙ w.previous; words = λ i h. word (8 * (i + 2)) ∙ w.words i h; current_fits = w.current_fits; previous_fits = w.previous_fits; words_fit = w.words_fit }

    tables_of : HoldsTables u s.memory → HoldsTables (with_memory u memory) after
    tables_of t = record { bytes = tables ∙ t.bytes; count = t.count; whole = t.whole }

-- a place and temporaries are not what a state stands for
pub stands_at : (g : Setting) (u : Micro) (s : State) (pc : ℕ) (ys : List ℕ) → StandsFor g u s → IsFile ys → Keeps is_temporary s.registers ys → StandsFor g u (record s { pc = pc; registers = ys })
stands_at g u s pc ys st file kept = record {
  file = file;
  registers = λ r h. kept (home r) (home_kept r h) ∙ st.registers r h;
  fit = st.fit;
  bound = kept 25 refl ∙ st.bound;
  statement = kept 26 refl ∙ st.statement;
  left = ap (λ n. n + u.state.steps) (kept 27 refl) ∙ st.left;
  memory = st.memory;
  count = st.count;
  words = st.words;
  tables = st.tables;
  tapes = st.tapes;
  failed = st.failed;
}

-- a statement was begun: its number is in x26, and a step less is left in x27
pub stands_begun : (g : Setting) (u : Micro) (s : State) (k pc spent : ℕ) (ys : List ℕ) → StandsFor g u s → IsFile ys → register ys 26 ≡ k → register ys 27 + suc u.state.steps ≡ g.bound → ((q : ℕ) → q ≢ 26 → q ≢ 27 → register ys q ≡ register s.registers q) → StandsFor g (record u { state = record u.state { statement = k; steps = u.state.steps + 1 }; spent = spent }) (record s { pc = pc; registers = ys })
stands_begun g u s k pc spent ys st file number left kept = record {
  file = file;
  registers = λ r h. kept (home r) (omega (arith, home_small r h)) (omega (arith, home_small r h)) ∙ st.registers r h;
  fit = st.fit;
  bound = kept 25 (omega arith) (omega arith) ∙ st.bound;
  statement = number;
  left = omega (arith, left);
  memory = st.memory;
  count = st.count;
  words = record { current = st.words.current; previous = st.words.previous; words = st.words.words; current_fits = st.words.current_fits; previous_fits = st.words.previous_fits; words_fit = st.words.words_fit };
  tables = record { bytes = st.tables.bytes; count = st.tables.count; whole = st.tables.whole };
  tapes = st.tapes;
  failed = st.failed;
}
