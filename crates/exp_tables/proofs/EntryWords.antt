-- The words of an entry, read and set. Those of character c in table t have the numbers 512 * t + 2 * c and the next.
use Rattle.std.proofs.Common.{◌≡◌, ℕ, zero, suc, ◌+◌, ◌*◌, ◌/◌, ◌%◌, ◌<◌, List, [], ◌∷◌, length, Option, Some, None, true, refl, ap, arith}
use Rattle.std.proofs.Math.ListN.{length-set}
use Rattle.std.proofs.lemmas.Bool.Decides.{nat_tests}
use Rattle.std.proofs.lemmas.Option.{same_Some}
use Rattle.std.specs.Prelude.{ℤ, pos, nat_lt, slice_get, slice_set}
use Rattle.sil_model.specs.declared.program.Arg.TheVariants.{Key}
use Rattle.sil_model.specs.declared.table.Action.{Action}
use Rattle.sil_model.specs.declared.table.Action.TheVariants.{Contin, Goto, Stop, Stopsh, Error}
use Rattle.sil_model.specs.declared.table.Entry.{Entry}
use Rattle.sil_model.specs.declared.table.Table.{Table}
use Rattle.sil_model.specs.Fits.{Bounds, IsWithin}
use Rattle.sil_model.specs.WellFormed.{GoesWithin, IsEntry, IsTable}
use Rattle.sil_model.proofs.Keeps.{all_at}
use Rattle.sil_model.proofs.Places.{set_here}
use Rattle.sil_micro.specs.TableWords.{action_number, action_word, entry_of, put_word, puts, set_table_word, table_word}
use Rattle.table_clauses.specs.SyntaxClauses.{entry_in, plain}
use Rattle.table_clauses.proofs.StreamsKept.{entry_good}
use Rattle.table_clauses.proofs.TablesKept.{AreTables}

-- ---- lists

pub there : {A : Type 0} (xs : List A) (i : ℕ) → i < length xs → (x : A) × (slice_get xs i ≡ Some x)
there [] i h = absurd (omega arith)
there (x ∷ xs) zero h = (x, refl)
there (x ∷ xs) (suc i) h = there xs i (omega arith)

pub set_same : {A : Type 0} (xs : List A) (i : ℕ) (x : A) → slice_get xs i ≡ Some x → slice_set xs i x ≡ xs
set_same [] i x is = refl
set_same (y ∷ xs) zero x is = ap (λ z. z ∷ xs) (same_Some x y (cc))
set_same (y ∷ xs) (suc i) x is = ap (λ zs. y ∷ zs) (set_same xs i x is)

pub set_twice : {A : Type 0} (xs : List A) (i : ℕ) (x y : A) → slice_set (slice_set xs i x) i y ≡ slice_set xs i y
set_twice [] i x y = refl
set_twice (z ∷ xs) zero x y = refl
set_twice (z ∷ xs) (suc i) x y = ap (λ zs. z ∷ zs) (set_twice xs i x y)

-- ---- numbers of words

even_table : (t c : ℕ) → c < 256 → (512 * t + 2 * c) / 2 / 256 ≡ t
even_table t c h = omega arith

even_place : (t c : ℕ) → c < 256 → (512 * t + 2 * c) / 2 % 256 ≡ c
even_place t c h = omega arith

even_kind : (t c : ℕ) → (512 * t + 2 * c) % 2 ≡ 0
even_kind t c = omega arith

odd_table : (t c : ℕ) → c < 256 → (512 * t + 2 * c + 1) / 2 / 256 ≡ t
odd_table t c h = omega arith

odd_place : (t c : ℕ) → c < 256 → (512 * t + 2 * c + 1) / 2 % 256 ≡ c
odd_place t c h = omega arith

odd_kind : (t c : ℕ) → (512 * t + 2 * c + 1) % 2 ≡ 1
odd_kind t c = omega arith

-- ---- words that are read

pub action_read : (tables : List Table) (t c : ℕ) (entry : Entry) → c < 256 → entry_in tables t c ≡ Some entry → table_word tables (pos (512 * t + 2 * c)) ≡ Some (action_word entry)
unfolding table_word
action_read tables t c entry h is = simp (even_table t c h, even_place t c h, even_kind t c, is) refl

pub put_read : (tables : List Table) (t c : ℕ) (entry : Entry) → c < 256 → entry_in tables t c ≡ Some entry → table_word tables (pos (512 * t + 2 * c + 1)) ≡ Some (put_word entry.put)
unfolding table_word
put_read tables t c entry h is = simp (odd_table t c h, odd_place t c h, odd_kind t c, is) refl

-- an entry is found and is valid
pub record IsFound (tables : List Table) (t c : ℕ) : Type 0 where
  pub entry : Entry
  pub is : entry_in tables t c ≡ Some entry
  pub good : IsEntry (length tables) entry

pub is_found : (tables : List Table) (t c : ℕ) → AreTables (length tables) tables → t < length tables → c < 256 → IsFound tables t c
is_found tables t c h below lt =
    let table = there tables t below in
    let size = (all_at (IsTable (length tables)) tables t table.0 h.all table.1).size in
    let entry = there table.0.entries c (omega (arith, size, lt)) in
    let is : entry_in tables t c ≡ Some entry.0 = simp table.1 entry.1 in
    record { entry = entry.0; is = is; good = entry_good (length tables) tables t c entry.0 h is }

-- ---- words that are set

pub action_small : (action : Action) → action_number action < 5
action_small Contin = omega arith
action_small (Goto next) = omega arith
action_small Stop = omega arith
action_small Stopsh = omega arith
action_small Error = omega arith

-- what is put is 0, where something is
abbrev pub zeroed : Option ℤ → Option ℤ
zeroed None = None
zeroed (Some value) = Some (pos 0)

pub zeroed_word : (put : Option ℤ) → put_word (zeroed put) ≡ pos 0
zeroed_word None = refl
zeroed_word (Some value) = refl

abbrev pub zeroed_entry : Entry → Entry
zeroed_entry entry = record { action = entry.action; put = zeroed entry.put }

-- an action that names no table
abbrev pub IsPlain : Action → Type 0
IsPlain (Goto next) = ⊥
IsPlain _ = Unit {0}

pub key_plain : (b : Bounds) (action : Action) → IsWithin b (Key action) → IsPlain action
key_plain b (Goto next) h = h
key_plain b Contin h = tt
key_plain b Stop h = tt
key_plain b Stopsh h = tt
key_plain b Error h = tt

pub plain_good : (count : ℕ) (action : Action) → IsPlain action → IsEntry count (plain action)
plain_good count (Goto next) h = absurd h
plain_good count Contin h = record { within = tt; put = tt }
plain_good count Stop h = record { within = tt; put = tt }
plain_good count Stopsh h = record { within = tt; put = tt }
plain_good count Error h = record { within = tt; put = tt }

pub plain_spelled : (count : ℕ) (action : Action) → IsPlain action → entry_of count (pos (action_number action)) (pos 0) ≡ Some (plain action)
unfolding entry_of
plain_spelled count (Goto next) h = absurd h
plain_spelled count Contin h = refl
plain_spelled count Stop h = refl
plain_spelled count Stopsh h = refl
plain_spelled count Error h = refl

goto_spelled : (count next p : ℕ) (put : Option ℤ) → next < count → p < 2 → puts put ≡ p → entry_of count (pos (1 + 256 * p + 65536 * next)) (pos 0) ≡ Some (record { action = Goto next; put = zeroed put })
unfolding entry_of
goto_spelled count next p None h lt e =
    let e0 : p ≡ 0 = cc in
    let e1 : (1 + 256 * p + 65536 * next) % 256 ≡ 1 = omega arith in
    let e2 : (1 + 256 * p + 65536 * next) / 65536 ≡ next = omega arith in
    let e3 : (1 + 256 * p + 65536 * next) / 256 % 256 ≡ 0 = omega (arith, e0) in
    let e4 : nat_lt next count ≡ true = grind (arith, nat_tests) in
    simp (e1, e2, e3, e4) refl
goto_spelled count next p (Some value) h lt e =
    let e0 : p ≡ 1 = cc in
    let e1 : (1 + 256 * p + 65536 * next) % 256 ≡ 1 = omega arith in
    let e2 : (1 + 256 * p + 65536 * next) / 65536 ≡ next = omega arith in
    let e3 : (1 + 256 * p + 65536 * next) / 256 % 256 ≡ 1 = omega (arith, e0) in
    let e4 : nat_lt next count ≡ true = grind (arith, nat_tests) in
    simp (e1, e2, e3, e4) refl

pub puts_small : (put : Option ℤ) → puts put < 2
puts_small None = omega arith
puts_small (Some value) = omega arith

zeroed_by : (count : ℕ) (action : Action) (put : Option ℤ) → GoesWithin count action → entry_of count (action_word (record { action = action; put = put })) (pos 0) ≡ Some (record { action = action; put = zeroed put })
unfolding entry_of
zeroed_by count Contin None h = refl
zeroed_by count Contin (Some value) h = refl
zeroed_by count (Goto next) put h = goto_spelled count next (puts put) put h (puts_small put) refl
zeroed_by count Stop None h = refl
zeroed_by count Stop (Some value) h = refl
zeroed_by count Stopsh None h = refl
zeroed_by count Stopsh (Some value) h = refl
zeroed_by count Error None h = refl
zeroed_by count Error (Some value) h = refl

module _ (tables : List Table) (t : ℕ) (below : t < length tables) where
  -- the tables with these entries in one
  abbrev pub in_table : List Entry → List Table
  in_table entries = slice_set tables t (record { entries = entries })

  as_many : (entries : List Entry) → length (in_table entries) ≡ length tables
  as_many entries = length-set tables t (record { entries = entries })

  -- what an entry puts goes
  pub put_set : (entries : List Entry) (c : ℕ) (old : Entry) → c < 256 → slice_get entries c ≡ Some old → IsEntry (length tables) old →
      set_table_word (in_table entries) (pos (512 * t + 2 * c + 1)) (pos 0) ≡ Some (in_table (slice_set entries c (zeroed_entry old)))
  unfolding set_table_word
  put_set entries c old h is good =
      let here = set_here tables t (record { entries = entries }) below in
      let twice = set_twice tables t (record { entries = entries }) (record { entries = slice_set entries c (zeroed_entry old) }) in
      let spelled = zeroed_by (length tables) old.action old.put good.within in
      simp (odd_table t c h, odd_place t c h, odd_kind t c, here, is, as_many entries, spelled, twice) refl

  -- and its action is another
  pub action_set : (entries : List Entry) (c : ℕ) (old : Entry) (action : Action) → c < 256 → c < length entries → IsPlain action →
      set_table_word (in_table (slice_set entries c (zeroed_entry old))) (pos (512 * t + 2 * c)) (pos (action_number action)) ≡ Some (in_table (slice_set entries c (plain action)))
  unfolding set_table_word
  action_set entries c old action h long stays =
      let between = slice_set entries c (zeroed_entry old) in
      let here = set_here tables t (record { entries = between }) below in
      let inner = set_here entries c (zeroed_entry old) long in
      let twice = set_twice tables t (record { entries = between }) (record { entries = slice_set entries c (plain action) }) in
      let again = set_twice entries c (zeroed_entry old) (plain action) in
      simp (even_table t c h, even_place t c h, even_kind t c, here, inner, as_many between, zeroed_word old.put, plain_spelled (length tables) action stays, again, twice) refl
