-- What a walk by syntax tables comes to, and what STREAM leaves.
use Rattle.std.proofs.Common.{◌≡◌, ℕ, suc, ◌+◌, ◌≤◌, List, Option, Some, None, refl, sym, subst, arith}
use Rattle.std.proofs.lemmas.Option.{same_Some}
use Rattle.std.specs.Prelude.{ℤ, pos, All, FitsSigned, slice_get}
use Rattle.std.specs.Int.{w64}
use Rattle.std.specs.declared.ops.ControlFlow.{ControlFlow}
use Rattle.sil_model.specs.declared.program.Arg.{Arg}
use Rattle.sil_model.specs.declared.program.Flow.{Flow}
use Rattle.sil_model.specs.declared.specifier.Specifier.{Specifier}
use Rattle.sil_model.specs.declared.table.Action.{Action}
use Rattle.sil_model.specs.declared.table.Action.TheVariants.{Contin, Goto, Stop, Stopsh, Error}
use Rattle.sil_model.specs.declared.table.Entry.{Entry}
use Rattle.sil_model.specs.declared.table.Table.{Table}
use Rattle.sil_model.specs.Access.{◌>>=◌, char_at, set_a_at}
use Rattle.sil_model.specs.Arguments.{goto_at}
use Rattle.sil_model.specs.Fits.{Bounds, IsWithin}
use Rattle.sil_model.specs.Integers.{◌⊞◌}
use Rattle.sil_model.specs.Memory.{Memory, IsMemory}
use Rattle.sil_model.specs.Specifiers.{FitsSpec, set_spec_at, spec_at}
use Rattle.sil_model.specs.WellFormed.{FitsOption, IsEntry, IsTable}
use Rattle.sil_model.proofs.Keeps.{Keeps, LeadsWithin, Writes, all_at, keeps_read, sum_fits, writes_set_a, writes_set_v, writes_then}
use Rattle.sil_model.proofs.Lists.{spec_fits, writes_set_spec}
use Rattle.sil_model.proofs.Operands.{goto_leads}
use Rattle.string_clauses.specs.StringClauses.{second_of}
use Rattle.string_clauses.specs.Walks.{walk}
use Rattle.string_clauses.proofs.StringKeeps.{keeps_leads, shorter_fits}
use Rattle.string_clauses.proofs.Turns.{Good}
use Rattle.table_clauses.specs.SyntaxClauses.{acted, entry_in, latest, or_zero, parted, ran_out, stream, stream_turn, streamed}
use Rattle.table_clauses.specs.declared.streams.Exits.{Exits}
use Rattle.table_clauses.specs.declared.streams.Halt.{Halt}
use Rattle.table_clauses.specs.declared.streams.Halt.TheVariants.{Fails, RunsOut, Stops}
use Rattle.table_clauses.specs.declared.streams.Places.{Places}
use Rattle.table_clauses.specs.declared.streams.Scan.{Scan}
use Rattle.table_clauses.proofs.TablesKept.{AreTables}
use Rattle.table_clauses.proofs.Walking.{walk_comes}

-- ---- walks

-- the value that a walk puts fits, and it stops within so many characters
abbrev pub FitsHalt : ℕ → Halt → Type 0
FitsHalt most Fails = Unit {0}
FitsHalt most (RunsOut put) = FitsOption put
FitsHalt most (Stops n put) = (n ≤ most) × FitsOption put

-- in one of so many tables, with so many characters left of all
abbrev pub StandsIn : ℕ → ℕ → ℕ → ℕ → Scan → Type 0
StandsIn count most n i scan = FitsOption scan.put × (i + n ≡ most)

entry_by : (count : ℕ) (tables : List Table) (t c : ℕ) (o : Option Table) (entry : Entry) → AreTables count tables → slice_get tables t ≡ o → (o >>= (λ table. slice_get table.entries c)) ≡ Some entry → IsEntry count entry
entry_by count tables t c None entry h e is = absurd cc
entry_by count tables t c (Some table) entry h e is = all_at (IsEntry count) table.entries c entry (all_at (IsTable count) tables t table h.all e).entries is

pub entry_good : (count : ℕ) (tables : List Table) (t c : ℕ) (entry : Entry) → AreTables count tables → entry_in tables t c ≡ Some entry → IsEntry count entry
entry_good count tables t c entry h is = entry_by count tables t c (slice_get tables t) entry h refl is

latest_fits : (before put : Option ℤ) → FitsOption before → FitsOption put → FitsOption (latest before put)
latest_fits before None h k = h
latest_fits before (Some value) h k = k

acted_good : (count most n i t : ℕ) (put : Option ℤ) (action : Action) → FitsOption put → i + suc n ≡ most → Good (StandsIn count most n (i + 1)) (FitsHalt most) (acted action i t put)
acted_good count most n i t put Contin h e = (h, omega (arith, e))
acted_good count most n i t put (Goto next) h e = (h, omega (arith, e))
acted_good count most n i t put Stop h e = (omega (arith, e), h)
acted_good count most n i t put Stopsh h e = (omega (arith, e), h)
acted_good count most n i t put Error h e = tt

module _ (count : ℕ) (tables : List Table) (m : Memory) (at : ℤ) (good : AreTables count tables) (most : ℕ) where
  by_entry : (n i c : ℕ) (scan : Scan) (r : ControlFlow Halt Scan) (o : Option Entry) → StandsIn count most (suc n) i scan → entry_in tables scan.table c ≡ o →
      (o >>= (λ entry. Some (acted entry.action i scan.table (latest scan.put entry.put)))) ≡ Some r → Good (StandsIn count most n (i + 1)) (FitsHalt most) r
  by_entry n i c scan r None q e is = absurd cc
  by_entry n i c scan r (Some entry) q e is =
      let fits = (entry_good count tables scan.table c entry good e).put in
      subst (Good (StandsIn count most n (i + 1)) (FitsHalt most)) (same_Some _ r is) (acted_good count most n i scan.table (latest scan.put entry.put) entry.action (latest_fits scan.put entry.put q.0 fits) q.1)

  by_char : (n i : ℕ) (scan : Scan) (r : ControlFlow Halt Scan) (o : Option ℕ) → StandsIn count most (suc n) i scan →
      (o >>= (λ c. entry_in tables scan.table c >>= (λ entry. Some (acted entry.action i scan.table (latest scan.put entry.put))))) ≡ Some r → Good (StandsIn count most n (i + 1)) (FitsHalt most) r
  by_char n i scan r None q is = absurd cc
  by_char n i scan r (Some c) q is = by_entry n i c scan r (entry_in tables scan.table c) q refl is

  turn_gives : (n i : ℕ) (scan : Scan) (r : ControlFlow Halt Scan) → StandsIn count most (suc n) i scan → stream_turn tables m at i scan ≡ Some r → Good (StandsIn count most n (i + 1)) (FitsHalt most) r
  unfolding stream_turn
  turn_gives n i scan r q is = by_char n i scan r (char_at m (at ⊞ pos i)) q is

pub halt_fits : (count : ℕ) (tables : List Table) (m : Memory) (at : ℤ) (n t : ℕ) (halt : Halt) → AreTables count tables → walk (stream_turn tables m at) ran_out 0 n (record { table = t; put = None }) ≡ Some halt → FitsHalt n halt
halt_fits count tables m at n t halt good is =
    walk_comes (stream_turn tables m at) ran_out (StandsIn count n) (FitsHalt n) (λ i s q. q.0) (λ k i s r q e. turn_gives count tables m at good n k i s r q e) n 0 (record { table = t; put = None }) halt (tt, omega arith) is

-- ---- what it leaves

pub zero_fits : (put : Option ℤ) → FitsOption put → FitsSigned w64 (or_zero put)
zero_fits None h = omega arith
zero_fits (Some value) h = h

parted_writes : (m : Memory) (to : Places) (s : Specifier) (n : ℕ) (put : Option ℤ) → IsMemory m → FitsSpec m.limits s → n ≤ s.l → FitsOption put → Writes m (parted to s n put m)
parted_writes m to s n put h fit le fits =
    writes_then m (set_a_at m to.stype (or_zero put)) _ (writes_set_a m to.stype (or_zero put) h (zero_fits put fits)) (λ m1 f1.
    writes_then m1 (set_spec_at m1 to.head (record s { l = n })) _ (writes_set_spec m1 to.head (record s { l = n }) f1.is_memory (subst (λ limits. FitsSpec limits (record s { l = n })) (sym f1.shape.limits) (shorter_fits m.limits s n fit le))) (λ m2 f2.
    writes_then m2 (set_a_at m2 (second_of m to.rest) (s.o ⊞ pos n)) _ (writes_set_a m2 (second_of m to.rest) (s.o ⊞ pos n) f2.is_memory (sum_fits s.o (pos n))) (λ m3 f3.
    writes_set_v m3 (second_of m to.rest) _ f3.is_memory)))

-- where it leads
pub record LeadWithin (last : ℕ) (exits : Exits) : Type 0 where
  pub error : LeadsWithin last exits.error
  pub run_out : LeadsWithin last exits.run_out
  pub stop : LeadsWithin last exits.stop

streamed_keeps : (last : ℕ) (m : Memory) (to : Places) (exits : Exits) (s : Specifier) (halt : Halt) → IsMemory m → FitsSpec m.limits s → LeadWithin last exits → FitsHalt s.l halt → Keeps last m (streamed to exits s halt m)
streamed_keeps last m to exits s Fails h fit l k = keeps_leads last m exits.error _ l.error (writes_set_a m to.stype (pos 0) h (zero_fits None tt))
streamed_keeps last m to exits s (RunsOut put) h fit l k = keeps_leads last m exits.run_out _ l.run_out (parted_writes m to s s.l put h fit (omega arith) k)
streamed_keeps last m to exits s (Stops n put) h fit l k = keeps_leads last m exits.stop _ l.stop (parted_writes m to s n put h fit k.0 k.1)

stream_ends : (b : Bounds) (tables : List Table) (args : List Arg) (m : Memory) (at s1 s2 : ℤ) (t : ℕ) (error run_out stop : Flow) (s : Specifier) (halt : Halt) → All (IsWithin b) args → AreTables b.tables tables → IsMemory m →
    goto_at args 3 ≡ Some error → goto_at args 4 ≡ Some run_out → goto_at args 5 ≡ Some stop → spec_at m s2 ≡ Some s → walk (stream_turn tables m (s.a ⊞ s.o)) ran_out 0 s.l (record { table = t; put = None }) ≡ Some halt →
    Keeps b.statements m (streamed (record { stype = at; head = s1; rest = s2 }) (record { error = error; run_out = run_out; stop = stop }) s halt m)
stream_ends b tables args m at s1 s2 t error run_out stop s halt w good h is3 is4 is5 read walked =
    streamed_keeps b.statements m (record { stype = at; head = s1; rest = s2 }) (record { error = error; run_out = run_out; stop = stop }) s halt h (spec_fits m s2 s h read)
    (record { error = goto_leads b args 3 error w is3; run_out = goto_leads b args 4 run_out w is4; stop = goto_leads b args 5 stop w is5 })
    (halt_fits b.tables tables m (s.a ⊞ s.o) s.l t halt good walked)

pub stream_keeps : (b : Bounds) (stype : Option ℤ) (tables : List Table) (args : List Arg) (m : Memory) → All (IsWithin b) args → AreTables b.tables tables → IsMemory m → Keeps b.statements m (stream stype tables args m)
unfolding stream
stream_keeps b stype tables args m w good h = search (keeps_read, stream_ends) depth 40
