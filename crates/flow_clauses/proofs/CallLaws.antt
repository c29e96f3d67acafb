-- What the macros leave that go by the entries of statements.
use Rattle.std.proofs.Common.{◌≡◌, ℕ, ◌+◌, ◌*◌, ◌^◌, ◌≤◌, ◌<◌, List, ◌∷◌, Option, Some, None, ℤ, pos, negsuc, refl, subst, arith}
use Rattle.std.specs.Prelude.{slice_get, All, FitsSigned, false, length, int_lt}
use Rattle.std.specs.Int.{w64}
use Rattle.std.proofs.lemmas.Bool.Decides.{nat_tests}
use Rattle.std.proofs.lemmas.Nat.{mul-le}
use Rattle.std.proofs.lemmas.Option.{same_Some}
use Rattle.layout_params.specs.declared.cell.Descr.{Descr as Descriptor}
use Rattle.sil_model.specs.declared.program.Flow.{Flow}
use Rattle.sil_model.specs.declared.program.Flow.TheVariants.{To}
use Rattle.sil_model.specs.declared.program.Statement.{Statement}
use Rattle.sil_model.specs.Access.{◌>>=◌, descr_at, set_descr_at, integer_alone}
use Rattle.sil_model.specs.Arguments.{goto_at, gotos_at}
use Rattle.flow_clauses.specs.CallClauses.{branic, call_at, entry_of, hand_back, if_rcall, location_at, location_or, rcall, rrturn, statement_of}
use Rattle.sil_model.specs.Fits.{Bounds, bounds_of, FitsRow, IsStatement, IsWithin}
use Rattle.sil_model.specs.Lists.{all_read, all_written}
use Rattle.sil_model.specs.Memory.{Memory, IsMemory}
use Rattle.sil_model.specs.Sites.{Site}
use Rattle.flow_clauses.specs.StackClauses.{above, cells_above, summit}
use Rattle.sil_model.specs.States.{State}
use Rattle.sil_model.specs.UnitMacros.{KeepsTapes}
use Rattle.sil_model.proofs.Keeps.{Follows, LeadsWithin, all_at, fits_descr_at, followed, keeps_here, keeps_read, same, writes_read, writes_set_descr}
use Rattle.sil_model.proofs.Lawful.{KeepsOnSite}
use Rattle.sil_model.proofs.Leaves.{IsHere, IsRoomy, IsSound, LeavesAt, leaves_here, leaves_if, leaves_none, leaves_read, stack_sound}
use Rattle.sil_model.specs.Entries.{entered_statement}
use Rattle.sil_model.proofs.Lists.{all_read_fits, writes_all}
use Rattle.sil_model.proofs.Operands.{few_maybe_places, goto_leads, gotos_within, nth_within}
use Rattle.flow_clauses.proofs.StackLaws.{risen, special_leaves, tapes_special}
use Rattle.sil_model.proofs.TapesKept.{tapes_go, tapes_if, tapes_none, tapes_read}
use Rattle.flow_clauses.proofs.Tops.{small_fits, tested_top, top_fits}

-- ---- entries

entered_within : (size count : ℕ) (n k : ℕ) → entered_statement size count (pos n) ≡ Some k → k < count
unfolding entered_statement
entered_within size count n k e = grind (arith, nat_tests)

statement_within : (site : Site) (entry : ℤ) (k : ℕ) → statement_of site entry ≡ Some k → k < length site.program.statements
unfolding entered_statement
statement_within site (pos n) k e = entered_within site.parameters.settings.sizes.descr (length site.program.statements) n k e
statement_within site (negsuc n) k e = cc

to_within : (site : Site) (entry : ℤ) (k : ℕ) → statement_of site entry ≡ Some k → LeadsWithin (length site.program.statements) (To k)
to_within site entry k e = let below : k < length site.program.statements = statement_within site entry k e in omega arith

pub branic_keeps : KeepsOnSite branic
unfolding branic
branic_keeps site s h = let mem = h.sound.memory in search (keeps_read, keeps_here, to_within) depth 24

-- ---- calls

entry_fits : (site : Site) → IsRoomy site.parameters.settings (length site.program.cells) → site.statement < 2 ^ 14 → FitsSigned w64 (pos (entry_of site site.statement))
entry_fits site r low =
    let d = site.parameters.settings.sizes.descr in
    let most : site.statement * d ≤ 2 ^ 14 * 64 = mul-le site.statement d (2 ^ 14) 64 (omega arith) r.most in
    small_fits _ (omega arith)

called : (site : Site) (s : State) (m : Memory) (ats targets : List ℤ) (values : List Descriptor) → IsHere site s → all_read s.memory ats ≡ Some values →
    all_written s.memory targets (integer_alone s.previous ∷ integer_alone (pos (entry_of site site.statement)) ∷ values) ≡ Some m → Follows s.memory m
called site s m ats targets values h read is =
    let old = top_fits site.parameters.settings (length site.program.cells) s.previous h.roomy h.sound.previous in
    let entry = entry_fits site h.roomy h.number in
    followed s.memory m _ (writes_all targets _ s.memory h.sound.memory ((old, omega arith, omega arith), ((entry, omega arith, omega arith), all_read_fits s.memory ats values h.sound.memory read))) is

frame_sound : (site : Site) (s : State) (ats : List ℤ) (values : List Descriptor) (m : Memory) → IsHere site s → length ats ≤ 40 → int_lt (summit site) (above s.memory s.current (2 + length ats)) ≡ false →
    all_read s.memory ats ≡ Some values → all_written s.memory (cells_above s (2 + length ats)) (integer_alone s.previous ∷ integer_alone (pos (entry_of site site.statement)) ∷ values) ≡ Some m →
    IsSound site.program site.parameters.settings (record s { memory = m; current = above s.memory s.current (2 + length ats); previous = s.current })
frame_sound site s ats values m h few room read is =
    stack_sound site.program site.parameters.settings s m (above s.memory s.current (2 + length ats)) s.current h.sound
    (called site s m ats (cells_above s (2 + length ats)) values h read is) (risen site s (2 + length ats) h.roomy h.sound (omega arith) room) h.sound.current

goto_within : (site : Site) (i : ℕ) (flow : Flow) → All (IsWithin (bounds_of site.program site.parameters.settings)) site.args → goto_at site.args i ≡ Some flow → LeadsWithin (length site.program.statements) flow
goto_within site i flow w e = goto_leads (bounds_of site.program site.parameters.settings) site.args i flow w e

pub rcall_leaves : (site : Site) (s : State) → IsHere site s → LeavesAt site (rcall site s)
unfolding rcall
rcall_leaves site s h =
    let v = h.sound in let w = h.args in let over = h.specials.over in
    search (leaves_read, leaves_if, leaves_here, special_leaves, frame_sound, few_maybe_places, goto_within) depth 60

pub rcall_tapes : (site : Site) (s : State) → KeepsTapes s.tapes (rcall site s)
unfolding rcall
rcall_tapes site s = search (tapes_read, tapes_if, tapes_go, tapes_special) depth 40

-- ---- returns

handed : (m m' : Memory) (from to : Option ℤ) → IsMemory m → hand_back m from to ≡ Some m' → Follows m m'
unfolding hand_back
handed m m' None to h is = subst (Follows m) (same_Some m m' is) (same m h)
handed m m' (Some from) None h is = subst (Follows m) (same_Some m m' is) (same m h)
handed m m' (Some from) (Some to) h is =
    followed m m' _ (writes_read m (descr_at m from) (set_descr_at m to) (λ value e. writes_set_descr m to value h (fits_descr_at m from value h e))) is

call_from : (b : Bounds) (o : Option Statement) (call : Statement) → ((statement : Statement) → o ≡ Some statement → FitsRow b statement) → (o >>= if_rcall) ≡ Some call → All (IsWithin b) call.args
call_from b None call h e = cc
call_from b (Some statement) call h e = let same : statement ≡ call = grind arith in subst (λ (x : Statement). All (IsWithin b) x.args) same (h statement refl).within

call_args : (b : Bounds) (site : Site) (k : ℕ) (call : Statement) → All (FitsRow b) site.program.statements → call_at site k ≡ Some call → All (IsWithin b) call.args
unfolding call_at
call_args b site k call rows e = call_from b (slice_get site.program.statements k) call (λ statement is. all_at (FitsRow b) site.program.statements k statement rows is) e

location_within : (b : Bounds) (locations : List (Option ℕ)) (n : Option ℤ) → All (IsStatement b) locations → IsStatement b (location_at locations n)
location_within b locations None h = tt
location_within b locations (Some n) h = nth_within b locations n h

leads_or : (b : Bounds) (other : ℕ) (location : Option ℕ) → other ≤ b.statements → IsStatement b location → LeadsWithin b.statements (To (location_or other location))
leads_or b other None h w = h
leads_or b other (Some k) h w = omega arith

back_within : (site : Site) (entry : ℤ) (k : ℕ) (call : Statement) (locations : List (Option ℕ)) (n : Option ℤ) → All (FitsRow (bounds_of site.program site.parameters.settings)) site.program.statements →
    statement_of site entry ≡ Some k → call_at site k ≡ Some call → gotos_at call.args 3 ≡ Some locations →
    LeadsWithin (length site.program.statements) (To (location_or (k + 1) (location_at locations n)))
back_within site entry k call locations n rows at e g =
    let b = bounds_of site.program site.parameters.settings in
    let below : k < length site.program.statements = statement_within site entry k at in
    leads_or b (k + 1) (location_at locations n) (omega arith) (location_within b locations n (gotos_within b call.args 3 locations (call_args b site k call rows e) g))

pub rrturn_leaves : (site : Site) (s : State) → IsHere site s → LeavesAt site (rrturn site s)
unfolding rrturn
rrturn_leaves site s h =
    let v = h.sound in let mem = h.sound.memory in let rows = h.rows in let p = h.sound.previous in let r = h.roomy in
    search (leaves_read, leaves_if, leaves_here, leaves_none, stack_sound, handed, tested_top, back_within) depth 60

pub rrturn_tapes : (site : Site) (s : State) → KeepsTapes s.tapes (rrturn site s)
unfolding rrturn
rrturn_tapes site s = search (tapes_read, tapes_if, tapes_go, tapes_none) depth 40
