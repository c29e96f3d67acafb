-- What the macros of records leave.
use Rattle.std.proofs.Common.{◌≡◌, ℕ, zero, suc, ◌%◌, ◌<◌, ◌≤◌, List, [], ◌∷◌, map, Option, Some, None, refl, subst, arith, rules}
use Rattle.std.proofs.lemmas.List.Elements.{All-replicate}
use Rattle.std.proofs.lemmas.Option.{same_Some}
use Rattle.std.specs.Prelude.{ℤ, pos, All, length}
use Rattle.unit_io.specs.Numbered.{unit_at}
use Rattle.unit_io.specs.Tapes.{TapeState, Tapes, with_tape}
use Rattle.unit_calls.specs.CallsMade.{print_on, read}
use Rattle.layout_params.specs.Parameters.{Settings}
use Rattle.sil_model.specs.declared.program.Arg.{Arg}
use Rattle.sil_model.specs.declared.program.Flow.{Flow}
use Rattle.sil_model.specs.declared.program.Flow.TheVariants.{Next}
use Rattle.sil_model.specs.declared.program.Program.{Program}
use Rattle.sil_model.specs.Access.{◌>>=◌, a_at, integer_alone, set_descr_at}
use Rattle.sil_model.specs.Arguments.{goto_at, place_at}
use Rattle.sil_model.specs.Effects.{Effect, goes}
use Rattle.sil_model.specs.Fits.{Bounds, bounds_of, IsWithin}
use Rattle.sil_model.specs.Memory.{Memory, IsMemory}
use Rattle.sil_model.specs.Sites.{Site}
use Rattle.sil_model.specs.States.{State}
use Rattle.sil_model.proofs.Keeps.{Follows, LeadsWithin, Writes, followed, follows_on, writes_set_descr}
use Rattle.sil_model.proofs.Leaves.{IsHere, IsSound, Leaves, LeavesAt, leaves_here, leaves_none, leaves_read, sound_memory}
use Rattle.sil_model.proofs.Operands.{goto_leads}
use Rattle.sil_model.proofs.Reading.{from_read}
use Rattle.unit_clauses.specs.UnitClauses.{after_call}
use Rattle.string_clauses.specs.StringClauses.{chars_written, first_of, length_at}
use Rattle.string_clauses.proofs.StringKeeps.{text_writes}
use Rattle.record_clauses.specs.declared.reading.Reading.{Reading}
use Rattle.record_clauses.specs.RecordClauses.{ToWrite, blanks, read_leads, read_on, stprnt, stread, text_read, to_read, to_write, with_left, write_on, written_by}

-- ---- characters are bytes

pub blank_bytes : (n : ℕ) → All (λ c. c < 256) (blanks n)
blank_bytes n = All-replicate (λ c. c < 256) n 32 (omega arith)

pub low_bytes : (cs : List ℕ) → All (λ c. c < 256) (map (λ c. c % 256) cs)
low_bytes [] i d below = absurd (omega (arith, below))
low_bytes (c ∷ cs) zero d below = omega arith
low_bytes (c ∷ cs) (suc i) d below = low_bytes cs i d (omega (arith, below))

-- ---- a record is read

-- where the answers lead is within so many statements
pub record ReadsWithin (last : ℕ) (r : Reading) : Type 0 where
  pub at_end : LeadsWithin last r.at_end
  pub failure : LeadsWithin last r.failure
  pub success : LeadsWithin last r.success

leads_within : (last : ℕ) (r : Reading) (answer : ℕ) → ReadsWithin last r → LeadsWithin last (read_leads r answer)
leads_within last r zero w = w.success
leads_within last r (suc zero) w = w.at_end
leads_within last r (suc (suc n)) w = w.failure

read_gives : (b : Bounds) (args : List Arg) (m : Memory) (r : Reading) → All (IsWithin b) args → to_read args m ≡ Some r → ReadsWithin b.statements r
unfolding to_read
read_gives b args m r w is =
    let s = from_read (place_at args 0) _ r is in
    let d = from_read (place_at args 1) _ r s.2 in
    let at_end = from_read (goto_at args 2) _ r d.2 in
    let failure = from_read (goto_at args 3) _ r at_end.2 in
    let success = from_read (goto_at args 4) _ r failure.2 in
    let count = from_read (length_at m s.0) _ r success.2 in
    let at = from_read (first_of count.0 m s.0) _ r count.2 in
    let a = from_read (a_at m d.0) _ r at.2 in
    subst (ReadsWithin b.statements) (same_Some _ r a.2) (record {
      at_end = goto_leads b args 2 at_end.0 w at_end.1;
      failure = goto_leads b args 3 failure.0 w failure.1;
      success = goto_leads b args 4 success.0 w success.1;
    })

-- other tapes
tapes_sound : (program : Program) (settings : Settings) (s : State) (tapes : Tapes) → IsSound program settings s → IsSound program settings (record s { tapes = tapes })
tapes_sound program settings s tapes v = record {
  memory = v.memory;
  limits = v.limits;
  cells = v.cells;
  table_count = v.table_count;
  tables = v.tables;
  current = v.current;
  previous = v.previous;
}

-- what is left, or undefined
left_leaves : (program : Program) (settings : Settings) (flow : Flow) (s : State) (o : Option Memory) → LeadsWithin (length program.statements) flow → IsSound program settings s → Writes s.memory o → Leaves program settings (with_left flow s o)
unfolding Leaves Writes
left_leaves program settings flow s None l v w = tt
left_leaves program settings flow s (Some m) l v w = (l, sound_memory program settings s m v w)

-- memory that was written before, and is written again
written_on : (m m' : Memory) (o : Option Memory) → Follows m m' → Writes m' o → Writes m o
unfolding Writes
written_on m m' None f w = tt
written_on m m' (Some m'') f w = follows_on m m' m'' f w

read_leaves : (program : Program) (settings : Settings) (s : State) (r : Reading) (m : Memory) (o : Option (Option TapeState)) → IsSound program settings s → ReadsWithin (length program.statements) r → Follows s.memory m → Leaves program settings (read_on s r m o)
unfolding Leaves
read_leaves program settings s r m None v w f = tt
read_leaves program settings s r m (Some None) v w f = tt
read_leaves program settings s r m (Some (Some t)) v w f =
    left_leaves program settings (read_leads r (read t).answer) (after_call s r.unit (read t)) (chars_written r.at (text_read r.count t) m) (leads_within (length program.statements) r (read t).answer w) (tapes_sound program settings s _ v)
    (written_on s.memory m _ f (text_writes r.at (text_read r.count t) m f.is_memory (low_bytes _)))

-- ---- characters are written

written_leaves : (program : Program) (settings : Settings) (s : State) (target : ℤ) (answer : ℕ) → IsSound program settings s → Leaves program settings (written_by target answer s)
unfolding Leaves
written_leaves program settings s target zero v = left_leaves program settings Next s _ tt v (writes_set_descr s.memory target (integer_alone (pos 0)) v.memory (search rules, omega arith, omega arith))
written_leaves program settings s target (suc zero) v = left_leaves program settings Next s _ tt v (writes_set_descr s.memory target (integer_alone (pos 1)) v.memory (search rules, omega arith, omega arith))
written_leaves program settings s target (suc (suc zero)) v = tt
written_leaves program settings s target (suc (suc (suc zero))) v = (tt, v)
written_leaves program settings s target (suc (suc (suc (suc n)))) v = tt

write_leaves : (program : Program) (settings : Settings) (s : State) (w : ToWrite) (o : Option (Option TapeState)) → IsSound program settings s → Leaves program settings (write_on s w o)
unfolding Leaves
write_leaves program settings s w None v = tt
write_leaves program settings s w (Some None) v = tt
write_leaves program settings s w (Some (Some t)) v =
    written_leaves program settings (after_call s w.unit (print_on w.text w.values t)) w.target (print_on w.text w.values t).answer (tapes_sound program settings s _ v)

-- ---- the clauses

pub stread_leaves : (site : Site) (s : State) → IsHere site s → LeavesAt site (stread site.args s)
unfolding stread
stread_leaves site s h =
    let v = h.sound in
    leaves_read site.program site.parameters.settings (to_read site.args s.memory) _ (λ r is.
    leaves_read site.program site.parameters.settings (chars_written r.at (blanks r.count) s.memory) _ (λ m blank.
    read_leaves site.program site.parameters.settings s r m (unit_at s.tapes r.unit) v (read_gives (bounds_of site.program site.parameters.settings) site.args s.memory r h.args is)
    (followed s.memory m _ (text_writes r.at (blanks r.count) s.memory v.memory (blank_bytes r.count)) blank)))

pub stprnt_leaves : (site : Site) (s : State) → IsHere site s → LeavesAt site (stprnt site.args s)
unfolding stprnt
stprnt_leaves site s h =
    leaves_read site.program site.parameters.settings (to_write site.args s.memory) _ (λ w is. write_leaves site.program site.parameters.settings s w (unit_at s.tapes w.unit) h.sound)
