-- What the macros of units leave.
use Rattle.std.proofs.Common.{ℕ, zero, suc, List, Option, Some, None}
use Rattle.unit_io.specs.Tapes.{TapeState, Tapes, rewound, backspaced, ended}
use Rattle.unit_io.specs.Numbered.{unit_at}
use Rattle.unit_calls.specs.CallsMade.{Made}
use Rattle.layout_params.specs.Parameters.{Settings}
use Rattle.sil_model.specs.declared.program.Program.{Program}
use Rattle.sil_model.specs.Sites.{Site}
use Rattle.sil_model.specs.States.{State}
use Rattle.unit_clauses.specs.UnitClauses.{after_call, bkspce, call_on, enfile, output, rewind, way_by}
use Rattle.sil_model.specs.Effects.{Way}
use Rattle.sil_model.proofs.Leaves.{IsHere, IsSound, Leaves, LeavesAt, leaves_read}

-- other tapes
tapes_sound : (program : Program) (settings : Settings) (s : State) (tapes : Tapes) → IsSound program settings s → IsSound program settings (record s { tapes = tapes })
tapes_sound program settings s tapes v = record {
  memory = v.memory;
  limits = v.limits;
  cells = v.cells;
  table_count = v.table_count;
  tables = v.tables;
  current = v.current;
  previous = v.previous;
}

way_leaves : (program : Program) (settings : Settings) (unit answer : ℕ) (t : State) → IsSound program settings t → Leaves program settings (Some (way_by unit answer, t))
unfolding Leaves
way_leaves program settings unit zero t v = (tt, v)
way_leaves program settings unit (suc zero) t v = tt
way_leaves program settings unit (suc (suc zero)) t v = tt
way_leaves program settings unit (suc (suc (suc zero))) t v = (tt, v)
way_leaves program settings unit (suc (suc (suc (suc n)))) t v = tt

call_leaves : (program : Program) (settings : Settings) (s : State) (unit : ℕ) (make : TapeState → Made) (o : Option (Option TapeState)) → IsSound program settings s → Leaves program settings (call_on s unit make o)
unfolding Leaves
call_leaves program settings s unit make None v = tt
call_leaves program settings s unit make (Some None) v = tt
call_leaves program settings s unit make (Some (Some t)) v = way_leaves program settings unit (make t).answer (after_call s unit (make t)) (tapes_sound program settings s _ v)

pub bkspce_leaves : (site : Site) (s : State) → IsHere site s → LeavesAt site (bkspce site s)
unfolding bkspce
bkspce_leaves site s h = let v = h.sound in search (leaves_read, call_leaves) depth 20

pub enfile_leaves : (site : Site) (s : State) → IsHere site s → LeavesAt site (enfile site s)
unfolding enfile
enfile_leaves site s h = let v = h.sound in search (leaves_read, call_leaves) depth 20

pub output_leaves : (site : Site) (s : State) → IsHere site s → LeavesAt site (output site s)
unfolding output
output_leaves site s h = let v = h.sound in search (leaves_read, call_leaves) depth 20

pub rewind_leaves : (site : Site) (s : State) → IsHere site s → LeavesAt site (rewind site s)
unfolding rewind
rewind_leaves site s h = let v = h.sound in search (leaves_read, call_leaves) depth 20
