-- What a clause leaves is a state whose parts are valid.
use Rattle.std.proofs.Common.{◌≡◌, ℕ, ◌≤◌, ◌<◌, ◌^◌, Option, Some, None, ℤ, refl, ◌∙◌}
use Rattle.std.specs.Prelude.{All, Bool, true, false, if◌then◌else◌, length}
use Rattle.layout_params.specs.Parameters.{Settings}
use Rattle.sil_model.specs.declared.program.Program.{Program}
use Rattle.sil_model.specs.declared.program.Flow.{Flow}
use Rattle.sil_model.specs.Access.{◌>>=◌}
use Rattle.sil_model.specs.Effects.{MemoryEffect, Effect, On, goes, with_memory}
use Rattle.sil_model.specs.Fits.{bounds_of, FitsRow, IsWithin}
use Rattle.sil_model.specs.Memory.{Memory, IsMemory}
use Rattle.layout_params.specs.Areas.{all_cells}
use Rattle.sil_model.specs.Sites.{Site}
use Rattle.sil_model.specs.Start.{limits_of}
use Rattle.sil_model.specs.States.{State}
use Rattle.sil_model.specs.Valid.{IsTop}
use Rattle.sil_model.specs.WellFormed.{IsTable, AreSpecials}
use Rattle.sil_model.proofs.Keeps.{Follows, Keeps, LeadsWithin}

-- what is valid of a state beside its statement and its steps
pub record IsSound (program : Program) (settings : Settings) (s : State) : Type 0 where
  pub memory : IsMemory s.memory
  pub limits : s.memory.limits ≡ limits_of settings
  pub cells : length s.memory.cells ≡ all_cells settings (length program.cells)
  pub table_count : length s.tables ≡ length program.tables
  pub tables : All (IsTable (length program.tables)) s.tables
  pub current : IsTop settings (length program.cells) s.current
  pub previous : IsTop settings (length program.cells) s.previous

unfoldable pub Leaves : Program → Settings → Effect → Type 0
Leaves program settings None = Unit {0}
Leaves program settings (Some (On flow, t)) = LeadsWithin (length program.statements) flow × IsSound program settings t
Leaves program settings (Some (_, t)) = Unit {0}

pub leaves_read : {A : Type 0} (program : Program) (settings : Settings) (o : Option A) (f : A → Effect) → ((a : A) → o ≡ Some a → Leaves program settings (f a)) → Leaves program settings (o >>= f)
unfolding Leaves
leaves_read program settings None f h = tt
leaves_read program settings (Some a) f h = h a refl

pub leaves_here : (program : Program) (settings : Settings) (flow : Flow) (s : State) → LeadsWithin (length program.statements) flow → IsSound program settings s → Leaves program settings (goes flow s)
unfolding Leaves
leaves_here program settings flow s l v = (l, v)

pub leaves_none : (program : Program) (settings : Settings) → Leaves program settings None
unfolding Leaves
leaves_none program settings = tt

pub leaves_if : (program : Program) (settings : Settings) (b : Bool) (x y : Effect) → (b ≡ true → Leaves program settings x) → (b ≡ false → Leaves program settings y) → Leaves program settings (if b then x else y)
leaves_if program settings true x y f g = f refl
leaves_if program settings false x y f g = g refl

pub sound_memory : (program : Program) (settings : Settings) (s : State) (m : Memory) → IsSound program settings s → Follows s.memory m → IsSound program settings (record s { memory = m })
sound_memory program settings s m v f = record {
  memory = f.is_memory;
  limits = f.shape.limits ∙ v.limits;
  cells = f.shape.count ∙ v.cells;
  table_count = v.table_count;
  tables = v.tables;
  current = v.current;
  previous = v.previous;
}

-- other memory and other tops
pub stack_sound : (program : Program) (settings : Settings) (s : State) (m : Memory) (current previous : ℤ) → IsSound program settings s → Follows s.memory m →
    IsTop settings (length program.cells) current → IsTop settings (length program.cells) previous → IsSound program settings (record s { memory = m; current = current; previous = previous })
stack_sound program settings s m current previous v f c p = record {
  memory = f.is_memory;
  limits = f.shape.limits ∙ v.limits;
  cells = f.shape.count ∙ v.cells;
  table_count = v.table_count;
  tables = v.tables;
  current = c;
  previous = p;
}

-- a clause on memory leaves the other parts as they were
pub memory_leaves : (program : Program) (settings : Settings) (s : State) (o : MemoryEffect) → IsSound program settings s → Keeps (length program.statements) s.memory o → Leaves program settings (with_memory s o)
unfolding Leaves Keeps
memory_leaves program settings s None v k = tt
memory_leaves program settings s (Some (flow, m)) v k = (k.0, sound_memory program settings s m v k.1)

-- a legal layout whose cells are few
pub record IsRoomy (settings : Settings) (statics : ℕ) : Type 0 where
  pub least : 16 ≤ settings.sizes.descr
  pub most : settings.sizes.descr ≤ 64
  pub few : all_cells settings statics ≤ 2 ^ 20

-- a statement of a well formed program at a valid state
pub record IsHere (site : Site) (s : State) : Type 0 where
  pub number : site.statement < 2 ^ 14
  pub rows : All (FitsRow (bounds_of site.program site.parameters.settings)) site.program.statements
  pub args : All (IsWithin (bounds_of site.program site.parameters.settings)) site.args
  pub specials : AreSpecials site.program site.parameters.settings
  pub roomy : IsRoomy site.parameters.settings (length site.program.cells)
  pub sound : IsSound site.program site.parameters.settings s
  pub steps : s.steps < 2 ^ 40

abbrev pub LeavesAt : Site → Effect → Type 0
LeavesAt site effect = Leaves site.program site.parameters.settings effect
