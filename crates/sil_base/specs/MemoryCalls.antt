-- What calls of the sink and the store in memory leave. A call fails exactly where its number is among those
-- that fail. Each call counts its number, and one that fails changes nothing else but the count of faults.
use Rattle.std.specs.Prelude.{◌≡◌, ℕ, List, ◌++◌, true, false}
use Rattle.std.specs.FinMap.{insert}
use Rattle.sil_base.specs.Causes.{next_count, call_fails}
use Rattle.sil_base.specs.MemoryStates.{SinkState, StoreState}
use Rattle.sil_base.specs.declared.sink.Put.{Put}
use Rattle.sil_base.specs.declared.sink.Put.TheVariants as put
use Rattle.sil_base.specs.declared.store.Load.{Load}
use Rattle.sil_base.specs.declared.store.Load.TheVariants as load
use Rattle.sil_base.specs.declared.store.Save.{Save}
use Rattle.sil_base.specs.declared.store.Save.TheVariants as save

-- what a put of these bytes leaves
abbrev pub PutsInMemory : Put → List ℕ → SinkState → SinkState → Type 0
PutsInMemory put.Ok bytes s t = (call_fails s.calls s.fails ≡ false) × (t ≡ record s { text = s.text ++ bytes; calls = next_count s.calls })
PutsInMemory put.Failed bytes s t = (call_fails s.calls s.fails ≡ true) × (t ≡ record s { calls = next_count s.calls; faults = next_count s.faults })
PutsInMemory put.Memory bytes s t = (call_fails s.calls s.fails ≡ false) × (t ≡ record s { calls = next_count s.calls })

-- a load that doesn't fail
abbrev pub KeepsFiles : StoreState → StoreState → Type 0
KeepsFiles s t = (call_fails s.calls s.fails ≡ false) × (t ≡ record s { calls = next_count s.calls })

-- a load or a save that fails
abbrev pub FailsInMemory : StoreState → StoreState → Type 0
FailsInMemory s t = (call_fails s.calls s.fails ≡ true) × (t ≡ record s { calls = next_count s.calls; faults = next_count s.faults })

-- what a load leaves
abbrev pub LoadsFromMemory : Load → StoreState → StoreState → Type 0
LoadsFromMemory load.Ok s t = KeepsFiles s t
LoadsFromMemory load.Missing s t = KeepsFiles s t
LoadsFromMemory load.TooLong s t = KeepsFiles s t
LoadsFromMemory load.Failed s t = FailsInMemory s t
LoadsFromMemory load.Memory s t = KeepsFiles s t

-- what a save of these bytes under this name leaves
abbrev pub SavesInMemory : Save → List ℕ → List ℕ → StoreState → StoreState → Type 0
SavesInMemory save.Ok name bytes s t = (call_fails s.calls s.fails ≡ false) × (t ≡ record s { files = insert s.files name bytes; calls = next_count s.calls })
SavesInMemory save.Failed name bytes s t = FailsInMemory s t
SavesInMemory save.Memory name bytes s t = KeepsFiles s t
