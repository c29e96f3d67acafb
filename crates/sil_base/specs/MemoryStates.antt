-- What contracts see of the sink and the store in memory.
use Rattle.std.specs.Prelude.{ℕ, List, refl, if◌then◌else◌}
use Rattle.std.specs.Coded.{Coded, code_by, coded×, coded_ℕ, coded_list}
use Rattle.std.specs.FinMap as map
use Rattle.sil_base.specs.Causes.{next_count, call_fails}
use Rattle.sil_base.specs.Files.{Files}

-- the bytes put so far, the numbers of the calls that fail, the calls made, and the count of faults
pub record SinkState : Type 0 where
  pub text : List ℕ
  pub fails : List ℕ
  pub calls : ℕ
  pub faults : ℕ

-- the files, the numbers of the calls that fail, the calls made, and the count of faults
pub record StoreState : Type 0 where
  pub files : Files
  pub fails : List ℕ
  pub calls : ℕ
  pub faults : ℕ

-- a store is stored as the tuple of its fields
abbrev pub store_state_code : Coded StoreState
store_state_code =
    code_by (Files × (List ℕ × (ℕ × ℕ))) (coded× (map.code (coded_list coded_ℕ) (coded_list coded_ℕ)) (coded× (coded_list coded_ℕ) (coded× coded_ℕ coded_ℕ)))
    (λ s. (s.files, (s.fails, (s.calls, s.faults)))) (λ p. record { files = p.0; fails = p.1.0; calls = p.1.1.0; faults = p.1.1.1 }) (λ _. refl)

-- a store after the number and the failure, if there is one, of its next call
abbrev pub counted : StoreState → StoreState
counted s = record s { calls = next_count s.calls; faults = if call_fails s.calls s.fails then next_count s.faults else s.faults }
