-- The macros that call and return.
use Rattle.std.proofs.Common.{◌≡◌, true, refl}
use Rattle.sil_macros.specs.declared.names.Macro.{Macro}
use Rattle.sil_macros.specs.declared.names.Macro.TheVariants.{Rcall, Rrturn}
use Rattle.flow_clauses.specs.CallClauses.{is_rcall, rcall, rrturn}
use Rattle.sil_runs.specs.Table.{clause}
use Rattle.flow_clauses.specs.FlowTable.{flow_clause}
use Rattle.exp_calls.specs.Group.{is_return}

pub rcall_alone : (name : Macro) → is_rcall name ≡ true → name ≡ Rcall
rcall_alone Rcall h = refl
rcall_alone _ h = absurd (cc)

pub return_alone : (name : Macro) → is_return name ≡ true → name ≡ Rrturn
return_alone Rrturn h = refl
return_alone _ h = absurd (cc)

-- their clauses
pub clause_of_call : clause Rcall ≡ rcall
unfolding clause flow_clause
clause_of_call = refl

pub clause_of_return : clause Rrturn ≡ rrturn
unfolding clause flow_clause
clause_of_return = refl
