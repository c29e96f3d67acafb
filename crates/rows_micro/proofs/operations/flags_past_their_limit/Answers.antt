use Rattle.std.proofs.Common.{refl}
use Rattle.sil_model.specs.Access.{descr_at}
use Rattle.sil_micro.proofs.Making.{by_option}
use Rattle.rows_micro.proofs.Edges.{past_limit}
use Rattle.rows_micro.proofs.operations.flags_past_their_limit.Goals as goal

pub returns : goal.returns
returns c = λ g u past. by_option (descr_at u.state.memory u.registers.r1) (λ none. simp none refl) (λ d is. simp (is, past, past_limit) refl)
