use Rattle.std.proofs.Common.{◌≡◌, ℕ, ◌-◌, ◌^◌, ◌<◌, ◌≤◌, List, length, get_or, ap, ◌∙◌, arith}
use Rattle.layout_params.specs.Parameters.{Settings}
use Rattle.sil_micro.specs.Codes.{MicroCode}
use Rattle.rv_emit.specs.Code.{op_place}
use Rattle.rv_emit.specs.Planned.{IsPlanned}
use Rattle.rv_emit.proofs.OpPlaces.{place_there, places_long}
use Rattle.rv_emit.proofs.Placed.{place_near}
use Rattle.rv_emit.proofs.plan.Plan.op.Goals as goal

value : (settings : Settings) (code : MicroCode) (ops : List ℕ) (q : ℕ) → IsPlanned settings code ops → q ≤ length code.ops → get_or ops q 0 ≡ op_place settings code q
value settings code ops q plan within = ap (λ ps. get_or ps q 0) plan.places ∙ place_there settings code q 0 within

low : (settings : Settings) (code : MicroCode) (ops : List ℕ) (q : ℕ) → IsPlanned settings code ops → q ≤ length code.ops → get_or ops q 0 < 2 ^ 31 - 2 ^ 13
low settings code ops q plan within = omega (arith, value settings code ops q plan within, place_near settings code plan.can q within)

within_ops : (settings : Settings) (code : MicroCode) (ops : List ℕ) (q : ℕ) → IsPlanned settings code ops → q ≤ length code.ops → q < length ops
within_ops settings code ops q plan within = omega (arith, ap length plan.places ∙ places_long settings code)

pub bounds-self-q : goal.bounds-self-q
bounds-self-q c = within_ops c.args.self.now.params.now.settings c.args.self.now.code.now c.args.self.now.ops.now c.args.q c.requires.plan c.requires.within

pub overflow_cast-result-2 : goal.overflow_cast-result-2
overflow_cast-result-2 c = record { fits = omega (arith, low c.args.self.now.params.now.settings c.args.self.now.code.now c.args.self.now.ops.now c.args.q c.requires.plan c.requires.within) }

pub returns-clause-value : goal.returns-clause-value
returns-clause-value c = value c.args.self.now.params.now.settings c.args.self.now.code.now c.args.self.now.ops.now c.args.q c.requires.plan c.requires.within

pub returns-clause-low : goal.returns-clause-low
returns-clause-low c = low c.args.self.now.params.now.settings c.args.self.now.code.now c.args.self.now.ops.now c.args.q c.requires.plan c.requires.within
