use Rattle.std.proofs.Common.{◌<◌, ◌≤◌, ◌++◌, length, get_or, sym, ap, ◌∙◌, arith}
use Rattle.std.proofs.lemmas.List.{get_or_default}
use Rattle.rv_emit.specs.Code.{routines_at}
use Rattle.rv_emit.specs.Planned.{operations_of}
use Rattle.rv_emit.proofs.Ops.{no_op, op_known, can_stand}
use Rattle.rv_emit.proofs.Steps.{new_op, ops_end, ops_first, ops_more}
use Rattle.rv_emit.proofs.operations.append_ops.Goals as goal

pub loop-q-init : goal.loop-q-init
loop-q-init g c = ops_first c.args.plan.now.params.now.settings c.args.plan.now.code.now c.args.code.now.items

pub links_of-requires-clause-leads : goal.links_of-requires-clause-leads
links_of-requires-clause-leads g c =
    (op_known c.args.plan.now.code.now c.args.plan.now.params.now.settings c.requires.plan.can c.ops-ops.result.now c.loop-q.q c.ops-ops.ensures.value (omega arith)).leads

pub links_of-requires-clause-names : goal.links_of-requires-clause-names
links_of-requires-clause-names g c =
    (op_known c.args.plan.now.code.now c.args.plan.now.params.now.settings c.requires.plan.can c.ops-ops.result.now c.loop-q.q c.ops-ops.ensures.value (omega arith)).names

pub overflow_cast-q : goal.overflow_cast-q
overflow_cast-q g c = record { fits = omega (arith, ap length c.ops-ops.ensures.value, c.ops-ops.ensures.count) }

pub op-requires-clause-within : goal.op-requires-clause-within
op-requires-clause-within g c = omega (arith, ap length c.ops-ops.ensures.value)

pub append_op-requires-clause-rules : goal.append_op-requires-clause-rules
append_op-requires-clause-rules g c =
    (op_known c.args.plan.now.code.now c.args.plan.now.params.now.settings c.requires.plan.can c.ops-ops.result.now c.loop-q.q c.ops-ops.ensures.value (omega arith)).rules

pub append_op-requires-clause-stands : goal.append_op-requires-clause-stands
append_op-requires-clause-stands g c =
    let settings = c.args.plan.now.params.now.settings in
    let code = c.args.plan.now.code.now in
    let known = op_known code settings c.requires.plan.can c.ops-ops.result.now c.loop-q.q c.ops-ops.ensures.value (omega arith) in
    let stand = can_stand code settings c.requires.plan.can (get_or c.ops-ops.result.now c.loop-q.q no_op) known c.op.result c.op.ensures.low in
    record {
      place = c.op.ensures.low;
      text = omega (arith, stand.text, ap (λ l. l.text) c.links_of.ensures);
      text_len = omega (arith, stand.text_len, ap (λ l. l.text_len) c.links_of.ensures);
      number = known.begun;
    }

pub loop-q-preserved : goal.loop-q-preserved
loop-q-preserved g c =
    let settings = c.args.plan.now.params.now.settings in
    let code = c.args.plan.now.code.now in
    let op = get_or c.ops-ops.result.now c.loop-q.q no_op in
    let lt : c.loop-q.q < length code.ops = omega (arith, ap length c.ops-ops.ensures.value) in
    let same = ap (λ os. get_or os c.loop-q.q no_op) c.ops-ops.ensures.value ∙ get_or_default code.ops c.loop-q.q no_op op lt in
    let sizes = c.numbers.ensures.sizes in
    let at = c.routines_at-routines.ensures ∙ ap (λ d. routines_at d c.statements.result) (c.descr.ensures ∙ ap (λ z. z.descr) sizes) ∙ ap (λ n. routines_at settings.sizes.descr n) c.statements.ensures.value in
    let new = new_op settings code c.loop-q.code.items c.append_op.new.code.items (g.L.Layout.sizes c.args.layout.now) c.routines_at-routines.result c.links_of.result c.op.result c.loop-q.q op c.requires.layout at c.links_of.ensures c.op.ensures.value c.in_ok-append_op.ensures in
    ops_more settings code c.loop-q.code.items c.append_op.new.code.items (c.args.code.now.items ++ operations_of settings code) c.loop-q.q op lt same new c.loop-q.invariant

pub returns : goal.returns
returns g c =
    let settings = c.args.plan.now.params.now.settings in
    let code = c.args.plan.now.code.now in
    let le : length code.ops ≤ c.loop-q.q = omega (arith, ap length c.ops-ops.ensures.value) in
    sym (ops_end settings code c.loop-q.code.items c.loop-q.q le) ∙ c.loop-q.invariant
