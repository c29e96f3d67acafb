use Rattle.std.proofs.Common.{◌≡◌, ◌+◌, ◌-◌, ◌*◌, ◌<◌, ◌++◌, length, sym, ap, ◌∙◌, arith}
use Rattle.std.proofs.lemmas.List.Elements.{All-nil}
use Rattle.layout_params.specs.Areas.{all_cells}
use Rattle.rv_emit.specs.Code.{first_op}
use Rattle.rv_emit.specs.Emits.{op_places_from}
use Rattle.rv_emit.specs.Planned.{IsWord}
use Rattle.rv_emit.proofs.Ops.{op_known}
use Rattle.rv_emit.proofs.OpPlaces.{all_places, first_place, no_place_yet, one_place_more}
use Rattle.rv_emit.proofs.Steps.{all_words, next_low, next_place, word_more}
use Rattle.rv_emit.proofs.operations.op_places.Goals as goal

pub loop-op-init : goal.loop-op-init
loop-op-init g c =
    let settings = c.args.params.now.settings in
    let code = c.args.code.now in
    let first = c.from-place.ensures ∙ c.first_op.ensures ∙ ap (λ d. first_op d c.statements.result) (c.descr.ensures ∙ ap (λ z. z.descr) c.numbers.ensures.sizes) ∙ ap (λ n. first_op settings.sizes.descr n) c.statements.ensures.value in
    (first ∙ sym (first_place settings code), no_place_yet settings code c.new-places.result.items c.new-places.ensures.items, All-nil (IsWord settings code.static_cells))

pub number_of-number-requires : goal.number_of-number-requires
number_of-number-requires g c =
    omega (arith, ap (all_cells c.args.params.now.settings) (c.from-statics.ensures ∙ c.static_cells.ensures), c.requires.cells)

pub length_of-requires-clause-rules : goal.length_of-requires-clause-rules
length_of-requires-clause-rules g c =
    (op_known c.args.code.now c.args.params.now.settings c.requires c.ops-ops.result.now c.loop-op.op-index c.ops-ops.ensures.value (omega arith)).rules

pub length_of-requires-clause-begun : goal.length_of-requires-clause-begun
length_of-requires-clause-begun g c =
    (op_known c.args.code.now c.args.params.now.settings c.requires c.ops-ops.result.now c.loop-op.op-index c.ops-ops.ensures.value (omega arith)).begun

pub overflow_mul-place : goal.overflow_mul-place
overflow_mul-place g c = record { fits = omega (arith, next_low c.args.params.now.settings c.args.code.now c.requires c.ops-ops.result.now c.loop-op.op-index (c.loop-op.place + 4 * c.in_ok-place.field-0) c.ops-ops.ensures.value (omega arith) (next_place c.args.params.now.settings c.args.code.now c.ops-ops.result.now c.loop-op.op-index c.from-statics.result c.number_of-number.result c.in_ok-place.field-0 c.loop-op.place c.ops-ops.ensures.value (omega arith) (c.from-statics.ensures ∙ c.static_cells.ensures) c.number_of-number.ensures.value c.in_ok-place.ensures c.loop-op.invariant.0)) }

pub overflow_add-place : goal.overflow_add-place
overflow_add-place g c = record { fits = omega (arith, next_low c.args.params.now.settings c.args.code.now c.requires c.ops-ops.result.now c.loop-op.op-index (c.loop-op.place + 4 * c.in_ok-place.field-0) c.ops-ops.ensures.value (omega arith) (next_place c.args.params.now.settings c.args.code.now c.ops-ops.result.now c.loop-op.op-index c.from-statics.result c.number_of-number.result c.in_ok-place.field-0 c.loop-op.place c.ops-ops.ensures.value (omega arith) (c.from-statics.ensures ∙ c.static_cells.ensures) c.number_of-number.ensures.value c.in_ok-place.ensures c.loop-op.invariant.0)) }

pub loop-op-preserved : goal.loop-op-preserved
loop-op-preserved g c =
    let settings = c.args.params.now.settings in
    let code = c.args.code.now in
    let lt : c.loop-op.op-index < length c.ops-ops.result.now = omega arith in
    let within : c.loop-op.op-index < length code.ops = omega (arith, ap length c.ops-ops.ensures.value) in
    let statics = c.from-statics.ensures ∙ c.static_cells.ensures in
    let places = ap (λ ps. ps ++ op_places_from settings code (c.loop-op.op-index + 1) (length code.ops - (c.loop-op.op-index + 1))) c.in_ok-push.ensures.items ∙ one_place_more settings code c.loop-op.places.items c.loop-op.op-index c.loop-op.place within c.loop-op.invariant.0 c.loop-op.invariant.1 in
    ((next_place c.args.params.now.settings c.args.code.now c.ops-ops.result.now c.loop-op.op-index c.from-statics.result c.number_of-number.result c.in_ok-place.field-0 c.loop-op.place c.ops-ops.ensures.value (omega arith) (c.from-statics.ensures ∙ c.static_cells.ensures) c.number_of-number.ensures.value c.in_ok-place.ensures c.loop-op.invariant.0), places, word_more settings code c.ops-ops.result.now c.loop-op.op-index c.from-statics.result c.ops-ops.ensures.value lt statics c.number_of-number.ensures.word c.loop-op.invariant.2)

pub returns : goal.returns
returns g c =
    let settings = c.args.params.now.settings in
    let code = c.args.code.now in
    let end : c.loop-op.op-index ≡ length code.ops = omega (arith, ap length c.ops-ops.ensures.value) in
    record {
      places = c.in_ok-push-2.ensures.items ∙ all_places settings code c.loop-op.places.items c.loop-op.op-index c.loop-op.place end c.loop-op.invariant.0 c.loop-op.invariant.1;
      can = c.requires;
      words = all_words settings code c.loop-op.op-index (omega (arith, end)) c.loop-op.invariant.2;
    }
