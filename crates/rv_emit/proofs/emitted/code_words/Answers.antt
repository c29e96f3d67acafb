use Rattle.std.proofs.Common.{◌++◌, sym, ap, subst, ◌∙◌}
use Rattle.std.specs.Prelude.{All, map}
use Rattle.rv_isa.specs.InstrWords.{IsInstr, word_of}
use Rattle.rv_emit.specs.Planned.{front_of}
use Rattle.rv_emit.proofs.CodeWords.{each_instr}
use Rattle.rv_emit.proofs.Fronts.{whole_is}
use Rattle.rv_emit.proofs.emitted.code_words.Goals as goal

pub append_words-requires : goal.append_words-requires
append_words-requires g c =
    let settings = c.args.plan.now.params.now.settings in
    let code = c.args.plan.now.code.now in
    let first = c.in_ok-append_front.ensures ∙ ap (λ is. is ++ front_of settings code) c.new-instrs.ensures.items in
    let all = whole_is settings code c.append_front.new.code.items c.append_ops.new.code.items c.extend_from_slice.new.self.items c.past_code.result c.statements.result first c.in_ok-append_ops.ensures c.statements.ensures.value c.past_code.ensures c.in_ok-extend_from_slice.ensures.items in
    subst (All IsInstr) (sym (c.as_slice.ensures.value ∙ all)) (each_instr c.law_of_op_words.ensures settings code c.requires.plan.can c.requires.plan.words)

pub returns : goal.returns
returns g c =
    let settings = c.args.plan.now.params.now.settings in
    let code = c.args.plan.now.code.now in
    let first = c.in_ok-append_front.ensures ∙ ap (λ is. is ++ front_of settings code) c.new-instrs.ensures.items in
    let all = whole_is settings code c.append_front.new.code.items c.append_ops.new.code.items c.extend_from_slice.new.self.items c.past_code.result c.statements.result first c.in_ok-append_ops.ensures c.statements.ensures.value c.past_code.ensures c.in_ok-extend_from_slice.ensures.items in
    c.in_ok-append_words.ensures ∙ ap (λ ws. ws ++ map word_of c.as_slice.result.now) c.new-words.ensures.items ∙ ap (map word_of) (c.as_slice.ensures.value ∙ all)
