use Rattle.std.proofs.Common.{◌≡◌, ◌+◌, ◌-◌, ◌*◌, [], ◌∷◌, ◌++◌, take, drop, ap, ◌∙◌, arith}
use Rattle.std.specs.Int.{w64}
use Rattle.std.proofs.Common.{to_z, of_z}
use Rattle.std.proofs.lemmas.Int.{of_z-to_z}
use Rattle.sil_format.specs.declared.value.Value.TheVariants.{Number}
use Rattle.rv_emulate.proofs.ReadLaws.{all_words_taken, one_word_more}
use Rattle.rv_emulate.proofs.operands.words.Goals as goal

pub loop-k-preserved : goal.loop-k-preserved
loop-k-preserved c =
    let at = 8 * c.loop-k.k in
    let eight : 8 * c.loop-k.k + 8 - 8 * c.loop-k.k ≡ 8 = omega arith in
    let fits = c.number_of-word.type_inv in
    one_word_more c.args.count c.loop-k.k c.args.bytes.now (take (8 * c.loop-k.k + 8 - 8 * c.loop-k.k) (drop at c.args.bytes.now)) c.loop-k.values.items c.push.new.self.items c.loop-k-test.true
    (ap (λ j. take j (drop at c.args.bytes.now)) eight)
    (c.in_ok-push.ensures.items
    ∙ ap (λ x. c.loop-k.values.items ++ Number x ∷ []) (ap (λ z. to_z w64 (of_z w64 z)) c.cast_signed.ensures ∙ ap (to_z w64) (of_z-to_z w64 c.number_of-word.result fits) ∙ ap (to_z w64) c.number_of-word.ensures.same))
    c.loop-k.invariant

pub returns : goal.returns
returns c = all_words_taken c.args.count c.args.bytes.now c.loop-k.values.items c.loop-k.k c.loop-k-test.false c.loop-k.invariant
