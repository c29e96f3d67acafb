use Rattle.std.proofs.Common.{arith, sym, ap, ◌∙◌, ◌++◌, drop, ◌+◌}
use Rattle.sil_symbols.specs.SymbolRules.{expressions_at}
use Rattle.sil_symbols.specs.HeldNames.{terms_of}
use Rattle.sil_symbols.proofs.RuleLemmas.{expressions_more, expressions_skip}
use Rattle.sil_symbols.proofs.rules.expressions_at.Goals as goal
use Rattle.sil_symbols.proofs.rules.expressions_at.Goals.{then-not-is_apart_at+in_ok-push_expressions, else-not-is_apart_at}

pub loop-i-preserved : goal.loop-i-preserved
loop-i-preserved c =
    let places = c.args.places.now in
    let operands = c.args.operands.now in
    let i = c.loop-i.i in
    let o = c.index-operands-i.result in
    let old = terms_of c.loop-i.expressions.items in
    elim c.if-not-is_apart_at.branch [
      | then-not-is_apart_at+in_ok-push_expressions w ↦
          expressions_more places operands i o (omega arith) c.index-operands-i.is old c.loop-i.invariant (terms_of c.if-not-is_apart_at.expressions.items)
          (sym c.is_apart_at.ensures ∙ w.if-not-is_apart_at.true) (ap (λ v. terms_of v.items) w.expressions-is ∙ w.in_ok-push_expressions.ensures)
      | else-not-is_apart_at w ↦
          ap (λ v. terms_of v.items ++ expressions_at (drop (i + 1) places) (drop (i + 1) operands)) w.expressions-is
          ∙ expressions_skip places operands i o (omega arith) c.index-operands-i.is old c.loop-i.invariant (sym c.is_apart_at.ensures ∙ w.if-not-is_apart_at.false)
    ]
