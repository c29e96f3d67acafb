use Rattle.sil_operands.proofs.Quotes.{second_quote, first_quote, no_quote}
use Rattle.sil_operands.proofs.texts.read_text.Goals as goal
use Rattle.sil_operands.proofs.texts.read_text.Goals.{then-after_quote+else-byte-ne39+in_ok-push, else-after_quote+then-byte-eq39, else-after_quote+else-byte-eq39+in_ok-push-2}

pub loop-byte-preserved : goal.loop-byte-preserved
loop-byte-preserved c =
    elim c.if-after_quote.branch [
      | then-after_quote+else-byte-ne39+in_ok-push w ↦
          let h = second_quote c.args.bytes.now c.loop-byte.byte-index c.loop-byte-test.true c.loop-byte.text.items w.if-byte-ne39.false in
          let items = w.in_ok-push.ensures.items in
          cc
      | else-after_quote+then-byte-eq39 w ↦
          let h = first_quote c.args.bytes.now c.loop-byte.byte-index c.loop-byte-test.true w.if-byte-eq39.true in
          cc
      | else-after_quote+else-byte-eq39+in_ok-push-2 w ↦
          let h = no_quote c.args.bytes.now c.loop-byte.byte-index c.loop-byte-test.true c.loop-byte.text.items w.if-byte-eq39.false in
          let items = w.in_ok-push-2.ensures.items in
          cc
    ]
