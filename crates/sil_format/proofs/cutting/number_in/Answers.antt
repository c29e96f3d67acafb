use Rattle.std.proofs.Common.{◌<◌, sym, ◌∙◌, arith}
use Rattle.sil_format.specs.FormatGrammar.{value_of}
use Rattle.sil_format.proofs.NumberLemmas.{next_digit, next_blank, too_high}
use Rattle.sil_format.proofs.cutting.number_in.Goals as goal
use Rattle.sil_format.proofs.cutting.number_in.Goals.{then-not-is_blank+else-value-high, else-not-is_blank}

pub returns-then-value-high : goal.returns-then-value-high
returns-then-value-high c =
    let next = next_digit c.args.bytes.now c.loop-byte.byte-index c.requires.digits c.loop-byte-test.true (sym c.if-not-is_blank.ensures) in
    let same = c.loop-byte.invariant.value in
    let above : c.args.high < value_of c.args.bytes.now = omega (arith, next.low, next.next, next.whole, same, c.from.ensures, c.if-value-high.true) in
    sym (too_high c.args.low c.args.high c.args.bytes.now above)

pub loop-byte-preserved : goal.loop-byte-preserved
loop-byte-preserved c =
    let same = c.loop-byte.invariant.value in
    elim c.if-not-is_blank.branch [
      | then-not-is_blank+else-value-high w ↦
          let next = next_digit c.args.bytes.now c.loop-byte.byte-index c.requires.digits c.loop-byte-test.true (sym w.if-not-is_blank.ensures) in
          record {
            value = omega (arith, next.low, next.next, same, w.from.ensures, w.value-is);
            fits = omega (arith, w.if-value-high.false, w.value-is);
          }
      | else-not-is_blank w ↦
          let next = next_blank c.args.bytes.now c.loop-byte.byte-index c.loop-byte-test.true (sym w.if-not-is_blank.ensures) in
          record { value = w.value-is ∙ same ∙ sym next; fits = omega (arith, w.value-is, c.loop-byte.invariant.fits) }
    ]
