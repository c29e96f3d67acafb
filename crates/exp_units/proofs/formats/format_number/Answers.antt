use Rattle.std.proofs.Common.{Some, length, refl, sym, ap, ◌∙◌, arith}
use Rattle.std.proofs.lemmas.Option.{slice_get_read}
use Rattle.std.specs.Cmp.Lexicographic.{other_text, same_text}
use Rattle.exp_units.proofs.FormatTexts.{none_so_far}
use Rattle.exp_units.proofs.formats.format_number.Goals as goal

pub returns-then-eq : goal.returns-then-eq
returns-then-eq c =
    slice_get_read c.args.formats.now (length c.args.formats.now) c.loop-i.i c.index-formats-i.result refl c.loop-i-test.true c.index-formats-i.is
    ∙ ap (λ l. Some l) (sym c.bytes.ensures ∙ same_text c.bytes.result.now c.bytes-in-loop-i.result.now c.if-eq.ensures ∙ c.bytes-in-loop-i.ensures)

pub loop-i-preserved : goal.loop-i-preserved
loop-i-preserved c =
    none_so_far c.args.formats.now c.args.text.now c.index-formats-i.result c.loop-i.i
    (slice_get_read c.args.formats.now (length c.args.formats.now) c.loop-i.i c.index-formats-i.result refl c.loop-i-test.true c.index-formats-i.is)
    (λ e. other_text c.bytes.result.now c.bytes-in-loop-i.result.now c.if-eq.ensures (c.bytes.ensures ∙ e ∙ sym c.bytes-in-loop-i.ensures)) c.loop-i.invariant

pub unreachable-requires : goal.unreachable-requires
unreachable-requires c =
    let there = c.requires.there in
    c.loop-i.invariant there.0 (omega (arith, there.1, c.loop-i-test.false)) (slice_get_read c.args.formats.now (length c.args.formats.now) there.0 c.args.text.now refl there.1 (sym there.2))
