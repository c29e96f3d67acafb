use Rattle.std.proofs.Common.{arith, refl}
use Rattle.unit_io.proofs.Writes.{written-more, written-failed}
use Rattle.unit_io.proofs.slots.write_records.Goals as goal

pub loop-record-preserved : goal.loop-record-preserved
loop-record-preserved g c = record {
  count = omega (arith, c.in-Ok.ensures.count);
  tape = written-more _ _ _ c.loop-record-test.true c.record-item.is _ _ _ _ c.bytes.ensures c.loop-record.invariant.tape c.in-Ok.ensures.tape;
}

pub returns-in-Failed : goal.returns-in-Failed
returns-in-Failed g c = record {
  tape = written-failed _ _ _ c.loop-record-test.true c.record-item.is _ _ _ _ c.loop-record.invariant.tape c.in-Failed.ensures.tape;
  there = λ e. cc;
  count = omega (arith, c.in-Failed.ensures.count);
  failed = λ _. let rose = c.in-Failed.ensures.failed refl in omega (arith, c.loop-record.invariant.count);
}
