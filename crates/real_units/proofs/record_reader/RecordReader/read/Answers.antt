use Rattle.std.proofs.Common.{ℕ, ◌+◌, ◌^◌, ◌<◌, rules, arith}
use Rattle.real_units.proofs.Reading.{more_so_far, ended_by_lf, ended_by_end}
use Rattle.real_units.proofs.record_reader.RecordReader.read.Goals as goal

pub returns-in-Byte-eq10-clause-reads : goal.returns-in-Byte-eq10-clause-reads
returns-in-Byte-eq10-clause-reads g c =
    ended_by_lf _ _ _ c.loop-count.count c.in-Byte-eq10.field-0 c.min.result c.args.into.now c.loop-count.into c.loop-count.invariant.so_far c.in-Byte-eq10.ensures.taken (search rules) c.loop-count.auto.into (omega arith) (search rules)

pub returns-in-End-clause-reads : goal.returns-in-End-clause-reads
returns-in-End-clause-reads g c =
    ended_by_end _ _ _ c.loop-count.count c.min-in-End.result c.args.into.now c.loop-count.into c.loop-count.invariant.so_far c.in-End.ensures.taken (search rules) c.loop-count.auto.into (omega arith) (search rules)

pub loop-count-preserved : goal.loop-count-preserved
loop-count-preserved g c = record {
  so_far = more_so_far _ _ _ c.loop-count.count c.in-Byte.byte c.args.into.now c.loop-count.into c.put_at.new.into c.loop-count.invariant.so_far c.in-Byte.ensures.taken (search rules) c.loop-count.auto.into c.put_at.ensures.there c.put_at.ensures.past;
  place = λ (fits : c.args.self.now.place + (c.loop-count.count + 1) < 2 ^ 64). omega (arith, c.in-Byte.ensures.place, c.loop-count.invariant.place);
}
