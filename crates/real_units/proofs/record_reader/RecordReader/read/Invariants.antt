use Rattle.std.specs.Prelude.{◌≡◌, ◌+◌, ◌^◌, ◌<◌, IfSome}
use Rattle.real_units.specs.RecordStreams.{bytes_left, reader_place}
use Rattle.real_units.proofs.Reading.{SoFar}
use Rattle.real_units.proofs.record_reader.RecordReader.read.Given as goal

abbrev pub invariant-loop-count : goal.invariant-loop-count
invariant-loop-count g l =
    let left = bytes_left g.R.Read.remaining in
    record {
      so_far : IfSome (left l.initial.self) (λ text. SoFar text l.count (left l.self) l.initial.into l.into);
      place : reader_place l.initial.self + l.count < 2 ^ 64 → reader_place l.self ≡ reader_place l.initial.self + l.count;
    }
