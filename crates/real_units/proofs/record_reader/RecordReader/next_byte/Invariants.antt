use Rattle.std.specs.Prelude.{◌≡◌}
use Rattle.std.specs.Io.KnownBytes.{Keeps}
use Rattle.real_units.specs.RecordStreams.{bytes_left, reader_place}
use Rattle.real_units.proofs.record_reader.RecordReader.next_byte.Given as goal

abbrev pub invariant-loop : goal.invariant-loop
invariant-loop g l = record {
  kept : Keeps (bytes_left g.R.Read.remaining l.initial.self) (bytes_left g.R.Read.remaining l.self);
  place : reader_place l.self ≡ reader_place l.initial.self;
}
