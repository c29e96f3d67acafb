use Rattle.std.proofs.Common.{arith, sym}
use Rattle.syntax_tables.specs.TableFiles.{written_of, lines_of, reading}
use Rattle.syntax_tables.specs.declared.place.Place.TheVariants.{Between}
use Rattle.syntax_tables.proofs.Readings.{after-none}
use Rattle.syntax_tables.proofs.reading.read_tables.Goals as goal

pub loop-line-init : goal.loop-line-init
unfolding written_of
loop-line-init c = record {
  read = rw c.new.ensures.items (sym (after-none (reading Between 1 (lines_of c.args.bytes.now))));
  count = omega (arith, c.requires);
}
