use Rattle.std.proofs.Common.{arith}
use Rattle.sil_symbols.specs.Addresses.{first_spot}
use Rattle.sil_symbols.specs.HeldNames.{names_in}
use Rattle.sil_symbols.proofs.Spots.{addresses_from-more, spot_after-more}
use Rattle.sil_symbols.proofs.addresses.addresses_of.Goals as goal

pub loop-statement-preserved : goal.loop-statement-preserved
loop-statement-preserved c =
    let names = names_in c.args.names.now c.args.sizes.now in
    record {
      addresses =
          addresses_from-more c.args.descr names first_spot c.args.statements.now c.loop-statement.statement-index c.statement-item.result c.requires (omega arith) c.statement-item.is
          c.loop-statement.spot c.part_of-part.result c.loop-statement.invariant.spot c.part_of-part.ensures _ _ _ c.loop-statement.invariant.addresses c.label_address.ensures c.in_ok-push.ensures.items;
      spot =
          spot_after-more c.args.descr names first_spot c.args.statements.now c.loop-statement.statement-index c.statement-item.result c.requires (omega arith) c.statement-item.is
          c.loop-statement.spot c.part_of-part.result c.loop-statement.invariant.spot c.part_of-part.ensures _ _ c.cells_of.ensures c.past-spot.ensures;
    }
