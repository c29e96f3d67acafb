-- Where the bytes are the packing, they are packed.
use Rattle.std.proofs.Common.{subst}
use Rattle.layout_params.specs.declared.cell.Cell.{Cell}
use Rattle.layout_params.specs.declared.cell.Cell.TheVariants.{Descr}
use Rattle.layout_params.specs.Packing.{packing, FitsFields}
use Rattle.layout_params.proofs.PackingLemmas.{packing-packed}
use Rattle.layout_params.proofs.packing.pack_cell.Goals as goal

pub returns-in-Descr-clause-bytes : goal.returns-in-Descr-clause-bytes
unfolding packing
returns-in-Descr-clause-bytes g c = rw c.in-Descr.is c.pack_descr.ensures.bytes

pub returns-in-Descr-clause-packed : goal.returns-in-Descr-clause-packed
unfolding packing
returns-in-Descr-clause-packed g c =
    let s = g.L.Layout.sizes c.args.layout.now in
    let fits = subst (λ (x : Cell). FitsFields s x) c.in-Descr.is c.requires.fits in
    let packed = packing-packed s (Descr c.in-Descr.descr) (g.met.L.Layout.legal c.args.layout.now) fits c.pack_descr.ensures.whole in
    rw (c.in-Descr.is, c.pack_descr.ensures.bytes) packed

pub returns-in-Chars-clause-bytes : goal.returns-in-Chars-clause-bytes
unfolding packing
returns-in-Chars-clause-bytes g c = rw c.in-Chars.is c.pack_chars.ensures
