use Rattle.std.proofs.Common.{◌*◌, ◌^◌, ◌<◌, arith, subst}
use Rattle.layout_params.specs.declared.cell.Field.{Field}
use Rattle.layout_params.specs.Packing.{width_of}
use Rattle.layout_params.proofs.LegalLayouts.{IsLegal, legal}
use Rattle.layout_params.proofs.PackingLemmas.{a_bits-written, f-written, v-written}
use Rattle.layout_params.proofs.packing.pack_field.Goals as goal

pub put_low_bytes-requires-clause-room : goal.put_low_bytes-requires-clause-room
put_low_bytes-requires-clause-room g c =
    let fit : IsLegal (g.L.Layout.sizes c.args.layout.now) = legal (g.L.Layout.sizes c.args.layout.now) (g.met.L.Layout.legal c.args.layout.now) in
    let room = fit.a_within in
    omega arith

pub put_low_bytes-requires-in-F-clause-room : goal.put_low_bytes-requires-in-F-clause-room
put_low_bytes-requires-in-F-clause-room g c =
    let fit : IsLegal (g.L.Layout.sizes c.args.layout.now) = legal (g.L.Layout.sizes c.args.layout.now) (g.met.L.Layout.legal c.args.layout.now) in
    let room = fit.f_within in
    omega arith

pub put_low_bytes-requires-in-V-clause-room : goal.put_low_bytes-requires-in-V-clause-room
put_low_bytes-requires-in-V-clause-room g c =
    let fit : IsLegal (g.L.Layout.sizes c.args.layout.now) = legal (g.L.Layout.sizes c.args.layout.now) (g.met.L.Layout.legal c.args.layout.now) in
    let room = fit.v_within in
    omega arith

pub returns-in-A-clause-packed : goal.returns-in-A-clause-packed
returns-in-A-clause-packed g c d packed =
    let s = g.L.Layout.sizes c.args.layout.now in
    let small : c.args.value < 2 ^ 64 = c.ranges.value.fits in
    rw (c.in-A.is, c.put_low_bytes.ensures, c.a_at.ensures) (a_bits-written s d c.args.out.now c.args.value (g.met.L.Layout.legal c.args.layout.now) small packed)

pub returns-in-F-clause-packed : goal.returns-in-F-clause-packed
returns-in-F-clause-packed g c d packed =
    let s = g.L.Layout.sizes c.args.layout.now in
    let small : c.args.value < 2 ^ (8 * s.f_len) = subst (λ (field : Field). c.args.value < 2 ^ (8 * width_of s field)) c.in-F.is c.requires.fits in
    rw (c.in-F.is, c.put_low_bytes-in-F.ensures, c.f_at.ensures, c.f_len.ensures) (f-written s d c.args.out.now c.args.value (g.met.L.Layout.legal c.args.layout.now) small packed)

pub returns-in-V-clause-packed : goal.returns-in-V-clause-packed
returns-in-V-clause-packed g c d packed =
    let s = g.L.Layout.sizes c.args.layout.now in
    let small : c.args.value < 2 ^ (8 * s.v_len) = subst (λ (field : Field). c.args.value < 2 ^ (8 * width_of s field)) c.in-V.is c.requires.fits in
    rw (c.in-V.is, c.put_low_bytes-in-V.ensures, c.v_at.ensures, c.v_len.ensures) (v-written s d c.args.out.now c.args.value (g.met.L.Layout.legal c.args.layout.now) small packed)
