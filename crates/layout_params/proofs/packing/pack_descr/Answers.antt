use Rattle.std.proofs.Common.{◌≡◌, ◌∙◌, length, replicate, arith, ap}
use Rattle.std.proofs.lemmas.Int.{to_z-of_z}
use Rattle.std.specs.Int.{w64, cast_unsigned}
use Rattle.layout_params.proofs.LegalLayouts.{IsLegal, legal}
use Rattle.layout_params.proofs.PackingLemmas.{fields_written}
use Rattle.layout_params.proofs.packing.pack_descr.Goals as goal

pub put_low_bytes-requires-clause-room : goal.put_low_bytes-requires-clause-room
put_low_bytes-requires-clause-room g c =
    let s = g.L.Layout.sizes c.args.layout.now in
    let fit : IsLegal s = legal s (g.met.L.Layout.legal c.args.layout.now) in
    let room = fit.a_within in
    let size : length c.fill.new.self ≡ length c.args.out.now = c.fill.auto.self in
    omega arith

pub put_low_bytes-requires-2-clause-room : goal.put_low_bytes-requires-2-clause-room
put_low_bytes-requires-2-clause-room g c =
    let s = g.L.Layout.sizes c.args.layout.now in
    let fit : IsLegal s = legal s (g.met.L.Layout.legal c.args.layout.now) in
    let room = fit.f_within in
    omega arith

pub put_low_bytes-requires-3-clause-room : goal.put_low_bytes-requires-3-clause-room
put_low_bytes-requires-3-clause-room g c =
    let s = g.L.Layout.sizes c.args.layout.now in
    let fit : IsLegal s = legal s (g.met.L.Layout.legal c.args.layout.now) in
    let room = fit.v_within in
    omega arith

pub returns-clause-bytes : goal.returns-clause-bytes
returns-clause-bytes g c =
    let filled : c.fill.new.self ≡ replicate (length c.args.out.now) 0 = c.fill.ensures.after (λ y e. e) in
    let size : length c.args.out.now ≡ (g.L.Layout.sizes c.args.layout.now).descr = c.requires in
    let a_is : c.cast_unsigned.result ≡ cast_unsigned w64 c.args.descr.now.a = grind (arith, to_z-of_z) in
    fields_written (g.L.Layout.sizes c.args.layout.now) c.args.descr.now (filled ∙ ap (λ n. replicate n 0) size) c.put_low_bytes.ensures c.put_low_bytes-2.ensures c.put_low_bytes-3.ensures c.a_at.ensures c.f_at.ensures c.f_len.ensures c.v_at.ensures c.v_len.ensures a_is c.from.ensures
