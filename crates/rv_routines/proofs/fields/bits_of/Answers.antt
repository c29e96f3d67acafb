use Rattle.std.proofs.Common.{arith}
use Rattle.layout_params.proofs.LegalLayouts.{legal}
use Rattle.rv_routines.proofs.FieldPlaces.{few_bytes_of}
use Rattle.rv_routines.proofs.fields.bits_of.Goals as goal

pub overflow_cast-v_len : goal.overflow_cast-v_len
overflow_cast-v_len g c = record { fits = omega (arith, c.v_len.ensures, (few_bytes_of (g.L.Layout.sizes c.args.layout.now) (legal (g.L.Layout.sizes c.args.layout.now) (g.met.L.Layout.legal c.args.layout.now))).1) }

pub overflow_mul-v_len : goal.overflow_mul-v_len
overflow_mul-v_len g c = record { fits = omega (arith, c.v_len.ensures, (few_bytes_of (g.L.Layout.sizes c.args.layout.now) (legal (g.L.Layout.sizes c.args.layout.now) (g.met.L.Layout.legal c.args.layout.now))).1) }
