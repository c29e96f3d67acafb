use Rattle.std.proofs.Common.{◌+◌, ap, lit≤, refl, arith}
use Rattle.std.proofs.lemmas.Int.{to_z-of_z}
use Rattle.std.specs.Prelude.{pos, bit_and, ◌==◌}
use Rattle.std.specs.Int.{int_wrap}
use Rattle.layout_params.specs.Parameters.{Settings}
use Rattle.spec_clauses.specs.SpecifierClauses.{sized_block, string_size}
use Rattle.sil_micro.specs.Expands.{at}
use Rattle.sil_micro.specs.Pieces.{joined}
use Rattle.sil_micro.proofs.Making.{by_test, more, by_way, then_part}
use Rattle.exp_common.proofs.FlagBits.{both_flags}
use Rattle.exp_common.proofs.JoinedParts.{grows_from, grows_then, whole_piece}
use Rattle.exp_common.proofs.Questions.{by_read}
use Rattle.exp_spec.specs.SpecParts.{size_code}
use Rattle.exp_spec.proofs.Sizes.{by_size, with_cell}
use Rattle.exp_spec.proofs.SizeWrites.{size_goes, size_part}
use Rattle.exp_spec.proofs.SpecHeads.{bksize_first, bksize_head}
use Rattle.exp_common.proofs.TitleFlags.{string_title_small}
use Rattle.exp_spec.proofs.blocks.bksize.Goals as goal
use mir.Val.{SFits}
use mir.Syntax.{w64}

pub returns : goal.returns
unfolding sized_block
returns c =
    let f_d1 : SFits w64 c.args.d1 = c.ranges.d1 in
    let f_d2 : SFits w64 c.args.d2 = c.ranges.d2 in
    let head = simp to_z-of_z at c.in_ok-append.ensures.appends in
    let tail = simp to_z-of_z at c.in_ok-append_size.ensures.grown in
    record {
      piece = joined (bksize_head c.args.k c.args.d2) (size_code c.args.d1);
      stands = grows_from _ _ _ _ c.begin_statement.ensures (grows_then _ _ _ (bksize_head c.args.k c.args.d2) (size_code c.args.d1) head tail);
      is_piece = whole_piece (bksize_first c.args.k _ _ c.args.d2) (size_part _ _ c.args.d1) (lit≤ tt);
      does = λ g program parameters u h.
          let m = u.state.memory in
          let valid = h.valid.memory in
          let size = m.limits.cell_size in
          let flag = parameters.settings.string_title_flag in
          let settings = ap (λ (s : Settings). s.string_title_flag) h.setting.settings in
          by_read m c.args.d2 valid (λ none. record { fuel = 23; meets = simp (h.left, none) (refl, refl, lit≤ tt) }) (λ a1 f1 v1 is1 read1.
          by_read m a1 valid (λ none. record { fuel = 23; meets = simp (h.left, is1, none) (refl, refl, lit≤ tt) }) (λ a f v is read.
          let bits = both_flags f flag read.flags (string_title_small parameters.settings h.setting.well_formed.legal) in
          by_test (bit_and f flag == flag)
          (λ has. by_size size 4 (pos v) valid.limits.least valid.limits.most (omega arith) (omega (arith, read.value))
          (λ below sized.
          by_way (then_part (bksize_head c.args.k c.args.d2) (size_part 0 0 c.args.d1).part (omega arith)
          (size_goes g (at c.args.k u.state) u.failed u.scratch (record u.registers { r1 = c.args.d2; r2 = a1; r3 = pos f; r5 = pos flag; r6 = pos size; r7 = pos (bit_and f flag); r8 = pos 5 }) 4000 c.args.d1 (int_wrap w64 (pos (string_size size 4 (pos v)))) 216 (lit≤ tt)))
          (λ fuel y. record { fuel = more 17 fuel; meets = simp (h.left, is1, is, settings, bits, has, below, sized) y }))
          (λ other sized.
          by_way (then_part (bksize_head c.args.k c.args.d2) (size_part 0 0 c.args.d1).part (omega arith)
          (size_goes g (at c.args.k u.state) u.failed u.scratch (record u.registers { r1 = c.args.d2; r2 = a1; r3 = pos f; r5 = pos flag; r6 = pos size; r7 = pos (bit_and f flag); r8 = pos 5 }) 4000 c.args.d1 (int_wrap w64 (pos (string_size size 4 (pos v)))) 208 (lit≤ tt)))
          (λ fuel y. record { fuel = more 16 fuel; meets = simp (h.left, is1, is, settings, bits, has, other, sized) y })))
          (λ lacks.
          let sized = with_cell v size read.value valid.limits.most in
          by_way (then_part (bksize_head c.args.k c.args.d2) (size_part 0 0 c.args.d1).part (omega arith)
          (size_goes g (at c.args.k u.state) u.failed u.scratch (record u.registers { r1 = c.args.d2; r2 = a1; r3 = pos f; r5 = pos flag; r6 = pos size; r7 = pos (bit_and f flag) }) 4000 c.args.d1 (int_wrap w64 (pos (v + size))) 168 (lit≤ tt)))
          (λ fuel y. record { fuel = more 11 fuel; meets = simp (h.left, is1, is, settings, bits, lacks, sized) y }))));
    }
