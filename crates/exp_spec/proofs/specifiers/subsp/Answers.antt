use Rattle.std.proofs.Common.{Some, length, lit≤, refl, arith}
use Rattle.std.proofs.lemmas.Int.{to_z-of_z}
use Rattle.std.specs.Prelude.{pos, nat_lt}
use Rattle.sil_model.specs.declared.program.Arg.TheVariants.{Absent}
use Rattle.sil_model.specs.Integers.{◌⊞◌}
use Rattle.spec_clauses.specs.SpecifierClauses.{subsp}
use Rattle.sil_micro.specs.Expands.{at}
use Rattle.sil_micro.specs.Pieces.{joined}
use Rattle.sil_micro.proofs.Making.{by_test, more, by_way, then_part}
use Rattle.exp_common.specs.Locations.{lead}
use Rattle.exp_common.proofs.Leads.{goes_to, lead_within}
use Rattle.exp_common.proofs.JoinedParts.{grows_from, grows_then, whole_piece}
use Rattle.exp_common.proofs.Questions.{by_read}
use Rattle.exp_spec.specs.SpecParts.{write_to_code}
use Rattle.exp_spec.proofs.SpecHeads.{subsp_first, subsp_head}
use Rattle.exp_spec.proofs.SpecWrites.{write_to_goes, write_to_inside, write_to_part}
use Rattle.exp_spec.proofs.specifiers.subsp.Goals as goal
use mir.Val.{SFits}
use mir.Syntax.{w64}

pub returns : goal.returns
unfolding subsp
returns c =
    let f_s1 : SFits w64 c.args.s1 = c.ranges.s1 in
    let f_s2 : SFits w64 c.args.s2 = c.ranges.s2 in
    let f_s3 : SFits w64 c.args.s3 = c.ranges.s3 in
    let to = c.statements-failure.ensures in
    let among = lead_within (length c.args.code.now.entries) c.args.k in
    let w0 = among c.args.to.no c.requires.statement (c.requires.within 3 Absent (lit≤ tt)) in
    let tail = simp to.yes at c.in_ok-append_write_to.ensures.grown in
    let w1 = among c.args.to.yes c.requires.statement (c.requires.within 4 Absent (lit≤ tt)) in
    let head = simp (to_z-of_z, to.no) at c.in_ok-append.ensures.appends in
    record {
      piece = joined (subsp_head c.args.k c.args.s1 c.args.s2 c.args.s3 (lead c.args.k c.args.to.no)) (write_to_code (lead c.args.k c.args.to.yes));
      stands = grows_from _ _ _ _ c.begin_statement.ensures (grows_then _ _ _ (subsp_head c.args.k c.args.s1 c.args.s2 c.args.s3 (lead c.args.k c.args.to.no)) (write_to_code (lead c.args.k c.args.to.yes)) head tail);
      is_piece = whole_piece (subsp_first c.args.k _ _ c.args.s1 c.args.s2 c.args.s3 (lead c.args.k c.args.to.no) w0) (write_to_part _ _ (lead c.args.k c.args.to.yes) w1) (lit≤ tt);
      does = λ g program parameters u h.
          let m = u.state.memory in
          let valid = h.valid.memory in
          let d = pos m.limits.cell_size in
          by_read m (c.args.s2 ⊞ d) valid (λ none. record { fuel = 16; meets = simp (h.left, none) (refl, refl, lit≤ tt) }) (λ a1 f1 l is1 read1.
          by_read m (c.args.s3 ⊞ d) valid (λ none. record { fuel = 16; meets = simp (h.left, is1, none) (refl, refl, lit≤ tt) }) (λ o f2 most is2 read2.
          by_test (nat_lt most l) (λ less. record { fuel = 16; meets = simp (h.left, is1, is2, less, goes_to) (refl, lit≤ tt) }) (λ enough.
          by_read m c.args.s3 valid (λ none. record { fuel = 16; meets = simp (h.left, is1, is2, enough, none) (refl, refl, lit≤ tt) }) (λ a f v is read.
          by_way (then_part (subsp_head c.args.k c.args.s1 c.args.s2 c.args.s3 (lead c.args.k c.args.to.no)) (write_to_inside (lead c.args.k c.args.to.yes)) (omega arith)
          (write_to_goes g (at c.args.k u.state) u.failed u.scratch (record u.registers { r8 = pos most; r9 = c.args.s3 ⊞ d }) 6400 c.args.s1 a f v (o) (pos l) 252 read.f_again read.v_again (lit≤ tt) c.args.to.yes (Some l) read1.v_again))
          (λ fuel y. record { fuel = more 14 fuel; meets = simp (h.left, is1, is2, enough, is) y })))));
    }
