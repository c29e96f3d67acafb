use Rattle.std.proofs.Common.{rules, ◌≡◌, ◌++◌}
use Rattle.demo_source.specs.DemoSource.{demo_card}
use Rattle.demo_source.proofs.SoFar.{one-more, all-made}
use Rattle.demo_source.proofs.source.demo_source.Goals as goal

pub loop-preserved : goal.loop-preserved
loop-preserved c =
    let made : c.extend_from_slice.new.self.items ≡ c.loop.text.items ++ demo_card c.next_of-x.result = search rules in
    one-more _ _ _ _ _ _ _ c.loop-test.true c.next_of-x.ensures made c.loop.invariant

pub returns : goal.returns
returns c =
    all-made _ _ _ _ _ _ c.loop-test.false c.in_ok-extend_from_slice-2.ensures.items c.loop.invariant
