use Rattle.std.proofs.Common.{◌≡◌, ◌-◌, ◌++◌}
use Rattle.demo_source.specs.DemoSource.{demo_cards}
use Rattle.demo_source.proofs.source.demo_source.Given as goal

-- the cards so far and those that are left are all cards
abbrev pub invariant-loop : goal.invariant-loop
invariant-loop l = l.text.items ++ demo_cards (l.cards - l.counter) l.x ≡ demo_cards l.cards l.fn.seed
