use Rattle.std.proofs.Common.{refl, rules}
use Rattle.unit_io.proofs.Places.{calls_outside, calls_empty, calls_there, keeps_others, keeps_all, keeps_read}
use Rattle.unit_io.proofs.slots.read.Goals as goal

pub returns-in_default : goal.returns-in_default
returns-in_default g c = record {
  calls = calls_outside _ _ c.args.slots.now c.args.n _ _ c.in_default.ensures (refl, refl);
  keeps = keeps_all c.args.slots.now c.args.n;
}

pub returns-in-Some-slots : goal.returns-in-Some-slots
returns-in-Some-slots g c = record {
  calls = calls_there _ _ c.args.slots.now c.args.n _ _ c.in-Some.place _ _ c.read.new.self c.in-Some.ensures c.in-Some-slots.is (search rules);
  keeps = keeps_others c.args.slots.now c.args.n c.in-Some.place _ c.in-Some.ensures;
}

pub returns-in-None : goal.returns-in-None
returns-in-None g c = record {
  calls = calls_empty _ _ c.args.slots.now c.args.n _ _ c.in-Some.place _ c.in-Some.ensures c.in-None.is (refl, refl);
  keeps = keeps_read c.args.slots.now c.args.n c.in-Some.place _;
}
