use Rattle.std.proofs.Common.{length}
use Rattle.sil_micro.proofs.Weights.{room_left}
use Rattle.sil_micro.proofs.laws.has_room.Goals as goal

pub returns : goal.returns
returns c = room_left c.args.code.now.ops c.args.k (length c.args.code.now.entries) c.requires.light c.requires.number c.requires.few
