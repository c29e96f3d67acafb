use Rattle.std.proofs.lemmas.Int.{to_z-of_z}
use Rattle.exp_common.proofs.JoinedParts.{grows_from, grows_then}
use Rattle.string_runtime.specs.StringParts.{decimal_code}
use Rattle.string_runtime.proofs.Decimals.{intspc_code, intspc_does, intspc_piece}
use Rattle.string_runtime.proofs.integers.intspc.Goals as goal
use mir.Val.{SFits}
use mir.Syntax.{w64}

pub returns : goal.returns
unfolding decimal_code
returns c =
    let f_s : SFits w64 c.args.s = c.ranges.s in
    let f_d : SFits w64 c.args.d = c.ranges.d in
    let appends = simp to_z-of_z at c.in_ok-append.ensures.appends in
    let text = simp to_z-of_z at c.in_ok-append_text.ensures.grown in
    record {
      piece = intspc_code c.args.k c.args.s c.args.d c.args.specials.now;
      stands = grows_from _ _ _ _ c.begin_statement.ensures (grows_then _ _ _ _ _ appends text);
      is_piece = intspc_piece c.args.k c.args.s c.args.d c.args.specials.now _ _;
      does = intspc_does c.args.k c.args.s c.args.d c.args.specials.now;
    }
