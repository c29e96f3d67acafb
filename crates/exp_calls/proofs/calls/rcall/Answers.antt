use Rattle.std.proofs.Common.{length, refl, arith}
use Rattle.exp_calls.specs.CallParts.{call_code}
use Rattle.exp_calls.proofs.Calling.{rcall_answers, rcall_code, rcall_does, rcall_piece}
use Rattle.exp_calls.proofs.Grouping.{call_stands}
use Rattle.exp_calls.proofs.calls.rcall.Goals as goal

pub returns : goal.returns
returns c = λ args is.
    let k = c.args.k in
    let over = c.args.specials.now.over in
    let to = c.args.procedure in
    let places = c.args.places.now in
    let d = c.args.descriptor in
    let locations = c.args.locations.now in
    record {
      piece = rcall_code k over to places d locations;
      part = length (call_code k over to places);
      stands = call_stands k _ _ _ _ _ _ _ c.begin_statement.ensures c.in_ok-append_call.ensures.grown c.begin_return.ensures c.in_ok-append_return.ensures.grown;
      is_piece = rcall_piece k over to places d locations _ _ c.requires.statement c.requires.within c.requires.among.over c.requires.located c.requires.few c.requires.few_locations;
      does = rcall_does k over to places d locations c.args.specials.now args is refl (omega (arith, c.requires.statement, c.requires.few_statements)) c.requires.few;
      answers = rcall_answers k over to places d locations args is c.requires.few_locations;
    }
