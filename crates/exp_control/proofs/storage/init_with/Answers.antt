use Rattle.std.proofs.Common.{◌≡◌, Some, length, lit≤, refl, subst, sym}
use Rattle.std.proofs.lemmas.Int.{to_z-of_z}
use Rattle.sil_model.specs.Access.{set_a_at}
use Rattle.flow_clauses.specs.FlowClauses.{first_dynamic, init, past_dynamic}
use Rattle.sil_micro.proofs.Making.{by_option}
use Rattle.exp_control.specs.SelectionParts.{storage}
use Rattle.exp_control.proofs.Settings.{first, past}
use Rattle.exp_control.proofs.StorageSymbols.{are_there}
use Rattle.exp_control.proofs.storage.init_with.Goals as goal
use mir.Val.{SFits}
use mir.Syntax.{w64}

pub returns : goal.returns
unfolding init
returns c =
    let f_first : SFits w64 c.args.first = c.ranges.first in
    let f_head : SFits w64 c.args.head = c.ranges.head in
    let f_tail : SFits w64 c.args.tail = c.ranges.tail in
    let stands = simp (to_z-of_z, c.begin_statement.ensures) at c.in_ok-append.ensures.appends in
    record {
      piece = _;
      stands = stands;
      is_piece = record { part = refl; begins = refl; once = refl; names = refl; quiet = refl; light = lit≤ tt };
      does = λ g program parameters u h.
          let m = u.state.memory in
          let there = are_there program.specials (c.args.first, c.args.head, c.args.tail) (subst (λ x. storage x ≡ Some (c.args.first, c.args.head, c.args.tail)) (sym h.setting.symbols) c.requires.some) in
          let begin = first g program parameters _ _ _ u h in
          let end = past g program parameters _ _ _ u h in
          let x = first_dynamic parameters.settings (length program.cells) in
          let y = past_dynamic parameters.settings (length program.cells) in
          by_option (set_a_at m c.args.first x) (λ none. record { fuel = 10; meets = simp (h.left, begin, there.first_is, there.head_is, there.tail_is, none) (refl, refl, lit≤ tt) }) (λ m1 set1.
          by_option (set_a_at m1 c.args.head x) (λ none. record { fuel = 10; meets = simp (h.left, begin, there.first_is, there.head_is, there.tail_is, set1, none) (refl, refl, lit≤ tt) }) (λ m2 set2.
          by_option (set_a_at m2 c.args.tail y) (λ none. record { fuel = 10; meets = simp (h.left, begin, end, there.first_is, there.head_is, there.tail_is, set1, set2, none) (refl, refl, lit≤ tt) }) (λ m3 set3.
          record { fuel = 10; meets = simp (h.left, begin, end, there.first_is, there.head_is, there.tail_is, set1, set2, set3) (refl, lit≤ tt) })));
    }
