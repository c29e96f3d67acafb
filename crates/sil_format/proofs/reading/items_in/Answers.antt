use Rattle.std.proofs.Common.{ℕ, ◌-◌, ◌<◌, ◌≤◌, List, length, Option, Some, None, Bor, subst, ap, sym, ◌∙◌, arith}
use Rattle.std.specs.Prelude.{IfSome}
use Rattle.std.specs.Option.{option_map}
use Rattle.std.proofs.lemmas.Result.{err_from_is_err_and}
use Rattle.sil_format.specs.FormatReading.{items_in, read_on}
use Rattle.sil_format.proofs.ReadLemmas.{after, after-push, next_item}
use Rattle.sil_format.proofs.reading.items_in.Goals as goal

shorter_next : (next : Option (Bor (List ℕ))) (a b : ℕ) → a < b → IfSome next (λ rest. length rest.now ≤ a) → IfSome next (λ rest. length rest.now < b)
shorter_next None a b less h = tt
shorter_next (Some rest) a b less h = omega arith

pub returns-in_err-next : goal.returns-in_err-next
returns-in_err-next c =
    let p = err_from_is_err_and c.from_residual-in_err-next.result c.from_residual-in_err-next.ensures.1 in
    let most = c.loop-next.invariant.0 in
    let below : length c.in-Some.rest.now < most = subst (λ (n : Option (Bor (List ℕ))). IfSome n (λ rest. length rest.now < most)) c.in-Some.is c.loop-next.invariant.1 in
    let whole = c.loop-next.invariant.2 ∙ ap (λ (n : Option (Bor (List ℕ))). after c.loop-next.items.items (read_on (items_in most) (option_map (λ rest. rest.now) n))) c.in-Some.is in
    let none = next_item most c.in-Some.rest.now c.in_ok-item.rest.now c.skip_blanks.result.now c.in_ok-item.item c.is_slash.result None (omega arith) c.in_ok-item.ensures.read c.skip_blanks.ensures.rest c.is_slash.ensures c.in_err-next.ensures.read.1 in
    rw (p.1, p.2) (λ bad. whole ∙ ap (after c.loop-next.items.items) none)

pub loop-next-preserved : goal.loop-next-preserved
loop-next-preserved c =
    let most = c.loop-next.invariant.0 in
    let below : length c.in-Some.rest.now < most = subst (λ (n : Option (Bor (List ℕ))). IfSome n (λ rest. length rest.now < most)) c.in-Some.is c.loop-next.invariant.1 in
    let whole = c.loop-next.invariant.2 ∙ ap (λ (n : Option (Bor (List ℕ))). after c.loop-next.items.items (read_on (items_in most) (option_map (λ rest. rest.now) n))) c.in-Some.is in
    let one = next_item most c.in-Some.rest.now c.in_ok-item.rest.now c.skip_blanks.result.now c.in_ok-item.item c.is_slash.result (Some (option_map (λ rest. rest.now) c.in_ok-next.next)) (omega arith) c.in_ok-item.ensures.read c.skip_blanks.ensures.rest c.is_slash.ensures c.in_ok-next.ensures.read in (
      most - 1,
      shorter_next c.in_ok-next.next (length c.skip_blanks.result.now) (most - 1) (omega (arith, c.skip_blanks.ensures.shorter, c.in_ok-item.ensures.shorter)) c.in_ok-next.ensures.shorter,
      whole
          ∙ ap (after c.loop-next.items.items) one
          ∙ after-push c.loop-next.items.items c.in_ok-item.item (read_on (items_in (most - 1)) (option_map (λ rest. rest.now) c.in_ok-next.next))
          ∙ ap (λ items. after items (read_on (items_in (most - 1)) (option_map (λ rest. rest.now) c.in_ok-next.next))) (sym c.in_ok-push.ensures.items),
    )
