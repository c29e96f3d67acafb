-- Cards one after another.
use Rattle.std.proofs.Common.{◌≡◌, ℕ, suc, ◌+◌, ◌-◌, ◌<◌, ◌≤◌, List, [], ◌++◌, sym, ap, ◌∙◌, arith, append_assoc}
use Rattle.std.proofs.lemmas.Grind.{common_steps}
use Rattle.demo_source.specs.DemoSource.{next_of, demo_card, demo_cards, demo_tail, demo_source}

-- the card of the next number goes from those that are left to those so far
pub one-more : (text new all : List ℕ) (n i x y : ℕ) → i < n → y ≡ next_of x → new ≡ text ++ demo_card y → text ++ demo_cards (n - i) x ≡ all → new ++ demo_cards (n - (i + 1)) y ≡ all
one-more text new all n i x y below next made so_far =
    let left : n - i ≡ suc (n - (i + 1)) = omega arith in
    let whole : text ++ (demo_card (next_of x) ++ demo_cards (n - (i + 1)) (next_of x)) ≡ all = rw left at so_far in
    rw (made, next) (append_assoc text (demo_card (next_of x)) (demo_cards (n - (i + 1)) (next_of x)) ∙ whole)

-- none is left, and the tail follows
pub all-made : (text new : List ℕ) (n i x seed : ℕ) → n ≤ i → new ≡ text ++ demo_tail → text ++ demo_cards (n - i) x ≡ demo_cards n seed → new ≡ demo_source n seed
all-made text new n i x seed over made so_far =
    let left : n - i ≡ 0 = omega arith in
    let whole : text ++ [] ≡ demo_cards n seed = rw left at so_far in
    let same : text ++ [] ≡ text = grind (arith, common_steps) in
    made ∙ ap (λ l. l ++ demo_tail) (sym same ∙ whole)
