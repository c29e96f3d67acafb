-- Lists.
use Rattle.std.proofs.Common.{◌≡◌, ℕ, List, ap, ◌++◌, length, take, drop, ◌∙◌, arith}
use Rattle.std.proofs.lemmas.List.{append-nil, drop_all, take_all}

-- a list that a call has written whole
pub written_back : {A : Type 0} (new items : List A) (len : ℕ) → length new ≡ length items → len ≡ length items → take len (new ++ drop (length new) items) ≡ new
written_back new items len same count =
    ap (λ l. take len (new ++ l)) (drop_all (length new) items (omega arith)) ∙ ap (take len) (append-nil new) ∙ take_all len new (omega arith)
