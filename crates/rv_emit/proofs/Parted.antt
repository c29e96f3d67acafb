-- Parts of a list, each at its place.
use Rattle.std.proofs.Common.{◌≡◌, ℕ, ◌+◌, List, [], ◌++◌, length, drop, refl, sym, ap, ◌∙◌, append_assoc}
use Rattle.std.proofs.lemmas.List.{append-nil, drop-drop, drop_at}

-- a part stands in a list from the k-th item on
pub record IsPart {A : Type 0} (all : List A) (k : ℕ) (part : List A) : Type 0 where
  pub more : List A
  pub is : drop k all ≡ part ++ more

pub whole : {A : Type 0} (xs : List A) → IsPart xs 0 xs
whole xs = record { more = []; is = sym (append-nil xs) }

-- the first of two parts, and the second
pub first_part : {A : Type 0} {all : List A} {k : ℕ} (a b : List A) → IsPart all k (a ++ b) → IsPart all k a
first_part a b p = record { more = b ++ p.more; is = p.is ∙ append_assoc a b p.more }

pub next_part : {A : Type 0} {all : List A} {k : ℕ} (a b : List A) (j : ℕ) → k + length a ≡ j → IsPart all k (a ++ b) → IsPart all j b
next_part {A} {all} {k} a b j e p =
    let behind : drop (length a) (drop k all) ≡ b ++ p.more = ap (λ xs. drop (length a) xs) (p.is ∙ append_assoc a b p.more) ∙ drop_at a (b ++ p.more) (length a) refl in
    record { more = p.more; is = ap (λ n. drop n all) (sym e) ∙ sym (drop-drop (length a) k all) ∙ behind }
