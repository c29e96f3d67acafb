-- What is read of each part.
use Rattle.std.proofs.Common.{◌≡◌, List, [], ◌∷◌, ◌++◌, Option, Some, None, refl, sym, ap, append_assoc}
use Rattle.std.specs.Option.{option_map}

-- these come before what is read
abbrev pub after : {A : Type 0} → List A → Option (List A) → Option (List A)
after xs read = option_map (λ ys. xs ++ ys) read

pub after-push : {A : Type 0} (xs : List A) (x : A) (read : Option (List A)) → after xs (option_map (λ ys. x ∷ ys) read) ≡ after (xs ++ x ∷ []) read
after-push xs x None = refl
after-push xs x (Some ys) = ap Some (sym (append_assoc xs (x ∷ []) ys))
