-- What is read of each part.
use Rattle.std.proofs.Common.{◌≡◌, ℕ, suc, Bool, true, false, cond, ◌&&◌, List, [], ◌∷◌, ◌++◌, length, Option, Some, None, subst, inl, inr, ◌⊎◌, refl, sym, ap, ◌∙◌, append_assoc, arith}
use Rattle.std.specs.Prelude.{option_and_then}
use Rattle.std.specs.Option.{option_map}
use Rattle.std.specs.List.{AllZip, list_all, join_with_byte}
use Rattle.sil_operands.specs.OperandGrammar.{SpellsSeparated}
use Rattle.sil_operands.specs.OperandReading.{each}

-- these come before what is read
abbrev pub after : {A : Type 0} → List A → Option (List A) → Option (List A)
after xs read = option_map (λ ys. xs ++ ys) read

pub after-push : {A : Type 0} (xs : List A) (x : A) (read : Option (List A)) → after xs (option_map (λ ys. x ∷ ys) read) ≡ after (xs ++ x ∷ []) read
after-push xs x None = refl
after-push xs x (Some ys) = ap Some (sym (append_assoc xs (x ∷ []) ys))

-- ---- options and tests

pub both : (a b : Bool) → (a && b) ≡ true → (a ≡ true) × (b ≡ true)
both a b h = grind arith

pub chosen : {A : Type 0} (b : Bool) (x y z : A) → cond b x y ≡ z → ((b ≡ true) × (x ≡ z)) ⊎ ((b ≡ false) × (y ≡ z))
chosen true x y z h = inl (refl, h)
chosen false x y z h = inr (refl, h)

pub mapped : {A B : Type 0} (f : A → B) (r : Option A) (y : B) → option_map f r ≡ Some y → (x : A) × (r ≡ Some x) × (f x ≡ y)
mapped f None y h = cc
mapped f (Some x) y h = (x, refl, cc)

pub then : {A B : Type 0} (f : A → Option B) (r : Option A) (y : B) → option_and_then f r ≡ Some y → (x : A) × (r ≡ Some x) × (f x ≡ Some y)
then f None y h = cc
then f (Some x) y h = (x, refl, h)

-- ---- each part

-- the first part, and those after it
pub record IsStep {A B : Type 0} (read : A → Option B) (part : A) (parts : List A) (xs : List B) : Type 0 where
  pub first : B
  pub rest : List B
  pub reads : read part ≡ Some first
  pub others : each read parts ≡ Some rest
  pub all : first ∷ rest ≡ xs

pub step : {A B : Type 0} (read : A → Option B) (part : A) (parts : List A) (xs : List B) → each read (part ∷ parts) ≡ Some xs → IsStep read part parts xs
step read part parts xs h =
    let a = then (λ x. option_map (λ ys. x ∷ ys) (each read parts)) (read part) xs h in
    let b = mapped (λ ys. a.0 ∷ ys) (each read parts) xs a.2 in
    record { first = a.0; rest = b.0; reads = a.1; others = b.1; all = b.2 }

pub each_some : {A B : Type 0} (read : A → Option B) (R : A → B → Type 0) → ((part : A) (x : B) → read part ≡ Some x → R part x) → (parts : List A) (xs : List B) → each read parts ≡ Some xs → AllZip R parts xs
each_some read R sound [] [] h = tt
each_some read R sound [] (x ∷ xs) h = cc
each_some read R sound (part ∷ parts) xs h =
    let s = step read part parts xs h in
    subst (AllZip R (part ∷ parts)) s.all (sound part s.first s.reads, each_some read R sound parts s.rest s.others)

pub each_keeps : {A B : Type 0} (read : A → Option B) (test : B → Bool) → ((part : A) (x : B) → read part ≡ Some x → test x ≡ true) → (parts : List A) (xs : List B) → each read parts ≡ Some xs → list_all test xs ≡ true
each_keeps read test sound [] [] h = refl
each_keeps read test sound [] (x ∷ xs) h = cc
each_keeps {A} {B} read test sound (part ∷ parts) xs h =
    let s = step read part parts xs h in
    subst (λ (ys : List B). list_all test ys ≡ true) s.all (rw (sound part s.first s.reads, each_keeps read test sound parts s.rest s.others) refl)

pub length-each : {A B : Type 0} (read : A → Option B) (parts : List A) (xs : List B) → each read parts ≡ Some xs → length parts ≡ length xs
length-each read [] [] h = refl
length-each read [] (x ∷ xs) h = cc
length-each read (part ∷ parts) xs h =
    let s = step read part parts xs h in
    ap suc (length-each read parts s.rest s.others) ∙ ap length s.all

-- parts that are joined by a byte
pub separated : {A : Type 0} (R : List ℕ → A → Type 0) (byte : ℕ) (part : List ℕ) (parts : List (List ℕ)) (xs : List A) → AllZip R (part ∷ parts) xs → SpellsSeparated R byte (join_with_byte byte (part ∷ parts)) xs
separated R byte part [] [] h = absurd h
separated R byte part [] (x ∷ []) h = h.0
separated R byte part [] (x ∷ y ∷ xs) h = absurd h.1
separated R byte part (next ∷ parts) [] h = absurd h
separated R byte part (next ∷ parts) (x ∷ []) h = absurd h.1
separated R byte part (next ∷ parts) (x ∷ y ∷ xs) h = (part, join_with_byte byte (next ∷ parts), refl, h.0, separated R byte next parts (y ∷ xs) h.1)

-- what is spelled is read of the parts, where a cut takes off what a thing is spelled by
module _ {A : Type 0} (R : List ℕ → A → Type 0) (test : A → Bool) (read : List ℕ → Option A) (byte : ℕ) (split : List ℕ → List (List ℕ)) where
  pub read_separated :
      ((part : List ℕ) (x : A) → R part x → test x ≡ true → read part ≡ Some x)
      → ((part : List ℕ) (x : A) (rest : List ℕ) → R part x → split (part ++ byte ∷ rest) ≡ part ∷ split rest)
      → ((part : List ℕ) (x : A) → R part x → split part ≡ part ∷ [])
      → (bytes : List ℕ) (xs : List A) → SpellsSeparated R byte bytes xs → list_all test xs ≡ true → each read (split bytes) ≡ Some xs
  read_separated complete cut last bytes [] h keeps = absurd h
  read_separated complete cut last bytes (x ∷ []) h keeps =
      rw (last bytes x h, complete bytes x h (both (test x) true keeps).0) refl
  read_separated complete cut last bytes (x ∷ y ∷ xs) h keeps =
      let tests = both (test x) (list_all test (y ∷ xs)) keeps in
      let others = read_separated complete cut last h.1 (y ∷ xs) h.4 tests.1 in
      ap (λ b. each read (split b)) h.2
      ∙ ap (each read) (cut h.0 x h.1 h.3)
      ∙ ap (option_and_then (λ z. option_map (λ zs. z ∷ zs) (each read (split h.1)))) (complete h.0 x h.3 tests.0)
      ∙ ap (option_map (λ zs. x ∷ zs)) others
