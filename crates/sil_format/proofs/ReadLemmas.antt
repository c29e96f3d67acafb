-- What is read on.
use Rattle.std.proofs.Common.{◌≡◌, ℕ, zero, suc, ◌-◌, ◌<◌, Bool, List, [], ◌∷◌, ◌++◌, Option, Some, None, refl, sym, ap, ◌∙◌, append_assoc, arith}
use Rattle.std.specs.Prelude.{option_and_then}
use Rattle.std.specs.Option.{option_map}
use Rattle.sil_format.specs.FormatGrammar.{is_slash}
use Rattle.sil_format.specs.FormatReading.{skip_blanks, item_at, next_at, read_on, items_in}
use Rattle.sil_format.specs.declared.format.Item.{Item}

-- these come before what is read
abbrev pub after : {A : Type 0} → List A → Option (List A) → Option (List A)
after xs read = option_map (λ ys. xs ++ ys) read

pub after-push : {A : Type 0} (xs : List A) (x : A) (read : Option (List A)) → after xs (option_map (λ ys. x ∷ ys) read) ≡ after (xs ++ x ∷ []) read
after-push xs x None = refl
after-push xs x (Some ys) = ap Some (sym (append_assoc xs (x ∷ []) ys))

-- what is read on behind an item
abbrev pub items_behind : (List ℕ → Option (List Item)) → Item × List ℕ → Option (List Item)
items_behind read p = option_and_then (λ next. option_map (λ items. p.0 ∷ items) (read_on read next)) (next_at (is_slash p.0) (skip_blanks p.1))

-- an item, and where the next one is read
pub next_item : (most : ℕ) (bytes more front : List ℕ) (item : Item) (slash : Bool) (next : Option (Option (List ℕ))) → 0 < most → item_at bytes ≡ Some (item, more) → front ≡ skip_blanks more → slash ≡ is_slash item → next_at slash front ≡ next → items_in most bytes ≡ option_and_then (λ n. option_map (λ items. item ∷ items) (read_on (items_in (most - 1)) n)) next
next_item zero bytes more front item slash next some read skipped e h = absurd (omega arith)
next_item (suc most) bytes more front item slash next some read skipped e h =
    let there : next_at (is_slash item) (skip_blanks more) ≡ next = ap (λ b. next_at b (skip_blanks more)) (sym e) ∙ ap (next_at slash) (sym skipped) ∙ h in
    ap (option_and_then (items_behind (items_in most))) read
    ∙ ap (option_and_then (λ n. option_map (λ items. item ∷ items) (read_on (items_in most) n))) there
    ∙ ap (λ k. option_and_then (λ n. option_map (λ items. item ∷ items) (read_on (items_in k) n)) next) (omega arith)
