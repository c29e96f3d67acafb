-- Cuts of texts at separators outside quotes.
use Rattle.std.proofs.Common.{◌≡◌, ℕ, ◌+◌, ◌<◌, Bool, true, false, cond, not, ◌&&◌, List, [], ◌∷◌, ◌++◌, length, take, drop, get_or, refl, sym, ap, ◌∙◌, append_assoc}
use Rattle.std.specs.List.{onto_first}
use Rattle.std.proofs.lemmas.List.{take_more, at_drop_more}
use Rattle.syntax_tables.specs.TableTexts.{open_parts, separates, quoted_after}
use Rattle.syntax_tables.specs.declared.cutting.Separator.{Separator}

-- these bytes stand before the first part
abbrev pub before_first_part : List ℕ → List (List ℕ) → List (List ℕ)
before_first_part front [] = front ∷ []
before_first_part front (part ∷ parts) = (front ++ part) ∷ parts

pub before-onto : (front : List ℕ) (c : ℕ) (parts : List (List ℕ)) → before_first_part front (onto_first c parts) ≡ before_first_part (front ++ c ∷ []) parts
before-onto front c [] = refl
before-onto front c (part ∷ parts) = ap (λ x. x ∷ parts) (sym (append_assoc front (c ∷ []) part))

onto-front : (c : ℕ) (parts : List (List ℕ)) → before_first_part [] (onto_first c parts) ≡ onto_first c parts
onto-front c [] = refl
onto-front c (part ∷ parts) = refl

front_or : (b : Bool) (parts rest : List (List ℕ)) (c : ℕ) → before_first_part [] (cond b ([] ∷ parts) (onto_first c rest)) ≡ cond b ([] ∷ parts) (onto_first c rest)
front_or true parts rest c = refl
front_or false parts rest c = onto-front c rest

pub before-nil : (separator : Separator) (quoted : Bool) (text : List ℕ) → before_first_part [] (open_parts separator quoted text) ≡ open_parts separator quoted text
before-nil separator quoted [] = refl
before-nil separator quoted (c ∷ cs) =
    front_or (not quoted && separates separator c) (open_parts separator false cs) (open_parts separator (quoted_after quoted c) cs) c

module _ (separator : Separator) (quoted : Bool) (text : List ℕ) (i : ℕ) (within : i < length text) where
  -- a byte that separates ends the part
  pub parts_cut : (not quoted && separates separator (get_or text i 0)) ≡ true → open_parts separator quoted (drop i text) ≡ [] ∷ open_parts separator false (drop (i + 1) text)
  parts_cut h = at_drop_more (open_parts separator quoted) text i 0 within ∙ rw h refl

  pub parts_on : (not quoted && separates separator (get_or text i 0)) ≡ false → open_parts separator quoted (drop i text) ≡ onto_first (get_or text i 0) (open_parts separator (quoted_after quoted (get_or text i 0)) (drop (i + 1) text))
  parts_on h = at_drop_more (open_parts separator quoted) text i 0 within ∙ rw h refl

  -- any other byte joins the part
  pub parts_grow : (not quoted && separates separator (get_or text i 0)) ≡ false → before_first_part (take i text) (open_parts separator quoted (drop i text)) ≡ before_first_part (take (i + 1) text) (open_parts separator (quoted_after quoted (get_or text i 0)) (drop (i + 1) text))
  parts_grow h =
      ap (before_first_part (take i text)) (parts_on h)
      ∙ before-onto (take i text) (get_or text i 0) (open_parts separator (quoted_after quoted (get_or text i 0)) (drop (i + 1) text))
      ∙ ap (λ front. before_first_part front (open_parts separator (quoted_after quoted (get_or text i 0)) (drop (i + 1) text))) (sym (take_more text i 0 within))
