-- What is read is spelled, and within the limits.
use Rattle.std.proofs.Common.{◌≡◌, ℕ, Bool, true, false, cond, ◌&&◌, List, [], ◌∷◌, ◌++◌, length, Option, Some, None, inl, inr, subst, refl, sym, ap, ◌∙◌, arith}
use Rattle.std.proofs.Math.Logic.{⊎_elim}
use Rattle.std.specs.Prelude.{◌==◌}
use Rattle.std.specs.Option.{option_map}
use Rattle.std.specs.List.{AllZip, list_all, onto_first, join_with_byte}
use Rattle.std.proofs.lemmas.Bool.Decides.{nat_tests}
use Rattle.std.proofs.lemmas.Option.{same_Some, none-some, cond_some}
use Rattle.std.proofs.lemmas.List.Splits.{join_with_byte-slice_split}
use Rattle.sil_base.specs.Names.{is_name, is_number, value_of}
use Rattle.sil_operands.specs.OperandGrammar.{SpellsSeparated, SpellsFactor, SpellsTerm, sign_of, SpellsMoreTerms, SpellsFirstSign, SpellsExpr, SpellsItem, quoted, SpellsOperand, field_text, SpellsOperands}
use Rattle.sil_operands.specs.Limits.{Limits, factor_keeps, term_keeps, item_keeps, operand_keeps}
use Rattle.sil_operands.specs.OperandReading.{parts_at, each, factor_in, term_in, is_sign, signed_parts, terms_of, expr_in, item_in, items_in, before_bracket, list_in, text_in, operand_in, operand_parts, separates, place_after, operands_in}
use Rattle.sil_operands.specs.declared.cutting.Place.{Place}
use Rattle.sil_operands.specs.declared.cutting.Place.TheVariants.{Outside, Within, Quoted}
use Rattle.sil_operands.specs.declared.expr.Factor.{Factor}
use Rattle.sil_operands.specs.declared.expr.Factor.TheVariants.{Name, Number}
use Rattle.sil_operands.specs.declared.expr.Term.{Term}
use Rattle.sil_operands.specs.declared.operand.Operand.{Operand}
use Rattle.sil_operands.specs.declared.operand.Operand.TheVariants.{Null, Expr, List as Listed, Text}
use Rattle.sil_operands.proofs.Each.{both, chosen, mapped, then, each_some, each_keeps, length-each, separated}

-- ---- parts between bytes of one value

onto_some : (c : ℕ) (parts : List (List ℕ)) → (part : List ℕ) × (rest : List (List ℕ)) × (onto_first c parts ≡ part ∷ rest)
onto_some c [] = (c ∷ [], [], refl)
onto_some c (part ∷ parts) = (c ∷ part, parts, refl)

cond_some_part : (b : Bool) (xs : List (List ℕ)) (c : ℕ) (parts : List (List ℕ)) → (part : List ℕ) × (rest : List (List ℕ)) × (cond b ([] ∷ xs) (onto_first c parts) ≡ part ∷ rest)
cond_some_part true xs c parts = ([], xs, refl)
cond_some_part false xs c parts = onto_some c parts

parts_some : (byte : ℕ) (bytes : List ℕ) → (part : List ℕ) × (rest : List (List ℕ)) × (parts_at byte bytes ≡ part ∷ rest)
parts_some byte [] = ([], [], refl)
parts_some byte (c ∷ cs) = cond_some_part (c == byte) (parts_at byte cs) c (parts_at byte cs)

-- parts of which there is one at least, and which the byte joins to these bytes
some_separated : {A : Type 0} (R : List ℕ → A → Type 0) (byte : ℕ) (bytes part : List ℕ) (rest parts : List (List ℕ)) (xs : List A) → parts ≡ part ∷ rest → join_with_byte byte parts ≡ bytes → AllZip R parts xs → SpellsSeparated R byte bytes xs
some_separated {A} R byte bytes part rest parts xs e joined h =
    subst (λ (bs : List ℕ). SpellsSeparated R byte bs xs) (sym (ap (join_with_byte byte) e) ∙ joined) (separated R byte part rest xs (subst (λ (ps : List (List ℕ)). AllZip R ps xs) e h))

parts_separated : {A : Type 0} (R : List ℕ → A → Type 0) (byte : ℕ) (bytes : List ℕ) (xs : List A) → AllZip R (parts_at byte bytes) xs → SpellsSeparated R byte bytes xs
parts_separated R byte bytes xs h =
    let s = parts_some byte bytes in
    some_separated R byte bytes s.0 s.1 (parts_at byte bytes) xs s.2 (join_with_byte-slice_split byte bytes) h

-- ---- tests

is_equal : (a b : ℕ) → (a == b) ≡ true → a ≡ b
is_equal a b h = grind (arith, nat_tests)

cond_is_some : {A : Type 0} (b : Bool) (r : Option A) (x : A) → cond b r None ≡ Some x → (b ≡ true) × (r ≡ Some x)
cond_is_some true r x h = (refl, h)
cond_is_some false r x h = absurd (none-some x h)

-- ---- factors and terms

-- a part spells a term with its sign
abbrev SpellsPart : Bool × List ℕ → Term → Type 0
SpellsPart part term = (term.minus ≡ part.0) × SpellsTerm part.1 term

module _ (limits : Limits) where
  number_sound : (bytes : List ℕ) (factor : Factor) → cond (is_number bytes && limits.number (value_of bytes)) (Some (Number (value_of bytes))) None ≡ Some factor → SpellsFactor bytes factor × (factor_keeps limits factor ≡ true)
  number_sound bytes factor h =
      ⊎_elim
      (λ a.
      let tests = both (is_number bytes) (limits.number (value_of bytes)) a.0 in
      subst (λ (f : Factor). SpellsFactor bytes f × (factor_keeps limits f ≡ true)) (same_Some (Number (value_of bytes)) factor a.1) ((tests.0, refl), tests.1))
      (λ a. absurd (none-some factor a.1))
      (chosen (is_number bytes && limits.number (value_of bytes)) (Some (Number (value_of bytes))) None (Some factor) h)

  pub factor_sound : (bytes : List ℕ) (factor : Factor) → factor_in limits bytes ≡ Some factor → SpellsFactor bytes factor × (factor_keeps limits factor ≡ true)
  factor_sound bytes factor h =
      ⊎_elim
      (λ a. subst (λ (f : Factor). SpellsFactor bytes f × (factor_keeps limits f ≡ true)) (same_Some (Name bytes) factor a.1) ((refl, a.0), refl))
      (λ a. number_sound bytes factor a.1)
      (chosen (is_name bytes) (Some (Name bytes)) (cond (is_number bytes && limits.number (value_of bytes)) (Some (Number (value_of bytes))) None) (Some factor) h)

  term_of : Bool → List Factor → Term
  term_of minus factors = record { minus = minus; factors = factors }

  term_sound : (part : Bool × List ℕ) (term : Term) → term_in limits part ≡ Some term → SpellsPart part term × (term_keeps limits term ≡ true)
  unfolding term_of
  term_sound part term h =
      let m = mapped (term_of part.0) (each (factor_in limits) (parts_at 42 part.1)) term h in
      let spelled = parts_separated SpellsFactor 42 part.1 m.0 (each_some (factor_in limits) SpellsFactor (λ bytes x e. (factor_sound bytes x e).0) (parts_at 42 part.1) m.0 m.1) in
      let keeps = each_keeps (factor_in limits) (factor_keeps limits) (λ bytes x e. (factor_sound bytes x e).1) (parts_at 42 part.1) m.0 m.1 in
      subst (λ (t : Term). SpellsPart part t × (term_keeps limits t ≡ true)) m.2 ((refl, spelled), keeps)

-- ---- expressions

-- parts with their signs before them
abbrev signed_join : List (Bool × List ℕ) → List ℕ
signed_join [] = []
signed_join (part ∷ parts) = sign_of part.0 ∷ (part.1 ++ signed_join parts)

-- the first part, and those after it
record IsSigned (minus : Bool) (bytes : List ℕ) : Type 0 where
  text : List ℕ
  more : List (Bool × List ℕ)
  parts : signed_parts minus bytes ≡ (minus, text) ∷ more
  joined : bytes ≡ text ++ signed_join more

sign_back : (c : ℕ) → is_sign c ≡ true → sign_of (c == 45) ≡ c
sign_back c h = grind (arith, nat_tests)

signed_step : (minus : Bool) (c : ℕ) (cs : List ℕ) (b : Bool) → is_sign c ≡ b → IsSigned (c == 45) cs → IsSigned minus cs → IsSigned minus (c ∷ cs)
signed_step minus c cs true e next same = record {
  text = [];
  more = signed_parts (c == 45) cs;
  parts = rw e refl;
  joined = sym (ap signed_join next.parts ∙ ap (λ b. b ∷ (next.text ++ signed_join next.more)) (sign_back c e) ∙ ap (λ bs. c ∷ bs) (sym next.joined));
}
signed_step minus c cs false e next same = record {
  text = c ∷ same.text;
  more = same.more;
  parts = rw (e, same.parts) refl;
  joined = ap (λ bs. c ∷ bs) same.joined;
}

signed : (minus : Bool) (bytes : List ℕ) → IsSigned minus bytes
signed minus [] = record { text = []; more = []; parts = refl; joined = refl }
signed minus (c ∷ cs) = signed_step minus c cs (is_sign c) refl (signed (c == 45) cs) (signed minus cs)

more_sound : (parts : List (Bool × List ℕ)) (terms : List Term) → AllZip SpellsPart parts terms → SpellsMoreTerms (signed_join parts) terms
more_sound [] [] h = refl
more_sound [] (term ∷ terms) h = absurd h
more_sound (part ∷ parts) [] h = absurd h
more_sound (part ∷ parts) (term ∷ terms) h =
    (part.1, signed_join parts, ap (λ minus. sign_of minus ∷ (part.1 ++ signed_join parts)) (sym h.0.0), h.0.1, more_sound parts terms h.1)

expr_from : (sign : List ℕ) (minus : Bool) (rest : List ℕ) (terms : List Term) → SpellsFirstSign sign minus → AllZip SpellsPart (signed_parts minus rest) terms → SpellsExpr (sign ++ rest) terms
expr_from sign minus rest terms first h =
    let s = signed minus rest in
    expr_parts sign minus rest terms s.text s.more first s.joined (subst (λ (parts : List (Bool × List ℕ)). AllZip SpellsPart parts terms) s.parts h)
  where
    expr_parts : (sign : List ℕ) (minus : Bool) (rest : List ℕ) (terms : List Term) (text : List ℕ) (more : List (Bool × List ℕ)) → SpellsFirstSign sign minus → rest ≡ text ++ signed_join more → AllZip SpellsPart ((minus, text) ∷ more) terms → SpellsExpr (sign ++ rest) terms
    expr_parts sign minus rest [] text more first joined h = absurd h
    expr_parts sign minus rest (term ∷ terms) text more first joined h =
        (sign, text, signed_join more, ap (λ bs. sign ++ bs) joined, subst (SpellsFirstSign sign) (sym h.0.0) first, h.0.1, more_sound more terms h.1)

terms_from : (bytes : List ℕ) (terms : List Term) → AllZip SpellsPart (terms_of bytes) terms → SpellsExpr bytes terms
terms_from [] terms h = expr_from [] false [] terms (inr (refl, refl)) h
terms_from (c ∷ cs) terms h = by_sign (is_sign c) refl
  where
    by_sign : (b : Bool) → is_sign c ≡ b → SpellsExpr (c ∷ cs) terms
    by_sign true e = expr_from (c ∷ []) (c == 45) cs terms (inl (ap (λ b. b ∷ []) (sym (sign_back c e)))) (subst (λ (b : Bool). AllZip SpellsPart (cond b (signed_parts (c == 45) cs) (signed_parts false (c ∷ cs))) terms) e h)
    by_sign false e = expr_from [] false (c ∷ cs) terms (inr (refl, refl)) (subst (λ (b : Bool). AllZip SpellsPart (cond b (signed_parts (c == 45) cs) (signed_parts false (c ∷ cs))) terms) e h)

module _ (limits : Limits) where
  pub expr_sound : (bytes : List ℕ) (terms : List Term) → expr_in limits bytes ≡ Some terms → SpellsExpr bytes terms × (list_all (term_keeps limits) terms ≡ true)
  expr_sound bytes terms h =
      (terms_from bytes terms (each_some (term_in limits) SpellsPart (λ part term e. (term_sound limits part term e).0) (terms_of bytes) terms h), each_keeps (term_in limits) (term_keeps limits) (λ part term e. (term_sound limits part term e).1) (terms_of bytes) terms h)

  -- ---- lists

  item_sound : (bytes : List ℕ) (item : Option (List Term)) → item_in limits bytes ≡ Some item → SpellsItem bytes item × (item_keeps limits item ≡ true)
  item_sound [] item h = subst (λ (i : Option (List Term)). SpellsItem [] i × (item_keeps limits i ≡ true)) (same_Some None item h) (refl, refl)
  item_sound (c ∷ cs) item h =
      let m = mapped Some (expr_in limits (c ∷ cs)) item h in
      subst (λ (i : Option (List Term)). SpellsItem (c ∷ cs) i × (item_keeps limits i ≡ true)) m.2 (expr_sound (c ∷ cs) m.0 m.1)

  items_sound : (inner : List ℕ) (items : List (Option (List Term))) → items_in limits inner ≡ Some items → SpellsSeparated SpellsItem 44 inner items × ((limits.items (length items) && list_all (item_keeps limits) items) ≡ true)
  items_sound inner items h =
      let a = cond_is_some (limits.items (length (parts_at 44 inner))) (each (item_in limits) (parts_at 44 inner)) items h in
      let same = length-each (item_in limits) (parts_at 44 inner) items a.1 in
      let few : limits.items (length items) ≡ true = subst (λ (n : ℕ). limits.items n ≡ true) same a.0 in
      (parts_separated SpellsItem 44 inner items (each_some (item_in limits) SpellsItem (λ bytes x e. (item_sound bytes x e).0) (parts_at 44 inner) items a.1), rw (few, each_keeps (item_in limits) (item_keeps limits) (λ bytes x e. (item_sound bytes x e).1) (parts_at 44 inner) items a.1) refl)

bracket_sound : (bytes inner : List ℕ) → before_bracket bytes ≡ Some inner → bytes ≡ inner ++ 41 ∷ []
bracket_sound [] inner h = absurd (none-some inner h)
bracket_sound (c ∷ []) inner h =
    let a = cond_some (c == 41) [] inner h in
    let same : c ≡ 41 = grind (arith, nat_tests) in
    ap (λ b. b ∷ []) same ∙ ap (λ i. i ++ 41 ∷ []) a.1
bracket_sound (c ∷ d ∷ cs) inner h =
    let m = mapped (λ rest. c ∷ rest) (before_bracket (d ∷ cs)) inner h in
    ap (λ bs. c ∷ bs) (bracket_sound (d ∷ cs) m.0 m.1) ∙ ap (λ i. i ++ 41 ∷ []) m.2

-- ---- texts

quoted_other : (c : ℕ) (cs : List ℕ) → (c == 39) ≡ false → quoted (c ∷ cs) ≡ c ∷ quoted cs
quoted_other c cs h = rw h refl

text_sound : (after_quote : Bool) (bytes text : List ℕ) → text_in after_quote bytes ≡ Some text → cond after_quote (39 ∷ bytes) bytes ≡ quoted text ++ 39 ∷ []
text_sound false [] text h = absurd (none-some text h)
text_sound true [] text h = ap (λ t. quoted t ++ 39 ∷ []) (same_Some [] text h)
text_sound false (c ∷ cs) text h =
    ⊎_elim
    (λ a.
    let same : c ≡ 39 = is_equal c 39 a.0 in
    ap (λ b. b ∷ cs) same ∙ text_sound true cs text a.1)
    (λ a.
    let m = mapped (λ t. c ∷ t) (text_in false cs) text a.1 in
    ap (λ bs. c ∷ bs) (text_sound false cs m.0 m.1) ∙ ap (λ q. q ++ 39 ∷ []) (sym (quoted_other c m.0 a.0)) ∙ ap (λ t. quoted t ++ 39 ∷ []) m.2)
    (chosen (c == 39) (text_in true cs) (option_map (λ t. c ∷ t) (text_in false cs)) (Some text) h)
text_sound true (c ∷ cs) text h =
    let a = cond_is_some (c == 39) (option_map (λ t. c ∷ t) (text_in false cs)) text h in
    let same : c ≡ 39 = is_equal c 39 a.0 in
    let m = mapped (λ t. c ∷ t) (text_in false cs) text a.1 in
    ap (λ b. 39 ∷ b ∷ cs) same ∙ ap (λ bs. 39 ∷ 39 ∷ bs) (text_sound false cs m.0 m.1) ∙ ap (λ b. quoted (b ∷ m.0) ++ 39 ∷ []) (sym same) ∙ ap (λ t. quoted t ++ 39 ∷ []) m.2

-- ---- operands

module _ (limits : Limits) where
  abbrev Held : List ℕ → Operand → Type 0
  Held bytes operand = SpellsOperand bytes operand × (operand_keeps limits operand ≡ true)

  list_sound : (c : ℕ) (cs : List ℕ) (operand : Operand) → c ≡ 40 → option_map Listed (list_in limits cs) ≡ Some operand → Held (c ∷ cs) operand
  list_sound c cs operand e h =
      let m = mapped Listed (list_in limits cs) operand h in
      let inner = then (items_in limits) (before_bracket cs) m.0 m.1 in
      let items = items_sound limits inner.0 m.0 inner.2 in
      let whole = ap (λ b. b ∷ cs) e ∙ ap (λ bs. 40 ∷ bs) (bracket_sound cs inner.0 inner.1) in
      subst (Held (c ∷ cs)) m.2 ((inner.0, whole, items.0), items.1)

  quote_sound : (c : ℕ) (cs : List ℕ) (operand : Operand) → c ≡ 39 → option_map Text (text_in false cs) ≡ Some operand → Held (c ∷ cs) operand
  quote_sound c cs operand e h =
      let m = mapped Text (text_in false cs) operand h in
      subst (Held (c ∷ cs)) m.2 (ap (λ b. b ∷ cs) e ∙ ap (λ bs. 39 ∷ bs) (text_sound false cs m.0 m.1), refl)

  pub operand_sound : (bytes : List ℕ) (operand : Operand) → operand_in limits bytes ≡ Some operand → Held bytes operand
  operand_sound [] operand h = subst (Held []) (same_Some Null operand h) (refl, refl)
  operand_sound (c ∷ cs) operand h =
      ⊎_elim
      (λ a. quote_sound c cs operand (is_equal c 39 a.0) a.1)
      (λ a.
      ⊎_elim
      (λ b. list_sound c cs operand (is_equal c 40 b.0) b.1)
      (λ b.
      let m = mapped Expr (expr_in limits (c ∷ cs)) operand b.1 in
      subst (Held (c ∷ cs)) m.2 (expr_sound limits (c ∷ cs) m.0 m.1))
      (chosen (c == 40) (option_map Listed (list_in limits cs)) (option_map Expr (expr_in limits (c ∷ cs))) (Some operand) a.1))
      (chosen (c == 39) (option_map Text (text_in false cs)) (cond (c == 40) (option_map Listed (list_in limits cs)) (option_map Expr (expr_in limits (c ∷ cs)))) (Some operand) h)

-- ---- fields

operands_some : (place : Place) (bytes : List ℕ) → (part : List ℕ) × (rest : List (List ℕ)) × (operand_parts place bytes ≡ part ∷ rest)
operands_some place [] = ([], [], refl)
operands_some place (c ∷ cs) = cond_some_part (separates place c) (operand_parts Outside cs) c (operand_parts (place_after place c) cs)

join-onto : (byte c : ℕ) (parts : List (List ℕ)) → join_with_byte byte (onto_first c parts) ≡ c ∷ join_with_byte byte parts
join-onto byte c [] = refl
join-onto byte c (part ∷ []) = refl
join-onto byte c (part ∷ next ∷ parts) = refl

separates_comma : (place : Place) (c : ℕ) → separates place c ≡ true → c ≡ 44
separates_comma Outside c h = is_equal c 44 h
separates_comma Within c h = cc
separates_comma Quoted c h = cc

join_step : (place : Place) (c : ℕ) (cs : List ℕ) (b : Bool) → separates place c ≡ b → join_with_byte 44 (operand_parts Outside cs) ≡ cs → join_with_byte 44 (operand_parts (place_after place c) cs) ≡ cs → join_with_byte 44 (operand_parts place (c ∷ cs)) ≡ c ∷ cs
join_step place c cs true e next same =
    let s = operands_some Outside cs in
    ap (λ b. join_with_byte 44 (cond b ([] ∷ operand_parts Outside cs) (onto_first c (operand_parts (place_after place c) cs)))) e
    ∙ ap (λ parts. join_with_byte 44 ([] ∷ parts)) s.2
    ∙ ap (λ parts. 44 ∷ join_with_byte 44 parts) (sym s.2)
    ∙ ap (λ bs. 44 ∷ bs) next
    ∙ ap (λ b. b ∷ cs) (sym (separates_comma place c e))
join_step place c cs false e next same =
    ap (λ b. join_with_byte 44 (cond b ([] ∷ operand_parts Outside cs) (onto_first c (operand_parts (place_after place c) cs)))) e
    ∙ join-onto 44 c (operand_parts (place_after place c) cs)
    ∙ ap (λ bs. c ∷ bs) same

pub operands_joined : (place : Place) (bytes : List ℕ) → join_with_byte 44 (operand_parts place bytes) ≡ bytes
operands_joined place [] = refl
operands_joined place (c ∷ cs) = join_step place c cs (separates place c) refl (operands_joined Outside cs) (operands_joined (place_after place c) cs)

module _ (limits : Limits) where
  pub operands_sound : (field : List ℕ) (operands : List Operand) → operands_in limits field ≡ Some operands → SpellsOperands field operands × (list_all (operand_keeps limits) operands ≡ true)
  operands_sound field operands h =
      let text = field_text field in
      let s = operands_some Outside text in
      let each_one = each_some (operand_in limits) SpellsOperand (λ bytes x e. (operand_sound limits bytes x e).0) (operand_parts Outside text) operands h in
      (some_separated SpellsOperand 44 text s.0 s.1 (operand_parts Outside text) operands s.2 (operands_joined Outside text) each_one, each_keeps (operand_in limits) (operand_keeps limits) (λ bytes x e. (operand_sound limits bytes x e).1) (operand_parts Outside text) operands h)
