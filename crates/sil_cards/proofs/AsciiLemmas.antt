-- The name of a file that a card copies has bytes of the card.
use Rattle.std.proofs.Common.{◌≡◌, ℕ, ◌<◌, Bool, true, false, cond, not, zero, suc, ◌&&◌, List, [], ◌∷◌, drop, Some, None, Option, refl, ap, ◌∙◌, arith}
use Rattle.std.specs.Prelude.{option_and_then, ◌==◌}
use Rattle.std.specs.Option.{option_map}
use Rattle.std.specs.List.{list_all, onto_first, position_or_len}
use Rattle.std.specs.Str.{IsAscii}
use Rattle.std.specs.Char.{is_ascii_alphabetic, is_ascii_alphanumeric}
use Rattle.std.proofs.lemmas.Bool.Decides.{nat_tests}
use Rattle.std.proofs.lemmas.Str.Ascii.{IsAscii-nil, IsAscii-cons}
use Rattle.sil_operands.specs.declared.operand.Operand.{Operand}
use Rattle.sil_operands.specs.declared.operand.Operand.TheVariants.{Null, Expr, List as Listed, Text}
use Rattle.sil_operands.specs.declared.expr.Factor.{Factor}
use Rattle.sil_operands.specs.declared.expr.Factor.TheVariants.{Name, Number}
use Rattle.sil_operands.specs.declared.expr.Term.{Term}
use Rattle.sil_operands.specs.OperandGrammar.{field_text}
use Rattle.sil_operands.specs.Limits.{card_limits}
use Rattle.sil_base.specs.Names.{is_name, is_number, value_of}
use Rattle.sil_operands.specs.OperandReading.{parts_at, each, factor_in, term_in, terms_of, expr_in, list_in, text_in, operand_in, operand_parts, separates, place_after}
use Rattle.sil_cards.proofs.Booleans.{both, and_true}
use Rattle.sil_cards.specs.CardFields.{is_blank, after_word, quoted_after, to_open_blank, fields_of}
use Rattle.sil_operands.specs.Simple.{one_name, named_alone, is_null}
use Rattle.sil_cards.specs.CardVerdicts.{is_card_byte, some_text, file_of, file_named, copied_file}

all_drop : (p : ℕ → Bool) (n : ℕ) (xs : List ℕ) → list_all p xs ≡ true → list_all p (drop n xs) ≡ true
all_drop p zero xs h = h
all_drop p (suc n) [] h = refl
all_drop p (suc n) (x ∷ xs) h = all_drop p n xs (both (p x) (list_all p xs) h).1

-- ---- the operand field

all_open_or : (b : Bool) (p : ℕ → Bool) (c : ℕ) (rest : List ℕ) → p c ≡ true → list_all p rest ≡ true → list_all p (cond b [] (c ∷ rest)) ≡ true
all_open_or true p c rest h all = refl
all_open_or false p c rest h all = and_true (p c) (list_all p rest) h all

all_open : (p : ℕ → Bool) (quoted : Bool) (text : List ℕ) → list_all p text ≡ true → list_all p (to_open_blank quoted text) ≡ true
all_open p quoted [] h = refl
all_open p quoted (c ∷ text) h =
    let parts = both (p c) (list_all p text) h in
    all_open_or (not quoted && is_blank c) p c (to_open_blank (quoted_after quoted c) text) parts.0 (all_open p (quoted_after quoted c) text parts.1)

all_after_word : (p : ℕ → Bool) (text : List ℕ) → list_all p text ≡ true → list_all p (after_word text) ≡ true
all_after_word p text h =
    let rest = drop (position_or_len is_blank text) text in
    all_drop p (position_or_len (λ c. not (is_blank c)) rest) rest (all_drop p (position_or_len is_blank text) text h)

pub all_operands : (p : ℕ → Bool) (text : List ℕ) → list_all p text ≡ true → list_all p (fields_of text).operands ≡ true
unfolding fields_of
all_operands p text h = all_open p false (after_word (after_word text)) (all_after_word p (after_word text) (all_after_word p text h))

-- ---- the parts of a field

abbrev all_in : (ℕ → Bool) → List (List ℕ) → Bool
all_in p parts = list_all (list_all p) parts

all_onto : (p : ℕ → Bool) (c : ℕ) (parts : List (List ℕ)) → p c ≡ true → all_in p parts ≡ true → all_in p (onto_first c parts) ≡ true
all_onto p c [] h all = rw h refl
all_onto p c (part ∷ parts) h all =
    let split = both (list_all p part) (all_in p parts) all in
    and_true (p c && list_all p part) (all_in p parts) (and_true (p c) (list_all p part) h split.0) split.1

all_part_or : (b : Bool) (p : ℕ → Bool) (c : ℕ) (outside within : List (List ℕ)) → p c ≡ true → all_in p outside ≡ true → all_in p within ≡ true → all_in p (cond b ([] ∷ outside) (onto_first c within)) ≡ true
all_part_or true p c outside within h out all = out
all_part_or false p c outside within h out all = all_onto p c within h all

all_parts : (p : ℕ → Bool) (place : _) (cs : List ℕ) → list_all p cs ≡ true → all_in p (operand_parts place cs) ≡ true
all_parts p place [] h = refl
all_parts p place (c ∷ cs) h =
    let split = both (p c) (list_all p cs) h in
    all_part_or (separates place c) p c _ (operand_parts (place_after place c) cs) split.0 (all_parts p _ cs split.1) (all_parts p (place_after place c) cs split.1)

all_one_or : (b : Bool) (p : ℕ → Bool) (c : ℕ) → list_all p (c ∷ []) ≡ true → list_all p (cond b [] (c ∷ [])) ≡ true
all_one_or true p c h = refl
all_one_or false p c h = h

all_field : (p : ℕ → Bool) (field : List ℕ) → list_all p field ≡ true → list_all p (field_text field) ≡ true
all_field p [] h = refl
all_field p (c ∷ []) h = all_one_or (c == 44) p c h
all_field p (c ∷ d ∷ cs) h = h

-- ---- a text

text_push : (p : ℕ → Bool) (c : ℕ) (o : Option (List ℕ)) (text : List ℕ) → p c ≡ true → option_map (λ rest. c ∷ rest) o ≡ Some text → ((rest : List ℕ) → o ≡ Some rest → list_all p rest ≡ true) → list_all p text ≡ true
text_push p c None text h e all = absurd (cc)
text_push p c (Some rest) text h e all =
    let same : c ∷ rest ≡ text = cc in
    rw (← same) (and_true (p c) (list_all p rest) h (all rest refl))

text_open : (b : Bool) (p : ℕ → Bool) (c : ℕ) (closed inner : Option (List ℕ)) (text : List ℕ) → p c ≡ true → cond b closed (option_map (λ rest. c ∷ rest) inner) ≡ Some text → (closed ≡ Some text → list_all p text ≡ true) → ((rest : List ℕ) → inner ≡ Some rest → list_all p rest ≡ true) → list_all p text ≡ true
text_open true p c closed inner text h e close all = close e
text_open false p c closed inner text h e close all = text_push p c inner text h e all

text_closed : (b : Bool) (p : ℕ → Bool) (c : ℕ) (inner : Option (List ℕ)) (text : List ℕ) → p c ≡ true → cond b (option_map (λ rest. c ∷ rest) inner) None ≡ Some text → ((rest : List ℕ) → inner ≡ Some rest → list_all p rest ≡ true) → list_all p text ≡ true
text_closed true p c inner text h e all = text_push p c inner text h e all
text_closed false p c inner text h e all = absurd (cc)

all_text : (p : ℕ → Bool) (quoted : Bool) (cs text : List ℕ) → list_all p cs ≡ true → text_in quoted cs ≡ Some text → list_all p text ≡ true
all_text p false [] text h e = absurd (cc)
all_text p true [] text h e = let same : [] ≡ text = cc in rw (← same) refl
all_text p false (c ∷ cs) text h e =
    let split = both (p c) (list_all p cs) h in
    text_open (c == 39) p c (text_in true cs) (text_in false cs) text split.0 e (all_text p true cs text split.1) (λ rest. all_text p false cs rest split.1)
all_text p true (c ∷ cs) text h e =
    let split = both (p c) (list_all p cs) h in
    text_closed (c == 39) p c (text_in false cs) text split.0 e (λ rest. all_text p false cs rest split.1)

-- ---- ASCII

card_ascii : (c : ℕ) → is_card_byte c ≡ true → c < 128
card_ascii c h = grind (arith, nat_tests)

all_ascii : (p : ℕ → Bool) → ((c : ℕ) → p c ≡ true → c < 128) → (bytes : List ℕ) → list_all p bytes ≡ true → IsAscii bytes
all_ascii p below [] h = IsAscii-nil
all_ascii p below (c ∷ bytes) h =
    let split = both (p c) (list_all p bytes) h in
    IsAscii-cons c bytes (below c split.0) (all_ascii p below bytes split.1)

alphabetic_below : (c : ℕ) → is_ascii_alphabetic c ≡ true → c < 128
alphabetic_below c h = grind (arith, nat_tests)

alphanumeric_below : (c : ℕ) → is_ascii_alphanumeric c ≡ true → c < 128
alphanumeric_below c h = grind (arith, nat_tests)

name_ascii : (name : List ℕ) → is_name name ≡ true → IsAscii name
name_ascii [] h = IsAscii-nil
name_ascii (c ∷ rest) h =
    let a = both (is_ascii_alphabetic c && list_all is_ascii_alphanumeric rest) _ h in
    let b = both (is_ascii_alphabetic c) (list_all is_ascii_alphanumeric rest) a.0 in
    IsAscii-cons c rest (alphabetic_below c b.0) (all_ascii is_ascii_alphanumeric alphanumeric_below rest b.1)

-- ---- what is read of the first part

first_here : {B : Type 0} (o : Option B) (r : Option (List B)) (x : B) (xs : List B) → option_and_then (λ y. option_map (λ ys. y ∷ ys) r) o ≡ Some (x ∷ xs) → o ≡ Some x
first_here None r x xs h = absurd (cc)
first_here (Some y) None x xs h = absurd (cc)
first_here (Some y) (Some ys) x xs h = cc

pub record IsFirst {A B : Type 0} (read : A → Option B) (parts : List A) (x : B) : Type 0 where
  pub part : A
  pub more : List A
  pub first : parts ≡ part ∷ more
  pub reads : read part ≡ Some x

first_read : {A B : Type 0} (read : A → Option B) (parts : List A) (x : B) (xs : List B) → each read parts ≡ Some (x ∷ xs) → IsFirst read parts x
first_read read [] x xs h = absurd (cc)
first_read read (part ∷ parts) x xs h =
    record { part = part; more = parts; first = refl; reads = first_here (read part) (each read parts) x xs h }

-- ---- a name alone

one_factor : (factors : List Factor) (name : List ℕ) → one_name factors ≡ Some name → factors ≡ Name name ∷ []
one_factor [] name h = absurd (cc)
one_factor (Name other ∷ []) name h = cc
one_factor (Name other ∷ next ∷ factors) name h = absurd (cc)
one_factor (Number n ∷ factors) name h = absurd (cc)

is_alone : (b : Bool) (factors : List Factor) (name : List ℕ) → cond b None (one_name factors) ≡ Some name → factors ≡ Name name ∷ []
is_alone true factors name h = absurd (cc)
is_alone false factors name h = one_factor factors name h

factor_either : (named other : Bool) (bytes : List ℕ) (n : ℕ) (name : List ℕ) → cond named (Some (Name bytes)) (cond other (Some (Number n)) None) ≡ Some (Name name) → (named ≡ true) × (bytes ≡ name)
factor_either true other bytes n name h = (refl, cc)
factor_either false true bytes n name h = absurd (cc)
factor_either false false bytes n name h = absurd (cc)

factor_name : (bytes name : List ℕ) → factor_in card_limits bytes ≡ Some (Name name) → is_name name ≡ true
factor_name bytes name h =
    let e = factor_either (is_name bytes) (is_number bytes && card_limits.number (value_of bytes)) bytes (value_of bytes) name h in
    rw (← e.1) e.0

term_factors : (minus : Bool) (o : Option (List Factor)) (term : Term) → option_map (λ factors. record { minus = minus; factors = factors }) o ≡ Some term → o ≡ Some term.factors
term_factors minus None term h = absurd (cc)
term_factors minus (Some factors) term h = cc

expr_name : (bytes : List ℕ) (terms : List Term) (name : List ℕ) → expr_in card_limits bytes ≡ Some terms → named_alone terms ≡ Some name → is_name name ≡ true
expr_name bytes [] name e h = absurd (cc)
expr_name bytes (term ∷ next ∷ terms) name e h = absurd (cc)
expr_name bytes (term ∷ []) name e h =
    let alone = is_alone term.minus term.factors name h in
    let first = first_read (term_in card_limits) (terms_of bytes) term [] e in
    let factors = term_factors first.part.0 (each (factor_in card_limits) (parts_at 42 first.part.1)) term first.reads in
    let factor = first_read (factor_in card_limits) (parts_at 42 first.part.1) (Name name) [] (factors ∙ ap Some alone) in
    factor_name factor.part name factor.reads

-- ---- the file of COPY

some_text_is : (text name : List ℕ) → some_text text ≡ Some name → text ≡ name
some_text_is [] name h = absurd (cc)
some_text_is (c ∷ text) name h = cc

text_file : (o : Option (List ℕ)) (operand : Operand) (name : List ℕ) → option_map Text o ≡ Some operand → file_of operand ≡ Some name → o ≡ Some name
text_file None operand name e h = absurd (cc)
text_file (Some text) operand name e h =
    let same : Text text ≡ operand = cc in
    let file : some_text text ≡ Some name = rw (← same) at h in
    ap Some (some_text_is text name file)

no_list_file : {A : Type 0} (o : Option (List (Option (List Term)))) (operand : Operand) (name : List ℕ) → option_map Listed o ≡ Some operand → file_of operand ≡ Some name → A
no_list_file None operand name e h = absurd (cc)
no_list_file (Some items) operand name e h =
    let same : Listed items ≡ operand = cc in
    let file : None ≡ Some name = rw (← same) at h in
    absurd (cc)

expr_file : (bytes : List ℕ) (o : Option (List Term)) (operand : Operand) (name : List ℕ) → expr_in card_limits bytes ≡ o → option_map Expr o ≡ Some operand → file_of operand ≡ Some name → is_name name ≡ true
expr_file bytes None operand name is e h = absurd (cc)
expr_file bytes (Some terms) operand name is e h =
    let same : Expr terms ≡ operand = cc in
    let file : named_alone terms ≡ Some name = rw (← same) at h in
    expr_name bytes terms name is file

operand_either : (quote bracket : Bool) (c : ℕ) (cs : List ℕ) (operand : Operand) (name : List ℕ) → list_all is_card_byte cs ≡ true → cond quote (option_map Text (text_in false cs)) (cond bracket (option_map Listed (list_in card_limits cs)) (option_map Expr (expr_in card_limits (c ∷ cs)))) ≡ Some operand → file_of operand ≡ Some name → IsAscii name
operand_either true bracket c cs operand name all e h =
    all_ascii is_card_byte card_ascii name (all_text is_card_byte false cs name all (text_file (text_in false cs) operand name e h))
operand_either false true c cs operand name all e h = no_list_file (list_in card_limits cs) operand name e h
operand_either false false c cs operand name all e h =
    name_ascii name (expr_file (c ∷ cs) (expr_in card_limits (c ∷ cs)) operand name refl e h)

operand_ascii : (bytes : List ℕ) (operand : Operand) (name : List ℕ) → list_all is_card_byte bytes ≡ true → operand_in card_limits bytes ≡ Some operand → file_of operand ≡ Some name → IsAscii name
operand_ascii [] operand name all e h =
    let same : Null ≡ operand = cc in
    let file : None ≡ Some name = rw (← same) at h in
    absurd (cc)
operand_ascii (c ∷ cs) operand name all e h =
    operand_either (c == 39) (c == 40) c cs operand name (both (is_card_byte c) (list_all is_card_byte cs) all).1 e h

file_first : (b : Bool) (operand : Operand) (name : List ℕ) → cond b (file_of operand) None ≡ Some name → file_of operand ≡ Some name
file_first true operand name h = h
file_first false operand name h = absurd (cc)

named_first : (parts : List (List ℕ)) (o : Option (List Operand)) (name : List ℕ) → all_in is_card_byte parts ≡ true → each (operand_in card_limits) parts ≡ o → option_and_then file_named o ≡ Some name → IsAscii name
named_first parts None name all is h = absurd (cc)
named_first parts (Some []) name all is h = absurd (cc)
named_first parts (Some (operand ∷ operands)) name all is h =
    let first = first_read (operand_in card_limits) parts operand operands is in
    let whole : all_in is_card_byte (first.part ∷ first.more) ≡ true = rw first.first at all in
    let part = both (list_all is_card_byte first.part) (all_in is_card_byte first.more) whole in
    operand_ascii first.part operand name part.0 first.reads (file_first (list_all is_null operands) operand name h)

file_from : (place : _) (field name : List ℕ) → list_all is_card_byte field ≡ true → option_and_then file_named (each (operand_in card_limits) (operand_parts place (field_text field))) ≡ Some name → IsAscii name
file_from place field name all h =
    named_first (operand_parts place (field_text field)) (each (operand_in card_limits) (operand_parts place (field_text field))) name (all_parts is_card_byte place (field_text field) (all_field is_card_byte field all)) refl h

pub file_ascii : (text name : List ℕ) → list_all is_card_byte text ≡ true → copied_file (fields_of text).operands ≡ Some name → IsAscii name
unfolding copied_file
file_ascii text name h e = file_from _ (fields_of text).operands name (all_operands is_card_byte text h) e
