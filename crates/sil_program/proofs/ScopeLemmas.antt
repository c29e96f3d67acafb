-- What names stand for is within the bounds of a program.
use Rattle.std.proofs.Common.{◌≡◌, ℕ, ◌+◌, ◌-◌, ◌/◌, ◌%◌, ◌<◌, ◌≤◌, Bool, true, false, cond, ◌&&◌, ◌==◌, List, [], ◌∷◌, length, map, Option, Some, None, pos, negsuc, zero, suc, refl, subst, arith}
use Rattle.std.specs.Prelude.{Contains, FitsSigned, IfSome, nat_le, nat_lt, option_and_then, option_map, position, min, slice_index_or, ℤ}
use Rattle.std.specs.Int.{w64}
use Rattle.std.proofs.lemmas.Bool.Decides.{nat_tests}
use Rattle.std.proofs.lemmas.List.Quantifiers.{position-Some}
use Rattle.layout_params.specs.Parameters.{Parameters}
use Rattle.layout_params.specs.Sizes.{flag_limit}
use Rattle.sil_base.specs.Names.{is_word}
use Rattle.sil_base.specs.declared.places.TheConstants.{FIRST_ENTRY}
use Rattle.sil_operands.specs.declared.expr.Term.{Term}
use Rattle.sil_symbols.specs.declared.stmt.Stmt.{Stmt}
use Rattle.sil_symbols.specs.Laws.{LawOfValues}
use Rattle.sil_symbols.specs.StatementParts.{part_of, is_format}
use Rattle.sil_symbols.specs.Labels.{labelled}
use Rattle.sil_symbols.specs.Symbols.{value_of, format_of}
use Rattle.sil_operands.specs.Simple.{named_alone}
use Rattle.sil_shapes.specs.Locations.{executable_count, statement_at, number_within}
use Rattle.sil_shapes.specs.ShapeRules.{flags_of, format_at, location_of}
use Rattle.syntax_tables.specs.declared.saying.Said.{Said}
use Rattle.syntax_tables.specs.TableFiles.{names_in, table_named}
use Rattle.data_asm.specs.DataFields.{first_text}
use Rattle.sil_model.specs.Fits.{Bounds}
use Rattle.sil_arguments.specs.MadeArguments.{scope_of, text_at}
use Rattle.sil_arguments.proofs.ArgLemmas.{IsScope}
use Rattle.sil_program.specs.Programs.{formats_of}

-- ---- locations and flags

statement_below : (size count : ℕ) (value : Option ℤ) (k : ℕ) → option_and_then (statement_at size count) value ≡ Some k → k < count
statement_below size count None k h = let no : ⊥ = cc in absurd no
statement_below size count (Some (negsuc n)) k h = let no : ⊥ = cc in absurd no
statement_below size count (Some (pos n)) k h = test (nat_le FIRST_ENTRY n && ((n - FIRST_ENTRY) % size == 0) && nat_lt ((n - FIRST_ENTRY) / size) count) refl h
  where
    test : (t : Bool) → (nat_le FIRST_ENTRY n && ((n - FIRST_ENTRY) % size == 0) && nat_lt ((n - FIRST_ENTRY) / size) count) ≡ t → cond t (Some ((n - FIRST_ENTRY) / size)) None ≡ Some k → k < count
    test false is e = let no : ⊥ = cc in absurd no
    test true is e =
        let below : (n - FIRST_ENTRY) / size < count = grind (arith, nat_tests) in
        let same : (n - FIRST_ENTRY) / size ≡ k = cc in
        omega (arith, below, same)

number_most : (limit : ℕ) (value : Option ℤ) (f : ℕ) → option_and_then (number_within limit) value ≡ Some f → f ≤ limit
number_most limit None f h = let no : ⊥ = cc in absurd no
number_most limit (Some (negsuc n)) f h = let no : ⊥ = cc in absurd no
number_most limit (Some (pos n)) f h = test (nat_le n limit) refl h
  where
    test : (t : Bool) → nat_le n limit ≡ t → cond t (Some n) None ≡ Some f → f ≤ limit
    test false is e = let no : ⊥ = cc in absurd no
    test true is e =
        let below : n ≤ limit = grind (arith, nat_tests) in
        let same : n ≡ f = cc in
        omega (arith, below, same)

-- ---- tables

table_below : (names : List (List ℕ)) (name : List ℕ) (o : Option ℕ) (t : ℕ) → position (is_word name) names ≡ o → option_map (min 65535) o ≡ Some t → t < length names
table_below names name None t e h = let no : ⊥ = cc in absurd no
table_below names name (Some i) t e h =
    let below : i < length names = (position-Some (is_word name) names i [] e).0 in
    let is : min 65535 i ≡ t = cc in
    omega (arith, below, is)

-- ---- texts

contains_first : (b : Bool) (x text : List ℕ) (rest : List (List ℕ)) → b ≡ true → x ≡ text → Contains (cond b (x ∷ rest) rest) text
contains_first b x text rest h is = rw h (0, omega arith, is)

contains_rest : (b : Bool) (x text : List ℕ) (rest : List (List ℕ)) → Contains rest text → Contains (cond b (x ∷ rest) rest) text
contains_rest true x text rest h = let below = h.1 in (suc h.0, omega (arith, below), h.2)
contains_rest false x text rest h = h

abbrev stands : List Stmt → ℕ → Bool
stands source place = slice_index_or (map (λ s. is_format (part_of s.name)) source) place false

formats_at : (source : List Stmt) (place : ℕ) (text : List ℕ) → stands source place ≡ true → text_at source place ≡ Some text → Contains (formats_of source) text
formats_at [] place text h e = let no : ⊥ = cc in absurd no
formats_at (s ∷ source) zero text h e =
    let is : first_text s.operands ≡ text = cc in
    contains_first (is_format (part_of s.name)) (first_text s.operands) text (formats_of source) h is
formats_at (s ∷ source) (suc place) text h e =
    contains_rest (is_format (part_of s.name)) (first_text s.operands) text (formats_of source) (formats_at source place text h e)

text_if : (source : List Stmt) (place : ℕ) (b : Bool) (text : List ℕ) → stands source place ≡ b → option_and_then (text_at source) (cond b (Some place) None) ≡ Some text → Contains (formats_of source) text
text_if source place false text is h = let no : ⊥ = cc in absurd no
text_if source place true text is h = formats_at source place text is h

text_of : (source : List Stmt) (label : Option ℕ) (text : List ℕ) → option_and_then (text_at source) (option_and_then (λ place. cond (stands source place) (Some place) None) label) ≡ Some text → Contains (formats_of source) text
text_of source None text h = let no : ⊥ = cc in absurd no
text_of source (Some place) text h = text_if source place (stands source place) text refl h

text_named : (source : List Stmt) (name : Option (List ℕ)) (text : List ℕ) → option_and_then (text_at source) (option_and_then (format_of source) name) ≡ Some text → Contains (formats_of source) text
text_named source None text h = let no : ⊥ = cc in absurd no
text_named source (Some name) text h = text_of source (labelled source name) text h

-- ---- all names

pub scope_is : LawOfValues → (p : Parameters) (source : List Stmt) (lines : List Said) (b : Bounds) → executable_count source ≡ b.statements → length (names_in lines) ≡ b.tables → formats_of source ≡ b.formats → flag_limit p.settings.sizes ≡ b.flag_limit →
    IsScope b (scope_of p source lines)
scope_is values_fit p source lines b statements tables formats flags = record {
  values = λ terms z h. values_fit p source terms z h;
  locations = λ terms k h.
      let below : k < executable_count source = statement_below p.settings.sizes.descr (executable_count source) (value_of p source terms) k h in
      omega (arith, below, statements);
  flags = λ terms f h.
      let below : f ≤ flag_limit p.settings.sizes = number_most (flag_limit p.settings.sizes) (value_of p source terms) f h in
      omega (arith, below, flags);
  tables = λ name t h.
      let below : t < length (names_in lines) = table_below (names_in lines) name (position (is_word name) (names_in lines)) t refl h in
      omega (arith, below, tables);
  texts = λ terms text h. subst (λ (fs : List (List ℕ)). Contains fs text) formats (text_named source (named_alone terms) text h);
}
