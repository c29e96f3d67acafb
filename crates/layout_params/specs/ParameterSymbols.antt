-- The parameters as symbols of a source.
use Rattle.std.specs.Prelude.{ℕ, ◌*◌, List, [], ◌∷◌, codes, position, Option, option_map, Bool, ℤ, pos, slice_index}
use Rattle.std.specs.List.{list_any}
use Rattle.layout_params.specs.Sizes.{value_limit}
use Rattle.sil_base.specs.Names.{is_word}
use Rattle.layout_params.specs.Parameters.{Parameters}

-- the names of the parameter symbols
abbrev pub symbol_names : List (List ℕ)
symbol_names =
    codes "DESCR"
    ∷ codes "SPEC"
    ∷ codes "CPA"
    ∷ codes "CPD"
    ∷ codes "ALPHSZ"
    ∷ codes "SIZLIM"
    ∷ codes "FNC"
    ∷ codes "MARK"
    ∷ codes "PTR"
    ∷ codes "STTL"
    ∷ codes "TTL"
    ∷ codes "STSIZE"
    ∷ codes "DYNSIZ"
    ∷ codes "OBSIZ"
    ∷ codes "UNITI"
    ∷ codes "UNITO"
    ∷ codes "UNITP"
    ∷ []

-- their values, in the same order: SPEC is the bytes of a specifier, CPA and CPD those of a character and of a descriptor, ALPHSZ the number of characters and SIZLIM the largest V field
abbrev pub symbol_values : Parameters → List ℕ
symbol_values p =
    p.settings.sizes.descr
    ∷ 2 * p.settings.sizes.descr
    ∷ 1
    ∷ p.settings.sizes.descr
    ∷ 256
    ∷ value_limit p.settings.sizes
    ∷ p.settings.function_flag
    ∷ p.settings.mark_flag
    ∷ p.settings.pointer_flag
    ∷ p.settings.string_title_flag
    ∷ p.settings.title_flag
    ∷ p.settings.stack_size
    ∷ p.settings.dynamic_size
    ∷ p.settings.bucket_count
    ∷ p.input_unit
    ∷ p.output_unit
    ∷ p.punch_unit
    ∷ []

abbrev pub is_parameter_symbol : List ℕ → Bool
is_parameter_symbol name = list_any (is_word name) symbol_names

-- the value of a parameter symbol among these
abbrev pub symbol_in : List ℕ → List ℕ → Option ℤ
symbol_in values name = option_map (λ i. pos (slice_index values i)) (position (is_word name) symbol_names)

-- the value of a parameter symbol
abbrev pub symbol_of : Parameters → List ℕ → Option ℤ
symbol_of p name = symbol_in (symbol_values p) name
