-- The values of a parameter file.
use Rattle.std.specs.Prelude.{ℕ, List, [], ◌∷◌, codes, find, Option, Some, None}
use Rattle.sil_base.specs.Names.{is_word}
use Rattle.layout_params.specs.ParameterLines.{Value, Number, Date, Entry, lines_of, entries_from}
use Rattle.layout_params.specs.Parameters.{Parameters}

-- the names of the parameters
abbrev pub parameter_names : List (List ℕ)
parameter_names =
    codes "DESCR"
    ∷ codes "AOFF"
    ∷ codes "FOFF"
    ∷ codes "FLEN"
    ∷ codes "VOFF"
    ∷ codes "VLEN"
    ∷ codes "FNC"
    ∷ codes "MARK"
    ∷ codes "PTR"
    ∷ codes "STTL"
    ∷ codes "TTL"
    ∷ codes "STSIZE"
    ∷ codes "DYNSIZ"
    ∷ codes "OBSIZ"
    ∷ codes "UNITI"
    ∷ codes "UNITO"
    ∷ codes "UNITP"
    ∷ codes "DATE"
    ∷ []

-- the first entry of a name
abbrev pub entry_named : List Entry → List ℕ → Option Entry
entry_named entries name = find (λ e. is_word e.name name) entries

abbrev pub line_of : Option Entry → ℕ
line_of None = 0
line_of (Some e) = e.line

abbrev pub number_in : Value → ℕ
number_in (Number n) = n
number_in (Date text) = 0

abbrev pub date_in : Value → List ℕ
date_in (Number n) = []
date_in (Date text) = text

abbrev pub number_of : Option Entry → ℕ
number_of None = 0
number_of (Some e) = number_in e.value

abbrev pub date_of : Option Entry → List ℕ
date_of None = []
date_of (Some e) = date_in e.value

-- the line, the number and the date that are given to a name
abbrev pub line_named : List Entry → List ℕ → ℕ
line_named entries name = line_of (entry_named entries name)

abbrev pub number_named : List Entry → List ℕ → ℕ
number_named entries name = number_of (entry_named entries name)

abbrev pub date_named : List Entry → List ℕ → List ℕ
date_named entries name = date_of (entry_named entries name)

-- the eighteen values
abbrev pub parameters_in : List Entry → Parameters
parameters_in entries = record {
  settings = record {
    sizes = record {
      descr = number_named entries (codes "DESCR");
      a_at = number_named entries (codes "AOFF");
      f_at = number_named entries (codes "FOFF");
      f_len = number_named entries (codes "FLEN");
      v_at = number_named entries (codes "VOFF");
      v_len = number_named entries (codes "VLEN");
    };
    function_flag = number_named entries (codes "FNC");
    mark_flag = number_named entries (codes "MARK");
    pointer_flag = number_named entries (codes "PTR");
    string_title_flag = number_named entries (codes "STTL");
    title_flag = number_named entries (codes "TTL");
    stack_size = number_named entries (codes "STSIZE");
    dynamic_size = number_named entries (codes "DYNSIZ");
    bucket_count = number_named entries (codes "OBSIZ");
    date = date_named entries (codes "DATE");
  };
  input_unit = number_named entries (codes "UNITI");
  output_unit = number_named entries (codes "UNITO");
  punch_unit = number_named entries (codes "UNITP");
}

-- the values of a file
abbrev pub values_of : List ℕ → Parameters
values_of bytes = parameters_in (entries_from 1 (lines_of bytes))
