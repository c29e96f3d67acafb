-- The fault of a parameter file: the least rule that is broken, and the first line that breaks it.
use Rattle.std.specs.Prelude.{ℕ, ◌+◌, ◌*◌, List, [], ◌∷◌, ◌++◌, length, codes, position, Option, Some, None, option_map, is_some, Bool, true, false, not, ◌&&◌, ◌==◌, nat_le}
use Rattle.std.specs.List.{list_any, list_all}
use Rattle.sil_base.specs.declared.line.Fault.{Fault}
use Rattle.sil_base.specs.declared.line.TheConstants.{PARAMETER_FILE}
use Rattle.sil_base.specs.Faults.{fault_at}
use Rattle.layout_params.specs.Sizes.{Sizes, descr_fits, field_fits, f_width_fits, v_width_fits, fields_apart}
use Rattle.sil_base.specs.Names.{is_word}
use Rattle.layout_params.specs.ParameterLines.{breaks_form, Entry, lines_of, entries_from}
use Rattle.layout_params.specs.Parameters.{Settings, Parameters, is_bit_below}
use Rattle.layout_params.specs.Entries.{parameter_names, entry_named, line_named, parameters_in}

-- L and the number of a rule, at a line of the parameter file
abbrev pub fault : ℕ → ℕ → Fault
fault rule line = fault_at PARAMETER_FILE 76 line rule

-- the first of two faults, if there is one
abbrev pub or_next : Option Fault → Option Fault → Option Fault
or_next None next = next
or_next (Some f) next = Some f

-- no fault where the rule is kept
abbrev pub unless_kept : Bool → ℕ → ℕ → Option Fault
unless_kept true rule line = None
unless_kept false rule line = Some (fault rule line)

-- ---- the lines

-- L1: a line isn't of the form
abbrev pub form_fault : List (List ℕ) → Option Fault
form_fault lines = option_map (λ i. fault 1 (i + 1)) (position breaks_form lines)

abbrev pub is_parameter : List ℕ → Bool
is_parameter name = list_any (is_word name) parameter_names

-- a name is a parameter, and no entry before has it
abbrev pub is_new_name : List Entry → List ℕ → Bool
is_new_name before name = is_parameter name && not (is_some (entry_named before name))

-- L2: a name is unknown or stands a second time
abbrev pub name_fault : List Entry → List Entry → Option Fault
name_fault before [] = None
name_fault before (e ∷ entries) = or_next (unless_kept (is_new_name before e.name) 2 e.line) (name_fault (before ++ e ∷ []) entries)

-- L3: a name is missing, at the line after the last one
abbrev pub missing_fault : ℕ → List Entry → Option Fault
missing_fault lines entries = unless_kept (list_all (λ name. is_some (entry_named entries name)) parameter_names) 3 (lines + 1)

-- ---- the values, each with the line of its name

-- L4 to L8: the layout
abbrev pub descr_fault : (List ℕ → ℕ) → Sizes → Option Fault
descr_fault line s = unless_kept (descr_fits s.descr) 4 (line (codes "DESCR"))

abbrev pub a_fault : (List ℕ → ℕ) → Sizes → Option Fault
a_fault line s = unless_kept (field_fits s.descr s.a_at 8) 5 (line (codes "AOFF"))

abbrev pub f_fault : (List ℕ → ℕ) → Sizes → Option Fault
f_fault line s = or_next (unless_kept (f_width_fits s.f_len) 6 (line (codes "FLEN"))) (unless_kept (field_fits s.descr s.f_at s.f_len) 6 (line (codes "FOFF")))

abbrev pub v_fault : (List ℕ → ℕ) → Sizes → Option Fault
v_fault line s = or_next (unless_kept (v_width_fits s.v_len) 7 (line (codes "VLEN"))) (unless_kept (field_fits s.descr s.v_at s.v_len) 7 (line (codes "VOFF")))

abbrev pub shared_fault : (List ℕ → ℕ) → Sizes → Option Fault
shared_fault line s = unless_kept (fields_apart s) 8 (line (codes "VOFF"))

abbrev pub layout_fault : (List ℕ → ℕ) → Sizes → Option Fault
layout_fault line s = or_next (descr_fault line s) (or_next (a_fault line s) (or_next (f_fault line s) (or_next (v_fault line s) (shared_fault line s))))

-- L9: a flag isn't a single bit of the F field, or equals an earlier one
abbrev pub is_new_flag : ℕ → List ℕ → ℕ → Bool
is_new_flag bits before flag = is_bit_below bits flag && not (list_any (λ other. other == flag) before)

abbrev pub flag_fault : (List ℕ → ℕ) → Settings → Option Fault
flag_fault line s =
    let bits = 8 * s.sizes.f_len in
    or_next (unless_kept (is_new_flag bits [] s.function_flag) 9 (line (codes "FNC")))
    (or_next (unless_kept (is_new_flag bits (s.function_flag ∷ []) s.mark_flag) 9 (line (codes "MARK")))
    (or_next (unless_kept (is_new_flag bits (s.function_flag ∷ s.mark_flag ∷ []) s.pointer_flag) 9 (line (codes "PTR")))
    (or_next (unless_kept (is_new_flag bits (s.function_flag ∷ s.mark_flag ∷ s.pointer_flag ∷ []) s.string_title_flag) 9 (line (codes "STTL")))
    (unless_kept (is_new_flag bits (s.function_flag ∷ s.mark_flag ∷ s.pointer_flag ∷ s.string_title_flag ∷ []) s.title_flag) 9 (line (codes "TTL"))))))

-- L10 to L12: the cells of the stack and of dynamic storage, and the buckets
abbrev pub is_within : ℕ → ℕ → ℕ → Bool
is_within least most n = nat_le least n && nat_le n most

abbrev pub count_fault : (List ℕ → ℕ) → Settings → Option Fault
count_fault line s =
    or_next (unless_kept (is_within 16 65536 s.stack_size) 10 (line (codes "STSIZE")))
    (or_next (unless_kept (nat_le s.dynamic_size 900000) 11 (line (codes "DYNSIZ"))) (unless_kept (is_within 1 4096 s.bucket_count) 12 (line (codes "OBSIZ"))))

-- L13: a unit's number isn't from 1 to 15
abbrev pub unit_fault : (List ℕ → ℕ) → Parameters → Option Fault
unit_fault line p =
    or_next (unless_kept (is_within 1 15 p.input_unit) 13 (line (codes "UNITI")))
    (or_next (unless_kept (is_within 1 15 p.output_unit) 13 (line (codes "UNITO"))) (unless_kept (is_within 1 15 p.punch_unit) 13 (line (codes "UNITP"))))

-- L14: the date isn't eight bytes from 32 to 126
abbrev pub is_date : List ℕ → Bool
is_date text = (length text == 8) && list_all (is_within 32 126) text

abbrev pub date_fault : (List ℕ → ℕ) → Settings → Option Fault
date_fault line s = unless_kept (is_date s.date) 14 (line (codes "DATE"))

-- the fault of values, by the line of each name
abbrev pub value_fault : (List ℕ → ℕ) → Parameters → Option Fault
value_fault line p =
    or_next (layout_fault line p.settings.sizes)
    (or_next (flag_fault line p.settings) (or_next (count_fault line p.settings) (or_next (unit_fault line p) (date_fault line p.settings))))

-- ---- the file

abbrev pub entries_fault : ℕ → List Entry → Option Fault
entries_fault lines entries = or_next (name_fault [] entries) (or_next (missing_fault lines entries) (value_fault (line_named entries) (parameters_in entries)))

abbrev pub parameter_fault : List ℕ → Option Fault
parameter_fault bytes = or_next (form_fault (lines_of bytes)) (entries_fault (length (lines_of bytes)) (entries_from 1 (lines_of bytes)))
