-- The parts of a whole code, each at its place, counted in instructions.
use Rattle.std.proofs.Common.{◌≡◌, ℕ, ◌+◌, ◌*◌, ◌/◌, List, ◌++◌, length, length-append, Option, Some, arith}
use Rattle.rv_isa.specs.declared.instr.Instr.{Instr}
use Rattle.layout_params.specs.Areas.{all_cells}
use Rattle.layout_params.specs.declared.cell.Field.TheVariants.{F, V}
use Rattle.layout_params.specs.Parameters.{Settings}
use Rattle.sil_micro.specs.Codes.{MicroCode, place_of}
use Rattle.sil_micro.specs.Operations.{scratch_words}
use Rattle.rv_routines.specs.FieldCodes.{bits_of}
use Rattle.rv_routines.specs.RoutineCodes.{check_routine, fit_routine, open_routine, char_routine, word_routine, below_routine, make_routine, kind_routine, state_routine}
use Rattle.rv_operations.specs.declared.places.Routines.{Routines}
use Rattle.rv_operations.specs.Switch.{switch_code}
use Rattle.rv_emit.specs.Code.{start_code, routines_at, first_op, table_code, place_from, places_of, ops_code, past_code, stack_top, whole_code}
use Rattle.rv_emit.proofs.Parted.{IsPart, whole, first_part, next_part}
use Rattle.rv_emit.proofs.Lengths.{start_long, check_long, fit_long, open_long, char_long, word_long, below_long, state_long, make_long, kind_long, switch_long, table_long}

module _ (settings : Settings) (c : MicroCode) where
  abbrev pub d : ℕ
  d = settings.sizes.descr

  -- the words of zeros of a cell
  abbrev pub e : ℕ
  e = settings.sizes.descr / 8

  abbrev pub n : ℕ
  n = all_cells settings c.static_cells

  abbrev pub count : ℕ
  count = length c.entries

  abbrev pub r : Routines
  r = routines_at settings.sizes.descr (length c.entries)

  abbrev pub by_entry : ℕ → Option ℕ
  by_entry k = Some (place_from settings c (place_of c k))

  abbrev pub by_return : ℕ → Option ℕ
  by_return = (places_of settings c).returns

  -- ---- the routines

  abbrev f_fit : List Instr
  f_fit = fit_routine (bits_of settings.sizes F) d n

  abbrev v_fit : List Instr
  v_fit = fit_routine (bits_of settings.sizes V) d n

  abbrev opening : List Instr
  opening = open_routine (bits_of settings.sizes F) (bits_of settings.sizes V) d n

  abbrev to_1 : List Instr
  to_1 = check_routine d n

  abbrev to_2 : List Instr
  to_2 = to_1 ++ f_fit

  abbrev to_3 : List Instr
  to_3 = to_2 ++ v_fit

  abbrev to_4 : List Instr
  to_4 = to_3 ++ opening

  abbrev to_5 : List Instr
  to_5 = to_4 ++ char_routine d n

  abbrev to_6 : List Instr
  to_6 = to_5 ++ word_routine d n

  abbrev to_7 : List Instr
  to_7 = to_6 ++ below_routine scratch_words

  abbrev to_8 : List Instr
  to_8 = to_7 ++ below_routine n

  abbrev to_9 : List Instr
  to_9 = to_8 ++ below_routine 3

  abbrev to_10 : List Instr
  to_10 = to_9 ++ state_routine

  abbrev to_11 : List Instr
  to_11 = to_10 ++ make_routine d n

  abbrev to_12 : List Instr
  to_12 = to_11 ++ kind_routine d n

  long_2 : length to_2 ≡ 36
  long_2 = omega (arith, length-append to_1 f_fit, check_long d n, fit_long (bits_of settings.sizes F) d n)

  long_3 : length to_3 ≡ 55
  long_3 = omega (arith, length-append to_2 v_fit, long_2, fit_long (bits_of settings.sizes V) d n)

  long_4 : length to_4 ≡ 75
  long_4 = omega (arith, length-append to_3 opening, long_3, open_long (bits_of settings.sizes F) (bits_of settings.sizes V) d n)

  long_5 : length to_5 ≡ 90
  long_5 = omega (arith, length-append to_4 (char_routine d n), long_4, char_long d n)

  long_6 : length to_6 ≡ 107
  long_6 = omega (arith, length-append to_5 (word_routine d n), long_5, word_long d n)

  long_7 : length to_7 ≡ 114
  long_7 = omega (arith, length-append to_6 (below_routine scratch_words), long_6, below_long scratch_words)

  long_8 : length to_8 ≡ 121
  long_8 = omega (arith, length-append to_7 (below_routine n), long_7, below_long n)

  long_9 : length to_9 ≡ 128
  long_9 = omega (arith, length-append to_8 (below_routine 3), long_8, below_long 3)

  long_10 : length to_10 ≡ 142
  long_10 = omega (arith, length-append to_9 state_routine, long_9, state_long)

  long_11 : length to_11 ≡ 162 + e
  long_11 = omega (arith, length-append to_10 (make_routine d n), long_10, make_long d n)

  long_12 : length to_12 ≡ 178 + 2 * e
  long_12 = omega (arith, length-append to_11 (kind_routine d n), long_11, kind_long d n)

  -- ---- the whole

  abbrev start : List Instr
  start = start_code (stack_top settings c) (place_from settings c (place_of c 0))

  abbrev switch_1 : List Instr
  switch_1 = switch_code d count r.entry (r.entry + 64)

  abbrev table_1 : List Instr
  table_1 = table_code r.entry by_entry (r.entry + 64) 0 count

  abbrev switch_2 : List Instr
  switch_2 = switch_code d count r.return_part (r.return_part + 64)

  abbrev table_2 : List Instr
  table_2 = table_code r.return_part by_return (r.return_part + 64) 0 count

  abbrev front_1 : List Instr
  front_1 = start ++ to_12

  abbrev front_2 : List Instr
  front_2 = front_1 ++ (switch_1 ++ table_1)

  abbrev pub front_3 : List Instr
  front_3 = front_2 ++ (switch_2 ++ table_2)

  abbrev ops : List Instr
  ops = ops_code settings c (first_op d count) c.ops

  front_long_1 : length front_1 ≡ 185 + 2 * e
  front_long_1 = omega (arith, length-append start to_12, long_12, start_long (stack_top settings c) (place_from settings c (place_of c 0)))

  front_long_2 : length front_2 ≡ 201 + 2 * e + 2 * count
  front_long_2 = omega (arith, length-append front_1 (switch_1 ++ table_1), front_long_1, length-append switch_1 table_1, switch_long d count r.entry, table_long r.entry by_entry (r.entry + 64) 0 count)

  pub front_long_3 : length front_3 ≡ 217 + 2 * e + 4 * count
  front_long_3 = omega (arith, length-append front_2 (switch_2 ++ table_2), front_long_2, length-append switch_2 table_2, switch_long d count r.return_part, table_long r.return_part by_return (r.return_part + 64) 0 count)

  abbrev pub code : List Instr
  code = whole_code settings c

  all_is : IsPart code 0 (front_3 ++ ops ++ past_code count)
  unfolding whole_code
  all_is = whole (whole_code settings c)

  -- ---- where each stands

  before_ops : IsPart code 0 front_3
  before_ops = first_part front_3 ops (first_part (front_3 ++ ops) (past_code count) all_is)

  pub ops_here : IsPart code (217 + 2 * e + 4 * count) ops
  ops_here = next_part front_3 ops (217 + 2 * e + 4 * count) (omega (arith, front_long_3)) (first_part (front_3 ++ ops) (past_code count) all_is)

  pub past_here : IsPart code (217 + 2 * e + 4 * count + length ops) (past_code count)
  past_here = next_part (front_3 ++ ops) (past_code count) (217 + 2 * e + 4 * count + length ops) (omega (arith, length-append front_3 ops, front_long_3)) all_is

  before_2 : IsPart code 0 front_2
  before_2 = first_part front_2 (switch_2 ++ table_2) before_ops

  part_2 : IsPart code (201 + 2 * e + 2 * count) (switch_2 ++ table_2)
  part_2 = next_part front_2 (switch_2 ++ table_2) (201 + 2 * e + 2 * count) (omega (arith, front_long_2)) before_ops

  pub return_here : IsPart code (201 + 2 * e + 2 * count) switch_2
  return_here = first_part switch_2 table_2 part_2

  pub return_table_here : IsPart code (217 + 2 * e + 2 * count) table_2
  return_table_here = next_part switch_2 table_2 (217 + 2 * e + 2 * count) (omega (arith, switch_long d count r.return_part)) part_2

  before_1 : IsPart code 0 front_1
  before_1 = first_part front_1 (switch_1 ++ table_1) before_2

  part_1 : IsPart code (185 + 2 * e) (switch_1 ++ table_1)
  part_1 = next_part front_1 (switch_1 ++ table_1) (185 + 2 * e) (omega (arith, front_long_1)) before_2

  pub entry_here : IsPart code (185 + 2 * e) switch_1
  entry_here = first_part switch_1 table_1 part_1

  pub entry_table_here : IsPart code (201 + 2 * e) table_1
  entry_table_here = next_part switch_1 table_1 (201 + 2 * e) (omega (arith, switch_long d count r.entry)) part_1

  pub start_here : IsPart code 0 start
  start_here = first_part start to_12 before_1

  routines : IsPart code 7 to_12
  routines = next_part start to_12 7 (omega (arith, start_long (stack_top settings c) (place_from settings c (place_of c 0)))) before_1

  part_11 : IsPart code 7 to_11
  part_11 = first_part to_11 (kind_routine d n) routines

  pub kind_here : IsPart code (169 + e) (kind_routine d n)
  kind_here = next_part to_11 (kind_routine d n) (169 + e) (omega (arith, long_11)) routines

  part_10 : IsPart code 7 to_10
  part_10 = first_part to_10 (make_routine d n) part_11

  pub make_here : IsPart code 149 (make_routine d n)
  make_here = next_part to_10 (make_routine d n) 149 (omega (arith, long_10)) part_11

  part_9 : IsPart code 7 to_9
  part_9 = first_part to_9 state_routine part_10

  pub state_here : IsPart code 135 state_routine
  state_here = next_part to_9 state_routine 135 (omega (arith, long_9)) part_10

  part_8 : IsPart code 7 to_8
  part_8 = first_part to_8 (below_routine 3) part_9

  pub below_state_here : IsPart code 128 (below_routine 3)
  below_state_here = next_part to_8 (below_routine 3) 128 (omega (arith, long_8)) part_9

  part_7 : IsPart code 7 to_7
  part_7 = first_part to_7 (below_routine n) part_8

  pub below_cells_here : IsPart code 121 (below_routine n)
  below_cells_here = next_part to_7 (below_routine n) 121 (omega (arith, long_7)) part_8

  part_6 : IsPart code 7 to_6
  part_6 = first_part to_6 (below_routine scratch_words) part_7

  pub below_scratch_here : IsPart code 114 (below_routine scratch_words)
  below_scratch_here = next_part to_6 (below_routine scratch_words) 114 (omega (arith, long_6)) part_7

  part_5 : IsPart code 7 to_5
  part_5 = first_part to_5 (word_routine d n) part_6

  pub word_here : IsPart code 97 (word_routine d n)
  word_here = next_part to_5 (word_routine d n) 97 (omega (arith, long_5)) part_6

  part_4 : IsPart code 7 to_4
  part_4 = first_part to_4 (char_routine d n) part_5

  pub char_here : IsPart code 82 (char_routine d n)
  char_here = next_part to_4 (char_routine d n) 82 (omega (arith, long_4)) part_5

  part_3 : IsPart code 7 to_3
  part_3 = first_part to_3 opening part_4

  pub open_here : IsPart code 62 (open_routine (bits_of settings.sizes F) (bits_of settings.sizes V) d n)
  open_here = next_part to_3 opening 62 (omega (arith, long_3)) part_4

  part_two : IsPart code 7 to_2
  part_two = first_part to_2 v_fit part_3

  pub fit_v_here : IsPart code 43 (fit_routine (bits_of settings.sizes V) d n)
  fit_v_here = next_part to_2 v_fit 43 (omega (arith, long_2)) part_3

  pub check_here : IsPart code 7 (check_routine d n)
  check_here = first_part to_1 f_fit part_two

  pub fit_f_here : IsPart code 24 (fit_routine (bits_of settings.sizes F) d n)
  fit_f_here = next_part to_1 f_fit 24 (omega (arith, check_long d n)) part_two
