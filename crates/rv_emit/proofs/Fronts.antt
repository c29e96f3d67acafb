-- What stands before the operations, appended part by part.
use Rattle.std.proofs.Common.{◌≡◌, ℕ, ◌+◌, List, [], ◌++◌, length, ap, ◌∙◌, append_assoc}
use Rattle.std.specs.Prelude.{Result, Ok, Err, OnOk}
use Rattle.rv_isa.specs.declared.instr.Instr.{Instr}
use Rattle.layout_params.specs.Areas.{all_cells}
use Rattle.layout_params.specs.declared.cell.Field.TheVariants.{F, V}
use Rattle.layout_params.specs.Parameters.{Settings}
use Rattle.layout_params.specs.Sizes.{Sizes}
use Rattle.sil_micro.specs.Codes.{MicroCode, place_of}
use Rattle.sil_micro.specs.Operations.{scratch_words}
use Rattle.rv_routines.specs.FieldCodes.{bits_of}
use Rattle.rv_routines.specs.RoutineCodes.{check_routine, fit_routine, open_routine, char_routine, word_routine, below_routine, make_routine, kind_routine, state_routine}
use Rattle.rv_routines.proofs.Appended.{in_two, in_three}
use Rattle.rv_operations.specs.Switch.{switch_code}
use Rattle.rv_emit.specs.declared.plan.Switch.{Switch}
use Rattle.rv_emit.specs.declared.plan.Switch.TheVariants.{Entry, ReturnPart}
use Rattle.rv_emit.specs.Code.{first_op, ops_code, past_code, place_from, routines_code, stack_top, start_code, whole_code}
use Rattle.rv_emit.specs.Planned.{front_of, operations_of, routine_of, routines_of, start_of, switch_of, table_of}

-- what follows where nothing went wrong
pub then_ok : {E P Q : Type 0} (r : Result (Unit {0}) E) → OnOk r P → (P → Q) → OnOk r Q
then_ok (Ok x) h f = f h
then_ok (Err e) h f = tt

-- ---- the routines

pub routine_parts : (sizes : Sizes) (n : ℕ) (a b e f : List Instr)
    → b ≡ a ++ check_routine sizes.descr n ++ fit_routine (bits_of sizes F) sizes.descr n ++ fit_routine (bits_of sizes V) sizes.descr n ++ open_routine (bits_of sizes F) (bits_of sizes V) sizes.descr n
    → e ≡ b ++ char_routine sizes.descr n ++ word_routine sizes.descr n ++ below_routine scratch_words ++ below_routine n ++ below_routine 3
    → f ≡ e ++ state_routine ++ make_routine sizes.descr n ++ kind_routine sizes.descr n
    → f ≡ a ++ routines_code sizes n
routine_parts sizes n a b e f p q r =
    let one = check_routine sizes.descr n in
    let two = fit_routine (bits_of sizes F) sizes.descr n in
    let three = fit_routine (bits_of sizes V) sizes.descr n in
    let four = open_routine (bits_of sizes F) (bits_of sizes V) sizes.descr n in
    let five = char_routine sizes.descr n in
    let six = word_routine sizes.descr n in
    let seven = below_routine scratch_words in
    let eight = below_routine n in
    let nine = below_routine 3 in
    let ten = state_routine in
    let eleven = make_routine sizes.descr n in
    let twelve = kind_routine sizes.descr n in
    r ∙ ap (λ k. k ++ ten ++ eleven ++ twelve) (q ∙ ap (λ k. k ++ five ++ six ++ seven ++ eight ++ nine) p) ∙ all a one two three four five six seven eight nine ten eleven twelve
  where
    all : (a x1 x2 x3 x4 x5 x6 x7 x8 x9 x10 x11 x12 : List Instr) → a ++ x1 ++ x2 ++ x3 ++ x4 ++ x5 ++ x6 ++ x7 ++ x8 ++ x9 ++ x10 ++ x11 ++ x12 ≡ a ++ (x1 ++ x2 ++ x3 ++ x4 ++ x5 ++ x6 ++ x7 ++ x8 ++ x9 ++ x10 ++ x11 ++ x12)
    all a x1 x2 x3 x4 x5 x6 x7 x8 x9 x10 x11 x12 = simp append_assoc

module _ (settings : Settings) (c : MicroCode) where
  pub routines_are : (sizes : Sizes) (n : ℕ) (a f : List Instr) → sizes ≡ settings.sizes → n ≡ all_cells settings c.static_cells → f ≡ a ++ routines_code sizes n → f ≡ a ++ routines_of settings c
  unfolding routines_of
  routines_are sizes n a f s e h = h ∙ ap (λ z. a ++ routines_code z n) s ∙ ap (λ m. a ++ routines_code settings.sizes m) e

  -- ---- the parts of the front

  pub start_is : (a b code : List Instr) (top to : ℕ) → top ≡ stack_top settings c → to ≡ place_from settings c (place_of c 0) → code ≡ start_code top to → b ≡ a ++ code → b ≡ a ++ start_of settings c
  unfolding start_of
  start_is a b code top to t e is h = h ∙ ap (λ k. a ++ k) is ∙ ap (λ x. a ++ start_code x to) t ∙ ap (λ x. a ++ start_code (stack_top settings c) x) e

  pub switch_is : (which : Switch) (a b e code : List Instr) (d count routine : ℕ) → d ≡ settings.sizes.descr → count ≡ length c.entries → routine ≡ routine_of d count which → code ≡ switch_code d count routine (routine + 64) → b ≡ a ++ code → e ≡ b ++ table_of settings c which → e ≡ a ++ switch_of settings c which
  unfolding switch_of table_of
  switch_is which a b e code d count routine s n r is h g =
      let place : routine ≡ routine_of settings.sizes.descr (length c.entries) which = r ∙ ap (λ x. routine_of x count which) s ∙ ap (λ x. routine_of settings.sizes.descr x which) n in
      let first : b ≡ a ++ switch_code settings.sizes.descr (length c.entries) (routine_of settings.sizes.descr (length c.entries) which) (routine_of settings.sizes.descr (length c.entries) which + 64) =
      h ∙ ap (λ k. a ++ k) is ∙ ap (λ x. a ++ switch_code x count routine (routine + 64)) s ∙ ap (λ x. a ++ switch_code settings.sizes.descr x routine (routine + 64)) n ∙ ap (λ x. a ++ switch_code settings.sizes.descr (length c.entries) x (x + 64)) place in
      in_two a _ _ first g

  pub front_is : (a b e f g : List Instr) → b ≡ a ++ start_of settings c → e ≡ b ++ routines_of settings c → f ≡ e ++ switch_of settings c Entry → g ≡ f ++ switch_of settings c ReturnPart → g ≡ a ++ front_of settings c
  unfolding start_of routines_of switch_of front_of
  front_is a b e f g p q r s = in_two a _ _ (in_three a _ _ _ p q r) s

  -- ---- the whole

  pub whole_is : (a b e code : List Instr) (count : ℕ) → a ≡ [] ++ front_of settings c → b ≡ a ++ operations_of settings c → count ≡ length c.entries → code ≡ past_code count → e ≡ b ++ code → e ≡ whole_code settings c
  unfolding front_of operations_of whole_code
  whole_is a b e code count p q n is r = r ∙ ap (λ k. b ++ k) is ∙ ap (λ m. b ++ past_code m) n ∙ ap (λ k. k ++ past_code (length c.entries)) (q ∙ ap (λ k. k ++ ops_code settings c (first_op settings.sizes.descr (length c.entries)) c.ops) p)
