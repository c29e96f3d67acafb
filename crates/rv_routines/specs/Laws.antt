-- The routines' words make their tests.
use Rattle.std.specs.Prelude.{ℕ, ◌-◌, ◌^◌, ◌<◌, IsTrue}
use Rattle.layout_params.specs.Sizes.{Sizes, is_legal}
use Rattle.image_file.specs.Image.{Image}
use Rattle.rv_straight.specs.Code.{IsApart}
use Rattle.rv_routines.specs.Routines.{IsRoutine, kept}
use Rattle.rv_routines.specs.RoutineCodes.{check_code, fit_code, open_code, char_code, word_code, below_code, make_code, kind_code, state_code}
use Rattle.rv_routines.specs.Tests.{check_test, fit_test, open_test, opened, char_test, word_test, below_test, make_test, made, kind_test, kinded, state_test, state_written}

abbrev pub LawOfCheck : Type 0
LawOfCheck =
    (image : Image) (last : ℕ) (sizes : Sizes) (count place : ℕ)
    → IsTrue (is_legal sizes) → IsApart image last place (check_code sizes.descr count)
    → IsRoutine image last sizes count place 16 14 check_test kept

abbrev pub LawOfFit : Type 0
LawOfFit =
    (image : Image) (last : ℕ) (sizes : Sizes) (count place bits : ℕ)
    → IsTrue (is_legal sizes) → bits < 64 → IsApart image last place (fit_code bits sizes.descr count)
    → IsRoutine image last sizes count place 18 16 (fit_test bits) kept

abbrev pub LawOfOpen : Type 0
LawOfOpen =
    (image : Image) (last : ℕ) (sizes : Sizes) (count place fbits vbits : ℕ)
    → IsTrue (is_legal sizes) → fbits < 64 → vbits < 64 → IsApart image last place (open_code fbits vbits sizes.descr count)
    → IsRoutine image last sizes count place 16 17 (open_test fbits vbits) opened

abbrev pub LawOfChars : Type 0
LawOfChars =
    (image : Image) (last : ℕ) (sizes : Sizes) (count place : ℕ)
    → IsTrue (is_legal sizes) → IsApart image last place (char_code sizes.descr count)
    → IsRoutine image last sizes count place 14 12 char_test kept

abbrev pub LawOfWords : Type 0
LawOfWords =
    (image : Image) (last : ℕ) (sizes : Sizes) (count place : ℕ)
    → IsTrue (is_legal sizes) → IsApart image last place (word_code sizes.descr count)
    → IsRoutine image last sizes count place 16 14 word_test kept

abbrev pub LawOfBelow : Type 0
LawOfBelow =
    (image : Image) (last : ℕ) (sizes : Sizes) (count place n : ℕ)
    → n < 2 ^ 31 - 2 ^ 11 → IsApart image last place (below_code n)
    → IsRoutine image last sizes count place 6 4 (below_test n) kept

abbrev pub LawOfMake : Type 0
LawOfMake =
    (image : Image) (last : ℕ) (sizes : Sizes) (count place : ℕ)
    → IsTrue (is_legal sizes) → IsApart image last place (make_code sizes.descr count)
    → IsRoutine image last sizes count place 11 24 make_test (made sizes.descr)

abbrev pub LawOfKind : Type 0
LawOfKind =
    (image : Image) (last : ℕ) (sizes : Sizes) (count place : ℕ)
    → IsTrue (is_legal sizes) → IsApart image last place (kind_code sizes.descr count)
    → IsRoutine image last sizes count place 8 21 kind_test (kinded sizes.descr)

abbrev pub LawOfState : Type 0
LawOfState =
    (image : Image) (last : ℕ) (sizes : Sizes) (count place : ℕ)
    → IsApart image last place state_code
    → IsRoutine image last sizes count place 8 7 state_test state_written
