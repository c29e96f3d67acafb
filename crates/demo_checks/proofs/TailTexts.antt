-- The texts of the last eight cards are cards without a fault.
use Rattle.std.proofs.Common.{◌≡◌, ℕ, true, List, [], refl, arith}
use Rattle.std.specs.Prelude.{codes}
use Rattle.sil_cards.specs.CardFields.{Fields, fields_of, is_comment}
use Rattle.sil_cards.specs.CardVerdicts.{is_macro, has_operands, is_end}
use Rattle.demo_checks.proofs.CardTexts.{IsLine}

abbrev pub fields_as : List ℕ → List ℕ → List ℕ → Fields
fields_as label operation operands = record { label = label; operation = operation; operands = operands }

pub output_line : IsLine (codes " OUTPUT U,F,(X)") (fields_as [] (codes "OUTPUT") (codes "U,F,(X)"))
unfolding is_comment fields_of is_macro has_operands
output_line = record { quiet = refl; short = omega arith; bytes = refl; fields = refl; fine = refl }

pub endex_line : IsLine (codes " ENDEX Z") (fields_as [] (codes "ENDEX") (codes "Z"))
unfolding is_comment fields_of is_macro has_operands
endex_line = record { quiet = refl; short = omega arith; bytes = refl; fields = refl; fine = refl }

pub x_line : IsLine (codes "X DESCR") (fields_as (codes "X") (codes "DESCR") [])
unfolding is_comment fields_of is_macro has_operands
x_line = record { quiet = refl; short = omega arith; bytes = refl; fields = refl; fine = refl }

pub y_line : IsLine (codes "Y DESCR") (fields_as (codes "Y") (codes "DESCR") [])
unfolding is_comment fields_of is_macro has_operands
y_line = record { quiet = refl; short = omega arith; bytes = refl; fields = refl; fine = refl }

pub z_line : IsLine (codes "Z DESCR") (fields_as (codes "Z") (codes "DESCR") [])
unfolding is_comment fields_of is_macro has_operands
z_line = record { quiet = refl; short = omega arith; bytes = refl; fields = refl; fine = refl }

pub u_line : IsLine (codes "U DESCR UNITO") (fields_as (codes "U") (codes "DESCR") (codes "UNITO"))
unfolding is_comment fields_of is_macro has_operands
u_line = record { quiet = refl; short = omega arith; bytes = refl; fields = refl; fine = refl }

pub f_line : IsLine (codes "F FORMAT '(I20)'") (fields_as (codes "F") (codes "FORMAT") (codes "'(I20)'"))
unfolding is_comment fields_of is_macro has_operands
f_line = record { quiet = refl; short = omega arith; bytes = refl; fields = refl; fine = refl }

pub end_line : IsLine (codes " END") (fields_as [] (codes "END") [])
unfolding is_comment fields_of is_macro has_operands
end_line = record { quiet = refl; short = omega arith; bytes = refl; fields = refl; fine = refl }

pub ends : is_end (codes " END") ≡ true
unfolding is_end is_comment fields_of
ends = refl
