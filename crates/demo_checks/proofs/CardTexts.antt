-- The text of the card of a number is a card without a fault.
use Rattle.std.proofs.Common.{◌≡◌, ℕ, ◌/◌, ◌%◌, ◌<◌, ◌≤◌, ◌^◌, Bool, true, false, cond, List, [], ◌∷◌, ◌++◌, length, Some, inr, refl, arith}
use Rattle.std.specs.Prelude.{◌==◌, nat_lt, codes, decimal, IsTrue}
use Rattle.std.specs.List.{list_all}
use Rattle.std.proofs.lemmas.Grind.{common_steps}
use Rattle.std.proofs.lemmas.Bool.Decides.{nat_tests}
use Rattle.sil_base.specs.Names.{is_name, is_word}
use Rattle.sil_operands.specs.declared.expr.Factor.TheVariants.{Name, Number}
use Rattle.sil_operands.specs.declared.operand.Operand.{Operand}
use Rattle.sil_operands.specs.declared.operand.Operand.TheVariants.{Expr}
use Rattle.sil_operands.specs.OperandGrammar.{SpellsOperands}
use Rattle.sil_operands.specs.Limits.{are_within_limits}
use Rattle.sil_operands.specs.OperandReading.{operands_of}
use Rattle.sil_cards.specs.CardFields.{Fields, fields_of, is_comment, to_open_blank}
use Rattle.sil_cards.specs.CardVerdicts.{is_card_byte, is_macro, has_operands, other_verdict, verdict, verdict_of_fields, is_end}
use Rattle.demo_source.specs.DemoSource.{demo_card}
use Rattle.demo_checks.specs.DemoCards.{operation_by, field_by}
use Rattle.demo_checks.proofs.Digits.{AreDigits, are_digits}
use Rattle.demo_checks.proofs.Cuts.{open_digits, digit_bytes}

-- what the law of operand fields says
abbrev pub LawOfReading : Type 0
LawOfReading = (field : List ℕ) (operands : List Operand) → SpellsOperands field operands → IsTrue (are_within_limits operands) → operands_of field ≡ Some operands

-- an empty card, which stands for the verdict on a card that is taken
abbrev pub no_fields : Fields
no_fields = record { label = []; operation = []; operands = [] }

-- a text that is a card with these fields, without a fault
pub record IsLine (text : List ℕ) (f : Fields) : Type 0 where
  pub quiet : is_comment text ≡ false
  pub short : length text ≤ 20
  pub bytes : list_all is_card_byte text ≡ true
  pub fields : fields_of text ≡ f
  pub fine : verdict_of_fields 8 f ≡ other_verdict no_fields true

pub taken : (text : List ℕ) (f : Fields) → IsLine text f → verdict 8 text ≡ other_verdict no_fields true
unfolding verdict
taken text f line =
    let few : nat_lt 256 (length text) ≡ false = grind (arith, nat_tests, line.short) in
    rw (line.quiet, few, line.bytes, line.fields) line.fine

pub not_end : (text : List ℕ) (f : Fields) → IsLine text f → is_word f.operation (codes "END") ≡ false → is_end text ≡ false
unfolding is_end
not_end text f line other =
    rw (line.quiet, line.bytes, line.fields, other) (grind arith)

-- ---- the operands

abbrev pub name_expression : List ℕ → Operand
name_expression name = Expr (record { minus = false; factors = Name name ∷ [] } ∷ [])

abbrev pub number_expression : ℕ → Operand
number_expression n = Expr (record { minus = false; factors = Number n ∷ [] } ∷ [])

nothing_more : (bytes : List ℕ) → bytes ≡ bytes ++ []
nothing_more bytes = grind (arith, common_steps)

spelled : (c n : ℕ) (ds : List ℕ) → is_name (c ∷ []) ≡ true → AreDigits n ds → SpellsOperands (c ∷ 44 ∷ ds) (name_expression (c ∷ []) ∷ number_expression n ∷ [])
spelled c n ds name digits = (
  c ∷ [],
  ds,
  refl,
  ([], c ∷ [], [], refl, inr (refl, refl), (refl, name), refl),
  ([], ds, [], nothing_more ds, inr (refl, refl), (digits.number, digits.value), refl),
)

within : (c n : ℕ) → n < 1000 → IsTrue (are_within_limits (name_expression (c ∷ []) ∷ number_expression n ∷ []))
within c n h = let small : nat_lt n (2 ^ 64) ≡ true = grind (arith, nat_tests) in rw small refl

-- a name and a number are read
pub read_pair : (law : LawOfReading) (c n : ℕ) (ds : List ℕ) → is_name (c ∷ []) ≡ true → AreDigits n ds → n < 1000 → operands_of (c ∷ 44 ∷ ds) ≡ Some (name_expression (c ∷ []) ∷ number_expression n ∷ [])
read_pair law c n ds name digits h = law (c ∷ 44 ∷ ds) (name_expression (c ∷ []) ∷ number_expression n ∷ []) (spelled c n ds name digits) (within c n h)

pair_stands : (law : LawOfReading) (c n : ℕ) (ds : List ℕ) → is_name (c ∷ []) ≡ true → AreDigits n ds → n < 1000 → has_operands (c ∷ 44 ∷ ds) ≡ true
unfolding has_operands
pair_stands law c n ds name digits h = rw (read_pair law c n ds name digits h) refl

-- ---- the fields

up_fields : (ds : List ℕ) → to_open_blank false ds ≡ ds → fields_of (codes " INCRA X," ++ ds) ≡ record { label = []; operation = codes "INCRA"; operands = codes "X," ++ ds }
unfolding fields_of
up_fields ds h = rw h refl

down_fields : (ds : List ℕ) → to_open_blank false ds ≡ ds → fields_of (codes " DECRA X," ++ ds) ≡ record { label = []; operation = codes "DECRA"; operands = codes "X," ++ ds }
unfolding fields_of
down_fields ds h = rw h refl

put_fields : (ds : List ℕ) → to_open_blank false ds ≡ ds → fields_of (codes " SETAC Y," ++ ds) ≡ record { label = []; operation = codes "SETAC"; operands = codes "Y," ++ ds }
unfolding fields_of
put_fields ds h = rw h refl

sum_fields : fields_of (codes " SUM X,X,Y") ≡ record { label = []; operation = codes "SUM"; operands = codes "X,X,Y" }
unfolding fields_of
sum_fields = refl

quiet_blank : (c : ℕ) (text : List ℕ) → (c == 32) ≡ false → (c == 9) ≡ false → is_comment (32 ∷ c ∷ text) ≡ false
unfolding is_comment
quiet_blank c text h g = rw (h, g) refl

up_is : is_macro (codes "INCRA") ≡ true
unfolding is_macro
up_is = refl

down_is : is_macro (codes "DECRA") ≡ true
unfolding is_macro
down_is = refl

put_is : is_macro (codes "SETAC") ≡ true
unfolding is_macro
put_is = refl

sum_is : is_macro (codes "SUM") ≡ true
unfolding is_macro
sum_is = refl

sum_stands : has_operands (codes "X,X,Y") ≡ true
unfolding has_operands
sum_stands = refl

-- ---- the four kinds

up_line : (law : LawOfReading) (n : ℕ) (ds : List ℕ) → n < 1000 → AreDigits n ds → IsLine (codes " INCRA X," ++ ds) (record { label = []; operation = codes "INCRA"; operands = codes "X," ++ ds })
up_line law n ds h digits = record {
  quiet = quiet_blank 73 (codes "NCRA X," ++ ds) refl refl;
  short = omega (arith, digits.few);
  bytes = rw (digit_bytes ds digits.digits) refl;
  fields = up_fields ds (open_digits ds digits.digits);
  fine = rw (up_is, pair_stands law 88 n ds refl digits h) refl;
}

down_line : (law : LawOfReading) (n : ℕ) (ds : List ℕ) → n < 1000 → AreDigits n ds → IsLine (codes " DECRA X," ++ ds) (record { label = []; operation = codes "DECRA"; operands = codes "X," ++ ds })
down_line law n ds h digits = record {
  quiet = quiet_blank 68 (codes "ECRA X," ++ ds) refl refl;
  short = omega (arith, digits.few);
  bytes = rw (digit_bytes ds digits.digits) refl;
  fields = down_fields ds (open_digits ds digits.digits);
  fine = rw (down_is, pair_stands law 88 n ds refl digits h) refl;
}

put_line : (law : LawOfReading) (n : ℕ) (ds : List ℕ) → n < 1000 → AreDigits n ds → IsLine (codes " SETAC Y," ++ ds) (record { label = []; operation = codes "SETAC"; operands = codes "Y," ++ ds })
put_line law n ds h digits = record {
  quiet = quiet_blank 83 (codes "ETAC Y," ++ ds) refl refl;
  short = omega (arith, digits.few);
  bytes = rw (digit_bytes ds digits.digits) refl;
  fields = put_fields ds (open_digits ds digits.digits);
  fine = rw (put_is, pair_stands law 89 n ds refl digits h) refl;
}

sum_line : IsLine (codes " SUM X,X,Y") (record { label = []; operation = codes "SUM"; operands = codes "X,X,Y" })
sum_line = record {
  quiet = quiet_blank 83 (codes "UM X,X,Y") refl refl;
  short = omega arith;
  bytes = refl;
  fields = sum_fields;
  fine = rw (sum_is, sum_stands) refl;
}

-- ---- the card of a number

abbrev text_by : Bool → Bool → Bool → List ℕ → List ℕ
text_by a b c ds = cond a (codes " INCRA X," ++ ds) (cond b (codes " DECRA X," ++ ds) (cond c (codes " SETAC Y," ++ ds) (codes " SUM X,X,Y")))

abbrev fields_by : Bool → Bool → Bool → List ℕ → Fields
fields_by a b c ds = record {
  label = [];
  operation = cond a (codes "INCRA") (cond b (codes "DECRA") (cond c (codes "SETAC") (codes "SUM")));
  operands = cond a (codes "X," ++ ds) (cond b (codes "X," ++ ds) (cond c (codes "Y," ++ ds) (codes "X,X,Y")));
}

line_by : (law : LawOfReading) (a b c : Bool) (n : ℕ) (ds : List ℕ) → n < 1000 → AreDigits n ds → IsLine (text_by a b c ds) (fields_by a b c ds)
line_by law true b c n ds h digits = up_line law n ds h digits
line_by law false true c n ds h digits = down_line law n ds h digits
line_by law false false true n ds h digits = put_line law n ds h digits
line_by law false false false n ds h digits = sum_line

goes_on_by : (a b c : Bool) → is_word (cond a (codes "INCRA") (cond b (codes "DECRA") (cond c (codes "SETAC") (codes "SUM")))) (codes "END") ≡ false
goes_on_by true b c = refl
goes_on_by false true c = refl
goes_on_by false false true = refl
goes_on_by false false false = refl

card_by : (a b c : Bool) (ds : List ℕ) → cond a (codes " INCRA X," ++ (ds ++ codes "\n")) (cond b (codes " DECRA X," ++ (ds ++ codes "\n")) (cond c (codes " SETAC Y," ++ (ds ++ codes "\n")) (codes " SUM X,X,Y\n"))) ≡ text_by a b c ds ++ 10 ∷ []
card_by true b c ds = refl
card_by false true c ds = refl
card_by false false true ds = refl
card_by false false false ds = refl

-- its text, without the LF, and its fields
abbrev pub number_text : ℕ → List ℕ
number_text x = text_by ((x / 65536) % 4 == 0) ((x / 65536) % 4 == 1) ((x / 65536) % 4 == 2) (decimal (x % 1000))

abbrev pub number_fields : ℕ → Fields
number_fields x = record { label = []; operation = operation_by ((x / 65536) % 4); operands = field_by ((x / 65536) % 4) (x % 1000) }

pub number_line : (law : LawOfReading) (x : ℕ) → IsLine (number_text x) (number_fields x)
number_line law x =
    let small : x % 1000 < 1000 = omega arith in
    line_by law ((x / 65536) % 4 == 0) ((x / 65536) % 4 == 1) ((x / 65536) % 4 == 2) (x % 1000) (decimal (x % 1000)) small (are_digits (x % 1000) small)

pub number_goes_on : (x : ℕ) → is_word (operation_by ((x / 65536) % 4)) (codes "END") ≡ false
number_goes_on x = goes_on_by ((x / 65536) % 4 == 0) ((x / 65536) % 4 == 1) ((x / 65536) % 4 == 2)

pub number_card_text : (x : ℕ) → demo_card x ≡ number_text x ++ 10 ∷ []
number_card_text x = card_by ((x / 65536) % 4 == 0) ((x / 65536) % 4 == 1) ((x / 65536) % 4 == 2) (decimal (x % 1000))
