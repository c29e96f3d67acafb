-- What the macros that walk characters leave.
use Rattle.std.proofs.Common.{◌≡◌, ℕ, zero, suc, ◌+◌, ◌-◌, ◌*◌, ◌/◌, ◌%◌, ◌^◌, ◌<◌, ◌≤◌, List, [], ◌∷◌, length, Option, Some, None, Bool, true, false, refl, subst, arith, rules}
use Rattle.std.proofs.Math.Facts.{sfits_to_z}
use Rattle.std.proofs.Math.Nat.{mul-le-mul_left}
use Rattle.std.proofs.lemmas.Bool.Decides.{nat_tests}
use Rattle.std.proofs.lemmas.Option.{same_Some}
use Rattle.std.proofs.lemmas.List.Elements.{All-set, All-replicate}
use Rattle.std.specs.Prelude.{ℤ, pos, negsuc, neg_ℤ, All, IfSome, FitsSigned, slice_get, slice_set, nat_lt, nat_le, ◌==◌, ◌&&◌, if◌then◌else◌}
use Rattle.std.specs.Int.{w64}
use Rattle.std.specs.Fmt.{signed_decimal, decimal, digits, digits_onto, digit_glyph}
use Rattle.std.specs.declared.ops.ControlFlow.{ControlFlow}
use Rattle.std.specs.declared.ops.ControlFlow.TheVariants.{Continue, Break}
use Rattle.sil_base.specs.declared.places.TheConstants.{FIRST_CELL}
use Rattle.layout_params.specs.Parameters.{IsPrinted}
use Rattle.sil_model.specs.declared.limits.Limits.{Limits}
use Rattle.sil_model.specs.declared.program.Arg.{Arg}
use Rattle.sil_model.specs.declared.program.Flow.{Flow}
use Rattle.sil_model.specs.Fits.{Bounds, IsWithin}
use Rattle.sil_model.specs.declared.specifier.Specifier.{Specifier}
use Rattle.sil_model.specs.Access.{◌>>=◌, char_at, set_char_at, set_whole_at}
use Rattle.sil_model.specs.Effects.{leads, onward}
use Rattle.sil_model.specs.Integers.{◌⊞◌, wrapped_product}
use Rattle.sil_model.specs.Memory.{Memory, IsMemory}
use Rattle.sil_model.specs.Specifiers.{FitsSpec}
use Rattle.sil_model.proofs.Characters.{writes_set_char}
use Rattle.sil_model.proofs.Keeps.{Keeps, LeadsWithin, Writes, all_at, keeps_here, keeps_read, keeps_then, keeps_write, writes_read, writes_then, writes_set_v, writes_set_whole}
use Rattle.sil_model.proofs.Lawful.{KeepsMemory}
use Rattle.sil_model.proofs.Lists.{spec_fits, writes_set_spec}
use Rattle.sil_model.proofs.Operands.{goto_leads}
use Rattle.string_clauses.specs.StringClauses.{all_blank, apdsp, by_numbers, chars_written, copy_char, counted, date, digit_behind, digit_turn, digits_read, behind_sign, getbal, integer_from, integer_read, integer_set, intspc, is_digit, lexcmp, longer_by, nothing_stands, pair_turn, replace_turn, replaced, replaced_all, rplace, second_of, set_text_at, spcint, trim_char, trim_turn, trimsp, varid, with_sign}
use Rattle.string_clauses.specs.Walks.{each, walk}
use Rattle.string_clauses.proofs.Room.{char_is_byte}
use Rattle.string_clauses.proofs.Turns.{Good, each_gives, each_writes, walk_gives, writes_same}

-- ---- writes

pub copy_writes : (to from : ℤ) (i : ℕ) (m : Memory) → IsMemory m → Writes m (copy_char to from i m)
unfolding copy_char
copy_writes to from i m h = writes_read m (char_at m (from ⊞ pos i)) _ (λ c is. writes_set_char m (to ⊞ pos i) c h (char_is_byte m (from ⊞ pos i) c h is))

pub copies_write : (to from : ℤ) (n : ℕ) (m : Memory) → IsMemory m → Writes m (each (copy_char to from) 0 n m)
copies_write to from n m h = each_writes (copy_char to from) (copy_writes to from) n 0 m h

pub text_writes : (at : ℤ) (cs : List ℕ) (m : Memory) → IsMemory m → All (λ c. c < 256) cs → Writes m (chars_written at cs m)
unfolding chars_written
text_writes at [] m h bytes = writes_same m h
text_writes at (c ∷ cs) m h bytes =
    writes_then m (set_char_at m at c) (λ m'. chars_written (at ⊞ pos 1) cs m') (writes_set_char m at c h (bytes 0 0 (omega arith)))
    (λ m' f. text_writes (at ⊞ pos 1) cs m' f.is_memory (λ i d below. bytes (suc i) d (omega arith)))

zero_fits : FitsSigned w64 (pos 0)
zero_fits = search rules

pub set_text_writes : (m : Memory) (s at : ℤ) (n : ℕ) → IsMemory m → FitsSigned w64 at → Writes m (set_text_at m s at n)
set_text_writes m s at n h fits =
    writes_then m (set_whole_at m s at (pos 0) (pos 0)) (λ m'. set_whole_at m' (second_of m s) (pos 0) (pos 0) (pos n)) (writes_set_whole m s at (pos 0) (pos 0) h fits)
    (λ m' f. writes_set_whole m' (second_of m s) (pos 0) (pos 0) (pos n) f.is_memory zero_fits)

keeps_none : (last : ℕ) (m : Memory) → Keeps last m None
unfolding Keeps
keeps_none last m = tt

pub keeps_leads : (last : ℕ) (m : Memory) (flow : Flow) (o : Option Memory) → LeadsWithin last flow → Writes m o → Keeps last m (leads flow o)
unfolding Keeps Writes
keeps_leads last m flow None l h = tt
keeps_leads last m flow (Some m') l h = (l, h)

-- ---- clauses

pub apdsp_keeps : KeepsMemory apdsp
unfolding apdsp
apdsp_keeps b args m w h = search (keeps_read, keeps_then, keeps_write, copies_write, writes_set_v) depth 24

-- the text of the date
pub date_bytes : (cs : List ℕ) → All IsPrinted cs → All (λ c. c < 256) cs
date_bytes cs h i d below = omega (arith, (h i d below).1)

pub hidden_fits : (statics size : ℕ) → statics ≤ 2 ^ 20 → size ≤ 64 → FitsSigned w64 (pos (FIRST_CELL + statics * size))
hidden_fits statics size few most =
    let short : statics * size ≤ statics * 64 = mul-le-mul_left statics most in
    omega (arith, short, few)

keeps_text : (last : ℕ) (m : Memory) (at s : ℤ) (cs : List ℕ) → IsMemory m → All (λ c. c < 256) cs → FitsSigned w64 at →
    Keeps last m (chars_written at cs m >>= (λ m'. onward (set_text_at m' s at (length cs))))
keeps_text last m at s cs h bytes fits =
    keeps_then last m (chars_written at cs m) (λ m'. onward (set_text_at m' s at (length cs))) (text_writes at cs m h bytes)
    (λ m' h'. keeps_write last m' _ (set_text_writes m' s at (length cs) h' fits))

pub date_keeps : (last : ℕ) (hidden : ℤ) (text : List ℕ) (args : List Arg) (m : Memory) → IsMemory m → All (λ c. c < 256) text → FitsSigned w64 hidden → Keeps last m (date hidden text args m)
unfolding date
date_keeps last hidden text args m h bytes fits = keeps_read last m _ _ (λ s is. keeps_text last m hidden s text h bytes fits)

all_cons : (x : ℕ) (xs : List ℕ) → x < 256 → All (λ c. c < 256) xs → All (λ c. c < 256) (x ∷ xs)
all_cons x xs h rest zero d below = h
all_cons x xs h rest (suc i) d below = rest i d (omega (arith, below))

onto_bytes : (k n : ℕ) (acc : List ℕ) → All (λ c. c < 256) acc → All (λ c. c < 256) (digits_onto k 10 false n acc)
onto_bytes zero n acc h = h
onto_bytes (suc k) n acc h = by (n / 10 == 0) (onto_bytes k (n / 10) (digit_glyph false (n % 10) ∷ acc) (all_cons _ acc glyph h))
  where
    glyph : digit_glyph false (n % 10) < 256
    glyph = grind (arith, nat_tests)

    by : (b : Bool) → All (λ c. c < 256) (digits_onto k 10 false (n / 10) (digit_glyph false (n % 10) ∷ acc)) → All (λ c. c < 256) (if b then digit_glyph false (n % 10) ∷ acc else digits_onto k 10 false (n / 10) (digit_glyph false (n % 10) ∷ acc))
    by true more = all_cons _ acc glyph h
    by false more = more

digit_bytes : (n : ℕ) → All (λ c. c < 256) (decimal n)
unfolding digits
digit_bytes n = onto_bytes 64 n [] (λ i d below. absurd (omega (arith, below)))

pub signed_bytes : (a : ℤ) → All (λ c. c < 256) (signed_decimal a)
signed_bytes (pos n) = digit_bytes n
signed_bytes (negsuc n) = all_cons 45 (decimal (suc n)) (omega arith) (digit_bytes (suc n))

pub intspc_keeps : (last : ℕ) (hidden : ℤ) (args : List Arg) (m : Memory) → IsMemory m → FitsSigned w64 hidden → Keeps last m (intspc hidden args m)
unfolding intspc
intspc_keeps last hidden args m h fits = search (keeps_read, keeps_text, signed_bytes) depth 24

longer_keeps : (last : ℕ) (m : Memory) (s : ℤ) (l : ℕ) (found : Option ℕ) (failure success : Flow) → IsMemory m → LeadsWithin last failure → LeadsWithin last success → Keeps last m (longer_by m s l found failure success)
longer_keeps last m s l None failure success h f g = keeps_here last m failure f h
longer_keeps last m s l (Some j) failure success h f g = keeps_leads last m success _ g (writes_set_v m (second_of m s) (pos (l + j)) h)

pub getbal_keeps : KeepsMemory getbal
unfolding getbal
getbal_keeps b args m w h = search (keeps_read, longer_keeps, goto_leads) depth 24

chosen_leads : (last : ℕ) (b : Bool) (x y : Flow) → LeadsWithin last x → LeadsWithin last y → LeadsWithin last (if b then x else y)
chosen_leads last true x y f g = f
chosen_leads last false x y f g = g

numbers_lead : (last : ℕ) (d : ℕ × ℕ) (greater equal less : Flow) → LeadsWithin last greater → LeadsWithin last equal → LeadsWithin last less → LeadsWithin last (by_numbers d greater equal less)
numbers_lead last d greater equal less f g k = chosen_leads last (nat_lt d.1 d.0) greater _ f (chosen_leads last (nat_lt d.0 d.1) less equal k g)

pub lexcmp_keeps : KeepsMemory lexcmp
unfolding lexcmp
lexcmp_keeps b args m w h = search (keeps_read, keeps_here, goto_leads, numbers_lead) depth 30

product_fits : (x y : ℤ) → FitsSigned w64 (wrapped_product x y)
unfolding wrapped_product
product_fits x y = sfits_to_z (search rules)

pub varid_keeps : (last : ℕ) (buckets : ℕ) (args : List Arg) (m : Memory) → IsMemory m → Keeps last m (varid buckets args m)
unfolding varid
varid_keeps last buckets args m h = search (keeps_read, keeps_write, writes_set_whole, product_fits) depth 24

-- ---- replaced characters

abbrev pub AreBytes : List (Option ℕ) → Type 0
AreBytes table = All (λ o. IfSome o (λ y. y < 256)) table

pair_by : (m : Memory) (at2 at3 : ℤ) (i : ℕ) (table after : List (Option ℕ)) → IsMemory m → AreBytes table → (o p : Option ℕ) → char_at m (at3 ⊞ pos i) ≡ p → (o >>= (λ x. p >>= (λ y. Some (slice_set table x (Some y))))) ≡ Some after → AreBytes after
pair_by m at2 at3 i table after h bytes None p e is = absurd cc
pair_by m at2 at3 i table after h bytes (Some x) None e is = absurd cc
pair_by m at2 at3 i table after h bytes (Some x) (Some y) e is = subst AreBytes (same_Some _ after is) (All-set (λ o. IfSome o (λ z. z < 256)) table x (Some y) (char_is_byte m (at3 ⊞ pos i) y h e) bytes)

pair_gives : (m : Memory) (at2 at3 : ℤ) (i : ℕ) (table after : List (Option ℕ)) → IsMemory m → AreBytes table → pair_turn m at2 at3 i table ≡ Some after → AreBytes after
unfolding pair_turn
pair_gives m at2 at3 i table after h bytes is = pair_by m at2 at3 i table after h bytes (char_at m (at2 ⊞ pos i)) (char_at m (at3 ⊞ pos i)) refl is

pub pairs_give : (m : Memory) (at2 at3 : ℤ) (n : ℕ) (table : List (Option ℕ)) → IsMemory m → each (pair_turn m at2 at3) 0 n nothing_stands ≡ Some table → AreBytes table
pairs_give m at2 at3 n table h is = each_gives (pair_turn m at2 at3) AreBytes (λ i s t p e. pair_gives m at2 at3 i s t h p e) n 0 nothing_stands table (All-replicate (λ o. IfSome o (λ y. y < 256)) 256 None tt) is

replaced_writes : (m : Memory) (at : ℤ) (o : Option (Option ℕ)) → IsMemory m → ((y : ℕ) → o ≡ Some (Some y) → y < 256) → Writes m (replaced m at o)
replaced_writes m at None h byte = writes_same m h
replaced_writes m at (Some None) h byte = writes_same m h
replaced_writes m at (Some (Some y)) h byte = writes_set_char m at y h (byte y refl)

pub replace_writes : (table : List (Option ℕ)) (at : ℤ) (i : ℕ) (m : Memory) → AreBytes table → IsMemory m → Writes m (replace_turn table at i m)
unfolding replace_turn
replace_writes table at i m bytes h =
    writes_read m (char_at m (at ⊞ pos i)) _ (λ c is. replaced_writes m (at ⊞ pos i) (slice_get table c) h (λ y e. all_at (λ o. IfSome o (λ z. z < 256)) table c (Some y) bytes e))

all_replaced_keep : (last : ℕ) (m : Memory) (at1 : ℤ) (l1 : ℕ) (at2 : ℤ) (l2 : ℕ) (at3 : ℤ) (l3 : ℕ) → IsMemory m → Keeps last m (replaced_all m at1 l1 at2 l2 at3 l3)
all_replaced_keep last m at1 l1 at2 l2 at3 l3 h = chosen (l2 == l3)
  where
    chosen : (b : Bool) → Keeps last m (if b then (each (pair_turn m at2 at3) 0 l2 nothing_stands >>= (λ table. onward (each (replace_turn table at1) 0 l1 m))) else None)
    chosen true = keeps_read last m _ _ (λ table is. keeps_write last m _ (each_writes (replace_turn table at1) (λ i m' h'. replace_writes table at1 i m' (pairs_give m at2 at3 l2 table h is) h') l1 0 m h))
    chosen false = keeps_none last m

pub rplace_keeps : KeepsMemory rplace
unfolding rplace
rplace_keeps b args m w h = search (keeps_read, all_replaced_keep) depth 30

-- ---- integers that are read

digit_by : (limit n : ℕ) (t : ControlFlow (Option ℕ) ℕ) (o : Option ℕ) → (o >>= (λ c. Some (digit_behind limit c n))) ≡ Some t → Good (λ k. k ≤ limit) (λ o. IfSome o (λ k. k ≤ limit)) t
digit_by limit n t None is = absurd cc
digit_by limit n t (Some c) is = subst (Good (λ k. k ≤ limit) (λ o. IfSome o (λ k. k ≤ limit))) (same_Some _ t is) (by (is_digit c) (nat_le (10 * n + (c - 48)) limit) refl)
  where
    by : (a b : Bool) → nat_le (10 * n + (c - 48)) limit ≡ b → Good (λ k. k ≤ limit) (λ o. IfSome o (λ k. k ≤ limit)) (if a && b then Continue (10 * n + (c - 48)) else Break None)
    by true true e = grind (arith, nat_tests, e)
    by true false e = tt
    by false b e = tt

negative_fits : (n : ℕ) → n ≤ 2 ^ 63 → FitsSigned w64 (neg_ℤ (pos n))
negative_fits zero le = zero_fits
negative_fits (suc n) le = omega (arith, le)

digit_gives : (m : Memory) (at : ℤ) (limit i n : ℕ) (t : ControlFlow (Option ℕ) ℕ) → digit_turn m at limit i n ≡ Some t → Good (λ k. k ≤ limit) (λ o. IfSome o (λ k. k ≤ limit)) t
unfolding digit_turn
digit_gives m at limit i n t is = digit_by limit n t (char_at m (at ⊞ pos i)) is

digits_fit : (m : Memory) (at : ℤ) (limit i n : ℕ) (found : Option ℕ) → digits_read m at limit i n ≡ Some found → IfSome found (λ k. k ≤ limit)
digits_fit m at limit i n found is = walk_gives (digit_turn m at limit) counted (λ k. k ≤ limit) (λ o. IfSome o (λ k. k ≤ limit)) (λ s q. q) (λ j s t q e. digit_gives m at limit j s t e) n i 0 found (omega arith) is

abbrev AllFit : Option (Option ℤ) → Type 0
AllFit o = IfSome o (λ found. IfSome found (FitsSigned w64))

sign_fits : (negative : Bool) (o : Option (Option ℕ)) → ((found : Option ℕ) → o ≡ Some found → IfSome found (λ k. k ≤ 2 ^ 63 - 1)) → AllFit (with_sign negative o)
sign_fits negative None fit = tt
sign_fits negative (Some None) fit = tt
sign_fits false (Some (Some n)) fit = (let le = fit (Some n) refl in omega (arith, le))
sign_fits true (Some (Some n)) fit = (let le = fit (Some n) refl in negative_fits n (omega (arith, le)))

minus_fits : (o : Option (Option ℕ)) → ((found : Option ℕ) → o ≡ Some found → IfSome found (λ k. k ≤ 2 ^ 63)) → AllFit (with_sign true o)
minus_fits None fit = tt
minus_fits (Some None) fit = tt
minus_fits (Some (Some n)) fit = negative_fits n (fit (Some n) refl)

behind_gives : (n : ℕ) (o : Option (Option ℕ)) (P : ℕ → Type 0) → ((found : Option ℕ) → o ≡ Some found → IfSome found P) → (found : Option ℕ) → behind_sign n o ≡ Some found → IfSome found P
behind_gives zero o P all found e = subst (λ f. IfSome f P) (same_Some None found e) tt
behind_gives (suc n) o P all found e = all found e

from_fits : (m : Memory) (at : ℤ) (n c : ℕ) → AllFit (integer_from m at n c)
from_fits m at n c = by (c == 45) (c == 43)
  where
    by : (a b : Bool) → AllFit (if a then with_sign true (behind_sign n (digits_read m at (2 ^ 63) 1 n)) else (if b then with_sign false (behind_sign n (digits_read m at (2 ^ 63 - 1) 1 n)) else with_sign false (digits_read m at (2 ^ 63 - 1) 0 (suc n))))
    by true b = minus_fits _ (behind_gives n _ (λ k. k ≤ 2 ^ 63) (λ found e. digits_fit m at (2 ^ 63) 1 n found e))
    by false true = sign_fits false _ (behind_gives n _ (λ k. k ≤ 2 ^ 63 - 1) (λ found e. digits_fit m at (2 ^ 63 - 1) 1 n found e))
    by false false = sign_fits false _ (λ found e. digits_fit m at (2 ^ 63 - 1) 0 (suc n) found e)

read_fits : (m : Memory) (at : ℤ) (n : ℕ) → AllFit (integer_read m at n)
unfolding integer_read
read_fits m at zero = zero_fits
read_fits m at (suc n) = by (char_at m (at ⊞ pos 0))
  where
    by : (o : Option ℕ) → AllFit (o >>= integer_from m at n)
    by None = tt
    by (Some c) = from_fits m at n c

found_fits : (o : Option (Option ℤ)) (found : Option ℤ) → AllFit o → o ≡ Some found → IfSome found (FitsSigned w64)
found_fits None found fit e = absurd cc
found_fits (Some x) found fit e = subst (λ f. IfSome f (FitsSigned w64)) (same_Some x found e) fit

set_keeps : (last : ℕ) (m : Memory) (d : ℤ) (code : ℕ) (found : Option ℤ) (failure success : Flow) → IsMemory m → IfSome found (FitsSigned w64) → LeadsWithin last failure → LeadsWithin last success → Keeps last m (integer_set m d code found failure success)
set_keeps last m d code None failure success h fits f g = keeps_here last m failure f h
set_keeps last m d code (Some a) failure success h fits f g = keeps_leads last m success _ g (writes_set_whole m d a (pos 0) (pos code) h fits)

answer_fits : (m : Memory) (at : ℤ) (n : ℕ) (found : Option ℤ) → integer_read m at n ≡ Some found → IfSome found (FitsSigned w64)
answer_fits m at n found e = found_fits (integer_read m at n) found (read_fits m at n) e

pub spcint_keeps : (b : Bounds) (int_code : Option ℕ) (args : List Arg) (m : Memory) → All (IsWithin b) args → IsMemory m → Keeps b.statements m (spcint int_code args m)
unfolding spcint
spcint_keeps b int_code args m w h = search (keeps_read, set_keeps, goto_leads, answer_fits) depth 30

-- ---- a length without blanks

trim_by : (most left : ℕ) (t : ControlFlow ℕ ℕ) (o : Option ℕ) → left ≤ most → (o >>= (λ c. Some (trim_char left c))) ≡ Some t → Good (λ k. k ≤ most) (λ k. k ≤ most) t
trim_by most left t None le is = absurd cc
trim_by most left t (Some c) le is = subst (Good (λ k. k ≤ most) (λ k. k ≤ most)) (same_Some _ t is) (by (c == 32))
  where
    by : (b : Bool) → Good (λ k. k ≤ most) (λ k. k ≤ most) (if b then Continue (left - 1) else Break left)
    by true = omega (arith, le)
    by false = le

trim_gives : (m : Memory) (at : ℤ) (most i left : ℕ) (t : ControlFlow ℕ ℕ) → left ≤ most → trim_turn m at i left ≡ Some t → Good (λ k. k ≤ most) (λ k. k ≤ most) t
unfolding trim_turn
trim_gives m at most i left t le is = trim_by most left t (char_at m (at ⊞ pos (left - 1))) le is

trimmed_fits : (m : Memory) (at : ℤ) (n l : ℕ) → walk (trim_turn m at) all_blank 0 n n ≡ Some l → l ≤ n
trimmed_fits m at n l is = walk_gives (trim_turn m at) all_blank (λ k. k ≤ n) (λ k. k ≤ n) (λ s q. q) (λ i s t q e. trim_gives m at n i s t q e) n 0 n l (omega arith) is

pub shorter_fits : (limits : Limits) (s : Specifier) (l : ℕ) → FitsSpec limits s → l ≤ s.l → FitsSpec limits (record s { l = l })
shorter_fits limits s l fit le = record { a = fit.a; f = fit.f; v = fit.v; o = fit.o; l = omega (arith, le, fit.l) }

pub trimsp_keeps : KeepsMemory trimsp
unfolding trimsp
trimsp_keeps b args m w h = search (keeps_read, keeps_write, writes_set_spec, shorter_fits, spec_fits, trimmed_fits) depth 30
