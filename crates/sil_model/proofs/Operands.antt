-- Operands within their bounds lead to statements and fit; so do the results of arithmetic.
use Rattle.std.proofs.Common.{◌≡◌, ℕ, ◌≤◌, List, Option, Some, None, ℤ, pos, negsuc, zero, suc, [], ◌∷◌, length, refl, subst, arith, rules}
use Rattle.std.proofs.Math.Facts.{sfits_to_z}
use Rattle.std.specs.Prelude.{All, FitsSigned, slice_get}
use Rattle.std.specs.Int.{w64}
use Rattle.std.proofs.lemmas.Option.{same_Some}
use Rattle.layout_params.specs.declared.cell.Descr.{Descr as Descriptor}
use Rattle.sil_model.specs.declared.program.Arg.{Arg}
use Rattle.sil_model.specs.declared.program.Arg.TheVariants.{Absent, Place, Number, Flag, Goto, Table, Key, Format, Places, Gotos}
use Rattle.sil_model.specs.declared.program.Flow.{Flow}
use Rattle.sil_model.specs.Access.{◌>>=◌, descr_at, a_at, v_at, integer_alone}
use Rattle.sil_model.specs.Arguments.{as_number, as_goto, as_gotos, as_places, as_maybe_places, at_place, flow_to, number_at, goto_at, gotos_at, places_at, maybe_places_at, nth_location}
use Rattle.sil_model.specs.OperandCounts.{item_count, listed, operand_count}
use Rattle.sil_model.specs.Fits.{Bounds, IsStatement, IsWithin}
use Rattle.sil_model.specs.Integers.{◌⊟◌, wrapped_difference, wrapped_product, in_range}
use Rattle.sil_model.specs.Memory.{Memory, IsMemory, FitsDescr}
use Rattle.sil_model.proofs.Keeps.{LeadsWithin, all_at, fits_descr_at}

-- ---- locations and numbers

argument_leads : (b : Bounds) (arg : Arg) (flow : Flow) → IsWithin b arg → as_goto arg ≡ Some flow → LeadsWithin b.statements flow
argument_leads b (Goto None) flow w is = subst (LeadsWithin b.statements) (same_Some (flow_to None) flow is) tt
argument_leads b (Goto (Some k)) flow w is = subst (LeadsWithin b.statements) (same_Some (flow_to (Some k)) flow is) (omega (arith, w))
argument_leads b Absent flow w is = cc
argument_leads b (Place at) flow w is = cc
argument_leads b (Number n) flow w is = cc
argument_leads b (Flag f) flow w is = cc
argument_leads b (Table t) flow w is = cc
argument_leads b (Key k) flow w is = cc
argument_leads b (Format t) flow w is = cc
argument_leads b (Places t) flow w is = cc
argument_leads b (Gotos t) flow w is = cc

found_leads : (b : Bounds) (args : List Arg) (i : ℕ) (o : Option Arg) (flow : Flow) → All (IsWithin b) args → slice_get args i ≡ o → (o >>= as_goto) ≡ Some flow → LeadsWithin b.statements flow
found_leads b args i None flow w e is = cc
found_leads b args i (Some arg) flow w e is = argument_leads b arg flow (all_at (IsWithin b) args i arg w e) is

pub goto_leads : (b : Bounds) (args : List Arg) (i : ℕ) (flow : Flow) → All (IsWithin b) args → goto_at args i ≡ Some flow → LeadsWithin b.statements flow
goto_leads b args i flow w is = found_leads b args i (slice_get args i) flow w refl is

argument_fits : (b : Bounds) (arg : Arg) (n : ℤ) → IsWithin b arg → as_number arg ≡ Some n → FitsSigned w64 n
argument_fits b (Number n) m w is = subst (FitsSigned w64) (same_Some n m is) w
argument_fits b (Goto location) n w is = cc
argument_fits b Absent n w is = cc
argument_fits b (Place at) n w is = cc
argument_fits b (Flag f) n w is = cc
argument_fits b (Table t) n w is = cc
argument_fits b (Key k) n w is = cc
argument_fits b (Format t) n w is = cc
argument_fits b (Places t) n w is = cc
argument_fits b (Gotos t) n w is = cc

found_fits : (b : Bounds) (args : List Arg) (i : ℕ) (o : Option Arg) (n : ℤ) → All (IsWithin b) args → slice_get args i ≡ o → (o >>= as_number) ≡ Some n → FitsSigned w64 n
found_fits b args i None n w e is = cc
found_fits b args i (Some arg) n w e is = argument_fits b arg n (all_at (IsWithin b) args i arg w e) is

pub number_fits : (b : Bounds) (args : List Arg) (i : ℕ) (n : ℤ) → All (IsWithin b) args → number_at args i ≡ Some n → FitsSigned w64 n
number_fits b args i n w is = found_fits b args i (slice_get args i) n w refl is

-- ---- lists

places_from : (b : Bounds) (o : Option Arg) (ats : List ℤ) → ((arg : Arg) → o ≡ Some arg → IsWithin b arg) → (o >>= as_places) ≡ Some ats → length ats ≤ 40
places_from b None ats h e = cc
places_from b (Some (Places xs)) ats h e = let few = (h (Places xs) refl).0 in let same : xs ≡ ats = same_Some xs ats e in subst (λ (l : List ℤ). length l ≤ 40) same few
places_from b (Some _) ats h e = cc

pub few_places : (b : Bounds) (args : List Arg) (i : ℕ) (ats : List ℤ) → All (IsWithin b) args → places_at args i ≡ Some ats → length ats ≤ 40
few_places b args i ats w e = places_from b (slice_get args i) ats (λ arg is. all_at (IsWithin b) args i arg w is) e

maybe_places_from : (b : Bounds) (o : Option Arg) (ats : List ℤ) → ((arg : Arg) → o ≡ Some arg → IsWithin b arg) → (o >>= as_maybe_places) ≡ Some ats → length ats ≤ 40
maybe_places_from b None ats h e = cc
maybe_places_from b (Some Absent) ats h e = let none : [] ≡ ats = same_Some [] ats e in subst (λ (l : List ℤ). length l ≤ 40) none (omega arith)
maybe_places_from b (Some (Places xs)) ats h e = let few = (h (Places xs) refl).0 in let same : xs ≡ ats = same_Some xs ats e in subst (λ (l : List ℤ). length l ≤ 40) same few
maybe_places_from b (Some _) ats h e = cc

pub few_maybe_places : (b : Bounds) (args : List Arg) (i : ℕ) (ats : List ℤ) → All (IsWithin b) args → maybe_places_at args i ≡ Some ats → length ats ≤ 40
few_maybe_places b args i ats w e = maybe_places_from b (slice_get args i) ats (λ arg is. all_at (IsWithin b) args i arg w is) e

gotos_from : (b : Bounds) (o : Option Arg) (locations : List (Option ℕ)) → ((arg : Arg) → o ≡ Some arg → IsWithin b arg) → (o >>= as_gotos) ≡ Some locations → All (IsStatement b) locations
gotos_from b None locations h e = cc
gotos_from b (Some (Gotos ks)) locations h e = subst (All (IsStatement b)) (same_Some ks locations e) (h (Gotos ks) refl).1
gotos_from b (Some _) locations h e = cc

pub gotos_within : (b : Bounds) (args : List Arg) (i : ℕ) (locations : List (Option ℕ)) → All (IsWithin b) args → gotos_at args i ≡ Some locations → All (IsStatement b) locations
gotos_within b args i locations w e = gotos_from b (slice_get args i) locations (λ arg is. all_at (IsWithin b) args i arg w is) e

placed_within : (b : Bounds) (locations : List (Option ℕ)) (n : ℕ) (o : Option (Option ℕ)) → All (IsStatement b) locations → slice_get locations n ≡ o → IsStatement b (at_place o)
placed_within b locations n None h is = tt
placed_within b locations n (Some location) h is = all_at (IsStatement b) locations n location h is

pub nth_within : (b : Bounds) (locations : List (Option ℕ)) (n : ℤ) → All (IsStatement b) locations → IsStatement b (nth_location locations n)
unfolding nth_location
nth_within b locations (negsuc n) h = tt
nth_within b locations (pos zero) h = tt
nth_within b locations (pos (suc n)) h = placed_within b locations n (slice_get locations n) h refl

flow_leads : (b : Bounds) (location : Option ℕ) → IsStatement b location → LeadsWithin b.statements (flow_to location)
flow_leads b None h = tt
flow_leads b (Some k) h = omega arith

pub nth_leads : (b : Bounds) (locations : List (Option ℕ)) (n : ℤ) → All (IsStatement b) locations → LeadsWithin b.statements (flow_to (nth_location locations n))
nth_leads b locations n h = flow_leads b (nth_location locations n) (nth_within b locations n h)

-- a list has no more items than all operands
items_of : (arg : Arg) → listed (as_places arg) ≤ item_count arg
items_of (Places ats) = omega arith
items_of _ = omega arith

maybe_items_of : (arg : Arg) → listed (as_maybe_places arg) ≤ item_count arg
maybe_items_of (Places ats) = omega arith
maybe_items_of _ = omega arith

pub items_most : (args : List Arg) (i : ℕ) → listed (places_at args i) ≤ operand_count args
items_most [] i = omega arith
items_most (arg ∷ args) zero = omega (arith, items_of arg)
items_most (arg ∷ args) (suc i) = omega (arith, items_most args i)

pub maybe_items_most : (args : List Arg) (i : ℕ) → listed (maybe_places_at args i) ≤ operand_count args
maybe_items_most [] i = omega arith
maybe_items_most (arg ∷ args) zero = omega (arith, maybe_items_of arg)
maybe_items_most (arg ∷ args) (suc i) = omega (arith, maybe_items_most args i)

-- ---- fields and results

fits_a_of : (m : Memory) (at a : ℤ) (o : Option Descriptor) → IsMemory m → descr_at m at ≡ o → (o >>= (λ d. Some d.a)) ≡ Some a → FitsSigned w64 a
fits_a_of m at a None h e is = cc
fits_a_of m at a (Some d) h e is = subst (FitsSigned w64) (same_Some d.a a is) (fits_descr_at m at d h e).0

pub fits_a_at : (m : Memory) (at a : ℤ) → IsMemory m → a_at m at ≡ Some a → FitsSigned w64 a
fits_a_at m at a h is = fits_a_of m at a (descr_at m at) h refl is

fits_v_of : (m : Memory) (at : ℤ) (v : ℕ) (o : Option Descriptor) → IsMemory m → descr_at m at ≡ o → (o >>= (λ d. Some d.v)) ≡ Some v → v ≤ m.limits.value_limit
fits_v_of m at v None h e is = cc
fits_v_of m at v (Some d) h e is = subst (λ n. n ≤ m.limits.value_limit) (same_Some d.v v is) (fits_descr_at m at d h e).2

pub fits_value_alone : (m : Memory) (at : ℤ) (v : ℕ) → IsMemory m → v_at m at ≡ Some v → FitsDescr m.limits (integer_alone (pos v))
fits_value_alone m at v h is = (omega (arith, fits_v_of m at v (descr_at m at) h refl is, h.limits.values), omega arith, omega arith)

-- what wraps fits
pub difference_fits : (x y : ℤ) → FitsSigned w64 (x ⊟ y)
unfolding wrapped_difference
difference_fits x y = sfits_to_z (search rules)

product_fits : (x y : ℤ) → FitsSigned w64 (wrapped_product x y)
unfolding wrapped_product
product_fits x y = sfits_to_z (search rules)

pub fits_product_alone : (m : Memory) (x y : ℤ) → FitsDescr m.limits (integer_alone (wrapped_product x y))
fits_product_alone m x y = (product_fits x y, omega arith, omega arith)

-- what is in range fits
pub range_fits : (z a : ℤ) → in_range z ≡ Some a → FitsSigned w64 a
unfolding in_range
range_fits (pos n) a is = grind (arith, is)
range_fits (negsuc n) a is = grind (arith, is)
