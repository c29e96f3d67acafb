-- The locations, the lists and the formats of a well formed program's statements, and its special symbols.
use Rattle.std.proofs.Common.{◌≡◌, ℕ, ◌<◌, ◌≤◌, ◌^◌, List, [], ◌∷◌, ◌++◌, Option, Some, None, length, length-append, subst, sym, ap, arith}
use Rattle.std.proofs.lemmas.List.Elements.{All-head, All-tail}
use Rattle.std.specs.Prelude.{All, IfSome, slice_get, slice_index_or, sum_by}
use Rattle.layout_params.specs.Sizes.{Sizes, value_limit}
use Rattle.layout_params.specs.Parameters.{Settings}
use Rattle.std.proofs.lemmas.List.Sums.{sum_by-cons}
use Rattle.sil_format.specs.FormatGrammar.{IsFormat}
use Rattle.sil_model.specs.declared.program.Arg.{Arg}
use Rattle.sil_model.specs.declared.program.Arg.TheVariants.{Format, Goto, Gotos, Places}
use Rattle.sil_model.specs.declared.program.Program.{Program}
use Rattle.sil_model.specs.declared.program.Statement.{Statement}
use Rattle.sil_model.proofs.Keeps.{all_at}
use Rattle.sil_model.specs.Fits.{Bounds, bounds_of, FitsRow, IsStatement, IsWithin}
use Rattle.sil_model.specs.WellFormed.{AreSpecials, IsWellFormed}
use Rattle.exp_common.specs.Locations.{IsAmong, LocatesWithin}
use Rattle.exp_common.specs.Allowed.{AreAmong, HasFewItems}
use Rattle.exp_units.specs.InFormats.{HasFormat}

among : (b : Bounds) (location : Option ℕ) → IsStatement b location → IsAmong b.statements location
among b None h = h
among b (Some k) h = h

locates : (b : Bounds) (arg : Arg) → IsWithin b arg → LocatesWithin b.statements arg
locates b (Goto location) h = among b location h
locates b (Gotos locations) h = λ k d lt. among b (slice_index_or locations k d) (h.1 k d lt)
locates b _ h = tt

-- they lead to statements
pub all_locate : (b : Bounds) (count : ℕ) (args : List Arg) → count ≡ b.statements → All (IsWithin b) args → All (LocatesWithin count) args
all_locate b count args e h = subst (λ n. All (LocatesWithin n) args) (sym e) (λ k d lt. locates b (slice_index_or args k d) (h k d lt))

-- those of the statement of a number
pub located : (program : Program) (settings : Settings) (k count : ℕ) (statement : Statement) → All (FitsRow (bounds_of program settings)) program.statements → slice_get program.statements k ≡ Some statement → count ≡ length program.statements → All (LocatesWithin count) statement.args
located program settings k count statement rows is e = all_locate (bounds_of program settings) count statement.args e (all_at (FitsRow (bounds_of program settings)) program.statements k statement rows is).within

-- ---- lists, and special symbols

few : (b : Bounds) (arg : Arg) → IsWithin b arg → HasFewItems arg
few b (Places ats) h = h.0
few b (Gotos locations) h = h.0
few b _ h = tt

-- the lists of the statement of a number
pub few_items : (program : Program) (settings : Settings) (k : ℕ) (statement : Statement) → All (FitsRow (bounds_of program settings)) program.statements → slice_get program.statements k ≡ Some statement → All HasFewItems statement.args
few_items program settings k statement rows is =
    let h = (all_at (FitsRow (bounds_of program settings)) program.statements k statement rows is).within in
    λ i d lt. few (bounds_of program settings) (slice_index_or statement.args i d) (h i d lt)

pub specials_among : (program : Program) (settings : Settings) (count : ℕ) → AreSpecials program settings → count ≡ length program.statements → AreAmong count program.specials
specials_among program settings count h e =
    record {
      over = subst (λ n. IfSome program.specials.over (λ k. k < n)) (sym e) h.over;
      under = subst (λ n. IfSome program.specials.under (λ k. k < n)) (sym e) h.under;
    }

-- the value of I is small
small_value : (o : Option ℕ) (s : Sizes) → IfSome o (λ v. v ≤ value_limit s) → IfSome o (λ v. v < 2 ^ 63)
small_value None s h = tt
small_value (Some v) s h = omega (arith, h)

pub small_code : (program : Program) (settings : Settings) → AreSpecials program settings → IfSome program.specials.int_code (λ v. v < 2 ^ 63)
small_code program settings h = small_value program.specials.int_code settings.sizes h.int_code

-- ---- formats

has_format : (b : Bounds) (arg : Arg) → IsWithin b arg → HasFormat b.formats arg
has_format b (Format text) h = h
has_format b _ h = tt

-- those of the statement of a number
pub formats_there : (program : Program) (settings : Settings) (k : ℕ) (formats : List (List ℕ)) (statement : Statement) → All (FitsRow (bounds_of program settings)) program.statements → slice_get program.statements k ≡ Some statement → formats ≡ program.formats → All (HasFormat formats) statement.args
formats_there program settings k formats statement rows is e =
    let h = (all_at (FitsRow (bounds_of program settings)) program.statements k statement rows is).within in
    subst (λ l. All (HasFormat l) statement.args) (sym e) (λ i d lt. has_format (bounds_of program settings) (slice_index_or statement.args i d) (h i d lt))

-- a format has brackets
has_bytes : (bytes : List ℕ) → IsFormat bytes → 1 ≤ length bytes
has_bytes bytes h =
    let s = h.1 in
    omega (arith, ap length s.3, length-append s.0 (40 ∷ (s.1 ++ 41 ∷ s.2)))

no_more : (formats : List (List ℕ)) → All IsFormat formats → length formats ≤ sum_by length formats
no_more [] h = omega arith
no_more (bytes ∷ formats) h = omega (arith, has_bytes bytes (All-head IsFormat bytes formats h), no_more formats (All-tail IsFormat bytes formats h), sum_by-cons (length {A = ℕ}) bytes formats)

-- they can be numbered
pub few_formats : (program : Program) (settings : Settings) (formats : List (List ℕ)) → IsWellFormed program settings → formats ≡ program.formats → length formats < 2 ^ 32
few_formats program settings formats h e = omega (arith, ap length e, no_more program.formats h.formats, h.format_bytes)
