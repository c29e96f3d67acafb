-- What is read of a list of places fits, and what is written to one leaves memory.
use Rattle.std.proofs.Common.{◌≡◌, List, [], ◌∷◌, Option, Some, None, ℤ, pos, refl, subst, arith}
use Rattle.std.proofs.lemmas.Option.{same_Some}
use Rattle.layout_params.specs.declared.cell.Descr.{Descr as Descriptor}
use Rattle.sil_model.specs.declared.limits.Limits.{Limits}
use Rattle.sil_model.specs.declared.specifier.Specifier.{Specifier}
use Rattle.sil_model.specs.Access.{◌>>=◌, descr_at, set_descr_at}
use Rattle.sil_model.specs.Integers.{◌⊞◌}
use Rattle.sil_model.specs.Lists.{all_read, all_written, all_specs_read, all_specs_written}
use Rattle.sil_model.specs.Memory.{Memory, IsMemory, FitsDescr}
use Rattle.sil_model.specs.Specifiers.{FitsSpec, spec_at, set_spec_at}
use Rattle.sil_model.proofs.Keeps.{Follows, Writes, fits_descr_at, followed, same, writes_set_descr, writes_then}

-- ---- descriptors

abbrev pub AllFit : Limits → List Descriptor → Type 0
AllFit limits [] = Unit {0}
AllFit limits (d ∷ ds) = FitsDescr limits d × AllFit limits ds

read_first : (m : Memory) (at : ℤ) (o : Option Descriptor) (rest : Option (List Descriptor)) (ds : List Descriptor) → IsMemory m → descr_at m at ≡ o → (o >>= (λ d. rest >>= (λ more. Some (d ∷ more)))) ≡ Some ds →
    ((more : List Descriptor) → rest ≡ Some more → AllFit m.limits more) → AllFit m.limits ds
read_first m at None rest ds h e is fit = cc
read_first m at (Some d) None ds h e is fit = cc
read_first m at (Some d) (Some more) ds h e is fit = subst (AllFit m.limits) (same_Some (d ∷ more) ds is) (fits_descr_at m at d h e, fit more refl)

pub all_read_fits : (m : Memory) (ats : List ℤ) (ds : List Descriptor) → IsMemory m → all_read m ats ≡ Some ds → AllFit m.limits ds
unfolding all_read
all_read_fits m [] ds h is = subst (AllFit m.limits) (same_Some [] ds is) tt
all_read_fits m (at ∷ ats) ds h is = read_first m at (descr_at m at) (all_read m ats) ds h refl is (λ more e. all_read_fits m ats more h e)

writes_same : (m : Memory) → IsMemory m → Writes m (Some m)
unfolding Writes
writes_same m h = same m h

pub writes_all : (ats : List ℤ) (ds : List Descriptor) (m : Memory) → IsMemory m → AllFit m.limits ds → Writes m (all_written m ats ds)
unfolding all_written
writes_all [] ds m h fit = writes_same m h
writes_all (at ∷ ats) [] m h fit = writes_same m h
writes_all (at ∷ ats) (d ∷ ds) m h fit =
    writes_then m (set_descr_at m at d) (λ m'. all_written m' ats ds) (writes_set_descr m at d h fit.0) (λ m' f. writes_all ats ds m' f.is_memory (rw f.shape.limits fit.1))

-- what was read at some places and written at others
pub carried : (m m' : Memory) (sources targets : List ℤ) (values : List Descriptor) → IsMemory m → all_read m sources ≡ Some values → all_written m targets values ≡ Some m' → Follows m m'
carried m m' sources targets values h read is = followed m m' _ (writes_all targets values m h (all_read_fits m sources values h read)) is

-- ---- specifiers

abbrev AllSpecsFit : Limits → List Specifier → Type 0
AllSpecsFit limits [] = Unit {0}
AllSpecsFit limits (x ∷ xs) = FitsSpec limits x × AllSpecsFit limits xs

abbrev spec_of : Descriptor → Descriptor → Specifier
spec_of p q = record { a = p.a; f = p.f; v = p.v; o = q.a; l = q.v }

both_fit : (m : Memory) (at next : ℤ) (o o' : Option Descriptor) (x : Specifier) → IsMemory m → descr_at m at ≡ o → descr_at m next ≡ o' → (o >>= (λ p. o' >>= (λ q. Some (spec_of p q)))) ≡ Some x → FitsSpec m.limits x
both_fit m at next None o' x h e e' is = cc
both_fit m at next (Some p) None x h e e' is = cc
both_fit m at next (Some p) (Some q) x h e e' is =
    let fp = fits_descr_at m at p h e in
    let fq = fits_descr_at m next q h e' in
    subst (FitsSpec m.limits) (same_Some (spec_of p q) x is) (record { a = fp.0; f = fp.1; v = fp.2; o = fq.0; l = fq.2 })

pub spec_fits : (m : Memory) (at : ℤ) (x : Specifier) → IsMemory m → spec_at m at ≡ Some x → FitsSpec m.limits x
spec_fits m at x h is = both_fit m at (at ⊞ pos m.limits.cell_size) (descr_at m at) (descr_at m (at ⊞ pos m.limits.cell_size)) x h refl refl is

spec_first : (m : Memory) (o : Option Specifier) (rest : Option (List Specifier)) (xs : List Specifier) → ((x : Specifier) → o ≡ Some x → FitsSpec m.limits x) → (o >>= (λ x. rest >>= (λ more. Some (x ∷ more)))) ≡ Some xs →
    ((more : List Specifier) → rest ≡ Some more → AllSpecsFit m.limits more) → AllSpecsFit m.limits xs
spec_first m None rest xs h is fit = cc
spec_first m (Some x) None xs h is fit = cc
spec_first m (Some x) (Some more) xs h is fit = subst (AllSpecsFit m.limits) (same_Some (x ∷ more) xs is) (h x refl, fit more refl)

all_specs_read_fit : (m : Memory) (ats : List ℤ) (xs : List Specifier) → IsMemory m → all_specs_read m ats ≡ Some xs → AllSpecsFit m.limits xs
unfolding all_specs_read
all_specs_read_fit m [] xs h is = subst (AllSpecsFit m.limits) (same_Some [] xs is) tt
all_specs_read_fit m (at ∷ ats) xs h is = spec_first m (spec_at m at) (all_specs_read m ats) xs (λ x e. spec_fits m at x h e) is (λ more e. all_specs_read_fit m ats more h e)

pub writes_set_spec : (m : Memory) (at : ℤ) (x : Specifier) → IsMemory m → FitsSpec m.limits x → Writes m (set_spec_at m at x)
writes_set_spec m at x h fit =
    writes_then m (set_descr_at m at (record { a = x.a; f = x.f; v = x.v })) (λ m'. set_descr_at m' (at ⊞ pos m.limits.cell_size) (record { a = x.o; f = 0; v = x.l })) (writes_set_descr m at _ h (fit.a, fit.f, fit.v))
    (λ m' f. writes_set_descr m' (at ⊞ pos m.limits.cell_size) _ f.is_memory (rw f.shape.limits (fit.o, omega arith, fit.l)))

writes_all_specs : (ats : List ℤ) (xs : List Specifier) (m : Memory) → IsMemory m → AllSpecsFit m.limits xs → Writes m (all_specs_written m ats xs)
unfolding all_specs_written
writes_all_specs [] xs m h fit = writes_same m h
writes_all_specs (at ∷ ats) [] m h fit = writes_same m h
writes_all_specs (at ∷ ats) (x ∷ xs) m h fit =
    writes_then m (set_spec_at m at x) (λ m'. all_specs_written m' ats xs) (writes_set_spec m at x h fit.0) (λ m' f. writes_all_specs ats xs m' f.is_memory (rw f.shape.limits fit.1))

pub specs_carried : (m m' : Memory) (sources targets : List ℤ) (values : List Specifier) → IsMemory m → all_specs_read m sources ≡ Some values → all_specs_written m targets values ≡ Some m' → Follows m m'
specs_carried m m' sources targets values h read is = followed m m' _ (writes_all_specs targets values m h (all_specs_read_fit m sources values h read)) is
