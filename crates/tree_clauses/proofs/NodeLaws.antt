-- What the macros on trees leave.
use Rattle.std.specs.Prelude.{FitsSigned}
use Rattle.std.specs.Int.{w64}
use Rattle.std.proofs.Common.{◌≡◌, ℕ, Option, Some, None, ℤ, refl, subst, arith}
use Rattle.std.proofs.lemmas.Option.{same_Some}
use Rattle.layout_params.specs.declared.cell.Descr.{Descr as Descriptor}
use Rattle.sil_model.specs.Access.{◌>>=◌, descr_at, integer_alone}
use Rattle.sil_model.specs.Memory.{Memory, IsMemory, FitsDescr}
use Rattle.sil_model.proofs.Keeps.{Follows, Writes, fits_descr_at, keeps_read, same, writes_then, writes_set_descr}
use Rattle.sil_model.proofs.Operands.{fits_a_at}
use Rattle.sil_model.proofs.Lawful.{KeepsMemory}
use Rattle.tree_clauses.specs.TreeClauses.{addsib, addson, insert, inserted, maknod, maybe_descr_at, set_maybe_descr_at, three_written, two_written}
use Rattle.tree_clauses.proofs.Since.{descr_since, fits_since, since_end, since_then, v_since}

pub addsib_keeps : KeepsMemory addsib
unfolding addsib
addsib_keeps b args m w h =
    let here = same m h in
    search (keeps_read, since_then, since_end, descr_since, v_since, fits_descr_at) depth 40

pub addson_keeps : KeepsMemory addson
unfolding addson
addson_keeps b args m w h =
    let here = same m h in
    search (keeps_read, since_then, since_end, descr_since, v_since, fits_descr_at) depth 40

-- three writes in order
three_since : (m m1 : Memory) (x y z : ℤ × Descriptor) → Follows m m1 → FitsDescr m.limits x.1 → FitsDescr m.limits y.1 → FitsDescr m.limits z.1 → Writes m1 (three_written m1 x y z)
unfolding three_written
three_since m m1 x y z f fx fy fz =
    let gx = fits_since m m1 x.1 f fx in
    let gy = fits_since m m1 y.1 f fy in
    let gz = fits_since m m1 z.1 f fz in
    writes_then m1 _ _ (writes_set_descr m1 x.0 x.1 f.is_memory gx) (λ m2 s2.
    writes_then m2 _ _ (descr_since m1 m2 y.0 y.1 s2 gy) (λ m3 s3.
    writes_set_descr m3 z.0 z.1 s3.is_memory (fits_since m2 m3 z.1 s3 (fits_since m1 m2 z.1 s2 gz))))

two_since : (m m1 : Memory) (x y : ℤ × Descriptor) → Follows m m1 → FitsDescr m.limits x.1 → FitsDescr m.limits y.1 → Writes m1 (two_written m1 x y)
unfolding two_written
two_since m m1 x y f fx fy =
    let gx = fits_since m m1 x.1 f fx in
    let gy = fits_since m m1 y.1 f fy in
    writes_then m1 _ _ (writes_set_descr m1 x.0 x.1 f.is_memory gx) (λ m2 s2. descr_since m1 m2 y.0 y.1 s2 gy)

inserted_writes : (m : Memory) (a b f sibling : Descriptor) (sons : ℕ) → IsMemory m → FitsDescr m.limits a → FitsDescr m.limits b → FitsDescr m.limits f → FitsDescr m.limits sibling → Writes m (inserted m a b f sibling sons)
unfolding inserted
inserted_writes m a b f sibling sons h fa fb ff fs =
    writes_then m _ _ (three_since m m (_, f) (_, sibling) (_, a) (same m h) ff fs fa) (λ m3 s3.
    writes_then m3 _ _ (two_since m m3 (_, b) (_, b) s3 fb fb) (λ m5 s5. v_since m3 m5 _ _ s5))

pub insert_keeps : KeepsMemory insert
unfolding insert
insert_keeps b args m w h =
    let here = same m h in
    search (keeps_read, since_end, inserted_writes, fits_descr_at) depth 40

-- the descriptor of an operand that may be null fits
unfoldable pub FitsMaybe : Memory → Option Descriptor → Type 0
FitsMaybe m None = Unit {0}
FitsMaybe m (Some d) = FitsDescr m.limits d

found_maybe : (m : Memory) (at : ℤ) (o : Option Descriptor) (x : Option Descriptor) → IsMemory m → descr_at m at ≡ o → (o >>= (λ d. Some (Some d))) ≡ Some x → FitsMaybe m x
unfolding FitsMaybe
found_maybe m at None x h e is = cc
found_maybe m at (Some d) x h e is = subst (FitsMaybe m) (same_Some (Some d) x is) (fits_descr_at m at d h e)

pub maybe_fits : (m : Memory) (at : Option ℤ) (x : Option Descriptor) → IsMemory m → maybe_descr_at m at ≡ Some x → FitsMaybe m x
unfolding maybe_descr_at FitsMaybe
maybe_fits m None x h is = subst (FitsMaybe m) (same_Some None x is) tt
maybe_fits m (Some at) x h is = found_maybe m at (descr_at m at) x h refl is

pub maybe_since : (m m1 : Memory) (at : ℤ) (x : Option Descriptor) → Follows m m1 → FitsMaybe m x → Writes m1 (set_maybe_descr_at m1 at x)
unfolding set_maybe_descr_at FitsMaybe Writes
maybe_since m m1 at None f fits = same m1 f.is_memory
maybe_since m m1 at (Some d) f fits = descr_since m m1 at d f fits

-- an integer that fits, with 0 as F and V
pub alone_fits : (m : Memory) (a : ℤ) → IsMemory m → FitsSigned w64 a → FitsDescr m.limits (integer_alone a)
alone_fits m a h fits = (fits, omega arith, omega arith)

pub maknod_keeps : KeepsMemory maknod
unfolding maknod
maknod_keeps b args m w h =
    let here = same m h in
    search (keeps_read, since_then, since_end, three_since, maybe_since, maybe_fits, descr_since, alone_fits, fits_a_at, fits_descr_at) depth 40
