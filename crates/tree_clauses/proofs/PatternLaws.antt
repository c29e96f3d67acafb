-- What the macros on patterns and blocks leave.
use Rattle.std.specs.Prelude.{FitsSigned, int_lt, if◌then◌else◌}
use Rattle.std.specs.Int.{w64, int_pow}
use Rattle.std.proofs.Common.{◌≡◌, ℕ, zero, suc, Bool, true, false, Option, Some, None, ℤ, pos, negsuc, refl, subst, arith}
use Rattle.std.proofs.lemmas.Option.{same_Some}
use Rattle.std.specs.declared.ops.ControlFlow.{ControlFlow}
use Rattle.std.specs.declared.ops.ControlFlow.TheVariants.{Continue, Break}
use Rattle.layout_params.specs.declared.cell.Descr.{Descr as Descriptor}
use Rattle.sil_model.specs.declared.program.Flow.{Flow}
use Rattle.sil_model.specs.Access.{◌>>=◌, a_at, f_at, descr_at, set_a_at}
use Rattle.sil_model.specs.Effects.{onward}
use Rattle.sil_model.specs.Integers.{◌⊞◌, ◌⊟◌}
use Rattle.sil_model.specs.Memory.{Memory, IsMemory, FitsDescr}
use Rattle.sil_model.proofs.Keeps.{Follows, Keeps, LeadsWithin, Writes, fits_cell_at, fits_descr_at, followed, follows_on, keeps_here, keeps_read, same, sum_fits, writes_read, writes_set_cell, writes_set_descr, writes_then}
use Rattle.sil_model.proofs.Operands.{difference_fits, fits_a_at, goto_leads, range_fits}
use Rattle.sil_model.proofs.Lawful.{KeepsMemory, KeepsOnSite}
use Rattle.sil_model.proofs.Reading.{from_read}
use Rattle.tree_clauses.specs.declared.turns.Copying.{Copying}
use Rattle.tree_clauses.specs.declared.turns.Lowest.{Lowest}
use Rattle.tree_clauses.specs.declared.turns.Offsets.{Offsets}
use Rattle.tree_clauses.specs.Loops.{each, walk}
use Rattle.tree_clauses.specs.PatternClauses.{Copies, Moving, cell_turn, copied_with, copying_at, copying_on, cpypat, deliver, expint, found_at, front_written, greatest, has_flags, is_zero, lesser, linkor, located, lowest_turn, lvalue, movblk, moved_memory, node_turn, power, rest_written, risen, title_turn, titled, top}
use Rattle.tree_clauses.proofs.LoopLaws.{each_ends, walk_ends}
use Rattle.tree_clauses.proofs.NodeLaws.{FitsMaybe, alone_fits, maybe_fits, maybe_since}
use Rattle.tree_clauses.proofs.Since.{a_since, descr_since, since_end, since_leads, since_then, whole_since}

-- ---- integers that are delivered

keeps_deliver : (last : ℕ) (m : Memory) (d1 : ℤ) (d : Descriptor) (o : Option ℤ) (failure success : Flow) → IsMemory m → LeadsWithin last failure → LeadsWithin last success → FitsDescr m.limits d →
    ((a : ℤ) → o ≡ Some a → FitsSigned w64 a) → Keeps last m (deliver m d1 d o failure success)
keeps_deliver last m d1 d None failure success h f s fits range = keeps_here last m failure f h
keeps_deliver last m d1 d (Some a) failure success h f s fits range = since_leads last m m success _ s (same m h) (writes_set_descr m d1 (record d { a = a }) h (range a refl, fits.1, fits.2))

found_fits : (block : Descriptor) (offset : Option ℤ) (a : ℤ) → found_at block offset ≡ Some a → FitsSigned w64 a
found_fits block None a is = cc
found_fits block (Some offset) a is = subst (FitsSigned w64) (same_Some _ a is) (sum_fits block.a offset)

pub located_keeps : (cell : ℕ) → KeepsMemory (located cell)
unfolding located
located_keeps cell b args m w h = search (keeps_read, keeps_deliver, goto_leads, found_fits, fits_descr_at) depth 24

power_fits : (x y a : ℤ) → power x y ≡ Some a → FitsSigned w64 a
unfolding power
power_fits x (negsuc n) a is = cc
power_fits (pos zero) (pos zero) a is = cc
power_fits (pos (suc x)) (pos zero) a is = subst (FitsSigned w64) (same_Some _ a is) (omega arith)
power_fits (negsuc x) (pos zero) a is = subst (FitsSigned w64) (same_Some _ a is) (omega arith)
power_fits x (pos (suc n)) a is = range_fits (int_pow x (suc n)) a is

pub expint_keeps : KeepsMemory expint
unfolding expint
expint_keeps b args m w h = search (keeps_read, keeps_deliver, goto_leads, power_fits, fits_descr_at) depth 24

-- ---- a turn that reads a value, and is over or goes on by a test of it

chosen_on : {S R : Type 0} (b : Bool) (s : R) (x t : S) → Some (if b then Break s else Continue x) ≡ Some (Continue t) → x ≡ t
chosen_on true s x t is = cc
chosen_on false s x t is = cc

chosen_over : {S R : Type 0} (b : Bool) (s r : R) (x : S) → Some (if b then Break s else Continue x) ≡ Some (Break r) → s ≡ r
chosen_over true s r x is = cc
chosen_over false s r x is = cc

turn_on : {A S R : Type 0} (o : Option A) (b : A → Bool) (s : A → R) (x : A → S) (t : S) → (o >>= (λ a. Some (if b a then Break (s a) else Continue (x a)))) ≡ Some (Continue t) → (a : A) × (o ≡ Some a) × (x a ≡ t)
turn_on None b s x t is = absurd (cc)
turn_on (Some a) b s x t is = (a, refl, chosen_on (b a) (s a) (x a) t is)

turn_over : {A S R : Type 0} (o : Option A) (b : A → Bool) (s : A → R) (x : A → S) (r : R) → (o >>= (λ a. Some (if b a then Break (s a) else Continue (x a)))) ≡ Some (Break r) → (a : A) × (o ≡ Some a) × (s a ≡ r)
turn_over None b s x r is = absurd (cc)
turn_over (Some a) b s x r is = (a, refl, chosen_over (b a) (s a) r (x a) is)

-- ---- titles

title_fits : (m : Memory) (from : ℤ) (flags n : ℕ) (back : ℤ) → walk (title_turn m from flags) n (pos 0) ≡ Some back → FitsSigned w64 back
title_fits m from flags n back is =
    walk_ends (title_turn m from flags) (FitsSigned w64) (FitsSigned w64)
    (λ s t p e. subst (FitsSigned w64) (turn_on (f_at m (from ⊟ s)) (λ f. has_flags f flags) (λ f. s) (λ f. s ⊞ pos m.limits.cell_size) t e).2 (sum_fits s (pos m.limits.cell_size)))
    (λ s r p e. subst (FitsSigned w64) (turn_over (f_at m (from ⊟ s)) (λ f. has_flags f flags) (λ f. s) (λ f. s ⊞ pos m.limits.cell_size) r e).2 p)
    n (pos 0) back (omega arith) is

-- another A field that fits
other_a : (m : Memory) (at a : ℤ) (d : Descriptor) → IsMemory m → descr_at m at ≡ Some d → FitsSigned w64 a → FitsDescr m.limits (record d { a = a })
other_a m at a d h is fits = let was = fits_descr_at m at d h is in (fits, was.1, was.2)

pub top_keeps : KeepsOnSite top
unfolding titled
top_keeps site s h =
    let mem = h.sound.memory in
    let here = same s.memory mem in
    search (keeps_read, since_then, since_end, descr_since, a_since, other_a, title_fits, difference_fits) depth 30

-- ---- alternatives

pub linkor_keeps : KeepsMemory linkor
unfolding linkor
linkor_keeps b args m w h =
    let here = same m h in
    search (keeps_read, since_end, a_since, fits_a_at) depth 24

lesser_fits : (x y : ℤ) → FitsSigned w64 x → FitsSigned w64 y → FitsSigned w64 (lesser x y)
lesser_fits x y f g = go (int_lt x y) where
  go : (b : Bool) → FitsSigned w64 (if b then x else y)
  go true = f
  go false = g

abbrev FitsLeast : Lowest → Type 0
FitsLeast s = FitsSigned w64 s.least

lowest_fits : (m : Memory) (node : ℤ) (n : ℕ) (least : ℤ) → IsMemory m → walk (lowest_turn m node) n (record { offset = pos 0; least = greatest }) ≡ Some least → FitsSigned w64 least
lowest_fits m node n least h is =
    walk_ends (lowest_turn m node) FitsLeast (FitsSigned w64)
    (λ s t p e. let taken = from_read _ _ _ e in let next = turn_on _ is_zero (λ a. lesser taken.0 s.least) (λ a. record { offset = a; least = lesser taken.0 s.least }) t taken.2 in
    subst FitsLeast next.2 (lesser_fits taken.0 s.least (fits_a_at m _ taken.0 h taken.1) p))
    (λ s r p e. let taken = from_read _ _ _ e in let next = turn_over _ is_zero (λ a. lesser taken.0 s.least) (λ a. record { offset = a; least = lesser taken.0 s.least }) r taken.2 in
    subst (FitsSigned w64) next.2 (lesser_fits taken.0 s.least (fits_a_at m _ taken.0 h taken.1) p))
    n (record { offset = pos 0; least = greatest }) least (omega arith) is

pub lvalue_keeps : KeepsMemory lvalue
unfolding lvalue
lvalue_keeps b args m w h =
    let here = same m h in
    search (keeps_read, since_end, descr_since, alone_fits, lowest_fits) depth 24

-- ---- blocks

writes_some : (m m' : Memory) → Follows m m' → Writes m (Some m')
unfolding Writes
writes_some m m' f = f

abbrev pub HasMoved : Memory → Moving → Type 0
HasMoved m s = Follows m s.memory

pub cell_follows : (m : Memory) (to from : ℤ) (s t : Moving) → HasMoved m s → cell_turn to from s ≡ Some t → HasMoved m t
cell_follows m to from s t f is =
    let cell = from_read _ _ _ is in
    let set = from_read _ _ _ cell.2 in
    let wrote = writes_set_cell s.memory (to ⊞ s.offset) cell.0 f.is_memory (fits_cell_at s.memory _ cell.0 f.is_memory cell.1) in
    let next = followed s.memory set.0 _ wrote set.1 in
    subst (HasMoved m) (same_Some _ t set.2) (follows_on m s.memory set.0 f next)

moved_writes : (m : Memory) (to from : ℤ) (n : ℕ) → IsMemory m → Writes m (each (cell_turn to from) n (record { memory = m; offset = pos m.limits.cell_size }) >>= moved_memory)
moved_writes m to from n h = writes_read m _ _ (λ t e. writes_some m t.memory (each_ends (cell_turn to from) (HasMoved m) (cell_follows m to from) n (record { memory = m; offset = pos m.limits.cell_size }) t (same m h) e))

pub movblk_keeps : KeepsMemory movblk
unfolding movblk
movblk_keeps b args m w h =
    let here = same m h in
    search (keeps_read, since_end, moved_writes) depth 24

-- ---- copies

record IsCopied (m : Memory) (t : Copies) : Type 0 where
  follows : Follows m t.memory
  fits : FitsSigned w64 t.at.to

unfoldable Turns : Memory → Option (ControlFlow Copies Copies) → Type 0
Turns m None = Unit {0}
Turns m (Some (Continue t)) = IsCopied m t
Turns m (Some (Break t)) = IsCopied m t

turns_read : {A : Type 0} (m : Memory) (o : Option A) (f : A → Option (ControlFlow Copies Copies)) → ((a : A) → o ≡ Some a → Turns m (f a)) → Turns m (o >>= f)
unfolding Turns
turns_read m None f h = tt
turns_read m (Some a) f h = h a refl

turns_then : (m m1 : Memory) (o : Option Memory) (f : Memory → Option (ControlFlow Copies Copies)) → Follows m m1 → Writes m1 o → ((m2 : Memory) → Follows m m2 → Turns m (f m2)) → Turns m (o >>= f)
unfolding Turns Writes
turns_then m m1 None f s w h = tt
turns_then m m1 (Some m2) f s w h = h m2 (follows_on m m1 m2 s w)

turns_chosen : (m m1 : Memory) (at : Copying) (b : Bool) → IsCopied m (record { memory = m1; at = at }) → Turns m (Some (copied_with m1 (if b then Continue at else Break at)))
unfolding Turns
turns_chosen m m1 at true h = h
turns_chosen m m1 at false h = h

turns_end : (m m1 : Memory) (at : Copying) → Follows m m1 → FitsSigned w64 at.to → Turns m (Some (copied_with m1 (copying_on at)))
turns_end m m1 at f fits = turns_chosen m m1 at (int_lt (pos 0) at.left) (record { follows = f; fits = fits })

risen_fits : (a by : ℤ) → FitsSigned w64 (risen a by)
risen_fits a by = go (is_zero a) where
  go : (b : Bool) → FitsSigned w64 (if b then pos 0 else a ⊞ by)
  go true = omega arith
  go false = sum_fits a by

front_writes : (m : Memory) (by : Offsets) (to : ℤ) (first q : Descriptor) → IsMemory m → FitsDescr m.limits first → Writes m (front_written m by to first q)
unfolding front_written
front_writes m by to first q h ff =
    writes_then m _ _ (writes_set_descr m _ first h ff) (λ m1 s1. whole_since m m1 _ (risen q.a by.next) _ _ s1 (risen_fits q.a by.next))

rest_since : (m m1 : Memory) (by : Offsets) (to : ℤ) (p : Descriptor) (fourth : Option Descriptor) → Follows m m1 → FitsMaybe m fourth → Writes m1 (rest_written m1 by to p fourth)
unfolding rest_written
rest_since m m1 by to p fourth s1 fo =
    writes_then m1 _ _ (whole_since m m1 _ (p.a ⊞ by.place) _ _ s1 (sum_fits p.a by.place)) (λ m2 s2. maybe_since m m2 _ fourth (follows_on m m1 m2 s1 s2) fo)

node_turns : (by : Offsets) (s : Copies) → IsMemory s.memory → Turns s.memory (node_turn by s)
node_turns by s h =
    let here = same s.memory h in
    search (turns_read, turns_then, turns_end, front_writes, rest_since, maybe_fits, fits_descr_at, sum_fits) depth 40

copied_since : (m m1 : Memory) (t : Copies) → Follows m m1 → IsCopied m1 t → IsCopied m t
copied_since m m1 t f c = record { follows = follows_on m m1 t.memory f c.follows; fits = c.fits }

goes_on : (m : Memory) (o : Option (ControlFlow Copies Copies)) (t : Copies) → Turns m o → o ≡ Some (Continue t) → IsCopied m t
unfolding Turns
goes_on m o t h is = rw is at h

is_over : (m : Memory) (o : Option (ControlFlow Copies Copies)) (t : Copies) → Turns m o → o ≡ Some (Break t) → IsCopied m t
unfolding Turns
is_over m o t h is = rw is at h

copies_end : (m : Memory) (by : Offsets) (n : ℕ) (s t : Copies) → IsCopied m s → walk (node_turn by) n s ≡ Some t → IsCopied m t
copies_end m by n s t p is =
    walk_ends (node_turn by) (IsCopied m) (IsCopied m)
    (λ x y q e. copied_since m x.memory y q.follows (goes_on x.memory _ y (node_turns by x q.follows.is_memory) e))
    (λ x y q e. copied_since m x.memory y q.follows (is_over x.memory _ y (node_turns by x q.follows.is_memory) e))
    n s t p is

begins_fit : (m : Memory) (d1 d2 d6 : ℤ) (first : Copying) → IsMemory m → copying_at m d1 d2 d6 ≡ Some first → FitsSigned w64 first.to
unfolding copying_at
begins_fit m d1 d2 d6 first h is =
    let to = from_read (a_at m d1) (λ x. a_at m d2 >>= (λ y. a_at m d6 >>= (λ z. Some (record { to = x; from = y; left = z })))) first is in
    let from = from_read (a_at m d2) (λ y. a_at m d6 >>= (λ z. Some (record { to = to.0; from = y; left = z }))) first to.2 in
    let left = from_read (a_at m d6) (λ z. Some (record { to = to.0; from = from.0; left = z })) first from.2 in
    subst (λ (c : Copying). FitsSigned w64 c.to) (same_Some (record { to = to.0; from = from.0; left = left.0 }) first left.2) (fits_a_at m d1 to.0 h to.1)

copied_keeps : (last : ℕ) (m : Memory) (d1 : ℤ) (by : Offsets) (first : Copying) (n : ℕ) (t : Copies) → IsMemory m → FitsSigned w64 first.to → walk (node_turn by) n (record { memory = m; at = first }) ≡ Some t → Keeps last m (onward (set_a_at t.memory d1 t.at.to))
copied_keeps last m d1 by first n t h fits e =
    let c = copies_end m by n (record { memory = m; at = first }) t (record { follows = same m h; fits = fits }) e in
    since_end last m t.memory _ c.follows (a_since m t.memory d1 t.at.to c.follows c.fits)

pub cpypat_keeps : KeepsMemory cpypat
unfolding cpypat
cpypat_keeps b args m w h = search (keeps_read, copied_keeps, begins_fit) depth 40
