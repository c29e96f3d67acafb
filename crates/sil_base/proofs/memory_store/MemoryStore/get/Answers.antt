use Rattle.std.proofs.Common.{◌≡◌, ℕ, List, ◌∷◌, Some, map, cond, Bool, true, false, eqb, refl, sym, ap, ◌∙◌}
use Rattle.std.specs.Global.{Vec}
use Rattle.std.specs.Ordering.{nat_cmp}
use Rattle.std.specs.Cmp.Lexicographic.{slice_cmp, pointwise}
use Rattle.std.specs.FinMap.{get, find, get-from_entries}
use Rattle.std.proofs.lemmas.Cmp.{nat_list_cmp_total}
use Rattle.std.proofs.lemmas.Map.Text.{is_eq-slice_cmp}
use Rattle.sil_base.proofs.memory_store.MemoryStore.get.Goals as goal

found : (q k v : List ℕ) (es : List (List ℕ × List ℕ)) (b : Bool) → pointwise eqb q k ≡ b → find (slice_cmp nat_cmp) q ((k, v) ∷ es) ≡ cond b (Some v) (find (slice_cmp nat_cmp) q es)
found q k v es b e = rw (is_eq-slice_cmp q k, e) refl

pub loop-key-init : goal.loop-key-init
loop-key-init c =
    ap (λ s. get s.files c.args.name.now) (sym c.self.view_is)
    ∙ get-from_entries nat_list_cmp_total _ _ ∙ ap (λ es. find (slice_cmp nat_cmp) c.args.name.now (map (λ e. (e.0, e.1.items)) es)) (sym c.into_iter-key-iterator.ensures.into_iter_gives.0)

-- the first entry that is left
turn : (q : List ℕ) (left : List (List ℕ × Vec ℕ)) (e : List ℕ × Vec ℕ) (rest : List (List ℕ × Vec ℕ)) (b : Bool) → left ≡ e ∷ rest → pointwise eqb q e.0 ≡ b
    → find (slice_cmp nat_cmp) q (map (λ e. (e.0, e.1.items)) left) ≡ cond b (Some e.1.items) (find (slice_cmp nat_cmp) q (map (λ e. (e.0, e.1.items)) rest))
turn q left e rest b is same = ap (λ l. find (slice_cmp nat_cmp) q (map (λ e. (e.0, e.1.items)) l)) is ∙ found q e.0 e.1.items _ b same

pub loop-key-preserved : goal.loop-key-preserved
loop-key-preserved c =
    let same : pointwise eqb c.args.name.now c.in-Some.field-0.now.0 ≡ false = rw (← c.as_bytes.ensures.value, ← c.bytes.ensures) (sym c.if-eq.ensures) in
    c.loop-key.invariant ∙ turn c.args.name.now _ _ _ false c.in-Some.ensures.steps same

pub returns-then-eq : goal.returns-then-eq
returns-then-eq c =
    let same : pointwise eqb c.args.name.now c.in-Some.field-0.now.0 ≡ true = rw (← c.as_bytes.ensures.value, ← c.bytes.ensures) (sym c.if-eq.ensures) in
    ap Some c.as_slice.ensures.value ∙ sym (c.loop-key.invariant ∙ turn c.args.name.now _ _ _ true c.in-Some.ensures.steps same)
