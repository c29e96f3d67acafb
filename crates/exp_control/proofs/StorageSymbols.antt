-- The symbols of the dynamic storage, and where they are there.
use Rattle.std.proofs.Common.{◌≡◌, ℕ, ◌+◌, ◌*◌, List, [], ◌∷◌, Option, Some, None, ℤ, pos, refl, sym, ap, ◌∙◌, subst, lit≤}
use Rattle.sil_macros.specs.declared.names.Macro.TheVariants.{Init}
use Rattle.sil_model.specs.declared.program.Specials.{Specials}
use Rattle.sil_model.specs.Access.{◌>>=◌}
use Rattle.flow_clauses.specs.FlowTable.{flow_visits}
use Rattle.sil_model.specs.Effects.{MemoryEffect, on_site, with_memory}
use Rattle.flow_clauses.specs.FlowClauses.{init}
use Rattle.sil_model.specs.Settling.{settle}
use Rattle.sil_model.specs.Memory.{Memory}
use Rattle.sil_model.specs.Sites.{Site}
use Rattle.sil_micro.specs.declared.op.Fixed.TheVariants.{Number}
use Rattle.sil_micro.specs.declared.op.Op.{Op}
use Rattle.sil_micro.specs.declared.op.Op.TheVariants.{Const, Begin, End as EndBy}
use Rattle.sil_micro.specs.Expands.{Does, Makes, at, site_at}
use Rattle.exp_control.specs.SelectionParts.{storage}

abbrev Places : Type 0
Places = ℤ × ℤ × ℤ

abbrev all_three : Option ℤ → Option ℤ → Option ℤ → Option Places
all_three x y z = do
  a ← x
  b ← y
  c ← z
  Some (a, b, c)

abbrev with_three : Option ℤ → Option ℤ → Option ℤ → (ℤ → ℤ → ℤ → MemoryEffect) → MemoryEffect
with_three x y z go = do
  a ← x
  b ← y
  c ← z
  go a b c

none_of_three : (x y z : Option ℤ) (go : ℤ → ℤ → ℤ → MemoryEffect) → all_three x y z ≡ None → with_three x y z go ≡ None
none_of_three None y z go h = refl
none_of_three (Some a) None z go h = refl
none_of_three (Some a) (Some b) None go h = refl
none_of_three (Some a) (Some b) (Some c) go h = absurd (cc)

-- where one isn't there, the clause is undefined
pub init_is_undefined : (site : Site) (m : Memory) → storage site.program.specials ≡ None → init site m ≡ None
unfolding init
init_is_undefined site m h = none_of_three site.program.specials.first site.program.specials.head site.program.specials.tail _ h

abbrev pub undefined_code : ℕ → List Op
undefined_code k = Begin k ∷ Const 1 (Number (pos 3)) ∷ EndBy 1 ∷ []

pub undefined_does : (k : ℕ) (specials : Specials) → storage specials ≡ None → Does k (undefined_code k) specials [] (on_site init) (flow_visits Init)
undefined_does k specials none g program parameters u h =
    let undefined = init_is_undefined (site_at program parameters k []) u.state.memory (subst (λ x. storage x ≡ None) (sym h.setting.symbols) none) in
    subst (λ (e : MemoryEffect). Makes g (k + 1) (undefined_code k) 0 u (settle (at k u.state) (with_memory (at k u.state) e)) (2000 + 400 * (0 + 3))) (sym undefined) (record { fuel = 4; meets = simp h.left (refl, refl, lit≤ tt) })

pub record AreThere (specials : Specials) (places : Places) : Type 0 where
  pub first_is : specials.first ≡ Some places.0
  pub head_is : specials.head ≡ Some places.1
  pub tail_is : specials.tail ≡ Some places.2

abbrev part : (Places → ℤ) → Option Places → Option ℤ
part take None = None
part take (Some places) = Some (take places)

pub are_there : (specials : Specials) (places : Places) → storage specials ≡ Some places → AreThere specials places
are_there specials places h = go specials.first specials.head specials.tail refl refl refl h where
  go : (x y z : Option ℤ) → specials.first ≡ x → specials.head ≡ y → specials.tail ≡ z → all_three x y z ≡ Some places → AreThere specials places
  go None y z ex ey ez e = absurd (cc)
  go (Some a) None z ex ey ez e = absurd (cc)
  go (Some a) (Some b) None ex ey ez e = absurd (cc)
  go (Some a) (Some b) (Some c) ex ey ez e = record { first_is = ex ∙ ap (part (λ p. p.0)) e; head_is = ey ∙ ap (part (λ p. p.1)) e; tail_is = ez ∙ ap (part (λ p. p.2)) e }
