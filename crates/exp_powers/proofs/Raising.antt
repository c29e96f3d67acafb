-- The ways of the piece of a power.
use Rattle.std.proofs.Common.{◌≡◌, ℕ, zero, suc, ◌+◌, ◌*◌, ◌%◌, ◌≤◌, ◌<◌, ◌∙◌, List, Option, Some, false, refl, ap, sym, subst, arith, lit≤}
use Rattle.std.proofs.lemmas.Bool.Decides.{nat_tests}
use Rattle.std.specs.Prelude.{ℤ, pos, negsuc, nat_eq, nat_lt, FitsSigned, ◌*ℤ◌, ◌∷◌, []}
use Rattle.std.specs.Int.{w64, int_pow}
use Rattle.std.specs.Int.RustNames.{unsigned_abs}
use Rattle.layout_params.specs.declared.cell.Cell.TheVariants.{Descr as Describes}
use Rattle.layout_params.specs.Parameters.{Parameters}
use Rattle.sil_macros.specs.declared.names.Macro.TheVariants.{Expint}
use Rattle.sil_model.specs.declared.program.Arg.TheVariants.{Goto, Place}
use Rattle.sil_model.specs.declared.program.Program.{Program}
use Rattle.sil_model.specs.declared.program.Specials.{Specials}
use Rattle.sil_model.specs.Access.{descr_at, put_cell}
use Rattle.sil_model.specs.Arguments.{flow_to}
use Rattle.sil_model.specs.Effects.{MemoryEffect, with_memory}
use Rattle.sil_model.specs.Integers.{in_range, wrapped_difference, wrapped_product}
use Rattle.sil_model.specs.Settling.{settle}
use Rattle.sil_model.specs.States.{State, Step}
use Rattle.sil_model.proofs.Operands.{range_fits}
use Rattle.sil_micro.specs.declared.op.Op.{Op}
use Rattle.sil_micro.specs.Expands.{CanBegin, Does, Makes, at}
use Rattle.sil_micro.specs.MicroStates.{Setting, Micro, Registers}
use Rattle.sil_micro.specs.MicroWords.{high_product, remainder, same_integer}
use Rattle.sil_micro.proofs.Making.{by_option, by_test, more, by_way}
use Rattle.exp_common.specs.Locations.{lead}
use Rattle.exp_common.proofs.Leads.{goes_to}
use Rattle.exp_common.proofs.Products.{by_product}
use Rattle.exp_common.proofs.Questions.{IsRead, by_read}
use Rattle.exp_common.proofs.Words.{remainder_pos, sub_one}
use Rattle.tree_clauses.specs.PatternClauses.{deliver, expint, power}
use Rattle.tree_clauses.specs.TreeTable.{tree_clause, tree_visits}
use Rattle.exp_powers.specs.PowerParts.{power_code}
use Rattle.exp_powers.proofs.Exponents.{even_power, first_power, great_power, is_of, large_power, lost_power, odd_power, one_held, pow_more, power_of_one, power_of_zero}

-- the step that an effect on memory makes
abbrev after_memory : State → MemoryEffect → Step
after_memory before effect = settle before (with_memory before effect)

module _ (g : Setting) (k : ℕ) (d1 d2 d3 : ℤ) (failure success : Option ℕ) (before : State) (failed : Option ℕ) (words : ℕ → ℤ) (r : Registers) (x : ℤ) (f v cost : ℕ) (read : IsRead before.memory.limits x f v) where
  abbrev code : List Op
  code = power_code k d1 d2 d3 (lead before.statement failure) (lead before.statement success)

  abbrev answer : Option ℤ → MemoryEffect
  answer found = deliver before.memory d1 (record { a = x; f = f; v = v }) found (flow_to failure) (flow_to success)

  abbrev makes : ℕ → Micro → Option ℤ → Type 0
  makes place u found = Makes g (before.statement + 1) code place u (after_memory before (answer found)) cost

  abbrev with_registers : Registers → ℕ → Micro
  with_registers registers w = record { state = record before { steps = before.steps + 1 }; registers = registers; scratch = words; failed = failed; spent = w }

  -- the power is there
  stores : (rest : Registers) (p : ℤ) (w : ℕ) → w + 100 ≤ cost → makes 33 (with_registers (record rest { r3 = pos f; r4 = pos v; r6 = p }) w) (Some p)
  unfolding power_code
  stores rest p w pays =
      by_option (put_cell before.memory d1 (Describes (record { a = p; f = f; v = v })))
      (λ none. record { fuel = 4; meets = simp (read.f_again, read.v_again, none) (refl, refl, omega (arith, pays)) })
      (λ cells put. record { fuel = 4; meets = simp (read.f_again, read.v_again, put, goes_to) (refl, omega (arith, pays)) })

  -- so many products are left
  abbrev at_power : ℕ → ℤ → ℤ → ℤ → Registers
  at_power left p b c = record r { r1 = d3; r2 = x; r3 = pos f; r4 = pos v; r5 = pos left; r6 = p; r7 = b; r8 = c; r9 = pos 1 }

  power_loop : (left i total : ℕ) (p b c : ℤ) (w : ℕ) → i + left ≡ total → left < 64 → 2 ≤ unsigned_abs x → int_pow x i ≡ p → FitsSigned w64 p → in_range p ≡ Some p → w + 72 * left + 200 ≤ cost →
      makes 17 (with_registers (at_power left p b c) w) (in_range (int_pow x total))
  unfolding power_code
  power_loop zero i total p b c w is few big made fits held pays =
      let e : i ≡ total = omega (arith, is) in
      let same : in_range (int_pow x total) ≡ Some p = ap (λ n. in_range (int_pow x n)) (sym e) ∙ ap in_range made ∙ held in
      by_way (stores (at_power zero p b (pos 0)) p (w + 8 + 8) (omega (arith, pays))) (λ fuel y. record { fuel = more 2 fuel; meets = simp same y })
  power_loop (suc left) i total p b c w is few big made fits held pays =
      let z : nat_eq (suc left) 0 ≡ false = grind arith in
      let down : wrapped_difference (pos (suc left)) (pos 1) ≡ pos left = sub_one left (omega (arith, few)) in
      let more_made : int_pow x (suc i) ≡ p *ℤ x = pow_more x i ∙ ap (λ q. q *ℤ x) made in
      by_product p x fits read.fits
      (λ negative sign q.
      let same = is_of (p *ℤ x) (wrapped_product p x) q in
      by_way (power_loop left (suc i) total (wrapped_product p x) (high_product p x) (negsuc 0) (w + 8 + 8 + 8 + 8 + 8 + 8 + 8 + 8 + 8) (omega (arith, is)) (omega (arith, few)) big (more_made ∙ same) (range_fits (p *ℤ x) (wrapped_product p x) q) (subst (λ z. in_range z ≡ Some (wrapped_product p x)) same q) (omega (arith, pays)))
      (λ fuel y. record { fuel = more 9 fuel; meets = simp (z, negative, sign, down) y }))
      (λ negative other lost.
      let gone = lost_power x (suc i) left total (omega (arith, is)) big (ap in_range more_made ∙ lost) in
      record { fuel = 9; meets = simp (z, negative, other, gone, goes_to) (refl, omega (arith, pays)) })
      (λ positive other lost.
      let gone = lost_power x (suc i) left total (omega (arith, is)) big (ap in_range more_made ∙ lost) in
      record { fuel = 9; meets = simp (z, positive, other, gone, goes_to) (refl, omega (arith, pays)) })
      (λ positive sign q.
      let same = is_of (p *ℤ x) (wrapped_product p x) q in
      by_way (power_loop left (suc i) total (wrapped_product p x) (high_product p x) (pos 0) (w + 8 + 8 + 8 + 8 + 8 + 8 + 8 + 8) (omega (arith, is)) (omega (arith, few)) big (more_made ∙ same) (range_fits (p *ℤ x) (wrapped_product p x) q) (subst (λ z. in_range z ≡ Some (wrapped_product p x)) same q) (omega (arith, pays)))
      (λ fuel y. record { fuel = more 8 fuel; meets = simp (z, positive, sign, down) y }))

  -- by the integer that is raised
  abbrev at_base : ℕ → Registers
  at_base y = record r { r1 = d3; r2 = x; r3 = pos f; r4 = pos v; r5 = pos y; r6 = pos 1; r8 = pos 0 }

  large_goes : (y w : ℕ) → 2 ≤ unsigned_abs x → same_integer x (pos 0) ≡ false → same_integer x (pos 1) ≡ false → same_integer x (negsuc 0) ≡ false → w + 6000 ≤ cost → makes 10 (with_registers (at_base y) w) (power x (pos y))
  unfolding power_code
  large_goes y w big e0 e1 e2 pays =
      let is = large_power x y big in
      by_test (nat_lt y 64)
      (λ t.
      let few : y < 64 = grind (arith, nat_tests, t) in
      by_way (power_loop y 0 y (pos 1) r.r7 (pos 0) (w + 8 + 8 + 8 + 8 + 8 + 8 + 8) (omega arith) few big (first_power x) (omega arith) one_held (omega (arith, few, pays)))
      (λ fuel z. record { fuel = more 7 fuel; meets = simp (e0, e1, e2, t, is) z }))
      (λ t.
      let far : 64 ≤ y = grind (arith, nat_tests, t) in
      let gone = great_power x y big far in
      record { fuel = 8; meets = simp (e0, e1, e2, t, is, gone, goes_to) (refl, omega (arith, pays)) })

module _ (g : Setting) (k : ℕ) (d1 d2 d3 : ℤ) (failure success : Option ℕ) (before : State) (failed : Option ℕ) (words : ℕ → ℤ) (r : Registers) (f v cost w : ℕ) (pays : w + 6000 ≤ cost) where
  abbrev goes : ℤ → ℕ → Type 0
  goes x y = Makes g (before.statement + 1) (power_code k d1 d2 d3 (lead before.statement failure) (lead before.statement success)) 10
      (record { state = record before { steps = before.steps + 1 }; registers = record r { r1 = d3; r2 = x; r3 = pos f; r4 = pos v; r5 = pos y; r6 = pos 1; r8 = pos 0 }; scratch = words; failed = failed; spent = w })
      (after_memory before (deliver before.memory d1 (record { a = x; f = f; v = v }) (power x (pos y)) (flow_to failure) (flow_to success))) cost

  base_goes : (x : ℤ) (y : ℕ) → IsRead before.memory.limits x f v → goes x y
  unfolding power_code power
  base_goes (pos zero) zero read = record { fuel = 4; meets = simp goes_to (refl, omega (arith, pays)) }
  base_goes (pos zero) (suc y) read =
      let z : nat_eq (suc y) 0 ≡ false = grind arith in
      let is = power_of_zero y in
      by_way (stores g k d1 d2 d3 failure success before failed words r (pos 0) f v cost read (record r { r1 = d3; r2 = pos 0; r5 = pos (suc y); r8 = pos 0 }) (pos 0) (w + 8 + 8 + 8 + 8) (omega (arith, pays)))
      (λ fuel m. record { fuel = more 4 fuel; meets = simp (z, is) m })
  base_goes (pos (suc zero)) y read =
      let is = power_of_one y in
      by_way (stores g k d1 d2 d3 failure success before failed words r (pos 1) f v cost read (record r { r1 = d3; r2 = pos 1; r5 = pos y; r8 = pos 0 }) (pos 1) (w + 8 + 8) (omega (arith, pays)))
      (λ fuel m. record { fuel = more 2 fuel; meets = simp is m })
  base_goes (pos (suc (suc a))) y read =
      large_goes g k d1 d2 d3 failure success before failed words r (pos (suc (suc a))) f v cost read y w (omega arith) (grind (arith, nat_tests)) (grind (arith, nat_tests)) refl pays
  base_goes (negsuc zero) y read =
      let rest : remainder (pos y) (pos 2) ≡ pos (y % 2) = remainder_pos y 2 (omega arith) in
      by_test (nat_eq (y % 2) 0)
      (λ t.
      let is = even_power y t in
      by_way (stores g k d1 d2 d3 failure success before failed words r (negsuc 0) f v cost read (record r { r1 = d3; r2 = negsuc 0; r5 = pos y; r8 = pos 0; r9 = pos (y % 2) }) (pos 1) (w + 8 + 8 + 8 + 8 + 8 + 8 + 8) (omega (arith, pays)))
      (λ fuel m. record { fuel = more 7 fuel; meets = simp (rest, t, is) m }))
      (λ t.
      let is = odd_power y t in
      by_way (stores g k d1 d2 d3 failure success before failed words r (negsuc 0) f v cost read (record r { r1 = d3; r2 = negsuc 0; r5 = pos y; r8 = pos 0; r9 = pos (y % 2) }) (negsuc 0) (w + 8 + 8 + 8 + 8 + 8 + 8 + 8 + 8) (omega (arith, pays)))
      (λ fuel m. record { fuel = more 8 fuel; meets = simp (rest, t, is) m }))
  base_goes (negsuc (suc a)) y read =
      large_goes g k d1 d2 d3 failure success before failed words r (negsuc (suc a)) f v cost read y w (omega arith) refl refl (grind (arith, nat_tests)) pays

module _ (k : ℕ) (d1 d2 d3 : ℤ) (failure success : Option ℕ) (specials : Specials) where
  abbrev pub raised_code : List Op
  raised_code = power_code k d1 d2 d3 (lead k failure) (lead k success)

  by_exponent : (g : Setting) (program : Program) (parameters : Parameters) (u : Micro) → CanBegin g program parameters specials k (Place d1 ∷ Place d2 ∷ Place d3 ∷ Goto failure ∷ Goto success ∷ []) u → (x : ℤ) (f v : ℕ) →
      descr_at u.state.memory d2 ≡ Some (record { a = x; f = f; v = v }) → IsRead u.state.memory.limits x f v → (y : ℤ) (f3 v3 : ℕ) → descr_at u.state.memory d3 ≡ Some (record { a = y; f = f3; v = v3 }) →
      Makes g (k + 1) raised_code 0 u (after_memory (at k u.state) (expint (Place d1 ∷ Place d2 ∷ Place d3 ∷ Goto failure ∷ Goto success ∷ []) u.state.memory)) 30800
  unfolding expint power_code power
  by_exponent g program parameters u h x f v is read (negsuc n) f3 v3 is3 = record { fuel = 11; meets = simp (h.left, is, is3, goes_to) (refl, lit≤ tt) }
  by_exponent g program parameters u h x f v is read (pos n) f3 v3 is3 =
      let lt : nat_lt n 0 ≡ false = grind (arith, nat_tests) in
      by_way (base_goes g k d1 d2 d3 failure success (at k u.state) u.failed u.scratch u.registers f v 30800 (28 + 8 + 28 + 28 + 28 + 8 + 28 + 8 + 8 + 8) (lit≤ tt) x n read)
      (λ fuel m. record { fuel = more 10 fuel; meets = simp (h.left, is, is3, lt) m })

  pub expint_does : Does k raised_code specials (Place d1 ∷ Place d2 ∷ Place d3 ∷ Goto failure ∷ Goto success ∷ []) (tree_clause Expint) (tree_visits Expint)
  unfolding tree_clause expint power_code
  expint_does g program parameters u h =
      let m = u.state.memory in
      let valid = h.valid.memory in
      by_read m d2 valid (λ none. record { fuel = 11; meets = simp (h.left, none) (refl, refl, lit≤ tt) }) (λ x f v is read.
      by_read m d3 valid (λ none. record { fuel = 11; meets = simp (h.left, is, none) (refl, refl, lit≤ tt) }) (λ y f3 v3 is3 read3.
      by_exponent g program parameters u h x f v is read y f3 v3 is3))
