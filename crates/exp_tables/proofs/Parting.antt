-- What a walk leaves, and where it goes.
use Rattle.std.proofs.Common.{◌≡◌, ℕ, ◌+◌, ◌-◌, ◌≤◌, ◌<◌, ◌^◌, List, Option, Some, Bool, true, false, refl, arith}
use Rattle.std.specs.Prelude.{ℤ, pos, ◌-ℤ◌}
use Rattle.layout_params.specs.declared.cell.Cell.TheVariants.{Descr as Describes}
use Rattle.sil_model.specs.declared.program.Flow.{Flow}
use Rattle.sil_model.specs.declared.specifier.Specifier.{Specifier}
use Rattle.sil_model.specs.Access.{◌>>=◌, put_cell, set_a_at, set_v_at}
use Rattle.sil_model.specs.Arguments.{flow_to}
use Rattle.sil_model.specs.Effects.{leads}
use Rattle.sil_model.specs.Integers.{◌⊞◌, wrapped_difference}
use Rattle.sil_model.specs.Memory.{Memory, IsMemory}
use Rattle.sil_model.specs.Specifiers.{FitsSpec}
use Rattle.sil_model.specs.States.{State}
use Rattle.sil_micro.specs.declared.op.Op.{Op}
use Rattle.sil_micro.specs.Expands.{Makes}
use Rattle.sil_micro.specs.MicroStates.{Setting, Micro, Registers}
use Rattle.sil_micro.proofs.Fields.{fits_within}
use Rattle.sil_micro.proofs.Making.{by_option, more, by_way}
use Rattle.exp_common.specs.Locations.{lead}
use Rattle.exp_common.proofs.Leads.{goes_to}
use Rattle.exp_common.proofs.Questions.{by_read, zero_within}
use Rattle.table_clauses.specs.SyntaxClauses.{or_zero, parted}
use Rattle.exp_tables.specs.TableParts.{part_code}
use Rattle.exp_tables.proofs.Effects.{after_memory}
use Rattle.exp_tables.proofs.Arithmetic.{less_pos, sub_pos}

-- whether no character is left decides where it goes, and register 14 says it
abbrev pub way_out : Option ℕ → Option ℕ → Bool → Option ℕ
way_out run_out stop true = run_out
way_out run_out stop false = stop

abbrev pub mark : Bool → ℤ
mark true = pos 0
mark false = pos 1

module _ (g : Setting) (stype s1 s2 : ℤ) (run_out stop : Option ℕ) (before : State) (failed : Option ℕ) (words : ℕ → ℤ) (s : Specifier) (cost : ℕ) where
  abbrev code : List Op
  code = part_code stype s1 s2 (lead before.statement run_out) (lead before.statement stop)

  abbrev size : ℤ
  size = pos before.memory.limits.cell_size

  abbrev in_memory : Memory → Registers → ℕ → Micro
  in_memory m registers w = record { state = record before { memory = m; steps = before.steps + 1 }; registers = registers; scratch = words; failed = failed; spent = w }

  abbrev out : Bool → Flow
  out ran = flow_to (way_out run_out stop ran)

  last_goes : (ran : Bool) (m : Memory) (r : Registers) (w : ℕ) → w + 16 ≤ cost → Makes g (before.statement + 1) code 12 (in_memory m (record r { r4 = pos 0; r14 = mark ran }) w) (after_memory before (Some (out ran, m))) cost
  unfolding part_code
  last_goes true m r w pays = record { fuel = 3; meets = simp goes_to (refl, omega (arith, pays)) }
  last_goes false m r w pays = record { fuel = 3; meets = simp goes_to (refl, omega (arith, pays)) }

  -- the specifier of the rest
  rest_goes : (ran : Bool) (n : ℕ) (m : Memory) (r : Registers) (w : ℕ) → n ≤ s.l → s.l < 2 ^ 48 → w + 200 ≤ cost →
      Makes g (before.statement + 1) code 6 (in_memory m (record r { r4 = pos 0; r5 = size; r7 = s.o; r8 = pos s.l; r10 = pos n; r14 = mark ran }) w)
      (after_memory before (leads (out ran) (set_a_at m (s2 ⊞ size) (s.o ⊞ pos n) >>= (λ m'. set_v_at m' (s2 ⊞ size) (pos s.l -ℤ pos n))))) cost
  unfolding part_code
  rest_goes ran n m r w le few pays =
      let left : wrapped_difference (pos s.l) (pos n) ≡ pos (s.l - n) = sub_pos s.l n (s.l - n) (omega (arith, le)) (omega (arith, few)) in
      let exact : pos s.l -ℤ pos n ≡ pos (s.l - n) = less_pos s.l n (s.l - n) (omega (arith, le)) in
      by_option (set_a_at m (s2 ⊞ size) (s.o ⊞ pos n)) (λ none. record { fuel = 5; meets = simp none (refl, refl, omega (arith, pays)) }) (λ m' is.
      by_option (set_v_at m' (s2 ⊞ size) (pos (s.l - n))) (λ none. record { fuel = 7; meets = simp (is, left, exact, none) (refl, refl, omega (arith, pays)) }) (λ m'' is2.
      by_way (last_goes ran m'' (record r { r1 = s2 ⊞ size; r5 = size; r7 = s.o ⊞ pos n; r8 = pos (s.l - n); r10 = pos n }) (w + 8 + 8 + 8 + 28 + 8 + 28) (omega (arith, pays)))
      (λ f y. record { fuel = more 6 f; meets = simp (is, left, exact, is2) y })))

  pub part_goes : (ran : Bool) (n : ℕ) (put : Option ℤ) (r : Registers) (w : ℕ) → IsMemory before.memory → FitsSpec before.memory.limits s → n ≤ s.l → w + 400 ≤ cost →
      Makes g (before.statement + 1) code 0
      (in_memory before.memory (record r { r2 = s.a; r3 = pos s.f; r4 = pos 0; r5 = size; r6 = pos s.v; r7 = s.o; r8 = pos s.l; r10 = pos n; r13 = or_zero put; r14 = mark ran }) w)
      (after_memory before (leads (out ran) (parted (record { stype = stype; head = s1; rest = s2 }) s n put before.memory))) cost
  unfolding part_code
  part_goes ran n put r w valid fit le pays =
      let m = before.memory in
      let ff = fits_within m.limits.flag_limit s.f fit.f in
      let fv = fits_within m.limits.value_limit s.v fit.v in
      let zf = zero_within m.limits.flag_limit in
      let fn = fits_within m.limits.value_limit n (omega (arith, le, fit.l)) in
      let few : s.l < 2 ^ 48 = omega (arith, fit.l, valid.limits.values) in
      by_read m stype valid (λ none. record { fuel = 3; meets = simp none (refl, refl, omega (arith, pays)) }) (λ a f v is read.
      by_option (put_cell m stype (Describes (record { a = or_zero put; f = f; v = v }))) (λ e. record { fuel = 3; meets = simp (is, e) (refl, refl, omega (arith, pays)) }) (λ c1 e1.
      by_option (put_cell (record m { cells = c1 }) s1 (Describes (record { a = s.a; f = s.f; v = s.v }))) (λ e. record { fuel = 5; meets = simp (is, e1, ff, fv, e) (refl, refl, omega (arith, pays)) }) (λ c2 e2.
      by_option (put_cell (record m { cells = c2 }) (s1 ⊞ size) (Describes (record { a = s.o; f = 0; v = n }))) (λ e. record { fuel = 7; meets = simp (is, e1, ff, fv, e2, zf, fn, e) (refl, refl, omega (arith, pays)) }) (λ c3 e3.
      by_way (rest_goes ran n (record m { cells = c3 }) (record r { r1 = s1 ⊞ size; r2 = s.a; r3 = pos s.f; r6 = pos s.v; r13 = or_zero put }) (w + 8 + 28 + 8 + 28 + 8 + 28) le few (omega (arith, pays)))
      (λ fuel y. record { fuel = more 6 fuel; meets = simp (is, e1, ff, fv, e2, zf, fn, e3) y })))))
