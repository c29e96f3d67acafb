-- The writes of a turn of the copy.
use Rattle.std.proofs.Common.{◌≡◌, ℕ, ◌+◌, ◌*◌, ◌≤◌, ◌<◌, ◌^◌, List, Option, Some, None, Bool, true, false, refl, arith}
use Rattle.std.specs.Prelude.{ℤ, pos, nat_eq, ◌==◌, if◌then◌else◌, ◌+ℤ◌, FitsSigned}
use Rattle.std.specs.Int.{w64}
use Rattle.layout_params.specs.declared.cell.Cell.{Cell}
use Rattle.layout_params.specs.declared.cell.Cell.TheVariants.{Descr}
use Rattle.layout_params.specs.declared.cell.Descr.{Descr as Descriptor}
use Rattle.sil_model.specs.Access.{◌>>=◌, put_cell}
use Rattle.sil_model.specs.Effects.{MemoryEffect}
use Rattle.sil_model.specs.Integers.{◌⊞◌, within}
use Rattle.sil_model.specs.Memory.{Memory, IsMemory, FitsDescr}
use Rattle.sil_model.specs.States.{State}
use Rattle.sil_model.proofs.Keeps.{followed, sum_fits, within_limit, writes_set_descr}
use Rattle.sil_micro.specs.MicroStates.{Setting, Micro, Registers}
use Rattle.sil_micro.proofs.Making.{by_option, more, by_way}
use Rattle.exp_common.proofs.Questions.{IsRead, zero_within}
use Rattle.tree_clauses.specs.declared.turns.Copying.{Copying}
use Rattle.tree_clauses.specs.declared.turns.Offsets.{Offsets}
use Rattle.tree_clauses.specs.PatternClauses.{front_written, is_zero, raised, rest_written, risen}
use Rattle.tree_clauses.specs.TreeClauses.{father, left_son, node_code, right_sibling, set_maybe_descr_at}
use Rattle.pattern_runtime.specs.PatternParts.{copy_code}
use Rattle.pattern_runtime.proofs.NodeReads.{copy_state, four_times, holding, in_copy, raised_word, thrice, twice}
use Rattle.pattern_runtime.proofs.Words.{sum_within}

-- a memory in which a descriptor that fits was written
after_put : (m : Memory) (at : ℤ) (d : Descriptor) (cells : List Cell) → IsMemory m → FitsDescr m.limits d → put_cell m at (Descr d) ≡ Some cells → IsMemory (record m { cells = cells })
after_put m at d cells h fits is = (followed m (record m { cells = cells }) _ (writes_set_descr m at d h fits) (simp is refl)).is_memory

-- the fields of a descriptor that was read are within their limits
pub again_fits : (m : Memory) (a : ℤ) (f v : ℕ) → IsRead m.limits a f v → FitsDescr m.limits (record { a = a; f = f; v = v })
again_fits m a f v read = (read.fits, (within_limit m.limits.flag_limit (pos f) f read.f_again).0, (within_limit m.limits.value_limit (pos v) v read.v_again).0)

risen_fits : (a by : ℤ) → FitsSigned w64 (risen a by)
risen_fits a by = go (is_zero a) where
  go : (b : Bool) → FitsSigned w64 (if b then pos 0 else a ⊞ by)
  go true = omega arith
  go false = sum_fits a by

-- the offsets fit 64 bits
pub record FitOffsets (by : Offsets) : Type 0 where
  pub place : FitsSigned w64 by.place
  pub next : FitsSigned w64 by.next
  pub instead : FitsSigned w64 by.instead

raised_within : (limit v : ℕ) (by instead : ℤ) → limit < 2 ^ 48 → v < 2 ^ 48 → FitsSigned w64 by → within limit (raised_word v by instead) ≡ within limit (raised v by instead)
unfolding raised_word
raised_within limit v by instead h k fits = go (v == 0) where
  go : (b : Bool) → within limit (if b then instead else pos v ⊞ by) ≡ within limit (if b then instead else pos v +ℤ by)
  go true = refl
  go false = sum_within limit v by h k fits

module _ (g : Setting) (d1 : ℤ) (before : State) (failed : Option ℕ) (words : ℕ → ℤ) (cost : ℕ) (by : Offsets) (fit : FitOffsets by)
    (n : ℕ) (m : Memory) (valid : IsMemory m) (c : Copying) {X : Type 0} (go_on : Memory → Option X) (rest : X → MemoryEffect) where
  abbrev size : ℕ
  size = m.limits.cell_size

  abbrev micro : Memory → Registers → ℕ → Micro
  micro = copy_state before failed words

  abbrev place_in : ℕ → Micro → MemoryEffect → Type 0
  place_in = in_copy g d1 before cost

  -- the first two cells of the copy
  pub front_goes : (a : ℤ) (f v : ℕ) (a2 : ℤ) (f2 v2 : ℕ) (a3 v3 x y4 y5 y15 : ℤ) (w : ℕ) → IsRead m.limits a f v → IsRead m.limits a2 f2 v2 → w + 150 ≤ cost →
      ((cells : List Cell) → IsMemory (record m { cells = cells }) → front_written m by c.to (record { a = a; f = f; v = v }) (record { a = a2; f = f2; v = v2 }) ≡ Some (record m { cells = cells }) →
      place_in 47 (micro (record m { cells = cells }) (holding n c (pos size) (2 * size) v (risen a2 by.next) f2 (raised_word v2 by.next by.instead) a3 v3 (left_son m c.to) y4 y5 y15) (w + 8 + 8 + 28 + 8 + 8 + 8 + 28)) (go_on (record m { cells = cells }) >>= rest)) →
      place_in 40 (micro m (holding n c a f v (risen a2 by.next) f2 (raised_word v2 by.next by.instead) a3 v3 x y4 y5 y15) w)
      ((front_written m by c.to (record { a = a; f = f; v = v }) (record { a = a2; f = f2; v = v2 }) >>= go_on) >>= rest)
  unfolding front_written copy_code
  front_goes a f v a2 f2 v2 a3 v3 x y4 y5 y15 w first second pays go =
      let two = twice m valid in
      let same = raised_within m.limits.value_limit v2 by.next by.instead valid.limits.values second.value fit.next in
      by_option (put_cell m (father m c.to) (Descr (record { a = a; f = f; v = v })))
      (λ e. record { fuel = 4; meets = simp (first.f_again, first.v_again, e) (refl, refl, omega (arith, pays)) })
      (λ c1 e1.
      let valid1 = after_put m (father m c.to) (record { a = a; f = f; v = v }) c1 valid (again_fits m a f v first) e1 in
      by_option (within m.limits.value_limit (raised v2 by.next by.instead))
      (λ lost. record { fuel = 8; meets = simp (first.f_again, first.v_again, e1, two, second.f_again, same, lost) (refl, refl, omega (arith, pays)) })
      (λ value fits. by_option (put_cell (record m { cells = c1 }) (left_son m c.to) (Descr (record { a = risen a2 by.next; f = f2; v = value })))
      (λ e. record { fuel = 8; meets = simp (first.f_again, first.v_again, e1, two, second.f_again, same, fits, e) (refl, refl, omega (arith, pays)) })
      (λ c2 e2.
      let limit = (within_limit m.limits.value_limit (raised v2 by.next by.instead) value fits).0 in
      let valid2 = after_put (record m { cells = c1 }) (left_son m c.to) (record { a = risen a2 by.next; f = f2; v = value }) c2 valid1 (risen_fits a2 by.next, (again_fits m a2 f2 v2 second).1, limit) e2 in
      by_way (go c2 valid2 (simp (e1, second.f_again, fits, e2) refl)) (λ fuel y. record { fuel = more 7 fuel; meets = simp (first.f_again, first.v_again, e1, two, second.f_again, same, fits, e2) y }))))

  -- the third cell, where there is no fourth
  pub rest_goes : (v : ℕ) (a2 : ℤ) (f2 : ℕ) (v2 a3 : ℤ) (f3 v3 : ℕ) (x y4 y5 y15 : ℤ) (w : ℕ) → nat_eq v 3 ≡ false → v3 < 2 ^ 48 → w + 150 ≤ cost →
      ((cells : List Cell) → IsMemory (record m { cells = cells }) → rest_written m by c.to (record { a = a3; f = f3; v = v3 }) None ≡ Some (record m { cells = cells }) →
      place_in 56 (micro (record m { cells = cells }) (holding n c (pos size) (2 * size) v (pos 0) f2 v2 (a3 ⊞ by.place) (pos v3 ⊞ by.place) (pos 3) y4 y5 y15) (w + 8 + 8 + 8 + 28 + 8 + 8)) (go_on (record m { cells = cells }) >>= rest)) →
      place_in 47 (micro m (holding n c (pos size) (2 * size) v a2 f2 v2 (a3 ⊞ by.place) (pos v3 ⊞ by.place) x y4 y5 y15) w)
      ((rest_written m by c.to (record { a = a3; f = f3; v = v3 }) None >>= go_on) >>= rest)
  unfolding rest_written set_maybe_descr_at copy_code
  rest_goes v a2 f2 v2 a3 f3 v3 x y4 y5 y15 w t small pays go =
      let three = thrice m valid in
      let zero_f = zero_within m.limits.flag_limit in
      let same = sum_within m.limits.value_limit v3 by.place valid.limits.values small fit.place in
      by_option (within m.limits.value_limit (pos v3 +ℤ by.place))
      (λ lost. record { fuel = 4; meets = simp (three, zero_f, same, lost) (refl, refl, omega (arith, pays)) })
      (λ value fits. by_option (put_cell m (right_sibling m c.to) (Descr (record { a = a3 ⊞ by.place; f = 0; v = value })))
      (λ e. record { fuel = 4; meets = simp (three, zero_f, same, fits, e) (refl, refl, omega (arith, pays)) })
      (λ cells e.
      let limit = (within_limit m.limits.value_limit (pos v3 +ℤ by.place) value fits).0 in
      let valid' = after_put m (right_sibling m c.to) (record { a = a3 ⊞ by.place; f = 0; v = value }) cells valid (sum_fits a3 by.place, omega arith, limit) e in
      by_way (go cells valid' (simp (zero_f, fits, e) refl)) (λ fuel y. record { fuel = more 6 fuel; meets = simp (three, zero_f, same, fits, e, t) y })))

  -- the third and the fourth cell
  pub rest_with_goes : (v : ℕ) (a2 : ℤ) (f2 : ℕ) (v2 a3 : ℤ) (f3 v3 : ℕ) (a4 : ℤ) (f4 v4 : ℕ) (x : ℤ) (w : ℕ) → nat_eq v 3 ≡ true → v3 < 2 ^ 48 → IsRead m.limits a4 f4 v4 → w + 150 ≤ cost →
      ((cells : List Cell) → IsMemory (record m { cells = cells }) → rest_written m by c.to (record { a = a3; f = f3; v = v3 }) (Some (record { a = a4; f = f4; v = v4 })) ≡ Some (record m { cells = cells }) →
      place_in 56 (micro (record m { cells = cells }) (holding n c (pos size) (2 * size) v (pos 0) f2 v2 (a3 ⊞ by.place) (pos v3 ⊞ by.place) (node_code m c.to) (pos f4) (pos v4) a4) (w + 8 + 8 + 8 + 28 + 8 + 8 + 8 + 8 + 28)) (go_on (record m { cells = cells }) >>= rest)) →
      place_in 47 (micro m (holding n c (pos size) (2 * size) v a2 f2 v2 (a3 ⊞ by.place) (pos v3 ⊞ by.place) x (pos f4) (pos v4) a4) w)
      ((rest_written m by c.to (record { a = a3; f = f3; v = v3 }) (Some (record { a = a4; f = f4; v = v4 })) >>= go_on) >>= rest)
  unfolding rest_written set_maybe_descr_at copy_code
  rest_with_goes v a2 f2 v2 a3 f3 v3 a4 f4 v4 x w t small fourth pays go =
      let three = thrice m valid in
      let four = four_times m valid in
      let zero_f = zero_within m.limits.flag_limit in
      let same = sum_within m.limits.value_limit v3 by.place valid.limits.values small fit.place in
      by_option (within m.limits.value_limit (pos v3 +ℤ by.place))
      (λ lost. record { fuel = 4; meets = simp (three, zero_f, same, lost) (refl, refl, omega (arith, pays)) })
      (λ value fits. by_option (put_cell m (right_sibling m c.to) (Descr (record { a = a3 ⊞ by.place; f = 0; v = value })))
      (λ e. record { fuel = 4; meets = simp (three, zero_f, same, fits, e) (refl, refl, omega (arith, pays)) })
      (λ c1 e1.
      let limit = (within_limit m.limits.value_limit (pos v3 +ℤ by.place) value fits).0 in
      let valid1 = after_put m (right_sibling m c.to) (record { a = a3 ⊞ by.place; f = 0; v = value }) c1 valid (sum_fits a3 by.place, omega arith, limit) e1 in
      by_option (put_cell (record m { cells = c1 }) (node_code m c.to) (Descr (record { a = a4; f = f4; v = v4 })))
      (λ e. record { fuel = 9; meets = simp (three, zero_f, same, fits, e1, t, four, fourth.f_again, fourth.v_again, e) (refl, refl, omega (arith, pays)) })
      (λ c2 e2.
      let valid2 = after_put (record m { cells = c1 }) (node_code m c.to) (record { a = a4; f = f4; v = v4 }) c2 valid1 (again_fits m a4 f4 v4 fourth) e2 in
      by_way (go c2 valid2 (simp (zero_f, fits, e1, e2) refl)) (λ fuel y. record { fuel = more 9 fuel; meets = simp (three, zero_f, same, fits, e1, t, four, fourth.f_again, fourth.v_again, e2) y }))))
