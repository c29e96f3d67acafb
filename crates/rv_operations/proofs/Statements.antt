-- The beginning of a statement, and the end.
use Rattle.std.proofs.Common.{◌≡◌, ◌≢◌, ℕ, zero, suc, ◌+◌, ◌-◌, ◌*◌, ◌^◌, ◌<◌, ◌≤◌, List, [], ◌∷◌, length, Option, Some, None, Bool, true, false, ◌==◌, refl, ap, subst, ◌∙◌, arith}
use Rattle.std.specs.Prelude.{ℤ, pos, negsuc, nat_lt, not}
use Rattle.std.specs.Int.{w64, cast_unsigned}
use Rattle.sil_micro.specs.MicroStates.{Setting, Micro, held}
use Rattle.sil_micro.specs.Operations.{begin_if, end_by, unit_fault}
use Rattle.image_file.specs.Image.{Image}
use Rattle.rv_emulate.specs.declared.end.CpuEnd.TheVariants.{Budget}
use Rattle.rv_emulate.specs.Ecalls as calls
use Rattle.rv_emulate.specs.EmulatorStates.{State, Ended, register}
use Rattle.rv_emulate.specs.InstrValues.{sum64, extended}
use Rattle.rv_straight.specs.InstalledWays.{Comes}
use Rattle.rv_straight.specs.InstrEffects.{Value}
use Rattle.rv_straight.specs.Registers.{Writes, written}
use Rattle.rv_straight.specs.Straight.{at, ◌▸◌}
use Rattle.rv_straight.specs.Constants.{upper_of}
use Rattle.rv_straight.specs.Reaching.{Reaches}
use Rattle.rv_straight.proofs.Registers.{read_other}
use Rattle.rv_straight.proofs.Ways.{comes_within}
use Rattle.rv_straight.proofs.Numbers.{constant_is}
use Rattle.rv_straight.proofs.Reaching.{start, straight, passes, branches, ends, ends_by, ends_now, runs, knows}
use Rattle.rv_operations.specs.CodePlaces.{Places}
use Rattle.rv_operations.specs.OpCodes.{begin_code, end_code}
use Rattle.rv_operations.specs.Does.{Does, Begins, BeginsAnew}
use Rattle.rv_operations.specs.Laws.{LawOfBegin, LawOfEnd}
use Rattle.rv_operations.proofs.Standing.{stands_begun}
use Rattle.rv_operations.proofs.Doing.{moves_from}

-- no step is left, or some are
none_left : (left steps bound : ℕ) → left + steps ≡ bound → nat_lt steps bound ≡ false → (left == 0) ≡ true
none_left left steps bound e h = grind arith

left_over : (left steps bound : ℕ) → left + steps ≡ bound → nat_lt steps bound ≡ true → (left == 0) ≡ false
left_over left steps bound e h = grind arith

above_zero : (left : ℕ) → (left == 0) ≡ false → 0 < left
above_zero left h = grind arith

one_less : (n : ℕ) → 0 < n → n < 2 ^ 64 → sum64 n (2 ^ 64 - 1) ≡ n - 1
one_less n h lt = omega arith

module _ {image : Image} {last : ℕ} {g : Setting} (places : Places) (k : ℕ) {u : Micro} {s : State} (small : k < 2 ^ 31 - 2 ^ 11) (known : k ≤ length image.statements) (b : BeginsAnew image last g (begin_code k) u s) where
  abbrev xs : List ℕ
  xs = s.registers

  abbrev left : ℕ
  left = register xs 27

  abbrev up : ℕ
  up = extended (upper_of k * 2 ^ 12)

  abbrev ws : Writes
  ws = (26, k) ∷ (26, up) ∷ []

  to_2 : Reaches b.code 2 2 ws s.memory
  to_2 = straight (start b.code b.stands.file) 2 (Value up ∷ Value k ∷ []) (omega arith) (omega arith) (refl ▸ constant_is k small ▸ tt)

  by_steps : (e : Bool) → nat_lt u.state.steps g.bound ≡ e → Does image last g places false 6 (s.pc + 28) s (begin_if e k u)
  by_steps false e =
      let none = none_left left u.state.steps g.bound b.stands.left e in
      let way = ends_by (passes to_2 refl (omega arith) (ap not none)) 4 k (omega arith) refl refl (omega arith) refl known in
      subst (λ tapes. Comes image last false 6 s (Ended (Some Budget) tapes)) b.stands.tapes way
  by_steps true e =
      let over = left_over left u.state.steps g.bound b.stands.left e in
      let some = above_zero left over in
      let r = branches to_2 6 refl (omega arith) (omega arith) (ap not over) (omega (arith, b.code.low)) in
      let all : Writes = (27, left - 1) ∷ ws in
      let does = one_less left some (b.stands.file.small 27) in
      let way = runs r 1 (Value (left - 1) ∷ []) (omega arith) (omega arith) (does ▸ tt) in
      let know = knows r 1 (Value (left - 1) ∷ []) (omega arith) (does ▸ tt) in
      let kept = λ (q : ℕ) (n26 : q ≢ 26) (n27 : q ≢ 27). know.reads q ∙ read_other xs ws 27 (left - 1) q n27 ∙ read_other xs ((26, up) ∷ []) 26 k q n26 ∙ read_other xs [] 26 up q n26 in
      let sum = b.stands.left in
      let less : register (written xs all) 27 + suc u.state.steps ≡ g.bound = omega (arith, know.reads 27) in
      let next : s.pc + 4 * (6 + 1) ≡ s.pc + 28 = omega arith in (
        at s (s.pc + 28) all s.memory,
        comes_within image last false 4 6 s _ (ends r 1 _ way) (omega arith),
        refl,
        stands_begun g u s k (s.pc + 28) 28 (written xs all) b.stands know.file (know.reads 26) less kept,
      )

pub begins_statement : LawOfBegin
begins_statement image last g places k u s small known b = by_steps places k small known b (nat_lt u.state.steps g.bound) refl

module _ {image : Image} {last : ℕ} {g : Setting} (places : Places) (by : ℕ) {u : Micro} {s : State} (by_ok : by < 16) (b : Begins image last g (end_code by) u s) where
  abbrev z : ℤ
  z = held u.registers by

  abbrev v : ℕ
  v = cast_unsigned w64 z

  abbrev writes : Writes
  writes = (17, 1) ∷ (10, v) ∷ []

  to_call : Reaches b.code 2 2 writes s.memory
  to_call = straight (start b.code b.stands.file) 2 (Value v ∷ Value 1 ∷ []) (omega arith) (omega arith) (moves_from b.stands by [] by_ok refl ▸ refl ▸ tt)

  -- the run ends as the number in a0 asks
  ended : Comes image last false 3 s (Ended (Some (calls.end_by v u.state.statement u.failed (s.pc + 8))) u.state.tapes)
  ended =
      let low : u.state.statement ≤ length image.statements = b.number in
      let way = ends_now to_call v u.state.statement refl refl refl b.stands.statement low in
      subst (λ failed. Comes image last false 3 s (Ended (Some (calls.end_by v u.state.statement failed (s.pc + 8))) u.state.tapes)) b.stands.failed
      (subst (λ tapes. Comes image last false 3 s (Ended (Some (calls.end_by v u.state.statement s.failed (s.pc + 8))) tapes)) b.stands.tapes way)

  by_fault : (o : Option ℕ) → Comes image last false 3 s (Ended (Some (calls.end_by 5 u.state.statement o (s.pc + 8))) u.state.tapes) → Does image last g places false 3 (s.pc + 12) s (unit_fault o u)
  by_fault None h = tt
  by_fault (Some unit) h = h

  by_number : (n : ℤ) → Comes image last false 3 s (Ended (Some (calls.end_by (cast_unsigned w64 n) u.state.statement u.failed (s.pc + 8))) u.state.tapes) → Does image last g places false 3 (s.pc + 12) s (end_by n u)
  by_number (pos zero) h = h
  by_number (pos (suc zero)) h = h
  by_number (pos (suc (suc zero))) h = h
  by_number (pos (suc (suc (suc zero)))) h = h
  by_number (pos (suc (suc (suc (suc zero))))) h = h
  by_number (pos (suc (suc (suc (suc (suc zero)))))) h = by_fault u.failed h
  by_number (pos (suc (suc (suc (suc (suc (suc n))))))) h = tt
  by_number (negsuc n) h = tt

pub ends_run : LawOfEnd
ends_run image last g places by u s by_ok b = by_number places by by_ok b (held u.registers by) (ended places by by_ok b)
