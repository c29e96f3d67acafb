-- Jumps by entries, and to return parts.
use Rattle.std.proofs.Common.{◌≡◌, ℕ, ◌+◌, ◌<◌, ◌≤◌, [], ◌∷◌, length, Option, Some, None, false, refl, sym, ap, subst, ◌∙◌, arith}
use Rattle.std.specs.Prelude.{ℤ}
use Rattle.std.specs.Int.{w64, cast_signed, cast_unsigned}
use Rattle.std.proofs.lemmas.Int.{to_z-of_z}
use Rattle.sil_model.specs.Access.{◌>>=◌}
use Rattle.sil_micro.specs.MicroStates.{Setting, Micro, held}
use Rattle.sil_model.specs.Entries.{entered_statement}
use Rattle.sil_micro.specs.Operations.{jump_entry}
use Rattle.image_file.specs.Image.{Image}
use Rattle.rv_emulate.specs.declared.end.CpuEnd.TheVariants.{Undefined}
use Rattle.rv_emulate.specs.EmulatorStates.{State, On, Ended, register}
use Rattle.rv_straight.specs.InstalledWays.{Comes}
use Rattle.rv_straight.specs.Registers.{Writes, Knows}
use Rattle.rv_straight.specs.InstrEffects.{Value}
use Rattle.rv_straight.specs.Straight.{at, ◌▸◌}
use Rattle.rv_straight.specs.Reaching.{Reaches}
use Rattle.rv_straight.proofs.Ways.{then_comes, comes_within}
use Rattle.rv_straight.proofs.Registers.{read_kept, knows_write}
use Rattle.rv_straight.proofs.Leaps.{half_way}
use Rattle.rv_straight.proofs.Reaching.{start, straight, leaps}
use Rattle.rv_operations.specs.Homes.{is_temporary}
use Rattle.rv_operations.specs.OpCodes.{entry_code}
use Rattle.rv_operations.specs.Does.{Does, ComesBack, Begins}
use Rattle.rv_operations.specs.Switch.{Switches, IsSwitch, LawOfJumpEntry, LawOfJumpReturn}
use Rattle.rv_operations.proofs.Standing.{stands_at}
use Rattle.rv_operations.proofs.Doing.{covers, moves_from, lost}

module _ {image : Image} {last : ℕ} {g : Setting} {places : ℕ → Option ℕ} {entry routine : ℕ} {u : Micro} {s : State} (entry_ok : entry < 16) (r : IsSwitch image last g.settings.sizes.descr g.statements routine places) (b : Begins image last g (entry_code entry s.pc routine) u s) where
  abbrev z : ℤ
  z = held u.registers entry

  abbrev x : ℕ
  x = cast_unsigned w64 z

  abbrev ws : Writes
  ws = (28, half_way (s.pc + 4) routine) ∷ (10, x) ∷ []

  abbrev t : State
  t = at s routine ws s.memory

  p : Reaches b.code 1 1 ((10, x) ∷ []) s.memory
  p = straight (start b.code b.stands.file) 1 (Value x ∷ []) (omega arith) (omega arith) (moves_from b.stands entry [] entry_ok refl ▸ tt)

  know : Knows s.registers ws
  know = knows_write s.registers ((10, x) ∷ []) 28 (half_way (s.pc + 4) routine) p.know (omega arith) (omega arith)

  way : Comes image last false 3 s (On t)
  way = leaps p 28 0 routine (omega arith) refl refl (omega arith) (omega (arith, r.low)) r.even

  number_is : register t.registers 26 ≡ register s.registers 26
  number_is = know.reads 26 ∙ read_kept is_temporary s.registers ws 26 refl refl

  abbrev found : Option ℕ
  found = entered_statement u.state.memory.limits.cell_size g.statements z

  same : entered_statement g.settings.sizes.descr g.statements (cast_signed w64 (register t.registers 10)) ≡ found
  same =
      ap (λ y. entered_statement g.settings.sizes.descr g.statements (cast_signed w64 y)) (know.reads 10)
      ∙ ap (λ y. entered_statement g.settings.sizes.descr g.statements y) (to_z-of_z w64 z (b.stands.fit entry entry_ok))
      ∙ ap (λ d. entered_statement d g.statements z) (sym b.stands.memory.limit)

  few : register s.registers 26 ≤ length image.statements
  few = omega (arith, b.stands.statement, b.number)

  pub switched : Switches image last t (found >>= places)
  switched = subst (λ o. Switches image last t (o >>= places)) same (r.runs t refl know.file (rw number_is few))

  pub comes_back : (o : Option ℕ) → Switches image last t o → ComesBack image last g 21 s u o
  comes_back None h =
      let ended = then_comes image last false 3 18 s t _ way r.free h in
      lost b (subst (λ k. Comes image last false 21 s (Ended (Some (Undefined k)) s.tapes)) number_is ended)
  comes_back (Some place) h =
      let kept = λ (q : ℕ) (free : is_temporary q ≡ false). h.3 q (covers.scratch q free) ∙ know.reads q ∙ read_kept is_temporary s.registers ws q refl free in
      (record s { pc = place; registers = h.0 }, comes_within image last false 18 21 s _ (then_comes image last false 3 15 s t _ way r.free h.1) (omega arith), refl, stands_at g u s place h.0 b.stands h.2 kept)

pub jumps_by : LawOfJumpEntry
jumps_by image last g places entry u s entry_ok r b = by (entered_statement u.state.memory.limits.cell_size g.statements (held u.registers entry)) (switched entry_ok r b)
  where
    by : (o : Option ℕ) → Switches image last (t entry_ok r b) (o >>= (λ k. Some (places.statement k))) → Does image last g places false 21 (s.pc + 12) s (jump_entry o u)
    by None h = comes_back entry_ok r b None h
    by (Some k) h = comes_back entry_ok r b (Some (places.statement k)) h

pub jumps_back : LawOfJumpReturn
jumps_back image last g places entry u s entry_ok r b = comes_back entry_ok r b _ (switched entry_ok r b)
