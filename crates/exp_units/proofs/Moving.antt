-- A unit is moved.
use Rattle.std.proofs.Common.{◌≡◌, ℕ, zero, suc, List, [], ◌∷◌, true, false, refl, sym, ◌∙◌, subst, arith}
use Rattle.std.specs.Prelude.{ℤ}
use Rattle.unit_io.specs.Tapes.{TapeState, next_fails, rewound, backspaced, ended}
use Rattle.unit_calls.specs.CallsMade.{moved}
use Rattle.sil_macros.specs.declared.names.Macro.{Macro}
use Rattle.sil_macros.specs.declared.names.Macro.TheVariants.{Bkspce, Enfile, Rewind}
use Rattle.sil_model.specs.declared.program.Arg.{Arg}
use Rattle.sil_model.specs.declared.program.Arg.TheVariants.{Place}
use Rattle.sil_model.specs.declared.program.Specials.{Specials}
use Rattle.sil_model.specs.Access.{descr_at}
use Rattle.unit_clauses.specs.UnitTable.{unit_visits, unit_clause}
use Rattle.sil_model.specs.Prints.{writes_records}
use Rattle.sil_model.specs.Sites.{Site}
use Rattle.sil_model.specs.States.{State}
use Rattle.unit_clauses.specs.UnitClauses.{bkspce, enfile, move_unit, rewind, unit_named}
use Rattle.sil_micro.specs.declared.op.Op.{Op}
use Rattle.sil_micro.specs.declared.op.Text.TheVariants as text
use Rattle.sil_micro.specs.declared.op.Values.TheVariants as values
use Rattle.sil_micro.specs.Codes.{MicroCode}
use Rattle.sil_micro.specs.Expands.{Does, Expands, IsPiece, at}
use Rattle.sil_micro.specs.MicroStates.{Setting, Micro}
use Rattle.sil_micro.specs.Operations.{answered, told_call}
use Rattle.sil_micro.specs.Pieces.{joined, is_part}
use Rattle.sil_micro.specs.UnitCalls.{can_call}
use Rattle.sil_micro.proofs.Making.{by_option, by_way, more, then_part}
use Rattle.exp_common.proofs.JoinedParts.{IsPart, whole_piece}
use Rattle.exp_units.specs.UnitMoves.{move_by, moves_unit}
use Rattle.exp_units.specs.UnitParts.{call_code, unit_head}
use Rattle.exp_units.proofs.Calling.{call_goes, head_first, only_one, same_unit}

abbrev pub move_code : ℕ → ℕ → ℤ → List Op
move_code k call d = joined (unit_head k d) (call_code call text.None values.None)

-- ---- its operations

move_part : (statements formats call : ℕ) → moves_unit call ≡ true → IsPart statements formats 176 (call_code call text.None values.None)
unfolding call_code
move_part statements formats (suc (suc (suc (suc zero)))) h = record { part = refl; begins = refl; names = refl; quiet = refl; weight = refl }
move_part statements formats (suc (suc (suc (suc (suc zero))))) h = record { part = refl; begins = refl; names = refl; quiet = refl; weight = refl }
move_part statements formats (suc (suc (suc (suc (suc (suc zero)))))) h = record { part = refl; begins = refl; names = refl; quiet = refl; weight = refl }
move_part statements formats _ h = absurd (cc)

pub move_piece : (k statements formats call : ℕ) (d : ℤ) → moves_unit call ≡ true → IsPiece k statements formats false (move_code k call d)
move_piece k statements formats call d h = whole_piece (head_first k statements formats d) (move_part statements formats call h) (omega arith)

-- ---- what they do

moved_fails : (change : TapeState → TapeState) (t : TapeState) → (moved change t).answer ≡ 1 → (moved change t).failed ≡ true
moved_fails change t e = only_one (next_fails t) e

-- the call can be made, and changes the tape so
record Moves (call : ℕ) (change : TapeState → TapeState) : Type 0 where
  part : is_part (call_code call text.None values.None) ≡ true
  can : (g : Setting) (u : Micro) → can_call g u call text.None values.None ≡ true
  tells : (g : Setting) (unit : ℕ) (u : Micro) (t : TapeState) → told_call g call text.None values.None unit 1 u t ≡ answered unit 1 u (moved change t)

module _ (k : ℕ) (d : ℤ) (specials : Specials) (seen : Site → State → ℕ) where
  moving : (call : ℕ) (change : TapeState → TapeState) → Moves call change → Does k (move_code k call d) specials (Place d ∷ []) (λ site s. move_unit change site s) seen
  unfolding unit_head
  moving call change x g program parameters u h =
      let before : State = at k u.state in
      by_option (descr_at u.state.memory d)
      (λ none. record { fuel = 4; meets = simp (h.left, none) (refl, refl, omega arith) })
      (λ found is. by_way (then_part (unit_head k d) x.part (omega arith)
      (call_goes g call text.None values.None before (unit_named found.a) (record u.registers { r1 = d; r4 = found.a }) u.scratch _ (moved change) u.failed 64 (λ v. x.can g _) (λ v t. x.tells g _ _ t) (moved_fails change) (same_unit found.a) (omega arith)))
      (λ f z. record { fuel = more 3 f; meets = simp (h.left, is) z }))

  pub move_does : (call : ℕ) → moves_unit call ≡ true → Does k (move_code k call d) specials (Place d ∷ []) (move_by call) seen
  unfolding rewind bkspce enfile can_call call_code
  move_does (suc (suc (suc (suc zero)))) h = moving 4 rewound (record { part = refl; can = λ g u. refl; tells = λ g unit u t. refl })
  move_does (suc (suc (suc (suc (suc zero))))) h = moving 5 backspaced (record { part = refl; can = λ g u. refl; tells = λ g unit u t. refl })
  move_does (suc (suc (suc (suc (suc (suc zero)))))) h = moving 6 ended (record { part = refl; can = λ g u. refl; tells = λ g unit u t. refl })
  move_does _ h = absurd (cc)

-- ---- by the name of the macro

-- the macro makes this call
pub record IsBy (name : Macro) (call : ℕ) : Type 0 where
  pub same : move_by call ≡ unit_clause name
  pub silent : writes_records name ≡ false

pub by_rewind : IsBy Rewind 4
unfolding unit_clause
by_rewind = record { same = refl; silent = refl }

pub by_bkspce : IsBy Bkspce 5
unfolding unit_clause
by_bkspce = record { same = refl; silent = refl }

pub by_enfile : IsBy Enfile 6
unfolding unit_clause
by_enfile = record { same = refl; silent = refl }

pub by_name : {old new : MicroCode} {k : ℕ} {specials : Specials} {args items : List Arg} {d : ℤ} {call : ℕ} (name other : Macro) → name ≡ other → IsBy other call → items ≡ args → items ≡ Place d ∷ [] →
    ((visits : Site → State → ℕ) → Expands old new k specials (Place d ∷ []) (move_by call) visits false) → Expands old new k specials args (unit_clause name) (unit_visits name) (writes_records name)
by_name {old} {new} {k} {specials} {args} {items} {d} {call} name other is by same alone x =
    subst (λ n. Expands old new k specials args (unit_clause n) (unit_visits n) (writes_records n)) (sym is)
    (subst (λ l. Expands old new k specials l (unit_clause other) (unit_visits other) (writes_records other)) (sym alone ∙ same)
    (subst (λ f. Expands old new k specials (Place d ∷ []) f (unit_visits other) (writes_records other)) by.same
    (subst (λ b. Expands old new k specials (Place d ∷ []) (move_by call) (unit_visits other) b) (sym by.silent) (x (unit_visits other)))))
