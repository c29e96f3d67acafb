-- The frame of a call among the values, and the operations that enter the procedure.
use Rattle.std.proofs.Common.{◌≡◌, ℕ, ◌+◌, ◌<◌, List, [], ◌∷◌, true, refl, ◌∙◌, arith}
use Rattle.std.proofs.lemmas.Bool.Decides.{nat_tests}
use Rattle.std.specs.Prelude.{ℤ, nat_le}
use Rattle.layout_params.specs.declared.cell.Descr.{Descr}
use Rattle.sil_model.specs.declared.limits.Limits.{Limits}
use Rattle.sil_model.specs.Access.{integer_alone}
use Rattle.sil_micro.proofs.Fields.{fits_within}
use Rattle.exp_common.proofs.JoinedParts.{IsPart}
use Rattle.exp_stack.proofs.ScratchWords.{Gathered, gathered_none, gathered_more, with_value}
use Rattle.exp_calls.specs.CallParts.{enter_code, frame_code}

pub frame_part : (statements formats k : ℕ) → IsPart statements formats 276 (frame_code k)
unfolding frame_code
frame_part statements formats k = record { part = refl; begins = refl; names = refl; quiet = refl; weight = refl }

pub enter_part : (statements formats procedure : ℕ) → procedure < statements → IsPart statements formats 92 (enter_code procedure)
unfolding enter_code
enter_part statements formats procedure lt =
    let le : nat_le procedure statements ≡ true = grind (arith, nat_tests) in
    record { part = refl; begins = refl; names = simp le refl; quiet = refl; weight = refl }

-- the words with the frame's two cells
abbrev pub framed : (ℕ → ℤ) → ℤ → ℤ → ℕ → ℤ
framed words top entry = with_value (with_value words 200 (integer_alone top)) 203 (integer_alone entry)

pub frame_gathered : (limits : Limits) (words : ℕ → ℤ) (top entry : ℤ) → Gathered limits words 200 2 (integer_alone top ∷ integer_alone entry ∷ []) (framed words top entry)
frame_gathered limits words top entry =
    let f = fits_within limits.flag_limit 0 (omega arith) in
    let v = fits_within limits.value_limit 0 (omega arith) in
    gathered_more limits words 200 1 (integer_alone top) (integer_alone entry ∷ []) (framed words top entry) f v
    (gathered_more limits (with_value words 200 (integer_alone top)) 203 0 (integer_alone entry) [] (framed words top entry) f v (gathered_none limits (framed words top entry) 206))

-- the arguments' values follow them
pub framed_values : (limits : Limits) (words words6 words' : ℕ → ℤ) (top entry : ℤ) (values : List Descr) (count : ℕ) → Gathered limits words 200 2 (integer_alone top ∷ integer_alone entry ∷ []) words6 → Gathered limits words6 206 count values words' →
    Gathered limits words 200 (2 + count) (integer_alone top ∷ integer_alone entry ∷ values) words'
framed_values limits words words6 words' top entry values count a b =
    let h = a.holds in
    record {
      holds = (
        b.kept.same 200 (omega arith) ∙ h.0,
        b.kept.same 201 (omega arith) ∙ h.1,
        b.kept.same 202 (omega arith) ∙ h.2,
        (b.kept.same 203 (omega arith) ∙ h.3.0, b.kept.same 204 (omega arith) ∙ h.3.1, b.kept.same 205 (omega arith) ∙ h.3.2, b.holds),
      );
      kept = record { same = λ j lt. b.kept.same j (omega arith) ∙ a.kept.same j lt };
      fit = (a.fit.0, a.fit.1, (a.fit.2.0, a.fit.2.1, b.fit));
      many = omega (arith, b.many);
    }
