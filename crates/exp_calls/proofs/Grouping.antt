-- Parts that are put together from the front or from the end.
use Rattle.std.proofs.Common.{◌≡◌, ℕ, ◌+◌, List, ◌++◌, length, Some, sym, ap, ◌∙◌, append_assoc, length-append}
use Rattle.std.specs.Prelude.{slice_set}
use Rattle.sil_micro.specs.declared.op.Op.{Op}
use Rattle.sil_micro.specs.Codes.{MicroCode, appended, begun, returned}
use Rattle.sil_micro.specs.Pieces.{joined, placed}
use Rattle.sil_micro.proofs.Parts.{appended_twice, length_joined, length_placed, placed_joined}

-- what stands behind two parts that are one
pub joined_assoc : (x y z : List Op) → joined (joined x y) z ≡ joined x (joined y z)
joined_assoc x y z =
    append_assoc x (placed (length x) y) (placed (length (joined x y)) z)
    ∙ ap (λ l. x ++ l) (ap (λ i. placed (length x) y ++ placed i z) (length_joined x y) ∙ sym (placed_joined (length x) y z))

-- a part before such ones
pub regrouped : (x y rest back : List Op) → rest ≡ joined y back → joined x rest ≡ joined (joined x y) back
regrouped x y rest back e = ap (λ l. joined x l) e ∙ sym (joined_assoc x y back)

-- a code whose call k has its return part at a place
abbrev with_part : MicroCode → ℕ → ℕ → MicroCode → MicroCode
with_part old k place c = record c { returns = slice_set old.returns k (Some place) }

-- a code with the call's own part, and behind it the return part
pub call_stands : (k : ℕ) (old entered mid part new : MicroCode) (call back : List Op) → entered ≡ begun k old → mid ≡ appended entered call → part ≡ returned k mid → new ≡ appended part back →
    new ≡ record (appended (begun k old) (joined call back)) { returns = slice_set old.returns k (Some (length old.ops + length call)) }
call_stands k old entered mid part new call back e1 e2 e3 e4 =
    let count : length (old.ops ++ placed (length old.ops) call) ≡ length old.ops + length call = length-append old.ops (placed (length old.ops) call) ∙ ap (λ i. length old.ops + i) (length_placed (length old.ops) call) in
    e4 ∙ ap (λ c. appended c back) (e3 ∙ ap (λ c. returned k c) (e2 ∙ ap (λ c. appended c call) e1))
    ∙ ap (λ c. with_part old k (length (old.ops ++ placed (length old.ops) call)) c) (appended_twice (begun k old) call back)
    ∙ ap (λ n. with_part old k n (appended (begun k old) (joined call back))) count
