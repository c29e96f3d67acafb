-- The operations of a piece, placed one by one.
use Rattle.std.proofs.Common.{◌≡◌, ℕ, zero, suc, ◌+◌, ◌<◌, ◌≤◌, List, [], ◌∷◌, ◌++◌, length, map, take, get_or, true, refl, ◌∙◌, arith, length-append}
use Rattle.sil_micro.specs.declared.op.Op.{Op}
use Rattle.sil_micro.specs.Forms.{is_op, all_ops}
use Rattle.sil_micro.specs.Pieces.{placed_op, fits_part, is_part}
use Rattle.sil_micro.proofs.Moved.{and_first, and_second}
use Rattle.sil_micro.proofs.Parts.{and_both, all_alike, all_append, rules_placed}

pub fits_at : (size : ℕ) (ops : List Op) (i : ℕ) (default : Op) → all_ops (fits_part size) ops ≡ true → i < length ops → fits_part size (get_or ops i default) ≡ true
fits_at size [] i default h lt = absurd (omega arith)
fits_at size (op ∷ ops) zero default h lt = and_first (fits_part size op) (all_ops (fits_part size) ops) h
fits_at size (op ∷ ops) (suc i) default h lt = fits_at size ops i default (and_second (fits_part size op) (all_ops (fits_part size) ops) h) (omega arith)

all_taken : (size i : ℕ) (ops : List Op) → all_ops (fits_part size) ops ≡ true → all_ops (fits_part size) (take i ops) ≡ true
all_taken size zero ops h = refl
all_taken size (suc i) [] h = refl
all_taken size (suc i) (op ∷ ops) h = and_both _ _ (and_first _ _ h) (all_taken size i ops (and_second _ _ h))

rules_kept : (size b : ℕ) (op : Op) → fits_part size op ≡ true → is_op (placed_op b op) ≡ true
rules_kept size b op h = rules_placed b op ∙ and_first _ _ h

-- the operations placed so far keep their rules
pub rules_so_far : (b i : ℕ) (before piece : List Op) → is_part piece ≡ true → all_ops is_op before ≡ true → all_ops is_op (before ++ map (placed_op b) (take i piece)) ≡ true
rules_so_far b i before piece part rules = all_append is_op before _ rules (all_alike (fits_part (length piece)) is_op (placed_op b) (rules_kept (length piece) b) (take i piece) (all_taken (length piece) i piece part))

length_taken : (b i : ℕ) (piece : List Op) → length (map (placed_op b) (take i piece)) ≤ length piece
length_taken b zero piece = omega arith
length_taken b (suc i) [] = omega arith
length_taken b (suc i) (op ∷ piece) = let h = length_taken b i piece in omega (arith, h)

pub most_so_far : (b i : ℕ) (before piece : List Op) → length (before ++ map (placed_op b) (take i piece)) ≤ length before + length piece
most_so_far b i before piece = omega (arith, length-append before (map (placed_op b) (take i piece)), length_taken b i piece)

pub ruleset placing = (rules_so_far, most_so_far)
