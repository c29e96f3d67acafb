-- The words that keep the places of the stack.
use Rattle.std.proofs.Common.{◌≡◌, ℕ, ◌-◌, ◌^◌, ◌<◌, ◌≤◌, inl, List, length, ap, ◌∙◌, arith}
use Rattle.sil_base.specs.Bytes.{number, low_bytes, piece, with_piece, AreBytes}
use Rattle.sil_base.proofs.Numbers.{AreBytes-with_piece, low_bytes_below}
use Rattle.layout_params.proofs.PackingLemmas.{number_here, number_there, length-with_low}
use Rattle.rv_emit.specs.Carries.{with_stack}

pub length-stack : (top : ℕ) (bytes : List ℕ) → 16 ≤ length bytes → length (with_stack top bytes) ≡ length bytes
length-stack top bytes h =
    let inner = length-with_low 0 8 top bytes (omega (arith, h)) in
    length-with_low 8 8 top (with_piece 0 (low_bytes 8 top) bytes) (omega (arith, h, inner)) ∙ inner

pub second_word : (top : ℕ) (bytes : List ℕ) → 16 ≤ length bytes → top < 2 ^ 64 → number (piece 8 8 (with_stack top bytes)) ≡ top
second_word top bytes h small =
    let inner = length-with_low 0 8 top bytes (omega (arith, h)) in
    number_here 8 8 top (with_piece 0 (low_bytes 8 top) bytes) (omega (arith, h, inner)) small

pub first_word : (top : ℕ) (bytes : List ℕ) → 16 ≤ length bytes → top < 2 ^ 64 → number (piece 0 8 (with_stack top bytes)) ≡ top
first_word top bytes h small =
    let inner = length-with_low 0 8 top bytes (omega (arith, h)) in
    number_there 0 8 8 8 top (with_piece 0 (low_bytes 8 top) bytes) (omega (arith, h, inner)) (inl (omega arith)) ∙ number_here 0 8 top bytes (omega (arith, h)) small

pub AreBytes-stack : (top : ℕ) (bytes : List ℕ) → AreBytes bytes → AreBytes (with_stack top bytes)
AreBytes-stack top bytes h =
    AreBytes-with_piece 8 (low_bytes 8 top) (with_piece 0 (low_bytes 8 top) bytes) (low_bytes_below 8 top) (AreBytes-with_piece 0 (low_bytes 8 top) bytes (low_bytes_below 8 top) h)
