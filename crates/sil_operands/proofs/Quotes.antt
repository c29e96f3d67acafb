-- Texts in quotes.
use Rattle.std.proofs.Common.{◌≡◌, ◌≢◌, ℕ, ◌+◌, ◌<◌, true, false, List, [], ◌∷◌, ◌++◌, length, drop, get_or, refl, ap, ◌∙◌, arith}
use Rattle.std.specs.Prelude.{◌==◌}
use Rattle.std.proofs.lemmas.Bool.Decides.{nat_tests}
use Rattle.std.proofs.lemmas.List.{at_drop_more}
use Rattle.sil_operands.specs.OperandReading.{text_in}
use Rattle.sil_operands.proofs.Each.{after, after-push}

module _ (bytes : List ℕ) (i : ℕ) (within : i < length bytes) where
  -- the second of two quotes
  pub second_quote : (xs : List ℕ) → get_or bytes i 0 ≡ 39 → after xs (text_in true (drop i bytes)) ≡ after (xs ++ 39 ∷ []) (text_in false (drop (i + 1) bytes))
  second_quote xs h =
      ap (after xs) (at_drop_more (text_in true) bytes i 0 within ∙ rw h refl)
      ∙ after-push xs 39 (text_in false (drop (i + 1) bytes))

  -- a quote that is the last or the first of two
  pub first_quote : get_or bytes i 0 ≡ 39 → text_in false (drop i bytes) ≡ text_in true (drop (i + 1) bytes)
  first_quote h = at_drop_more (text_in false) bytes i 0 within ∙ rw h refl

  -- a byte that is no quote
  pub no_quote : (xs : List ℕ) → get_or bytes i 0 ≢ 39 → after xs (text_in false (drop i bytes)) ≡ after (xs ++ get_or bytes i 0 ∷ []) (text_in false (drop (i + 1) bytes))
  no_quote xs h =
      let other : (get_or bytes i 0 == 39) ≡ false = grind (arith, nat_tests) in
      ap (after xs) (at_drop_more (text_in false) bytes i 0 within ∙ rw other refl)
      ∙ after-push xs (get_or bytes i 0) (text_in false (drop (i + 1) bytes))
