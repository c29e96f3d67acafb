-- How steps go on.
use Rattle.std.proofs.Common.{◌≡◌, ℕ, zero, suc, ◌+◌, ◌-◌, ◌<◌, Bool, true, false, List, [], ◌∷◌, ◌++◌, length, replicate, sum_by, refl, ap, ◌∙◌, sym, append_assoc, arith}
use Rattle.std.specs.Prelude.{nat_lt, ◌||◌}
use Rattle.std.proofs.lemmas.Bool.Decides.{nat_tests}
use Rattle.std.proofs.lemmas.List.Sums.{sum_by-cons}
use Rattle.sil_format.specs.Records.{Step, passes, steps_of, data_count, has_data, before, laid}
use Rattle.sil_format.specs.Records.Step.{End}
use Rattle.sil_format.specs.Layout.{behind, outcome, all_records}
use Rattle.sil_format.specs.declared.format.Item.{Item}
use Rattle.sil_format.specs.declared.sheet.Sheet.{Sheet}
use Rattle.sil_format.specs.declared.value.Laid.{Laid}
use Rattle.sil_format.specs.declared.value.Laid.TheVariants.{Records, Real, Unfit}
use Rattle.sil_format.specs.declared.value.Value.{Value}

-- the next of so many steps
pub next_step : (n i : ℕ) (step : Step) (more : List Step) → i < n → replicate (n - i) step ++ more ≡ step ∷ (replicate (n - (i + 1)) step ++ more)
next_step n i step more h =
    let e : n - i ≡ suc (n - (i + 1)) = omega arith in
    ap (λ k. replicate k step ++ more) e

one_more : (b : Bool) (n : ℕ) (rest : Bool) (more : ℕ) → nat_lt 0 n ≡ b → (rest ≡ true → 0 < more) → (b || rest) ≡ true → 0 < n + more
one_more true n rest more e some h = grind (arith, nat_tests)
one_more false n rest more e some h = omega (arith, some h)

-- a format with a data item takes a value
pub some_taken : (items : List Item) → has_data items ≡ true → 0 < sum_by data_count items
some_taken [] h = cc
some_taken (item ∷ items) h = rw (sum_by-cons data_count item items) (one_more (nat_lt 0 (data_count item)) (data_count item) (has_data items) (sum_by data_count items) refl (some_taken items) h)

-- the last record is ended
pub behind-before : (ended : List (List ℕ)) (last : List ℕ) (rest : Laid) → behind ended (before last rest) ≡ behind (ended ++ last ∷ []) rest
behind-before ended last (Records records) = ap Records (sym (append_assoc ended (last ∷ []) records))
behind-before ended last Real = refl
behind-before ended last Unfit = refl

-- the records of a sheet without any
pub behind-nil : (rest : Laid) → behind [] rest ≡ rest
behind-nil (Records records) = refl
behind-nil Real = refl
behind-nil Unfit = refl

-- a format with a data item starts again where values are left
starts_again : (ended : List (List ℕ)) (last : List ℕ) (n : ℕ) (items : List Item) (values : List Value) → 0 < n → 0 < length values → behind ended (laid true (End ∷ passes n items) last values) ≡ behind (ended ++ last ∷ []) (laid true (steps_of items ++ End ∷ passes (n - 1) items) [] values)
starts_again ended last zero items values some left = absurd (omega arith)
starts_again ended last (suc n) items [] some left = absurd (omega arith)
starts_again ended last (suc n) items (value ∷ values) some left =
    behind-before ended last (laid true (passes (suc n) items) [] (value ∷ values))
    ∙ ap (λ k. behind (ended ++ last ∷ []) (laid true (steps_of items ++ End ∷ passes k items) [] (value ∷ values))) (omega arith)

pub turn : (again : Bool) (old new : Sheet) (n : ℕ) (items : List Item) (values : List Value) → again ≡ true → new.ended.items ≡ all_records old → new.last.items ≡ [] → 0 < n → 0 < length values → outcome again old (End ∷ passes n items) values ≡ outcome again new (steps_of items ++ End ∷ passes (n - 1) items) values
turn again old new n items values on ended last some left =
    ap (λ b. outcome b old (End ∷ passes n items) values) on
    ∙ starts_again old.ended.items old.last.items n items values some left
    ∙ ap (λ records. behind records (laid true (steps_of items ++ End ∷ passes (n - 1) items) [] values)) (sym ended)
    ∙ ap (λ bytes. behind new.ended.items (laid true (steps_of items ++ End ∷ passes (n - 1) items) bytes values)) (sym last)
    ∙ ap (λ b. outcome b new (steps_of items ++ End ∷ passes (n - 1) items) values) (sym on)

-- the first pass, from a sheet without records
pub first_pass : (sheet : Sheet) (items : List Item) (values : List Value) → sheet.ended.items ≡ [] → sheet.last.items ≡ [] → laid (has_data items) (passes (suc (length values)) items) [] values ≡ outcome (has_data items) sheet (steps_of items ++ End ∷ passes (length values) items) values
first_pass sheet items values ended last =
    sym (behind-nil (laid (has_data items) (passes (suc (length values)) items) [] values))
    ∙ ap (λ records. behind records (laid (has_data items) (passes (suc (length values)) items) [] values)) (sym ended)
    ∙ ap (λ bytes. behind sheet.ended.items (laid (has_data items) (passes (suc (length values)) items) bytes values)) (sym last)
