-- Records keep to their limit.
use Rattle.std.proofs.Common.{◌≡◌, ℕ, suc, ◌+◌, ◌≤◌, Bool, true, false, cond, List, [], ◌∷◌, ◌++◌, length, arith, length-append, refl}
use Rattle.std.specs.Prelude.{nat_le}
use Rattle.std.proofs.lemmas.Bool.Decides.{nat_tests}
use Rattle.std.proofs.lemmas.List.Elements.{All-cons, All-nil}
use Rattle.sil_format.specs.ItemFields.{field_of}
use Rattle.sil_format.specs.Records.{Step, before, with_field, laid, has_data, passes, records_of, KeepsLimit}
use Rattle.sil_format.specs.Records.Step.{Put, Break, One, End}
use Rattle.sil_format.specs.declared.fields.Field.{Field}
use Rattle.sil_format.specs.declared.fields.Field.TheVariants as field
use Rattle.sil_format.specs.declared.format.Item.{Item}
use Rattle.sil_format.specs.declared.value.Laid.{Laid}
use Rattle.sil_format.specs.declared.value.Laid.TheVariants.{Records, Real, Unfit}
use Rattle.sil_format.specs.declared.value.Value.{Value}

before_keeps : (first : List ℕ) (rest : Laid) → length first ≤ 4096 → KeepsLimit rest → KeepsLimit (before first rest)
before_keeps first (Records records) short h = All-cons (λ bytes. length bytes ≤ 4096) first records short h
before_keeps first Real short h = tt
before_keeps first Unfit short h = tt

only_keeps : (last : List ℕ) → length last ≤ 4096 → KeepsLimit (Records (last ∷ []))
only_keeps last short = All-cons (λ bytes. length bytes ≤ 4096) last [] short (All-nil (λ bytes. length bytes ≤ 4096))

fits_keeps : (b : Bool) (last bytes : List ℕ) (further : List ℕ → Laid) → nat_le (length last + length bytes) 4096 ≡ b → ((longer : List ℕ) → length longer ≤ 4096 → KeepsLimit (further longer)) → KeepsLimit (cond b (further (last ++ bytes)) Unfit)
fits_keeps true last bytes further e h =
    let sum : length last + length bytes ≤ 4096 = grind (arith, nat_tests) in
    h (last ++ bytes) (omega (arith, length-append last bytes))
fits_keeps false last bytes further e h = tt

field_keeps : (f : Field) (last : List ℕ) (further : List ℕ → Laid) → ((longer : List ℕ) → length longer ≤ 4096 → KeepsLimit (further longer)) → KeepsLimit (with_field f last further)
field_keeps (field.Bytes bytes) last further h = fits_keeps (nat_le (length last + length bytes) 4096) last bytes further refl h
field_keeps field.Real last further h = tt
field_keeps field.Unfit last further h = tt

again_keeps : (again : Bool) (last : List ℕ) (rest : Laid) → length last ≤ 4096 → KeepsLimit rest → KeepsLimit (cond again (before last rest) Unfit)
again_keeps true last rest short h = before_keeps last rest short h
again_keeps false last rest short h = tt

laid_keeps : (again : Bool) (steps : List Step) (last : List ℕ) (values : List Value) → length last ≤ 4096 → KeepsLimit (laid again steps last values)
laid_keeps again [] last values short = tt
laid_keeps again (Put bytes ∷ steps) last values short = field_keeps (field.Bytes bytes) last (λ longer. laid again steps longer values) (λ longer h. laid_keeps again steps longer values h)
laid_keeps again (Break ∷ steps) last values short = before_keeps last (laid again steps [] values) short (laid_keeps again steps [] values (omega arith))
laid_keeps again (One kind ∷ steps) last [] short = only_keeps last short
laid_keeps again (One kind ∷ steps) last (value ∷ values) short = field_keeps (field_of kind value) last (λ longer. laid again steps longer values) (λ longer h. laid_keeps again steps longer values h)
laid_keeps again (End ∷ steps) last [] short = only_keeps last short
laid_keeps again (End ∷ steps) last (value ∷ values) short = again_keeps again last (laid again steps [] (value ∷ values)) short (laid_keeps again steps [] (value ∷ values) (omega arith))

pub records_keep : (items : List Item) (values : List Value) → KeepsLimit (records_of items values)
records_keep items values = laid_keeps (has_data items) (passes (suc (length values)) items) [] values (omega arith)
