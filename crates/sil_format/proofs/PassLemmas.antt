-- There are passes enough.
use Rattle.std.proofs.Common.{◌≡◌, ℕ, zero, suc, ◌+◌, ◌-◌, ◌≤◌, ◌<◌, Bool, true, false, cond, List, [], ◌∷◌, ◌++◌, length, replicate, sum_by, inl, inr, ◌⊎◌, refl, sym, ap, ◌∙◌, append_assoc, arith, subst}
use Rattle.std.specs.Prelude.{nat_le}
use Rattle.std.proofs.lemmas.List.Sums.{sum_by-cons}
use Rattle.sil_format.specs.ItemFields.{field_of}
use Rattle.sil_format.specs.Layout.{behind}
use Rattle.sil_format.specs.Records.{Step, item_steps, steps_of, passes, data_count, has_data, before, with_field, laid, records_of}
use Rattle.sil_format.specs.Records.Step.{Put, Break, One, End}
use Rattle.sil_format.specs.declared.fields.Field.{Field}
use Rattle.sil_format.specs.declared.fields.Field.TheVariants as field
use Rattle.sil_format.specs.declared.format.DataKind.{DataKind}
use Rattle.sil_format.specs.declared.format.Item.{Item}
use Rattle.sil_format.specs.declared.format.Item.TheVariants.{Blanks, Text, NewRecord, Data}
use Rattle.sil_format.specs.declared.value.Laid.{Laid}
use Rattle.sil_format.specs.declared.value.Laid.TheVariants.{Records, Real, Unfit}
use Rattle.sil_format.specs.declared.value.Value.{Value}
use Rattle.sil_format.proofs.LayoutLemmas.{some_taken, behind-nil}

-- steps that stop, whatever follows them
record StopsThere (steps : List Step) (last : List ℕ) (values : List Value) : Type 0 where
  whole : Laid
  stops : (again : Bool) (more : List Step) → laid again (steps ++ more) last values ≡ whole

-- steps that are followed by others, and take so many values
record Passes (steps : List Step) (last : List ℕ) (values : List Value) (taken : ℕ) : Type 0 where
  ended : List (List ℕ)
  after : List ℕ
  left : List Value
  goes : (again : Bool) (more : List Step) → laid again (steps ++ more) last values ≡ behind ended (laid again more after left)
  count : length left + taken ≡ length values

abbrev Runs : List Step → List ℕ → List Value → ℕ → Type 0
Runs steps last values taken = StopsThere steps last values ⊎ Passes steps last values taken

-- ---- steps one after another

behind-behind : (first second : List (List ℕ)) (rest : Laid) → behind first (behind second rest) ≡ behind (first ++ second) rest
behind-behind first second (Records records) = ap Records (sym (append_assoc first second records))
behind-behind first second Real = refl
behind-behind first second Unfit = refl

then_stops : (first second : List Step) (last : List ℕ) (values : List Value) (a : ℕ) (p : Passes first last values a) → StopsThere second p.after p.left → StopsThere (first ++ second) last values
then_stops first second last values a p s = record {
  whole = behind p.ended s.whole;
  stops = λ again more. ap (λ steps. laid again steps last values) (append_assoc first second more) ∙ p.goes again (second ++ more) ∙ ap (behind p.ended) (s.stops again more);
}

then_passes : (first second : List Step) (last : List ℕ) (values : List Value) (a b : ℕ) (p : Passes first last values a) → Passes second p.after p.left b → Passes (first ++ second) last values (a + b)
then_passes first second last values a b p q = record {
  ended = p.ended ++ q.ended;
  after = q.after;
  left = q.left;
  goes = λ again more.
      ap (λ steps. laid again steps last values) (append_assoc first second more)
      ∙ p.goes again (second ++ more)
      ∙ ap (behind p.ended) (q.goes again more)
      ∙ behind-behind p.ended q.ended (laid again more q.after q.left);
  count = omega (arith, p.count, q.count);
}

joined : (first second : List Step) (last : List ℕ) (values : List Value) (a b : ℕ) → Runs first last values a → ((after : List ℕ) (left : List Value) → Runs second after left b) → Runs (first ++ second) last values (a + b)
joined first second last values a b (inl s) h = inl (record { whole = s.whole; stops = λ again more. ap (λ steps. laid again steps last values) (append_assoc first second more) ∙ s.stops again (second ++ more) })
joined first second last values a b (inr p) h =
    elim (h p.after p.left) [
      | inl s ↦ inl (then_stops first second last values a p s)
      | inr q ↦ inr (then_passes first second last values a b p q)
    ]

nothing_runs : (last : List ℕ) (values : List Value) → Runs [] last values 0
nothing_runs last values = inr (record { ended = []; after = last; left = values; goes = λ again more. sym (behind-nil (laid again more last values)); count = omega arith })

-- ---- each step

bytes_run : (b : Bool) (bytes last : List ℕ) (values : List Value) → nat_le (length last + length bytes) 4096 ≡ b → Runs (Put bytes ∷ []) last values 0
bytes_run true bytes last values e = inr (record {
  ended = [];
  after = last ++ bytes;
  left = values;
  goes = λ again more. ap (λ b. cond b (laid again more (last ++ bytes) values) Unfit) e ∙ sym (behind-nil (laid again more (last ++ bytes) values));
  count = omega arith;
})
bytes_run false bytes last values e = inl (record { whole = Unfit; stops = λ again more. ap (λ b. cond b (laid again more (last ++ bytes) values) Unfit) e })

before-is-behind : (last : List ℕ) (rest : Laid) → before last rest ≡ behind (last ∷ []) rest
before-is-behind last (Records records) = refl
before-is-behind last Real = refl
before-is-behind last Unfit = refl

break_runs : (last : List ℕ) (values : List Value) → Runs (Break ∷ []) last values 0
break_runs last values = inr (record { ended = last ∷ []; after = []; left = values; goes = λ again more. before-is-behind last (laid again more [] values); count = omega arith })

written_runs : (b : Bool) (bytes last : List ℕ) (kind : DataKind) (value : Value) (values : List Value) → field_of kind value ≡ field.Bytes bytes → nat_le (length last + length bytes) 4096 ≡ b → Runs (One kind ∷ []) last (value ∷ values) 1
written_runs true bytes last kind value values is e = inr (record {
  ended = [];
  after = last ++ bytes;
  left = values;
  goes = λ again more.
      ap (λ f. with_field f last (λ longer. laid again more longer values)) is
      ∙ ap (λ b. cond b (laid again more (last ++ bytes) values) Unfit) e
      ∙ sym (behind-nil (laid again more (last ++ bytes) values));
  count = omega arith;
})
written_runs false bytes last kind value values is e = inl (record {
  whole = Unfit;
  stops = λ again more. ap (λ f. with_field f last (λ longer. laid again more longer values)) is ∙ ap (λ b. cond b (laid again more (last ++ bytes) values) Unfit) e;
})

field_runs : (f : Field) (last : List ℕ) (kind : DataKind) (value : Value) (values : List Value) → field_of kind value ≡ f → Runs (One kind ∷ []) last (value ∷ values) 1
field_runs (field.Bytes bytes) last kind value values is = written_runs (nat_le (length last + length bytes) 4096) bytes last kind value values is refl
field_runs field.Real last kind value values is = inl (record { whole = Real; stops = λ again more. ap (λ f. with_field f last (λ longer. laid again more longer values)) is })
field_runs field.Unfit last kind value values is = inl (record { whole = Unfit; stops = λ again more. ap (λ f. with_field f last (λ longer. laid again more longer values)) is })

one_runs : (kind : DataKind) (last : List ℕ) (values : List Value) → Runs (One kind ∷ []) last values 1
one_runs kind last [] = inl (record { whole = Records (last ∷ []); stops = λ again more. refl })
one_runs kind last (value ∷ values) = field_runs (field_of kind value) last kind value values refl

ones_run : (n : ℕ) (kind : DataKind) (last : List ℕ) (values : List Value) → Runs (replicate n (One kind)) last values n
ones_run zero kind last values = nothing_runs last values
ones_run (suc n) kind last values =
    let e : 1 + n ≡ suc n = omega arith in
    subst (λ (k : ℕ). Runs (One kind ∷ replicate n (One kind)) last values k) e
    (joined (One kind ∷ []) (replicate n (One kind)) last values 1 n (one_runs kind last values) (λ after left. ones_run n kind after left))

-- ---- items

item_runs : (item : Item) (last : List ℕ) (values : List Value) → Runs (item_steps item) last values (data_count item)
item_runs (Blanks count) last values = bytes_run (nat_le (length last + length (replicate count 32)) 4096) (replicate count 32) last values refl
item_runs (Text text) last values = bytes_run (nat_le (length last + length text) 4096) text last values refl
item_runs NewRecord last values = break_runs last values
item_runs (Data count kind) last values = ones_run count kind last values

items_run : (items : List Item) (last : List ℕ) (values : List Value) → Runs (steps_of items) last values (sum_by data_count items)
items_run [] last values = nothing_runs last values
items_run (item ∷ items) last values =
    subst (λ (k : ℕ). Runs (item_steps item ++ steps_of items) last values k) (sym (sum_by-cons data_count item items))
    (joined (item_steps item) (steps_of items) last values (data_count item) (sum_by data_count items) (item_runs item last values) (λ after left. items_run items after left))

-- ---- passes

-- what is laid out by so many passes and by so many others
abbrev SamePasses : Bool → List Item → ℕ → ℕ → Type 0
SamePasses again items n m = (last : List ℕ) (values : List Value) → length values ≤ n → length values ≤ m → laid again (passes (suc n) items) last values ≡ laid again (passes (suc m) items) last values

-- passes fewer by one do the same
abbrev FewerSame : Bool → List Item → ℕ → ℕ → List Value → Type 0
FewerSame again items n m values = (n' : ℕ) × (m' : ℕ) × (n ≡ suc n') × (m ≡ suc m') × (length values ≤ n') × (length values ≤ m') × SamePasses again items n' m'

end_same : (again : Bool) (items : List Item) (n m : ℕ) (last : List ℕ) (values : List Value) → (again ≡ true → 0 < length values → FewerSame again items n m values) → laid again (End ∷ passes n items) last values ≡ laid again (End ∷ passes m items) last values
end_same again items n m last [] h = refl
end_same false items n m last (value ∷ values) h = refl
end_same true items n m last (value ∷ values) h =
    let s = h refl (omega arith) in
    ap (λ k. before last (laid true (passes k items) [] (value ∷ values))) s.2
    ∙ ap (before last) (s.6 [] (value ∷ values) s.4 s.5)
    ∙ ap (λ k. before last (laid true (passes k items) [] (value ∷ values))) (sym s.3)

fewer_same : (again : Bool) (items : List Item) (n m : ℕ) (values left : List Value) → has_data items ≡ true → length left + sum_by data_count items ≡ length values → length values ≤ n → length values ≤ m → ((n' m' : ℕ) → n ≡ suc n' → m ≡ suc m' → SamePasses again items n' m') → FewerSame again items n m left
fewer_same again items n m values left has count a b h =
    let takes = some_taken items has in
    let e : n ≡ suc (n - 1) = omega arith in
    let f : m ≡ suc (m - 1) = omega arith in
    (n - 1, m - 1, e, f, omega arith, omega arith, h (n - 1) (m - 1) e f)

pass_same : (again : Bool) (items : List Item) (n m : ℕ) → (again ≡ true → has_data items ≡ true) → ((n' m' : ℕ) → n ≡ suc n' → m ≡ suc m' → SamePasses again items n' m') → SamePasses again items n m
pass_same again items n m has h last values a b =
    elim (items_run items last values) [
      | inl s ↦ s.stops again (End ∷ passes n items) ∙ sym (s.stops again (End ∷ passes m items))
      | inr p ↦
          p.goes again (End ∷ passes n items)
          ∙ ap (behind p.ended) (end_same again items n m p.after p.left (λ on some. fewer_same again items n m values p.left (has on) p.count a b h))
          ∙ sym (p.goes again (End ∷ passes m items))
    ]

same_passes : (again : Bool) (items : List Item) (n m : ℕ) → (again ≡ true → has_data items ≡ true) → SamePasses again items n m
same_passes again items zero m has = pass_same again items zero m has (λ n' m' e f. absurd (omega arith))
same_passes again items (suc n) m has =
    pass_same again items (suc n) m has
    (λ n' m' e f. let same : n ≡ n' = omega arith in subst (λ (k : ℕ). SamePasses again items k m') same (same_passes again items n m' has))

pub enough_passes : (items : List Item) (values : List Value) (n : ℕ) → length values < n → laid (has_data items) (passes n items) [] values ≡ records_of items values
enough_passes items values zero h = absurd (omega arith)
enough_passes items values (suc n) h = same_passes (has_data items) items n (length values) (λ on. on) [] values (omega arith) (omega arith)
