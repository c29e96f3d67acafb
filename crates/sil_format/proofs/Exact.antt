-- What the exact answer says of the grammar.
use Rattle.std.proofs.Common.{◌≡◌, ℕ, List, Option, Some, None, Result, Ok, Err, true, refl, sym, ap, ◌∙◌}
use Rattle.std.specs.Prelude.{IfOk, IfErr, is_some}
use Rattle.std.proofs.lemmas.Option.{none-some}
use Rattle.sil_format.specs.FormatGrammar.{IsFormat, SpellsFormat}
use Rattle.sil_format.specs.FormatReading.{Answers, format_of, is_format}
use Rattle.sil_format.specs.declared.format.FormatStop.{FormatStop}
use Rattle.sil_format.specs.declared.format.FormatStop.TheVariants.{Bad}
use Rattle.sil_format.specs.declared.format.Item.{Item}
use Rattle.sil_format.proofs.Sound.{format_sound}
use Rattle.sil_format.proofs.Complete.{format_complete}

pub ok_spelled : (bytes : List ℕ) (answer : Result (List Item) FormatStop) → Answers answer (format_of bytes) → IfOk answer (λ items. SpellsFormat bytes items)
ok_spelled bytes (Ok items) h = format_sound bytes items h
ok_spelled bytes (Err e) h = tt

pub bad_unspelled : (bytes : List ℕ) (answer : Result (List Item) FormatStop) → Answers answer (format_of bytes) → IfErr answer (λ e. e ≡ Bad → (items : List Item) → ¬ SpellsFormat bytes items)
bad_unspelled bytes (Ok items) h = tt
bad_unspelled bytes (Err e) h = λ bad items spelled. none-some items (sym (h bad) ∙ format_complete bytes items spelled)

some_by : (bytes : List ℕ) (o : Option (List Item)) → format_of bytes ≡ o → is_some o ≡ true → IsFormat bytes
some_by bytes None is h = let no : ⊥ = cc in absurd no
some_by bytes (Some items) is h = (items, format_sound bytes items is)

pub tested_spelled : (bytes : List ℕ) → is_format bytes ≡ true → IsFormat bytes
unfolding is_format
tested_spelled bytes h = some_by bytes (format_of bytes) refl h

pub spelled_tested : (bytes : List ℕ) → IsFormat bytes → is_format bytes ≡ true
unfolding is_format
spelled_tested bytes (items, spelled) = ap is_some (format_complete bytes items spelled)
