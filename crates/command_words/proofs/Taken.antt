-- Clap takes all words that can follow a command.
use Rattle.std.proofs.Common.{◌≡◌, ◌∙◌, ◌&&◌, ℕ, suc, Bool, true, true≢false, drop, List, [], ◌∷◌, length, map, refl, sym, ap, ap₂, arith}
use Rattle.std.proofs.lemmas.Bool.{eqb-true}
use Rattle.clap.specs.Walk.{Rule, Text, nothing_held}
use Rattle.clap.specs.Simple.{App, built, filled_from, is_simple}
use Rattle.clap.specs.Takes.{built_takes, takes}
use Rattle.clap.proofs.TakesLemmas.{leaf_takes}
use Rattle.clap.proofs.WalkLemmas.{both}
use Rattle.command_words.specs.declared.names.CommandName.{CommandName}
use Rattle.command_words.specs.declared.names.CommandName.TheVariants.{Check, Install, Run, Trace, Sim, List as ListImage, Go, Demo}
use Rattle.command_words.specs.ClapCommands.{app_with, argument_names, clap_takes, command_name, required_argument}
use Rattle.command_words.specs.CommandOrders.{are_arguments}
use Rattle.command_words.proofs.PlainWords.{InPlace, plain_level, plain_passes}

longer : {X : Type 0} (n : ℕ) (P : List X → Type 0) → ((x : X) (xs : List X) → length xs ≡ n → P (x ∷ xs)) → (xs : List X) → length xs ≡ suc n → P xs
longer n P f [] e = absurd (omega arith)
longer n P f (x ∷ xs) e = f x xs (omega arith)

none : {X : Type 0} (P : List X → Type 0) → P [] → (xs : List X) → length xs ≡ 0 → P xs
none P p [] e = p
none P p (x ∷ xs) e = absurd (omega arith)

one : {X : Type 0} (P : List X → Type 0) → ((a : X) → P (a ∷ [])) → (xs : List X) → length xs ≡ 1 → P xs
one P f = longer 0 P (λ a. none (λ xs. P (a ∷ xs)) (f a))

two : {X : Type 0} (P : List X → Type 0) → ((a b : X) → P (a ∷ b ∷ [])) → (xs : List X) → length xs ≡ 2 → P xs
two P f = longer 1 P (λ a. one (λ xs. P (a ∷ xs)) (f a))

three : {X : Type 0} (P : List X → Type 0) → ((a b c : X) → P (a ∷ b ∷ c ∷ [])) → (xs : List X) → length xs ≡ 3 → P xs
three P f = longer 2 P (λ a. two (λ xs. P (a ∷ xs)) (f a))

four : {X : Type 0} (P : List X → Type 0) → ((a b c d : X) → P (a ∷ b ∷ c ∷ d ∷ [])) → (xs : List X) → length xs ≡ 4 → P xs
four P f = longer 3 P (λ a. three (λ xs. P (a ∷ xs)) (f a))

five : {X : Type 0} (P : List X → Type 0) → ((a b c d e : X) → P (a ∷ b ∷ c ∷ d ∷ e ∷ [])) → (xs : List X) → length xs ≡ 5 → P xs
five P f = longer 4 P (λ a. four (λ xs. P (a ∷ xs)) (f a))

-- the command as it is built, and its arguments
abbrev app : CommandName → App
app name = built (app_with (command_name name) (argument_names name))

abbrev arguments : CommandName → List Rule
arguments name = filled_from 1 (map required_argument (argument_names name))

placed : (name : CommandName) → InPlace (app name).top.rules 1 (arguments name)
placed Check = (refl, refl, refl, (refl, refl, refl, (refl, refl, refl, tt)))
placed Install = (refl, refl, refl, (refl, refl, refl, (refl, refl, refl, (refl, refl, refl, tt))))
placed Run = (refl, refl, refl, (refl, refl, refl, tt))
placed Trace = (refl, refl, refl, (refl, refl, refl, tt))
placed Sim = (refl, refl, refl, (refl, refl, refl, (refl, refl, refl, (refl, refl, refl, tt))))
placed ListImage = (refl, refl, refl, tt)
placed Go = (refl, refl, refl, (refl, refl, refl, (refl, refl, refl, (refl, refl, refl, (refl, refl, refl, tt)))))
placed Demo = (refl, refl, refl, (refl, refl, refl, tt))

abbrev Passes : CommandName → List Text → Type 0
Passes name words = plain_passes (app name).top (arguments name) words ≡ true

all_given : (name : CommandName) (words : List Text) → length words ≡ length (argument_names name) → Passes name words
all_given Check = three (Passes Check) (λ a b c. refl)
all_given Install = four (Passes Install) (λ a b c d. refl)
all_given Run = two (Passes Run) (λ a b. refl)
all_given Trace = two (Passes Trace) (λ a b. refl)
all_given Sim = four (Passes Sim) (λ a b c d. refl)
all_given ListImage = one (Passes ListImage) (λ a. refl)
all_given Go = five (Passes Go) (λ a b c d e. refl)
all_given Demo = two (Passes Demo) (λ a b. refl)

same_count : (name : CommandName) → length (argument_names name) ≡ length (arguments name)
same_count Check = refl
same_count Install = refl
same_count Run = refl
same_count Trace = refl
same_count Sim = refl
same_count ListImage = refl
same_count Go = refl
same_count Demo = refl

simple : (name : CommandName) → is_simple (app_with (command_name name) (argument_names name)) ≡ true
simple Check = refl
simple Install = refl
simple Run = refl
simple Trace = refl
simple Sim = refl
simple ListImage = refl
simple Go = refl
simple Demo = refl

alone : (name : CommandName) → (app name).subs ≡ []
alone Check = refl
alone Install = refl
alone Run = refl
alone Trace = refl
alone Sim = refl
alone ListImage = refl
alone Go = refl
alone Demo = refl

words_after : (name : CommandName) (first : Text) (words : List Text)
    → takes (app_with (command_name name) (argument_names name)) (first ∷ words)
    ≡ (is_simple (app_with (command_name name) (argument_names name)) && built_takes (app name) nothing_held words)
words_after Check first words = refl
words_after Install first words = refl
words_after Run first words = refl
words_after Trace first words = refl
words_after Sim first words = refl
words_after ListImage first words = refl
words_after Go first words = refl
words_after Demo first words = refl

pub all_taken : (name : CommandName) (first : Text) (words : List Text) → are_arguments name words ≡ true → clap_takes name (first ∷ words) ≡ true
unfolding clap_takes
all_taken name first words e =
    let p = both _ _ e in
    let count : length words ≡ length (argument_names name) = eqb-true _ _ p.0 in
    words_after name first words
    ∙ ap₂ (λ (a b : Bool). a && b) (simple name)
    (leaf_takes (app name) nothing_held words (alone name)
    (plain_level (app name).top (arguments name) words (placed name) (count ∙ same_count name) p.1 ∙ all_given name words count))

none_follow : (name : CommandName) → are_arguments name [] ≡ true → ⊥
none_follow Check e = true≢false (sym e)
none_follow Install e = true≢false (sym e)
none_follow Run e = true≢false (sym e)
none_follow Trace e = true≢false (sym e)
none_follow Sim e = true≢false (sym e)
none_follow ListImage e = true≢false (sym e)
none_follow Go e = true≢false (sym e)
none_follow Demo e = true≢false (sym e)

pub follow_taken : (name : CommandName) (words : List Text) → are_arguments name (drop 1 words) ≡ true → clap_takes name words ≡ true
follow_taken name [] e = absurd (none_follow name e)
follow_taken name (first ∷ words) e = all_taken name first words e

-- the command that was made takes them
pub made_takes : (name : CommandName) (words : List Text) (made : App) (word : Text) (args : List Text) → made ≡ app_with word args → word ≡ command_name name
    → args ≡ argument_names name → are_arguments name (drop 1 words) ≡ true → takes made words ≡ true
unfolding clap_takes
made_takes name words made word args is named given e =
    ap (λ (a : App). takes a words) (is ∙ ap₂ app_with named given) ∙ follow_taken name words e
