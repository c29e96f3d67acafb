-- A word that doesn't begin with a minus sign goes to the argument in its place.
use Rattle.std.proofs.Common.{◌≡◌, ◌∙◌, ◌&&◌, ◌||◌, ◌==◌, ℕ, Bool, true, false, List, [], ◌∷◌, length, fold, Option, Some, None, refl, sym, ap, ap₂, arith, true≢false, if◌then◌else◌, option_and_then}
use Rattle.std.specs.Option.{option_map_or}
use Rattle.std.specs.Str.{bytes_eq}
use Rattle.clap.specs.Lexer.{long_of, long_of_rest, short_of, short_of_rest, strip_byte}
use Rattle.std.specs.List.{list_all}
use Rattle.std.proofs.lemmas.Bool.{not-true}
use Rattle.clap.specs.Walk.{Held, Rule, Step, Text, Walk, arg_by_index, finished, idle, is_multiple, long_or_other, next_position, nothing_held, positional, positional_held, short_or_plain, to_positional, trailing, after_step, value, walked, word_met}
use Rattle.clap.specs.Simple.{Shape}
use Rattle.clap.specs.Takes.{bundle_passes, default_passes, flag_word_passes, is_valid, level_passes, positional_passes, settle_passes, step_passes, turn_passes, walk_passes, word_passes}
use Rattle.clap.proofs.WalkLemmas.{both}
use Rattle.command_words.specs.CommandOrders.{is_argument}

-- a walk between two words, where nothing waits for a value
abbrev pub standing : Held → ℕ → Walk
standing h k = record { held = h; waiting = idle; position = k; is_trailing = false; stopped = None }

no_dash : (x : ℕ) (xs : Text) → is_argument (x ∷ xs) ≡ true → (x == 45) ≡ false
no_dash x xs e = not-true (x == 45) e

no_dashes : (x : ℕ) (xs : Text) → (x == 45) ≡ false → bytes_eq (x ∷ xs) (45 ∷ 45 ∷ []) ≡ false
no_dashes x xs e = ap (λ (b : Bool). b && bytes_eq xs (45 ∷ [])) e

no_long : (x : ℕ) (xs : Text) → (x == 45) ≡ false → long_of (x ∷ xs) ≡ None
no_long x xs e = ap (λ (b : Bool). option_and_then long_of_rest (option_and_then (strip_byte 45) (if b then Some xs else None))) e

no_short : (x : ℕ) (xs : Text) → (x == 45) ≡ false → short_of (x ∷ xs) ≡ None
no_short x xs e = ap (λ (b : Bool). option_and_then short_of_rest (if b then Some xs else None)) e

met : (c : List Rule) (h : Held) (k : ℕ) (x : ℕ) (xs : Text) → (x == 45) ≡ false → word_met c [] false idle k (x ∷ xs) h ≡ (h, value)
met c h k x xs e =
    ap (λ (b : Bool). if b then (h, trailing k) else long_or_other c idle (x ∷ xs) (long_of (x ∷ xs)) h) (no_dashes x xs e)
    ∙ ap (λ (l : Option (Text × Option Text)). long_or_other c idle (x ∷ xs) l h) (no_long x xs e)
    ∙ ap (λ (o : Option Text). short_or_plain c idle (x ∷ xs) o h) (no_short x xs e)

passes : (s : Shape) (h : Held) (x : ℕ) (xs : Text) → (x == 45) ≡ false → word_passes s [] false idle (x ∷ xs) h ≡ true
passes s h x xs e =
    ap (λ (b : Bool). b || flag_word_passes s.rules s.args_override_self (long_of (x ∷ xs)) (x ∷ xs) h) (no_dashes x xs e)
    ∙ ap (λ (l : Option (Text × Option Text)). flag_word_passes s.rules s.args_override_self l (x ∷ xs) h) (no_long x xs e)
    ∙ ap (λ (o : Option Text). option_map_or (λ flags. bundle_passes s.rules s.args_override_self flags h) o true) (no_short x xs e)

-- the arguments stand in these places of a command, each with one value
abbrev pub InPlace : List Rule → ℕ → List Rule → Type 0
InPlace c k [] = Unit {0}
InPlace c k (a ∷ rest) =
    (arg_by_index c k ≡ Some a) × (is_multiple a ≡ false) × (a.trailing_var_arg ≡ false) × InPlace c (next_position a k) rest

-- what is held after words for the arguments
abbrev pub held_after : List Rule → List Rule → Held → List Text → Held
held_after c [] h words = h
held_after c (a ∷ rest) h [] = h
held_after c (a ∷ rest) h (word ∷ words) = held_after c rest (positional_held c a word h) words

abbrev pub place_after : List Rule → ℕ → ℕ
place_after [] k = k
place_after (a ∷ rest) k = place_after rest (next_position a k)

-- no argument meets one before it that can't be settled
abbrev pub places_pass : List Rule → Bool → List Rule → Held → List Text → Bool
places_pass c again [] h words = true
places_pass c again (a ∷ rest) h [] = true
places_pass c again (a ∷ rest) h (word ∷ words) =
    positional_passes c again a h && places_pass c again rest (positional_held c a word h) words

placed : (c : List Rule) (h : Held) (k : ℕ) (a : Rule) (word : Text) → arg_by_index c k ≡ Some a → is_multiple a ≡ false → a.trailing_var_arg ≡ false
    → to_positional c (arg_by_index c k) word (standing h k) h ≡ standing (positional_held c a word h) (next_position a k)
placed c h k a word found single ends =
    ap (λ (o : Option Rule). to_positional c o word (standing h k) h) found
    ∙ ap₂ (λ (m t : Bool). record { held = positional_held c a word h; waiting = if m then positional else idle; position = next_position a k; is_trailing = t; stopped = None }) single ends

-- one word
one_word : (c : List Rule) (h : Held) (k : ℕ) (a : Rule) (word : Text) → is_argument word ≡ true → arg_by_index c k ≡ Some a → is_multiple a ≡ false
    → a.trailing_var_arg ≡ false → walked c [] (standing h k) word ≡ standing (positional_held c a word h) (next_position a k)
unfolding walked
one_word c h k a [] plain found single ends = absurd (true≢false (sym plain))
one_word c h k a (x ∷ xs) plain found single ends =
    ap (λ (p : Held × Step). after_step c (x ∷ xs) (standing h k) p.0 p.1) (met c h k x xs (no_dash x xs plain)) ∙ placed c h k a (x ∷ xs) found single ends

one_passes : (s : Shape) (h : Held) (k : ℕ) (a : Rule) (word : Text) → is_argument word ≡ true → arg_by_index s.rules k ≡ Some a
    → turn_passes s [] (standing h k) word ≡ positional_passes s.rules s.args_override_self a h
one_passes s h k a [] plain found = absurd (true≢false (sym plain))
one_passes s h k a (x ∷ xs) plain found =
    let e = no_dash x xs plain in
    ap₂ (λ (b : Bool) (p : Held × Step). b && step_passes s k p.0 p.1) (passes s h x xs e) (met s.rules h k x xs e)
    ∙ ap (λ (o : Option Rule). option_map_or (λ r. positional_passes s.rules s.args_override_self r h) o false) found

-- all words
pub all_words : (c : List Rule) (args : List Rule) (h : Held) (k : ℕ) (words : List Text) → InPlace c k args → length words ≡ length args
    → list_all is_argument words ≡ true → fold (walked c []) (standing h k) words ≡ standing (held_after c args h words) (place_after args k)
all_words c [] h k [] at fits plain = refl
all_words c [] h k (word ∷ words) at fits plain = absurd (omega arith)
all_words c (a ∷ args) h k [] at fits plain = absurd (omega arith)
all_words c (a ∷ args) h k (word ∷ words) at fits plain =
    let p = both _ _ plain in
    ap (λ (w : Walk). fold (walked c []) w words) (one_word c h k a word p.0 at.0 at.1 at.2)
    ∙ all_words c args (positional_held c a word h) (next_position a k) words at.3 (omega arith) p.1

pub all_pass : (s : Shape) (args : List Rule) (h : Held) (k : ℕ) (words : List Text) → InPlace s.rules k args → length words ≡ length args
    → list_all is_argument words ≡ true → walk_passes s [] (standing h k) words ≡ places_pass s.rules s.args_override_self args h words
unfolding walk_passes
all_pass s [] h k [] at fits plain = refl
all_pass s [] h k (word ∷ words) at fits plain = absurd (omega arith)
all_pass s (a ∷ args) h k [] at fits plain = absurd (omega arith)
all_pass s (a ∷ args) h k (word ∷ words) at fits plain =
    let p = both _ _ plain in
    ap₂ (λ (b : Bool) (w : Walk). b && walk_passes s [] w words) (one_passes s h k a word p.0 at.0) (one_word s.rules h k a word p.0 at.0 at.1 at.2)
    ∙ ap (λ (b : Bool). positional_passes s.rules s.args_override_self a h && b)
    (all_pass s args (positional_held s.rules a word h) (next_position a k) words at.3 (omega arith) p.1)

-- a level whose words go to these arguments passes where what they leave does
abbrev pub plain_passes : Shape → List Rule → List Text → Bool
plain_passes s args words =
    let end = held_after s.rules args nothing_held words in
    places_pass s.rules s.args_override_self args nothing_held words && (settle_passes s.rules s.args_override_self end
    && (list_all default_passes s.rules && is_valid s (finished s.rules end) false))

pub plain_level : (s : Shape) (args : List Rule) (words : List Text) → InPlace s.rules 1 args → length words ≡ length args → list_all is_argument words ≡ true
    → level_passes s [] nothing_held words false ≡ plain_passes s args words
plain_level s args words at fits plain =
    ap₂ (λ (b : Bool) (w : Walk). b && (settle_passes s.rules s.args_override_self w.held && (list_all default_passes s.rules && is_valid s (finished s.rules w.held) false)))
    (all_pass s args nothing_held 1 words at fits plain) (all_words s.rules args nothing_held 1 words at fits plain)
