use Rattle.std.proofs.Common.{◌≡◌, ◌&&◌, ℕ, List, [], ◌∷◌, Bool, true, false, refl, ap, Option, Some, None, option_and_then, if◌then◌else◌}
use Rattle.command_words.specs.declared.names.CommandName.{CommandName}
use Rattle.command_words.specs.ClapCommands.{clap_takes, named}
use Rattle.command_words.specs.CommandOrders.{CommandOrder, are_arguments, command_of, command_order, order_of, plain_command_of, plain_order}
use Rattle.command_words.proofs.Taken.{all_taken}
use Rattle.command_words.proofs.laws.law_of_words.Goals as goal

same_choice : (a b : Bool) (x : Option CommandOrder) → (a ≡ true → b ≡ true) → (if a && b then x else None) ≡ (if a then x else None)
same_choice true b x taken = ap (λ (t : Bool). if t then x else None) (taken refl)
same_choice false b x taken = refl

same_order : (first : List ℕ) (arguments : List (List ℕ)) (found : Option CommandName)
    → option_and_then (command_order (first ∷ arguments) arguments) found ≡ option_and_then (plain_order arguments) found
same_order first arguments None = refl
same_order first arguments (Some name) =
    same_choice (are_arguments name arguments) (clap_takes name (first ∷ arguments)) (order_of name arguments) (all_taken name first arguments)

same : (words : List (List ℕ)) → command_of words ≡ plain_command_of words
unfolding command_of
same [] = refl
same (first ∷ arguments) = same_order first arguments (named first)

pub returns : goal.returns
returns c = same
