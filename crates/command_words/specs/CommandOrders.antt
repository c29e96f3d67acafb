-- The orders that words give.
use Rattle.std.specs.Prelude.{ℕ, List, [], ◌∷◌, length, Option, Some, None, option_map, option_and_then, Bool, false, ◌&&◌, not, if◌then◌else◌, ◌==◌, nat_le}
use Rattle.std.specs.List.{list_all}
use Rattle.sil_base.specs.declared.limits.TheConstants.{MAX_STEPS}
use Rattle.sil_base.specs.Names.{is_number, value_of}
use Rattle.command_words.specs.declared.names.CommandName.{CommandName}
use Rattle.command_words.specs.declared.names.CommandName.TheVariants.{Check, Install, Run, Trace, Sim, List as ListImage, Go, Demo}
use Rattle.command_words.specs.declared.orders.TheConstants.{MAX_DEMO_CARDS, MAX_SEED}
use Rattle.command_words.specs.ClapCommands.{named, argument_names, clap_takes}

-- the names of the files of a source
pub record SourceNames : Type 0 where
  pub source : List ℕ
  pub tables : List ℕ
  pub params : List ℕ

-- what a command is told to do
pub data CommandOrder : Type 0 where
  checks : SourceNames → CommandOrder
  installs : SourceNames → List ℕ → CommandOrder
  runs : List ℕ → ℕ → CommandOrder
  traces : List ℕ → ℕ → CommandOrder
  simulates : SourceNames → ℕ → CommandOrder
  lists : List ℕ → CommandOrder
  goes : SourceNames → List ℕ → ℕ → CommandOrder
  demos : ℕ → ℕ → CommandOrder

-- a word that is not empty and doesn't begin with a minus sign
abbrev pub is_argument : List ℕ → Bool
is_argument [] = false
is_argument (first ∷ rest) = not (first == 45)

-- at most so many digits, with a value within bounds
abbrev pub is_number_within : ℕ → ℕ → ℕ → List ℕ → Bool
is_number_within digits least most word =
    is_number word && nat_le (length word) digits && nat_le least (value_of word) && nat_le (value_of word) most

unfoldable pub number_within : ℕ → ℕ → ℕ → List ℕ → Option ℕ
number_within digits least most word =
    if is_number_within digits least most word then Some (value_of word) else None

-- a number of steps
abbrev pub steps_of : List ℕ → Option ℕ
steps_of word = number_within 13 0 MAX_STEPS word

-- how many cards a demo makes
abbrev pub demo_cards_of : List ℕ → Option ℕ
demo_cards_of word = number_within 13 1 MAX_DEMO_CARDS word

-- where a demo's numbers begin
abbrev pub seed_of : List ℕ → Option ℕ
seed_of word = number_within 10 0 MAX_SEED word

abbrev pub source_names : List ℕ → List ℕ → List ℕ → SourceNames
source_names source tables params = record { source = source; tables = tables; params = params }

-- the order of each command with these arguments, none where they are not as many as it has or a number is out of bounds
abbrev pub check_of : List (List ℕ) → Option CommandOrder
check_of (source ∷ tables ∷ params ∷ []) = Some (checks (source_names source tables params))
check_of _ = None

abbrev pub install_of : List (List ℕ) → Option CommandOrder
install_of (source ∷ tables ∷ params ∷ image ∷ []) = Some (installs (source_names source tables params) image)
install_of _ = None

abbrev pub run_of : List (List ℕ) → Option CommandOrder
run_of (image ∷ steps ∷ []) = option_map (runs image) (steps_of steps)
run_of _ = None

abbrev pub trace_of : List (List ℕ) → Option CommandOrder
trace_of (image ∷ steps ∷ []) = option_map (traces image) (steps_of steps)
trace_of _ = None

abbrev pub sim_of : List (List ℕ) → Option CommandOrder
sim_of (source ∷ tables ∷ params ∷ steps ∷ []) =
    option_map (simulates (source_names source tables params)) (steps_of steps)
sim_of _ = None

abbrev pub list_of : List (List ℕ) → Option CommandOrder
list_of (image ∷ []) = Some (lists image)
list_of _ = None

abbrev pub go_of : List (List ℕ) → Option CommandOrder
go_of (source ∷ tables ∷ params ∷ image ∷ steps ∷ []) =
    option_map (goes (source_names source tables params) image) (steps_of steps)
go_of _ = None

abbrev pub demo_of : List (List ℕ) → Option CommandOrder
demo_of (cards ∷ seed ∷ []) =
    option_and_then (λ n. option_map (demos n) (seed_of seed)) (demo_cards_of cards)
demo_of _ = None

abbrev pub order_of : CommandName → List (List ℕ) → Option CommandOrder
order_of Check = check_of
order_of Install = install_of
order_of Run = run_of
order_of Trace = trace_of
order_of Sim = sim_of
order_of ListImage = list_of
order_of Go = go_of
order_of Demo = demo_of

-- as many words follow a command as it has arguments, and each can stand as one
abbrev pub are_arguments : CommandName → List (List ℕ) → Bool
are_arguments name arguments = length arguments == length (argument_names name) && list_all is_argument arguments

-- the order of a command whose words clap takes
abbrev pub command_order : List (List ℕ) → List (List ℕ) → CommandName → Option CommandOrder
command_order words arguments name =
    if are_arguments name arguments && clap_takes name words then order_of name arguments else None

-- the order that words give, none where they are not accepted
unfoldable pub command_of : List (List ℕ) → Option CommandOrder
command_of [] = None
command_of (first ∷ arguments) = option_and_then (command_order (first ∷ arguments) arguments) (named first)

-- the same without clap's word
abbrev pub plain_order : List (List ℕ) → CommandName → Option CommandOrder
plain_order arguments name = if are_arguments name arguments then order_of name arguments else None

abbrev pub plain_command_of : List (List ℕ) → Option CommandOrder
plain_command_of [] = None
plain_command_of (first ∷ arguments) = option_and_then (plain_order arguments) (named first)
