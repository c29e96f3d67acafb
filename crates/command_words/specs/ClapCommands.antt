-- The commands, as clap has them.
use Rattle.std.specs.Prelude.{ℕ, List, [], ◌∷◌, Bool, true, Option, codes, find, fold}
use Rattle.sil_base.specs.Names.{is_word}
use Rattle.clap.specs.Walk.{Rule}
use Rattle.clap.specs.Simple.{App, new_app, new_rule, with_rule}
use Rattle.clap.specs.Takes.{takes}
use Rattle.command_words.specs.declared.names.CommandName.{CommandName}
use Rattle.command_words.specs.declared.names.CommandName.TheVariants.{Check, Install, Run, Trace, Sim, List as ListImage, Go, Demo}

-- the word of a command's name
abbrev pub command_name : CommandName → List ℕ
command_name Check = codes "check"
command_name Install = codes "install"
command_name Run = codes "run"
command_name Trace = codes "trace"
command_name Sim = codes "sim"
command_name ListImage = codes "list"
command_name Go = codes "go"
command_name Demo = codes "demo"

abbrev pub command_names : List CommandName
command_names = Check ∷ Install ∷ Run ∷ Trace ∷ Sim ∷ ListImage ∷ Go ∷ Demo ∷ []

-- the command that a word names
abbrev pub named : List ℕ → Option CommandName
named word = find (λ name. is_word word (command_name name)) command_names

-- the arguments of a command, in their places
abbrev pub argument_names : CommandName → List (List ℕ)
argument_names Check = codes "SRC" ∷ codes "TABLES" ∷ codes "PARAMS" ∷ []
argument_names Install = codes "SRC" ∷ codes "TABLES" ∷ codes "PARAMS" ∷ codes "IMAGE" ∷ []
argument_names Run = codes "IMAGE" ∷ codes "N" ∷ []
argument_names Trace = codes "IMAGE" ∷ codes "N" ∷ []
argument_names Sim = codes "SRC" ∷ codes "TABLES" ∷ codes "PARAMS" ∷ codes "N" ∷ []
argument_names ListImage = codes "IMAGE" ∷ []
argument_names Go = codes "SRC" ∷ codes "TABLES" ∷ codes "PARAMS" ∷ codes "IMAGE" ∷ codes "N" ∷ []
argument_names Demo = codes "N" ∷ codes "SEED" ∷ []

-- an argument that is required, and read by its place
abbrev pub required_argument : List ℕ → Rule
required_argument name = record (new_rule name) { required = true }

abbrev pub with_argument : App → List ℕ → App
with_argument app name = with_rule app (required_argument name)

-- a simple command of this name, with these arguments
abbrev pub app_with : List ℕ → List (List ℕ) → App
app_with name arguments = fold with_argument (new_app name) arguments

-- clap takes the words as those of the command, whose name stands in the place of the program's
unfoldable pub clap_takes : CommandName → List (List ℕ) → Bool
clap_takes name words = takes (app_with (command_name name) (argument_names name)) words
