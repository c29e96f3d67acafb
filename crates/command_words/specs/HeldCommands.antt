-- What a command says.
use Rattle.command_words.specs.declared.orders.SourceFiles.{SourceFiles}
use Rattle.command_words.specs.declared.orders.Command.{Command}
use Rattle.command_words.specs.declared.orders.Command.TheVariants.{Check, Install, Run, Trace, Sim, List, Go, Demo}
use Rattle.command_words.specs.CommandOrders.{SourceNames, CommandOrder, checks, installs, runs, traces, simulates, lists, goes, demos}

abbrev pub names_by : SourceFiles → SourceNames
names_by names = record { source = names.source.now; tables = names.tables.now; params = names.params.now }

-- the order that a command is
abbrev pub order_by : Command → CommandOrder
order_by (Check names) = checks (names_by names)
order_by (Install names image) = installs (names_by names) image.now
order_by (Run image steps) = runs image.now steps.most
order_by (Trace image steps) = traces image.now steps.most
order_by (Sim names steps) = simulates (names_by names) steps.most
order_by (List image) = lists image.now
order_by (Go names image steps) = goes (names_by names) image.now steps.most
order_by (Demo numbers) = demos numbers.cards numbers.seed
