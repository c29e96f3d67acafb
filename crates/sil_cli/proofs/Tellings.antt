-- What commands tell before the line of their ending.
use Rattle.std.proofs.Common.{◌≡◌, ℕ, List, [], Option, subst, sym, ◌∙◌, ap}
use Rattle.sil_base.specs.Files.{Files}
use Rattle.sil_base.specs.declared.sink.Put.{Put}
use Rattle.sil_base.specs.declared.sink.Put.TheVariants as puts
use Rattle.unit_io.specs.Units.{AllUnits}
use Rattle.command_report.specs.declared.ending.Ending.{Ending}
use Rattle.command_report.proofs.Noting.{noted-nothing}
use Rattle.command_words.specs.CommandOrders.{CommandOrder}
use Rattle.sil_cli.specs.Answer.{Performs, Tells}

-- a command that tells nothing
pub tells-nothing : (order : Option CommandOrder) (end came : Ending) (put : Put) (files files' : Option Files) (b a : ℕ) (units units' : AllUnits) (text : Option (List ℕ)) (n : ℕ) → came ≡ end → put ≡ puts.Ok → Performs order end [] files files' b a units units' → Tells order came put files files' b a units units' text text n n
tells-nothing order end came put files files' b a units units' text n is ok performs = rw is (rw ok (record { lines = []; performs = performs; noted = noted-nothing text n }))
