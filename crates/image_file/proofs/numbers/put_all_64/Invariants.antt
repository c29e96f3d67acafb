use Rattle.std.proofs.Common.{◌≡◌, ◌++◌, drop}
use Rattle.image_file.specs.Spelling.{numbers_in}
use Rattle.image_file.proofs.numbers.put_all_64.Given as goal

-- what is written, and what is left to write
abbrev pub invariant-loop-number : goal.invariant-loop-number
invariant-loop-number l = l.out.items ++ numbers_in 8 (drop l.number-index l.numbers) ≡ l.initial.out.items ++ numbers_in 8 l.numbers
