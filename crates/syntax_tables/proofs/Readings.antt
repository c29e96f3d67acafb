-- What is read, line by line.
use Rattle.std.proofs.Common.{◌≡◌, List, [], ◌∷◌, ◌++◌, Ok, Err, refl, sym, ap, append_assoc}
use Rattle.syntax_tables.specs.TableFiles.{Reading, with_line}
use Rattle.syntax_tables.specs.Going.{after_lines}
use Rattle.syntax_tables.specs.declared.saying.Said.{Said}

pub after-with : (lines : List Said) (said : Said) (r : Reading) → after_lines lines (with_line said r) ≡ after_lines (lines ++ said ∷ []) r
after-with lines said (Ok more) = ap Ok (sym (append_assoc lines (said ∷ []) more))
after-with lines said (Err e) = refl

pub after-none : (r : Reading) → after_lines [] r ≡ r
after-none (Ok more) = refl
after-none (Err e) = refl
