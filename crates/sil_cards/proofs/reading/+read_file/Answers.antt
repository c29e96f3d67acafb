use Rattle.std.proofs.Common.{◌∙◌, ◌++◌, arith}
use Rattle.std.proofs.lemmas.Result.{err_from_is_err_and}
use Rattle.sil_base.specs.Lines.{lines_of}
use Rattle.sil_cards.specs.Reads.{lines_read, file_read}
use Rattle.sil_cards.proofs.ReadLemmas.{after_copied}
use Rattle.sil_cards.proofs.reading.+read_file.Goals as goal

pub returns-in_err-read_file-in-Copies-clause-read :
    goal.returns-in_err-read_file-in-Copies-clause-read
returns-in_err-read_file-in-Copies-clause-read g t c = λ files told rest.
    let copies = rw c.in-Copies.is at c.in_ok-take_line.ensures.copies in
    let step = rw c.in-Copies.is at c.in_ok-take_line.ensures.read in
    let whole = after_copied files c.loop-line.reader c.take_line.new.self c.args.deeper c.loop-line.rest.now c.in-Some.line.now c.in-Some.more.now c.in-Copies.file rest _ copies.1 (c.loop-line.invariant.read files told rest) c.in-Some.ensures.lines copies.0 step in
    let p = err_from_is_err_and c.from_residual-in_err-read_file-in-Copies.result c.from_residual-in_err-read_file-in-Copies.ensures.1 in
    let read = rw c.file_name-name.ensures at c.in_err-read_file-in-Copies.ensures.read in
    rw (p.1, p.2) (λ free. whole ∙ read files (c.loop-line.invariant.kept ∙ told) (lines_read (file_read files c.args.deeper) c.args.deeper (lines_of c.in-Some.more.now) ++ rest) free)

pub returns-in-Ends-2-clause-read : goal.returns-in-Ends-2-clause-read
returns-in-Ends-2-clause-read g t c = λ files told rest.
    let copies = rw c.in-Copies.is at c.in_ok-take_line.ensures.copies in
    let step = rw c.in-Copies.is at c.in_ok-take_line.ensures.read in
    let whole = after_copied files c.loop-line.reader c.take_line.new.self c.args.deeper c.loop-line.rest.now c.in-Some.line.now c.in-Some.more.now c.in-Copies.file rest _ copies.1 (c.loop-line.invariant.read files told rest) c.in-Some.ensures.lines copies.0 step in
    let read = rw (c.in-Ends-2.is, c.file_name-name.ensures) at c.in_ok-read_file-in-Copies.ensures.read in
    whole ∙ read files (c.loop-line.invariant.kept ∙ told) (lines_read (file_read files c.args.deeper) c.args.deeper (lines_of c.in-Some.more.now) ++ rest)

pub loop-line-preserved : goal.loop-line-preserved
loop-line-preserved g t c =
    let copies = rw c.in-Copies.is at c.in_ok-take_line.ensures.copies in
    let step = rw c.in-Copies.is at c.in_ok-take_line.ensures.read in
    let flow = c.in_default-2.is in
    record {
      kept = c.in_ok-read_file-in-Copies.ensures.kept ∙ c.loop-line.invariant.kept;
      count = omega (arith, c.in_ok-read_file-in-Copies.ensures.count, c.loop-line.invariant.count);
      going = rw flow at c.in_ok-read_file-in-Copies.ensures.keeps;
      short = omega (arith, c.in-Some.ensures.within, c.loop-line.invariant.short);
      read = λ files told rest.
          let whole = after_copied files c.loop-line.reader c.take_line.new.self c.args.deeper c.loop-line.rest.now c.in-Some.line.now c.in-Some.more.now c.in-Copies.file rest _ copies.1 (c.loop-line.invariant.read files told rest) c.in-Some.ensures.lines copies.0 step in
          let read = rw (flow, c.file_name-name.ensures) at c.in_ok-read_file-in-Copies.ensures.read in
          whole ∙ read files (c.loop-line.invariant.kept ∙ told) (lines_read (file_read files c.args.deeper) c.args.deeper (lines_of c.in-Some.more.now) ++ rest);
    }
