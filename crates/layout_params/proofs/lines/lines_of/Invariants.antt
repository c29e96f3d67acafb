use Rattle.std.proofs.Common.{◌≡◌, ◌≤◌, ◌+◌, ◌++◌, length, vec_len}
use Rattle.layout_params.specs.ParameterLines.{lines_of}
use Rattle.sil_base.specs.Names.{texts_of}
use Rattle.layout_params.proofs.lines.lines_of.Given as goal

-- the lines so far, and those of the rest
abbrev pub invariant-loop-line : goal.invariant-loop-line
invariant-loop-line l = record {
  lines : lines_of l.bytes ≡ texts_of l.lines.items ++ lines_of l.rest;
  count : vec_len l.lines + length l.rest ≤ length l.bytes;
}

abbrev pub decreases-loop-line : goal.decreases-loop-line
decreases-loop-line l = length l.rest
