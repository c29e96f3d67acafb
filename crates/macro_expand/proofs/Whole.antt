-- A code with a piece for each statement is whole.
use Rattle.std.proofs.Common.{◌+◌, ◌≤◌, length, ap, ◌∙◌, arith}
use Rattle.std.proofs.lemmas.Option.{slice_get_within}
use Rattle.sil_base.specs.declared.limits.TheConstants.{MAX_STATEMENTS}
use Rattle.sil_model.specs.declared.program.Program.{Program}
use Rattle.sil_micro.specs.Codes.{MicroCode}
use Rattle.macro_expand.specs.Expanded.{IsExpansion}
use Rattle.macro_expand.proofs.Growing.{SoFar, place_so_far}

pub whole : (program : Program) (c : MicroCode) → length program.statements ≤ MAX_STATEMENTS → SoFar program (length program.statements) c → IsExpansion program c
whole program c few x = record {
  whole = record {
    few = omega (arith, few, x.statements);
    entries = λ k lt. let e = x.set k (omega (arith, lt, x.statements)) in (e.0, e.1, x.begun k e.0 e.1);
    rise = x.rise;
    begins = x.begins;
    returns = x.returns;
    jumps = x.jumps;
    names = x.names;
    light = omega (arith, x.light, few);
  };
  statements = x.statements;
  static_cells = x.static_cells;
  formats = x.formats;
  quiet = x.quiet;
  each = λ k statement e.
      let s = x.each k statement (slice_get_within program.statements k statement e) e in
      record {
        base = s.base;
        piece = s.piece;
        entry = s.entry;
        stands = record { part = s.is_piece.part; each = s.each; follows = ap (λ n. place_so_far c n (k + 1)) x.statements ∙ s.follows };
        is_piece = s.is_piece;
        does = s.does;
        returns = s.returns;
      };
}
