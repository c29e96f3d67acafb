use Rattle.std.proofs.Common.{◌≡◌, ◌∙◌, ap, None, refl, length, arith}
use Rattle.std.proofs.lemmas.List.Elements.{All-replicate, All-set}
use Rattle.std.proofs.lemmas.List.FromFn.{length-map-range_with_len}
use Rattle.sil_model.specs.declared.table.Action.TheVariants.{Error}
use Rattle.sil_model.specs.WellFormed.{IsEntry}
use Rattle.sil_symbols.specs.Resolved.{expression_value}
use Rattle.syntax_tables.specs.TableFiles.{names_in}
use Rattle.syntax_tables.specs.Tables.{entry_of, entry_at, table_of}
use Rattle.syntax_tables.proofs.Filled.{filled_more, filled_whole}
use Rattle.syntax_tables.proofs.tables.table_of.Goals as goal

pub loop-code-init : goal.loop-code-init
loop-code-init c = record {
  filled = refl;
  good = All-replicate (IsEntry (length (names_in c.args.written.now))) 256 (record { action = Error; put = None }) (record { within = tt; put = tt });
}

pub loop-code-preserved : goal.loop-code-preserved
loop-code-preserved c =
    let value = expression_value c.args.symbols.now in
    let same : c.entry_of.result ≡ entry_at value (names_in c.args.written.now) c.args.lines.now c.loop-code.code = c.entry_of.ensures.entry ∙ ap (entry_of value (names_in c.args.written.now)) c.rule_at.ensures in
    record {
      filled = rw same (filled_more (entry_at value (names_in c.args.written.now) c.args.lines.now) (record { action = Error; put = None }) c.loop-code.code c.loop-code.entries (omega arith) c.loop-code.invariant.filled);
      good = All-set (IsEntry (length (names_in c.args.written.now))) c.loop-code.entries c.loop-code.code c.entry_of.result c.entry_of.ensures.good c.loop-code.invariant.good;
    }

pub returns-clause-table : goal.returns-clause-table
unfolding table_of
returns-clause-table c =
    ap (λ entries. record { entries = entries })
    (filled_whole (entry_at (expression_value c.args.symbols.now) (names_in c.args.written.now) c.args.lines.now) (record { action = Error; put = None }) c.loop-code.code c.loop-code.entries (omega arith) c.loop-code.invariant.filled)

pub returns-clause-good : goal.returns-clause-good
returns-clause-good c =
    let f = entry_at (expression_value c.args.symbols.now) (names_in c.args.written.now) c.args.lines.now in
    record {
      size = ap length (filled_whole f (record { action = Error; put = None }) c.loop-code.code c.loop-code.entries (omega arith) c.loop-code.invariant.filled) ∙ length-map-range_with_len f 0 256;
      entries = c.loop-code.invariant.good;
    }
