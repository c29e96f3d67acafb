-- A walk over a specifier, from its reads to what it leaves.
use Rattle.std.proofs.Common.{◌≡◌, ℕ, ◌+◌, ◌*◌, ◌≤◌, ◌<◌, List, [], ◌∷◌, length, Option, Some, None, true, false, refl, ap, sym, subst, ◌∙◌, arith, lit≤}
use Rattle.std.specs.Prelude.{ℤ, pos, nat_le, All}
use Rattle.sil_macros.specs.declared.names.Macro.TheVariants.{Stream}
use Rattle.sil_model.specs.declared.program.Arg.TheVariants.{Absent, Goto, Place, Table as TableNumber}
use Rattle.sil_model.specs.declared.program.Specials.{Specials}
use Rattle.sil_model.specs.declared.specifier.Specifier.{Specifier}
use Rattle.sil_model.specs.Integers.{◌⊞◌}
use Rattle.sil_model.specs.Specifiers.{FitsSpec}
use Rattle.sil_model.specs.States.{State}
use Rattle.sil_model.specs.WellFormed.{IsTable}
use Rattle.sil_model.proofs.Lists.{spec_fits}
use Rattle.sil_micro.specs.declared.op.Op.{Op}
use Rattle.sil_micro.specs.Expands.{Does, IsPiece, at}
use Rattle.sil_micro.specs.MicroStates.{Registers}
use Rattle.sil_micro.specs.Pieces.{joined}
use Rattle.sil_micro.proofs.Making.{more, by_way, then_part}
use Rattle.exp_common.specs.Locations.{lead}
use Rattle.exp_common.proofs.JoinedParts.{IsFirst, IsPart, both_parts, whole_piece}
use Rattle.exp_common.proofs.Questions.{by_read}
use Rattle.string_clauses.specs.Walks.{walk_visits}
use Rattle.table_clauses.specs.SyntaxClauses.{stream, stream_turn}
use Rattle.table_clauses.specs.SyntaxTable.{stream_turns, table_clause, table_visits}
use Rattle.table_clauses.proofs.TablesKept.{AreTables}
use Rattle.exp_tables.specs.TableParts.{no_stype, part_code, read_code, walk_code}
use Rattle.exp_tables.proofs.Parting.{part_goes}
use Rattle.exp_tables.proofs.Walking.{walk_goes}

pub unmarked_does : (k : ℕ) (s1 s2 : ℤ) (t : ℕ) (error run_out stop : Option ℕ) (specials : Specials) → specials.stype ≡ None →
    Does k (no_stype k) specials (Place s1 ∷ Place s2 ∷ TableNumber t ∷ Goto error ∷ Goto run_out ∷ Goto stop ∷ []) (table_clause Stream) (table_visits Stream)
unfolding table_clause stream no_stype
unmarked_does k s1 s2 t error run_out stop specials none g program parameters u h =
    let args = Place s1 ∷ Place s2 ∷ TableNumber t ∷ Goto error ∷ Goto run_out ∷ Goto stop ∷ [] in
    let turns = stream_turns u.state.tables args u.state.memory in
    let cost = 2000 + 400 * (6 + (7 + 2 * turns)) in
    let same : program.specials.stype ≡ None = ap (λ x. x.stype) h.setting.symbols ∙ none in
    record { fuel = 4; meets = simp (h.left, same) (refl, refl, omega arith) }

module _ (k : ℕ) (s1 s2 : ℤ) (t : ℕ) (error run_out stop : Option ℕ) (stype : ℤ) (specials : Specials) where
  abbrev ending : List Op
  ending = part_code stype s1 s2 (lead k run_out) (lead k stop)

  abbrev rest : List Op
  rest = joined (walk_code t stype (lead k error)) ending

  abbrev pub stream_code : List Op
  stream_code = joined (read_code k s2) rest

  module _ (statements formats : ℕ) (w0 : nat_le (lead k error) statements ≡ true) (w1 : nat_le (lead k run_out) statements ≡ true) (w2 : nat_le (lead k stop) statements ≡ true) where
    read_first : IsFirst k statements formats 216 (read_code k s2)
    unfolding read_code
    read_first = record { part = refl; begins = refl; once = refl; names = refl; quiet = refl; weight = refl }

    walk_part : IsPart statements formats 352 (walk_code t stype (lead k error))
    unfolding walk_code
    walk_part = record { part = refl; begins = refl; names = simp w0; quiet = refl; weight = refl }

    ending_part : IsPart statements formats 212 ending
    unfolding part_code
    ending_part = record { part = refl; begins = refl; names = simp (w1, w2); quiet = refl; weight = refl }

    rest_part : IsPart statements formats 564 rest
    rest_part = both_parts walk_part ending_part

    pub stream_piece : IsPiece k statements formats false stream_code
    stream_piece = whole_piece read_first rest_part (omega arith)

    pub stream_does : specials.stype ≡ Some stype → Does k stream_code specials (Place s1 ∷ Place s2 ∷ TableNumber t ∷ Goto error ∷ Goto run_out ∷ Goto stop ∷ []) (table_clause Stream) (table_visits Stream)
    unfolding table_clause stream read_code
    stream_does marked g program parameters u h =
        let before : State = at k u.state in
        let m = u.state.memory in
        let tables = u.state.tables in
        let valid = h.valid.memory in
        let d = pos m.limits.cell_size in
        let count = h.valid.table_count in
        let most = h.setting.well_formed.table_count in
        let here = h.within 2 Absent (lit≤ tt) in
        let below : t < length tables = omega (arith, here, count) in
        let few : length tables ≤ 256 = omega (arith, most, count) in
        let good : AreTables (length tables) tables = record { many = refl; all = subst (λ n. All (IsTable n) tables) (sym count) h.valid.tables } in
        let same : program.specials.stype ≡ Some stype = ap (λ x. x.stype) h.setting.symbols ∙ marked in
        by_read m s2 valid (λ none. record { fuel = 10; meets = simp (h.left, same, none) (refl, refl, lit≤ tt) }) (λ a f v is read.
        by_read m (s2 ⊞ d) valid (λ none. record { fuel = 12; meets = simp (h.left, same, is, none) (refl, refl, lit≤ tt) }) (λ o f2 l is2 read2.
        let s : Specifier = record { a = a; f = f; v = v; o = o; l = l } in
        let fit : FitsSpec m.limits s = spec_fits m s2 s valid (simp (is, is2) refl) in
        let turns = walk_visits (stream_turn tables m (a ⊞ o)) 0 l (record { table = t; put = None }) in
        let cost = 2000 + 400 * (6 + (7 + 2 * turns)) in
        let r : Registers = record u.registers { r2 = a; r3 = pos f; r5 = d; r6 = pos v; r7 = o } in
        by_way (then_part (read_code k s2) rest_part.part (omega arith)
        (walk_goes g ending ending_part.part t stype s1 s2 error run_out stop before u.failed u.scratch r s cost valid good few read2.value
        (λ ran n put x0 x1 x12 x15 w le pays. part_goes g stype s1 s2 run_out stop before u.failed u.scratch s cost ran n put (record r { r0 = x0; r1 = x1; r9 = a ⊞ o; r11 = pos 1; r12 = x12; r15 = x15 }) w valid fit le pays)
        u.registers.r0 (s2 ⊞ d) u.registers.r10 u.registers.r12 u.registers.r13 u.registers.r14 u.registers.r15 216 below (omega arith)))
        (λ fuel y. record { fuel = more 12 fuel; meets = simp (h.left, same, is, is2) y })))
