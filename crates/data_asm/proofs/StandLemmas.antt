-- Where the cells of a statement stand.
use Rattle.std.proofs.Common.{◌≡◌, ℕ, ◌+◌, ◌*◌, List, [], ◌∷◌, ◌++◌, length, pos, refl, sym, ap, ◌∙◌, arith, append_assoc, append-nil, length-append}
use Rattle.std.specs.Prelude.{Option, ℤ}
use Rattle.std.proofs.lemmas.List.Sums.{sum_by-cons}
use Rattle.std.proofs.lemmas.List.Elements.{All-head, All-tail}
use Rattle.layout_params.specs.declared.cell.Cell.{Cell}
use Rattle.layout_params.specs.Parameters.{Parameters}
use Rattle.sil_base.specs.declared.places.TheConstants.{FIRST_CELL}
use Rattle.sil_operands.specs.declared.expr.Term.{Term}
use Rattle.sil_symbols.specs.declared.stmt.Stmt.{Stmt}
use Rattle.sil_symbols.specs.Addresses as symbols
use Rattle.sil_symbols.specs.Laws.{LawOfSizes, cell_count}
use Rattle.sil_symbols.specs.Symbols.{size_names, value_of}
use Rattle.data_asm.specs.Cells.{data_cells, cells_of, cells_after, static_cells_of}
use Rattle.data_asm.specs.Laws.{LawOfStaticCells}
use Rattle.data_asm.proofs.CountLemmas.{AreSized, IsSizedBy, cells_counted}

module _ (size : ℕ) (values : List Term → Option ℤ) where
  -- what follows never changes what stands
  abbrev Continues : List Cell → List Stmt → Type 0
  Continues front source = (rest : List Cell) × (cells_after size values front source ≡ front ++ rest)

  continues : (front : List Cell) (source : List Stmt) → Continues front source
  continues front [] = ([], sym (append-nil front))
  continues front (s ∷ source) =
      let these = cells_of size values (length front) s in
      let (rest, is) = continues (front ++ these) source in
      (these ++ rest, is ∙ append_assoc front these rest)

  after_front : (front : List Cell) (before source : List Stmt) → cells_after size values front (before ++ source) ≡ cells_after size values (cells_after size values front before) source
  after_front front [] source = refl
  after_front front (s ∷ before) source = after_front (front ++ cells_of size values (length front) s) before source

counted : (p : Parameters) (whole : List Stmt) (front : List Cell) (before after : List Stmt) → AreSized p whole (before ++ after) →
    length (cells_after p.settings.sizes.descr (value_of p whole) front before) ≡ length front + cell_count p whole before
counted p whole front [] after sized = omega arith
counted p whole front (s ∷ before) after sized =
    let size = p.settings.sizes.descr in
    let values = value_of p whole in
    let P = IsSizedBy p whole in
    let these = cells_of size values (length front) s in
    let one = cells_counted p whole (length front) s (All-head P s (before ++ after) sized) in
    let next = counted p whole (front ++ these) before after (All-tail P s (before ++ after) sized) in
    omega (arith, one, next, length-append front these, sum_by-cons (symbols.cells_of size (size_names p whole)) s before)

pub stands : LawOfSizes → LawOfStaticCells
unfolding static_cells_of
stands sizes p before s after clean =
    let source = before ++ s ∷ after in
    let size = p.settings.sizes.descr in
    let values = value_of p source in
    let front = cells_after size values [] before in
    let count : length front ≡ cell_count p source before = omega (arith, counted p source [] before (s ∷ after) (sizes p source clean)) in
    let these = cells_of size values (length front) s in
    let (rest, is) = continues size values (front ++ these) after in
    let same : these ≡ data_cells size values (pos (FIRST_CELL + (cell_count p source before + 2) * size)) s.name s.operands = ap (λ n. cells_of size values n s) count in
    record {
      front = front;
      rest = rest;
      count = count;
      whole = after_front size values [] before (s ∷ after) ∙ is ∙ append_assoc front these rest ∙ ap (λ cs. front ++ (cs ++ rest)) same;
    }
