use Rattle.std.proofs.Common.{◌≡◌, ◌∙◌, ◌+◌, ◌*◌, ◌==◌, true, ℕ, List, [], ◌∷◌, take, length, refl, sym, ap, arith, length-append}
use Rattle.std.proofs.lemmas.Result.{err_from_is_err_and}
use Rattle.std.proofs.lemmas.Bool.Decides.{nat_tests}
use Rattle.layout_params.specs.Sizes.{Sizes}
use Rattle.layout_params.specs.Parameters.{Settings}
use Rattle.image_file.specs.Image.{Image}
use Rattle.image_file.specs.ImageGrammar.{StatementsPart, WordsPart, ConstantsPart, CellsPart, KindsPart, TablesPart, EndPart, parts}
use Rattle.image_file.proofs.Files.{body_wrong, stand_then}
use Rattle.image_file.proofs.Stops.{refused_at}
use Rattle.image_file.proofs.body.read_data.Goals as goal

pub returns-in_err-constants-clause-refused : goal.returns-in_err-constants-clause-refused
returns-in_err-constants-clause-refused c = λ i whole e h.
    let p = err_from_is_err_and c.from_residual.result c.from_residual.ensures.1 in
    rw (p.1, p.2) (refused_at _ 8 _ whole c.in_err-constants.ensures (λ short.
    body_wrong 8 (StatementsPart ∷ WordsPart ∷ []) ConstantsPart c.args.counts.now i whole c.args.bytes.now refl refl h (λ j rest same b.
    absurd (omega (arith, ap length b.0, length-append j.constants rest, b.1)))))

-- the bytes of the static cells, by the settings
cell_bytes : (s t u : Settings) (cells descr : ℕ) (bytes : List ℕ) → descr ≡ s.sizes.descr → t ≡ u → u ≡ s → length bytes ≡ cells * t.sizes.descr → length bytes ≡ cells * descr
cell_bytes s t u cells descr bytes d e f h = h ∙ ap (λ (x : Settings). cells * x.sizes.descr) (e ∙ f) ∙ ap (λ n. cells * n) (sym d)

pub returns-in_err-cells-clause-refused : goal.returns-in_err-cells-clause-refused
returns-in_err-cells-clause-refused c = λ i whole e h.
    let p = err_from_is_err_and c.from_residual-in_err-cells.result c.from_residual-in_err-cells.ensures.1 in
    let descr = c.descr.ensures ∙ ap (λ (x : Sizes). x.descr) c.numbers.ensures.sizes in
    let with_constants : Image = record i { constants = c.in_ok-constants.constants.items } in
    let eight = stand_then (take 7 parts) ConstantsPart c.args.counts.now with_constants whole c.args.bytes.now c.in_ok-constants.rest.now h c.in_ok-constants.ensures in
    rw (p.1, p.2) (refused_at _ 9 _ whole c.in_err-cells.ensures (λ short.
    body_wrong 9 (StatementsPart ∷ WordsPart ∷ ConstantsPart ∷ []) CellsPart c.args.counts.now with_constants whole c.in_ok-constants.rest.now refl refl eight (λ j rest same b.
    let size = cell_bytes c.args.settings.now j.settings i.settings c.args.counts.now.cells c.descr.result j.cells descr same e b.1 in
    absurd (omega (arith, ap length b.0, length-append j.cells rest, size)))))

-- what is read after the constants and the cells
pub returns-in_err-kinds-clause-refused : goal.returns-in_err-kinds-clause-refused
returns-in_err-kinds-clause-refused c = λ i whole e h.
    let p = err_from_is_err_and c.from_residual-in_err-kinds.result c.from_residual-in_err-kinds.ensures.1 in
    let descr = c.descr.ensures ∙ ap (λ (x : Sizes). x.descr) c.numbers.ensures.sizes in
    let so_far : Image = record i { constants = c.in_ok-constants.constants.items; cells = c.in_ok-cells.cells.items } in
    let cells = c.in_ok-cells.ensures in
    let size = cells.1 ∙ ap (λ n. c.args.counts.now.cells * n) descr ∙ ap (λ (x : Settings). c.args.counts.now.cells * x.sizes.descr) (sym e) in
    let eight = stand_then (take 7 parts) ConstantsPart c.args.counts.now so_far whole c.args.bytes.now c.in_ok-constants.rest.now h c.in_ok-constants.ensures in
    let nine = stand_then (take 8 parts) CellsPart c.args.counts.now so_far whole c.in_ok-constants.rest.now c.in_ok-cells.rest.now eight (cells.0, size) in
    rw (p.1, p.2) (refused_at _ 10 _ whole c.in_err-kinds.ensures (λ none.
    body_wrong 10 (StatementsPart ∷ WordsPart ∷ ConstantsPart ∷ CellsPart ∷ []) KindsPart c.args.counts.now so_far whole c.in_ok-cells.rest.now refl refl nine (λ j rest same b. none j.kinds rest b.0 b.1 b.2)))

pub returns-in_err-tables-clause-refused : goal.returns-in_err-tables-clause-refused
returns-in_err-tables-clause-refused c = λ i whole e h.
    let p = err_from_is_err_and c.from_residual-in_err-tables.result c.from_residual-in_err-tables.ensures.1 in
    let descr = c.descr.ensures ∙ ap (λ (x : Sizes). x.descr) c.numbers.ensures.sizes in
    let so_far : Image = record i { constants = c.in_ok-constants.constants.items; cells = c.in_ok-cells.cells.items; kinds = c.in_ok-kinds.kinds.items } in
    let cells = c.in_ok-cells.ensures in
    let size = cells.1 ∙ ap (λ n. c.args.counts.now.cells * n) descr ∙ ap (λ (x : Settings). c.args.counts.now.cells * x.sizes.descr) (sym e) in
    let eight = stand_then (take 7 parts) ConstantsPart c.args.counts.now so_far whole c.args.bytes.now c.in_ok-constants.rest.now h c.in_ok-constants.ensures in
    let nine = stand_then (take 8 parts) CellsPart c.args.counts.now so_far whole c.in_ok-constants.rest.now c.in_ok-cells.rest.now eight (cells.0, size) in
    let ten = stand_then (take 9 parts) KindsPart c.args.counts.now so_far whole c.in_ok-cells.rest.now c.in_ok-kinds.rest.now nine c.in_ok-kinds.ensures in
    rw (p.1, p.2) (refused_at _ 11 _ whole c.in_err-tables.ensures (λ none.
    body_wrong 11 (StatementsPart ∷ WordsPart ∷ ConstantsPart ∷ CellsPart ∷ KindsPart ∷ []) TablesPart c.args.counts.now so_far whole c.in_ok-kinds.rest.now refl refl ten (λ j rest same b. none j rest b)))

pub returns-then-not-is_empty-clause-refused : goal.returns-then-not-is_empty-clause-refused
returns-then-not-is_empty-clause-refused c = λ i whole e h.
    let descr = c.descr.ensures ∙ ap (λ (x : Sizes). x.descr) c.numbers.ensures.sizes in
    let so_far : Image = record i { constants = c.in_ok-constants.constants.items; cells = c.in_ok-cells.cells.items; kinds = c.in_ok-kinds.kinds.items; tables = c.in_ok-tables.tables.items } in
    let cells = c.in_ok-cells.ensures in
    let size = cells.1 ∙ ap (λ n. c.args.counts.now.cells * n) descr ∙ ap (λ (x : Settings). c.args.counts.now.cells * x.sizes.descr) (sym e) in
    let eight = stand_then (take 7 parts) ConstantsPart c.args.counts.now so_far whole c.args.bytes.now c.in_ok-constants.rest.now h c.in_ok-constants.ensures in
    let nine = stand_then (take 8 parts) CellsPart c.args.counts.now so_far whole c.in_ok-constants.rest.now c.in_ok-cells.rest.now eight (cells.0, size) in
    let ten = stand_then (take 9 parts) KindsPart c.args.counts.now so_far whole c.in_ok-cells.rest.now c.in_ok-kinds.rest.now nine c.in_ok-kinds.ensures in
    let eleven = stand_then (take 10 parts) TablesPart c.args.counts.now so_far whole c.in_ok-kinds.rest.now c.in_ok-tables.rest.now ten (c.in_ok-tables.ensures i.settings) in
    body_wrong 12 (StatementsPart ∷ WordsPart ∷ ConstantsPart ∷ CellsPart ∷ KindsPart ∷ TablesPart ∷ []) EndPart c.args.counts.now so_far whole c.in_ok-tables.rest.now refl refl eleven (λ j rest same b.
    let empty = rw b.0 at c.is_empty.ensures in
    let bad = c.if-not-is_empty.true in
    cc)

no_items : (xs : List ℕ) → (length xs == 0) ≡ true → xs ≡ []
no_items [] h = refl
no_items (x ∷ xs) h = let none : length xs + 1 ≡ 0 = grind (arith, nat_tests) in absurd (omega arith)

pub returns-clause-data_parts : goal.returns-clause-data_parts
returns-clause-data_parts c =
    let descr = c.descr.ensures ∙ ap (λ (x : Sizes). x.descr) c.numbers.ensures.sizes in
    let cells = c.in_ok-cells.ensures in
    let size = cells.1 ∙ ap (λ n. c.args.counts.now.cells * n) descr in
    let empty = no_items c.in_ok-tables.rest.now (sym c.is_empty.ensures ∙ c.if-not-is_empty.false) in
    (c.in_ok-constants.rest.now, c.in_ok-constants.ensures, (c.in_ok-cells.rest.now, (cells.0, size), (c.in_ok-kinds.rest.now, c.in_ok-kinds.ensures, (c.in_ok-tables.rest.now, c.in_ok-tables.ensures c.args.settings.now, ([], (empty, refl), refl)))))
