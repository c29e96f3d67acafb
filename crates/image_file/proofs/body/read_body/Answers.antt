use Rattle.std.proofs.Common.{[], ◌∷◌, ◌++◌, refl, sym, subst}
use Rattle.std.proofs.lemmas.Result.{err_from_is_err_and}
use Rattle.image_file.specs.Image.{Image, image_of}
use Rattle.image_file.specs.ImageGrammar.{StatementsPart, WordsPart, Stand, head_parts, body_parts, IsImageFile}
use Rattle.image_file.proofs.Files.{body_wrong, stand_then, legal_parts, whole_file}
use Rattle.image_file.proofs.Stops.{refused_at}
use Rattle.image_file.proofs.body.read_body.Goals as goal

pub returns-in_err-statements : goal.returns-in_err-statements
returns-in_err-statements c = λ whole h.
    let p = err_from_is_err_and c.from_residual.result c.from_residual.ensures.1 in
    rw (p.1, p.2) (refused_at _ 6 _ whole c.in_err-statements.ensures (λ none.
    body_wrong 6 [] StatementsPart c.args.counts.now (image_of c.args.settings [] [] [] [] [] []) whole c.args.bytes.now refl refl h (λ j rest same b. none j rest b)))

pub returns-in_err-words : goal.returns-in_err-words
returns-in_err-words c = λ whole h.
    let p = err_from_is_err_and c.from_residual-in_err-words.result c.from_residual-in_err-words.ensures.1 in
    let image = image_of c.args.settings c.in_ok-statements.statements.items [] [] [] [] [] in
    let six = stand_then head_parts StatementsPart c.args.counts.now image whole c.args.bytes.now c.in_ok-statements.rest.now h (c.in_ok-statements.ensures c.args.settings) in
    rw (p.1, p.2) (refused_at _ 7 _ whole c.in_err-words.ensures (λ none.
    body_wrong 7 (StatementsPart ∷ []) WordsPart c.args.counts.now image whole c.in_ok-statements.rest.now refl refl six (λ j rest same b. none j rest b)))

pub returns-in_err-data : goal.returns-in_err-data
returns-in_err-data c = λ whole h.
    let p = err_from_is_err_and c.from_residual-in_err-data.result c.from_residual-in_err-data.ensures.1 in
    let image = image_of c.args.settings c.in_ok-statements.statements.items c.in_ok-words.words.items [] [] [] [] in
    let six = stand_then head_parts StatementsPart c.args.counts.now image whole c.args.bytes.now c.in_ok-statements.rest.now h (c.in_ok-statements.ensures c.args.settings) in
    let seven = stand_then (head_parts ++ StatementsPart ∷ []) WordsPart c.args.counts.now image whole c.in_ok-statements.rest.now c.in_ok-words.rest.now six (c.in_ok-words.ensures c.args.settings) in
    rw (p.1, p.2) (c.in_err-data.ensures.refused image whole refl seven)

pub of_parts-requires : goal.of_parts-requires
of_parts-requires c =
    let items = c.in_ok-data.«data» in
    let image = image_of c.args.settings c.in_ok-statements.statements.items c.in_ok-words.words.items items.constants.items items.cells.items items.kinds.items items.tables.items in
    let body : Stand body_parts c.args.counts.now image c.args.bytes.now [] = (c.in_ok-statements.rest.now, c.in_ok-statements.ensures c.args.settings, (c.in_ok-words.rest.now, c.in_ok-words.ensures c.args.settings, c.in_ok-data.ensures.data_parts)) in
    legal_parts c.args.counts.now image c.args.bytes.now [] c.requires.legal c.requires.within body

pub returns : goal.returns
returns c = λ whole h.
    let items = c.in_ok-data.«data» in
    let image = image_of c.args.settings c.in_ok-statements.statements.items c.in_ok-words.words.items items.constants.items items.cells.items items.kinds.items items.tables.items in
    let body : Stand body_parts c.args.counts.now image c.args.bytes.now [] = (c.in_ok-statements.rest.now, c.in_ok-statements.ensures c.args.settings, (c.in_ok-words.rest.now, c.in_ok-words.ensures c.args.settings, c.in_ok-data.ensures.data_parts)) in
    subst (λ (i : Image). IsImageFile i whole) (sym c.of_parts.ensures) (whole_file c.args.counts.now image whole c.args.bytes.now h body)
