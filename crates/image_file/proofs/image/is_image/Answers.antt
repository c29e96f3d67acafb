use Rattle.std.proofs.Common.{◌∙◌, sym, arith}
use Rattle.std.proofs.lemmas.List.{length-map, get_or_default}
use Rattle.std.proofs.lemmas.Grind.{common_steps}
use Rattle.image_file.proofs.image.is_image.Goals as goal

pub returns-then-are_kinds : goal.returns-then-are_kinds
returns-then-are_kinds c =
    let room = c.has_room.ensures.0 c.if-not-has_room.false in (
      λ fit. record {
        settings = c.requires;
        statements = simp length-map room.0;
        cards = c.places_rise.ensures.cards c.if-not-places_rise.false;
        some_words = room.1;
        few_words = room.2;
        wide_words = λ k d h. rw (get_or_default c.args.words.now k d 0 h) (let fits = c.type_inv.words k in grind (arith, common_steps));
        constants = room.3;
        cell_count = room.4;
        table_bytes = room.5;
        whole_tables = room.6;
        places = sym c.places_rise.ensures.places ∙ c.if-not-places_rise.false;
        cells = c.has_cells.ensures.0 c.if-not-has_cells.false;
        kinds = c.are_kinds.ensures.0 c.if-are_kinds.true;
        tables = sym c.are_tables.ensures ∙ fit;
      },
      λ i. c.are_tables.ensures ∙ i.tables,
    )
