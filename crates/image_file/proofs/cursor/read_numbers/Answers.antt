use Rattle.std.proofs.Common.{◌≡◌, ◌∙◌, ◌*◌, length, sym, ap, rules}
use Rattle.image_file.proofs.Parts.{bytes_of_numbers, fit_of_numbers}
use Rattle.image_file.proofs.cursor.read_numbers.Goals as goal

pub returns : goal.returns
returns c =
    let size : length c.args.bytes.now ≡ 4 * length c.read_u32_into.new.dst = c.requires ∙ ap (λ n. 4 * n) (sym c.read_u32_into.auto.dst) in
    record {
      numbers = bytes_of_numbers 4 _ _ size (λ i. let fits = c.type_inv.bytes i in search rules) c.read_u32_into.ensures;
      fit = fit_of_numbers 4 _ _ size (λ i. let fits = c.type_inv.bytes i in search rules) c.read_u32_into.ensures;
    }
