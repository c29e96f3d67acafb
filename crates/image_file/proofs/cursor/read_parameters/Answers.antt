use Rattle.std.proofs.Common.{◌≡◌, ◌∙◌, ◌*◌, length, sym, ap, rules}
use Rattle.image_file.proofs.Parts.{bytes_of_numbers, fit_of_numbers}
use Rattle.image_file.proofs.cursor.read_parameters.Goals as goal

pub returns : goal.returns
returns c =
    let size : length c.args.bytes.now ≡ 8 * length c.read_u64_into.new.dst = c.requires ∙ ap (λ n. 8 * n) (sym c.read_u64_into.auto.dst) in
    record {
      numbers = bytes_of_numbers 8 _ _ size (λ i. let fits = c.type_inv.bytes i in search rules) c.read_u64_into.ensures;
      fit = fit_of_numbers 8 _ _ size (λ i. let fits = c.type_inv.bytes i in search rules) c.read_u64_into.ensures;
    }
