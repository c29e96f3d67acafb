use Rattle.std.proofs.Common.{◌≡◌, ◌∙◌, ◌*◌, sym, ap, length, arith, rules}
use Rattle.std.proofs.lemmas.Grind.{common_steps}
use Rattle.std.proofs.lemmas.List.{take_at}
use Rattle.image_file.specs.Spelling.{numbers_in}
use Rattle.image_file.proofs.Parts.{bytes_of_numbers}
use Rattle.image_file.proofs.cursor.read_words.Goals as goal

pub returns-clause-words : goal.returns-clause-words
returns-clause-words c =
    let lent = c.deref_mut.ensures.len in
    let long : length c.read_u32_into.new.dst ≡ c.in_ok-words.words.len = (let auto = c.read_u32_into.auto.dst in cc) in
    let count : c.in_ok-words.words.len ≡ c.args.count = grind (arith, common_steps) in
    bytes_of_numbers 4 _ _ (c.requires.size ∙ ap (λ n. 4 * n) (sym (long ∙ count))) (λ i. let fits = c.type_inv.bytes i in search rules) c.read_u32_into.ensures
    ∙ ap (λ ws. numbers_in 4 ws) (sym (take_at _ _ _ long))
