use Rattle.image_file.proofs.Files.{at_least_one, at_most_twelve, one_part, no_image}
use Rattle.image_file.proofs.laws.law_of_first_parts.Goals as goal

pub returns : goal.returns
returns c = record {
  number = λ k bytes w. (at_least_one k bytes w, at_most_twelve k bytes w);
  one_part = one_part;
  no_image = no_image;
}
