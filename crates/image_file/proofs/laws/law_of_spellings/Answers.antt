use Rattle.image_file.proofs.Files.{file_of, image_of_file, spelled, one_image, no_prefix}
use Rattle.image_file.proofs.laws.law_of_spellings.Goals as goal

pub returns : goal.returns
returns c = record {
  spelled = λ i bytes. (λ h. (image_of_file i bytes h, spelled i bytes h), λ h. file_of i bytes h.0 h.1);
  one_image = one_image;
  no_prefix = no_prefix;
}
