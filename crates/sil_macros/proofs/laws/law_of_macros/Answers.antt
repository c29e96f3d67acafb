use Rattle.std.proofs.Common.{refl}
use Rattle.sil_macros.proofs.TableLemmas.{with_number-number, with_name-name}
use Rattle.sil_macros.proofs.FoundLemmas.{number_below, names_rise, one_number, one_name}
use Rattle.sil_macros.proofs.laws.law_of_macros.Goals as goal

pub returns : goal.returns
returns c = record {
  count = refl;
  below = number_below;
  placed = with_number-number;
  named = with_name-name;
  rise = names_rise;
  one_number = one_number;
  one_name = one_name;
}
