use Rattle.std.proofs.Common.{refl}
use Rattle.sil_model.specs.Access.{byte_place, char_at, put_char}
use Rattle.sil_model.specs.Integers.{wrapped_sum}
use Rattle.unit_calls.specs.CallsMade.{unit_number}
use Rattle.unit_io.specs.Numbered.{unit_at, with_unit}
use Rattle.sil_micro.specs.MicroWords.{unsigned}
use Rattle.sil_micro.specs.UnitCalls.{can_call, chars_from, set_chars_from}
use Rattle.rows_micro.proofs.operations.records_are_read.Goals as goal

pub returns-clause-short : goal.returns-clause-short
unfolding byte_place char_at put_char wrapped_sum unit_number unit_at with_unit unsigned can_call chars_from set_chars_from
returns-clause-short c = λ g. refl

pub returns-clause-cut : goal.returns-clause-cut
unfolding byte_place char_at put_char wrapped_sum unit_number unit_at with_unit unsigned can_call chars_from set_chars_from
returns-clause-cut c = λ g. refl

pub returns-clause-failed : goal.returns-clause-failed
unfolding byte_place char_at put_char wrapped_sum unit_number unit_at with_unit unsigned can_call chars_from set_chars_from
returns-clause-failed c = λ g. refl

pub returns-clause-end : goal.returns-clause-end
unfolding byte_place char_at put_char wrapped_sum unit_number unit_at with_unit unsigned can_call chars_from set_chars_from
returns-clause-end c = λ g. refl

pub returns-clause-wide : goal.returns-clause-wide
unfolding byte_place char_at put_char wrapped_sum unit_number unit_at with_unit unsigned can_call chars_from set_chars_from
returns-clause-wide c = λ g. refl
