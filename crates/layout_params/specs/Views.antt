-- What contracts see of the numbers of a layout, and of settings.
use Rattle.layout_params.specs.declared.candidate.Candidate.{Candidate}
use Rattle.layout_params.specs.Sizes.{Sizes}

abbrev pub sizes_of : Candidate → Sizes
sizes_of c = record { descr = c.descr; a_at = c.a_at; f_at = c.f_at; f_len = c.f_len; v_at = c.v_at; v_len = c.v_len }
