-- What contracts see of parameters.
use Rattle.layout_params.specs.declared.params.Params.TheInside.{Inside}
use Rattle.layout_params.specs.Parameters.{Parameters}

abbrev pub parameters_of : Inside → Parameters
parameters_of p = record { settings = p.settings; input_unit = p.input_unit; output_unit = p.output_unit; punch_unit = p.punch_unit }
