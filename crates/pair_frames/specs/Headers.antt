-- What the code's parameters and its enum for a frame's header stand for.
use Rattle.pair_frames.specs.declared.header.Header.{Header as Enum}
use Rattle.pair_frames.specs.declared.header.Header.TheVariants.{Fields, Refused}
use Rattle.pair_frames.specs.declared.parameters.Parameters.{Parameters as Struct}
use Rattle.numbers.specs.Refusals.{number_of}
use Rattle.pair_model.specs.Frame.{Parameters, parameters}
use Rattle.pair_model.specs.Header.{Header, fields, refusal}

-- the parameters of a frame, and of a unit
abbrev pub parameters_in : Struct → Parameters
parameters_in p = parameters p.side p.session p.line

abbrev pub header_of : Enum → Header
header_of (Fields kind side session line body) = fields kind side session line body
header_of (Refused why) = refusal (number_of why)
