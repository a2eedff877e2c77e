-- `linear_fit::fit::byte_places` meets its contract. The first eight places of a word are those of a byte.
use mathlib.Core.Path.{◌∙◌}
use Rattle.linear_model.proofs.Internal.Gathers.{places_byte}
use Rattle.linear_fit.proofs.fit.byte_places.Goals as goal

pub returns : goal.returns
returns c = let a = c.args in c.byte_of.ensures ∙ places_byte a.t a.i _ c.places.ensures
