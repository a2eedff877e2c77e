-- `linear_circulant::circulant::circulant_bytes` meets its contract. The invariant of its loop: the first i bytes are those of the product.
use Rattle.linear_model.specs.Bits.{byte_of}
use Rattle.linear_model.specs.Products.{bit_row, circulant}
use Rattle.linear_model.proofs.Filling.{Filling}
use Rattle.linear_circulant.proofs.circulant.circulant_bytes.Given as goal

abbrev pub invariant-loop-i : goal.invariant-loop-i
invariant-loop-i l = Filling (byte_of (bit_row l.n (circulant l.n l.key) l.label)) l.i l.initial.out l.out
