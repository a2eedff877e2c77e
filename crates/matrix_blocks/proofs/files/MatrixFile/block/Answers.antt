-- `matrix_blocks::files::MatrixFile::block` meets its contract.
use mathlib.Core.Path.{◌≡◌, ap}
use Prim.Native.Nat.{ℕ, ◌+◌, ◌-◌, ◌*◌}
use native.Mathlib.Omega.{arith}
use lib.ListN.{take, drop}
use Rattle.matrix_model.specs.File.{block}
use Rattle.matrix_model.proofs.Internal.Blocks.{long_block}
use Rattle.matrix_blocks.specs.Layouts.{layout_in}
use Rattle.matrix_blocks.proofs.files.MatrixFile.block.Goals as goal

pub returns : goal.returns
returns c =
    let a = c.args in
    let part = take (512 * a.b + 512 - 512 * a.b) (drop (512 * a.b) a.self.bytes.now) in
    let n : 512 * a.b + 512 - 512 * a.b ≡ 512 = omega arith in
    let e : part ≡ block a.self.bytes.now a.b = ap (λ (n : ℕ). take n (drop (512 * a.b) a.self.bytes.now)) n in
    record { block = e; long = long_block (layout_in a.self.layout) a.self.bytes.now a.b part e c.args.self.long c.requires }
