use mathlib.Core.Path.{◌≡◌, refl}
use Prim.Native.Nat.{◌+◌, ◌<◌}
use native.Mathlib.Nat.{add-zero}
use native.Mathlib.Omega.{arith}
use Rattle.elimination_model.proofs.Internal.Writing.{rows_apart, rows_none, rows_more}
use Rattle.elimination_model.proofs.Internal.Loading.{loaded_next}
use Rattle.elimination_rows.proofs.loading.load_rows.Goals as goal

pub loop-i-init : goal.loop-i-init
loop-i-init c = rw add-zero (rows_none _ _ _ _)

pub load_row-requires : goal.load_row-requires
load_row-requires c =
    let h : c.args.first + c.loop-i.i < c.args.first + c.args.n = omega arith in
    let g : c.loop-i.i < c.args.n = omega arith in (
      c.requires.0,
      omega (arith, c.requires.1, rows_apart c.args.bytes c.loop-i.i c.args.n g),
      omega (arith, c.requires.2, c.loop-i.invariant.size, rows_apart c.args.w (c.args.first + c.loop-i.i) (c.args.first + c.args.n) h),
    )

pub loop-i-preserved : goal.loop-i-preserved
loop-i-preserved c =
    let e : c.args.first + (c.loop-i.i + 1) ≡ c.args.first + c.loop-i.i + 1 = omega arith in
    rw e (rows_more _ _ _ _ _ _ _ _ c.loop-i.invariant (omega arith) refl (loaded_next _ _ _ _ _ _ _ _ _ c.load_row.ensures))

pub returns : goal.returns
returns c =
    let e : c.loop-i.i ≡ c.args.n = omega arith in
    rw e at c.loop-i.invariant
