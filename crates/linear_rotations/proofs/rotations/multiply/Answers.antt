use mathlib.Core.Path.{◌≡◌, ap}
use Prim.Native.Nat.{◌-◌, ◌*◌, ◌/◌}
use native.Mathlib.Nat.{mul-zero}
use native.Mathlib.Omega.{arith}
use lib.ListN.{length}
use Rattle.linear_model.specs.Bits.{zeros}
use Rattle.linear_model.proofs.Internal.Rotations.{horner-none, horner-step, step_before, steps_fit}
use Rattle.linear_rotations.proofs.rotations.multiply.Goals as goal

pub loop-i-init : goal.loop-i-init
loop-i-init g c =
    let z : c.args.acc.now ≡ zeros 9 = c.requires.5 in
    let e : g.row.N * (64 / g.row.N) ≡ 64 = grind arith in
    (ap length z, λ key label fs. rw (z, e) (horner-none g.row.W key label 64))

pub loop-i-preserved : goal.loop-i-preserved
loop-i-preserved g c =
    let i = c.loop-i.i in
    let e : g.row.N * (64 / g.row.N) ≡ 64 = grind arith in (
      c.step.ensures.long,
      λ key label fs. horner-step fs g.row.N (g.row.N * i) (g.row.N * (i - 1)) c.requires.3 (step_before g.row.N i (omega arith))
          (steps_fit g.row.N i (64 / g.row.N) (omega arith) e) (c.loop-i.invariant.1 key label fs) c.step.ensures,
    )

pub returns : goal.returns
returns g c =
    let e : c.loop-i.i ≡ 0 = omega arith in
    simp mul-zero at (rw e at c.loop-i.invariant.1)
