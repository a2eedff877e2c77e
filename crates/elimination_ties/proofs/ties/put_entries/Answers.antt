use mathlib.Core.Path.{◌≡◌, refl, ap, ◌∙◌}
use mathlib.Core.List.{List}
use Prim.Native.Nat.{ℕ, suc, ◌+◌, ◌*◌, ◌%◌, ◌<◌, ◌≤◌}
use native.Mathlib.Nat.{le_of_suc-le-suc, mul-le-mul}
use native.Mathlib.Omega.{arith}
use lib.ListN.{length, length-set}
use Rattle.elimination_ties.proofs.Entries.{Written, written_none, entry_room, entries_same, entries_next}
use Rattle.elimination_ties.proofs.ties.put_entries.Goals as goal
use Rattle.elimination_ties.proofs.ties.put_entries.Goals.{Then-x-ne0, then-x-ne0, else-x-ne0}
use Rattle.elimination_ties.proofs.ties.put_entries.Invariants.{multiplied}

-- there is room for an entry more
room : (c : Then-x-ne0) → (2 * c.loop-k.n + 2 ≤ length c.loop-k.out)
room c =
    let a = c.args in
    omega
    (arith, c.loop-k.invariant.0, entry_room (multiplied a.w a.f a.r a.lead a.words.now) c.loop-k.k c.loop-k.n a.out.now c.loop-k.out c.loop-k.invariant.1 a.r (omega arith) c.requires.3)

pub loop-k-init : goal.loop-k-init
loop-k-init c =
    let a = c.args in
    (refl, written_none (multiplied a.w a.f a.r a.lead a.words.now) a.out.now)

pub overflow_mul-x : goal.overflow_mul-x
overflow_mul-x c =
    omega (arith, product c.args.lead c.carried_digit.result c.requires.1 c.carried_digit.ensures.1)
  where
    product : (x y : ℕ) → x < 3 → y < 3 → x * y ≤ 2 * 2
    product x y h l = mul-le-mul (le_of_suc-le-suc h) (le_of_suc-le-suc l)

pub overflow_mul-out : goal.overflow_mul-out
overflow_mul-out c = omega (arith, room (goal.at.overflow_mul-out c).Then-x-ne0)

pub bounds-out-n : goal.bounds-out-n
bounds-out-n c = omega (arith, room (goal.at.bounds-out-n c).Then-x-ne0)

pub overflow_mul-out-then-x-ne0 : goal.overflow_mul-out-then-x-ne0
overflow_mul-out-then-x-ne0 c = omega (arith, room (goal.at.overflow_mul-out-then-x-ne0 c).Then-x-ne0)

pub overflow_add-out : goal.overflow_add-out
overflow_add-out c = omega (arith, room (goal.at.overflow_add-out c).Then-x-ne0)

pub bounds-out-n-then-x-ne0 : goal.bounds-out-n-then-x-ne0
bounds-out-n-then-x-ne0 c = simp length-set (omega (arith, room (goal.at.bounds-out-n-then-x-ne0 c).Then-x-ne0))

pub overflow_add-n : goal.overflow_add-n
overflow_add-n c = omega (arith, room (goal.at.overflow_add-n c).Then-x-ne0)

pub loop-k-preserved : goal.loop-k-preserved
loop-k-preserved c =
    let a = c.args in
    let d = multiplied a.w a.f a.r a.lead a.words.now in
    let x = ap (λ (y : ℕ). a.lead * y % 3) c.carried_digit.ensures.0 in
    let inv = c.loop-k.invariant in
    let more = entry_room d c.loop-k.k c.loop-k.n a.out.now c.loop-k.out inv.1 a.r (omega arith) c.requires.3 in
    let next : (length c.if-x-ne0.out ≡ length a.out.now) × Written d (c.loop-k.k + 1) a.out.now c.if-x-ne0.n c.if-x-ne0.out =
    elim c.if-x-ne0.branch [
      | then-x-ne0 w ↦ kept d (c.loop-k.k + 1) a.out.now w.out-is w.n-is (simp length-set inv.0, entries_next d c.loop-k.k c.loop-k.n a.out.now c.loop-k.out inv.1 _ x (positive w.if-x-ne0.true) more)
      | else-x-ne0 w ↦ kept d (c.loop-k.k + 1) a.out.now w.out-is w.n-is (inv.0, entries_same d c.loop-k.k c.loop-k.n a.out.now c.loop-k.out inv.1 _ x w.if-x-ne0.false)
    ] in
    next
  where
    positive : {x : ℕ} → (x ≡ 0 → ⊥) → 0 < x
    positive {x} h = omega arith

    kept : (d : ℕ → ℕ) (k : ℕ) (old : List ℕ) {n n' : ℕ} {out out' : List ℕ} → out' ≡ out → n' ≡ n
        → (length out ≡ length old) × Written d k old n out → (length out' ≡ length old) × Written d k old n' out'
    kept d k old e f w = (ap length e ∙ w.0, (f ∙ w.1.0, e ∙ w.1.1))

pub returns : goal.returns
returns c =
    let a = c.args in
    let e : c.loop-k.k ≡ suc a.r = omega arith in
    let w = rw e at c.loop-k.invariant.1 in
    record { count = w.0; output = w.1 }
