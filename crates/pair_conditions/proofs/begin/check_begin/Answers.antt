-- `pair_conditions::begin::check_begin` meets its contract: each return rewrites with the tests that led there.
use borrow.Author.Tests.{lt-ltb, le-ltb, eq-eqb, ne_eqb}
use Rattle.numbers.specs.Number.{first}
use Rattle.pair_model.specs.Unit.{begin_conditions}
use Rattle.pair_conditions.proofs.begin.check_begin.Goals as goal
use Rattle.pair_conditions.proofs.begin.check_begin.Goals.{then-key-key_bytes-via-then-key-key_bytes, then-key-key_bytes-via-else-key-key_bytes+then-label-key_bytes}

pub returns-then-key-key_bytes : goal.returns-then-key-key_bytes
unfolding first begin_conditions
returns-then-key-key_bytes c =
    λ S shared k. elim c.then-key-key_bytes.branch [
      | then-key-key_bytes-via-then-key-key_bytes w ↦ simp (k, ne_eqb _ _ w.if-key-key_bytes.true)
      | then-key-key_bytes-via-else-key-key_bytes+then-label-key_bytes w ↦ simp (k, eq-eqb _ _ w.if-key-key_bytes.false, ne_eqb _ _ w.if-label-key_bytes.true)
    ]

pub returns-then-side-gt1 : goal.returns-then-side-gt1
unfolding first begin_conditions
returns-then-side-gt1 c = λ S shared k. simp (k, eq-eqb _ _ c.if-key-key_bytes.false, eq-eqb _ _ c.if-label-key_bytes.false, lt-ltb _ _ c.if-side-gt1.true)

pub returns-else-side-gt1 : goal.returns-else-side-gt1
unfolding first begin_conditions
returns-else-side-gt1 c = λ S shared k. simp (k, eq-eqb _ _ c.if-key-key_bytes.false, eq-eqb _ _ c.if-label-key_bytes.false, le-ltb _ _ c.if-side-gt1.false)
