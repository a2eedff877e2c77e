-- `pair_conditions::conditions::check_lengths` meets its contract: each return rewrites with the tests that led there.
use mathlib.Core.Path.{refl, sym, ◌∙◌}
use native.Mathlib.Omega.{arith}
use borrow.Author.Tests.{lt-ltb, le-ltb, eq-eqb, ne_eqb}
use Rattle.pair_frames.specs.Schemes.{scheme_in}
use Rattle.pair_model.specs.Unit.{least_output}
use Rattle.pair_model.proofs.Internal.Contents.{lengths-number}
use Rattle.pair_conditions.proofs.conditions.check_lengths.Goals as goal
use Rattle.pair_conditions.proofs.conditions.check_lengths.Goals.{else-reads_file-via-then-reads_file+else-file-file_bytes, else-reads_file-via-else-reads_file}

pub returns-then-room-frame_bytes : goal.returns-then-room-frame_bytes
returns-then-room-frame_bytes c =
    let a = c.args in
    let S = scheme_in a.sizes in
    rw (lengths-number S refl, lt-ltb a.room (least_output S) (omega (arith, c.if-room-frame_bytes.true, c.frame_bytes.ensures)))

pub returns-then-file-file_bytes : goal.returns-then-file-file_bytes
returns-then-file-file_bytes c =
    let a = c.args in
    let S = scheme_in a.sizes in
    rw (
      lengths-number S refl,
      le-ltb a.room (least_output S) (omega (arith, c.if-room-frame_bytes.false, c.frame_bytes.ensures)),
      sym c.reads_file.ensures ∙ c.if-reads_file.true,
      ne_eqb _ _ (λ e. c.if-file-file_bytes.true (e ∙ sym c.file_bytes.ensures)),
    )

pub returns : goal.returns
returns c =
    let a = c.args in
    let S = scheme_in a.sizes in
    rw (
      lengths-number S refl,
      le-ltb a.room (least_output S) (omega (arith, c.if-room-frame_bytes.false, c.frame_bytes.ensures)),
      sym c.reads_file.ensures,
    )
    (elim c.else-reads_file.branch [
      | else-reads_file-via-then-reads_file+else-file-file_bytes w ↦ rw (w.if-reads_file.true, eq-eqb _ _ (w.if-file-file_bytes.false ∙ w.file_bytes.ensures))
      | else-reads_file-via-else-reads_file w ↦ rw w.if-reads_file.false
    ])
