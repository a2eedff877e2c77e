-- `pair_frames::frame::read_header` meets its contract: each return rewrites with the tests that led there.
use mathlib.Core.Path.{sym, ◌∙◌}
use borrow.Author.Tests.{lt-ltb, le-ltb, eq-eqb, ne_eqb}
use Rattle.pair_model.specs.Header.{read_header}
use Rattle.pair_frames.proofs.frame.read_header.Goals as goal

pub returns-then-f-lt-HEADER_BYTES : goal.returns-then-f-lt-HEADER_BYTES
unfolding read_header
returns-then-f-lt-HEADER_BYTES c = simp (lt-ltb _ _ c.if-f-lt-HEADER_BYTES.true)

pub returns-then-kind-lowest : goal.returns-then-kind-lowest
unfolding read_header
returns-then-kind-lowest c = simp (le-ltb _ _ c.if-f-lt-HEADER_BYTES.false, lt-ltb _ _ c.if-kind-lowest.true)

pub returns-then-highest-kind : goal.returns-then-highest-kind
unfolding read_header
returns-then-highest-kind c = simp (le-ltb _ _ c.if-f-lt-HEADER_BYTES.false, le-ltb _ _ c.if-kind-lowest.false, lt-ltb _ _ c.if-highest-kind.true)

pub returns-then-f-frame_bytes : goal.returns-then-f-frame_bytes
unfolding read_header
returns-then-f-frame_bytes c =
    simp (
      le-ltb _ _ c.if-f-lt-HEADER_BYTES.false,
      le-ltb _ _ c.if-kind-lowest.false,
      le-ltb _ _ c.if-highest-kind.false,
      ne_eqb _ _ (λ e. c.if-f-frame_bytes.true (e ∙ sym c.frame_bytes.ensures)),
    )

pub returns : goal.returns
unfolding read_header
returns c =
    simp (
      le-ltb _ _ c.if-f-lt-HEADER_BYTES.false,
      le-ltb _ _ c.if-kind-lowest.false,
      le-ltb _ _ c.if-highest-kind.false,
      eq-eqb _ _ (c.if-f-frame_bytes.false ∙ c.frame_bytes.ensures),
      c.session_of.ensures,
      c.line_of.ensures,
    )
