-- `pair_conditions::conditions::check_frame` meets its contract: its tests are those of the header that was read.
use mathlib.Core.Path.{◌≡◌, sym, ap, ◌∙◌}
use borrow.Author.Tests.{eq-eqb, ne_eqb}
use Rattle.numbers.specs.Number.{first}
use Rattle.pair_frames.specs.Headers.{header_of}
use Rattle.pair_frames.specs.Schemes.{scheme_in}
use Rattle.pair_model.specs.Frame.{deal_kind, mask_kind}
use Rattle.pair_model.specs.Header.{fields, read_header, header_number}
use Rattle.pair_model.proofs.Internal.Headers.{header_refused}
use Rattle.pair_conditions.proofs.conditions.check_frame.Goals as goal
use Rattle.pair_conditions.proofs.conditions.check_frame.Goals.{In-Fields}

-- the fields that were read
read : (c : In-Fields)
    → read_header (scheme_in c.args.sizes) deal_kind mask_kind c.args.f.now
    ≡ fields c.in-Fields.kind c.in-Fields.named c.in-Fields.number c.in-Fields.line c.in-Fields.body
read c = sym c.read_header-h.ensures ∙ ap header_of c.in-Fields.is

pub returns-in_default : goal.returns-in_default
returns-in_default c =
    let e = c.read_header-h.ensures in
    c.check_header.ensures ∙ ap header_number e ∙ header_refused (scheme_in c.args.sizes) deal_kind mask_kind _ (sym e ∙ ap header_of c.in_default.is) _

pub returns-then-number-parameters : goal.returns-then-number-parameters
unfolding first
returns-then-number-parameters c = simp (read (goal.at.returns-then-number-parameters c).In-Fields, ne_eqb _ _ c.if-number-parameters.true)

pub returns-then-named-expected_side : goal.returns-then-named-expected_side
unfolding first
returns-then-named-expected_side c =
    simp (read (goal.at.returns-then-named-expected_side c).In-Fields, eq-eqb _ _ c.if-number-parameters.false, ne_eqb _ _ (λ e. c.if-named-expected_side.true (e ∙ sym c.expected_side.ensures)))

pub returns-then-kind-stage : goal.returns-then-kind-stage
unfolding first
returns-then-kind-stage c =
    simp (read (goal.at.returns-then-kind-stage c).In-Fields, eq-eqb _ _ c.if-number-parameters.false, eq-eqb _ _ (c.if-named-expected_side.false ∙ c.expected_side.ensures), ne_eqb _ _ c.if-kind-stage.true)

pub returns : goal.returns
unfolding first
returns c =
    simp (read (goal.at.returns c).In-Fields, eq-eqb _ _ c.if-number-parameters.false, eq-eqb _ _ (c.if-named-expected_side.false ∙ c.expected_side.ensures), eq-eqb _ _ c.if-kind-stage.false)
