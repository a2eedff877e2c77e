-- `pair_counter::join::check_headers` meets its contract: its tests are those of the headers that were read.
use mathlib.Core.Path.{sym, ap, ◌∙◌}
use borrow.Author.Tests.{eq-eqb, ne_eqb}
use Rattle.numbers.specs.Number.{first}
use Rattle.pair_frames.specs.Headers.{header_of}
use Rattle.pair_frames.specs.Schemes.{scheme_in}
use Rattle.pair_model.specs.Frame.{share_kind}
use Rattle.pair_model.specs.Header.{header_number}
use Rattle.pair_model.proofs.Internal.Headers.{not_whole}
use Rattle.pair_model.proofs.Internal.Joins.{lower_of, join_refused}
use Rattle.pair_counter.proofs.join.check_headers.Goals as goal
use Rattle.pair_counter.proofs.join.check_headers.Goals.{in_default-via-in-Fields+in_default, in_default-via-in_default}

pub returns-in_default : goal.returns-in_default
returns-in_default c =
    let S = scheme_in c.args.sizes in
    c.lower.ensures
    ∙ (λ i. lower_of ((c.check_header.ensures ∙ ap header_number c.read_header-p.ensures) i) ((c.check_header-in_default.ensures ∙ ap header_number c.read_header-q.ensures) i))
    ∙ elim c.in_default.branch [
      | in_default-via-in-Fields+in_default w ↦ join_refused S _ _ (λ x y. not_whole S share_kind share_kind _ (sym c.read_header-q.ensures ∙ ap header_of w.in_default.is-1) y)
      | in_default-via-in_default w ↦ join_refused S _ _ (λ x y. not_whole S share_kind share_kind _ (sym c.read_header-p.ensures ∙ ap header_of w.in_default.is-0) x)
    ]

pub returns-then-session_f-session_g : goal.returns-then-session_f-session_g
unfolding first
returns-then-session_f-session_g c =
    simp (sym c.read_header-p.ensures ∙ ap header_of c.in-Fields-Fields.is-0, sym c.read_header-q.ensures ∙ ap header_of c.in-Fields-Fields.is-1, ne_eqb _ _ c.if-session_f-session_g.true)

pub returns-then-side_f-ne0 : goal.returns-then-side_f-ne0
unfolding first
returns-then-side_f-ne0 c =
    simp (sym c.read_header-p.ensures ∙ ap header_of c.in-Fields-Fields.is-0, sym c.read_header-q.ensures ∙ ap header_of c.in-Fields-Fields.is-1, eq-eqb _ _ c.if-session_f-session_g.false, ne_eqb _ _ c.if-side_f-ne0.true)

pub returns-then-side_g-ne1 : goal.returns-then-side_g-ne1
unfolding first
returns-then-side_g-ne1 c =
    simp (sym c.read_header-p.ensures ∙ ap header_of c.in-Fields-Fields.is-0, sym c.read_header-q.ensures ∙ ap header_of c.in-Fields-Fields.is-1, eq-eqb _ _ c.if-session_f-session_g.false, eq-eqb _ _ c.if-side_f-ne0.false, ne_eqb _ _ c.if-side_g-ne1.true)

pub returns : goal.returns
unfolding first
returns c =
    simp (sym c.read_header-p.ensures ∙ ap header_of c.in-Fields-Fields.is-0, sym c.read_header-q.ensures ∙ ap header_of c.in-Fields-Fields.is-1, eq-eqb _ _ c.if-session_f-session_g.false, eq-eqb _ _ c.if-side_f-ne0.false, eq-eqb _ _ c.if-side_g-ne1.false)
