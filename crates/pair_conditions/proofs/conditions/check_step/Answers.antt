-- `pair_conditions::conditions::check_step` meets its contract: the first part that has a number decides.
use mathlib.Core.Path.{refl, sym, ◌∙◌}
use Rattle.numbers.proofs.Refusals.{refused, passed_on}
use Rattle.pair_frames.specs.Headers.{parameters_in}
use Rattle.pair_frames.specs.Schemes.{file_layout, scheme_in}
use Rattle.pair_model.specs.Scheme.{files}
use Rattle.pair_model.proofs.Internal.StepNumbers.{number_of-lengths, number_of-headers, number_of-content, number_of_line, rows_long, frame_long, frame_headed}
use Rattle.pair_model.proofs.Internal.Contents.{content_positive}
use Rattle.pair_conditions.proofs.conditions.check_step.Goals as goal

pub returns-in_err-check_lengths : goal.returns-in_err-check_lengths
returns-in_err-check_lengths c =
    let n = c.in_err-check_lengths.ensures in
    passed_on _ _ c.from_residual.ensures ∙ n ∙ number_of-lengths (scheme_in c.args.sizes) _ _ _ _ _ (refused _ n)

pub returns-in_err-check_frame : goal.returns-in_err-check_frame
returns-in_err-check_frame c =
    let n = c.in_err-check_frame.ensures in
    passed_on _ _ c.from_residual-in_err-check_frame.ensures ∙ n ∙ number_of-headers (scheme_in c.args.sizes) _ _ _ _ _ (sym c.in_ok-check_lengths.ensures) (refused _ n)

pub check_content-requires : goal.check_content-requires
check_content-requires c =
    let a = c.args in
    let S = scheme_in a.sizes in
    let lent = files a.file.now in (
      frame_long S (parameters_in a.parameters) a.stage a.f.now lent a.room (sym c.in_ok-check_frame.ensures),
      rows_long S (parameters_in a.parameters) a.stage a.f.now lent a.room (sym c.in_ok-check_lengths.ensures),
    )

pub returns-in_err-check_content : goal.returns-in_err-check_content
returns-in_err-check_content c =
    let n = c.in_err-check_content.ensures in
    passed_on _ _ c.from_residual-in_err-check_content.ensures ∙ n
    ∙ number_of-content (scheme_in c.args.sizes) _ _ _ _ _ (sym c.in_ok-check_lengths.ensures) (sym c.in_ok-check_frame.ensures) (refused _ n)

pub check_line-requires : goal.check_line-requires
check_line-requires c =
    let a = c.args in
    frame_headed (scheme_in a.sizes) (parameters_in a.parameters) a.stage a.f.now (files a.file.now) a.room (sym c.in_ok-check_frame.ensures)

pub returns : goal.returns
returns c =
    let a = c.args in
    c.check_line.ensures
    ∙ number_of_line (scheme_in a.sizes) (parameters_in a.parameters) _ _ _ _ (sym c.in_ok-check_lengths.ensures) (sym c.in_ok-check_frame.ensures)
    (content_positive (scheme_in a.sizes) (file_layout a.sizes) refl refl a.f.now (files a.file.now))
    (sym c.in_ok-check_content.ensures)
