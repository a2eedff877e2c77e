-- `pair_conditions::conditions::check_content` meets its contract: by what is read, and then by the kind.
use mathlib.Core.Path.{refl, sym, ◌∙◌}
use mathlib.Core.Bool.{false≢true}
use borrow.Author.Tests.{eq-eqb}
use lib.Dec.{eqb→eq}
use Rattle.numbers.proofs.Numbers.{holds}
use Rattle.pair_frames.specs.Schemes.{scheme_in}
use Rattle.pair_model.specs.Scheme.{files}
use Rattle.pair_model.specs.Frame.{mask_kind}
use Rattle.pair_model.proofs.Internal.Contents.{faults_number, content_rows, content-none, content-deal}
use Rattle.pair_conditions.proofs.conditions.check_content.Goals as goal
use Rattle.pair_conditions.proofs.conditions.check_content.Goals.{else-f-eq-DEAL-via-then-f-eq-DEAL+else-not-trits_fit, else-f-eq-DEAL-via-else-f-eq-DEAL}

pub returns-then-reads_file : goal.returns-then-reads_file
returns-then-reads_file c =
    let S = scheme_in c.args.sizes in
    let lent = files c.args.file.now in
    let r = eqb→eq _ mask_kind (holds _ (sym c.reads_file.ensures ∙ c.if-reads_file.true)) in
    c.check_file.ensures ∙ faults_number S.rows_reading lent (c.requires.1 r) ∙ content_rows S c.args.f.now lent r

pub returns-then-not-trits_fit : goal.returns-then-not-trits_fit
returns-then-not-trits_fit c =
    content-deal (scheme_in c.args.sizes) c.args.f.now (files c.args.file.now) c.if-f-eq-DEAL.true c.requires.0 _ _ c.r_of_deal.ensures (sym c.if-not-trits_fit.true ∙ c.trits_fit.ensures)

pub returns : goal.returns
returns c =
    let a = c.args in
    let S = scheme_in a.sizes in
    let lent = files a.file.now in
    elim c.else-f-eq-DEAL.branch [
      | else-f-eq-DEAL-via-then-f-eq-DEAL+else-not-trits_fit w ↦
          content-deal S a.f.now lent w.if-f-eq-DEAL.true c.requires.0 _ _ w.r_of_deal.ensures (sym w.if-not-trits_fit.false ∙ w.trits_fit.ensures)
      | else-f-eq-DEAL-via-else-f-eq-DEAL w ↦
          content-none S refl a.f.now lent (λ e. false≢true (sym (sym c.reads_file.ensures ∙ c.if-reads_file.false) ∙ eq-eqb _ _ e)) w.if-f-eq-DEAL.false
    ]
