-- `service_pair::printed::push_code_line` meets its contract: the digits, and a line feed.
use mathlib.Core.Path.{◌≡◌, sym, ap, ◌∙◌}
use mathlib.Core.List.{List, [], ◌∷◌, ◌++◌, append_assoc, append-nil}
use Prim.Native.Nat.{ℕ}
use native.Mathlib.Omega.{arith}
use lib.ListN.{length, length-append}
use Rattle.std.proofs.Common.{rules}
use Rattle.linear_model.specs.Tables.{tabulate}
use Rattle.linear_model.proofs.Tables.{length-tabulate}
use Rattle.service_pair.specs.Printed.{digit, code_line, line_feed}
use Rattle.service_pair.proofs.Lines.{tabulate_push}
use Rattle.service_pair.proofs.printed.push_code_line.Goals as goal

pub loop-i-init : goal.loop-i-init
unfolding tabulate
loop-i-init c = search (rules, append-nil)

pub push-requires : goal.push-requires
push-requires c = (omega arith, omega (arith, simp (length-append, length-tabulate) at (ap length c.loop-i.invariant)))

pub loop-i-preserved : goal.loop-i-preserved
loop-i-preserved c =
    let t = c.args.text.now.items in
    let d = digit c.args.code.now in
    let i = c.loop-i.i in
    c.push.ensures.items ∙ (λ j. c.loop-i.invariant j ++ (c.digit.ensures j ∷ []))
    ∙ append_assoc t (tabulate i d) (d i ∷ []) ∙ ap (λ (s : List ℕ). t ++ s) (sym (tabulate_push i d))

pub push-requires-2 : goal.push-requires-2
push-requires-2 c = (omega arith, omega (arith, simp (length-append, length-tabulate) at (ap length c.loop-i.invariant)))

pub returns : goal.returns
unfolding code_line
returns c =
    let t = c.args.text.now.items in
    let d = digit c.args.code.now in
    let all : c.loop-i.i ≡ 81 = omega arith in
    c.push-2.ensures.items ∙ (λ j. c.loop-i.invariant j ++ line_feed)
    ∙ ap (λ (n : ℕ). (t ++ tabulate n d) ++ line_feed) all ∙ append_assoc t (tabulate 81 d) line_feed
