-- `pair_counter::join::check_join` meets its contract: the first part that has a number decides.
use mathlib.Core.Path.{◌≡◌, sym, ◌∙◌}
use mathlib.Core.List.{List}
use Prim.Native.Nat.{ℕ}
use native.Mathlib.Omega.{arith}
use lib.ListN.{length, take, drop}
use Rattle.numbers.specs.Number.{first}
use Rattle.pair_frames.specs.Schemes.{scheme_in}
use Rattle.numbers.proofs.Refusals.{refused, passed_on}
use Rattle.pair_model.specs.Scheme.{Scheme}
use Rattle.pair_model.specs.Frame.{share_kind, code_bytes, frame_bytes, header_bytes}
use Rattle.pair_model.specs.Join.{join_header_conditions, share_conditions}
use Rattle.pair_model.specs.Header.{line_conditions}
use Rattle.pair_model.proofs.Internal.Joins.{lower_of, number_of, join_room, headers_long, share_numbers, number_of-headers, number_of_shares, number_of-lines}
use Rattle.pair_counter.proofs.join.check_join.Goals as goal

module _ (S : Scheme) (f g : List ℕ) where
  -- where both headers fit, both frames have the length of their kind
  long : 0 ≡ first (join_header_conditions S f g) → (length f ≡ frame_bytes S share_kind) × (length g ≡ frame_bytes S share_kind)
  long e = headers_long S f g (sym e)

  -- and the lower number of the shares is that of both
  of_shares : 0 ≡ first (join_header_conditions S f g) → {a b : ℕ} → a ≡ number_of S (take (code_bytes S) (drop header_bytes f)) → b ≡ number_of S (take (code_bytes S) (drop header_bytes g))
      → lower_of a b ≡ first (share_conditions S f g)
  of_shares e p q = (λ k. lower_of (p k) (q k)) ∙ share_numbers S f g (long e).0 (long e).1

pub returns-then-room-code_bytes : goal.returns-then-room-code_bytes
returns-then-room-code_bytes c =
    let a = c.args in
    join_room (scheme_in a.sizes) _ _ _ (omega (arith, c.code_bytes.ensures, c.if-room-code_bytes.true))

pub returns-in_err-check_headers : goal.returns-in_err-check_headers
returns-in_err-check_headers c =
    let S = scheme_in c.args.sizes in
    let n = c.in_err-check_headers.ensures in
    passed_on _ _ c.from_residual.ensures ∙ n ∙ number_of-headers S _ _ _ (omega (arith, c.code_bytes.ensures, c.if-room-code_bytes.false)) (refused _ n)

pub check_share-requires : goal.check_share-requires
check_share-requires c = (long (scheme_in c.args.sizes) _ _ c.in_ok-check_headers.ensures).0

pub check_share-requires-2 : goal.check_share-requires-2
check_share-requires-2 c = (long (scheme_in c.args.sizes) _ _ c.in_ok-check_headers.ensures).1

pub returns-in_err-lower : goal.returns-in_err-lower
returns-in_err-lower c =
    let a = c.args in
    let S = scheme_in a.sizes in
    let h = c.in_ok-check_headers.ensures in
    let n = c.in_err-lower.ensures ∙ of_shares S a.f.now a.g.now h c.check_share.ensures c.check_share-2.ensures in
    passed_on _ _ c.from_residual-in_err-lower.ensures ∙ n ∙ number_of_shares S _ _ _ (omega (arith, c.code_bytes.ensures, c.if-room-code_bytes.false)) (sym h) (refused _ n)

pub line_of-requires : goal.line_of-requires
line_of-requires c = let h = long (scheme_in c.args.sizes) _ _ c.in_ok-check_headers.ensures in omega (arith, h.0, h.1)

pub check_line-requires : goal.check_line-requires
check_line-requires c = omega (arith, (long (scheme_in c.args.sizes) _ _ c.in_ok-check_headers.ensures).0)

pub returns : goal.returns
returns c =
    let a = c.args in
    let S = scheme_in a.sizes in
    let h = c.in_ok-check_headers.ensures in
    let n = c.in_ok-lower.ensures ∙ of_shares S a.f.now a.g.now h c.check_share.ensures c.check_share-2.ensures in
    c.check_line.ensures ∙ (λ i. first (line_conditions (c.line_of.ensures i) a.f.now))
    ∙ number_of-lines S a.f.now a.g.now a.room (omega (arith, c.code_bytes.ensures, c.if-room-code_bytes.false)) (sym h) (sym n)
