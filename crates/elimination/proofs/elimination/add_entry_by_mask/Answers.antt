-- `elimination::elimination::add_entry_by_mask` meets its contract: entry 1 times the digit is the digit's entry.
use mathlib.Core.Path.{◌≡◌, sym, ap, ap₂, ◌∙◌}
use Prim.Native.Nat.{ℕ, ◌+◌, ◌*◌, ◌%◌, ◌<◌}
use native.Mathlib.Omega.{arith}
use lib.Dec.{lit<}
use lib.ListN.{get_or, length-set}
use Rattle.linear_model.specs.Internal.Planes.{trit_of}
use Rattle.elimination_model.specs.Internal.Words.{word_trit, EntryWord}
use Rattle.elimination_model.proofs.Internal.Writing.{written_one}
use Rattle.elimination_model.proofs.Internal.Tables.{entry_fit}
use Rattle.elimination.proofs.elimination.add_entry_by_mask.Goals as goal

pub bounds-words-b-4 : goal.bounds-words-b-4
bounds-words-b-4 c = simp length-set (omega arith)

pub shape_of-words : goal.shape_of-words
shape_of-words c = simp length-set

pub returns : goal.returns
returns c =
    let words = c.args.words.now in
    let table = c.args.table.now in
    let b = c.args.b in
    let d = word_trit 1 words b 0 c.args.bit in
    let small : d < 3 = c.requires.0.fit 0 (lit< tt) c.args.bit in
    let plain : (k : ℕ) → word_trit 1 words b 0 k ≡ trit_of (get_or words b 0) (get_or words (b + 1) 0) k =
    λ k. ap₂ (λ (p q : ℕ). trit_of (get_or words p 0) (get_or words q 0) k) (omega arith) (omega arith) in
    let product : (k : ℕ) → trit_of c.digit_times.result.low c.digit_times.result.high k ≡ word_trit 1 table (2 * 1 * d) 0 k =
    λ k. c.digit_times.ensures k ∙ ap (λ (v : ℕ). v * word_trit 1 table (2 * 1 * 1) 0 k % 3) (sym (plain c.args.bit)) ∙ sym (c.requires.1.is d 0 small (lit< tt) k) in
    written_one b (EntryWord 1 table words b 0 c.args.bit) words _ _ c.requires.0.long
    (λ k. c.add-r.ensures k (rw (← plain k) (c.requires.0.fit 0 (lit< tt) k)) (rw (product k) ((entry_fit 1 table c.requires.1 d small).fit 0 (lit< tt) k))
    ∙ ap₂ (λ (v z : ℕ). (v + z) % 3) (sym (plain k)) (product k))
