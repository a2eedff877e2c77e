-- Tests of trits that a byte or a word shows for all its places at once.
use Rattle.std.specs.Prelude.{ℕ, ◌+◌, ◌<◌, ◌≡◌, List, Bool, true, cond, ltb, eqb}
use Rattle.linear_model.specs.Bits.{bit_at}
use Rattle.linear_model.specs.Trits.{trit, fit_trit}

-- the w bits of x are clear just where the test holds, from place j on
abbrev pub Shows : ℕ → (ℕ → Bool) → ℕ → ℕ → Type 0
Shows w test j x = (k : ℕ) → k < w → eqb (bit_at x k) 0 ≡ test (j + k)

-- place j is before t
abbrev pub inside : ℕ → ℕ → ℕ
inside t j = cond (ltb j t) 1 0

-- trit j is fit, where j is before t
abbrev pub fit_before : ℕ → ℕ → List ℕ → ℕ → Bool
fit_before m t v j = cond (ltb j t) (fit_trit m v j) true

-- trit j is 0, where j is not before t
abbrev pub zero_after : ℕ → ℕ → List ℕ → ℕ → Bool
zero_after m t v j = cond (ltb j t) true (eqb (trit m v j) 0)
