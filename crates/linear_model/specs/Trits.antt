-- Trit vectors in two planes of m bytes, low plane first: their sums and differences modulo 3, and the inner share of a unit.
use Rattle.std.specs.Prelude.{ℕ, ◌+◌, ◌-◌, ◌*◌, ◌/◌, ◌%◌, List, ◌++◌, Bool, cond, ltb, eqb}
use Rattle.linear_model.specs.Tables.{every}
use Rattle.linear_model.specs.Bits.{bit, pack}

-- trit j: its low bit plus 2 × its high bit, so 3 where both are set
unfoldable pub trit : ℕ → List ℕ → ℕ → ℕ
trit m v j = bit v j + 2 * bit v (8 * m + j)

-- the low bit and the high bit of f j
abbrev pub low : (ℕ → ℕ) → ℕ → ℕ
low f j = f j % 2

abbrev pub high : (ℕ → ℕ) → ℕ → ℕ
high f j = f j / 2

-- the two planes, m bytes each, whose trit j is f j
unfoldable pub pack_trits : ℕ → (ℕ → ℕ) → List ℕ
pack_trits m f = pack m (low f) ++ pack m (high f)

-- trit j does not have both bits set
abbrev pub fit_trit : ℕ → List ℕ → ℕ → Bool
fit_trit m v j = ltb (trit m v j) 3

-- the first t trits are fit
unfoldable pub fit_trits : ℕ → ℕ → List ℕ → Bool
fit_trits m t v = every t (fit_trit m v)

-- trit t + k is 0
abbrev pub zero_trit : ℕ → ℕ → List ℕ → ℕ → Bool
zero_trit m t v k = eqb (trit m v (t + k)) 0

-- all trits from place t on are 0: of a row at t = 0, of the spare bits of a code at t digits
unfoldable pub zero_trits : ℕ → ℕ → List ℕ → Bool
zero_trits m t v = every (8 * m - t) (zero_trit m t v)

-- trit j of a + b modulo 3
abbrev pub sum_trit : ℕ → List ℕ → List ℕ → ℕ → ℕ
sum_trit m a b j = (trit m a j + trit m b j) % 3

-- a + b modulo 3
unfoldable pub add_trits : ℕ → List ℕ → List ℕ → List ℕ
add_trits m a b = pack_trits m (sum_trit m a b)

-- trit j of w − r modulo 3, w a bit string and r a trit vector
abbrev pub difference_trit : ℕ → List ℕ → List ℕ → ℕ → ℕ
difference_trit m w r j = (bit w j + 2 * trit m r j) % 3

-- w − r modulo 3
unfoldable pub subtract_trits : ℕ → List ℕ → List ℕ → List ℕ
subtract_trits m w r = pack_trits m (difference_trit m w r)

-- a bit string read as trits
unfoldable pub bit_trits : ℕ → List ℕ → List ℕ
bit_trits m w = pack_trits m (bit w)

-- trit j of a unit's inner share, of ŵ and the unit's r: r + ŵ × r, and side 0 also adds ŵ, modulo 3
abbrev pub inner_trit : ℕ → ℕ → List ℕ → List ℕ → ℕ → ℕ
inner_trit m side w r j = (trit m r j + bit w j * trit m r j + cond (eqb side 0) (bit w j) 0) % 3

-- the inner share of a unit
unfoldable pub inner_share : ℕ → ℕ → List ℕ → List ℕ → List ℕ
inner_share m side w r = pack_trits m (inner_trit m side w r)
