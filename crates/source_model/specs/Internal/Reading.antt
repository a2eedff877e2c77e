-- What a reader of pairs gives, and where it stands then.
use Rattle.std.specs.Prelude.{ℕ, zero, suc, ◌+◌, ◌-◌, ◌*◌, ◌^◌, ◌<◌, ◌≡◌, List, cond, eqb, ltb}
use Rattle.source_model.specs.Pair.{pair}

-- the last pair at which a reader can stand: pair 3 of byte 2^64 − 1
abbrev pub last_pair : ℕ
last_pair = 4 * 2 ^ 64 - 1

-- the pair after pair k; at the last one a reader stays
unfoldable pub pair_after : ℕ → ℕ
pair_after k = cond (eqb k last_pair) k (suc k)

-- pair k is read: its value, and the place after it, which is pair `at` of byte `byte`
pub record PairRead (source : List ℕ) (k value byte at : ℕ) : Type 0 where
  pub value_is : value ≡ pair source k
  pub place : at < 4
  pub next : 4 * byte + at ≡ pair_after k

-- the number that n pairs from pair k on make, the first one lowest
unfoldable pub pairs : List ℕ → (k n : ℕ) → ℕ
pairs source k zero = 0
pairs source k (suc n) = pair source k + 4 * pairs source (suc k) n

-- the pair after n pairs from pair k on; where that is past the last one a reader stays
unfoldable pub pairs_after : (n k : ℕ) → ℕ
pairs_after n k = cond (ltb last_pair (k + n)) k (k + n)

-- n pairs from pair k on are read: their number, and the place after them, which is pair `at` of byte `byte`
pub record PairsRead (source : List ℕ) (n k value byte at : ℕ) : Type 0 where
  pub value_is : value ≡ pairs source k n
  pub place : at < 4
  pub next : 4 * byte + at ≡ pairs_after n k
