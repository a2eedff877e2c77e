-- What an operation gives of words or bytes is what it gives of the strings that have them.
use mathlib.Core.Path.{◌≡◌, sym, ◌∙◌}
use mathlib.Core.List.{List}
use Prim.Native.Nat.{ℕ, ◌+◌, ◌*◌, ◌<◌}
use native.Mathlib.Omega.{arith}
use Rattle.linear_model.specs.Bits.{bit_at}
use Rattle.linear_model.specs.Internal.Planes.{trit_of}
use Rattle.linear_trits.specs.Results.{Holds, result_trit}

pub combined : (w h m i : ℕ) (a b : List ℕ) {x u y v : ℕ} (p q : ℕ) (f : ℕ → ℕ → ℕ → ℕ) → Holds w h a i x u → Holds w m b i y v
    → ((k : ℕ) → trit_of p q k ≡ f (bit_at x k) (trit_of x u k) (trit_of y v k)) → (k : ℕ) → k < w → trit_of p q k ≡ result_trit f h m a b (8 * i + k)
combined w h m i a b p q f s t e k l = e k ∙ sym (λ j. f (s.bits k l j) (s.trits k l j) (t.trits k l j))

-- a result's trits have room in two bits
pub below_four : (f : ℕ → ℕ → ℕ → ℕ) (h m : ℕ) (a b : List ℕ) → ((x s t : ℕ) → f x s t < 3) → (j : ℕ) → result_trit f h m a b j < 4
below_four f h m a b fits j = omega (arith, fits)
