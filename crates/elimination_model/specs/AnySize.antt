-- Rows of any size whose tie can be listed: how many words they take, and the room that is asked for.
use Rattle.std.specs.Prelude.{ℕ, ◌+◌, ◌*◌, ◌/◌, ◌%◌, ◌≤◌, ◌≡◌}

-- the words to a plane of t rows of so many bytes to a plane, each with a digit for every row behind its own
abbrev pub carrying_words : ℕ → ℕ → ℕ
carrying_words bytes t = bytes / 8 + (t + 63) / 64

-- t rows of whole words, so many bytes to a plane, are all there in so many bytes; they take at most eleven words to a plane, and fit into so
-- many words; row numbers are bytes, and the list fits into n bytes
pub record Room (bytes t rows words n : ℕ) : Type 0 where
  pub whole : bytes % 8 ≡ 0
  pub few_words : carrying_words bytes t ≤ 11
  pub few_rows : t ≤ 256
  pub all_rows : 2 * bytes * t ≤ rows
  pub in_words : 2 * carrying_words bytes t * t ≤ words
  pub list : 2 * t ≤ n
