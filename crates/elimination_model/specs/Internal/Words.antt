-- Rows of digits in words, as the code changes them in place: a row of w words to a plane is 2w words, its low words before its high words.
use Rattle.std.specs.Prelude.{ℕ, suc, ◌+◌, ◌-◌, ◌*◌, ◌/◌, ◌%◌, ◌<◌, ◌≤◌, ◌≡◌, ◌≢◌, List, true, false, length, get_or}
use Rattle.linear_model.specs.Tables.{one_at}
use Rattle.linear_model.specs.Internal.Planes.{trit_of}
use Rattle.elimination_model.specs.Independence.{tied, trit_at}
use Rattle.elimination_model.specs.Internal.Elimination.{Carried, with_diagonal}

-- ---- digits

-- the trit in place k of word m of each plane, of the row from word a on
abbrev pub word_trit : ℕ → List ℕ → ℕ → ℕ → ℕ → ℕ
word_trit w words a m k = trit_of (get_or words (a + m) 0) (get_or words (a + w + m) 0) k

-- the digit of row i in column j
abbrev pub digit_at : ℕ → List ℕ → ℕ → ℕ → ℕ
digit_at w words i j = word_trit w words (2 * w * i) (j / 64) (j % 64)

-- digit k of the combination that row i carries behind its first f words
abbrev pub carried_at : ℕ → ℕ → List ℕ → ℕ → ℕ → ℕ
carried_at w f words i k = digit_at w words i (64 * f + k)

-- the row from word a on is there, and no trit of it has both bits set
pub record FitRow (w : ℕ) (words : List ℕ) (a : ℕ) : Type 0 where
  pub long : a + 2 * w ≤ length words
  pub fit : (m : ℕ) → m < w → (k : ℕ) → word_trit w words a m k < 3

-- so are the first t rows
pub record FitRows (w t : ℕ) (words : List ℕ) : Type 0 where
  pub long : 2 * w * t ≤ length words
  pub fit : (i m : ℕ) → i < t → m < w → (k : ℕ) → word_trit w words (2 * w * i) m k < 3

-- ---- words written

-- the first n words of each plane of the row from word b on were written, so that `holds` is true of them; no other word has changed
pub record RowWritten (w b n : ℕ) (holds : ℕ → ℕ → ℕ → Type 0) (words words' : List ℕ) : Type 0 where
  pub size : length words' ≡ length words
  pub before : (p : ℕ) → p < b → get_or words' p 0 ≡ get_or words p 0
  pub low : (p : ℕ) → b + n ≤ p → p < b + w → get_or words' p 0 ≡ get_or words p 0
  pub high : (p : ℕ) → b + w + n ≤ p → get_or words' p 0 ≡ get_or words p 0
  pub is : (m : ℕ) → m < n → holds m (get_or words' (b + m) 0) (get_or words' (b + w + m) 0)

-- rows `first` to `end` − 1 were written, so that `holds` is true of their words; no other word has changed
pub record RowsWritten (w first end : ℕ) (holds : ℕ → ℕ → ℕ → ℕ → Type 0) (words words' : List ℕ) : Type 0 where
  pub size : length words' ≡ length words
  pub before : (p : ℕ) → p < 2 * w * first → get_or words' p 0 ≡ get_or words p 0
  pub after : (p : ℕ) → 2 * w * end ≤ p → get_or words' p 0 ≡ get_or words p 0
  pub is : (i m : ℕ) → first ≤ i → i < end → m < w → holds i m (get_or words' (2 * w * i + m) 0) (get_or words' (2 * w * i + w + m) 0)

-- x and u are word m of the row from word b on plus that of a row of a table, from word a on
abbrev pub SumWord : ℕ → List ℕ → ℕ → List ℕ → ℕ → ℕ → ℕ → ℕ → Type 0
SumWord w table a words b m x u = (k : ℕ) → trit_of x u k ≡ (word_trit w words b m k + word_trit w table a m k) % 3

-- word m after a place of a string of words
abbrev pub word_after : List ℕ → ℕ → ℕ → ℕ
word_after words a m = get_or words (a + m) 0

-- x and u are words m after two places of a string of words
abbrev pub CopiedWord : List ℕ → ℕ → ℕ → ℕ → ℕ → ℕ → Type 0
CopiedWord words low high m x u = (x ≡ word_after words low m) × (u ≡ word_after words high m)

-- x and u have the digits of word m of row i of the rows a, f words to a plane, each carrying itself alone; a trit with both bits set counts as 0
abbrev pub LoadedWord : ℕ → (ℕ → ℕ → ℕ) → ℕ → ℕ → ℕ → ℕ → Type 0
LoadedWord f a i m x u = ((k : ℕ) → k < 64 → trit_of x u k ≡ with_diagonal (64 * f) a i (64 * m + k) % 3) × ((k : ℕ) → trit_of x u k < 3)

-- rows whose planes have so many bytes, where they go to row `first` and the rows after it
abbrev pub rows_after : ℕ → ℕ → List ℕ → ℕ → ℕ → ℕ
rows_after first bytes rows i = trit_at bytes rows (i - first)

-- ---- a turn of the elimination

-- row r was added to row i so often that this becomes 0 in place `bit` of its word `word`: x and u are its word m then
abbrev pub ClearedWord : ℕ → ℕ → ℕ → ℕ → List ℕ → ℕ → ℕ → ℕ → ℕ → Type 0
ClearedWord w r word bit words i m x u =
    (k : ℕ)
    → trit_of x u k
    ≡ (word_trit w words (2 * w * i) m k
    + 2 * (word_trit w words (2 * w * i) word bit * word_trit w words (2 * w * r) word bit) * word_trit w words (2 * w * r) m k)
    % 3

-- one of the first f words and a place in it in which the row from word a on is not 0; word f if it is zero in all of them
pub record NonzeroColumn (w f : ℕ) (words : List ℕ) (a word bit : ℕ) : Type 0 where
  pub within : word ≤ f
  pub small : bit < 64
  pub found : word < f → word_trit w words a word bit ≢ 0
  pub zero_row : f ≤ word → (m : ℕ) → m < f → (k : ℕ) → word_trit w words a m k ≡ 0

-- entry d of a table of three rows is the row from word a on, times 2 d p
pub record Multiples (w : ℕ) (words : List ℕ) (a p : ℕ) (table : List ℕ) : Type 0 where
  pub long : 6 * w ≤ length table
  pub is : (d m : ℕ) → d < 3 → m < w → (k : ℕ) → word_trit w table (2 * w * d) m k ≡ 2 * (d * p) * word_trit w words a m k % 3

-- entry d of a table of three rows is entry 1, d times
pub record Entries (w : ℕ) (table : List ℕ) : Type 0 where
  pub long : 6 * w ≤ length table
  pub is : (d m : ℕ) → d < 3 → m < w → (k : ℕ) → word_trit w table (2 * w * d) m k ≡ d * word_trit w table (2 * w * 1) m k % 3

-- x and u are word m of the row from word b on plus the entry of its digit in place `bit` of its word `word`
abbrev pub EntryWord : ℕ → List ℕ → List ℕ → ℕ → ℕ → ℕ → ℕ → ℕ → ℕ → Type 0
EntryWord w table words b word bit = SumWord w table (2 * w * word_trit w words b word bit) words b

-- a table whose entry 0 is the zero row
pub record Table (w : ℕ) (table : List ℕ) : Type 0 where
  pub long : 6 * w ≤ length table
  pub zero-entry : (m : ℕ) → m < w → (k : ℕ) → word_trit w table 0 m k ≡ 0

-- row r is not 0 in a column, place `bit` of word `word`
pub record Pivot (w t r word bit : ℕ) (words : List ℕ) : Type 0 where
  pub within : r < t
  pub inside : word < w
  pub small : bit < 64
  pub fit : FitRows w t words
  pub nonzero : word_trit w words (2 * w * r) word bit ≢ 0

-- and a table has its multiples
pub record Turn (w t r word bit : ℕ) (words table : List ℕ) : Type 0 where
  pub pivot : Pivot w t r word bit words
  pub multiples : Multiples w words (2 * w * r) (word_trit w words (2 * w * r) word bit) table

-- r is the first row that is tied to the rows before it in the columns of the first f words, and has become zero there; t if there is none
pub record FirstTied (w f t : ℕ) (words words' : List ℕ) (r : ℕ) : Type 0 where
  pub within : r ≤ t
  pub before : tied (64 * f) r (digit_at w words) ≡ false
  pub is_tied : r < t → tied (64 * f) (suc r) (digit_at w words) ≡ true
  pub fit : FitRows w t words'
  pub zero_row : r < t → (j : ℕ) → j < 64 * f → digit_at w words' r j % 3 ≡ 0
  -- rows that carry the combination that they are still do
  pub carried : (a : ℕ → ℕ → ℕ) → 64 * f + t ≤ 64 * w
      → Carried (64 * f) t a (digit_at w words) (carried_at w f words) → Carried (64 * f) t a (digit_at w words') (carried_at w f words')

-- row r is there and fit, and behind its first f words there is room for the digits of rows 0 to r
pub record CarryingRow (w f r : ℕ) (words : List ℕ) : Type 0 where
  pub row : FitRow w words (2 * w * r)
  pub room : 64 * f + r < 64 * w

-- t rows are there and fit, and each carries the combination that it is, itself alone
pub record Carrying (w f t : ℕ) (words : List ℕ) : Type 0 where
  pub fit : FitRows w t words
  pub room : 64 * f + t ≤ 64 * w
  pub alone : (i k : ℕ) → i < t → k < t → carried_at w f words i k ≡ one_at i k
