-- What the program prints: all of its output, byte by byte, for any input.
use Rattle.std.specs.Prelude.{ℕ, zero, suc, ◌+◌, ◌/◌, ◌%◌, List, [], ◌∷◌, ◌++◌, cond, ltb, eqb}
use Rattle.linear_model.specs.Tables.{tabulate}
use Rattle.linear_model.specs.Trits.{trit}
use Rattle.linear_model.specs.Products.{plane_bytes}
use Rattle.pair_model.specs.Base.{base}
use Rattle.pair_model.specs.Frame.{code_bytes}
use Rattle.pair_model.specs.WholeRun.{run_number, run_code}

-- a digit in ASCII
abbrev pub ascii : ℕ → ℕ
ascii d = 48 + d

-- the last k decimal digits of a number, or all of them where they are fewer
unfoldable pub last_places : ℕ → ℕ → List ℕ
last_places zero number = []
last_places (suc k) number = cond (ltb number 10) [] (last_places k (number / 10)) ++ (ascii (number % 10) ∷ [])

-- all decimal digits of a number: it has no more than the number plus one
abbrev pub decimal : ℕ → List ℕ
decimal number = last_places (suc number) number

-- `result` and a space
abbrev pub result_word : List ℕ
result_word = 114 ∷ 101 ∷ 115 ∷ 117 ∷ 108 ∷ 116 ∷ 32 ∷ []

-- a line feed
abbrev pub line_feed : List ℕ
line_feed = 10 ∷ []

-- the line of a number
unfoldable pub result_line : ℕ → List ℕ
result_line number = result_word ++ decimal number ++ line_feed

-- digit i of a code
abbrev pub digit : List ℕ → ℕ → ℕ
digit code i = ascii (trit (plane_bytes base.digits) code i)

-- the line of a code: its digits, digit 0 first
unfoldable pub code_line : List ℕ → List ℕ
code_line code = tabulate base.digits (digit code) ++ line_feed

-- all that is printed for an input: the line of its number and, for 0, the line of its code
unfoldable pub printed : List ℕ → List ℕ
printed input =
    let number = run_number input (code_bytes base) in
    result_line number ++ cond (eqb number 0) (code_line (run_code base input)) []
