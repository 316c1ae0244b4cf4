-- A number's decimal text in ASCII, as it stands on a sheet and on a printed plan.
use Rattle.std.specs.Prelude.{ℕ, zero, suc, ◌+◌, ◌/◌, ◌%◌, List, [], ◌∷◌, ◌++◌}

-- the byte of the digit 0, after which those of 1 to 9 follow
abbrev pub nought : ℕ
nought = 48

-- the last k digits of x, the highest first and none in front of the highest that is not 0
unfoldable pub digits_in : ℕ → ℕ → List ℕ
digits_in zero x = []
digits_in (suc k) zero = []
digits_in (suc k) (suc x) = digits_in k (suc x / 10) ++ (nought + suc x % 10) ∷ []

-- all digits of x, of which it has no more than x; none of 0
unfoldable pub digits : ℕ → List ℕ
digits x = digits_in x x

-- the decimal text, "no leading zeros": only that of 0 itself begins with 0
unfoldable pub decimal : ℕ → List ℕ
decimal zero = nought ∷ []
decimal (suc x) = digits (suc x)
