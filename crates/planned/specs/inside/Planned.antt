-- What is written of a plan and its times.
use Rattle.std.specs.Prelude.{ℕ, zero, suc, ◌+◌, ◌*◌, List, [], ◌∷◌, ◌++◌, get_or}
use Rattle.tables.specs.Plan.{plan_width}

-- one planned row: "rank, length, response"
abbrev pub row : ℕ → ℕ → ℕ → List ℕ
row rank len response = rank ∷ len ∷ response ∷ []

-- the first n planned rows of a plan and its times, "in table order"
unfoldable pub planned : List ℕ → List ℕ → ℕ → List ℕ
planned plan times zero = []
planned plan times (suc i) =
    planned plan times i ++ row (get_or plan (plan_width * i) 0) (get_or plan (plan_width * i + 1) 0) (get_or times i 0)
