-- Planned tables: document 01, "Tables", the item "Planned table".
use Rattle.std.specs.Prelude.{ℕ, ◌+◌, ◌*◌, List, get_or}
use Rattle.tables.specs.Plan.{Plan}

-- "three numbers a row": its rank, its length and its response
abbrev pub planned_width : ℕ
planned_width = 3

-- the plan that stands in a planned table, in the order of its rows, and the response that it has for row i; 0 for
-- a number past the end
abbrev pub planned_of : List ℕ → Plan
planned_of out = record { rank = λ i. get_or out (planned_width * i) 0; len = λ i. get_or out (planned_width * i + 1) 0 }

abbrev pub response_in : List ℕ → ℕ → ℕ
response_in out i = get_or out (planned_width * i + 2) 0
