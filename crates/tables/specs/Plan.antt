-- Plans: document 01, "Tables", the item "Plan for times"; what a row's two regions mean for it: request (ii) of
-- document 02.
use Rattle.std.specs.Prelude.{ℕ, ◌+◌, ◌-◌, ◌*◌, max, ◌≤◌, ◌<◌, ◌≡◌, List, get_or}
use Rattle.tables.specs.Table.{Table, region_end}

-- rank i the rank (1 is highest) and len i the length of the final region of row i
pub record Plan : Type 0 where
  pub rank : ℕ → ℕ
  pub len : ℕ → ℕ

-- "two numbers a row": its rank and its length
abbrev pub plan_width : ℕ
plan_width = 2

-- the plan that stands in a slice, in the order of the rows; 0 for a number past the end
abbrev pub plan_of : List ℕ → Plan
plan_of ps = record { rank = λ i. get_or ps (plan_width * i) 0; len = λ i. get_or ps (plan_width * i + 1) 0 }

-- (ii), "C less the region's end": the most that the length of a row's final region may be. The law `cap_whole` says
-- that nothing is cut off in a sound row.
unfoldable pub cap : Table → ℕ → ℕ
cap tb i = tb.C i - region_end tb i

-- (ii), "the longer of a row's two regions": what row j blocks with where the length of its final region is q
unfoldable pub longer : Table → ℕ → ℕ → ℕ
longer tb j q = max (tb.M j) q

-- what row j of a plan blocks with
abbrev pub blocks : Table → Plan → ℕ → ℕ
blocks tb p j = longer tb j (p.len j)

-- "Ranks are 1 to n": in a well-formed plan every row has a rank from 1 to n that no other row has, and a length
-- from 1 to the most that it may be
pub record WellFormed (tb : Table) (p : Plan) : Type 0 where
  pub rank_low : (i : ℕ) → i < tb.n → 1 ≤ p.rank i
  pub rank_high : (i : ℕ) → i < tb.n → p.rank i ≤ tb.n
  pub once : (i j : ℕ) → i < tb.n → j < tb.n → p.rank i ≡ p.rank j → i ≡ j
  pub len_low : (i : ℕ) → i < tb.n → 1 ≤ p.len i
  pub len_high : (i : ℕ) → i < tb.n → p.len i ≤ cap tb i
