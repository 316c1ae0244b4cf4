-- How the plan is chosen: document 01, the section of that name; by what, where a row has two regions: request (ii) of
-- document 02.
use Rattle.std.specs.Prelude.{ℕ, ◌≤◌, ◌<◌, ◌≡◌, Bool, true, leb}
use Rattle.counting.specs.Sum.{without, count}
use Rattle.counting.specs.Least.{Least}
use Rattle.tables.specs.Table.{Table}
use Rattle.tables.specs.Plan.{Plan, cap, longer}
use Rattle.test.specs.Test.{Response, blocking}

-- "each row not yet placed": while rank r is being filled, the rows that have no rank greater than r in the plan;
-- the ranks greater than r are filled as the plan says
abbrev pub unplaced : Plan → ℕ → ℕ → Bool
unplaced p r j = leb (p.rank j) r

-- the length q passes for row z, with the rows at which P passes above it and blocking b: z has a response with it,
-- and that is at most its deadline
pub record Fits (tb : Table) (P : ℕ → Bool) (b z q : ℕ) : Type 0 where
  pub R : ℕ
  pub response : Response tb P b z q R
  pub within : R ≤ tb.D z

-- The rows of U are not placed, and the placed rows block with b.
module _ (tb : Table) (U : ℕ → Bool) (b : ℕ) where
  -- "shortest passing length" of row z: the least length, from 1 to the most that it may be, that passes for z with
  -- the other rows of U above it and the placed ones below
  abbrev pub Shortest : ℕ → ℕ → Type 0
  Shortest z q = Least (λ l. (l ≤ cap tb z) × Fits tb (without U z) b z l) 1 q

  -- of the rows that are tried
  module _ (tried : ℕ → Bool) where
    -- (ii), "the least such longer region": row y takes the rank, with the length q; q is its shortest passing length,
    -- no row that is tried blocks with less at its own, and none that stands earlier in the table with as much
    pub record Takes (y q : ℕ) : Type 0 where
      pub row : y < tb.n
      pub try : tried y ≡ true
      pub shortest : Shortest y q
      pub least : (z l : ℕ) → z < tb.n → tried z ≡ true → Shortest z l → longer tb y q ≤ longer tb z l
      pub earliest : (z l : ℕ) → z < y → tried z ≡ true → Shortest z l → longer tb z l ≡ longer tb y q → ⊥

    -- "If no row has": no length from 1 to the most that it may be passes for any row that is tried
    abbrev pub NoneFits : Type 0
    NoneFits = (z q : ℕ) → z < tb.n → tried z ≡ true → 1 ≤ q → q ≤ cap tb z → Fits tb (without U z) b z q → ⊥

-- the same of a plan while rank r is being filled: all unplaced rows are tried, and the rows of the ranks greater
-- than r stand below
abbrev pub TakesRank : Table → Plan → ℕ → ℕ → ℕ → Type 0
TakesRank tb p r = Takes tb (unplaced p r) (blocking tb p r) (unplaced p r)

abbrev pub NoneFitsRank : Table → Plan → ℕ → Type 0
NoneFitsRank tb p r = NoneFits tb (unplaced p r) (blocking tb p r) (unplaced p r)

-- "filled from n down", until rank r is the next: no row has a rank above n, no two rows share a rank greater than
-- r, r rows are not yet placed, and every placed row takes its rank with its length
pub record Filled (tb : Table) (p : Plan) (r : ℕ) : Type 0 where
  pub high : (i : ℕ) → i < tb.n → p.rank i ≤ tb.n
  pub once : (i j : ℕ) → i < tb.n → j < tb.n → r < p.rank i → p.rank i ≡ p.rank j → i ≡ j
  pub left : count (unplaced p r) tb.n ≡ r
  pub takes : (y : ℕ) → y < tb.n → r < p.rank y → TakesRank tb p (p.rank y) y (p.len y)

-- "down to 1": no row is left to place; the plan chosen
abbrev pub Chosen : Table → Plan → Type 0
Chosen tb p = Filled tb p 0

-- "refusal 5": at some rank from 1 to n, with the greater ones filled, no length passes for any unplaced row
pub record Stopped (tb : Table) : Type 0 where
  pub plan : Plan
  pub rank : ℕ
  pub low : 1 ≤ rank
  pub high : rank ≤ tb.n
  pub filled : Filled tb plan rank
  pub none : NoneFitsRank tb plan rank
