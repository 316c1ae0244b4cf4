-- The least number of a kind, from a given number on: what document 01 means by "the least t", "the least one" and
-- "the first such number".
use Rattle.std.specs.Prelude.{ℕ, ◌≤◌}

-- t is at least lo and has E, and no smaller number of at least lo has it; numbers of any size are compared, and
-- where none has E there is no least
pub record Least (E : ℕ → Type 0) (lo t : ℕ) : Type 0 where
  pub low : lo ≤ t
  pub holds : E t
  pub least : (u : ℕ) → lo ≤ u → E u → t ≤ u
