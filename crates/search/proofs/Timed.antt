-- Laws of a placed row's time: the response at its rank, which the ranks filled later leave as it is, and which is that
-- of the chosen plan.
use Prim.Native.Nat.{ℕ, ◌<◌}
use mathlib.Core.Path.{◌≡◌, refl, sym, ap}
use mathlib.Core.Bool.{Bool, ◌&&◌, not}
use native.Mathlib.Omega.{arith}
use lib.Dec.{eqb}
use Rattle.counting.specs.Sum.{without}
use Rattle.tables.specs.Table.{Table}
use Rattle.tables.specs.Plan.{Plan}
use Rattle.test.specs.Test.{Response, ResponseOf, blocking}
use Rattle.responses.proofs.Same.{response_same}
use Rattle.choice.specs.Choice.{unplaced, Chosen}
use Rattle.choice.proofs.Level.{Alike}
use Rattle.choice.proofs.Filled.{chosen_low}
use Rattle.choice.proofs.Complete.{above_others}

-- row j's response at its rank: above it the rows that were unplaced then, below it the placed ones
abbrev pub Timed : Table → Plan → ℕ → ℕ → Type 0
Timed tb p j R = Response tb (without (unplaced p (p.rank j)) j) (blocking tb p (p.rank j)) j (p.len j) R

-- levels that are alike give a row the same response
pub response_alike : {tb : Table} {U U' : ℕ → Bool} {b b' z q R : ℕ} → Alike tb U U' b b' →
    Response tb (without U z) b z q R → Response tb (without U' z) b' z q R
response_alike {tb} {U} {U'} {b} {b'} {z} same r =
    response_same (λ j g. ap (λ x. x && not (eqb j z)) (same.rows j g)) same.blocking r

-- row j stands in p at rank s with the length q, and the level U is that of p
pub timed_at : {tb : Table} {U : ℕ → Bool} {b : ℕ} (p : Plan) {j s q R : ℕ} →
    Alike tb U (unplaced p s) b (blocking tb p s) → p.rank j ≡ s → p.len j ≡ q → Response tb (without U j) b j q R →
    Timed tb p j R
timed_at p same e g r = rw (e, g) (response_alike same r)

-- in a chosen plan the other rows not placed are the rows above
pub timed_response : (tb : Table) (p : Plan) {j R : ℕ} → Chosen tb p → j < tb.n → Timed tb p j R → ResponseOf tb p j R
timed_response tb p {j} f l r =
    response_same
    (λ k g. sym (above_others p j k (λ e. f.once k j g l (omega (arith, chosen_low tb p f k g)) e))) refl r
