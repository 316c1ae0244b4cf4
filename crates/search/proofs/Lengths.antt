-- Laws of the search over a row's lengths: what is left is narrowed from both ends until the shortest is found.
use Prim.Native.Nat.{ℕ, ◌+◌, ◌≤◌, ◌<◌}
use mathlib.Core.Path.{◌≡◌, refl}
use mathlib.Core.Bool.{Bool}
use native.Mathlib.Omega.{arith}
use Rattle.std.specs.Prelude.{Option, Some, None}
use Rattle.tables.specs.Table.{Table}
use Rattle.tables.specs.Plan.{cap}
use Rattle.test.specs.Test.{Response}
use Rattle.responses.proofs.Jobs.{Working}
use Rattle.choice.specs.Choice.{Fits}
use Rattle.choice.proofs.Level.{fits_longer}

-- the length passes with the response that the trial gives, or it does not pass
abbrev pub Tested : Table → (ℕ → Bool) → ℕ → ℕ → ℕ → Option ℕ → Type 0
Tested tb P b i q None = ¬ Fits tb P b i q
Tested tb P b i q (Some R) = Fits tb P b i q × Response tb P b i q R

-- high passes with its response, or lies past the top
abbrev pub Found : Table → (ℕ → Bool) → ℕ → ℕ → ℕ → ℕ → Option ℕ → Type 0
Found tb P b i top high None = high ≡ top + 1
Found tb P b i top high (Some R) = (high ≤ top) × Tested tb P b i high (Some R)

-- no length below low fits, and high is the shortest that was found to, if any was
pub record Narrowed (tb : Table) (P : ℕ → Bool) (b i top low high : ℕ) (passed : Option ℕ) : Type 0 where
  pub some : 1 ≤ low
  pub order : low ≤ high
  pub within : high ≤ top + 1
  pub shorter : (m : ℕ) → 1 ≤ m → m < low → ¬ Fits tb P b i m
  pub found : Found tb P b i top high passed

pub narrowed_first : (tb : Table) (P : ℕ → Bool) (b i top : ℕ) → Narrowed tb P b i top 1 (top + 1) None
narrowed_first tb P b i top =
    record {
      some = omega arith;
      order = omega arith;
      within = omega arith;
      shorter = λ m x y. absurd (omega arith);
      found = refl;
    }

-- the length tried fits, and is the new high; or it does not, and the new low is past it
module _ {tb : Table} {P : ℕ → Bool} {b i top low high len L : ℕ} {passed : Option ℕ}
    (w : Narrowed tb P b i top low high passed) (from : low ≤ len) (to : len < high) (most : len ≤ cap tb i)
    (k : Working tb P b i len L) where
  pub narrowed_fits : {R : ℕ} → Tested tb P b i len (Some R) → Narrowed tb P b i top low len (Some R)
  narrowed_fits f =
      record {
        some = w.some;
        order = from;
        within = omega (arith, w.within);
        shorter = w.shorter;
        found = (omega (arith, w.within), f);
      }

  pub narrowed_misses : Tested tb P b i len None → Narrowed tb P b i top (len + 1) high passed
  narrowed_misses f =
      record {
        some = omega arith;
        order = omega arith;
        within = w.within;
        shorter = λ m x y fit. f (fits_longer tb k.positive i k.row P b m len x (omega arith) most fit);
        found = w.found;
      }
