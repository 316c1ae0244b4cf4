-- The walk along a job list: the last release, and each row's last release with its spacing, show a fault against any
-- earlier job.
use Prim.Native.Nat.{ℕ, ◌+◌, ◌≤◌, ◌<◌}
use mathlib.Core.Path.{◌≡◌, refl, sym, ap}
use mathlib.Core.Logic.{◌⊎◌, inl, inr}
use mathlib.Core.List.{List}
use native.Mathlib.Omega.{arith}
use lib.ListN.{length, get_or, set, replicate, length-set, length-replicate}
use lib.Seq.{get_or-set_same, get_or-set_other}
use Rattle.counting.proofs.Cases.{by_le, by_eq}
use Rattle.tables.specs.Table.{Table, most_rows}
use Rattle.tables.specs.Jobs.{Jobs, jobs_of}
use Rattle.tables.specs.Refusal.{Clear}
use Rattle.tables.specs.Checks.{BreaksAlone, BreaksAgainst, job_rules}
use Rattle.tables.proofs.Rows.{holds_none}
use Rattle.joblist.specs.inside.Listed.{KeepsAlone}

-- job k breaks a rule, alone or with some job before it
abbrev pub AtFault : Table → Jobs → ℕ → Type 0
AtFault tb js k = BreaksAlone tb js k ⊎ ((l : ℕ) × (l < k) × BreaksAgainst tb js l k)

-- the walk stands before job k, and no job before it is at fault: `last` is the last release, 0 where there is none;
-- `earliest` at a row is the release of its last job and the row's spacing, 0 where there is none
pub record Walked (tb : Table) (js : Jobs) (k last : ℕ) (earliest : List ℕ) : Type 0 where
  pub places : length earliest ≡ most_rows
  pub fine : (l : ℕ) → l < k → AtFault tb js l → ⊥
  pub latest : (l : ℕ) → l < k → js.release l ≤ last
  pub of_job : (last ≡ 0) ⊎ ((l : ℕ) × (l < k) × (js.release l ≡ last))
  pub spaced : (l : ℕ) → l < k → js.release l + tb.T (js.row l) ≤ get_or earliest (js.row l) 0
  pub of_row : (i : ℕ) →
      (get_or earliest i 0 ≡ 0)
      ⊎ ((l : ℕ) × (l < k) × (js.row l ≡ i) × (js.release l + tb.T (js.row l) ≡ get_or earliest i 0))

-- an array of zeros reads 0 everywhere
zeros : (n i : ℕ) → get_or (replicate {A = ℕ} n 0) i 0 ≡ 0
zeros n i = (holds_none {A = ℕ} 0 (λ _. 0) n).past i (omega arith)

pub walked_none : (tb : Table) (js : Jobs) → Walked tb js 0 0 (replicate {A = ℕ} most_rows 0)
walked_none tb js =
    record {
      places = length-replicate {A = ℕ} most_rows 0;
      fine = λ l h. absurd (omega arith);
      latest = λ l h. absurd (omega arith);
      of_job = inl refl;
      spaced = λ l h. absurd (omega arith);
      of_row = λ i. inl (zeros most_rows i);
    }

module _ {tb : Table} {js : Jobs} {k last : ℕ} {earliest : List ℕ} (w : Walked tb js k last earliest) where
  -- a release below the last one is below that of an earlier job
  pub falls : js.release k < last → AtFault tb js k
  falls h =
      elim w.of_job [
        | inl e ↦ absurd (omega arith)
        | inr f ↦ inr (f.0, f.1, inl (omega arith))
      ]

  -- a release below the row's earliest is too close to an earlier job of the row
  pub too_close : js.release k < get_or earliest (js.row k) 0 → AtFault tb js k
  too_close h =
      elim (w.of_row (js.row k)) [
        | inl e ↦ absurd (omega arith)
        | inr f ↦ inr (f.0, f.1, inr (f.2, omega arith))
      ]

  -- job k keeps the rules by itself, and its release is no lower than either
  module _ (alone : KeepsAlone tb js k) (order : last ≤ js.release k)
      (apart : get_or earliest (js.row k) 0 ≤ js.release k) where
    keeps : AtFault tb js k → ⊥
    keeps (inl b) = b (alone.row, alone.soon, alone.run_low, alone.run_high)
    keeps (inr (l, h, inl d)) = omega (arith, w.latest l h)
    keeps (inr (l, h, inr d)) = omega (arith, d.1, w.spaced l h, ap (λ i. get_or earliest i 0) d.0)

    abbrev after : List ℕ
    after = set earliest (js.row k) (js.release k + tb.T (js.row k))

    -- one job further
    pub walked_on : js.row k < most_rows → Walked tb js (k + 1) (js.release k) after
    walked_on room =
        record {
          places = simp length-set w.places;
          fine = λ l h f. by_eq l k (λ e. keeps (rw e at f)) (λ e. w.fine l (omega arith) f);
          latest = λ l h. by_eq l k (λ e. rw e (omega arith)) (λ e. omega (arith, w.latest l (omega arith)));
          of_job = inr (k, omega arith, refl);
          spaced = λ l h. by_eq l k
              (λ e. rw (e, same) (omega arith))
              (λ e. by_eq (js.row l) (js.row k)
              (λ q. rw (q, same) (omega (arith, rw q at (w.spaced l (omega arith)))))
              (λ q. rw (other (js.row l) q) (w.spaced l (omega arith))));
          of_row = λ i. by_eq i (js.row k)
              (λ q. inr (k, omega arith, sym q, rw q (sym same)))
              (λ q. rw (other i q)
              (elim (w.of_row i) [
                | inl e ↦ inl e
                | inr f ↦ inr (f.0, omega arith, f.2, f.3)
              ]));
        }
      where
        same : get_or after (js.row k) 0 ≡ js.release k + tb.T (js.row k)
        same = get_or-set_same earliest (js.row k) _ 0 (omega (arith, w.places))

        other : (i : ℕ) → ¬ (i ≡ js.row k) → get_or after i 0 ≡ get_or earliest i 0
        other i q = get_or-set_other earliest (js.row k) i _ 0 q

module _ {tb : Table} (js : List ℕ) {k last : ℕ} {earliest : List ℕ} (w : Walked tb (jobs_of js) k last earliest) where
  -- a job at fault that the walk comes to is the first
  pub first_fault : k < (jobs_of js).N → AtFault tb (jobs_of js) k → (job_rules tb js).hits k
  first_fault h f = record {
    low = omega arith;
    holds = (h, f);
    least = λ u _ g. by_le k u (λ q. q) (λ q. absurd (w.fine u q g.1));
  }

  -- past the last job there is none
  pub no_fault : k ≡ (jobs_of js).N → Clear (job_rules tb js)
  no_fault e u f = w.fine u (omega (arith, f.holds.0)) f.holds.1
