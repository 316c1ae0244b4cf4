-- Tests that a table, a plan and a job list pass the checks of refusal.
use Prim.Native.Nat.{ℕ, ◌+◌, ◌*◌}
use mathlib.Core.Logic.{⊎_elim}
use mathlib.Core.List.{List}
use native.Mathlib.Omega.{arith}
use lib.Dec.{eqb}
use lib.ListN.{length}
use borrow.Author.Tests.{eq-eqb}
use Rattle.tables.specs.Table.{Table, Within, SoundRow, table_of, row_width, most_rows, most, region_end}
use Rattle.tables.specs.Plan.{plan_of, plan_width, cap}
use Rattle.tables.specs.Jobs.{jobs_of, job_width, most_jobs, last_release}
use Rattle.tables.specs.Refusal.{Clear}
use Rattle.tables.specs.Checks.{shape, range, plan_form, jobs_shape, job_rules}
use Rattle.tables.proofs.Clear.{clear_of_sound, clear_of_plan, shape_of_jobs}
use Rattle.starred.proofs.Tests.{Test, equal, at_most, less, both, so₂, so₄, so₅, when, each}

-- a number of 1 to 1,000,000
abbrev within_test : (x : ℕ) → Test (Within x)
within_test x = so₂ (at_most 1 x) (at_most x most) (λ low high. record { low = low; high = high })

abbrev row_test : (tb : Table) (i : ℕ) → Test (SoundRow tb i)
row_test tb i =
    so₅ (within_test (tb.C i)) (within_test (tb.D i)) (within_test (tb.T i)) (less (region_end tb i) (tb.C i))
    (when (eqb (tb.M i) 0) (eq-eqb (tb.M i) 0) (equal (tb.S i) 0))
    (λ C D T region none. record { C = C; D = D; T = T; region = region; none = none })

unfoldable pub table_test : (xs : List ℕ) → Test (Clear (shape xs) × Clear (range xs))
table_test xs =
    let n = (table_of xs).n in
    so₄ (equal (length xs) (row_width * n)) (at_most 1 n) (at_most n most_rows) (each n (row_test (table_of xs)))
    (λ whole some few rows. clear_of_sound xs whole (record { some = some; few = few; row = rows }))

unfoldable pub plan_test : (tb : Table) (ps : List ℕ) → Test (Clear (plan_form tb ps))
plan_test tb ps =
    let n = tb.n in
    let rank = (plan_of ps).rank in
    let len = (plan_of ps).len in
    so₄ (equal (length ps) (plan_width * n))
    (each n (λ i. both (at_most 1 (rank i)) (at_most (rank i) n)))
    (each n (λ i. each n (λ j. when (eqb (rank i) (rank j)) (eq-eqb (rank i) (rank j)) (equal i j))))
    (each n (λ i. both (at_most 1 (len i)) (at_most (len i) (cap tb i))))
    (λ whole ranks once lens. clear_of_plan tb ps whole
    (record {
      rank_low = λ i l. (ranks i l).0;
      rank_high = λ i l. (ranks i l).1;
      once = λ i j l g. once i l j g;
      len_low = λ i l. (lens i l).0;
      len_high = λ i l. (lens i l).1;
    }))

unfoldable pub jobs_test : (tb : Table) (js : List ℕ) → Test (Clear (jobs_shape js) × Clear (job_rules tb js))
jobs_test tb js =
    let J = jobs_of js in
    let row = J.row in
    let release = J.release in
    so₄ (equal (length js) (job_width * J.N)) (at_most J.N most_jobs)
    (each J.N (λ k. so₄ (less (row k) tb.n) (at_most (release k) last_release) (at_most 1 (J.run k))
    (at_most (J.run k) (tb.C (row k))) (λ row soon low high. (row, soon, low, high))))
    (each J.N (λ k. each k (λ l. both (at_most (release l) (release k))
    (when (eqb (row l) (row k)) (eq-eqb (row l) (row k)) (at_most (release l + tb.T (row l)) (release k))))))
    (λ whole few lawful apart. (
      shape_of_jobs js whole few,
      λ place h.
          let k = h.holds.0 in
          ⊎_elim
          (λ alone. alone (lawful place k))
          (λ pair.
          let t = apart place k pair.0 pair.1 in
          ⊎_elim (λ falls. omega (arith, t.0)) (λ close. omega (arith, close.1, t.1 close.0)) pair.2)
          h.holds.1,
    ))
