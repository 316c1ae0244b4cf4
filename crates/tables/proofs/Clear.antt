-- What is known where the checks are clear: a sound table, a well-formed plan, a well-formed job list; and back.
use Prim.Native.Nat.{ℕ, zero, suc, pred, ◌+◌, ◌*◌, ◌≤◌, ◌<◌}
use mathlib.Core.Path.{◌≡◌, refl, sym, ap, ◌∙◌}
use mathlib.Core.Bool.{Bool}
use mathlib.Core.Logic.{inl, inr, ⊎_elim}
use mathlib.Core.List.{List}
use native.Mathlib.Omega.{arith}
use lib.Dec.{eqb}
use lib.ListN.{length}
use borrow.Author.Tests.{eq-eqb, eqb-true}
use Rattle.counting.specs.Least.{Least}
use Rattle.counting.proofs.Cases.{by_le, by_eq, not_both}
use Rattle.counting.proofs.Search.{by_any}
use Rattle.tables.specs.Table.{Table, Within, SoundRow, Sound, row_width, most_rows, most, region_end}
use Rattle.tables.specs.Table.{table_of}
use Rattle.tables.specs.Plan.{Plan, WellFormed, plan_width, cap, plan_of}
use Rattle.tables.specs.Jobs.{Jobs, WellFormedJobs, job_width, most_jobs, last_release, jobs_of}
use Rattle.tables.specs.Refusal.{Clear}
use Rattle.tables.specs.Checks.{Rows, StartAtFault, RegionAtFault, NumberAtFault, RowAtFault, rows_shape, shape}
use Rattle.tables.specs.Checks.{range, plan_form, BreaksAlone, BreaksAgainst, jobs_shape, job_rules}
use Rattle.tables.proofs.Numbers.{by_number}
use Rattle.tables.proofs.Checked.{first_here}

-- an order and an equation that are not refuted
not_not_le : (a b : ℕ) → ((a ≤ b → ⊥) → ⊥) → a ≤ b
not_not_le a b n = by_le a b (λ h. h) (λ h. absurd (n (λ g. omega arith)))

not_not_eq : (a b : ℕ) → ((a ≡ b → ⊥) → ⊥) → a ≡ b
not_not_eq a b n = by_eq a b (λ h. h) (λ h. absurd (n h))

-- where there is no least of a kind, there is none
pub no_least : {E : ℕ → Type 0} → ((t : ℕ) → Least E 0 t → ⊥) → (t : ℕ) → E t → ⊥
no_least {E} none t = below (suc t) t (omega arith)
  where
    below : (k t : ℕ) → t < k → E t → ⊥
    below zero t h e = absurd (omega arith)
    below (suc k) t h e = none t (first_here t e (λ u l. below k u (omega arith)))

-- the shape of a table, whatever the width of its rows
module _ (width : ℕ) (xs : List ℕ) where
  pub rows_of_shape : Clear (rows_shape width xs) → Rows width xs
  rows_of_shape clear =
      let whole : ℕ → Bool = λ n. eqb (length xs) (width * suc n) in
      by_any whole most_rows
      (λ none.
      let no : Rows width xs → ⊥ =
      λ r.
      let e : suc (pred r.n) ≡ r.n = omega (arith, r.some) in
      not_both (whole (pred r.n)) (none (pred r.n) (omega (arith, r.some, r.few)))
      (eq-eqb (length xs) (width * suc (pred r.n)) (r.whole ∙ ap (λ n. width * n) (sym e))) in
      absurd (clear 0 (refl, no)))
      (λ n l e. record {
        n = suc n;
        whole = eqb-true (length xs) (width * suc n) e;
        some = omega arith;
        few = omega arith;
      })

  pub shape_of_rows : Rows width xs → Clear (rows_shape width xs)
  shape_of_rows r place h = h.1 r

-- a number within its limits, where that is not refuted
not_not_within : (x : ℕ) → ((Within x → ⊥) → ⊥) → Within x
not_not_within x n =
    record {
      low = not_not_le 1 x (λ g. n (λ w. g w.low));
      high = not_not_le x most (λ g. n (λ w. g w.high));
    }

-- a row of which no number is at fault is sound
module _ (tb : Table) (i : ℕ) (none : (at : ℕ) → NumberAtFault tb i at → ⊥) where
  start : StartAtFault (tb.S i) (tb.M i) → ⊥
  start f = none (row_width * i + 3) (inr (inr (inr (inl (refl, f)))))

  region : RegionAtFault (tb.C i) (tb.S i) (tb.M i) → ⊥
  region f = none (row_width * i + 4) (inr (inr (inr (inr (refl, f)))))

  C : Within (tb.C i)
  C = not_not_within (tb.C i) (λ w. none (row_width * i) (inl (refl, w)))

  no_start : tb.M i ≡ 0 → tb.S i ≡ 0
  no_start e = by_le 1 (tb.S i) (λ l. absurd (start (inr (l, e)))) (λ l. omega arith)

  ends : region_end tb i < tb.C i
  ends =
      by_le (tb.C i) (region_end tb i)
      (λ l. by_eq (tb.M i) 0
      (λ e. omega (arith, no_start e, C))
      (λ e. absurd (region (omega arith, l))))
      (λ l. l)

  row_sound : SoundRow tb i
  row_sound =
      record {
        C = C;
        D = not_not_within (tb.D i) (λ w. none (row_width * i + 1) (inr (inl (refl, w))));
        T = not_not_within (tb.T i) (λ w. none (row_width * i + 2) (inr (inr (inl (refl, w)))));
        region = ends;
        none = no_start;
      }

-- a table that the checks 1 and 3 do not refuse is sound
pub sound_of_clear : (xs : List ℕ) → Clear (shape xs) → Clear (range xs) → Sound (table_of xs)
sound_of_clear xs s r =
    let rows = rows_of_shape row_width xs s in
    record {
      some = omega arith;
      few = omega arith;
      row = λ i h. row_sound (table_of xs) i (λ at f. no_least r at (i, h, f));
    }

pub clear_of_sound : (xs : List ℕ) → length xs ≡ row_width * (table_of xs).n → Sound (table_of xs) →
    Clear (shape xs) × Clear (range xs)
clear_of_sound xs whole s = (
  shape_of_rows row_width xs (record { n = (table_of xs).n; whole = whole; some = s.some; few = s.few }),
  λ place l.
      let i = l.holds.0 in
      let row = s.row i l.holds.1 in
      by_number (table_of xs) i (λ _ f. f row.C) (λ _ f. f row.D) (λ _ f. f row.T)
      (λ _. ⊎_elim (λ f. omega (arith, row.region, row.C)) (λ f. omega (arith, f, row.none f.1)))
      (λ _ f. omega (arith, f, row.region))
      l.holds.2,
)

-- a plan that the check 6 does not refuse is well formed
pub plan_of_clear : (tb : Table) (ps : List ℕ) → Clear (plan_form tb ps) →
    (length ps ≡ plan_width * tb.n) × WellFormed tb (plan_of ps)
plan_of_clear tb ps clear = (
  whole,
  record {
    rank_low = λ i h. not_not_le 1 (p.rank i) (λ g. none i h (inl (inl (λ r. g r.0))));
    rank_high = λ i h. not_not_le (p.rank i) tb.n (λ g. none i h (inl (inl (λ r. g r.1))));
    once =
        λ i j a b e. by_le i j
        (λ l. by_eq i j (λ q. q) (λ q. absurd (none j b (inl (inr (i, omega arith, e))))))
        (λ l. absurd (none i a (inl (inr (j, l, sym e)))));
    len_low = λ i h. not_not_le 1 (p.len i) (λ g. none i h (inr (λ r. g r.0)));
    len_high = λ i h. not_not_le (p.len i) (cap tb i) (λ g. none i h (inr (λ r. g r.1)));
  },
)
  where
    p : Plan
    p = plan_of ps

    whole : length ps ≡ plan_width * tb.n
    whole = not_not_eq (length ps) (plan_width * tb.n) (λ h. clear most_rows (inl (refl, h)))

    none : (i : ℕ) → i < tb.n → RowAtFault tb p i → ⊥
    none i h f = no_least (λ t l. clear t (inr (whole, l))) i (h, f)

pub clear_of_plan : (tb : Table) (ps : List ℕ) → length ps ≡ plan_width * tb.n → WellFormed tb (plan_of ps) →
    Clear (plan_form tb ps)
clear_of_plan tb ps whole w place =
    ⊎_elim
    (λ a. a.1 whole)
    (λ b.
    let i = place in
    let l = b.1.holds.0 in
    ⊎_elim
    (⊎_elim
    (λ r. r (w.rank_low i l, w.rank_high i l))
    (λ r. let g = r.1 in omega (arith, w.once r.0 i (omega arith) l r.2)))
    (λ r. r (w.len_low i l, w.len_high i l))
    b.1.holds.1)

-- a job list that the checks 7 and 8 do not refuse is well formed
pub jobs_of_clear : (tb : Table) (js : List ℕ) → Clear (jobs_shape js) → Clear (job_rules tb js) →
    WellFormedJobs tb (jobs_of js)
jobs_of_clear tb js s r =
    record {
      few = not_not_le J.N most_jobs (λ h. s 0 (refl, λ r. h (omega (arith, r.1, r.2))));
      lawful =
          record {
            row = λ k h. not_not_le (suc (J.row k)) tb.n (λ g. alone k h (λ a. g a.0));
            run_low = λ k h. not_not_le 1 (J.run k) (λ g. alone k h (λ a. g a.2));
            run_high = λ k h. not_not_le (J.run k) (tb.C (J.row k)) (λ g. alone k h (λ a. g a.3));
            apart = λ k l b h e. by_le (J.release k + tb.T (J.row k)) (J.release l) inl
                (λ g. absurd (against k l b h (inr (e, g))));
          };
      soon = λ k h. not_not_le (J.release k) last_release (λ g. alone k h (λ a. g a.1));
      order = λ k l b h. by_le (J.release k) (J.release l) (λ g. g) (λ g. absurd (against k l b h (inl g)));
    }
  where
    J : Jobs
    J = jobs_of js

    alone : (k : ℕ) → k < J.N → BreaksAlone tb J k → ⊥
    alone k h b = no_least r k (h, inl b)

    against : (k l : ℕ) → k < l → l < J.N → BreaksAgainst tb J k l → ⊥
    against k l b h a = no_least r l (h, inr (k, b, a))

pub shape_of_jobs : (js : List ℕ) → length js ≡ job_width * (jobs_of js).N → (jobs_of js).N ≤ most_jobs →
    Clear (jobs_shape js)
shape_of_jobs js whole few place h = h.1 ((jobs_of js).N, whole, few)
