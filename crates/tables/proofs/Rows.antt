-- Laws of the rows in an array: stores below a row, and the array that holds a slice's table.
use Prim.Native.Nat.{ℕ, zero, suc, ◌+◌, ◌-◌, ◌*◌, ◌<◌, ◌≤◌}
use mathlib.Core.Path.{◌≡◌, refl, sym, ap, ◌∙◌}
use mathlib.Core.List.{List}
use native.Mathlib.Omega.{arith}
use lib.ListN.{length, get_or, set, take, drop, replicate, length-replicate, get_or-replicate, get_or-eq_default}
use lib.Seq.{get_or-set_same, get_or-set_other, length-take-le, get_or-take, get_or-drop, drop-drop}
use Rattle.std.specs.Simd.{first_chunks}
use Rattle.counting.proofs.Cases.{by_le, by_eq}
use Rattle.tables.specs.Table.{Sound, row_width, table_of}
use Rattle.tables.specs.inside.Rows.{no, row_at, table_in}
use Rattle.tables.specs.declared.task.Row.{Row}

-- the i-th of the fives that a slice is cut into has the i-th row
module _ (xs ds : List ℕ) where
  five_at : (k i : ℕ) → i < k → get_or (first_chunks row_width k xs) i ds ≡ take row_width (drop (row_width * i) xs)
  five_at k i = at k i xs
    where
      at : (k i : ℕ) (ys : List ℕ) → i < k →
          get_or (first_chunks row_width k ys) i ds ≡ take row_width (drop (row_width * i) ys)
      at zero i ys h = absurd (omega arith)
      at (suc k) zero ys h = refl
      at (suc k) (suc i) ys h =
          let e : row_width * suc i ≡ row_width + row_width * i = omega arith in
          rw e (at k i (drop row_width ys) (omega arith) ∙ ap (take row_width) (drop-drop (row_width * i) row_width ys))

  pub five_row : {row : Row} (k i : ℕ) (fives : List (List ℕ)) → fives ≡ first_chunks row_width k xs → i < k →
      row ≡ row_at (get_or fives i ds) 0 → row ≡ row_at xs i
  five_row k i fives e h r = r ∙ ap (λ l. row_at (get_or l i ds) 0) e ∙ same
    where
      at : (j : ℕ) → j < row_width →
          get_or (get_or (first_chunks row_width k xs) i ds) j 0 ≡ get_or xs (row_width * i + j) 0
      at j l =
          rw (five_at k i h)
          (get_or-take row_width (drop (row_width * i) xs) j 0 l ∙ get_or-drop (row_width * i) xs j 0)

      same : row_at (get_or (first_chunks row_width k xs) i ds) 0 ≡ row_at xs i
      same =
          let z : row_width * i + 0 ≡ row_width * i = omega arith in
          λ x. record {
            c = (at 0 (omega arith) ∙ ap (λ j. get_or xs j 0) z) x;
            d = at 1 (omega arith) x;
            t = at 2 (omega arith) x;
            start = at 3 (omega arith) x;
            region = at 4 (omega arith) x;
          }

-- A list holds f below i, and z from i on.
module _ {A : Type 0} (z : A) (f : ℕ → A) where
  pub record Holds (l : List A) (i : ℕ) : Type 0 where
    pub below : (k : ℕ) → k < i → get_or l k z ≡ f k
    pub past : (k : ℕ) → i ≤ k → get_or l k z ≡ z

  pub holds_more : {l : List A} {i : ℕ} → Holds l i → i < length l → Holds (set l i (f i)) (i + 1)
  holds_more {l} {i} h lt =
      record {
        below =
            λ k b. by_eq k i
            (λ e. rw e (get_or-set_same l i (f i) z lt))
            (λ e. get_or-set_other l i k (f i) z e ∙ h.below k (omega arith));
        past = λ k b. get_or-set_other l i k (f i) z (λ e. omega arith) ∙ h.past k (omega arith);
      }

  pub holds_none : (m : ℕ) → Holds (replicate m z) 0
  holds_none m =
      record {
        below = λ k b. absurd (omega arith);
        past =
            λ k _. by_le m k
            (λ h. get_or-eq_default (replicate m z) z (rw length-replicate h))
            (λ h. get_or-replicate m k z z h);
      }

-- what an array of n rows holds of a slice is the slice's table
pub table_rows : (rows : List Row) (xs : List ℕ) (n : ℕ) → length xs ≡ row_width * n → Holds no (row_at xs) rows n →
    table_in rows n ≡ table_of xs
table_rows rows xs n whole h =
    let rows_same : n ≡ (table_of xs).n = omega arith in
    λ x.
    record {
      n = rows_same x;
      C = λ i. at (λ r. r.c) i (past i (row_width * i) (λ g. omega arith)) x;
      D = λ i. at (λ r. r.d) i (past i (row_width * i + 1) (λ g. omega arith)) x;
      T = λ i. at (λ r. r.t) i (past i (row_width * i + 2) (λ g. omega arith)) x;
      S = λ i. at (λ r. r.start) i (past i (row_width * i + 3) (λ g. omega arith)) x;
      M = λ i. at (λ r. r.region) i (past i (row_width * i + 4) (λ g. omega arith)) x;
    }
  where
    past : (i k : ℕ) → (n ≤ i → length xs ≤ k) → n ≤ i → 0 ≡ get_or xs k 0
    past i k le g = sym (get_or-eq_default xs 0 (le g))

    at : (f : Row → ℕ) (i : ℕ) → (n ≤ i → f no ≡ f (row_at xs i)) → f (get_or rows i no) ≡ f (row_at xs i)
    at f i past = by_le n i (λ g. ap f (h.past i g) ∙ past g) (λ g. ap f (h.below i g))

-- the first n rows of such an array, as a slice, have that table too
module _ (rows : List Row) (xs : List ℕ) (n : ℕ) (sound : Sound (table_in rows n)) (whole : length xs ≡ row_width * n)
    (same : table_in rows n ≡ table_of xs)
  where
    room : n ≤ length rows
    room =
        by_le n (length rows)
        (λ h. h)
        (λ h.
        let none = ap (λ r. r.c) (let past : length rows ≤ n - 1 = omega arith in get_or-eq_default rows no past) in
        absurd (omega (arith, (sound.row (n - 1) (omega arith)).C.low)))

    row_same : (k : ℕ) → get_or rows k no ≡ row_at xs k
    row_same k x =
        record {
          c = (same x).C k;
          d = (same x).D k;
          t = (same x).T k;
          start = (same x).S k;
          region = (same x).M k;
        }

    pub table_front : table_in (take n rows) (length (take n rows)) ≡ table_in rows n
    table_front =
        let long = length-take-le n rows room in
        ap (table_in (take n rows)) long
        ∙ table_rows (take n rows) xs n whole
        (record {
          below = λ k b. get_or-take n rows k no b ∙ row_same k;
          past = λ k g. get_or-eq_default (take n rows) no (omega arith);
        })
        ∙ sym same
