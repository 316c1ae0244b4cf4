-- Laws of a column whose numbers are stored one by one into an array of zeros.
use Rattle.std.proofs.Common.{ℕ, ◌+◌, ◌<◌, List, length, set, replicate, arith, below_none, refl, ◌∙◌}
use Rattle.std.proofs.Common.{length-set, get_or-set_same, get_or-set_other}
use Rattle.counting.proofs.Cases.{by_le, by_eq}
use Rattle.tables.specs.Table.{most_rows}
use Rattle.std.proofs.lemmas.List.{get_or-replicate, get_or_past}
use Rattle.responses.specs.inside.Asked.{Column}

module _ (Holds : ℕ → ℕ → Type 0) where
  pub column_none : Column 0 Holds (replicate most_rows 0)
  column_none =
      record {
        each = below_none _;
        past =
            λ j _. by_le most_rows j (get_or_past (replicate most_rows 0) j 0) (get_or-replicate most_rows j 0 0);
        whole = refl;
      }

  pub column_more : {i x : ℕ} {l : List ℕ} → Column i Holds l → i < most_rows → Holds i x →
      Column (i + 1) Holds (set l i x)
  column_more {i} {x} {l} c fits here =
      let lt : i < length l = omega (arith, c.whole) in
      record {
        each =
            λ j h. by_eq j i
            (λ e. rw (e, get_or-set_same l i x 0 lt) here)
            (λ e. rw (get_or-set_other l i j x 0 e) (c.each j (omega arith)));
        past = λ j h. get_or-set_other l i j x 0 (λ e. omega arith) ∙ c.past j (omega arith);
        whole = length-set l i x ∙ c.whole;
      }
