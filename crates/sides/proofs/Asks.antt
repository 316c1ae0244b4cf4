-- Laws of what the rows of a table ask with: stored row by row into an array.
use Prim.Native.Nat.{ℕ, ◌+◌, ◌<◌, ◌≤◌}
use mathlib.Core.Path.{◌≡◌, ap, ◌∙◌}
use mathlib.Core.List.{List}
use native.Mathlib.Omega.{arith}
use lib.ListN.{length, set, take, length-set, replicate, length-replicate, get_or-replicate, get_or-eq_default}
use lib.Seq.{length-take-le, get_or-take, get_or-set_same, get_or-set_other}
use Rattle.counting.proofs.Cases.{by_le, by_eq}
use Rattle.tables.specs.Table.{Table, most_rows}
use Rattle.sides.specs.declared.ask.Ask.{Ask}
use Rattle.sides.specs.inside.Inverse.{inverse_of}
use Rattle.sides.specs.inside.Asks.{nothing, row, run, inverse, AsksFront}
use Rattle.sides.proofs.Rows.{ask_same}

module _ (tb : Table) where
  -- the rows before i have stored theirs, and nothing is asked for at the places not reached
  pub record Stored (asks : List Ask) (i : ℕ) : Type 0 where
    pub whole : length asks ≡ most_rows
    pub runs : (k : ℕ) → k < i → run asks k ≡ tb.C k
    pub inverses : (k : ℕ) → k < i → inverse asks k ≡ inverse_of (tb.T k)
    pub past : (k : ℕ) → i ≤ k → row asks k ≡ nothing

  pub stored_none : (a : Ask) → a.run ≡ 0 → a.inverse ≡ 0 → Stored (replicate most_rows a) 0
  stored_none a r v =
      record {
        whole = length-replicate most_rows a;
        runs = λ k h. absurd (omega arith);
        inverses = λ k h. absurd (omega arith);
        past =
            λ k _. by_le most_rows k
            (λ h. get_or-eq_default (replicate most_rows a) nothing {n = k} (omega (arith, length-replicate most_rows a)))
            (λ h. get_or-replicate most_rows k a nothing h ∙ ask_same a nothing r v);
      }

  module _ {asks : List Ask} {i : ℕ} (w : Stored asks i) where
    pub stored_more : i < most_rows → (a : Ask) → a.run ≡ tb.C i → a.inverse ≡ inverse_of (tb.T i) →
        Stored (set asks i a) (i + 1)
    stored_more l a r v =
        let here : row (set asks i a) i ≡ a = get_or-set_same asks i a nothing (omega (arith, w.whole)) in
        let other : (k : ℕ) → ¬ (k ≡ i) → row (set asks i a) k ≡ row asks k =
        λ k e. get_or-set_other asks i k a nothing e in
        record {
          whole = length-set asks i a ∙ w.whole;
          runs = λ k g. by_eq k i
              (λ e. rw e (ap (λ x. x.run) here ∙ r))
              (λ e. ap (λ x. x.run) (other k e) ∙ w.runs k (omega arith));
          inverses = λ k g. by_eq k i
              (λ e. rw e (ap (λ x. x.inverse) here ∙ v))
              (λ e. ap (λ x. x.inverse) (other k e) ∙ w.inverses k (omega arith));
          past = λ k g. other k (λ e. omega arith) ∙ w.past k (omega arith);
        }

    pub stored_all : i ≡ tb.n → tb.n ≤ most_rows → AsksFront tb asks
    stored_all e few =
        let front : (j : ℕ) → j < tb.n → row (take tb.n asks) j ≡ row asks j =
        λ j l. get_or-take tb.n asks j nothing l in
        record {
          front = record {
            long = length-take-le tb.n asks (omega (arith, w.whole));
            runs = λ j l. ap (λ x. x.run) (front j l) ∙ w.runs j (omega arith);
            inverses = λ j l. ap (λ x. x.inverse) (front j l) ∙ w.inverses j (omega arith);
          };
          past = λ k h. w.past k (omega arith);
          whole = w.whole;
        }
