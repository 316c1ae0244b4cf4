-- Laws of the search over the rows: what is known of those seen while the rows of a rest are left to try.
use Prim.Native.Nat.{ℕ, ◌-◌, max, min, ◌≤◌, ◌<◌}
use mathlib.Core.Path.{◌≡◌, ap, sym, ◌∙◌}
use mathlib.Core.Bool.{Bool, true, false}
use native.Mathlib.Omega.{arith}
use Rattle.std.specs.Prelude.{Option, Some, None}
use Rattle.counting.specs.Sum.{without}
use Rattle.counting.proofs.Cases.{by_bool, by_le, by_eq, not_both}
use Rattle.counting.proofs.Sum.{without_elim, without_other}
use Rattle.marks.specs.inside.Marks.{marked, Next, Less}
use Rattle.marks.proofs.Marks.{none}
use Rattle.tables.specs.Table.{Table}
use Rattle.tables.specs.declared.task.Row.{Row}
use Rattle.tables.specs.inside.Rows.{cap_in}
use Rattle.tables.specs.Plan.{cap, longer}
use Rattle.tables.proofs.Plan.{longer_is, longer_ge, longer_mono}
use Rattle.test.specs.Test.{Response}
use Rattle.choice.specs.Choice.{Fits, Shortest, Takes, NoneFits}
use Rattle.search.specs.inside.Worth.{WorthIn}
use Rattle.search.specs.declared.Candidate.{Candidate}
use Rattle.search.proofs.Lengths.{Found, Narrowed}

-- what is known of the longest length worth a try, where there is one, and where there is none
abbrev pub Top : ℕ → ℕ → Option Candidate → ℕ → Type 0
Top M most None top = top ≡ most
Top M most (Some best) top = (max M 1 < best.longer) × (top ≡ min most (best.longer - 1))

abbrev pub Over : ℕ → Option Candidate → Type 0
Over M None = ⊥
Over M (Some best) = best.longer ≤ max M 1

pub worth_top : (row : Row) (best : Option Candidate) (top : ℕ) → WorthIn row best (Some top) →
    Top row.region (cap_in row) best top
worth_top row None top e = cc
worth_top row (Some y) top w =
    by_le y.longer (max row.region 1)
    (λ h. let none = w.beaten h in absurd (cc))
    (λ h. let some = w.shorter h in (omega arith, cc))

pub worth_over : (row : Row) (best : Option Candidate) → WorthIn row best None → Over row.region best
worth_over row None e = cc
worth_over row (Some y) w =
    by_le y.longer (max row.region 1) (λ h. h) (λ h. let some = w.shorter h in absurd (cc))

pub top_le : (M most : ℕ) (best : Option Candidate) (top : ℕ) → Top M most best top → top ≤ most
top_le M most None top t = omega arith
top_le M most (Some y) top t = omega arith

-- candidate y, of the rows of W that are no longer in rest, stands with its shortest length, what it blocks with, and
-- its response
pub record Leads (tb : Table) (U : ℕ → Bool) (b : ℕ) (W : ℕ → Bool) (rest : ℕ) (y : Candidate) : Type 0 where
  pub row : y.row < tb.n
  pub try : W y.row ≡ true
  pub shortest : Shortest tb U b y.row y.length
  pub blocks_with : y.longer ≡ longer tb y.row y.length
  pub timed : Response tb (without U y.row) b y.row y.length y.response
  pub later : (j : ℕ) → marked rest j ≡ true → y.row < j

abbrev pub LeadsIfAny : Table → (ℕ → Bool) → ℕ → (ℕ → Bool) → ℕ → Option Candidate → Type 0
LeadsIfAny tb U b W rest None = Unit {0}
LeadsIfAny tb U b W rest (Some y) = Leads tb U b W rest y

-- there is a candidate, and it blocks with no more than row z with the length l, and with less than an earlier row
abbrev pub AsGood : Table → ℕ → ℕ → Option Candidate → Type 0
AsGood tb z l None = ⊥
AsGood tb z l (Some y) = (y.longer ≤ longer tb z l) × (z < y.row → y.longer < longer tb z l)

-- of the rows of W that are no longer in rest the best so far, if any has a passing length
pub record Seen (tb : Table) (U : ℕ → Bool) (b : ℕ) (W : ℕ → Bool) (best : Option Candidate) (rest : ℕ) : Type 0 where
  pub among : (j : ℕ) → marked rest j ≡ true → W j ≡ true
  pub leads : LeadsIfAny tb U b W rest best
  pub least : (z l : ℕ) → z < tb.n → W z ≡ true → marked rest z ≡ false → 1 ≤ l → l ≤ cap tb z →
      Fits tb (without U z) b z l → AsGood tb z l best

pub seen_first : (tb : Table) (U : ℕ → Bool) (b rest : ℕ) → Seen tb U b (marked rest) None rest
seen_first tb U b rest =
    record {
      among = λ j e. e;
      leads = tt;
      least = λ z l g v m. not_both (marked rest z) m v;
    }

module _ {tb : Table} {U : ℕ → Bool} {b : ℕ} {W : ℕ → Bool} where
  -- row i is tried
  module _ {rest i left : ℕ} (best : Option Candidate) (w : Seen tb U b W best rest) (n : Next rest i)
      (d : Less rest i left) (g : i < tb.n) where
    still : (j : ℕ) → marked left j ≡ true → (marked rest j ≡ true) × (i < j)
    still j e =
        without_elim (marked rest) i j (ap (λ Q. Q j) (sym d.marks) ∙ e)
        (λ ne m.
        let h = n.first.least j (omega arith) m in
        (m, by_eq i j (λ q. absurd (ne (sym q))) (λ q. omega arith)))

    -- a row that is no longer left was seen before, or is row i
    gone {ℓ} : {X : Type ℓ} (z : ℕ) → marked left z ≡ false → (z ≡ i → X) → (marked rest z ≡ false → X) → X
    gone z m same before =
        by_eq z i same (λ q. before (sym (without_other (marked rest) i z q) ∙ ap (λ Q. Q z) (sym d.marks) ∙ m))

    leads_on : (y : Option Candidate) → LeadsIfAny tb U b W rest y → LeadsIfAny tb U b W left y
    leads_on None _ = tt
    leads_on (Some y) l =
        record {
          row = l.row;
          try = l.try;
          shortest = l.shortest;
          blocks_with = l.blocks_with;
          timed = l.timed;
          later = λ j e. l.later j (still j e).0;
        }

    -- the best is as good as row i with every length of it that fits
    seen_on : ((l : ℕ) → 1 ≤ l → l ≤ cap tb i → Fits tb (without U i) b i l → AsGood tb i l best) →
        Seen tb U b W best left
    seen_on good =
        record {
          among = λ j e. w.among j (still j e).0;
          leads = leads_on best w.leads;
          least =
              λ z l x v m lo hi f.
              gone z m
              (λ e. rw e (good l lo (rw e at hi) (rw e at f)))
              (λ old. w.least z l x v old lo hi f);
        }

    over_good : (y : Option Candidate) → Over (tb.M i) y → LeadsIfAny tb U b W rest y → (l : ℕ) → 1 ≤ l →
        AsGood tb i l y
    over_good None o k l lo = absurd o
    over_good (Some y) o k l lo =
        (omega (arith, longer_is tb i l), λ lt. absurd (omega (arith, k.later i n.first.holds)))

    -- no length of row i is worth a try
    pub seen_over : Over (tb.M i) best → Seen tb U b W best left
    seen_over o = seen_on (λ l lo _ _. over_good best o w.leads l lo)

    -- its lengths up to the top are narrowed to one
    module _ {top low high : ℕ} {passed : Option ℕ} (t : Top (tb.M i) (cap tb i) best top)
        (s : Narrowed tb (without U i) b i top low high passed) (one : high ≤ low) where
      -- a length that fits is not below that
      no_shorter : (l : ℕ) → 1 ≤ l → Fits tb (without U i) b i l → high ≤ l
      no_shorter l lo f = by_le high l (λ h. h) (λ h. absurd (s.shorter l lo (omega (arith, s.order)) f))

      same_good : (y : Option Candidate) → Top (tb.M i) (cap tb i) y top → LeadsIfAny tb U b W rest y → (l : ℕ) →
          l ≤ cap tb i → top < l → AsGood tb i l y
      same_good None t k l hi past = absurd (omega arith)
      same_good (Some y) t k l hi past =
          (omega (arith, longer_ge tb i l), λ lt. absurd (omega (arith, k.later i n.first.holds)))

      -- none fits
      pub seen_same : Found tb (without U i) b i top high None → Seen tb U b W best left
      seen_same none =
          seen_on (λ l lo hi f. same_good best t w.leads l hi (omega (arith, no_shorter l lo f)))

      -- an earlier row's length does no better than the best did, and row i blocks with less
      better_good : (y : Option Candidate) → Top (tb.M i) (cap tb i) y top → high ≤ top → (z l m : ℕ) →
          m ≡ longer tb i high → AsGood tb z l y → m < longer tb z l
      better_good None t hi z l m e old = absurd old
      better_good (Some y) t hi z l m e old = omega (arith, longer_is tb i high, old.0)

      -- one fits: row i is the best
      pub seen_better : {R m : ℕ} → Found tb (without U i) b i top high (Some R) → m ≡ longer tb i high →
          Seen tb U b W (Some (record { row = i; length = high; longer = m; response = R })) left
      seen_better {R} {m} found e =
          record {
            among = λ j e. w.among j (still j e).0;
            leads =
                record {
                  row = g;
                  try = w.among i n.first.holds;
                  shortest =
                      record {
                        low = omega (arith, s.some, s.order);
                        holds = (omega (arith, found.0, top_le _ _ best top t), found.1.0);
                        least = λ u lo x. no_shorter u lo x.1;
                      };
                  blocks_with = e;
                  timed = found.1.1;
                  later = λ j e. (still j e).1;
                };
            least =
                λ z l x v k lo hi f.
                gone z k
                (λ q. (
                  rw q (omega (arith, e, longer_mono tb i (no_shorter l lo (rw q at f)))),
                  λ lt. absurd (omega arith),
                ))
                (λ old.
                let less = better_good best t found.0 z l m e (w.least z l x v old lo hi f) in
                (omega arith, λ _. less));
          }

  -- no row blocks with less than 1: those left cannot take the rank
  pub seen_one : {y : Candidate} {rest : ℕ} → y.longer ≡ 1 → Seen tb U b W (Some y) rest → Seen tb U b W (Some y) 0
  seen_one {y} {rest} one w =
      let k = w.leads in
      record {
        among = λ j e. not_both (marked 0 j) (none j) e;
        leads =
            record {
              row = k.row;
              try = k.try;
              shortest = k.shortest;
              blocks_with = k.blocks_with;
              timed = k.timed;
              later = λ j e. not_both (marked 0 j) (none j) e;
            };
        least =
            λ z l g v _ lo hi f.
            by_bool (marked rest z)
            (λ m. (omega (arith, longer_ge tb z l), λ lt. absurd (omega (arith, k.later z m))))
            (λ m. w.least z l g v m lo hi f);
      }

  -- when no row is left
  pub seen_all : {y : Candidate} → Seen tb U b W (Some y) 0 → Takes tb U b W y.row y.length
  seen_all {y} w =
      let k = w.leads in
      record {
        row = k.row;
        try = k.try;
        shortest = k.shortest;
        least =
            λ z l g v s.
            let r = w.least z l g v (none z) s.low s.holds.0 s.holds.1 in
            omega (arith, r.0, k.blocks_with);
        earliest =
            λ z l lt v s e.
            let r = w.least z l (omega (arith, k.row)) v (none z) s.low s.holds.0 s.holds.1 in
            absurd (omega (arith, r.1 lt, e, k.blocks_with));
      }

  pub seen_none : Seen tb U b W None 0 → NoneFits tb U b W
  seen_none w z q g v lo hi f = w.least z q g v (none z) lo hi f
