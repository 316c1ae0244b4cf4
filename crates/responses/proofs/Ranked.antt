-- Laws of a ranked row: over a level of it and the rows above it, its active period; over one of those above, its
-- starts.
use Prim.Native.Nat.{ℕ, ◌+◌, ◌<◌}
use mathlib.Core.Path.{◌≡◌, refl, sym, ap, ◌∙◌, fun_ext}
use mathlib.Core.Bool.{true, or-false}
use mathlib.Core.List.{List}
use native.Mathlib.Omega.{arith}
use lib.Dec.{eqb}
use lib.ListN.{length}
use borrow.Author.Tests.{eq-eqb, eqb-true, ne_eqb}
use Rattle.counting.specs.Sum.{without}
use Rattle.counting.proofs.Cases.{or_cases, or_right}
use Rattle.counting.proofs.Sum.{is_without}
use Rattle.marks.specs.inside.Marks.{marked, More}
use Rattle.tables.specs.Table.{Table}
use Rattle.test.specs.Test.{horizon, upto, load, Active, active_side}
use Rattle.test.proofs.Load.{Positive, sound_positive}
use Rattle.sides.specs.declared.ask.Ask.{Ask}
use Rattle.sides.specs.inside.Level.{active_of}
use Rattle.sides.specs.inside.Found.{Fixed, FixedWithin}
use Rattle.sides.proofs.Level.{Asking}
use Rattle.sides.proofs.Lower.{active_first, active_within, active_found}
use Rattle.responses.specs.inside.Asked.{Ranked}
use Rattle.responses.proofs.Jobs.{Working}

module _ {tb : Table} {asks : List Ask} {set b i q : ℕ} (r : Ranked tb asks set b i q) where
  pub positive : Positive tb
  positive = sound_positive tb r.sound

  pub rows : length asks ≡ tb.n
  rows = omega (arith, r.asked.long)

  pub working : Working tb (marked set) b i q r.period
  working =
      record {
        positive = positive;
        row = r.row;
        some = r.some;
        most = r.most;
        active = r.active;
        within = r.within;
      }

  -- the set with the row itself
  module _ (all : ℕ) (m : More set i all) where
    pub own : marked all i ≡ true
    own = m i ∙ or_right (marked set i) (eqb i i) (eq-eqb i i refl)

    pub inside : (j : ℕ) → marked all j ≡ true → j < length asks
    inside j e =
        or_cases (marked set j) (eqb j i) (sym (m j) ∙ e)
        (λ f. omega (arith, r.inside j f, rows))
        (λ f. omega (arith, r.row, rows, eqb-true j i f))

    pub others : marked set ≡ without (marked all) i
    others = fun_ext (λ j. is_without (marked all) i j (marked set j)
        (λ e. ap (marked set) e ∙ r.apart)
        (λ e. sym (m j ∙ rw (ne_eqb j i e) (or-false (marked set j)))))

    -- over a level of it and the rows above
    module _ {level : List Ask} (a : Asking tb (marked all) (horizon + 1) level) {first-asked : ℕ}
        (f : first-asked ≡ b + load upto tb (marked all) 0)
      where
        abbrev alone : Active tb (without (marked all) i) b i r.period
        alone = rw (← others) r.active

        pub first : first-asked ≡ active_side tb (marked set) b i 1
        first = rw others (active_first a positive b i f r.row own)

        pub within : FixedWithin (active_of level first-asked) 1 first-asked
        within = active_within a positive b i f r.row own (omega (arith, r.within)) r.within alone

        pub found : {t : ℕ} → Fixed (active_of level first-asked) 1 t → t ≡ r.period
        found = active_found a positive b i f r.row own (omega (arith, r.within)) r.within alone
