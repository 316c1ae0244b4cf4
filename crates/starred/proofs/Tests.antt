-- Tests that the checker computes, each with what it shows where it passes.
use Prim.Native.Nat.{ℕ, ◌≤◌, ◌<◌}
use mathlib.Core.Path.{◌≡◌}
use mathlib.Core.Bool.{Bool, true, ◌&&◌, ◌||◌, not}
use mathlib.Core.Logic.{◌⊎◌, inl, inr}
use native.Mathlib.Omega.{arith}
use lib.Dec.{eqb, leb, ltb}
use borrow.Author.Tests.{eqb-true, leb-true, ltb-true}
use Rattle.counting.proofs.Cases.{and_left, and_right, not_both, or_cases}
use Rattle.counting.proofs.Search.{first, first_within, all, all_at}

pub record Test (A : Type 0) : Type 0 where
  pub passes : Bool
  pub shows : passes ≡ true → A

abbrev pub equal : (a b : ℕ) → Test (a ≡ b)
equal a b = record { passes = eqb a b; shows = eqb-true a b }

abbrev pub at_most : (a b : ℕ) → Test (a ≤ b)
at_most a b = record { passes = leb a b; shows = leb-true a b }

abbrev pub less : (a b : ℕ) → Test (a < b)
less a b = record { passes = ltb a b; shows = ltb-true a b }

abbrev pub holds : (b : Bool) → Test (b ≡ true)
holds b = record { passes = b; shows = λ e. e }

-- the same test, for what follows from it
abbrev pub so : {A B : Type 0} → Test A → (A → B) → Test B
so t f = record { passes = t.passes; shows = λ e. f (t.shows e) }

abbrev pub both : {A B : Type 0} → Test A → Test B → Test (A × B)
both a b =
    record {
      passes = a.passes && b.passes;
      shows = λ e. (a.shows (and_left a.passes _ e), b.shows (and_right a.passes _ e));
    }

-- two tests and more, for what follows from all of them
abbrev pub so₂ : {A B X : Type 0} → Test A → Test B → (A → B → X) → Test X
so₂ a b f = so (both a b) (λ s. f s.0 s.1)

abbrev pub so₃ : {A B C X : Type 0} → Test A → Test B → Test C → (A → B → C → X) → Test X
so₃ a b c f = so₂ a (both b c) (λ x s. f x s.0 s.1)

abbrev pub so₄ : {A B C D X : Type 0} → Test A → Test B → Test C → Test D → (A → B → C → D → X) → Test X
so₄ a b c d f = so₃ a b (both c d) (λ x y s. f x y s.0 s.1)

abbrev pub so₅ : {A B C D E X : Type 0} → Test A → Test B → Test C → Test D → Test E → (A → B → C → D → E → X) → Test X
so₅ a b c d e f = so₄ a b c (both d e) (λ x y z s. f x y z s.0 s.1)

abbrev pub either : {A B : Type 0} → Test A → Test B → Test (A ⊎ B)
either s t =
    record {
      passes = s.passes || t.passes;
      shows = λ e. or_cases s.passes t.passes e (λ a. inl (s.shows a)) (λ b. inr (t.shows b));
    }

-- what has to hold only under a hypothesis: where the hypothesis holds b passes, and where b fails nothing is tested
abbrev pub when : {H A : Type 0} (b : Bool) → (H → b ≡ true) → Test A → Test (H → A)
when b decides t =
    record {
      passes = not b || t.passes;
      shows = λ e h. or_cases (not b) t.passes e (λ n. not_both (not b) (rw (decides h)) n) t.shows;
    }

-- at every number below n
abbrev pub each : {A : ℕ → Type 0} (n : ℕ) → ((i : ℕ) → Test (A i)) → Test ((i : ℕ) → i < n → A i)
each n t =
    record { passes = all (λ i. (t i).passes) n; shows = λ e i l. (t i).shows (all_at (λ i. (t i).passes) n e i l) }

-- at some number below n
abbrev pub some : {A : ℕ → Type 0} (n : ℕ) → ((i : ℕ) → Test (A i)) → Test ((i : ℕ) × (i < n) × A i)
some n t =
    let P : ℕ → Bool = λ i. (t i).passes in
    so (less (first P n 0) n) (λ l. (first P n 0, l, (t (first P n 0)).shows (first_within P n 0 (omega arith))))
