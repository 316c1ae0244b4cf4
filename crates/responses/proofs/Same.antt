-- The rows below n alone count: two tests of the rows above that agree on them give the same periods, starts and
-- responses.
use Prim.Native.Nat.{ℕ, ◌<◌}
use mathlib.Core.Path.{◌≡◌, sym, fun_ext, subst}
use mathlib.Core.Bool.{Bool}
use native.Mathlib.Omega.{arith}
use Rattle.tables.specs.Table.{Table}
use Rattle.test.specs.Test.{before, upto, Active, active_side, start_side, Finish, Response}
use Rattle.test.proofs.Load.{load_ext}
use Rattle.test.proofs.Sides.{active_side_is, start_side_is}

-- the tests agree on the rows
abbrev pub Agree : Table → (ℕ → Bool) → (ℕ → Bool) → Type 0
Agree tb P Q = (j : ℕ) → j < tb.n → P j ≡ Q j

pub agree_sym : (tb : Table) {P Q : ℕ → Bool} → Agree tb P Q → Agree tb Q P
agree_sym tb same j l = sym (same j l)

module _ (tb : Table) (P Q : ℕ → Bool) (b i : ℕ) (same : Agree tb P Q) where
  active_side_same : active_side tb P b i ≡ active_side tb Q b i
  active_side_same = fun_ext (λ t. omega
      (arith, active_side_is tb P b i t, active_side_is tb Q b i t, load_ext tb before P Q same t))

  start_side_same : (q k : ℕ) → start_side tb P b i upto q k ≡ start_side tb Q b i upto q k
  start_side_same q k = fun_ext (λ s. omega
      (arith, start_side_is tb P b i q k s, start_side_is tb Q b i q k s, load_ext tb upto P Q same s))

  pub active_same : {L : ℕ} → Active tb P b i L → Active tb Q b i L
  active_same x = rw active_side_same at x

  pub finish_same : {q k f : ℕ} → Finish tb P b i q k f → Finish tb Q b i q k f
  finish_same {q} {k} x =
      record { start = x.start; starts = rw (start_side_same q k) at x.starts; ends = x.ends }

pub response_same : {tb : Table} {P Q : ℕ → Bool} {b b' i q R : ℕ} → Agree tb P Q → b ≡ b' → Response tb P b i q R →
    Response tb Q b' i q R
response_same {tb} {P} {Q} {b} {b'} {i} {q} {R} same e r =
    subst (λ x. Response tb Q x i q R) e
    (record {
      period = r.period;
      active = active_same tb P Q b i same r.active;
      job = r.job;
      counts = r.counts;
      reached = finish_same tb P Q b i same r.reached;
      highest = λ k f h x. r.highest k f h (finish_same tb Q P b i (agree_sym tb same) x);
    })
