-- The job that runs goes on running up to the next release, and for as long as it is locked: what a play from decision
-- to decision rests on.
use Prim.Native.Nat.{ℕ, zero, suc, ◌+◌, ◌≤◌, ◌<◌}
use mathlib.Core.Path.{◌≡◌, ◌∙◌}
use mathlib.Core.Bool.{true, false}
use mathlib.Core.Logic.{◌⊎◌, ⊎_elim}
use native.Mathlib.Omega.{arith}
use native.Mathlib.Nat.{add-suc, add-zero}
use Rattle.counting.proofs.Cases.{by_bool, by_eq, not_both}
use Rattle.tables.specs.Table.{Table, Sound}
use Rattle.tables.specs.Plan.{Plan, WellFormed}
use Rattle.tables.specs.Jobs.{Jobs, Lawful}
use Rattle.kernel.specs.Rule.{job, locked}
use Rattle.kernel.proofs.Rule as R
use Rattle.kernel.proofs.Executed as X

-- nothing is released in the ticks t + 1, .., t + x
abbrev pub Calm : Jobs → ℕ → ℕ → Type 0
Calm js t x = (k : ℕ) → k < js.N → js.release k ≤ t + x → js.release k ≤ t

-- Job c runs in tick t, and d ticks at least are left to it. In each of them it is locked, or it was not locked at t
-- and nothing was released since. (Locked at t it may have run past a job of higher rank, which runs once it is not.)
module _ (tb : Table) (p : Plan) (js : Jobs) (sound : Sound tb) (wf : WellFormed tb p) (lawful : Lawful tb js)
    (t c d : ℕ) (is : X.runs tb p js t ≡ job c) (left : X.E tb p js t c + d ≤ js.run c)
    (calm : (x : ℕ) → x < d →
    (locked tb p (js.row c) (X.E tb p js t c + x) ≡ true)
    ⊎ ((locked tb p (js.row c) (X.E tb p js t c) ≡ false) × Calm js t x)) where
  abbrev E : ℕ → ℕ → ℕ
  E = X.E tb p js

  -- after x ticks only c has executed, x ticks
  pub record After (x : ℕ) : Type 0 where
    pub mine : E (t + x) c ≡ E t c + x
    pub other : (k : ℕ) → (k ≡ c → ⊥) → E (t + x) k ≡ E t k

  new : X.Fresh tb p js
  new = X.fresh tb p js wf lawful

  cl : c < js.N
  cl = (X.runs_left tb p js t c is).0

  on : (x : ℕ) → x < d → After x → locked tb p (js.row c) (E t c + x) ≡ true → X.runs tb p js (t + x) ≡ job c
  on x h a l = X.runs_on tb p js new (t + x) c cl (record { left = omega (arith, a.mine); held = rw a.mine l })

  -- a job that led at t and has no rival released since
  led : (x : ℕ) → x < d → After x → Calm js t x → R.Free tb p js (E t) → R.Leads tb p js (E t) t c →
      X.runs tb p js (t + x) ≡ job c
  led x h a quiet free lead =
      let u = t + x in
      let back : (k : ℕ) → k < js.N → (k ≡ c → ⊥) → R.Pending tb p js (E u) u k → R.Pending tb p js (E t) t k =
      λ k kl ne pk. record { since = quiet k kl pk.since; left = rw (a.other k ne) at pk.left } in
      by_bool (locked tb p (js.row c) (E t c + x)) (on x h a)
      (λ no.
      R.pick_leads tb p js sound wf lawful (E u) u c cl
      (λ k kl r. by_eq k c
      (λ e. not_both _ no (rw (e, a.mine) at r.held))
      (λ ne. free k kl (record { left = rw (a.other k ne) at r.left; held = rw (a.other k ne) at r.held })))
      (record {
        pends = record { since = omega (arith, lead.pends.since); left = omega (arith, a.mine) };
        highest = λ k kl pk. by_eq k c (λ e. rw e (omega arith)) (λ ne. lead.highest k kl (back k kl ne pk));
        earliest = λ k kl pk q. by_eq k c (λ e. rw e (omega arith)) (λ ne. lead.earliest k kl (back k kl ne pk) q);
      }))

  goes_on : (x : ℕ) → x < d → After x → X.runs tb p js (t + x) ≡ job c
  goes_on x h a =
      ⊎_elim (on x h a)
      (λ q. R.rule_of tb p js (E t) t c is
      (λ _ r. not_both _ q.0 r.held)
      (λ _ free lead. led x h a q.1 free lead))
      (calm x h)

  pub steady : (x : ℕ) → x ≤ d → After x
  steady zero h = record { mine = rw (add-zero t) (omega arith); other = λ k _. rw (add-zero t) }
  steady (suc x) h =
      let a = steady x (omega arith) in
      let r = goes_on x (omega arith) a in
      record {
        mine = rw (add-suc t x) (omega (arith, X.executed_at tb p js (t + x) c r, a.mine));
        other = λ k ne.
            rw (add-suc t x) (X.executed_not tb p js (t + x) k (λ q. let e : k ≡ c = cc in ne e) ∙ a.other k ne);
      }
