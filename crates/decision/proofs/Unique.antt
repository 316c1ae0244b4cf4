-- Any two results that the promise of a function of this crate allows are equal.
use Prim.Native.Nat.{ℕ, ◌<◌}
use mathlib.Core.Path.{◌≡◌, refl, sym, ap, ◌∙◌}
use Rattle.std.proofs.Common.{Option, Some, None}
use mathlib.Core.Logic.{⊎_elim}
use mathlib.Core.List.{List}
use native.Mathlib.Omega.{arith}
use lib.ListN.{get_or}
use lib.Seq.{ext_get_or}
use Rattle.counting.proofs.Cases.{by_le, not_both}
use Rattle.tables.specs.Table.{Table}
use Rattle.tables.specs.Plan.{Plan, WellFormed}
use Rattle.tables.specs.Jobs.{Jobs}
use Rattle.decision.specs.declared.Head.{Head}
use Rattle.decision.specs.inside.Decision.{no, job_in, done_in, Following, Heads, Released, ByRank, Foremost, HeldTo}
use Rattle.decision.specs.inside.Decision.{FirstWaiting, Stretch}

-- of a kind of numbers none of which stands below another there is one at most
one_at_most : {E : ℕ → Type 0} → ((a b : ℕ) → E a → E b → a < b → ⊥) → (a b : ℕ) → E a → E b → a ≡ b
one_at_most none a b e f =
    by_le a b
    (λ h. by_le b a (λ g. omega arith) (λ g. absurd (none a b e f g)))
    (λ h. absurd (none b a f e h))

pub following_unique : (js : Jobs) (i from k l : ℕ) → Following js i from k → Following js i from l → k ≡ l
following_unique js i from = one_at_most (λ k l a b h. b.none k a.low h (a.is (omega arith)))

pub heads_unique : (js : Jobs) (n : ℕ) (l m : List Head) → Heads js n l → Heads js n m → l ≡ m
heads_unique js n l m a b =
    ext_get_or no l m (a.places ∙ sym b.places) (λ i _. λ x. record { job = job i x; done = done i x })
  where
    job : (i : ℕ) → job_in l i ≡ job_in m i
    job i =
        by_le n i
        (λ h. a.past i h ∙ sym (b.past i h))
        (λ h. following_unique js i 0 (job_in l i) (job_in m i) (a.first i h) (b.first i h))

    done : (i : ℕ) → done_in l i ≡ done_in m i
    done i = a.fresh i ∙ sym (b.fresh i)

pub released_unique : (js : Jobs) (from t k l : ℕ) → Released js from t k → Released js from t l → k ≡ l
released_unique js from t = one_at_most (λ k l a b h. omega (arith, a.waits (omega arith), b.came k a.low h))

pub by_rank_unique : (tb : Table) (p : Plan) (l m : List ℕ) → WellFormed tb p → ByRank tb p l → ByRank tb p m → l ≡ m
by_rank_unique tb p l m wf a b =
    ext_get_or 0 l m (a.places ∙ sym b.places)
    (λ r _. by_le tb.n r
    (λ h. a.past r h ∙ sym (b.past r h))
    (λ h. wf.once (get_or l r 0) (get_or m r 0) (a.row r h) (b.row r h) (a.rank r h ∙ sym (b.rank r h))))

pub foremost_unique : (order : List ℕ) (heads : List Head) (next : ℕ) (r s : Option ℕ) →
    Foremost order heads next r → Foremost order heads next s → r ≡ s
foremost_unique order heads next None None a b = refl
foremost_unique order heads next None (Some s) a b = absurd (omega (arith, a s b.high, b.waits))
foremost_unique order heads next (Some r) None a b = absurd (omega (arith, b r a.high, a.waits))
foremost_unique order heads next (Some r) (Some s) a b =
    ap Some (one_at_most {E = FirstWaiting order heads next} (λ r s a b h. omega (arith, a.waits, b.none r h)) r s a b)

pub held_to_unique : (tb : Table) (p : Plan) (i e run c d : ℕ) → HeldTo tb p i e run c → HeldTo tb p i e run d → c ≡ d
held_to_unique tb p i e run =
    one_at_most (λ c d a b h.
    ⊎_elim (λ q. omega (arith, b.high)) (λ q. not_both _ q (b.held c a.low h)) a.ends)

pub stretch_unique : (tb : Table) (p : Plan) (js : Jobs) (i e run next t c d : ℕ) →
    Stretch tb p js i e run next t c → Stretch tb p js i e run next t d → c ≡ d
stretch_unique tb p js i e run next t =
    one_at_most (λ c d a b h.
    ⊎_elim (λ q. omega (arith, b.within))
    (λ q. ⊎_elim (λ z. omega (arith, q.1)) (λ z. not_both _ q.2 z) (b.calm c h q.0))
    a.ends)
