-- The dispatch rule of the kernel, tick by tick: document 01, the section of that name; the second reason for which a
-- job runs on: request (ii) of document 02.
use Rattle.std.specs.Prelude.{ℕ, zero, suc, ◌+◌, ◌<◌, ◌≡◌, Bool, true, false, ◌&&◌, ◌||◌, leb, ltb, eqb}
use Rattle.counting.specs.Sum.{given, count}
use Rattle.tables.specs.Table.{Table, region_end}
use Rattle.tables.specs.Plan.{Plan}
use Rattle.tables.specs.Jobs.{Jobs}

-- what the kernel runs in a tick: a job, by its number in the list, or nothing
pub data Pick : Type 0 where
  job : ℕ → Pick
  idle : Pick

-- job k is picked
abbrev pub picked : Pick → ℕ → Bool
picked (job j) k = eqb j k
picked idle k = false

-- of the jobs below N that pass the test the last, or the other pick where none passes. Under a well-formed plan
-- one job of a lawful list at most passes each of the rule's own tests (laws `runs_on_once` and `leads_once`), so
-- that its place in the list never decides.
unfoldable pub one_of : (ℕ → Bool) → ℕ → Pick → Pick
one_of P zero other = other
one_of P (suc k) other = elim (P k) [ true ↦ job k | false ↦ one_of P k other ]

-- "more than C − length": a job of row i that has executed e ticks has executed one of its final region at least, the
-- difference written as a sum; or (ii), "more than the start and less than the end", it has begun its middle region and
-- not ended it. Either way it is not preempted.
abbrev pub locked : Table → Plan → ℕ → ℕ → Bool
locked tb p i e = ltb (tb.C i) (e + p.len i) || (ltb (tb.S i) e && ltb e (region_end tb i))

-- Job k has executed x k ticks.
module _ (tb : Table) (p : Plan) (js : Jobs) (x : ℕ → ℕ) where
  -- "has finished": a job is unfinished as long as it has executed less than its run, whatever the C of its row
  abbrev pub unfinished : ℕ → Bool
  unfinished k = ltb (x k) (js.run k)

  -- (a) "runs on": a job that is unfinished, and inside one of its regions
  abbrev pub runs_on : ℕ → Bool
  runs_on k = unfinished k && locked tb p (js.row k) (x k)

  -- "pending": released at tick t or before it, and unfinished; a job may run in the tick of its release
  abbrev pub pending : ℕ → ℕ → Bool
  pending t k = leb (js.release k) t && unfinished k

  -- "highest rank", "earliest released": job l is to run before job k where the rank of its row is higher, or where
  -- both are of one row and l is released earlier
  abbrev pub ahead : ℕ → ℕ → Bool
  ahead l k =
      ltb (p.rank (js.row l)) (p.rank (js.row k))
      || (eqb (js.row l) (js.row k) && ltb (js.release l) (js.release k))

  -- (b) "the pending job": one that is pending, with no pending job of the list ahead of it
  abbrev pub leads : ℕ → ℕ → Bool
  leads t k = pending t k && eqb (count (λ l. pending t l && ahead l k) js.N) 0

  -- "in this order": the job that runs on, otherwise the job that leads, otherwise nothing
  unfoldable pub pick : ℕ → Pick
  pick t = one_of runs_on js.N (one_of (leads t) js.N idle)

module _ (tb : Table) (p : Plan) (js : Jobs) where
  -- the ticks that job k has executed before tick t, one for each in which it was picked
  unfoldable pub executed : ℕ → ℕ → ℕ
  executed zero k = 0
  executed (suc t) k = executed t k + given (picked (pick tb p js (executed t) t) k) 1

  -- "Tables", "Finish output": f is the tick after `last`, the last that job k executes; before tick `last` it has
  -- executed less than its run, and before f all of it
  pub record Finishes (k f : ℕ) : Type 0 where
    pub last : ℕ
    pub after : f ≡ suc last
    pub unfinished : executed last k < js.run k
    pub finished : executed f k ≡ js.run k
