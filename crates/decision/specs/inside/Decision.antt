-- What the functions that play decides with answer, in terms of the rule's own words. The promise of play does not rest
-- on these definitions.
use Rattle.std.specs.Prelude.{ℕ, ◌+◌, ◌≤◌, ◌<◌, ◌≡◌, ◌⊎◌, true, false, Option, Some, None, List, length}
use Rattle.std.specs.Prelude.{get_or}
use Rattle.tables.specs.Table.{Table, most_rows}
use Rattle.tables.specs.Plan.{Plan}
use Rattle.tables.specs.Jobs.{Jobs}
use Rattle.kernel.specs.Rule.{locked}
use Rattle.decision.specs.declared.Head.{Head}

-- k is the first job of row i from job `from` on; the number of jobs where there is none
pub record Following (js : Jobs) (i from k : ℕ) : Type 0 where
  pub low : from ≤ k
  pub high : k ≤ js.N
  pub is : k < js.N → js.row k ≡ i
  pub none : (l : ℕ) → from ≤ l → l < k → js.row l ≡ i → ⊥

-- what stands past the last row
abbrev pub no : Head
no = record { job = 0; done = 0 }

-- the earliest unfinished job of row i, and the ticks that it has executed
abbrev pub job_in : List Head → ℕ → ℕ
job_in heads i = (get_or heads i no).job

abbrev pub done_in : List Head → ℕ → ℕ
done_in heads i = (get_or heads i no).done

-- heads holds each row's first job, of which no tick is executed, and 0 past the rows
pub record Heads (js : Jobs) (n : ℕ) (heads : List Head) : Type 0 where
  pub places : length heads ≡ most_rows
  pub first : (i : ℕ) → i < n → Following js i 0 (job_in heads i)
  pub past : (i : ℕ) → n ≤ i → job_in heads i ≡ 0
  pub fresh : (i : ℕ) → done_in heads i ≡ 0

-- the jobs from job `from` to before job `next` are released at tick t, and job `next`, where there is one, is not
pub record Released (js : Jobs) (from t next : ℕ) : Type 0 where
  pub low : from ≤ next
  pub high : next ≤ js.N
  pub came : (k : ℕ) → from ≤ k → k < next → js.release k ≤ t
  pub waits : next < js.N → t < js.release next

-- order holds the row of rank r at place r − 1, and 0 past the rows
pub record ByRank (tb : Table) (p : Plan) (order : List ℕ) : Type 0 where
  pub places : length order ≡ most_rows
  pub row : (r : ℕ) → r < tb.n → get_or order r 0 < tb.n
  pub rank : (r : ℕ) → r < tb.n → p.rank (get_or order r 0) ≡ r + 1
  pub past : (r : ℕ) → tb.n ≤ r → get_or order r 0 ≡ 0

-- a row waits where its earliest unfinished job, at its place of heads, stands before job `next`; r is the first place
-- of the order whose row waits
pub record FirstWaiting (order : List ℕ) (heads : List Head) (next r : ℕ) : Type 0 where
  pub high : r < length order
  pub waits : job_in heads (get_or order r 0) < next
  pub none : (s : ℕ) → s < r → next ≤ job_in heads (get_or order s 0)

-- the first place of the order whose row waits, where one does
abbrev pub Foremost : List ℕ → List Head → ℕ → Option ℕ → Type 0
Foremost order heads next (Some r) = FirstWaiting order heads next r
Foremost order heads next None = (s : ℕ) → s < length order → next ≤ job_in heads (get_or order s 0)

-- a job of row i, of which e ticks of its run are executed, is locked until d are, which are all of its run, or with
-- which it is not locked; d is e where it is not locked at all
pub record HeldTo (tb : Table) (p : Plan) (i e run d : ℕ) : Type 0 where
  pub low : e ≤ d
  pub high : d ≤ run
  pub held : (x : ℕ) → e ≤ x → x < d → locked tb p i x ≡ true
  pub ends : (d ≡ run) ⊎ (locked tb p i d ≡ false)

-- a decision at tick t runs a job of row i, of which e ticks of its run are executed, for d ticks, one at least: in
-- each of them the release of job `next` is still to come, or the job is locked; it ends with the job or, at that
-- release or after it, as soon as the job is not locked
pub record Stretch (tb : Table) (p : Plan) (js : Jobs) (i e run next t d : ℕ) : Type 0 where
  pub some : 1 ≤ d
  pub within : e + d ≤ run
  pub calm : (x : ℕ) → x < d → next < js.N → (t + x < js.release next) ⊎ (locked tb p i (e + x) ≡ true)
  pub ends : (e + d ≡ run) ⊎ ((next < js.N) × (js.release next ≤ t + d) × (locked tb p i (e + d) ≡ false))
