-- Job lists: document 01, "Tables", the item "Job list", and the finite job lists of demand 3.
use Rattle.std.specs.Prelude.{ℕ, ◌+◌, ◌*◌, ◌/◌, ◌≤◌, ◌<◌, ◌≡◌, ◌⊎◌, List, length, get_or}
use Rattle.tables.specs.Table.{Table}

-- N jobs; row k, release k and run k of job k, for k below N
pub record Jobs : Type 0 where
  pub N : ℕ
  pub row : ℕ → ℕ
  pub release : ℕ → ℕ
  pub run : ℕ → ℕ

-- "three numbers a job": its row, its release and its run
abbrev pub job_width : ℕ
job_width = 3

-- "4,096 jobs": the most that a list for play may have
abbrev pub most_jobs : ℕ
most_jobs = 4096

-- "release 0 to 1,000,000": the last tick at which a job of a list for play may be released
abbrev pub last_release : ℕ
last_release = 1000000

-- the job list that stands in a slice: one job for every whole three numbers, and 0 for a number past the end
abbrev pub jobs_of : List ℕ → Jobs
jobs_of js =
    record {
      N = length js / job_width;
      row = λ k. get_or js (job_width * k) 0;
      release = λ k. get_or js (job_width * k + 1) 0;
      run = λ k. get_or js (job_width * k + 2) 0;
    }

-- "at least T apart": of two jobs of one row one is released T ticks or more after the other, whichever of them
-- stands first in the list
abbrev pub Apart : Table → Jobs → ℕ → ℕ → Type 0
Apart tb js k l =
    (js.release k + tb.T (js.row k) ≤ js.release l) ⊎ (js.release l + tb.T (js.row k) ≤ js.release k)

-- "The dispatch rule of the kernel", "over finite job lists": in a lawful one each job names a row of the table,
-- its run is 1 to C, and no two of one row are released less than T ticks apart; it may have any number of jobs, at
-- any ticks and in any order
pub record Lawful (tb : Table) (js : Jobs) : Type 0 where
  pub row : (k : ℕ) → k < js.N → js.row k < tb.n
  pub run_low : (k : ℕ) → k < js.N → 1 ≤ js.run k
  pub run_high : (k : ℕ) → k < js.N → js.run k ≤ tb.C (js.row k)
  pub apart : (k l : ℕ) → k < l → l < js.N → js.row k ≡ js.row l → Apart tb js k l

-- a well-formed job list, the one that play takes: lawful, of at most 4,096 jobs, none of them released after tick
-- 1,000,000, and none released before a job that stands ahead of it in the list
pub record WellFormedJobs (tb : Table) (js : Jobs) : Type 0 where
  pub few : js.N ≤ most_jobs
  pub lawful : Lawful tb js
  pub soon : (k : ℕ) → k < js.N → js.release k ≤ last_release
  pub order : (k l : ℕ) → k < l → l < js.N → js.release k ≤ js.release l
