-- Any two results that the promise of a function of this crate allows are equal.
use Prim.Native.Nat.{ℕ}
use mathlib.Core.Path.{◌≡◌, refl, sym, ap, subst, ◌∙◌}
use mathlib.Core.Logic.{⊎_elim}
use mathlib.Core.List.{List, [], ◌∷◌}
use lib.ListN.{length, get_or}
use lib.Seq.{ext_get_or}
use native.Mathlib.Bridge.{le_prop}
use Rattle.std.proofs.Math.Nat.{ℕ_set}
use Rattle.std.proofs.Common.{Ok, Err}
use Rattle.std.specs.Prelude.{Result as OkOrErr}
use Rattle.tables.specs.Table.{Table, Within, SoundRow, Sound, row_width}
use Rattle.tables.specs.Refusal.{Check, Result}
use Rattle.tables.specs.Checks.{shape, range, plan_form}
use Rattle.tables.specs.Answer.{Answer, Tells, refusal_number, refusal_place, result_of}
use Rattle.tables.specs.inside.Rows.{no, table_in}
use Rattle.tables.specs.inside.Checked.{AllClear, RefusedBy, TableChecked, PlanChecked}
use Rattle.tables.specs.declared.answer.Refusal.{Refusal}
use Rattle.tables.specs.declared.answer.Refusal.TheVariants as refusal
use Rattle.tables.specs.declared.answer.Said.{Said}
use Rattle.tables.specs.declared.task.Row.{Row}
use Rattle.tables.specs.declared.task.Tasks.{Tasks}
use Rattle.tables.proofs.Answered.{OnePlaces, shape_place, range_place, plan_form_place}

-- the answer by the paper's number, its place and its value
abbrev case_of : ℕ → ℕ → ℕ → Answer
case_of number at value =
    get_or
    (Ok value ∷ Err refusal.Shape ∷ Err refusal.Room ∷ Err (refusal.Range at) ∷ Err refusal.NoBusy ∷ Err refusal.NoPlan
    ∷ Err (refusal.Plan at) ∷ Err refusal.JobsShape ∷ Err (refusal.Job at) ∷ Err (refusal.Sheet at) ∷ [])
    number (Err refusal.Shape)

refusal_told : (r : Refusal) → case_of (refusal_number r) (refusal_place r) 0 ≡ Err r
refusal_told (refusal.Sheet at) = refl
refusal_told refusal.Shape = refl
refusal_told (refusal.Range at) = refl
refusal_told (refusal.Plan at) = refl
refusal_told refusal.JobsShape = refl
refusal_told (refusal.Job at) = refl
refusal_told refusal.Room = refl
refusal_told refusal.NoBusy = refl
refusal_told refusal.NoPlan = refl

case_told : (a : Answer) (out : List ℕ) →
    (let r = result_of a out in case_of r.number r.place r.value) ≡ a
case_told (Ok v) out = refl
case_told (Err r) out = refusal_told r

-- where an operation has one result, it has one answer and one later content of its output
pub answer_unique : (a b : Answer) (l m : List ℕ) → result_of a l ≡ result_of b m → (a ≡ b) × (l ≡ m)
answer_unique a b l m e = (
  sym (case_told a l) ∙ ap (λ (r : Result). case_of r.number r.place r.value) e ∙ case_told b m,
  ap (λ (r : Result). r.out) e,
)

pub said_unique : (a : Answer) (r s : Said) → Tells a r → Tells a s → r ≡ s
said_unique a r s p q =
    λ i. record { number = (p.0 ∙ sym q.0) i; place = (p.1 ∙ sym q.1) i; value = (p.2 ∙ sym q.2) i }

-- one number and one place are those of one refusal
pub refusal_unique : (r s : Refusal) → refusal_number r ≡ refusal_number s → refusal_place r ≡ refusal_place s → r ≡ s
refusal_unique r s n p =
    let e : ◌≡◌ {A = Answer} (Err r) (Err s) = sym (refusal_told r) ∙ (λ i. case_of (n i) (p i) 0) ∙ refusal_told s in cc

-- checks that have one place each refuse with one refusal
pub refused_by_unique : (cs : List Check) → OnePlaces cs → (r s : Refusal) → RefusedBy cs r → RefusedBy cs s → r ≡ s
refused_by_unique [] one r s p q = absurd p
refused_by_unique (c ∷ cs) one r s p q =
    ⊎_elim
    (λ a. ⊎_elim
    (λ b. refusal_unique r s (a.0 ∙ sym b.0) (one.0 (refusal_place r) (refusal_place s) a.1 b.1))
    (λ b. absurd (b.0 (refusal_place r) a.1))
    q)
    (λ a. ⊎_elim (λ b. absurd (a.0 (refusal_place s) b.1)) (λ b. refused_by_unique cs one.1 r s a.1 b.1) q)
    p

-- the rows of a task table: two arrays of one length that hold one table
pub rows_unique : (a b : List Row) (n : ℕ) → length a ≡ length b → table_in a n ≡ table_in b n → a ≡ b
rows_unique a b n l e =
    ext_get_or no a b l
    (λ k h i. record { c = (e i).C k; d = (e i).D k; t = (e i).T k; start = (e i).S k; region = (e i).M k })

-- a table is sound in one way
within_one : {x : ℕ} → IsProp (Within x)
within_one p q = λ i. record { low = le_prop p.low q.low i; high = le_prop p.high q.high i }

sound_row_one : {tb : Table} {k : ℕ} → IsProp (SoundRow tb k)
sound_row_one p q =
    λ i. record {
      C = within_one p.C q.C i;
      D = within_one p.D q.D i;
      T = within_one p.T q.T i;
      region = le_prop p.region q.region i;
      none = λ e. ℕ_set _ _ (p.none e) (q.none e) i;
    }

sound_one : {tb : Table} → IsProp (Sound tb)
sound_one p q =
    λ i. record {
      some = le_prop p.some q.some i;
      few = le_prop p.few q.few i;
      row = λ k l. sound_row_one (p.row k l) (q.row k l) i;
    }

made : (rows : List Row) (n : ℕ) → Sound (table_in rows n) → Tasks
made rows n s = record { rows = rows; n = n; sound = s }

-- two tables of tasks of the same rows, as many, are the same
tasks_same : (t u : Tasks) → t.rows ≡ u.rows → t.n ≡ u.n → t ≡ u
unfolding made
tasks_same t u r n =
    subst (λ (x : List Row). (s : Sound (table_in x t.n)) → t ≡ made x t.n s) r
    (λ s. ap (made t.rows t.n) (sound_one t.sound s)) (subst (λ m. Sound (table_in u.rows m)) (sym n) u.sound)
    ∙ subst
    (λ (m : ℕ). (s : Sound (table_in u.rows m)) →
    made u.rows t.n (subst (λ m. Sound (table_in u.rows m)) (sym n) u.sound) ≡ made u.rows m s) n
    (λ s. ap (made u.rows t.n) (sound_one (subst (λ m. Sound (table_in u.rows m)) (sym n) u.sound) s)) u.sound

-- what two answers of the checks 1 and 3 have in common: one refusal, or one table, and the same rows where the arrays
-- have as many places
abbrev pub Alike : OkOrErr Tasks Refusal → OkOrErr Tasks Refusal → Type 0
Alike (Ok t) (Ok u) = (table_in t.rows t.n ≡ table_in u.rows u.n) × (length t.rows ≡ length u.rows → t ≡ u)
Alike (Err r) (Err s) = r ≡ s
Alike (Ok t) (Err s) = ⊥
Alike (Err r) (Ok u) = ⊥

-- a check that refuses is not clear
pub refused_not_clear : (cs : List Check) (r : Refusal) → RefusedBy cs r → AllClear cs → ⊥
refused_not_clear [] r b clear = b
refused_not_clear (c ∷ cs) r b clear =
    ⊎_elim (λ h. clear.0 (refusal_place r) h.1) (λ h. refused_not_clear cs r h.1 clear.1) b

pub table_checked_unique : (xs : List ℕ) (a b : OkOrErr Tasks Refusal) → TableChecked xs a → TableChecked xs b →
    Alike a b
table_checked_unique xs (Ok t) (Ok u) p q =
    let e : table_in t.rows t.n ≡ table_in u.rows u.n = p.1.same ∙ sym q.1.same in
    let n : t.n ≡ u.n = ap (λ tb. tb.n) e in (
      e,
      λ l. tasks_same t u
          (rows_unique t.rows u.rows u.n l (subst (λ m. table_in t.rows m ≡ table_in u.rows u.n) n e)) n,
    )
table_checked_unique xs (Ok t) (Err s) p q = refused_not_clear (shape xs ∷ range xs ∷ []) s q p.0
table_checked_unique xs (Err r) (Ok u) p q = refused_not_clear (shape xs ∷ range xs ∷ []) r p q.0
table_checked_unique xs (Err r) (Err s) p q =
    refused_by_unique (shape xs ∷ range xs ∷ []) (shape_place row_width xs, (range_place xs, tt)) r s p q

pub plan_checked_unique : (tb : Table) (ps : List ℕ) (a b : OkOrErr Unit Refusal) → PlanChecked tb ps a →
    PlanChecked tb ps b → a ≡ b
plan_checked_unique tb ps (Ok u) (Ok v) p q = refl
plan_checked_unique tb ps (Ok u) (Err s) p q = absurd (refused_not_clear (plan_form tb ps ∷ []) s q (p, tt))
plan_checked_unique tb ps (Err r) (Ok u) p q = absurd (refused_not_clear (plan_form tb ps ∷ []) r p (q, tt))
plan_checked_unique tb ps (Err r) (Err s) p q =
    ap Err (refused_by_unique (plan_form tb ps ∷ []) (plan_form_place tb ps, tt) r s p q)
