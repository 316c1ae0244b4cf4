-- Laws of reading the lines of a sheet: what could follow where a reader is stuck, and what is read behind what was
-- read.
use Prim.Native.Nat.{ℕ}
use mathlib.Core.Path.{◌≡◌, refl}
use mathlib.Core.Logic.{inl, inr, ⊎_elim}
use mathlib.Core.Option.{Option, none, some}
use native.Mathlib.Omega.{arith}
use Rattle.std.proofs.Common.{Result, Err}
use Rattle.std.specs.Result.{IsErr, IsErrAnd}
use Rattle.std.proofs.lemmas.Result.{err_from_is_err_and}
use Rattle.reading.specs.inside.Piece.{Piece, Stuck}
use Rattle.reading.specs.inside.Read.{Past}
use Rattle.reading.specs.declared.Cursor.{Cursor}
use Rattle.reading.proofs.Cursors.{past_both, past_stuck}
use Rattle.sheet.specs.Sheet.{Region}
use Rattle.sheet.specs.inside.Read.{spaced, spacing, ended, region_piece, after_deadline, after_run}
use Rattle.sheet.specs.inside.Read.{times_piece}
use Rattle.sheet.proofs.Lines.{one_end, tick_number, code_spaced, one_time}

-- something that the piece allows, and so could follow
abbrev pub Some : Piece → Type 0
Some P = (v : P.Value) × P.Allowed v

pub some_tick : Some tick_number
some_tick = ((1, 10), (record { low = omega arith; high = omega arith }, inl refl))

pub some_length : Some ended
some_length = ((1, 10), (one_time, inl refl))

pub some_region : (v : spacing.Value) → spacing.Allowed v → Some (region_piece v.1)
some_region v h =
    ⊎_elim
    (λ e. (some (record { start = 1; length = 1 }), (e, (record { low = omega arith; high = omega arith }, one_time))))
    (λ e. (none, one_end e))
    h.1

pub some_spacing : Some after_deadline
some_spacing = (((1, 10), none), ((one_time, inr (inl refl)), refl))

pub some_deadline : Some after_run
some_deadline = (((1, 32), some_spacing.0), ((one_time, inl refl), some_spacing.1))

pub some_times : Some times_piece
some_times = (((1, 32), some_deadline.0), ((one_time, inl refl), some_deadline.1))

-- no region behind a line feed
pub no_region : (c : Cursor) (end : ℕ) → end ≡ 10 → Past (region_piece end) c c none
no_region c end e =
    record { text = refl; passed = record { allowed = e; within = c.within; behind = omega arith; split = refl } }

-- run and deadline read, and what is read behind them
module _ {c d e : Cursor} {run deadline : ℕ × ℕ} (p : Past (spaced 1) c d run) (q : Past (spaced 1) d e deadline) where
  pub times_stuck : {place : ℕ} → Stuck after_deadline e.text.now e.at place → Stuck times_piece c.text.now c.at place
  times_stuck h =
      past_stuck (λ _. after_run) p (code_spaced 1) (past_stuck (λ _. after_deadline) q (code_spaced 1) h)

  pub times_past : {f g : Cursor} {last : ℕ × ℕ} {r : Option Region} → Past spacing e f last →
      Past (region_piece last.1) f g r → Past times_piece c g (run, (deadline, (last, r)))
  times_past h k =
      past_both (λ _. after_run) p (past_both (λ _. after_deadline) q (past_both (λ t. region_piece t.1) h k))

-- what a `?` hands on is the place at which the reader was stuck
pub hands_on : {T : Type 0} (Q : Result T ℕ → Type 0) {r : Result T ℕ} {place : ℕ} →
    IsErr r × IsErrAnd r (λ y. y ≡ place) → Q (Err place) → Q r
hands_on Q {r} h q = let p = err_from_is_err_and r h.1 in rw (p.1, p.2) q
