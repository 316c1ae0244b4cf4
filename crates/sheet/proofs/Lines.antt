-- Laws of the lines of a sheet: what they are made of, and that each tells what it says.
use Prim.Native.Nat.{ℕ, ◌≤◌}
use mathlib.Core.Path.{◌≡◌, refl, sym}
use mathlib.Core.Logic.{inl, inr, ⊎_elim}
use mathlib.Core.Option.{Option, none, some}
use mathlib.Core.List.{[], ◌∷◌, ◌++◌, append_assoc}
use native.Mathlib.Omega.{arith}
use lib.ListN.{length, length-append}
use Rattle.decimal.specs.Word.{word}
use Rattle.decimal.specs.Decimal.{decimal}
use Rattle.decimal.proofs.Decimal.{few}
use Rattle.reading.specs.Begins.{Between}
use Rattle.reading.specs.inside.Piece.{Piece, word_piece, OneOf, number_piece, followed}
use Rattle.reading.proofs.Pieces.{Code, code_word, code_followed, Alike, alike_code}
use Rattle.reading.proofs.Numbers.{code_number}
use Rattle.sheet.specs.Sheet.{Region, Task, longest_tick, longest_time, tick_line, region_text, task_line}
use Rattle.sheet.specs.Sheet.{RegionWithin, TaskWithin}
use Rattle.sheet.specs.inside.Read.{tick_piece, task_piece, spaced, spacing, ended, behind_spacing, FitsEnd}
use Rattle.sheet.specs.inside.Read.{region_piece, after_deadline, after_run, times_piece, told}

-- of one byte that may end a number
pub one_end : {x e : ℕ} → OneOf (x ∷ []) e → e ≡ x
one_end = ⊎_elim (λ h. h) (λ h. absurd h)

-- the first line is a word and a number
abbrev pub tick_number : Piece
tick_number = number_piece 1 longest_tick (word "\n")

abbrev pub tick_parts : Piece
tick_parts = followed (word_piece (word "tick ")) (λ _. tick_number)

pub tick_text : (n : ℕ) → tick_parts.text (tt, (n, 10)) ≡ tick_line n
unfolding tick_line
tick_text n = sym (append_assoc (word "tick ") (decimal n) (10 ∷ []))

abbrev pub tick_alike : Alike tick_parts tick_piece
tick_alike =
    record {
      to = λ v. v.1.0;
      allowed = λ v h. h.1.0;
      text = λ v h. rw (one_end h.1.1) (tick_text v.1.0);
      all = λ n h. ((tt, (n, 10)), (tt, (h, inl refl)), refl);
    }

pub code_tick : Code tick_piece
code_tick =
    alike_code tick_alike
    (code_followed (word_piece (word "tick ")) (λ _. tick_number) (code_word (word "tick "))
    (λ _. code_number 1 longest_tick (word "\n") (omega arith, tt)))

-- a region behind a space is two numbers
abbrev pub region_parts : Piece
region_parts = followed (spaced 0) (λ _. ended)

pub region_text_lem : (r : Region) → region_parts.text ((r.start, 32), (r.length, 10)) ≡ behind_spacing (some r)
region_text_lem r = simp append_assoc

abbrev pub region_told : region_parts.Value → Option Region
region_told v = some (record { start = v.0.0; length = v.1.0 })

pub region_all : (r : Option Region) → FitsEnd 32 r →
    (v : region_parts.Value) × region_parts.Allowed v × (region_told v ≡ r)
region_all none h = absurd (omega arith)
region_all (some r) h = (((r.start, 32), (r.length, 10)), ((h.1.0, inl refl), (h.1.1, inl refl)), refl)

abbrev pub region_alike : Alike region_parts (region_piece 32)
region_alike =
    record {
      to = region_told;
      allowed = λ v h. (refl, (h.0.0, h.1.0));
      text = λ v h.
          rw (one_end h.0.1, one_end h.1.1) (region_text_lem (record { start = v.0.0; length = v.1.0 }));
      all = region_all;
    }

-- a time with a space behind it tells itself, and so does a region behind its byte
pub code_spaced : (least : ℕ) → Code (spaced least)
code_spaced least = code_number least longest_time (word " ") (omega arith, tt)

code_region : (end : ℕ) → Code (region_piece end)
code_region end none none ha hb x y e = refl
code_region end none (some r) ha hb x y e = absurd (omega (arith, hb.0))
code_region end (some q) none ha hb x y e = absurd (omega (arith, ha.0))
code_region end (some q) (some r) ha hb x y e =
    alike_code region_alike
    (code_followed (spaced 0) (λ _. ended) (code_spaced 0)
    (λ _. code_number 1 longest_time (word "\n") (omega arith, tt)))
    (some q) (some r) (refl, ha.1) (refl, hb.1) x y e

-- a task line is a word and the times behind it
abbrev pub task_parts : Piece
task_parts = followed (word_piece (word "task ")) (λ _. times_piece)

pub line_ends : (end : ℕ) (r : Option Region) → FitsEnd end r → end ∷ behind_spacing r ≡ region_text r ++ word "\n"
line_ends end none h = rw h
line_ends end (some r) h = rw h.0

pub task_text : (c d t end : ℕ) (r : Option Region) → FitsEnd end r →
    task_parts.text (tt, ((c, 32), ((d, 32), ((t, end), r)))) ≡ task_line (record { C = c; D = d; T = t; region = r })
unfolding task_line
task_text c d t end r h = simp append_assoc (rw (line_ends end r h))

-- a region and the byte in front of it
pub region_within : (end : ℕ) (r : Option Region) → FitsEnd end r → RegionWithin r
region_within end none h = tt
region_within end (some r) h = h.1

pub end_of : (r : Option Region) → RegionWithin r → (end : ℕ) × OneOf (word " \n") end × FitsEnd end r
end_of none h = (10, inr (inl refl), refl)
end_of (some r) h = (32, inl refl, (refl, h))

abbrev pub task_alike : Alike task_parts task_piece
task_alike =
    record {
      to = λ v. told v.1;
      allowed = λ v h.
          record {
            C = h.1.0.0;
            D = h.1.1.0.0;
            T = h.1.1.1.0.0;
            region = region_within v.1.1.1.0.1 v.1.1.1.1 h.1.1.1.1;
          };
      text = λ v h.
          let t = v.1.1.1 in
          rw (one_end h.1.0.1, one_end h.1.1.0.1)
          (task_text v.1.0.0 v.1.1.0.0 t.0.0 t.0.1 t.1 h.1.1.1.1);
      all = λ t h.
          let e = end_of t.region h.region in (
            (tt, ((t.C, 32), ((t.D, 32), ((t.T, e.0), t.region)))),
            (tt, ((h.C, inl refl), ((h.D, inl refl), ((h.T, e.1), e.2)))),
            refl,
          );
    }

pub code_spacing : Code spacing
code_spacing = code_number 1 longest_time (word " \n") (omega arith, (omega arith, tt))

pub code_task : Code task_piece
code_task =
    alike_code task_alike
    (code_followed (word_piece (word "task ")) (λ _. times_piece) (code_word (word "task "))
    (λ _. code_followed (spaced 1) (λ _. after_run) (code_spaced 1)
    (λ _. code_followed (spaced 1) (λ _. after_deadline) (code_spaced 1)
    (λ _. code_followed spacing (λ t. region_piece t.1) code_spacing (λ t. code_region t.1)))))

-- how long the lines are
pub tick_length : (n : ℕ) → Between 1 longest_tick n → length (tick_line n) ≤ 10
unfolding tick_line
tick_length n h = simp length-append (omega (arith, few 3 n (omega arith)))

region_length : (r : Option Region) → RegionWithin r → length (region_text r) ≤ 22
region_length none h = omega arith
region_length (some r) h =
    let s = few 9 r.start (omega (arith, h.0.high)) in
    let l = few 9 r.length (omega (arith, h.1.high)) in simp length-append (omega arith)

pub task_length : (t : Task) → TaskWithin t → (1 ≤ length (task_line t)) × (length (task_line t) ≤ 60)
unfolding task_line
task_length t h =
    let c = few 9 t.C (omega arith) in
    let d = few 9 t.D (omega arith) in
    let s = few 9 t.T (omega arith) in
    let r = region_length t.region h.region in
    (simp length-append (omega arith), simp length-append (omega arith))

-- 1 is within every limit of a time
pub one_time : Between 1 longest_time 1
one_time = record { low = omega arith; high = omega arith }

-- a task that may follow anything
pub one : Task
one = record { C = 1; D = 1; T = 1; region = none }

pub one_within : TaskWithin one
unfolding one
one_within = record { C = one_time; D = one_time; T = one_time; region = tt }
