-- Laws of the answers of `print` and `fit`: the one tells the other, and any two answers that a promise allows are
-- equal.
use Prim.Native.Nat.{ℕ, ◌≤◌}
use mathlib.Core.Path.{◌≡◌, refl, sym, ap, ◌∙◌}
use mathlib.Core.Logic.{inl, inr, ⊎_elim}
use mathlib.Core.List.{List, [], ◌∷◌}
use native.Mathlib.Omega.{arith}
use lib.ListN.{length, take}
use lib.Seq.{take-append_seam}
use Rattle.counting.proofs.Cases.{by_le, by_eq}
use Rattle.tables.specs.Planned.{planned_width}
use Rattle.tables.specs.Refusal.{Check, Clear, Result, bare, Granted, Answered}
use Rattle.tables.specs.Checks.{planned_shape}
use Rattle.printing.specs.Printed.{plan_text}
use Rattle.tables.proofs.Answered.{OnePlace, OnePlaces, bare_one, answered_unique, granted, shape_place}
use Rattle.printing.proofs.Printed.{never_empty}
use Rattle.printing.specs.Answers.{room_in, fit_checks, FitGiven, FitAnswer, PrintAnswer, PrintGiven}
use Rattle.printing.specs.Answers.{PrintFront}

-- r with another later content of the output
abbrev pub leaving : List ℕ → Result → Result
leaving out r = record { number = r.number; place = r.place; value = r.value; out = out }

-- an answer tells of one with another output lent, where what is given there follows
leave : (cs : List Check) (G H : ℕ → List ℕ → Type 0) (out l : List ℕ) (r : Result) → (Granted G r → H r.value l) →
    Answered bare cs G out r → Answered bare cs H l (leaving l r)
leave [] G H out l r f a = record { number = a.number; place = a.place; given = f a }
leave (c ∷ cs) G H out l r f a =
    ⊎_elim
    (λ x. inl (record { number = x.number; place = x.place; value = x.value; unwritten = refl }))
    (λ x. inr (x.0, leave cs G H out l r f x.1))
    a

-- a refusal has the value 0
refused_value : (cs : List Check) (G : ℕ → List ℕ → Type 0) (out : List ℕ) (r : Result) → (r.number ≡ 0 → ⊥) →
    Answered bare cs G out r → r.value ≡ 0
refused_value [] G out r n a = absurd (n a.number)
refused_value (c ∷ cs) G out r n a = ⊎_elim (λ x. x.value) (λ x. refused_value cs G out r n x.1) a

module _ (planned out : List ℕ) where
  -- what fit says is given
  pub fit_given : {len : ℕ} {r : Result} → FitAnswer planned len r → r.number ≡ 0 →
      Clear (planned_shape planned) × (length (plan_text planned) ≤ len) × (r.place ≡ 0)
      × (r.value ≡ length (plan_text planned))
  fit_given {len} {r} a z =
      let g = granted bare (fit_checks planned len) (FitGiven planned) [] r refl z a in (
        g.0.0,
        by_le (length (plan_text planned)) len (λ h. h) (λ h. absurd (g.0.1.0 0 (refl, h))),
        g.1.place,
        g.1.given.many,
      )

  -- what fit refuses is refused by print, and nothing is written
  pub print_refused : {r : Result} → FitAnswer planned (length out) r → (r.number ≡ 0 → ⊥) →
      PrintAnswer planned out (leaving out r)
  print_refused {r} a n =
      leave (fit_checks planned (length out)) (FitGiven planned) (PrintGiven planned out) [] out r
      (λ g. absurd (n g.number)) a

  -- what print answers is fit's answer
  pub fit_of_print : {r : Result} → PrintAnswer planned out r → FitAnswer planned (length out) (leaving [] r)
  fit_of_print {r} a =
      leave (fit_checks planned (length out)) (PrintGiven planned out) (FitGiven planned) out [] r
      (λ g. record { many = g.given.many; unlent = refl }) a

  none : {r : Result} → PrintAnswer planned out r → (r.number ≡ 0 → ⊥) → r.value ≡ 0
  none {r} a n = refused_value (fit_checks planned (length out)) (PrintGiven planned out) out r n a

  -- the front that is as long as the value
  pub front : {r : Result} → PrintAnswer planned out r → PrintFront planned (length out) (take r.value r.out)
  front {r} a =
      record {
        answer = leaving [] r;
        fit = fit_of_print a;
        given = λ z.
            let g = (granted bare (fit_checks planned (length out)) (PrintGiven planned out) out r refl z a).1.given in
            rw (g.whole, g.many, take-append_seam);
        refused = λ n. rw (none a n);
      }

  -- and it is no longer than the buffer
  pub front_within : {r : Result} → PrintAnswer planned out r → length r.out ≡ length out →
      r.value ≤ length r.out
  front_within {r} a e =
      by_eq r.number 0
      (λ z. let g = fit_given (fit_of_print a) z in omega arith)
      (λ n. omega (arith, none a n))

-- any two answers are equal
room_in_place : (needed len : ℕ) → OnePlace (room_in needed len)
room_in_place needed len a b h g = h.0 ∙ sym g.0

fit_places : (planned : List ℕ) (len : ℕ) → OnePlaces (fit_checks planned len)
fit_places planned len = (shape_place planned_width planned, (room_in_place (length (plan_text planned)) len, tt))

pub fit_unique : (planned : List ℕ) (len : ℕ) (r s : Result) → FitAnswer planned len r → FitAnswer planned len s → r ≡ s
fit_unique planned len r s =
    answered_unique bare_one (fit_checks planned len) (FitGiven planned) [] r s
    (fit_places planned len)
    (λ clear v w l m g h. (g.many ∙ sym h.many, g.unlent ∙ sym h.unlent))

pub print_unique : (planned out : List ℕ) (r s : Result) → PrintAnswer planned out r → PrintAnswer planned out s → r ≡ s
print_unique planned out r s =
    answered_unique bare_one (fit_checks planned (length out)) (PrintGiven planned out) out r s
    (fit_places planned (length out))
    (λ clear v w l m g h. (g.many ∙ sym h.many, g.whole ∙ sym h.whole))

pub front_unique : (planned : List ℕ) (len : ℕ) (a b : List ℕ) → PrintFront planned len a → PrintFront planned len b →
    a ≡ b
front_unique planned len a b p q =
    let e = ap (λ (r : Result). r.number) (fit_unique planned len p.answer q.answer p.fit q.fit) in
    by_eq p.answer.number 0
    (λ z. p.given z ∙ sym (q.given (sym e ∙ z)))
    (λ n. p.refused n ∙ sym (q.refused (λ z. n (e ∙ z))))

-- a printed plan is never empty: an empty front is a refusal
pub front_empty : (planned : List ℕ) (len : ℕ) (a : List ℕ) (p : PrintFront planned len a) → a ≡ [] →
    p.answer.number ≡ 0 → ⊥
front_empty planned len a p e z = let l = ap length (sym (p.given z) ∙ e) in omega (arith, never_empty planned)
