-- What an operation's answer tells: any two results that a promise allows are equal, where each check has one place and
-- the given answer is settled; and the number 0 is that of a given answer.
use Prim.Native.Nat.{ℕ, ◌+◌, ◌-◌, ◌≤◌}
use mathlib.Core.Path.{◌≡◌, sym, ◌∙◌}
use mathlib.Core.Bool.{Bool, true, cond, ◌&&◌}
use mathlib.Core.Logic.{◌⊎◌, inr, ⊎_elim}
use mathlib.Core.List.{List, [], ◌∷◌}
use native.Mathlib.Omega.{arith}
use lib.Dec.{leb, eqb}
use lib.ListN.{get_or, drop}
use lib.Seq.{get_or-drop}
use borrow.Author.Tests.{leb-true}
use Rattle.counting.proofs.Cases.{by_bool, and_left, and_right}
use Rattle.counting.proofs.Least.{least_unique}
use Rattle.tables.specs.Table.{Table}
use Rattle.tables.specs.Refusal.{Check, Clear, Outcome, bare, Refused, Granted, Answered}
use Rattle.tables.specs.Checks.{rows_shape, range, plan_form, jobs_shape, job_rules, room}
pub use Rattle.tables.specs.inside.Checked.{AllClear}

-- the check hits at one place at most
abbrev pub OnePlace : Check → Type 0
OnePlace c = (a b : ℕ) → c.hits a → c.hits b → a ≡ b

-- each check of the list does
abbrev pub OnePlaces : List Check → Type 0
OnePlaces [] = Unit
OnePlaces (c ∷ cs) = OnePlace c × OnePlaces cs

-- one value at most is carried by a refusal of one number at one place
abbrev pub OneCarried : {Value : Type 0} → (ℕ → ℕ → Value → Type 0) → Type 0
OneCarried {Value} Carried = (number place : ℕ) (v w : Value) → Carried number place v → Carried number place w → v ≡ w

pub bare_one : OneCarried bare
bare_one number place v w a b = a ∙ sym b

-- one value and one later content of what was lent are given
abbrev pub OneGiven : {Value Lent : Type 0} → (Value → Lent → Type 0) → Type 0
OneGiven {Value} {Lent} Given = (v w : Value) (l m : Lent) → Given v l → Given w m → (v ≡ w) × (l ≡ m)

module _ {Value Lent : Type 0} where
  pub result_same : (r s : Outcome Value Lent) → r.number ≡ s.number → r.place ≡ s.place → r.value ≡ s.value →
      r.out ≡ s.out → r ≡ s
  result_same r s n p v o = λ i. record { number = n i; place = p i; value = v i; out = o i }

  module _ {Carried : ℕ → ℕ → Value → Type 0} (carried : OneCarried Carried) where
    refused_same : (c : Check) (lent : Lent) (r s : Outcome Value Lent) → OnePlace c → Refused Carried c lent r →
        Refused Carried c lent s → r ≡ s
    refused_same c lent r s one a b =
        let e = one r.place s.place a.place b.place in
        result_same r s (a.number ∙ sym b.number) e
        (carried c.number r.place r.value s.value a.value (rw e b.value))
        (a.unwritten ∙ sym b.unwritten)

    pub answered_unique : (cs : List Check) (Given : Value → Lent → Type 0) (lent : Lent) (r s : Outcome Value Lent) →
        OnePlaces cs → (AllClear cs → OneGiven Given) → Answered Carried cs Given lent r →
        Answered Carried cs Given lent s → r ≡ s
    answered_unique [] Given lent r s one given a b =
        let g = given tt r.value s.value r.out s.out a.given b.given in
        result_same r s (a.number ∙ sym b.number) (a.place ∙ sym b.place) g.0 g.1
    answered_unique (c ∷ cs) Given lent r s one given a b =
        ⊎_elim
        (λ x. ⊎_elim (λ y. refused_same c lent r s one.0 x y) (λ y. absurd (y.0 r.place x.place)) b)
        (λ x. ⊎_elim
        (λ y. absurd (x.0 s.place y.place))
        (λ y. answered_unique cs Given lent r s one.1 (λ clear. given (x.0, clear)) x.1 y.1)
        b)
        a

-- no check of the list has the number 0
abbrev pub numbered : List Check → Bool
numbered [] = true
numbered (c ∷ cs) = leb 1 c.number && numbered cs

-- the first check of the list that has the number does not hit, where there is one
abbrev pub ClearAt : ℕ → List Check → Type 0
ClearAt n [] = Unit
ClearAt n (c ∷ cs) = cond (eqb n c.number) (Clear c) (ClearAt n cs)

-- of a list of which no check hits, the one that has the number
pub clear_at : (n : ℕ) (cs : List Check) → AllClear cs → ClearAt n cs
clear_at n [] all = tt
clear_at n (c ∷ cs) all =
    by_bool (eqb n c.number) (λ e. rw e all.0) (λ e. rw e (clear_at n cs all.1))

module _ {Value Lent : Type 0} (Carried : ℕ → ℕ → Value → Type 0) where
  -- an answer with the number 0 is given, and no check hits
  pub granted : (cs : List Check) (Given : Value → Lent → Type 0) (lent : Lent) (r : Outcome Value Lent) →
      numbered cs ≡ true → r.number ≡ 0 → Answered Carried cs Given lent r → AllClear cs × Granted Given r
  granted [] Given lent r some zero a = (tt, a)
  granted (c ∷ cs) Given lent r some zero a =
      let first = leb 1 c.number in
      ⊎_elim
      (λ x. absurd (omega (arith, x.number, leb-true 1 c.number (and_left first (numbered cs) some))))
      (λ x. let g = granted cs Given lent r (and_right first (numbered cs) some) zero x.1 in ((x.0, g.0), g.1))
      a

infixr 1 ◌past◌
-- past a check that does not hit, what answers behind it
pub ◌past◌ : {R C X : Type 0} → C → X → R ⊎ (C × X)
clear past rest = inr (clear, rest)

-- a check that does not hit leaves the answer to those after it
module _ {Value Lent : Type 0} {Carried : ℕ → ℕ → Value → Type 0} where
  pub beyond : {c : Check} {lent : Lent} {r : Outcome Value Lent} {A : Type 0} → Clear c →
      Refused Carried c lent r ⊎ (Clear c × A) → A
  beyond {r = r} clear = ⊎_elim (λ x. absurd (clear r.place x.place)) (λ x. x.1)

-- two lists whose remainders from n on are the same agree from n on
pub same_rest : (n : ℕ) (l m : List ℕ) → drop n l ≡ drop n m → (i : ℕ) → n ≤ i → get_or l i 0 ≡ get_or m i 0
same_rest n l m e i h =
    let q : n + (i - n) ≡ i = omega arith in cc (get_or-drop n l (i - n) 0, get_or-drop n m (i - n) 0)

-- the checks of tables, plans, job lists and outputs
pub shape_place : (width : ℕ) (xs : List ℕ) → OnePlace (rows_shape width xs)
shape_place width xs a b h g = h.0 ∙ sym g.0

pub range_place : (xs : List ℕ) → OnePlace (range xs)
range_place xs a b h g = least_unique h g

pub plan_form_place : (tb : Table) (ps : List ℕ) → OnePlace (plan_form tb ps)
plan_form_place tb ps a b h g =
    ⊎_elim
    (λ x. ⊎_elim (λ y. x.0 ∙ sym y.0) (λ y. absurd (x.1 y.0)) g)
    (λ x. ⊎_elim (λ y. absurd (y.1 x.0)) (λ y. least_unique x.1 y.1) g)
    h

pub jobs_shape_place : (js : List ℕ) → OnePlace (jobs_shape js)
jobs_shape_place js a b h g = h.0 ∙ sym g.0

pub job_rules_place : (tb : Table) (js : List ℕ) → OnePlace (job_rules tb js)
job_rules_place tb js a b h g = least_unique h g

pub room_place : (needed : ℕ) (out : List ℕ) → OnePlace (room needed out)
room_place needed out a b h g = h.0 ∙ sym g.0
