-- Any two lists that the promise of `responses` or `blocks_of` allows are equal; `blocking_of` promises an equation.
use Prim.Native.Nat.{ℕ}
use mathlib.Core.Path.{◌≡◌, sym, ◌∙◌}
use mathlib.Core.List.{List}
use lib.ListN.{get_or}
use lib.Seq.{ext_get_or}
use Rattle.counting.proofs.Cases.{by_le}
use Rattle.tables.specs.Table.{Table}
use Rattle.tables.specs.Plan.{Plan}
use Rattle.test.proofs.Response.{response_unique}
use Rattle.responses.specs.inside.Asked.{Column, Blocks, Responses}

column_unique : (n : ℕ) (Holds : ℕ → ℕ → Type 0) → ((i a b : ℕ) → Holds i a → Holds i b → a ≡ b) → (l m : List ℕ) →
    Column n Holds l → Column n Holds m → l ≡ m
column_unique n Holds one l m a b =
    ext_get_or 0 l m (a.whole ∙ sym b.whole)
    (λ i _. by_le n i
    (λ h. a.past i h ∙ sym (b.past i h))
    (λ h. one i (get_or l i 0) (get_or m i 0) (a.each i h) (b.each i h)))

pub blocks_unique : (tb : Table) (p : Plan) (l m : List ℕ) → Blocks tb p l → Blocks tb p m → l ≡ m
blocks_unique tb p = column_unique tb.n _ (λ i a b e f. e ∙ sym f)

pub responses_unique : (tb : Table) (p : Plan) (l m : List ℕ) → Responses tb p l → Responses tb p m → l ≡ m
responses_unique tb p = column_unique tb.n _ (λ i R S. response_unique tb _ _ i _ R S)
