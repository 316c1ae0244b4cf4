-- Laws of reading in turns: what each turn reads stands behind what was read before, and the page of what was read is the
-- page of the whole input.
use Rattle.std.proofs.Common.{◌≡◌, ℕ, ◌+◌, ◌≤◌, ◌<◌, List, [], ◌++◌, arith, length, take, drop, sym, ap, ◌∙◌, refl, subst, drop_at, length-take-le, take_all}
use Rattle.std.specs.declared.option.Option.{Option}
use Rattle.std.specs.declared.option.Option.TheVariants.{None, Some}
use Rattle.std.specs.declared.result.Result.{Result}
use Rattle.std.specs.declared.result.Result.TheVariants.{Ok, Err}
use Rattle.std.specs.Result.{MatchResult, IfOk, IsErrAnd}
use Rattle.std.specs.Io.KnownBytes.{Consumes, Appends, Keeps, IsAtEnd}
use Rattle.std.proofs.lemmas.Slice.{take-put_mid_below}
use Rattle.std.proofs.lemmas.List.{append-nil}
use Rattle.std.proofs.lemmas.Result.{err_from_is_err_and}
use borrow.Rule.Slice.PartMut.{put_mid, post_of}
use lib.Seq.{take-append-le, take-add}
use Rattle.counting.proofs.Cases.{by_le}
use Rattle.program.specs.declared.Fault.{Fault}
use Rattle.program.specs.declared.Fault.TheVariants.{Unwritten}
use Rattle.program.specs.Reply.{Page}
use Rattle.program.specs.Run.{WritesPage}
use Rattle.sheet.proofs.Fronts.{longest_sheet}
use Rattle.program.proofs.Pages.{page_cut}

-- what nothing is written to stays as it was
pub keeps_same : (a : Option (List ℕ)) → Keeps a a
keeps_same None = tt
keeps_same (Some x) = refl

-- the front of a buffer after a read of k bytes behind its first n
pub read_front : (n room k : ℕ) (buf got : List ℕ) → n ≤ length buf → k ≤ length got
    → take n buf ++ take k got ≡ take (n + k) (put_mid n room buf got)
read_front n room k buf got within fits =
    let new = put_mid n room buf got in
    let after = post_of n room buf in
    let front : take n new ≡ take n buf = take-put_mid_below _ _ _ _ _ (omega arith) within in
    let rest : take k (drop n new) ≡ take k got = ap (take k) (drop_at (take n buf) (got ++ after) n (length-take-le n buf within)) ∙ take-append-le k got after fits in
    ap (λ l. l ++ take k got) (sym front) ∙ ap (λ l. take n new ++ l) (sym rest) ∙ sym (take-add n k new)

-- what was read is the input up to the size of the buffer
read_all : (text rest front : List ℕ) (k : ℕ) → text ≡ front ++ rest → length front ≤ k → (length front < k → rest ≡ [])
    → take k text ≡ front
read_all text rest front k e within end =
    by_le k (length front)
    (λ h. ap (take k) e ∙ take-append-le k front rest h ∙ take_all k front within)
    (λ h. ap (take k) (e ∙ ap (λ l. front ++ l) (end h) ∙ append-nil front) ∙ take_all k front within)

-- the page of what was read is the page of the whole input
pub page_written : (a b old new : Option (List ℕ)) (front : List ℕ) (k : ℕ) (page : List ℕ) → Consumes a b front
    → length front ≤ k → (length front < k → IsAtEnd b) → longest_sheet < k → Page front page → Appends old new page
    → WritesPage a old new (Ok tt)
page_written None b old new front k page c within end long p q = tt
page_written (Some text) None old new front k page c within end long p q = absurd c
page_written (Some text) (Some rest) old new front k page c within end long p q =
    (page, page_cut text k page long (subst (λ t. Page t page) (sym (read_all text rest front k c within end)) p), q)

-- a run that ends in a write comes to `Unwritten` where the write fails, and to what it wrote where it does not
pub write_comes : {E : Type 0} (a old new : Option (List ℕ)) (Q : E → Fault → Type 0)
    (r : Result (Unit {0}) E) (m : Result (Unit {0}) Fault) → MatchResult r (λ x. m ≡ Ok x) (λ e. IsErrAnd m (Q e))
    → ((e : E) (f : Fault) → Q e f → f ≡ Unwritten) → IfOk r (λ x. WritesPage a old new (Ok tt)) → WritesPage a old new m
write_comes a old new Q (Ok x) m same named written = rw same written
write_comes a old new Q (Err e) m failed named written =
    let p = err_from_is_err_and m failed in rw (p.1, named e p.0 p.2) tt
