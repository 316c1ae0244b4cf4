-- The figures are settled: each is right, and any two answers that a promise allows are equal.
use mathlib.Core.Path.{◌≡◌, sym, subst}
use mathlib.Core.Logic.{◌⊎◌, ⊎_elim}
use mathlib.Core.List.{List, [], ◌∷◌}
use Rattle.tables.specs.Refusal.{Result}
use Rattle.times.proofs.Unique.{times_unique}
use Rattle.plan.proofs.Unique.{plan_unique}
use Rattle.play.proofs.Unique.{play_unique}
use Rattle.starred.specs.Figures.{Figure, plans, refuses, stops, timed, plays, takes, shortest, Right, AllRight}
use Rattle.starred.specs.Figures.{figures, further, region_figures}
use Rattle.starred.proofs.Figures.{starred_figures, region_figures_right, urgent_right, thirds_right, over_right}
use Rattle.demands.specs.Settled.{Only, Settled, AllSettled, FiguresSettled}

-- where any two answers are equal, one that is allowed is the only one
only : {Answer : Result → Type 0} → ((r s : Result) → Answer r → Answer s → r ≡ s) → (s : Result) → Answer s →
    Only Answer s
only {Answer} one s right r = (λ a. one r s a right, λ e. subst Answer (sym e) right)

settled : (f : Figure) → Right f → Settled f
settled (plans xs ys) right = λ out same. only (plan_unique xs out) _ (right out same)
settled (refuses xs number place) right = λ out room. only (plan_unique xs out) _ (right out room)
settled (stops xs ps r) right = λ out room. only (plan_unique xs out) _ (right.0 out room)
settled (timed xs ps ys) right = λ out same. only (times_unique xs ps out) _ (right out same)
settled (plays xs ps js ys) right = λ out same. only (play_unique xs ps js out) _ (right out same)
settled (takes xs ps i k ticks) right = tt
settled (shortest xs ps r z q) right = tt

all_settled : (fs : List Figure) → AllRight fs → AllSettled fs
all_settled [] all = tt
all_settled (f ∷ fs) all = (settled f all.0, all_settled fs all.1)

further_right : AllRight further
unfolding further
further_right = (urgent_right, (thirds_right, (over_right, tt)))

pub figures_settled : FiguresSettled
figures_settled = (
  all_settled figures starred_figures,
  all_settled further further_right,
  all_settled region_figures region_figures_right,
)

-- a figure of a list
abbrev pub Among : Figure → List Figure → Type 0
Among f [] = ⊥
Among f (g ∷ gs) = (f ≡ g) ⊎ Among f gs

-- of a list of settled figures each is settled
settled_among : (f : Figure) (fs : List Figure) → AllSettled fs → Among f fs → Settled f
settled_among f [] all h = absurd h
settled_among f (g ∷ gs) all h = ⊎_elim (λ e. rw e all.0) (settled_among f gs all.1) h

pub region_settled : (f : Figure) → Among f region_figures → Settled f
region_settled f = settled_among f region_figures figures_settled.2
