-- Rounding up: what document 01 means by "ceil(t/T)", and request (i) of document 02 by "C stays rounded up".
use Rattle.std.specs.Prelude.{ℕ, ◌+◌, ◌-◌, ◌/◌}

-- t / d rounded up, for d of at least 1: the least m with t ≤ m · d, as the laws `le_up` and `up_le` of
-- proofs/Up.antt say
unfoldable pub up : ℕ → ℕ → ℕ
up t d = (t + (d - 1)) / d
