-- The inverse of a spacing, by which a product does what a division would.
use Rattle.std.specs.Prelude.{ℕ, ◌+◌, ◌/◌}

-- what inverses are fractions of: 2 ^ 40
abbrev pub scale : ℕ
scale = 1099511627776

-- the inverse of a spacing: the law `by_inverse` says that with it a product divides
abbrev pub inverse_of : ℕ → ℕ
inverse_of T = scale / T + 1
