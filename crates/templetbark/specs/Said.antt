-- What a call of the C surface answers and leaves, as a result of the kind that the promises speak of.
use Rattle.std.specs.Prelude.{List, ℕ}
use Rattle.tables.specs.Refusal.{Result}
use Rattle.tables.specs.declared.answer.Said.{Said}

-- number, place and value as the struct has them, and the later content of the lent output
abbrev pub said_of : Said → List ℕ → Result
said_of s out = record { number = s.number; place = s.place; value = s.value; out = out }
