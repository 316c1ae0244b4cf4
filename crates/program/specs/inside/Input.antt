-- What reading the input answers.
use Rattle.std.specs.Prelude.{ℕ, ◌≤◌, ◌<◌, List, length, take, IfOk}
use Rattle.std.specs.declared.option.Option.{Option}
use Rattle.std.specs.declared.result.Result.{Result}
use Rattle.std.specs.Io.KnownBytes.{Consumes, IsAtEnd}

-- the bytes that were read are no more than the buffer has; of a failed read nothing is said
abbrev pub Within : {E : Type 0} → List ℕ → Result ℕ E → Type 0
Within buf r = IfOk r (λ n. n ≤ length buf)

-- They are the front of what the input had left, where that is known, and all of it where the buffer has room for more.
abbrev pub ReadsFront : {E : Type 0} → Option (List ℕ) → Option (List ℕ) → List ℕ → Result ℕ E → Type 0
ReadsFront old new buf r = IfOk r (λ n. Consumes old new (take n buf) × (n < length buf → IsAtEnd new))
