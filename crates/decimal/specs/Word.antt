-- The bytes of a word as it stands on a sheet or a printed plan, the code of each character: document 01, "Sheet
-- and printed plan", has ASCII only.
use Rattle.std.specs.Prelude.{ℕ, List, [], ◌∷◌}
use Prim.Native.Char.{code}
use Prim.Native.String.{String, [] as none, ◌∷◌ as ◌then◌}

abbrev pub word : String → List ℕ
word none = []
word (◌then◌ c s) = code c ∷ word s
