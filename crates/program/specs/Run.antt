-- What a run of the program writes: "prints the plan, or a single line with the refusal".
use Rattle.std.specs.Prelude.{ℕ, List, None, Some, Ok, Err, ⊤}
use Rattle.std.specs.declared.option.Option.{Option}
use Rattle.std.specs.declared.result.Result.{Result}
use Rattle.std.specs.Io.KnownBytes.{Appends, Keeps}
use Rattle.program.specs.declared.Fault.{Fault}
use Rattle.program.specs.declared.Fault.TheVariants.{Unread, Unwritten}
use Rattle.program.specs.Reply.{Page}

-- where the bytes of the input are known the output has grown by the page of all of them
abbrev pub GrowsByPage : Option (List ℕ) → Option (List ℕ) → Option (List ℕ) → Type 0
GrowsByPage None old new = ⊤
GrowsByPage (Some text) old new = (page : List ℕ) × Page text page × Appends old new page

-- Of the input's bytes left, the output's bytes before and after, and what the run came to: where the page was written
-- the output has grown by it; where the input could not be read nothing is written; how much of the page a write that
-- failed left behind is not said.
abbrev pub WritesPage : Option (List ℕ) → Option (List ℕ) → Option (List ℕ) → Result ⊤ Fault → Type 0
WritesPage text old new (Ok _) = GrowsByPage text old new
WritesPage text old new (Err Unread) = Keeps old new
WritesPage text old new (Err Unwritten) = ⊤
