-- A text that stands in a buffer.
use Rattle.std.specs.Prelude.{ℕ, ◌+◌, ◌≤◌, ◌≡◌, List, ◌++◌, length, take, drop}
use Rattle.decimal.specs.declared.Written.{Written}

-- the buffer b with the text t over it from the place at on, and as it was before and behind
abbrev pub placed : List ℕ → ℕ → List ℕ → List ℕ
placed b at t = take at b ++ t ++ drop (at + length t) b

-- the buffer holds t from the place at on, and next is the place behind it
pub record Put (b : List ℕ) (at : ℕ) (t after : List ℕ) (next : ℕ) : Type 0 where
  pub behind : next ≡ at + length t
  pub whole : after ≡ placed b at t

-- behind what has been written there is room for the text t
pub record Room (w : Written) (t : List ℕ) : Type 0 where
  pub fits : w.at + length t ≤ length w.buf.now

-- the text t is written behind what had been written, to the same buffer
pub record Writes (w : Written) (t : List ℕ) (v : Written) : Type 0 where
  pub same_buffer : v.buf.ghost_name ≡ w.buf.ghost_name
  pub put : Put w.buf.now w.at t v.buf.now v.at
