-- What a game is played with, and where fetching is allowed. It is the source's context-free game on nested words (SPEC 10.3, 10.24).
use Rattle.std.specs.Prelude.{Bool, false, ℕ}
use Rattle.words.specs.Tag.{Tag, opening, closing, Word}
use Rattle.automata.specs.Target.{Target}
use Rattle.automata.specs.Reply.{Form, Lawful}

pub record Game : Type 0 where
  -- the deposit form, for the source's T
  pub target : Target
  -- the fetchable codes, for Γ, its function symbols
  pub fetchable : ℕ → Bool
  -- each fetchable code's reply form, for R
  pub forms : ℕ → Form

-- a fetch is allowed by the tag alone (SPEC 3.2, 3.3)
abbrev pub allowed : Game → Tag → Bool
allowed G (opening c) = false
allowed G (closing c) = G.fetchable c

-- the lawful replies for a code (SPEC 2.8)
abbrev pub LawfulIn : Game → ℕ → Word → Type 0
LawfulIn G c u = Lawful (G.forms c) u
