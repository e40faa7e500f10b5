-- A rule of play. A play along a well-nested record has levels: at a point of one level something is known, a value; an opening tag starts
-- a level and keeps the value, and a closing tag ends it. Here is what a rule says, and the arena that is made from it.
use Rattle.std.specs.Prelude.{Bool, false, [], ◌∷◌, ℕ}
use Rattle.words.specs.Tag.{Tag, opening, closing, Word}
use Rattle.automata.specs.Target.{Held, at, stuck, keeping, ended}
use Rattle.game.specs.Arena.{Move, read, fetch, Arena}

pub record Rule : Type 1 where
  -- what is known at a point of one level
  pub Val : Type 0
  -- of code and value: where reading an opening tag leads, the value with which the inside begins (SPEC 3.2, 3.4)
  pub into : ℕ → Val → Val
  -- of code, kept value and the inside's value: where reading a closing tag leads (SPEC 3.3, 3.4)
  pub out : ℕ → Val → Val → Val
  -- of the same: whether a fetch is allowed at the closing tag (SPEC 3.3)
  pub may : ℕ → Val → Val → Bool
  -- of the same and the reply: where fetching leads (SPEC 3.5)
  pub reply : ℕ → Val → Val → Word → Val
  -- the lawful replies for a code (SPEC 2.8)
  pub Lawful : ℕ → Word → Type 0
  -- whether the form is met at the record's end (SPEC 4.2)
  pub met : Val → Bool

-- a fetch at a closing tag takes the kept value back and goes on from where the reply leads: none of the reply's tags is visited (SPEC 3.5,
-- 3.6)
abbrev pub replying : {X : Type 0} → (ℕ → X → X → Word → X) → Word → Tag → Held X → Held X
replying reply u (opening c) k = stuck
replying reply u (closing c) (at r (v ∷ ks)) = at (reply c v r u) ks
replying reply u (closing c) (at r []) = stuck
replying reply u (closing c) stuck = stuck

abbrev playing : (R : Rule) → Move → Tag → Held R.Val → Held R.Val
playing R read t k = keeping R.into R.out t k
playing R (fetch u) t k = replying R.reply u t k

-- a fetch is never allowed at an opening tag (SPEC 3.2), nor where nothing is open
abbrev may_at : (R : Rule) → Tag → Held R.Val → Bool
may_at R (opening c) k = false
may_at R (closing c) (at r (v ∷ ks)) = R.may c v r
may_at R (closing c) (at r []) = false
may_at R (closing c) stuck = false

-- the arena of a rule: a position is a value with the kept values, newest first
abbrev pub arena : Rule → Arena
arena R = record { Pos = Held R.Val; may = may_at R; step = playing R; Lawful = R.Lawful; met = ended R.met }
