-- The game on what a play holds, the target's state and the kept states: by it advice is given also to a play that no moves lead to
-- (SPEC 4.10). It is the arena of the rule by which a fetch replaces an element.
use Rattle.std.specs.Prelude.{[], ℕ}
use Rattle.words.specs.Tag.{Word}
use Rattle.automata.specs.Target.{Target, Config, at, stuck, run}
use Rattle.game.specs.Arena.{Arena}
use Rattle.game.specs.Game.{Game, LawfulIn}
use Rattle.game.specs.Rule.{Rule, arena}

-- the state in which a reply's run from a state ends
abbrev pub end_state : Config → ℕ
end_state (at q ks) = q
end_state stuck = 0

-- a fetch goes on from the state q that was kept at the opening tag (SPEC 3.5), whatever the element's code c and the state r at its
-- closing tag
abbrev pub replied : Target → ℕ → ℕ → ℕ → Word → ℕ
replied A c q r u = end_state (run A u (at q []))

-- what is known at a point of one level is the target's state; reading is the target's step, since the tag goes to the finished part's end
-- (SPEC 3.4)
abbrev pub replacing : Game → Rule
replacing G =
    record {
      Val = ℕ;
      into = λ c q. G.target.open_to q c;
      out = λ c q r. G.target.close_to r q c;
      may = λ c q r. G.fetchable c;
      reply = replied G.target;
      Lawful = LawfulIn G;
      met = G.target.accepting;
    }

abbrev pub held : Game → Arena
held G = arena (replacing G)
