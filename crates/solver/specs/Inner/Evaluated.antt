-- What the evaluators give back: a set of values and where the part that was judged begins. The sets are those of Before.antt.
use Rattle.std.specs.Prelude.{◌≡◌, Bool, true, ◌&&◌, List, ◌++◌, ℕ, ◌<◌, ◌≤◌, length, take}
use Rattle.words.specs.Tag.{Word, word_of}
use Rattle.words.specs.Forest.{Forest, none, elem, tags}
use Rattle.words.specs.Vocabulary.{fetchable}
use Rattle.words.specs.Decide.Words.{TagBytes}
use Rattle.words.specs.Inner.All.{all}
use Rattle.words.specs.Inner.Unclosed.{Unclosed}
use Rattle.automata.specs.Bits.{bit}
use Rattle.automata.specs.Reply.{Form, Lawful}
use Rattle.automata.specs.TargetBody.{target_of}
use Rattle.effects.specs.Inner.Lent.{results, LentOf}
use Rattle.contents.specs.Contents.{has_form}
use Rattle.game.specs.Inner.Before.{goal_by, before}
use Rattle.solver.specs.declared.evaluate.Inside.{Inside}

-- What evaluators know of a rule: the values that come up, where an opening tag leads, the goals of insides, and the masks that hold sets.
pub record Judge : Type 1 where
  pub Val : Type 0
  pub Fit : Val → Type 0
  pub into : ℕ → Val → Val
  pub goal : ℕ → Val → (Val → Bool) → Val → Bool
  pub Mask : Type 0
  pub has : Mask → Val → Bool

module _ (J : Judge) where
  -- the values from which a forest is won, if those of S are won after it
  abbrev pub won_before : Forest → (J.Val → Bool) → J.Val → Bool
  won_before f S = before J.into J.goal f S

  -- of the values that come up, a mask has those of a set
  abbrev pub Holds : J.Mask → (J.Val → Bool) → Type 0
  Holds m S = (v : J.Val) → J.Fit v → J.has m v ≡ S v

  -- the longest forest that ends at `end`: its set, for any forest f after a word u that no closing tag ends
  abbrev pub StatesJudged : List ℕ → ℕ → J.Mask → J.Mask → Type 0
  StatesJudged bytes end goal won =
      (u : Word) (f : Forest) → word_of (take end bytes) ≡ u ++ tags f → Unclosed u → Holds won (won_before f (J.has goal))

  pub record ForestJudged (bytes : List ℕ) (end : ℕ) (goal : J.Mask) (start : ℕ) (won : J.Mask) : Type 0 where
    pub within : start ≤ end
    pub begins : (u : Word) (f : Forest) → word_of (take end bytes) ≡ u ++ tags f → Unclosed u → start ≡ length u
    pub states : StatesJudged bytes end goal won

  -- the element that ends at `end`
  pub record ElementJudged (bytes : List ℕ) (end : ℕ) (goal : J.Mask) (start : ℕ) (won : J.Mask) : Type 0 where
    pub within : start < end
    pub begins : (u : Word) (c : ℕ) (f : Forest) → word_of (take end bytes) ≡ u ++ tags (elem c f none) → start ≡ length u
    pub states : (u : Word) (c : ℕ) (f : Forest) → word_of (take end bytes) ≡ u ++ tags (elem c f none) →
        Holds won (won_before (elem c f none) (J.has goal))

  -- an element of code c around the longest forest that ends at `end`
  abbrev pub AroundJudged : List ℕ → ℕ → ℕ → J.Mask → J.Mask → Type 0
  AroundJudged bytes end c goal won =
      (u : Word) (f : Forest) → word_of (take end bytes) ≡ u ++ tags f → Unclosed u → Holds won (won_before (elem c f none) (J.has goal))

-- an element of code c, opened in q, can be fetched at its closing tag with only results in the goal
abbrev pub fetch_wins : List ℕ → ℕ → ℕ → ℕ → Bool
fetch_wins sets c goal q = fetchable c && all (bit goal) (results sets c q)

-- the play in which a fetch replaces an element, on a target body and the sets lent: states, with masks of one bit for each
abbrev pub state_goal : List ℕ → List ℕ → ℕ → ℕ → (ℕ → Bool) → ℕ → Bool
state_goal target sets = goal_by (λ c q r. (target_of target).close_to r q c) (λ c q r. fetchable c) (λ c q r. results sets c q)

abbrev pub by_states : List ℕ → List ℕ → Judge
by_states target sets =
    record {
      Val = ℕ;
      Fit = λ q. q < (target_of target).states;
      into = λ c q. (target_of target).open_to q c;
      goal = state_goal target sets;
      Mask = ℕ;
      has = bit;
    }

-- a mask has the goal of the inside of an element of code c, opened in q
abbrev pub GoalIs : List ℕ → List ℕ → ℕ → ℕ → ℕ → ℕ → Type 0
GoalIs target sets c q goal m = Holds (by_states target sets) m (state_goal target sets c q (bit goal))

-- a mask has the states from which an element with nothing inside is won
abbrev pub NothingJudged : List ℕ → List ℕ → ℕ → ℕ → ℕ → Type 0
NothingJudged target sets c goal m = Holds (by_states target sets) m (won_before (by_states target sets) (elem c none none) (bit goal))

-- the sets lent are those of some reply forms, each with a lawful reply
pub record AnsweredForms (target sets : List ℕ) : Type 0 where
  pub forms : ℕ → Form
  pub effects : LentOf (target_of target) has_form forms sets
  pub answered : (c : ℕ) → has_form c ≡ true → (u : Word) × Lawful (forms c) u

-- the part of a record before `end` can be judged
pub record Judgeable (target sets bytes : List ℕ) (end : ℕ) : Type 0 where
  pub answered : AnsweredForms target sets
  pub coded : TagBytes bytes
  pub within : end ≤ length bytes

-- the inside that ends at `end` was judged for two goals
pub record InsideJudged (target sets bytes : List ℕ) (end : ℕ) (i : Inside) : Type 0 where
  pub last : StatesJudged (by_states target sets) bytes end i.last.goal i.last.won
  pub older : StatesJudged (by_states target sets) bytes end i.older.goal i.older.won

-- the inside that ends at `end` was judged for the goal asked for
pub record InsideFor (target sets bytes : List ℕ) (end goal won : ℕ) (i : Inside) : Type 0 where
  pub asked : StatesJudged (by_states target sets) bytes end goal won
  pub kept : InsideJudged target sets bytes end i
