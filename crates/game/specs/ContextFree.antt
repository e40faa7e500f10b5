-- Context-free games on nested words, as the source defines them (SPEC 10). Demand 2 names the replay-free one. That on every accepted file
-- its winning and losing are those of the verdict is shown in proofs/ContextFree/Replay.antt.
use Rattle.std.specs.Prelude.{◌≡◌, Bool, true, cond, ℕ, suc, max, ◌≤◌, length, replicate, get_or}
use mathlib.Core.List.{List, [], ◌∷◌, ◌++◌, tail}
use Rattle.words.specs.Tag.{Tag, opening, closing, Word, IsCode}
use Rattle.words.specs.Forest.{WellNested}
use Rattle.automata.specs.Target.{in_form}
use Rattle.automata.specs.Reply.{Lawful}
use Rattle.game.specs.Game.{Game}

-- a "context-free game" (Σ, Γ, R, T) (SPEC 10.3); Σ is the codes, and WF(Σ) the words that are `WellNested`
pub record CfGame : Type 1 where
  pub Γ : ℕ → Bool
  pub R : ℕ → Word → Type 0
  pub T : Word → Type 0

-- Γ, R and T lie where they should, and no R_a is empty, which refusal 17 sees to; of T it is not asked (SPEC 10.3, 10.25)
pub record Proper (G : CfGame) : Type 0 where
  pub symbols : (a : ℕ) → G.Γ a ≡ true → IsCode a
  pub rules : (a : ℕ) (y : Word) → G.R a y → (G.Γ a ≡ true) × WellNested y
  pub target : (w : Word) → G.T w → WellNested w
  pub answered : (a : ℕ) → G.Γ a ≡ true → (y : Word) × G.R a y

-- the game of a target, reply forms and fetchable codes (SPEC 10.24)
abbrev pub context_free : Game → CfGame
context_free G =
    record {
      Γ = G.fetchable;
      R = λ a y. (G.fetchable a ≡ true) × Lawful (G.forms a) y;
      T = λ w. WellNested w × (in_form G.target w ≡ true);
    }

-- the players, J and R (SPEC 10.5)
pub data Player : Type 0 where
  juliet romeo : Player

-- a "configuration" (p, u, v) (SPEC 10.5); every move keeps uv well nested
pub data Configuration : Type 0 where
  config : Player → Word → Word → Configuration

-- κ₀(w), with which a play on w begins (SPEC 10.9)
abbrev pub initial : Word → Configuration
initial w = config juliet [] w

-- Juliet plays Read or Call, and Romeo plays a word
pub data PlayerMove : Type 0 where
  Read Call : PlayerMove
  Reply : Word → PlayerMove

-- a step from one configuration to the next, by the move played
pub data Successor (G : CfGame) : PlayerMove → Configuration → Configuration → Type 0 where
  -- (1) Juliet reads a tag (SPEC 10.6)
  reads : {u u' v' : Word} {s : Tag} → u' ≡ u ++ (s ∷ []) → Successor G Read (config juliet u (s ∷ v')) (config juliet u' v')
  -- (2) Juliet calls at a closing tag (SPEC 10.7)
  calls : {u z : Word} {a : ℕ} → G.Γ a ≡ true → Successor G Call (config juliet u (closing a ∷ z)) (config romeo u (closing a ∷ z))
  -- (3) Romeo's reply y' takes the element's place, and the play goes on at the first symbol of y' (SPEC 10.8)
  replies : {u x y z y' v' : Word} {a : ℕ} → u ≡ x ++ (opening a ∷ y) → WellNested y → G.R a y' → v' ≡ y' ++ z →
      Successor G (Reply y') (config romeo u (closing a ∷ z)) (config juliet x v')

module _ (G : CfGame) where
  -- where Call is allowed
  abbrev pub Callable : Word → Type 0
  Callable [] = ⊥
  Callable (opening a ∷ z) = ⊥
  Callable (closing a ∷ z) = G.Γ a ≡ true

  -- Strategies of the two players, of the beginning of a play (SPEC 10.10): the earlier configurations newest first, then the last one.
  -- Juliet's is true for Call.
  pub record Juliet : Type 0 where
    pub calls : List Configuration → Configuration → Bool
    pub allowed : (h : List Configuration) (u v : Word) → calls h (config juliet u v) ≡ true → Callable v

  pub record Romeo : Type 0 where
    pub replies : List Configuration → Configuration → Word
    pub allowed : (h : List Configuration) (u z : Word) (a : ℕ) → G.Γ a ≡ true → G.R a (replies h (config romeo u (closing a ∷ z)))

  module _ (σ : Juliet) (τ : Romeo) where
    abbrev pub played : List Configuration → Configuration → PlayerMove
    played h (config juliet u v) = cond (σ.calls h (config juliet u v)) Call Read
    played h (config romeo u v) = Reply (τ.replies h (config romeo u v))

    -- a part of the play Π(σ, τ, w): after the configurations h it leads from κ to κ', by the moves of σ and τ (SPEC 10.11)
    pub data Leads : List Configuration → Configuration → Configuration → Type 0 where
      here : {h : List Configuration} {κ : Configuration} → Leads h κ κ
      goes : {h : List Configuration} {κ κ' κ'' : Configuration} (m : PlayerMove) → played h κ ≡ m → Successor G m κ κ' →
          Leads (κ ∷ h) κ' κ'' → Leads h κ κ''

    -- Juliet wins (SPEC 10.9): the play comes to (J, u, ε), which has no successor, with u in T
    abbrev pub JulietWins : Word → Type 0
    JulietWins w = (u : Word) × Leads [] (initial w) (config juliet u []) × G.T u

    -- "Call depth" (SPEC 10.15); for each symbol of v the list has how many replies it stands inside
    abbrev pub call_depth : {h : List Configuration} {κ κ' : Configuration} → Leads h κ κ' → List ℕ → ℕ
    call_depth here ds = 0
    call_depth (goes Read e s p) ds = call_depth p (tail ds)
    call_depth (goes Call e s p) ds = max (suc (get_or ds 0 0)) (call_depth p ds)
    call_depth (goes (Reply y) e s p) ds = call_depth p (replicate (length y) (suc (get_or ds 0 0)) ++ tail ds)

  -- "k-bounded" Call depth (SPEC 10.16), said of every part of every play of σ from its start
  abbrev pub CallDepthWithin : ℕ → Juliet → Type 0
  CallDepthWithin k σ =
      (w : Word) → WellNested w → (τ : Romeo) (κ : Configuration) (p : Leads σ τ [] (initial w) κ) →
      call_depth σ τ p (replicate (length w) 0) ≤ k

  -- "replay-free" (SPEC 10.17)
  abbrev pub ReplayFree : Juliet → Type 0
  ReplayFree σ = CallDepthWithin 1 σ

  -- Juliet has a replay-free strategy that wins on w against every τ (SPEC 10.12): w is in JWin¹(G) (SPEC 10.18)
  unfoldable pub JulietHasStrategy : Word → Type 0
  JulietHasStrategy w = (σ : Juliet) × ReplayFree σ × ((τ : Romeo) → JulietWins σ τ w)

  -- Romeo has a strategy that wins on w against every σ that is replay-free (SPEC 10.12, 10.24)
  unfoldable pub RomeoHasStrategy : Word → Type 0
  RomeoHasStrategy w = (τ : Romeo) × ((σ : Juliet) → ReplayFree σ → ¬ JulietWins σ τ w)
