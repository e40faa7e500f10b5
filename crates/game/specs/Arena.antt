-- Moves, strategies, won and lost (SPEC 3.1 to 3.10, 4.1 to 4.4), said once for every kind of position. What a position is, which fetches
-- are allowed there, where a move leads and which ends are good is an arena's to say.
use Rattle.std.specs.Prelude.{◌≡◌, Bool, true, false, ◌&&◌, List, [], ◌∷◌, ℕ}
use Rattle.words.specs.Tag.{Tag, Word, code_of}

-- the two moves, a fetch with its reply (SPEC 3.2, 3.3); the source has Read, and Call with the word that Romeo plays (SPEC 10.6 to 10.8)
pub data Move : Type 0 where
  read : Move
  fetch : Word → Move

-- A "strategy" (SPEC 3.10): given the moves and replies since a point, oldest first, whether to fetch where that is allowed. It is a "way
-- of going on" from that point (SPEC 4.1).
abbrev pub Strategy : Type 0
Strategy = List Move → Bool

-- how a strategy goes on after a move
unfoldable pub after : Strategy → Move → Strategy
after σ m = λ h. σ (m ∷ h)

pub record Arena : Type 1 where
  pub Pos : Type 0
  -- whether a fetch is allowed at a tag
  pub may : Tag → Pos → Bool
  -- where a move leads, made for a tag (SPEC 3.1)
  pub step : Move → Tag → Pos → Pos
  -- the lawful replies for a code
  pub Lawful : ℕ → Word → Type 0
  -- the objective: whether the form is met at the record's end (SPEC 4.2)
  pub met : Pos → Bool

module _ (G : Arena) where
  -- y is a position in which σ, played from x along the tags w, can end: a fetch goes on with any lawful reply, of any length
  abbrev pub Ends : Strategy → Word → G.Pos → G.Pos → Type 0
  Ends σ [] x y = x ≡ y
  Ends σ (t ∷ w) x y =
      elim (G.may t x && σ []) [
        | true ↦ (u : Word) × G.Lawful (code_of t) u × Ends (after σ (fetch u)) w (G.step (fetch u) t x) y
        | false ↦ Ends (after σ read) w (G.step read t x) y
      ]

  -- "won": some strategy ends in the form, wherever lawful replies let it end (SPEC 4.3)
  unfoldable pub Won : Word → G.Pos → Type 0
  Won w x = (σ : Strategy) × ((y : G.Pos) → Ends σ w x y → G.met y ≡ true)

  -- "lost": to every strategy there are lawful replies with which it ends outside (SPEC 4.4)
  unfoldable pub Lost : Word → G.Pos → Type 0
  Lost w x = (σ : Strategy) → (y : G.Pos) × Ends σ w x y × (G.met y ≡ false)

  -- with the tag t left and then w (SPEC 4.7): reading keeps the play won; fetching is allowed and does, whatever lawful reply comes
  abbrev pub ReadKeepsWon : Tag → Word → G.Pos → Type 0
  ReadKeepsWon t w x = Won w (G.step read t x)

  abbrev pub FetchKeepsWon : Tag → Word → G.Pos → Type 0
  FetchKeepsWon t w x = (G.may t x ≡ true) × ((u : Word) → G.Lawful (code_of t) u → Won w (G.step (fetch u) t x))
