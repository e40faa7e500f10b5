-- The game on words, by which verdict and demand 3 are measured (SPEC 4.2, 4.5, 5.8). A position is the "spelling" (SPEC 3.11).
use mathlib.Core.List.{List, [], ◌∷◌, ◌++◌, tail}
use Rattle.std.specs.Prelude.{ℕ, length, take, get_or}
use Rattle.words.specs.Tag.{Tag, opening, closing, Word}
use Rattle.automata.specs.Target.{in_form}
use Rattle.game.specs.Arena.{Move, read, fetch, Arena}
use Rattle.game.specs.Game.{Game, allowed, LawfulIn}

-- the word, and the notes, newest first
pub record Spelling : Type 0 where
  pub word : Word
  pub notes : List ℕ

-- nothing is spelled yet (SPEC 3.12)
abbrev pub unspelled : Spelling
unspelled = record { word = []; notes = [] }

-- what a move makes of it (SPEC 3.14 to 3.16); in a well-nested record an element is open at each closing tag, so there is a note
abbrev pub spell : Move → Tag → Spelling → Spelling
spell read (opening c) s = record { word = s.word ++ (opening c ∷ []); notes = length s.word ∷ s.notes }
spell read (closing c) s = record { word = s.word ++ (closing c ∷ []); notes = tail s.notes }
spell (fetch u) t s = record { word = take (get_or s.notes 0 0) s.word ++ u; notes = tail s.notes }

-- the objective is that the word spelled is in deposit form (SPEC 4.2)
abbrev pub spelled : Game → Arena
spelled G = record { Pos = Spelling; may = λ t s. allowed G t; step = spell; Lawful = LawfulIn G; met = λ s. in_form G.target s.word }
