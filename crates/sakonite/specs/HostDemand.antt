-- Demand 3, of the entries: measured by what the moves of a history spell, nothing of a play (SPEC 5, 8.8, 8.9).
use Rattle.std.specs.Prelude.{◌≡◌, List, [], ◌∷◌, ◌++◌, map, ℕ, ◌+◌, ◌-◌, length, take}
use Rattle.words.specs.Exactly.{Exactly}
use Rattle.words.specs.Tag.{byte_of}
use Rattle.play.specs.Moves.{MoveCall}
use Rattle.demand.specs.Kind.{Kind}
use Rattle.demand.specs.Demand.{game_move, SpellingAt, spelling_start, past, NotAtEnd, Names, AdviceSays, Followed}
use Rattle.demand.specs.Replacing.{replacing_in}
use Rattle.sakonite.specs.History.{written}
use Rattle.sakonite.specs.Played.{ample}
use Rattle.sakonite.specs.Entries.{history_refusal, finished_base, AdviceAfter}

-- what calls spell that are all accepted
abbrev pub spelled_on : (K : Kind) → SpellingAt K → List MoveCall → SpellingAt K
spelled_on K F [] = F
spelled_on K F (m ∷ cs) = spelled_on K (past K (game_move m) F) cs

module _ (file : List ℕ) where
  abbrev K : Kind
  K = replacing_in file

  -- what some calls spell
  abbrev pub spelled_in : List MoveCall → SpellingAt K
  spelled_in cs = spelled_on K (spelling_start K) cs

  -- of the history that is written of them every move is accepted
  abbrev pub AllAccepted : List MoveCall → Type 0
  AllAccepted cs = history_refusal file (written cs) ample ≡ 0

  -- calls made after others follow the advice: each is the one that the entry advises after those before it (SPEC 5.12)
  abbrev pub HostFollows : List MoveCall → List MoveCall → Type 0
  HostFollows cs [] = Unit {0}
  HostFollows cs (m ∷ more) = ((a : ℕ) × AdviceAfter file (written cs) a × Names K a m) × HostFollows (cs ++ (m ∷ [])) more

  -- what following it has come to, where so many tags were left and so many calls were made since (SPEC 5.13)
  abbrev pub HostFollowed : ℕ → ℕ → List MoveCall → Type 0
  HostFollowed left made cs = Followed K left made (spelled_in cs) (AdviceAfter file (written cs)) (λ m. AllAccepted (cs ++ (m ∷ [])))

  -- the advice after calls that are all accepted and spell F, clause by clause as in Demand.antt
  pub record HostAdvice (cs : List MoveCall) (F : SpellingAt K) : Type 0 where
    pub advised : Exactly (AdviceAfter file (written cs))
    pub says : AdviceSays K F advised.value
    pub follows : NotAtEnd K F → ¬ (advised.value ≡ 0) →
        (more : List MoveCall) → HostFollows cs more → AllAccepted (cs ++ more) →
        HostFollowed (length K.tags - F.position) (length more) (cs ++ more)

  -- the finished part after calls that are all accepted in a buffer and spell F
  pub record HostFinished (F : SpellingAt K) (r : ℕ) (left : List ℕ) : Type 0 where
    pub number : r ≡ finished_base + length (K.word F.spelling)
    pub spells : take (length (K.word F.spelling)) left ≡ map byte_of (K.word F.spelling)
