-- What a fetch comes to is the same by what a play holds and by what its calls spell, since the two games are tied.
use mathlib.Core.Path.{◌≡◌, sym, subst}
use mathlib.Core.Bool.{true}
use mathlib.Core.Logic.{◌↔◌}
use mathlib.Core.List.{List}
use Prim.Native.Nat.{ℕ, ◌+◌}
use native.Mathlib.Omega.{arith}
use lib.ListN.{drop, get_or, length-map}
use Rattle.words.specs.Tag.{Tag, opening, tag_of, Word}
use Rattle.contents.specs.Contents.{record_bytes}
use Rattle.job.specs.File.{file_refusal}
use Rattle.game.specs.Game.{Game, allowed}
use Rattle.game.specs.Held.{held}
use Rattle.game.specs.Spelled.{spelled}
use Rattle.game.specs.Job.{game_of, record_of}
use Rattle.game.proofs.SpelledGame.{run_held}
use Rattle.losing.specs.LosingReply.{FetchOutcome, OutcomeIs}
use Rattle.losing.proofs.LosingReplyTied.{outcome_tied}
use Rattle.play.specs.Play.{held_of}
use Rattle.play.specs.declared.Play.{Play}
use Rattle.play_losing.proofs.LosingAnswerLaws.{asked_parts}
use Rattle.demand.specs.Demand.{AnyCall, SpellingAt, spelling_start, next_tag, NotAtEnd, at_start, world_after, answered, spelled_by}
use Rattle.demand.specs.Replacing.{replacing_in}
use Rattle.demand.specs.SpelledOutcome.{OutcomeOn, OutcomeSame}
use Rattle.demand.proofs.KindLaws.{reached_after}
use Rattle.demand.proofs.Demand3.{Reached, closes, replacing_laws}

module _ (file : List ℕ) (ok : file_refusal file ≡ 0) (p : Play) (F : SpellingAt (replacing_in file)) (t : Reached file ok p F) where
  abbrev G : Game
  G = game_of file

  -- at the next tag of the record, by the spelling's position
  module _ (left : NotAtEnd (replacing_in file) F) (may : allowed G (next_tag (replacing_in file) F) ≡ true) where
    abbrev tag : Tag
    tag = next_tag (replacing_in file) F

    abbrev rest : Word
    rest = drop (F.position + 1) (record_of file)

    on_words : (a : FetchOutcome) → OutcomeIs (spelled G) tag rest F.spelling a ↔ OutcomeIs (held G) tag rest (held_of p) a
    unfolding run_held
    on_words =
        outcome_tied (spelled G) (held G) (run_held G) tag rest F.spelling (held_of p)
        (t.spells.runs, closes file ok p F t left) may

  -- what a fetch comes to by what the play holds, at a place of the record
  abbrev HeldAt : FetchOutcome → ℕ → Type 0
  HeldAt a i = OutcomeIs (held G) (get_or (record_of file) i (opening 0)) (drop (i + 1) (record_of file)) (held_of p) a

  pub reached_same : OutcomeSame file p F
  reached_same asked a =
      let e = t.spells.position in
      let (_, _, left, may) = asked_parts file p asked in
      let l = length-map (record_bytes file) tag_of in
      let same = on_words (omega arith) (subst (λ i. allowed G (get_or (record_of file) i (opening 0)) ≡ true) e may) a in
      subst (λ i. HeldAt a i ↔ OutcomeOn (replacing_in file) F a) (sym e) (same.1, same.0)

-- For every list of calls on an accepted file: where the play that they lead to may be fetched at, its losing reply is that of the game on
-- words, by what the accepted ones of them spell.
pub outcome_spelled : (file : List ℕ) → file_refusal file ≡ 0 → (calls : List AnyCall) →
    let K = replacing_in file in
    OutcomeSame file (world_after K (at_start K) calls).play (spelled_by K (spelling_start K) (answered K (at_start K) calls))
unfolding replacing_laws
outcome_spelled file ok calls =
    let K = replacing_in file in
    let L = replacing_laws file ok in
    reached_same file ok _ _ (reached_after K L calls (at_start K) (spelling_start K) L.reached_start)
