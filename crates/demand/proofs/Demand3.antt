-- Demand 3 is met on every accepted file by the play in which a fetch replaces an element: it keeps the laws of a kind of play.
use mathlib.Core.Path.{◌≡◌, sym, ◌∙◌, ap, subst}
use mathlib.Core.Bool.{true, cond}
use mathlib.Core.Logic.{◌⊎◌, ◌↔◌, inl, inr, ⊎_elim}
use mathlib.Core.List.{List, [], ◌∷◌}
use Prim.Native.Nat.{ℕ, ◌+◌, ◌<◌}
use native.Mathlib.Omega.{arith}
use native.Mathlib.Numerals.{add-one}
use lib.ListN.{length, take, drop, get_or, drop_of_length-le}
use lib.Seq.{drop-cons}
use Rattle.words.specs.Tag.{Tag, opening, code_of, Word, word_of}
use Rattle.words.specs.Inner.Rest.{Closes}
use Rattle.automata.specs.Target.{Config, at, run}
use Rattle.automata.specs.Reply.{Lawful}
use Rattle.automata.specs.Small.{Small}
use Rattle.contents.specs.Contents.{record_bytes}
use Rattle.job.specs.File.{file_refusal}
use Rattle.game.specs.Arena.{read, fetch, Won, Lost, ReadKeepsWon, FetchKeepsWon}
use Rattle.game.specs.Game.{Game, allowed}
use Rattle.game.specs.Held.{held}
use Rattle.game.specs.Spelled.{Spelling, spell, spelled}
use Rattle.game.specs.Job.{game_of, record_of}
use Rattle.game.proofs.Determined.{won_or_lost}
use Rattle.game.proofs.HeldGame.{HeldFits, held_may}
use Rattle.game.proofs.SpelledGame.{tied_read, tied_fetch, spelled_won, spelled_lost, same_form}
use Rattle.game.specs.Advice.{Advised, AdviceIs}
use Rattle.play.specs.Play.{held_of}
use Rattle.play.specs.Moves.{MoveCall, to_read, to_fetch, count_after}
use Rattle.play_advice.specs.Start.{file_start}
use Rattle.play.specs.Entries.{file_move_refusal, file_play, file_buffer}
use Rattle.play_advice.specs.Advice.{AdviceOf}
use Rattle.demand.specs.Kind.{Kind}
use Rattle.demand.specs.Demand.{AnyCall, game_move, SpellingAt, spelling_start, next_tag, past}
use Rattle.demand.specs.Demand.{NotAtEnd, LongEnough, AdviceSays, DemandMet}
use Rattle.demand.specs.Demand.{WonAt, LostAt, ReadKeeps, LawfulHere, FetchKeeps}
use Rattle.demand.specs.Replacing.{replacing_in}
use Rattle.play.specs.declared.Play.{Play}
use Rattle.demand.proofs.Advised.{won_goes_on}
use Rattle.play.proofs.MoveRefusals.{FetchPasses, Passes}
use Rattle.play_advice.proofs.StartLaws.{begins}
use Rattle.play.proofs.EntryLaws.{file_playable, move_passes, next_play, next_buffer}
use Rattle.play_advice.proofs.AdviceRefusals.{advice_passes}
use Rattle.play.proofs.SoundPlay.{Playable, Sound, sound_start}
use Rattle.demand.proofs.MovedPlay.{held_fits, moved_sound}
use Rattle.demand.proofs.SpelledPlay.{Spells, spells_start, notes_close, moved_spells}
use Rattle.demand.proofs.FinishedPart.{moved_count, moved_finished}
use Rattle.demand.proofs.OneAdvice.{advice_exactly}
use Rattle.demand.proofs.Laws.{Finished, Laws}
use Rattle.demand.proofs.KindLaws.{demand}

module _ (file : List ℕ) (ok : file_refusal file ≡ 0) where
  abbrev K : Kind
  K = replacing_in file

  abbrev G : Game
  G = game_of file

  abbrev bytes : List ℕ
  bytes = record_bytes file

  playable : Playable G.target (record_of file)
  playable = file_playable file ok

  -- a play that stands for what is spelled: it fits, and it holds what the target's run over the word holds
  pub record Reached (p : Play) (F : SpellingAt K) : Type 0 where
    pub sound : Sound G.target (record_of file) p
    pub spells : Spells G.target p F.position F.spelling

  pub reached_start : Reached (file_start file) (spelling_start K)
  reached_start =
      subst (λ p. Reached p (spelling_start K)) (sym (begins file ok))
      (record { sound = sound_start G.target (record_of file) playable; spells = spells_start G })

  -- an accepted move
  module _ (p : Play) (m : MoveCall) (n : ℕ) (z : file_move_refusal file p m n ≡ 0) where
    passes : Passes G bytes p m n
    passes = (move_passes file p m ok n).0 z

    pub next_reached : (F : SpellingAt K) → Reached p F → Reached (file_play file p m n) (past K (game_move m) F)
    next_reached F t =
        let x = passes in
        subst (λ q. Reached q (past K (game_move m) F)) (sym (next_play file p m n z))
        (record {
          sound = moved_sound G bytes playable p t.sound x.left m x.fetched;
          spells = moved_spells G bytes playable p t.sound F.position F.spelling t.spells x.left m x.fetched;
        })

  module _ (p : Play) (F : SpellingAt K) (t : Reached p F) where
    abbrev z : Spelling
    z = F.spelling

    abbrev here : Config
    here = held_of p

    pub same_position : p.position ≡ F.position
    same_position = t.spells.position

    -- what the play holds fits the tags left, and what is noted is closed by them
    fits_left : HeldFits G (drop F.position (record_of file)) here
    fits_left = subst (λ i. HeldFits G (drop i (record_of file)) here) same_position (held_fits G bytes playable p t.sound.fits)

    closes_left : Closes (length z.notes) (drop F.position (record_of file))
    closes_left =
        subst (λ i. Closes (length z.notes) (drop i (record_of file))) same_position
        (notes_close G bytes playable p t.sound F.position z t.spells)

    won_same : WonAt K F ↔ Won (held G) (drop F.position (record_of file)) here
    won_same = spelled_won G (drop F.position (record_of file)) z here t.spells.runs closes_left

    lost_same : LostAt K F ↔ Lost (held G) (drop F.position (record_of file)) here
    lost_same = spelled_lost G (drop F.position (record_of file)) z here t.spells.runs closes_left

    advice_is : (a : ℕ) → AdviceOf file p a → AdviceIs G (drop F.position (record_of file)) here a
    advice_is a v =
        subst (λ i. AdviceIs G (drop i (record_of file)) here a) same_position (v.given (advice_passes file ok p t.sound.fits))

    pub run_held_lem : run G.target z.word (at G.target.start []) ≡ here
    unfolding held_of
    run_held_lem = t.spells.runs.0

    -- with tags left
    module _ (left : NotAtEnd K F) where
      abbrev tag : Tag
      tag = next_tag K F

      abbrev rest : Word
      rest = drop (F.position + 1) (record_of file)

      tags_left_lem : drop F.position (record_of file) ≡ tag ∷ rest
      tags_left_lem =
          drop-cons (record_of file) F.position (opening 0) left ∙ ap (λ n. tag ∷ drop n (record_of file)) (sym (add-one F.position))

      advised_left : (a : ℕ) → AdviceOf file p a → Advised (held G) tag rest here a
      advised_left a v = subst (λ w. AdviceIs G w here a) tags_left_lem (advice_is a v)

      pub closes : Closes (length z.notes) (tag ∷ rest)
      closes = subst (λ w. Closes (length z.notes) w) tags_left_lem closes_left

      -- reading, and fetching, keep the play won on what it holds exactly when they keep it won on words
      read_same : ReadKeepsWon (held G) tag rest here ↔ ReadKeeps K F
      read_same =
          let x = tied_read G tag rest z.word z.notes here t.spells.runs closes in
          let i = spelled_won G rest (spell read tag z) ((held G).step read tag here) x.0 x.1 in
          (i.1, i.0)

      reply_same : allowed G tag ≡ true → (u : Word) → Lawful (G.forms (code_of tag)) u →
          Won (held G) rest ((held G).step (fetch u) tag here) ↔ WonAt K (past K (fetch u) F)
      reply_same m u l =
          let x = tied_fetch G tag rest z.word z.notes here u t.spells.runs closes m l.nested in
          let i = spelled_won G rest (spell (fetch u) tag z) ((held G).step (fetch u) tag here) x.0 x.1 in
          (i.1, i.0)

      fits : HeldFits G (tag ∷ rest) here
      fits = subst (λ w. HeldFits G w here) tags_left_lem fits_left

      fetch_same : FetchKeepsWon (held G) tag rest here ↔ FetchKeeps K F
      fetch_same =
          let may = held_may G tag rest here fits in (
            λ f. let m = sym may ∙ f.0 in (m, λ u l. (reply_same m u l).0 (f.1 u l)),
            λ f. (may ∙ f.0, λ u l. (reply_same f.0 u l).1 (f.1 u l)),
          )

      pub goes_on : WonAt K F → ReadKeeps K F ⊎ (¬ ReadKeeps K F × FetchKeeps K F)
      goes_on w =
          ⊎_elim (λ r. inl (read_same.0 r)) (λ f. inr (λ r. f.0 (read_same.1 r), fetch_same.0 f.1))
          (won_goes_on G playable.closed_target tag rest here fits
          (subst (λ w. Won (held G) w here) tags_left_lem (won_same.0 w)))

      -- a move that may be made passes
      within_left : p.position < length (record_of file)
      within_left = let e = same_position in omega arith

      -- the word after a move is as long as the count that the move asks room for
      word_after : (m : MoveCall) → FetchPasses G bytes p m → length (K.word (past K (game_move m) F).spelling) ≡ count_after p m
      word_after m f =
          sym (moved_spells G bytes playable p t.sound F.position z t.spells within_left m f).count ∙
          moved_count G.target bytes p m

      pub takes : (m : MoveCall) → FetchPasses G bytes p m → (b : List ℕ) → LongEnough K F m b → file_move_refusal file p m (length b) ≡ 0
      takes m f b long =
          let c = t.spells.count in
          let w = word_after m f in
          (move_passes file p m ok (length b)).1
          (record { fits = t.sound.fits; lent = omega arith; left = within_left; fetched = f; roomy = omega arith })

      pub takes_fetch : (u : List ℕ) → allowed G tag ≡ true → Small u → LawfulHere K F (word_of u) → (b : List ℕ) →
          LongEnough K F (to_fetch u) b → file_move_refusal file p (to_fetch u) (length b) ≡ 0
      takes_fetch u m small lawful =
          let at_tag : (i : ℕ) → Type 0 =
          λ i. (allowed G (get_or (record_of file) i (opening 0)) ≡ true) × Small u ×
          Lawful (G.forms (code_of (get_or (record_of file) i (opening 0)))) (word_of u) in
          takes (to_fetch u) (subst at_tag (sym same_position) (m, small, lawful))

    ended : F.position ≡ length (record_of file) → (a : ℕ) → AdviceOf file p a → a ≡ cond ((spelled G).met z) 3 4
    ended e a v =
        let none : drop F.position (record_of file) ≡ [] = drop_of_length-le (record_of file) {i = F.position} (omega arith) in
        subst (λ w. AdviceIs G w here a) none (advice_is a v) ∙
        ap (λ b. cond b 3 4) (sym (same_form G z.word z.notes here t.spells.runs))

    pub says : (a : ℕ) → AdviceOf file p a → AdviceSays K F a
    says a v =
        record {
          lost = λ left.
              let s : (a ≡ 0) ↔ Lost (held G) (drop F.position (record_of file)) here =
              rw (tags_left_lem left) (advised_left left a v).lost in
              (λ e. lost_same.1 (s.0 e), λ l. s.1 (lost_same.0 l));
          reads = λ left.
              let s = (advised_left left a v).reads in
              (λ e. (read_same left).0 (s.0 e), λ r. s.1 ((read_same left).1 r));
          fetches = λ left.
              let s = (advised_left left a v).fetches in
              let same = fetch_same left in (
                λ e. let f = s.0 e in (λ r. f.0 ((read_same left).1 r), same.0 f.1),
                λ f. s.1 (λ r. f.0 ((read_same left).0 r), same.1 f.1),
              );
          ended = λ e. ended e a v;
        }

    pub decided : WonAt K F ⊎ LostAt K F
    decided =
        ⊎_elim (λ w. inl (won_same.1 w)) (λ l. inr (lost_same.1 l))
        (won_or_lost G playable.closed_target (drop F.position (record_of file)) here fits_left)

    pub replied : (u : List ℕ) (n : ℕ) → file_move_refusal file p (to_fetch u) n ≡ 0 → LawfulHere K F (word_of u)
    replied u n e =
        subst (λ i. Lawful (G.forms (code_of (get_or (record_of file) i (opening 0)))) (word_of u)) same_position
        (passes p (to_fetch u) n e).fetched.2

    pub finished : (m : MoveCall) (b : List ℕ) → file_move_refusal file p m (length b) ≡ 0 → Finished K p b F →
        Finished K (file_play file p m (length b)) (file_buffer file p m b) (past K (game_move m) F)
    finished m b e f =
        (λ i. take (next_play file p m (length b) e i).count (next_buffer file p m b e i)) ∙
        moved_finished G bytes playable p t.sound F.position z t.spells b f m (passes p m (length b) e)

  unfoldable pub replacing_laws : Laws K
  replacing_laws =
      record {
        Reached = Reached;
        reached_start = reached_start;
        finished_start = ap (λ p. take p.count []) (begins file ok);
        position = λ p F t. same_position p F t;
        within = λ p F t. let e = same_position p F t in let h = t.sound.fits.within in omega arith;
        count = λ p F t. t.spells.count;
        holds = run_held_lem;
        moved = λ p F t m n e. next_reached p m n e F t;
        replied = replied;
        finished = finished;
        takes_read = λ p F t left. takes p F t left to_read tt;
        takes_fetch = takes_fetch;
        advised = λ p F t. advice_exactly file p;
        says = says;
        decided = decided;
        goes_on = goes_on;
      }

pub demand3 : (file : List ℕ) → file_refusal file ≡ 0 → (calls : List AnyCall) → DemandMet (replacing_in file) calls
demand3 file ok calls = demand (replacing_in file) (replacing_laws file ok) calls
