-- No history of an accepted file fills a large room: no more is finished than a largest reply for each tag used up. So what is judged with
-- any room that is large enough is judged alike.
use mathlib.Core.Path.{◌≡◌, refl, sym, ◌∙◌, subst}
use mathlib.Core.List.{List, [], ◌∷◌}
use Prim.Native.Nat.{ℕ, ◌+◌, ◌*◌, ◌-◌, ◌^◌, ◌<◌, ◌≤◌}
use native.Mathlib.Omega.{arith}
use native.Mathlib.Decide.{dec_lt, ℕ_discrete}
use lib.ListN.{length, length-map}
use Rattle.std.specs.Prelude.{Ok}
use Rattle.words.specs.Inner.Nesting.{most_tags}
use Rattle.words.specs.Tag.{tag_of}
use Rattle.automata.specs.Small.{Small}
use Rattle.contents.specs.Contents.{record_bytes}
use Rattle.job.specs.Refusal.{first_of}
use Rattle.job.specs.File.{file_refusal}
use Rattle.job.proofs.Accepted as loaded
use Rattle.game.specs.Game.{Game}
use Rattle.game.specs.Job.{game_of, record_of}
use Rattle.play.specs.Moves.{MoveCall, to_read, to_fetch, tag_at, newest, count_after}
use Rattle.play.specs.MoveRules.{tag_rules}
use Rattle.play.specs.Inner.MoveParts.{MoveJudged, refusal_of}
use Rattle.play.specs.declared.Play.{Play}
use Rattle.play.proofs.SoundPlay.{Sound, sound_start}
use Rattle.demand.proofs.MovedPlay.{moved_position, moved_sound}
use Rattle.demand.proofs.FinishedPart.{moved_count}
use Rattle.play_advice.proofs.StartLaws.{begins}
use Rattle.play.proofs.EntryLaws.{file_playable}
use Rattle.play.proofs.MoveRefusals.{FetchPasses, Passes, FitsWithRoom, refusal_passes}
use Rattle.play.proofs.MoveRefusals.{refused_22, tag_passed, reply_refused, not_refused}
use Rattle.play_advice.specs.Start.{file_start}
use Rattle.sakonite.specs.Played.{moved_by, play_after, ample}
use Rattle.sakonite.specs.Inner.CallsTaken.{first_refused}
use Rattle.play.proofs.MoveLaws.{refusal_in}
use Rattle.sakonite.proofs.PlayedLaws.{first_accepted, first_refused_lem, head_accepted, tail_accepted}

-- room for the count before a move, and for the one after it if the reply is small
abbrev pub Enough : Play → MoveCall → ℕ → Type 0
Enough p to_read room = (p.count ≤ room) × (count_after p to_read ≤ room)
Enough p (to_fetch u) room = (p.count ≤ room) × (Small u → count_after p (to_fetch u) ≤ room)

pub ample_enough : (p : Play) (m : MoveCall) → Enough p m (ample p m)
ample_enough p to_read = (omega arith, omega arith)
ample_enough p (to_fetch u) = (omega arith, λ s. omega arith)

-- a play that is reached from the start: it fits, and no more is finished than a largest reply for each tag used up
pub record Modest (file : List ℕ) (p : Play) : Type 0 where
  pub sound : Sound (game_of file).target (record_of file) p
  pub few : p.count ≤ most_tags * p.position

module _ (file : List ℕ) (ok : file_refusal file ≡ 0) where
  abbrev G : Game
  G = game_of file

  abbrev bytes : List ℕ
  bytes = record_bytes file

  pub modest_start : Modest file (file_start file)
  modest_start =
      rw (begins file ok) (record { sound = sound_start G.target (record_of file) (file_playable file ok); few = omega arith })

  module _ (p : Play) (h : Modest file p) where
    pub newest_within : newest p p.begins ≤ p.count
    newest_within =
        elim (dec_lt 0 p.depth) [
          | yes o ↦ h.sound.fits.begins_below (p.depth - 1) (omega arith)
          | no n ↦ let z = h.sound.fits.begins_unused (p.depth - 1) (omega arith) in omega arith
        ]

    few_after : (m : MoveCall) (room : ℕ) → Passes G bytes p m room → count_after p m ≤ most_tags * (p.position + 1)
    few_after to_read room x = let f = h.few in omega arith
    few_after (to_fetch u) room x = let f = h.few in let s = x.fetched.1.word.short in let n = newest_within in omega arith

    pub modest_moved : (m : MoveCall) (room : ℕ) → Passes G bytes p m room → Modest file (moved_by file p m)
    modest_moved m room x =
        record {
          sound = moved_sound G bytes (file_playable file ok) p h.sound x.left m x.fetched;
          few = rw (moved_count G.target bytes p m, moved_position G.target bytes p m) (few_after m room x);
        }

    pub modest_judged : (m : MoveCall) (room : ℕ) (q : Play) → MoveJudged file p m room (Ok q) → Modest file q
    modest_judged m room q j =
        subst (λ x. Modest file x) (sym j.1) (modest_moved m room ((refusal_passes G bytes p m room).0 j.0))

    -- at most 4,096 tags, for each of them at most 4,096 bytes
    pub count_bound : p.count ≤ most_tags * most_tags
    count_bound =
        let f = h.few in
        let w = h.sound.fits.within in
        let l = length-map bytes tag_of in
        let r = (loaded.is_accepted file ok).bodies.is_record.word.short in
        omega arith

    pub large_enough : (m : MoveCall) → Enough p m (2 ^ 32)
    large_enough to_read = let b = count_bound in (omega arith, omega arith)
    large_enough (to_fetch u) = let b = count_bound in let n = newest_within in (omega arith, λ s. let l = s.word.short in omega arith)

    -- once the reply has passed, there is room for it
    room_left : (m : MoveCall) (room : ℕ) → Enough p m room → FetchPasses G bytes p m → count_after p m ≤ room
    room_left to_read room e x = e.1
    room_left (to_fetch u) room e x = e.1 x.1

    count_left : (m : MoveCall) (room : ℕ) → Enough p m room → p.count ≤ room
    count_left to_read room e = e.0
    count_left (to_fetch u) room e = e.0

    -- the refusal is the same with every room that is enough
    module _ (m : MoveCall) (a b : ℕ) (ea : Enough p m a) (eb : Enough p m b) where
      at_end : (room : ℕ) → Enough p m room → p.position ≡ length bytes → refusal_of G bytes p m room ≡ 22
      at_end room e z = refused_22 G bytes p m room (h.sound.fits, count_left m room e) z

      before_end : (room : ℕ) → Enough p m room → ¬ (p.position ≡ length bytes) →
          refusal_of G bytes p m room ≡ first_of (tag_rules G (tag_at bytes p) m)
      before_end room e n =
          let f : FitsWithRoom G bytes p m room = (h.sound.fits, count_left m room e) in
          let left : p.position < length bytes = omega (arith, h.sound.fits.within, length-map bytes tag_of) in
          elim (ℕ_discrete (first_of (tag_rules G (tag_at bytes p) m)) 0) [
            | yes z ↦ let x = tag_passed G bytes p m z in not_refused G bytes p m room f left x (room_left m room e x) ∙ sym z
            | no k ↦ reply_refused G bytes p m room f left k
          ]

      pub same_refusal : refusal_in file p m a ≡ refusal_in file p m b
      same_refusal =
          elim (ℕ_discrete p.position (length bytes)) [
            | yes z ↦ at_end a ea z ∙ sym (at_end b eb z)
            | no n ↦ before_end a ea n ∙ sym (before_end b eb n)
          ]

  -- the first refusal of calls made one after another is the same with rooms that are enough for each
  module _ (R S : Play → MoveCall → ℕ) (r : (p : Play) → Modest file p → (m : MoveCall) → Enough p m (R p m))
      (s : (p : Play) → Modest file p → (m : MoveCall) → Enough p m (S p m)) where
    pub same_first : (cs : List MoveCall) (p : Play) → Modest file p → first_refused file R p cs ≡ first_refused file S p cs
    unfolding first_refused
    same_first [] p h = refl
    same_first (m ∷ cs) p h =
        let e = same_refusal p h m (R p m) (S p m) (r p h m) (s p h m) in
        elim (ℕ_discrete (refusal_in file p m (R p m)) 0) [
          | yes z ↦
              first_accepted file R p m cs z ∙
              same_first cs (moved_by file p m) (modest_moved p h m (R p m) ((refusal_passes G bytes p m (R p m)).0 z)) ∙
              sym (first_accepted file S p m cs (sym e ∙ z))
          | no n ↦ first_refused_lem file R p m cs n ∙ e ∙ sym (first_refused_lem file S p m cs (λ z. n (e ∙ z)))
        ]

  -- after calls that are all accepted
  pub modest_after : (R : Play → MoveCall → ℕ) (cs : List MoveCall) (p : Play) → Modest file p → first_refused file R p cs ≡ 0 →
      Modest file (play_after file p cs)
  modest_after R [] p h z = h
  modest_after R (m ∷ cs) p h z =
      let passes = (refusal_passes G bytes p m (R p m)).0 (head_accepted file R p m cs z) in
      modest_after R cs (moved_by file p m) (modest_moved p h m (R p m) passes) (tail_accepted file R p m cs z)
