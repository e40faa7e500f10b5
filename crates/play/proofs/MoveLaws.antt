-- Laws of the two moves: what stands open where a move is made, and what an answer is.
use mathlib.Core.Path.{◌≡◌, refl, sym, ◌∙◌, ap}
use mathlib.Core.Bool.{true}
use mathlib.Core.List.{List}
use Prim.Native.Nat.{ℕ, ◌+◌, ◌-◌, ◌<◌, ◌≤◌, ◌^◌}
use native.Mathlib.Omega.{arith}
use lib.ListN.{length, get_or, length-map}
use Rattle.std.specs.Prelude.{Ok}
use Rattle.words.specs.Tag.{opening, closing, codes, tag_of, word_of}
use Rattle.words.specs.Inner.TagByte.{CodeIs}
use Rattle.words.proofs.Bytes.{tag_of_opening, tag_of_closing, tag_at_lem}
use Rattle.words.proofs.OpenLaws.{open_few}
use Rattle.automata.specs.TargetBody.{target_of}
use Rattle.advice.specs.Kept.{play_slots}
use Rattle.contents.specs.Contents.{target_body, record_bytes}
use Rattle.job.specs.Accepted.{Accepted}
use Rattle.game.specs.Game.{Game, allowed}
use Rattle.game.specs.Job.{game_of, record_of}
use Rattle.fetching.specs.Inner.Forms.{FormsOf}
use Rattle.play.specs.Play.{PlayFits}
use Rattle.play.specs.Moves.{MoveCall, to_read, to_fetch, tag_at, newest, count_after, piece_offset, piece_of, moved}
use Rattle.play.specs.Inner.MoveParts.{Standing, Open, Replied, Movable, MoveJudged, FormsFor, refusal_of}
use Rattle.play.specs.declared.Play.{Play}
use Rattle.fetching.proofs.FetchLaws.{allowed_closing}
use Rattle.play.proofs.SoundPlay.{place_left, some_open}
use Rattle.play.proofs.MoveRefusals.{FetchPasses, Passes, refusal_passes}

-- the relations of the file's forms do for any move
pub forms_for : (file : List ℕ) (m : MoveCall) {t : List ℕ} → FormsOf file t → FormsFor file m t
forms_for file to_read f = tt
forms_for file (to_fetch u) f = f

-- the tag that a byte is, by the code that was read off it
module _ (bytes : List ℕ) (p : Play) where
  pub opening_tag_at : get_or bytes p.position 0 < codes → tag_at bytes p ≡ opening (get_or bytes p.position 0)
  opening_tag_at h = tag_at_lem bytes p.position ∙ tag_of_opening (get_or bytes p.position 0) h

  module _ (c : ℕ) (is : CodeIs (get_or bytes p.position 0) c) where
    pub opens_code : get_or bytes p.position 0 < codes → tag_at bytes p ≡ opening c
    opens_code h = opening_tag_at h ∙ ap opening (sym (is.opening h))

    pub closes_code : codes ≤ get_or bytes p.position 0 → tag_at bytes p ≡ closing c
    closes_code h = tag_at_lem bytes p.position ∙ tag_of_closing (get_or bytes p.position 0) h ∙ ap closing (sym (is.closing h))

-- the refusal of a call on the record of a file
abbrev pub refusal_in : List ℕ → Play → MoveCall → ℕ → ℕ
refusal_in file p m room = refusal_of (game_of file) (record_bytes file) p m room

module _ (target bytes : List ℕ) (p : Play) (s : Standing target bytes p) where
  in_word : p.position < length (word_of bytes)
  in_word = let h = s.left in let l = length-map bytes tag_of in omega arith

  pub few_held : p.depth ≤ play_slots
  few_held = rw s.fits.as_many (open_few s.is_record p.position)

  pub room_at_opening : (c : ℕ) → tag_at bytes p ≡ opening c → p.depth < play_slots
  room_at_opening c e = place_left s.fits s.is_record.word.nested in_word s.is_record.shallow c e

  pub some_at_closing : (c : ℕ) → tag_at bytes p ≡ closing c → 0 < p.depth
  some_at_closing c e = some_open s.fits s.is_record.word.nested in_word c e

  -- only a closing tag may be fetched at
  pub some_at_fetch : (G : Game) → allowed G (tag_at bytes p) ≡ true → 0 < p.depth
  some_at_fetch G e = let c = allowed_closing G (tag_at bytes p) e in some_at_closing c.0 c.1

  module _ (h : 0 < p.depth) where
    pub begin_below : newest p p.begins ≤ p.count
    begin_below = s.fits.begins_below (p.depth - 1) (omega arith)

-- a play that fits an accepted file's record, with tags left, and a call whose reply is not refused
module _ (file : List ℕ) (a : Accepted file) (p : Play) (fits : PlayFits (game_of file).target (record_of file) p)
    (left : p.position < length (record_bytes file)) where
  pub standing : Standing (target_body file) (record_bytes file) p
  unfolding game_of
  standing = record { valid = a.bodies.target; is_record = a.bodies.is_record; fits = fits; left = left }

  pub reply_accepted : (m : MoveCall) → FetchPasses (game_of file) (record_bytes file) p m → Replied p m
  reply_accepted to_read x = tt
  reply_accepted (to_fetch u) x = (some_at_fetch (target_body file) (record_bytes file) p standing (game_of file) x.0, x.1)

  pub open_at_fetch : (m : MoveCall) → Replied p m → Open p m
  open_at_fetch to_read r = tt
  open_at_fetch (to_fetch u) r = (r.0, few_held (target_body file) (record_bytes file) p standing)

  pub place_within : (m : MoveCall) → Replied p m → piece_offset p m ≤ p.count
  place_within to_read r = omega arith
  place_within (to_fetch u) r = begin_below (target_body file) (record_bytes file) p standing r.0

-- what a call that is not refused tells: it can be made, and there is room for what it adds
module _ (file : List ℕ) (a : Accepted file) (p : Play) (m : MoveCall) (room : ℕ) (e : refusal_in file p m room ≡ 0) where
  abbrev passes : Passes (game_of file) (record_bytes file) p m room
  passes = (refusal_passes (game_of file) (record_bytes file) p m room).0 e

  pub has_room : count_after p m ≤ room
  has_room = passes.roomy

  pub movable : room < 2 ^ 64 → Movable (target_body file) (record_bytes file) p m
  movable h =
      let left : p.position < length (record_bytes file) = omega (arith, passes.left, length-map (record_bytes file) tag_of) in
      record {
        stands = standing file a p passes.fits left;
        replied = reply_accepted file a p passes.fits left m passes.fetched;
        counted = omega (arith, has_room);
      }

-- what is answered to a call that is not refused
pub call_accepted : (file : List ℕ) (p : Play) (m : MoveCall) (room : ℕ) → refusal_in file p m room ≡ 0 → (q : Play) →
    q ≡ moved (target_of (target_body file)) (record_bytes file) p m → MoveJudged file p m room (Ok q)
unfolding game_of
call_accepted file p m room e q eq = (e, eq)

-- a call adds its piece
pub count_piece : (bytes : List ℕ) (p : Play) (m : MoveCall) → count_after p m ≡ piece_offset p m + length (piece_of bytes p.position m)
count_piece bytes p to_read = refl
count_piece bytes p (to_fetch u) = refl
