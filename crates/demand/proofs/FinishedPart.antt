-- The finished part of a buffer, across an accepted move.
use mathlib.Core.Path.{◌≡◌, refl, sym, ◌∙◌, ap, ap₂}
use mathlib.Core.List.{List, [], ◌∷◌, ◌++◌, map, map-append}
use Prim.Native.Nat.{ℕ, zero, suc, ◌+◌, ◌-◌, ◌<◌, ◌≤◌}
use native.Mathlib.Omega.{arith}
use lib.ListN.{length, take, get_or}
use lib.Seq.{paste, take-paste, take-take, take-length}
use Rattle.words.specs.Tag.{Tag, opening, closing, byte_of, Word, word_of}
use Rattle.words.proofs.Bytes.{byte_of_tag_of, tag_at_lem}
use Rattle.automata.specs.Target.{Target}
use Rattle.game.specs.Arena.{read}
use Rattle.game.specs.Game.{Game}
use Rattle.game.specs.Spelled.{Spelling, spell}
use Rattle.play.specs.Moves.{MoveCall, to_read, to_fetch, tag_at, newest, count_after, with_piece, read_tag, moved}
use Rattle.demand.specs.Demand.{game_move}
use Rattle.play.specs.declared.Play.{Play}
use Rattle.play.proofs.SoundPlay.{Playable, Sound, some_open}
use Rattle.play.proofs.MoveRefusals.{Passes}
use Rattle.fetching.proofs.FetchLaws.{allowed_closing}
use Rattle.demand.proofs.SpelledPlay.{Spells, note_begins}

-- the finished part is the bytes of the word spelled
abbrev pub FinishedAs : Play → List ℕ → Spelling → Type 0
FinishedAs p buffer z = take p.count buffer ≡ map byte_of z.word

map-take : {A B : Type 0} (f : A → B) (n : ℕ) (l : List A) → take n (map f l) ≡ map f (take n l)
map-take f zero l = refl
map-take f (suc n) [] = refl
map-take f (suc n) (a ∷ l) = ap (λ r. f a ∷ r) (map-take f n l)

-- the bytes of the word that bytes hold
word_bytes : (u : List ℕ) → map byte_of (word_of u) ≡ u
word_bytes [] = refl
word_bytes (b ∷ u) = ap₂ (λ x r. x ∷ r) (byte_of_tag_of b) (word_bytes u)

-- a read appends its tag
read_appends : (t : Tag) (s : Spelling) → (spell read t s).word ≡ s.word ++ (t ∷ [])
read_appends (opening c) s = refl
read_appends (closing c) s = refl

-- the count returned is the one that the buffer must have room for
read_count : (A : Target) (t : Tag) (p : Play) → (read_tag A t p).count ≡ p.count + 1
read_count A (opening c) p = refl
read_count A (closing c) p = refl

pub moved_count : (A : Target) (bytes : List ℕ) (p : Play) (m : MoveCall) → (moved A bytes p m).count ≡ count_after p m
moved_count A bytes p to_read = read_count A (tag_at bytes p) p
moved_count A bytes p (to_fetch u) = refl

module _ (G : Game) (bytes : List ℕ) (y : Playable G.target (word_of bytes)) (p : Play) (s : Sound G.target (word_of bytes) p)
    (i : ℕ) (z : Spelling) (x : Spells G.target p i z) (buffer : List ℕ) (before : FinishedAs p buffer z) where
  read_piece : p.count ≤ length buffer →
      take (p.count + 1) (paste buffer p.count (get_or bytes p.position 0 ∷ []) 1) ≡
      map byte_of (spell read (tag_at bytes p) z).word
  read_piece h =
      let b = get_or bytes p.position 0 in
      let same : byte_of (tag_at bytes p) ≡ b = ap byte_of (tag_at_lem bytes p.position) ∙ byte_of_tag_of b in
      take-paste buffer p.count (b ∷ []) 1 h (omega arith) ∙
      ap₂ (λ l c. l ++ (c ∷ [])) before (sym same) ∙
      sym (ap (map byte_of) (read_appends (tag_at bytes p) z) ∙ map-append byte_of z.word (tag_at bytes p ∷ []))

  -- the word before the newest note, which a fetch keeps
  abbrev cut : Word
  cut = take (get_or z.notes 0 0) z.word

  fetch_piece : (u : List ℕ) → 0 < p.depth → p.count ≤ length buffer →
      take (newest p p.begins + length u) (paste buffer (newest p p.begins) u (length u)) ≡ map byte_of (cut ++ word_of u)
  fetch_piece u o h =
      let k = newest p p.begins in
      let b : k ≤ p.count = s.fits.begins_below (p.depth - 1) (omega arith) in
      let front : take k buffer ≡ map byte_of cut =
      sym (take-take k p.count buffer b) ∙ ap (λ l. take k l) before ∙ map-take byte_of k z.word ∙
      ap (λ n. map byte_of (take n z.word)) (sym (note_begins G bytes y p s i z x o)) in
      take-paste buffer k u (length u) (omega arith) (omega arith) ∙
      ap₂ (λ l r. l ++ r) front (take-length u ∙ sym (word_bytes u)) ∙
      sym (map-append byte_of cut (word_of u))

  piece : (m : MoveCall) → Passes G bytes p m (length buffer) →
      take (count_after p m) (with_piece bytes p m buffer) ≡ map byte_of (spell (game_move m) (tag_at bytes p) z).word
  piece to_read a = read_piece a.lent
  piece (to_fetch u) a =
      let c = allowed_closing G (tag_at bytes p) a.fetched.0 in
      fetch_piece u (some_open s.fits y.nested a.left c.0 c.1) a.lent

  -- the piece goes to where the word spelled goes on
  pub moved_finished : (m : MoveCall) → Passes G bytes p m (length buffer) →
      FinishedAs (moved G.target bytes p m) (with_piece bytes p m buffer) (spell (game_move m) (get_or (word_of bytes) i (opening 0)) z)
  moved_finished m a =
      ap (λ n. take n (with_piece bytes p m buffer)) (moved_count G.target bytes p m) ∙ piece m a ∙
      ap (λ j. map byte_of (spell (game_move m) (get_or (word_of bytes) j (opening 0)) z).word) x.position
