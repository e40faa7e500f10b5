-- A play beside the spelling that is fed the same accepted moves: i is its position in the record, z what is spelled.
use mathlib.Core.Path.{◌≡◌, refl, sym, ◌∙◌, ap, ap₂, subst}
use mathlib.Core.List.{List, ◌∷◌, tail}
use Prim.Native.Nat.{ℕ, suc, ◌+◌, ◌-◌, ◌<◌, ◌≤◌}
use native.Mathlib.Omega.{arith}
use lib.ListN.{length, get_or, drop, length-append, length-map}
use lib.Seq.{drop-cons, length-take-le}
use Rattle.words.proofs.StackLaws.{length_newest, newest_pushed}
use Rattle.words.specs.Stack.{newest_first}
use Rattle.words.specs.Tag.{Tag, opening, closing, tag_of, Word, word_of}
use Rattle.automata.specs.Target.{Target, Config}
use Rattle.game.specs.Arena.{Move, read}
use Rattle.game.specs.Game.{Game}
use Rattle.game.specs.Held.{held}
use Rattle.game.specs.Spelled.{Spelling, unspelled, spell}
use Rattle.play.specs.Play.{start_play, held_of, tags_left}
use Rattle.play.specs.Moves.{MoveCall, to_read, to_fetch, tag_at, newest, closed_last, read_tag, moved}
use Rattle.demand.specs.Demand.{game_move}
use Rattle.play.specs.declared.Play.{Play}
use Rattle.words.specs.Inner.Rest.{Closes}
use Rattle.game.proofs.SpelledGame.{RunOf, tied_read, tied_fetch, at_start}
use Rattle.demand.proofs.HeldPlay.{newest_closed}
use Rattle.fetching.proofs.FetchLaws.{allowed_closing}
use Rattle.play.proofs.SoundPlay.{Playable, Sound, place_left, some_open}
use Rattle.play.proofs.MoveRefusals.{FetchPasses}
use Rattle.demand.proofs.MovedPlay.{left_closes, moved_held}

-- the same position, a count that is the word's length, begins that are the notes, and what the target's run over the word holds
pub record Spells (A : Target) (p : Play) (i : ℕ) (z : Spelling) : Type 0 where
  pub position : p.position ≡ i
  pub count : p.count ≡ length z.word
  pub notes : z.notes ≡ newest_first p.begins p.depth
  pub runs : RunOf A z.word z.notes (held_of p)

pub spells_start : (G : Game) → Spells G.target (start_play G.target) 0 unspelled
unfolding held_of
spells_start G = record { position = refl; count = refl; notes = refl; runs = at_start G }

module _ (G : Game) (bytes : List ℕ) (y : Playable G.target (word_of bytes)) (p : Play) (s : Sound G.target (word_of bytes) p)
    (i : ℕ) (z : Spelling) (x : Spells G.target p i z) where
  abbrev A : Target
  A = G.target

  abbrev word : Word
  word = z.word

  abbrev notes : List ℕ
  notes = z.notes

  -- the tags left close what is noted
  pub notes_close : Closes (length notes) (tags_left (word_of bytes) p)
  notes_close =
      let e : p.depth ≡ length notes = sym (ap length x.notes ∙ length_newest p.begins p.depth) in
      subst (λ d. Closes d (tags_left (word_of bytes) p)) e (left_closes G bytes y p s.fits)

  -- the newest note is the newest mark, and the notes before it the begins before it
  module _ (some : 0 < p.depth) where
    pub note_begins : get_or notes 0 0 ≡ newest p p.begins
    note_begins = ap (λ l. get_or l 0 0) (x.notes ∙ newest_closed p.begins p.depth some)

    notes_closed : tail notes ≡ newest_first (closed_last p p.begins) (p.depth - 1)
    notes_closed = ap (λ l. tail l) (x.notes ∙ newest_closed p.begins p.depth some)

    note_within : get_or notes 0 0 ≤ length word
    note_within = let b = s.fits.begins_below (p.depth - 1) (omega arith) in let c = x.count in let n = note_begins in omega arith

  module _ (left : p.position < length (word_of bytes)) where
    next_closes : Closes (length notes) (tag_at bytes p ∷ drop (suc p.position) (word_of bytes))
    next_closes = subst (λ v. Closes (length notes) v) (drop-cons (word_of bytes) p.position (opening 0) left) notes_close

    -- the spelling after a move, and that the run over its word holds k
    abbrev spelt : Move → Spelling
    spelt m = spell m (tag_at bytes p) z

    abbrev SpelledRuns : Move → Config → Type 0
    SpelledRuns m k = RunOf A (spelt m).word (spelt m).notes k

    pub step_runs : (m : MoveCall) → FetchPasses G bytes p m →
        SpelledRuns (game_move m) ((held G).step (game_move m) (tag_at bytes p) (held_of p))
    step_runs to_read f =
        (tied_read G (tag_at bytes p) (drop (suc p.position) (word_of bytes)) word notes (held_of p) x.runs next_closes).0
    step_runs (to_fetch u) f =
        (tied_fetch G (tag_at bytes p) (drop (suc p.position) (word_of bytes)) word notes (held_of p) (word_of u) x.runs next_closes f.0
        f.2.nested).0

    moved_runs : (m : MoveCall) → FetchPasses G bytes p m → SpelledRuns (game_move m) (held_of (moved G.target bytes p m))
    moved_runs m f = subst (λ k. SpelledRuns (game_move m) k) (sym (moved_held G bytes y p s left m f)) (step_runs m f)

    read_spells : (t : Tag) → tag_at bytes p ≡ t →
        (let n = spell read t z in RunOf A n.word n.notes (held_of (read_tag A t p)) → Spells A (read_tag A t p) (i + 1) n)
    read_spells (opening c) e r =
        let h = place_left s.fits y.nested left y.shallow c e in
        let l = s.begin_slots in
        record {
          position = ap (λ n. n + 1) x.position;
          count = let l = x.count in simp length-append (omega arith);
          notes = ap₂ (λ n r. n ∷ r) (sym x.count) x.notes ∙ sym (newest_pushed p.begins p.depth p.count (omega arith));
          runs = r;
        }
    read_spells (closing c) e r =
        record {
          position = ap (λ n. n + 1) x.position;
          count = let l = x.count in simp length-append (omega arith);
          notes = notes_closed (some_open s.fits y.nested left c e);
          runs = r;
        }

    spelt_so : (m : MoveCall) → FetchPasses G bytes p m → Spells A (moved G.target bytes p m) (i + 1) (spelt (game_move m))
    spelt_so to_read f = read_spells (tag_at bytes p) refl (moved_runs to_read f)
    spelt_so (to_fetch u) f =
        let c = allowed_closing G (tag_at bytes p) f.0 in
        let o = some_open s.fits y.nested left c.0 c.1 in
        let n = note_begins o in
        let l = length-take-le (get_or notes 0 0) word (note_within o) in
        let k = length-map u tag_of in
        record {
          position = ap (λ n. n + 1) x.position;
          count = simp length-append (omega arith);
          notes = notes_closed o;
          runs = moved_runs (to_fetch u) f;
        }

    pub moved_spells : (m : MoveCall) → FetchPasses G bytes p m →
        Spells A (moved G.target bytes p m) (i + 1) (spell (game_move m) (get_or (word_of bytes) i (opening 0)) z)
    moved_spells m f =
        subst (λ j. Spells A (moved G.target bytes p m) (i + 1) (spell (game_move m) (get_or (word_of bytes) j (opening 0)) z)) x.position
        (spelt_so m f)
