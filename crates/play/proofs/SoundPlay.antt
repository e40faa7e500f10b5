-- Every move of a play that fits leads to one that fits.
use mathlib.Core.Path.{◌≡◌, refl, ◌∙◌}
use mathlib.Core.List.{List, []}
use Prim.Native.Nat.{ℕ, zero, suc, pred, ◌+◌, ◌-◌, ◌<◌, ◌≤◌}
use native.Mathlib.Omega.{arith}
use native.Mathlib.Nat.{not-suc-le-zero}
use native.Mathlib.Decide.{dec_lt, ℕ_discrete}
use lib.ListN.{length, get_or, set, length-set, get_or-eq_default, get_or-replicate, replicate}
use lib.Seq.{get_or-set_same, get_or-set_other}
use Rattle.words.specs.Tag.{Tag, opening, closing, Word, word_of}
use Rattle.words.specs.Forest.{WellNested, depth}
use Rattle.automata.specs.Target.{Target, Closed, at, run}
use Rattle.automata.proofs.TargetRun.{over_below, run_nested}
use Rattle.job.specs.Record.{most_record_depth}
use Rattle.advice.specs.Kept.{play_slots}
use Rattle.words.specs.Opened.{open_at}
use Rattle.play.specs.Play.{PlayFits, start_play}
use Rattle.game.specs.Held.{end_state}
use Rattle.play.specs.Moves.{newest, past_closing, read_tag, fetch_reply}
use Rattle.play.specs.declared.Play.{Play}
use Rattle.words.proofs.OpenLaws.{open_past, open_within, open_some}

-- a play that fits, with its four places for open elements
pub record Sound (A : Target) (w : Word) (p : Play) : Type 0 where
  pub fits : PlayFits A w p
  pub kept_slots : length p.kept ≡ play_slots
  pub begin_slots : length p.begins ≡ play_slots

-- a record that can be played: the target keeps to its states, and a play has a place for each element that is open
pub record Playable (A : Target) (w : Word) : Type 0 where
  pub closed_target : Closed A
  pub nested : WellNested w
  pub shallow : depth nested.forest ≤ most_record_depth

-- a list with one place set, elsewhere
elsewhere : (l : List ℕ) (d v i : ℕ) → ¬ (i ≡ d) → get_or (set l d v) i 0 ≡ get_or l i 0
elsewhere l d v i n = get_or-set_other l d i v 0 n

-- a place that is set to zero, or is not there
zeroed : (l : List ℕ) (i : ℕ) → get_or (set l i 0) i 0 ≡ 0
zeroed l i =
    elim (dec_lt i (length l)) [
      | yes h ↦ get_or-set_same l i 0 0 h
      | no n ↦ get_or-eq_default (set l i 0) 0 (simp length-set (omega arith))
    ]

-- unused places from the newest on, once that is closed
still_unused : (l : List ℕ) (d : ℕ) → ((i : ℕ) → d ≤ i → get_or l i 0 ≡ 0) → (i : ℕ) → d - 1 ≤ i → get_or (set l (d - 1) 0) i 0 ≡ 0
still_unused l d h i b =
    elim (ℕ_discrete i (d - 1)) [
      | yes e ↦ rw e (zeroed l (d - 1))
      | no n ↦ get_or-set_other l (d - 1) i 0 0 n ∙ h i (omega arith)
    ]

-- begins that rise from each to the next rise from any to any later one
rising_far : (l : List ℕ) (d : ℕ) → ((i : ℕ) → suc i < d → get_or l i 0 ≤ get_or l (suc i) 0) →
    (i j : ℕ) → i ≤ j → j < d → get_or l i 0 ≤ get_or l j 0
rising_far l d h i zero b c = let e : i ≡ 0 = omega arith in rw e (omega arith)
rising_far l d h i (suc j) b c =
    elim (ℕ_discrete i (suc j)) [
      | yes e ↦ rw e (omega arith)
      | no n ↦ let x = rising_far l d h i j (omega arith) (omega arith) in let y = h j c in omega arith
    ]

-- what is open where a play that fits has tags left
module _ {A : Target} {w : Word} {p : Play} (f : PlayFits A w p) (n : WellNested w) (left : p.position < length w) where
  -- there is a place for an element that opens
  pub place_left : depth n.forest ≤ most_record_depth → (c : ℕ) → get_or w p.position (opening 0) ≡ opening c → p.depth < play_slots
  place_left d c e =
      let o : open_at w (p.position + 1) ≡ suc (open_at w p.position) = open_past w p.position (opening c) left e in
      let a = f.as_many in
      let h = open_within w n (p.position + 1) in
      omega arith

  -- an element is open at each closing tag
  pub some_open : (c : ℕ) → get_or w p.position (opening 0) ≡ closing c → 0 < p.depth
  some_open c e = rw f.as_many (open_some w n p.position c left e)

module _ (A : Target) (w : Word) (p : Play) (s : Sound A w p) (left : p.position < length w) where
  module _ (c : ℕ) (e : get_or w p.position (opening 0) ≡ opening c) (room : p.depth < play_slots) where
    opening_fits : Closed A → PlayFits A w (read_tag A (opening c) p)
    opening_fits is_closed =
        let f = s.fits in
        let ks = s.kept_slots in
        let ms = s.begin_slots in
        let new-kept = get_or-set_same p.kept p.depth p.state 0 (omega arith) in
        let new-begin = get_or-set_same p.begins p.depth p.count 0 (omega arith) in
        let old-kept = elsewhere p.kept p.depth p.state in
        let old-begin = elsewhere p.begins p.depth p.count in
        record {
          within = omega arith;
          own_state = is_closed.open_below p.state c;
          as_many = let o = open_past w p.position (opening c) left e in let a = f.as_many in omega arith;
          kept_states =
              λ i h. elim (ℕ_discrete i p.depth) [
                | yes x ↦ rw (x, new-kept) f.own_state
                | no n ↦ rw (old-kept i n) (f.kept_states i (omega arith))
              ];
          kept_unused = λ i h. old-kept i (omega arith) ∙ f.kept_unused i (omega arith);
          begins_unused = λ i h. old-begin i (omega arith) ∙ f.begins_unused i (omega arith);
          begins_rising =
              λ i h. elim (ℕ_discrete (suc i) p.depth) [
                | yes x ↦ rw (x, new-begin, old-begin i (omega arith)) (f.begins_below i (omega arith))
                | no n ↦ rw (old-begin i (omega arith), old-begin (suc i) n) (f.begins_rising i (omega arith))
              ];
          begins_below =
              λ i h. elim (ℕ_discrete i p.depth) [
                | yes x ↦ rw (x, new-begin) (omega arith)
                | no n ↦ rw (old-begin i n) (let b = f.begins_below i (omega arith) in omega arith)
              ];
        }

  module _ (c : ℕ) (e : get_or w p.position (opening 0) ≡ closing c) where
    -- in any state, and with any count that is not below the newest mark
    closed_fits : (q n : ℕ) → q < A.states → newest p p.begins ≤ n → PlayFits A w (past_closing p q n)
    closed_fits q n hq hn =
        let f = s.fits in
        let last = p.depth - 1 in
        let old-kept = elsewhere p.kept last 0 in
        let old-begin = elsewhere p.begins last 0 in
        let one_less : open_at w (p.position + 1) ≡ pred (open_at w p.position) = open_past w p.position (closing c) left e in
        let last_begins : (i : ℕ) → i < last → get_or p.begins i 0 ≤ get_or p.begins last 0 =
        λ i h. rising_far p.begins p.depth f.begins_rising i last (omega arith) (omega arith) in
        record {
          within = omega arith;
          own_state = hq;
          as_many = let a = f.as_many in omega arith;
          kept_states = λ i h. rw (old-kept i (omega arith)) (f.kept_states i (omega arith));
          kept_unused = still_unused p.kept p.depth f.kept_unused;
          begins_unused = still_unused p.begins p.depth f.begins_unused;
          begins_rising = λ i h. rw (old-begin i (omega arith), old-begin (suc i) (omega arith)) (f.begins_rising i (omega arith));
          begins_below = λ i h. rw (old-begin i (omega arith)) (let m = last_begins i h in omega arith);
        }

  module _ (y : Playable A w) where
    closed_sound : (c : ℕ) → get_or w p.position (opening 0) ≡ closing c → (q n : ℕ) → q < A.states → newest p p.begins ≤ n →
        Sound A w (past_closing p q n)
    closed_sound c e q n hq hn =
        record {
          fits = closed_fits c e q n hq hn;
          kept_slots = length-set p.kept (p.depth - 1) 0 ∙ s.kept_slots;
          begin_slots = length-set p.begins (p.depth - 1) 0 ∙ s.begin_slots;
        }

    pub sound_read : (t : Tag) → get_or w p.position (opening 0) ≡ t → Sound A w (read_tag A t p)
    sound_read (opening c) e =
        record {
          fits = opening_fits c e (place_left s.fits y.nested left y.shallow c e) y.closed_target;
          kept_slots = length-set p.kept p.depth p.state ∙ s.kept_slots;
          begin_slots = length-set p.begins p.depth p.count ∙ s.begin_slots;
        }
    sound_read (closing c) e =
        let o = some_open s.fits y.nested left c e in
        let q = newest p p.kept in
        let b = s.fits.begins_below (p.depth - 1) (omega arith) in
        closed_sound c e (A.close_to p.state q c) (p.count + 1) (y.closed_target.close_below p.state q c) (omega arith)

    pub sound_fetch : (c : ℕ) → get_or w p.position (opening 0) ≡ closing c → (u : List ℕ) → WellNested (word_of u) →
        Sound A w (fetch_reply A u p)
    sound_fetch c e u n =
        let o = some_open s.fits y.nested left c e in
        let q = newest p p.kept in
        let one_of_lem = s.fits.kept_states (p.depth - 1) (omega arith) in
        let below : end_state (run A (word_of u) (at q [])) < A.states =
        rw (run_nested A (word_of u) n q []) (over_below A y.closed_target n.forest q one_of_lem) in
        closed_sound c e (end_state (run A (word_of u) (at q []))) (newest p p.begins + length u) below (omega arith)

pub sound_start : (A : Target) (w : Word) → Playable A w → Sound A w (start_play A)
unfolding open_at
sound_start A w y =
    let none-used : (i : ℕ) → get_or (replicate {A = ℕ} play_slots 0) i 0 ≡ 0 =
    λ i. elim (dec_lt i play_slots) [
      | yes h ↦ get_or-replicate play_slots i 0 0 h
      | no n ↦ get_or-eq_default (replicate play_slots 0) 0 {n = i} (omega arith)
    ] in
    record {
      fits =
          record {
            within = omega arith;
            own_state = y.closed_target.start_below;
            as_many = refl;
            kept_states = λ i h. absurd (not-suc-le-zero h);
            kept_unused = λ i h. none-used i;
            begins_unused = λ i h. none-used i;
            begins_rising = λ i h. absurd (not-suc-le-zero h);
            begins_below = λ i h. absurd (not-suc-le-zero h);
          };
      kept_slots = refl;
      begin_slots = refl;
    }
