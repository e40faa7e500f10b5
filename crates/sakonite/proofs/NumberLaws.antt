-- Which numbers the entries that take a history never give: 21, and 24 where the buffer is as long as the history. Every refusal is below
-- what is added to a length.
use mathlib.Core.Path.{◌≡◌, refl, sym, ◌∙◌, ap, subst}
use mathlib.Core.Logic.{◌⊎◌, inl, inr, ⊎_elim, if_pos, if_neg}
use mathlib.Core.List.{List, [], ◌∷◌, ◌++◌, map}
use Prim.Native.Nat.{ℕ, ◌+◌, ◌<◌, ◌≤◌}
use native.Mathlib.Omega.{arith}
use native.Mathlib.Decide.{ℕ_discrete}
use lib.Dec.{lit<}
use lib.ListN.{length, length-append}
use Rattle.words.specs.Tag.{Tag, word_of}
use Rattle.contents.specs.Contents.{form_codes, record_bytes}
use Rattle.job.specs.Refusal.{RefusalRule, first_of, Given}
use Rattle.job.specs.File.{contents_rules, table_rules, form_rules, rule14, rule17, form_in, record_rules, file_rules, file_refusal}
use Rattle.job.proofs.Refusals.{NoneBroken, first_broken, first_kept, passed_first}
use Rattle.game.specs.Game.{Game}
use Rattle.game.specs.Job.{game_of, record_of}
use Rattle.play.specs.Play.{held_of, tags_left, PlayFits}
use Rattle.fetching.specs.FetchRules.{rule23}
use Rattle.play.specs.Moves.{MoveCall, to_read, to_fetch, tag_at, count_after}
use Rattle.play.specs.MoveRules.{rule21, rule22, rule24, tag_rules, play_rules}
use Rattle.play_advice.specs.Start.{file_start}
use Rattle.play_advice.specs.Advice.{advice_rules}
use Rattle.play_losing.specs.LosingAnswer.{reply_rules, reply_refusal, fetch_asked_rules, length_base}
use Rattle.play.specs.declared.Play.{Play}
use Rattle.losing.specs.LosingReply.{FetchOutcome}
use Rattle.demand.proofs.Advised.{advice_few}
use Rattle.play_advice.proofs.StartLaws.{begins}
use Rattle.play.proofs.EntryLaws.{file_playable}
use Rattle.demand.proofs.FinishedPart.{moved_count}
use Rattle.demand.proofs.MovedPlay.{held_fits}
use Rattle.play.proofs.MoveRefusals.{Passes, rules_passed}
use Rattle.sakonite.specs.History.{written}
use Rattle.sakonite.specs.Decide.History.{is_history?}
use Rattle.sakonite.specs.Played.{moved_by, call_rules, ample}
use Rattle.sakonite.specs.Entries.{calls_of, rule20, history_rules, history_refusal, play_at, finished_base}
use Rattle.sakonite.specs.Entries.{finished_refusal, finished_number, AdviceAfter, FinishedAfter}
use Rattle.sakonite.proofs.RoomLaws.{Modest, modest_start, modest_moved, newest_within}
use Rattle.sakonite.proofs.AnswerLaws.{history_given, none_refused, play_reached}

-- a number that one list after another gives is given by the first, or by the second where the first lets pass
given_parts : (a b : List RefusalRule) (n : ℕ) → Given (a ++ b) n → Given a n ⊎ (NoneBroken a × Given b n)
given_parts [] b n g = inr (tt, g)
given_parts (r ∷ a) b n g =
    ⊎_elim (λ x. inl (inl x)) (λ x. ⊎_elim (λ y. inl (inr (x.0, y))) (λ y. inr ((x.0, y.0), y.1)) (given_parts a b n x.1)) g

-- each number of a list has a property, and so has the number that it gives
abbrev pub EachNumber : (ℕ → Type 0) → List RefusalRule → Type 0
EachNumber P [] = Unit {0}
EachNumber P (r ∷ rs) = P r.number × EachNumber P rs

module _ (P : ℕ → Type 0) where
  each_append : (a b : List RefusalRule) → EachNumber P a → EachNumber P b → EachNumber P (a ++ b)
  each_append [] b p q = q
  each_append (r ∷ a) b p q = (p.0, each_append a b p.1 q)

  each_map : (f : ℕ → RefusalRule) → ((c : ℕ) → P (f c).number) → (cs : List ℕ) → EachNumber P (map f cs)
  each_map f h [] = tt
  each_map f h (c ∷ cs) = (h c, each_map f h cs)

  given_has : (n : ℕ) (rs : List RefusalRule) → EachNumber P rs → Given rs n → P n
  given_has n [] e g = absurd g
  given_has n (r ∷ rs) e g = ⊎_elim (λ x. subst P x.1 e.0) (λ x. given_has n rs e.1 x.1) g

  -- and where it gives none, 0 has to have it
  pub first_has : P 0 → (rs : List RefusalRule) → EachNumber P rs → P (first_of rs)
  unfolding first_of
  first_has z [] e = z
  first_has z (r ∷ rs) e =
      elim r.broken? [
        | yes b ↦ subst P (sym (first_broken r rs b)) e.0
        | no k ↦ subst P (sym (first_kept r rs k)) (first_has z rs e.1)
      ]

-- a file's numbers are 11 to 17
each_file : (P : ℕ → Type 0) → ((i : ℕ) → i < 18 → P i) → (file : List ℕ) → EachNumber P (file_rules file)
unfolding file_rules
each_file P few file =
    let contents : EachNumber P (contents_rules file) = (few 11 (lit< tt), (few 12 (lit< tt), tt)) in
    let tables : EachNumber P (table_rules file) = (few 13 (lit< tt), each_map P (rule14 file) (λ c. few 14 (lit< tt)) form_codes) in
    let answers : EachNumber P (form_rules (rule17 (form_in file))) = each_map P (rule17 (form_in file)) (λ c. few 17 (lit< tt))
    form_codes in
    let record-rules : EachNumber P (record_rules (record_bytes file)) = (few 15 (lit< tt), (few 16 (lit< tt), tt)) in
    let last = form_rules (rule17 (form_in file)) ++ record_rules (record_bytes file) in
    each_append P (contents_rules file) (table_rules file ++ last) contents
    (each_append P (table_rules file) last tables
    (each_append P (form_rules (rule17 (form_in file))) (record_rules (record_bytes file)) answers record-rules))

file_numbers : (file : List ℕ) (n : ℕ) → Given (file_rules file) n → n < 18
file_numbers file n g = given_has (λ i. i < 18) n (file_rules file) (each_file (λ i. i < 18) (λ i h. h) file) g

-- what every number below 25 has, the refusal of a history has
module _ (P : ℕ → Type 0) (few : (i : ℕ) → i < 25 → P i) where
  tag_each : (G : Game) (t : Tag) (m : MoveCall) → EachNumber P (tag_rules G t m)
  tag_each G t to_read = tt
  tag_each G t (to_fetch u) = (few 23 (lit< tt), (few 18 (lit< tt), (few 19 (lit< tt), tt)))

  calls_each : (file : List ℕ) (room : Play → MoveCall → ℕ) (cs : List MoveCall) (p : Play) → EachNumber P (call_rules file room p cs)
  unfolding play_rules
  calls_each file room [] p = tt
  calls_each file room (m ∷ cs) p =
      let G = game_of file in
      let bytes = record_bytes file in
      let t = tag_at bytes p in
      let reply = each_append P (tag_rules G t m) (rule24 p m (room p m) ∷ []) (tag_each G t m) (few 24 (lit< tt), tt) in
      each_append P (play_rules G bytes p m (room p m)) (call_rules file room (moved_by file p m) cs)
      (few 21 (lit< tt), (few 22 (lit< tt), reply)) (calls_each file room cs (moved_by file p m))

  pub history_each : (file history : List ℕ) (room : Play → MoveCall → ℕ) → P (history_refusal file history room)
  unfolding history_refusal history_rules
  history_each file history room =
      let calls = call_rules file room (file_start file) (calls_of history) in
      first_has P (few 0 (lit< tt)) (file_rules file ++ (rule20 history ∷ calls))
      (each_append P (file_rules file) (rule20 history ∷ calls) (each_file P (λ i h. few i (omega arith)) file)
      (few 20 (lit< tt), calls_each file room (calls_of history) (file_start file)))

-- every refusal is below what is added to a length
abbrev Below : ℕ → Type 0
Below i = i < length_base

pub history_below : (file history : List ℕ) (room : Play → MoveCall → ℕ) → history_refusal file history room < length_base
history_below file history room = history_each Below (λ i h. omega arith) file history room

pub asked_below : (file : List ℕ) (p : Play) → first_of (fetch_asked_rules file p) < length_base
asked_below file p =
    let unfit = rule21 (game_of file).target (record_of file) p p.count ∷ [] in
    let fetching = rule22 (record_bytes file) p ∷ rule23 (game_of file) (tag_at (record_bytes file) p) ∷ [] in
    let advised = each_append Below (file_rules file) unfit (each_file Below (λ i h. omega arith) file) (lit< tt, tt) in
    first_has Below (lit< tt) (fetch_asked_rules file p) (each_append Below (advice_rules file p) fetching advised (lit< tt, (lit< tt, tt)))

pub reply_below : (a : FetchOutcome) (room : ℕ) → reply_refusal a room < length_base
reply_below a room = first_has Below (lit< tt) (reply_rules a room) (lit< tt, (lit< tt, tt))

-- 21 and 24 of a call are given under their own conditions
module _ (G : Game) (bytes : List ℕ) (p : Play) (m : MoveCall) (room : ℕ) where
  abbrev reply : List RefusalRule
  reply = tag_rules G (tag_at bytes p) m

  abbrev last : List RefusalRule
  last = rule24 p m room ∷ []

  -- a number above 19 that is not 23 is none of the reply's
  reply_numbers : (n : ℕ) → ¬ (23 ≡ n) → ¬ (n < 20) → (x : MoveCall) → EachNumber (λ i. ¬ (i ≡ n)) (tag_rules G (tag_at bytes p) x)
  reply_numbers n k h to_read = tt
  reply_numbers n k h (to_fetch u) = (k, (λ e. h (omega arith), (λ e. h (omega arith), tt)))

  given_21 : Given (play_rules G bytes p m room) 21 → ¬ (PlayFits G.target (word_of bytes) p × (p.count ≤ room))
  unfolding play_rules
  given_21 g =
      let P : ℕ → Type 0 = λ i. ¬ (i ≡ 21) in
      let others : EachNumber P (rule22 bytes p ∷ (reply ++ last)) =
      (λ e. omega arith, each_append P reply last (reply_numbers 21 (λ e. omega arith) (λ e. omega arith) m) (λ e. omega arith, tt)) in
      ⊎_elim (λ x. x.0) (λ x. absurd (given_has P 21 (rule22 bytes p ∷ (reply ++ last)) others x.1 refl)) g

  given_24 : Given (play_rules G bytes p m room) 24 → room < count_after p m
  unfolding play_rules
  given_24 g =
      let P : ℕ → Type 0 = λ i. ¬ (i ≡ 24) in
      let front = rule21 G.target (word_of bytes) p room ∷ rule22 bytes p ∷ reply in
      let others : EachNumber P front =
      (λ e. omega arith, (λ e. omega arith, reply_numbers 24 (λ e. omega arith) (λ e. omega arith) m)) in
      ⊎_elim (λ x. absurd (given_has P 24 front others x refl)) (λ x. ⊎_elim (λ y. y.0) (λ y. absurd y.1) x.1)
      (given_parts front last 24 g)

module _ (file : List ℕ) (ok : file_refusal file ≡ 0) where
  abbrev G : Game
  G = game_of file

  abbrev bytes : List ℕ
  bytes = record_bytes file

  -- every play that calls lead to fits, so where there is room for what is finished 21 is not given
  module _ (room : Play → MoveCall → ℕ)
      (kept : (p : Play) (m x : MoveCall) → Passes G bytes p m (room p m) → (moved_by file p m).count ≤ room (moved_by file p m) x) where
    no_21 : (cs : List MoveCall) (p : Play) → Modest file p → ((x : MoveCall) → p.count ≤ room p x) → ¬ Given (call_rules file room p cs) 21
    no_21 [] p h r g = g
    no_21 (m ∷ cs) p h r g =
        ⊎_elim (λ x. given_21 G bytes p m (room p m) x (h.sound.fits, r m))
        (λ x.
        let passes = rules_passed G bytes p m (room p m) x.0 in
        no_21 cs (moved_by file p m) (modest_moved file ok p h m (room p m) passes) (λ y. kept p m y passes) x.1)
        (given_parts (play_rules G bytes p m (room p m)) (call_rules file room (moved_by file p m) cs) 21 g)

  -- a call finishes no more bytes than it is written with
  written_room : (p : Play) → Modest file p → (m : MoveCall) (cs : List MoveCall) →
      count_after p m + length (written cs) ≤ p.count + length (written (m ∷ cs))
  written_room p h to_read cs = omega arith
  written_room p h (to_fetch u) cs = let n = newest_within file ok p h in let l = length-append u (written cs) in omega arith

  no_24 : (N : ℕ) (cs : List MoveCall) (p : Play) → Modest file p → p.count + length (written cs) ≤ N →
      ¬ Given (call_rules file (λ q m. N) p cs) 24
  no_24 N [] p h r g = g
  no_24 N (m ∷ cs) p h r g =
      let w = written_room p h m cs in
      ⊎_elim (λ x. let short = given_24 G bytes p m N x in omega arith)
      (λ x.
      let passes = rules_passed G bytes p m N x.0 in
      let count = moved_count G.target bytes p m in
      no_24 N cs (moved_by file p m) (modest_moved file ok p h m N passes) (omega arith) x.1)
      (given_parts (play_rules G bytes p m N) (call_rules file (λ q m. N) (moved_by file p m) cs) 24 g)

-- a number above 20 is given by a call of an accepted file
by_call : (file history : List ℕ) (room : Play → MoveCall → ℕ) (n : ℕ) → 20 < n → history_refusal file history room ≡ n →
    (file_refusal file ≡ 0) × Given (call_rules file room (file_start file) (calls_of history)) n
unfolding history_rules file_refusal
by_call file history room n h e =
    let g = (history_given file history room n (λ z. omega arith)).0 e in
    ⊎_elim (λ x. let few = file_numbers file n x in absurd (omega arith))
    (λ x. ⊎_elim (λ y. let e20 = y.1 in absurd (omega arith)) (λ y. (passed_first (file_rules file) x.0, y.1)) x.1)
    (given_parts (file_rules file) _ n g)

nothing_finished : (file : List ℕ) → file_refusal file ≡ 0 → (file_start file).count ≡ 0
nothing_finished file ok = ap (λ p. p.count) (begins file ok)

-- 21 is not given where every accepted call leaves room for what it finished
never_21 : (file history : List ℕ) (room : Play → MoveCall → ℕ) →
    ((p : Play) (m x : MoveCall) → Passes (game_of file) (record_bytes file) p m (room p m) →
    (moved_by file p m).count ≤ room (moved_by file p m) x) → ¬ (history_refusal file history room ≡ 21)
never_21 file history room kept e =
    let b = by_call file history room 21 (lit< tt) e in
    let empty = nothing_finished file b.0 in
    no_21 file b.0 room kept (calls_of history) (file_start file) (modest_start file b.0) (λ x. omega arith) b.1

pub advice_21 : (file history : List ℕ) → ¬ (history_refusal file history ample ≡ 21)
advice_21 file history = never_21 file history ample (λ p m x y. omega arith)

finished_21 : (file history buffer : List ℕ) → ¬ (finished_refusal file history buffer ≡ 21)
finished_21 file history buffer =
    never_21 file history (λ p m. length buffer) (λ p m x y.
    let count = moved_count (game_of file).target (record_bytes file) p m in
    let r = y.roomy in
    omega arith)

-- 21 never comes out of an entry
pub advice_never_21 : (file history : List ℕ) (r : ℕ) → AdviceAfter file history r → ¬ (r ≡ 21)
advice_never_21 file history r v e =
    elim (ℕ_discrete (history_refusal file history ample) 0) [
      | no n ↦ advice_21 file history (sym (v.refused n) ∙ e)
      | yes z ↦
          let y = file_playable file (none_refused file history ample z).0 in
          let few =
          advice_few (game_of file) y.closed_target (tags_left (record_of file) (play_at file history)) (held_of (play_at file history))
          (held_fits (game_of file) (record_bytes file) y (play_at file history) (play_reached file history ample z).sound.fits) r
          (v.given z) in
          omega arith
    ]

-- the calls of a history are written with no more bytes than it has
calls_long : (history : List ℕ) → length (written (calls_of history)) ≤ length history
unfolding calls_of
calls_long history =
    elim (is_history? history) as (λ d. length (written (elim d [ yes x ↦ x.0 | no _ ↦ [] ])) ≤ length history) [
      | yes x ↦ let e : length (written x.0) ≡ length history = ap length x.1 in omega arith
      | no n ↦ omega arith
    ]

-- what finished answers is a refusal or not below the base
module _ (file history buffer : List ℕ) (r : ℕ) (left : List ℕ) (v : FinishedAfter file history buffer r left) where
  refusal_or_more : (n : ℕ) → n < finished_base → r ≡ n → finished_refusal file history buffer ≡ n
  unfolding finished_number
  refusal_or_more n h e =
      elim (ℕ_discrete (finished_refusal file history buffer) 0) [
        | yes z ↦
            let more = v.number ∙ if_pos (ℕ_discrete (finished_refusal file history buffer) 0) z _ _ in
            absurd (omega arith)
        | no k ↦ sym (if_neg (ℕ_discrete (finished_refusal file history buffer) 0) k _ _) ∙ sym v.number ∙ e
      ]

  pub finished_never_21 : ¬ (r ≡ 21)
  finished_never_21 e = finished_21 file history buffer (refusal_or_more 21 (lit< tt) e)

  -- a buffer as long as the history is long enough
  pub finished_room : length history ≤ length buffer → ¬ (r ≡ 24)
  finished_room h e =
      let lent : Play → MoveCall → ℕ = λ p m. length buffer in
      let z = refusal_or_more 24 (lit< tt) e in
      let b = by_call file history lent 24 (lit< tt) z in
      let empty = nothing_finished file b.0 in
      let long = calls_long history in
      no_24 file b.0 (length buffer) (calls_of history) (file_start file) (modest_start file b.0) (omega arith) b.1
