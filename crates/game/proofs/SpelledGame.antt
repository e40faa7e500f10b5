-- The spelled and the held arena are won and lost together, where state and kept states are the target's run over the word spelled.
use mathlib.Core.Path.{◌≡◌, refl, sym, ◌∙◌, ap, subst}
use mathlib.Core.Bool.{true, false≢true}
use mathlib.Core.Logic.Iff
use mathlib.Core.Logic.{◌↔◌}
use mathlib.Core.List.{List, [], ◌∷◌, ◌++◌}
use Prim.Native.Nat.{ℕ, ◌≤◌}
use native.Mathlib.Omega.{arith}
use lib.ListN.{length, take, drop, length-append, take-append-drop}
use lib.Seq.{take-append_seam, take-append-le}
use Rattle.words.specs.Tag.{Tag, opening, closing, Word}
use Rattle.words.specs.Forest.{WellNested}
use Rattle.automata.specs.Target.{Target, Config, at, stuck, step, run, accepts, in_form}
use Rattle.automata.proofs.TargetRun.{run_append}
use Rattle.game.specs.Arena.{read, fetch, Won, Lost}
use Rattle.game.specs.Game.{Game, allowed}
use Rattle.game.specs.Spelled.{Spelling, spell, spelled}
use Rattle.game.specs.Held.{replied, held}
use Rattle.game.proofs.HeldGame.{replied_run}
use Rattle.game.proofs.Simulate.{Simulation, won_same, lost_same}
use Rattle.words.specs.Inner.Rest.{Closes}
use Rattle.words.proofs.RestLaws.{closes_opened, closes_closed, closes_none_open}

-- beside each note, newest first, the kept state: to where the word as far as the note takes the target
abbrev pub Noted : Target → Word → List ℕ → List ℕ → Type 0
Noted A w [] [] = Unit {0}
Noted A w [] (k ∷ ks) = ⊥
Noted A w (n ∷ ns) [] = ⊥
Noted A w (n ∷ ns) (k ∷ ks) = (n ≤ length w) × (run A (take n w) (at A.start []) ≡ at k ks) × Noted A (take n w) ns ks

-- notes look only at the word before them, so a longer word has the same
pub noted_more : (A : Target) (w v : Word) (ns ks : List ℕ) → Noted A w ns ks → Noted A (w ++ v) ns ks
noted_more A w v [] [] k = tt
noted_more A w v [] (x ∷ ks) k = k
noted_more A w v (m ∷ ns) [] k = k
noted_more A w v (m ∷ ns) (x ∷ ks) (l, e, k) =
    let cut = take-append-le m w v l in
    (simp length-append (omega arith), rw cut e, rw cut k)

noted_whole : (A : Target) (w : Word) (n : ℕ) (ns ks : List ℕ) → Noted A (take n w) ns ks → Noted A w ns ks
noted_whole A w n ns ks k = subst (λ v. Noted A v ns ks) (take-append-drop n w) (noted_more A (take n w) (drop n w) ns ks k)

-- what a play holds is what the target's run over the word spelled holds
abbrev pub RunOf : Target → Word → List ℕ → Config → Type 0
RunOf A w ns (at q ks) = (run A w (at A.start []) ≡ at q ks) × Noted A w ns ks
RunOf A w ns stuck = ⊥

module _ (A : Target) where
  -- the run over the word and its notes, past an opening tag that is read
  read_opening : (c : ℕ) (w : Word) (ns : List ℕ) (q : ℕ) (ks : List ℕ) → RunOf A w ns (at q ks)
      → RunOf A (w ++ (opening c ∷ [])) (length w ∷ ns) (at (A.open_to q c) (q ∷ ks))
  read_opening c w ns q ks (e, k) =
      let seam = take-append_seam w (opening c ∷ []) in (
        run_append A w (opening c ∷ []) (at A.start []) ∙ ap (λ x. step A (opening c) x) e,
        (simp length-append (omega arith), rw seam e, rw seam k),
      )

  -- the run over the word and its notes, past a closing tag that is read
  read_closing : (c : ℕ) (w : Word) (n : ℕ) (ns : List ℕ) (r q : ℕ) (ks : List ℕ) → RunOf A w (n ∷ ns) (at r (q ∷ ks))
      → RunOf A (w ++ (closing c ∷ [])) ns (at (A.close_to r q c) ks)
  read_closing c w n ns r q ks (e, k) = (
    run_append A w (closing c ∷ []) (at A.start []) ∙ ap (λ x. step A (closing c) x) e,
    noted_more A w (closing c ∷ []) ns ks (noted_whole A w n ns ks k.2),
  )

  -- the run over the word and its notes, past a fetch: the word is cut to the newest note, and the reply is run from there
  fetch_reply_lem : (u : Word) → WellNested u → (w : Word) (n : ℕ) (ns : List ℕ) (c r q : ℕ) (ks : List ℕ) →
      RunOf A w (n ∷ ns) (at r (q ∷ ks))
      → RunOf A (take n w ++ u) ns (at (replied A c q r u) ks)
  fetch_reply_lem u nu w n ns c r q ks (e, k) =
      let runs = run_append A (take n w) u (at A.start []) ∙ ap (λ x. run A u x) k.1 ∙ sym (replied_run A u nu c q r ks) in
      (runs, noted_more A (take n w) u ns ks k.2)

module _ (G : Game) where
  abbrev A : Target
  A = G.target

  abbrev pub SpelledTied : Word → Spelling → Config → Type 0
  SpelledTied v s k = RunOf A s.word s.notes k × Closes (length s.notes) v

  pub tied_read : (t : Tag) (v w : Word) (ns : List ℕ) (k : Config) → RunOf A w ns k → Closes (length ns) (t ∷ v)
      → SpelledTied v (spell read t (record { word = w; notes = ns })) ((held G).step read t k)
  tied_read (opening c) v w ns (at q ks) r h = (read_opening A c w ns q ks r, closes_opened h)
  tied_read (opening c) v w ns stuck r h = absurd r
  tied_read (closing c) v w [] k r h = absurd (closes_none_open h)
  tied_read (closing c) v w (n ∷ ns) (at r []) (e, k) h = absurd k
  tied_read (closing c) v w (n ∷ ns) (at r (q ∷ ks)) k h = (read_closing A c w n ns r q ks k, closes_closed h)
  tied_read (closing c) v w (n ∷ ns) stuck r h = absurd r

  pub tied_fetch : (t : Tag) (v w : Word) (ns : List ℕ) (k : Config) (u : Word) → RunOf A w ns k → Closes (length ns) (t ∷ v)
      → allowed G t ≡ true → WellNested u → SpelledTied v (spell (fetch u) t (record { word = w; notes = ns }))
      ((held G).step (fetch u) t k)
  tied_fetch (opening c) v w ns k u r h m l = absurd (false≢true m)
  tied_fetch (closing c) v w [] k u r h m l = absurd (closes_none_open h)
  tied_fetch (closing c) v w (n ∷ ns) (at r []) u (e, k) h m l = absurd k
  tied_fetch (closing c) v w (n ∷ ns) (at r (q ∷ ks)) u k h m l = (fetch_reply_lem A u l w n ns c r q ks k, closes_closed h)
  tied_fetch (closing c) v w (n ∷ ns) stuck u r h m l = absurd r

  -- where both stand for one play, the same fetches are allowed
  pub same_may : (t : Tag) (v w : Word) (ns : List ℕ) (k : Config) → RunOf A w ns k → Closes (length ns) (t ∷ v) →
      allowed G t ≡ (held G).may t k
  same_may (opening c) v w ns k r h = refl
  same_may (closing c) v w [] k r h = absurd (closes_none_open h)
  same_may (closing c) v w (n ∷ ns) (at r []) (e, k) h = absurd k
  same_may (closing c) v w (n ∷ ns) (at r (q ∷ ks)) k h = refl
  same_may (closing c) v w (n ∷ ns) stuck r h = absurd r

  -- what a play holds is where the word spelled leads the target; so the form is met by both or by neither
  pub led_to_lem : (w : Word) (ns : List ℕ) (k : Config) → RunOf A w ns k → run A w (at A.start []) ≡ k
  led_to_lem w ns (at q ks) (e, k) = e
  led_to_lem w ns stuck r = absurd r

  pub same_form : (w : Word) (ns : List ℕ) (k : Config) → RunOf A w ns k → in_form A w ≡ accepts A k
  unfolding in_form
  same_form w ns k r = ap (λ x. accepts A x) (led_to_lem w ns k r)

  unfoldable pub run_held : Simulation (spelled G) (held G)
  run_held =
      record {
        Tied = SpelledTied;
        same_may = λ t v s k r. same_may t v s.word s.notes k r.0 r.1;
        same_replies = λ c u. Iff.rfl;
        tied_read = λ t v s k r. tied_read t v s.word s.notes k r.0 r.1;
        tied_fetch = λ t v s k u r m l. tied_fetch t v s.word s.notes k u r.0 r.1 m l.nested;
        same_met = λ s k r. same_form s.word s.notes k r.0;
      }

  -- Where state and kept states are the run over the word spelled, the play is won on words exactly when it is won on what it holds,
  -- and lost exactly when it is lost there.
  module _ (v : Word) (s : Spelling) (k : Config) (r : RunOf A s.word s.notes k) (h : Closes (length s.notes) v) where
    pub spelled_won : Won (spelled G) v s ↔ Won (held G) v k
    unfolding run_held
    spelled_won = won_same (spelled G) (held G) run_held v s k (r, h)

    pub spelled_lost : Lost (spelled G) v s ↔ Lost (held G) v k
    unfolding run_held
    spelled_lost = lost_same (spelled G) (held G) run_held v s k (r, h)

  -- at the record's start nothing is spelled and nothing is kept
  pub at_start : RunOf A [] [] (at A.start [])
  at_start = (refl, tt)
