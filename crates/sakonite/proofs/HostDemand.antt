-- Demand 3 speaks of the entries too: calls that are all accepted keep the play tied to what they spell, and the advice of the entry is the
-- advice of that play.
use mathlib.Core.Path.{◌≡◌, refl, sym, ◌∙◌, ap, subst}
use mathlib.Core.Logic.{◌⊎◌, ◌↔◌, if_pos}
use mathlib.Core.List.{List, [], ◌∷◌, ◌++◌, append_assoc, append-nil}
use Prim.Native.Nat.{ℕ, ◌+◌, ◌-◌}
use native.Mathlib.Omega.{arith}
use native.Mathlib.Decide.{ℕ_discrete}
use lib.ListN.{length, take, replicate, length-replicate}
use lib.Seq.{length-paste}
use Rattle.words.specs.Exactly.{Exactly}
use Rattle.words.specs.Tag.{word_of}
use Rattle.automata.specs.Small.{Small}
use Rattle.contents.specs.Contents.{record_bytes}
use Rattle.job.specs.File.{file_refusal}
use Rattle.game.specs.Job.{game_of}
use Rattle.play.specs.Moves.{MoveCall, to_read, to_fetch, piece_offset, piece_of, with_piece}
use Rattle.play_advice.specs.Start.{file_start}
use Rattle.play.specs.Entries.{file_move_refusal}
use Rattle.play_advice.specs.Advice.{AdviceOf}
use Rattle.play.proofs.MoveRefusals.{Passes, refusal_passes}
use Rattle.demand.specs.Kind.{Kind}
use Rattle.demand.specs.Demand.{game_move, SpellingAt, spelling_start, past, NotAtEnd, WonAt, LawfulHere, Names, LongEnough, AdviceSays}
use Rattle.demand.specs.Replacing.{replacing_in}
use Rattle.play.specs.declared.Play.{Play}
use Rattle.play_advice.proofs.StartLaws.{begins}
use Rattle.play.proofs.EntryLaws.{own_number, move_passes, next_play, next_buffer}
use Rattle.play_advice.proofs.AdviceRefusals.{advice_passes}
use Rattle.play.proofs.MoveLaws.{count_piece}
use Rattle.demand.proofs.OneAdvice.{advice_exactly}
use Rattle.demand.proofs.Laws.{Finished, Laws}
use Rattle.demand.proofs.KindLaws.{won_met, won_unless, won_by, advised_taken}
use Rattle.demand.proofs.Demand3.{replacing_laws}
use Rattle.sakonite.specs.History.{written}
use Rattle.sakonite.specs.Played.{moved_by, play_after, buffer_after, ample}
use Rattle.sakonite.specs.Inner.CallsTaken.{first_refused}
use Rattle.sakonite.specs.Entries.{history_refusal, play_at, finished_base, finished_refusal, finished_number, finished_buffer}
use Rattle.sakonite.specs.Entries.{AdviceAfter}
use Rattle.sakonite.specs.HostDemand.{spelled_on, spelled_in, AllAccepted, HostFollows, HostFollowed, HostAdvice, HostFinished}
use Rattle.sakonite.proofs.HistoryLaws.{calls_are}
use Rattle.play.proofs.MoveLaws.{refusal_in}
use Rattle.sakonite.proofs.PlayedLaws.{none_first, first_accepted, head_accepted, tail_accepted}
use Rattle.sakonite.proofs.RoomLaws.{Modest, modest_start, modest_after}
use Rattle.sakonite.proofs.AnswerLaws.{by_calls, none_refused}

-- calls are all accepted exactly when those of a front part are, and the others from the play that these lead to
both_accepted : (file : List ℕ) (room : Play → MoveCall → ℕ) (cs ds : List MoveCall) (p : Play) →
    (first_refused file room p (cs ++ ds) ≡ 0) ↔ ((first_refused file room p cs ≡ 0) ×
    (first_refused file room (play_after file p cs) ds ≡ 0))
both_accepted file room [] ds p = (λ z. (none_first file room p, z), λ x. x.1)
both_accepted file room (m ∷ cs) ds p =
    let i = both_accepted file room cs ds (moved_by file p m) in (
      λ z.
          let x = i.0 (tail_accepted file room p m (cs ++ ds) z) in
          (first_accepted file room p m cs (head_accepted file room p m (cs ++ ds) z) ∙ x.0, x.1),
      λ x.
          first_accepted file room p m (cs ++ ds) (head_accepted file room p m cs x.0) ∙
          i.1 (tail_accepted file room p m cs x.0, x.1),
    )

-- of calls whose history is not refused, none is
calls_accepted : (file : List ℕ) (cs : List MoveCall) (room : Play → MoveCall → ℕ) → history_refusal file (written cs) room ≡ 0 →
    first_refused file room (file_start file) cs ≡ 0
calls_accepted file cs room z =
    subst (λ ds. first_refused file room (file_start file) ds ≡ 0) (calls_are cs) (none_refused file (written cs) room z).2

-- one call more is spelled
spelled_more : (K : Kind) (F : SpellingAt K) (cs : List MoveCall) (m : MoveCall) →
    spelled_on K F (cs ++ (m ∷ [])) ≡ past K (game_move m) (spelled_on K F cs)
spelled_more K F [] m = refl
spelled_more K F (x ∷ cs) m = spelled_more K (past K (game_move x) F) cs m

module _ (file : List ℕ) (ok : file_refusal file ≡ 0) where
  abbrev K : Kind
  K = replacing_in file

  abbrev L : Laws K
  L = replacing_laws file ok

  abbrev start : Play
  start = file_start file

  abbrev after : List MoveCall → Play
  after cs = play_after file start cs

  -- an accepted call, as any file's
  accepts : (p : Play) (m : MoveCall) (n : ℕ) → refusal_in file p m n ≡ 0 → file_move_refusal file p m n ≡ 0
  accepts p m n z = own_number file p m ok n ∙ z

  module _ (room : Play → MoveCall → ℕ) where
    reached_along : (cs : List MoveCall) (p : Play) (F : SpellingAt K) → L.Reached p F → first_refused file room p cs ≡ 0 →
        L.Reached (play_after file p cs) (spelled_on K F cs)
    reached_along [] p F t z = t
    reached_along (m ∷ cs) p F t z =
        let e = accepts p m (room p m) (head_accepted file room p m cs z) in
        reached_along cs (moved_by file p m) (past K (game_move m) F)
        (subst (λ q. L.Reached q (past K (game_move m) F)) (next_play file p m (room p m) e) (L.moved p F t m (room p m) e))
        (tail_accepted file room p m cs z)

  -- no call changes the buffer's length
  same_long : (p : Play) (m : MoveCall) (b : List ℕ) → file_move_refusal file p m (length b) ≡ 0 →
      length (with_piece (record_bytes file) p m b) ≡ length b
  same_long p m b z =
      let r = ((move_passes file p m ok (length b)).0 z).roomy in
      let f = count_piece (record_bytes file) p m in
      let piece = piece_of (record_bytes file) p.position m in
      length-paste b (piece_offset p m) piece (length piece) (omega arith) (omega arith)

  module _ (N : ℕ) where
    abbrev lent : Play → MoveCall → ℕ
    lent p m = N

    finished_along : (cs : List MoveCall) (p : Play) (F : SpellingAt K) (b : List ℕ) → length b ≡ N → L.Reached p F →
        first_refused file lent p cs ≡ 0 →
        Finished K p b F → Finished K (play_after file p cs) (buffer_after file p b cs) (spelled_on K F cs)
    finished_along [] p F b l t z f = f
    finished_along (m ∷ cs) p F b l t z f =
        let head = head_accepted file lent p m cs z in
        let e = accepts p m (length b) (subst (λ n. refusal_in file p m n ≡ 0) (sym l) head) in
        let play = next_play file p m (length b) e in
        let done : Finished K (moved_by file p m) (with_piece (record_bytes file) p m b) (past K (game_move m) F) =
        (λ i. take (sym play i).count (sym (next_buffer file p m b e) i)) ∙ L.finished p F t m b e f in
        finished_along cs (moved_by file p m) (past K (game_move m) F) (with_piece (record_bytes file) p m b) (same_long p m b e ∙ l)
        (subst (λ q. L.Reached q (past K (game_move m) F)) play (L.moved p F t m (length b) e)) (tail_accepted file lent p m cs z) done

  -- the history of some calls, all of them accepted
  module _ (cs : List MoveCall) (acc : AllAccepted file cs) where
    all_first : first_refused file ample start cs ≡ 0
    all_first = calls_accepted file cs ample acc

    pub reached : L.Reached (after cs) (spelled_in file cs)
    reached = reached_along ample cs start (spelling_start K) L.reached_start all_first

    fits : Modest file (after cs)
    fits = modest_after file ok ample cs start (modest_start file ok) all_first

    -- what the entry advises is the advice of the play
    pub play_is : play_at file (written cs) ≡ after cs
    play_is = ap (λ ds. play_after file start ds) (calls_are cs)

    to_play : (r : ℕ) → AdviceAfter file (written cs) r → AdviceOf file (after cs) r
    to_play r v =
        let passes = advice_passes file ok (after cs) fits.sound.fits in
        subst (λ p. AdviceOf file p r) play_is
        (record { refused = λ n. absurd (n (rw play_is passes)); given = λ _. v.given acc })

    from_play : (r : ℕ) → AdviceOf file (after cs) r → AdviceAfter file (written cs) r
    from_play r a =
        let passes = advice_passes file ok (after cs) fits.sound.fits in
        record { refused = λ n. absurd (n acc); given = λ _. rw play_is (a.given passes) }

    one_advised : Exactly (AdviceAfter file (written cs))
    one_advised =
        let one = advice_exactly file (after cs) in
        record { value = one.value; right = from_play one.value one.right; only = λ a v. one.only a (to_play a v) }

    says : AdviceSays K (spelled_in file cs) one_advised.value
    says = let a = one_advised in L.says (after cs) (spelled_in file cs) reached a.value (to_play a.value a.right)

  all_accepted : (cs : List MoveCall) → first_refused file ample start cs ≡ 0 → AllAccepted file cs
  all_accepted cs z =
      by_calls file (written cs) ample ok (cs, refl) ∙
      subst (λ ds. first_refused file ample start ds ≡ 0) (sym (calls_are cs)) z

  -- a call that passes is accepted at the end of a history
  pub passing_more : (cs : List MoveCall) → AllAccepted file cs → (m : MoveCall) →
      Passes (game_of file) (record_bytes file) (after cs) m (ample (after cs) m) → AllAccepted file (cs ++ (m ∷ []))
  passing_more cs acc m x =
      let p = after cs in
      let last = first_accepted file ample p m [] ((refusal_passes (game_of file) (record_bytes file) p m (ample p m)).1 x) in
      all_accepted (cs ++ (m ∷ []))
      ((both_accepted file ample cs (m ∷ []) start).1 (all_first cs acc, last ∙ none_first file ample (moved_by file p m)))

  -- and so is one that is accepted in every buffer that is long enough
  call_more : (cs : List MoveCall) (acc : AllAccepted file cs) (m : MoveCall) →
      ((b : List ℕ) → LongEnough K (spelled_in file cs) m b → file_move_refusal file (after cs) m (length b) ≡ 0) →
      AllAccepted file (cs ++ (m ∷ []))
  call_more cs acc m f =
      let F = spelled_in file cs in
      let n = length (K.word F.spelling) + length (K.word (past K (game_move m) F).spelling) in
      let long : length (replicate {A = ℕ} n 0) ≡ n = length-replicate {A = ℕ} n 0 in
      let x = (move_passes file (after cs) m ok _).0 (f (replicate n 0) (omega arith, omega arith)) in
      passing_more cs acc m
      (record { fits = x.fits; lent = omega arith; left = x.left; fetched = x.fetched; roomy = omega arith })

  -- after calls that follow the advice: still won, and a tag used up by each
  abbrev KeptAlong : List MoveCall → ℕ → List MoveCall → Type 0
  KeptAlong cs n ds = WonAt K (spelled_in file ds) × ((spelled_in file ds).position ≡ (spelled_in file cs).position + n)

  won_more : (cs : List MoveCall) (acc : AllAccepted file cs) (m : MoveCall) → AllAccepted file (cs ++ (m ∷ [])) →
      (a : ℕ) → AdviceAfter file (written cs) a → Names K a m → WonAt K (spelled_in file (cs ++ (m ∷ [])))
  won_more cs acc m all a v n =
      let F = spelled_in file cs in
      let G = spelled_in file (cs ++ (m ∷ [])) in
      let more : G ≡ past K (game_move m) F = spelled_more K (spelling_start K) cs m in
      let used : G.position ≡ F.position + 1 = ap (λ x. x.position) more in
      let inside = L.within (after (cs ++ (m ∷ []))) G (reached (cs ++ (m ∷ [])) all) in
      let last = ((both_accepted file ample cs (m ∷ []) start).0 (all_first (cs ++ (m ∷ [])) all)).1 in
      let room = ample (after cs) m in
      subst (λ x. WonAt K x) (sym more)
      (won_by K L (after cs) F (reached cs acc) (omega arith) a (to_play cs acc a v) m n room
      (accepts (after cs) m room (head_accepted file ample (after cs) m [] last)))

  kept_along : (more cs : List MoveCall) → AllAccepted file cs → WonAt K (spelled_in file cs) → HostFollows file cs more →
      AllAccepted file (cs ++ more) → KeptAlong cs (length more) (cs ++ more)
  kept_along [] cs acc w f all = subst (λ ds. KeptAlong cs 0 ds) (sym (append-nil cs)) (w, omega arith)
  kept_along (m ∷ more) cs acc w f all =
      let next = cs ++ (m ∷ []) in
      let same : next ++ more ≡ cs ++ (m ∷ more) = append_assoc cs (m ∷ []) more in
      let all-next : AllAccepted file (next ++ more) = subst (λ ds. AllAccepted file ds) (sym same) all in
      let acc-next : AllAccepted file next =
      all_accepted next ((both_accepted file ample next more start).0 (all_first (next ++ more) all-next)).0 in
      let a = f.0 in
      let k = kept_along more next acc-next (won_more cs acc m acc-next a.0 a.1 a.2) f.1 all-next in
      let used : (spelled_in file next).position ≡ (spelled_in file cs).position + 1 =
      ap (λ x. x.position) (spelled_more K (spelling_start K) cs m) in
      let count = k.1 in
      subst (λ ds. KeptAlong cs (length (m ∷ more)) ds) same (k.0, omega arith)

  module _ (cs : List MoveCall) (acc : AllAccepted file cs) where
    abbrev F : SpellingAt K
    F = spelled_in file cs

    abbrev advice : ℕ
    advice = (one_advised cs acc).value

    onward : NotAtEnd K F → WonAt K F → ((advice ≡ 1) × AllAccepted file (cs ++ (to_read ∷ []))) ⊎
        ((advice ≡ 2) × ((u : List ℕ) → Small u → LawfulHere K F (word_of u) → AllAccepted file (cs ++ (to_fetch u ∷ []))))
    onward left w =
        advised_taken K L (after cs) F (reached cs acc) (λ m. AllAccepted file (cs ++ (m ∷ []))) (call_more cs acc) left w advice
        (to_play cs acc advice (one_advised cs acc).right)

    won : NotAtEnd K F → ¬ (advice ≡ 0) → WonAt K F
    won left n = won_unless K L (after cs) F (reached cs acc) (λ l. n (((says cs acc).lost left).1 l))

  followed : (cs more : List MoveCall) → AllAccepted file cs → WonAt K (spelled_in file cs) → HostFollows file cs more →
      AllAccepted file (cs ++ more) → HostFollowed file (length K.tags - (spelled_in file cs).position) (length more) (cs ++ more)
  followed cs more acc w f all =
      let ds = cs ++ more in
      let k = kept_along more cs acc w f all in
      let used = k.1 in
      let inside = L.within (after ds) (spelled_in file ds) (reached ds all) in
      let before = L.within (after cs) (spelled_in file cs) (reached cs acc) in
      record {
        within = omega arith;
        advised = one_advised ds all;
        onward = λ left. onward ds all (omega arith) k.0;
        ends = λ e.
            let at_end : (spelled_in file ds).position ≡ length K.tags = omega arith in
            (at_end, won_met K L (spelled_in file ds) at_end k.0);
      }

-- demand 3, of `sakonite_advice`
pub host_advice : (file : List ℕ) (cs : List MoveCall) → AllAccepted file cs → HostAdvice file cs (spelled_in file cs)
host_advice file cs acc =
    let ok = (none_refused file (written cs) ample acc).0 in
    record {
      advised = one_advised file ok cs acc;
      says = says file ok cs acc;
      follows = λ left n more f all. followed file ok cs more acc (won file ok cs acc left n) f all;
    }

-- demand 3, of `sakonite_finished`
pub host_finished : (file : List ℕ) (cs : List MoveCall) (buffer : List ℕ) → finished_refusal file (written cs) buffer ≡ 0 →
    HostFinished file (spelled_in file cs) (finished_number file (written cs) buffer) (finished_buffer file (written cs) buffer)
unfolding finished_number finished_buffer
host_finished file cs buffer acc =
    let lent : Play → MoveCall → ℕ = λ p m. length buffer in
    let ok = (none_refused file (written cs) lent acc).0 in
    let K = replacing_in file in
    let laws = replacing_laws file ok in
    let start = file_start file in
    let end = play_after file start cs in
    let calls = calls_are cs in
    let all = calls_accepted file cs lent acc in
    let zero? = ℕ_discrete (finished_refusal file (written cs) buffer) 0 in
    let reached = reached_along file ok lent cs start (spelling_start K) laws.reached_start all in
    let count = laws.count end (spelled_in file cs) reached in
    let nothing : Finished K start buffer (spelling_start K) = ap (λ p. take p.count buffer) (begins file ok) in
    let done = finished_along file ok (length buffer) cs start (spelling_start K) buffer refl laws.reached_start all nothing in
    let left : finished_buffer file (written cs) buffer ≡ buffer_after file start buffer cs =
    if_pos zero? acc _ buffer ∙ ap (λ ds. buffer_after file start buffer ds) calls in
    record {
      number = if_pos zero? acc _ _ ∙ ap (λ ds. finished_base + (play_after file start ds).count) calls ∙ ap (λ n. finished_base + n) count;
      spells =
          ap (λ b. take (length (K.word (spelled_in file cs).spelling)) b) left ∙
          ap (λ n. take n (buffer_after file start buffer cs)) (sym count) ∙ done;
    }

-- for every file and history exactly one number is the answer of advice
pub advice_after_exactly : (file history : List ℕ) → Exactly (AdviceAfter file history)
advice_after_exactly file history =
    elim (ℕ_discrete (history_refusal file history ample) 0) [
      | no n ↦
          let right : AdviceAfter file history (history_refusal file history ample) =
          record { refused = λ _. refl; given = λ z. absurd (n z) } in
          record { value = history_refusal file history ample; right = right; only = λ a v. v.refused n }
      | yes z ↦
          let parts = none_refused file history ample z in
          let cs = parts.1.0 in
          subst (λ h. Exactly (AdviceAfter file h)) parts.1.1
          (one_advised file parts.0 cs (rw parts.1.1 z))
    ]
