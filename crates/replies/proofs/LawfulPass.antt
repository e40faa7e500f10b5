-- The pass that looks for runs over a word: each open element has the relation of the runs over what passed of its inside.
use mathlib.Core.Path.{◌≡◌, refl, sym, ◌∙◌, ap, subst}
use mathlib.Core.List.{List, [], ◌∷◌, ◌++◌, Memᴰ, append-nil}
use Prim.Native.Nat.{ℕ, ◌+◌, ◌-◌, ◌<◌, ◌≤◌}
use native.Mathlib.Omega.{arith}
use lib.ListN.{length, get_or, set, drop, replicate, get_or-replicate}
use lib.Seq.{get_or-set_same, get_or-set_other}
use Rattle.words.specs.Tag.{IsCode, codes, word_of}
use Rattle.words.specs.Inner.TagByte.{CodeIs}
use Rattle.words.specs.Forest.{Forest, none, elem, tags, WellNested}
use Rattle.words.proofs.Bytes.{from_opening, from_closing, word_of_end}
use Rattle.words.proofs.ForestJoined.{joined, joined_none}
use Rattle.words.proofs.ForestLevels.{Level, whole, left_after, closed, opening_next, closing_next, nothing_next}
use Rattle.automata.specs.ReplyBody.{most_reply_states}
use Rattle.automata.specs.Inner.FormState.{IsFormState}
use Rattle.automata.specs.Reply.{Form, rule}
use Rattle.automata.specs.Inner.ForestRun.{Over, over_none, over_elem}
use Rattle.automata.proofs.ForestRun.{stays, run_over, over_run}
use Rattle.replies.specs.Inner.Links.{Linked}
use Rattle.replies.specs.Inner.Relation.{Composed, Relates, FewStates, OverIs}
use Rattle.replies.specs.Inner.Transitions.{TransitionsOf, ElementOf}
use Rattle.replies.proofs.RelationLaws.{identity, related_self}

module _ (F : Form) where
  over_join : {a p b : ℕ} {f g : Forest} → Over F a f p → Over F p g b → Over F a (joined f g) b
  over_join over_none h = h
  over_join (over_elem x o y o') h = over_elem x o y (over_join o' h)

  over_part : (f : Forest) {g : Forest} {a b : ℕ} → Over F a (joined f g) b → (p : ℕ) × Over F a f p × Over F p g b
  over_part none {a = a} h = (a, over_none, h)
  over_part (elem c f k) (over_elem x o y o') = let (p, o₁, o₂) = over_part k o' in (p, over_elem x o y o₁, o₂)

  pub run_below : FewStates F → {a b : ℕ} {f : Forest} → IsFormState a → Over F a f b → IsFormState b
  run_below few h over_none = h
  run_below few h (over_elem x o y o') = run_below few (few.closing_below y) o'

  -- a run over one element, by its links
  over_one : {c p b : ℕ} {g : Forest} → Over F p (elem c g none) b → (q : ℕ) × (r : ℕ) × Linked F c p q r b × Over F q g r
  over_one {c} {p} (over_elem {p = q} {k = k} {r = r} x o y o') =
      (q, r, record { kept = k; opened = x; closed = subst (λ s. Memᴰ (rule r c s k) F.closings) (stays F o') y }, o)

  pub over_identity : OverIs F none identity
  over_identity =
      record {
        exact = λ a b ha hb.
            let e = related_self a b ha hb in
            (λ r. subst (λ x. Over F a none x) (e.0 r) over_none, λ o. e.1 (stays F o));
      }

  -- one element, by what is within it
  pub over_element : FewStates F → {base : ℕ} {table : List ℕ} → TransitionsOf F base table → {c : ℕ} → IsCode c → {g : Forest}
      {y e : ℕ} → OverIs F g y → ElementOf table base c y most_reply_states e → OverIs F (elem c g none) e
  over_element few t {c} hc within element =
      record {
        exact = λ p b hp hb. (
          λ r.
              let (k, hk, x) = (element.exact p b hp hb).0 r in
              let o = (t.opening c k p x.first hc hk hp x.first_small).0 x.opened in
              let d = (t.closing c k x.last b hc hk x.last_small hb).0 x.closed in
              over_elem o ((within.exact x.first x.last x.first_small x.last_small).0 x.within) d over_none,
          λ o.
              let (q, r, l, i) = over_one o in
              let (hq, hk) = few.opening_below l.opened in
              let hr = run_below few hq i in
              (element.exact p b hp hb).1 (
                l.kept,
                hk,
                record {
                  first = q;
                  last = r;
                  first_small = hq;
                  last_small = hr;
                  opened = (t.opening c l.kept p q hc hk hp hq).1 l.opened;
                  within = (within.exact q r hq hr).1 i;
                  closed = (t.closing c l.kept r b hc hk hr hb).1 l.closed;
                },
              ),
        );
      }

  -- one forest and then another
  pub over_joined : FewStates F → {f g : Forest} {x y m : ℕ} → OverIs F f x → OverIs F g y → Composed x y m → OverIs F (joined f g) m
  over_joined few {f} first then composed =
      record {
        exact = λ a b ha hb.
            let e = composed.exact a b ha hb in (
              λ r.
                  let (p, hp, (r₁, r₂)) = e.0 r in
                  over_join ((first.exact a p ha hp).0 r₁) ((then.exact p b hp hb).0 r₂),
              λ o.
                  let (p, o₁, o₂) = over_part f o in
                  let hp = run_below few ha o₁ in
                  e.1 (p, hp, ((first.exact a p ha hp).1 o₁, (then.exact p b hp hb).1 o₂)),
            );
      }

  -- the relations of the open elements: the outermost stands at 0
  abbrev pub Stacked : List ℕ → List Level → Type 0
  Stacked o [] = Unit {0}
  Stacked o (l ∷ ls) = OverIs F l.before (get_or o (length ls) 0) × Stacked o ls

  stacked_set : (o : List ℕ) (j v : ℕ) (ls : List Level) → length ls ≤ j → Stacked o ls → Stacked (set o j v) ls
  stacked_set o j v [] h k = tt
  stacked_set o j v (l ∷ ls) h k =
      (rw (get_or-set_other o j (length ls) v 0 (λ e. omega arith)) k.0, stacked_set o j v ls (omega arith) k.1)

-- What is known before tag i, with `count` open elements. The relations say what they should of every form whose transitions these are.
pub record RunsBefore (base : ℕ) (table s o : List ℕ) (count i : ℕ) : Type 0 where
  pub within : i ≤ length s
  pub levels : List Level
  pub counted : length levels ≡ count
  pub before : Forest
  pub after : Forest
  pub rest : drop i (word_of s) ≡ tags after ++ left_after levels
  pub spells : tags (whole levels (joined before after)) ≡ word_of s
  pub here : (F : Form) → TransitionsOf F base table → FewStates F → OverIs F before (get_or o count 0)
  pub outside : (F : Form) → TransitionsOf F base table → FewStates F → Stacked F o levels

pub runs_none : {base : ℕ} {table s : List ℕ} (n : ℕ) → WellNested (word_of s) → 0 < n →
    RunsBefore base table s (replicate n identity) 0 0
runs_none n w h =
    record {
      within = omega arith;
      levels = [];
      counted = refl;
      before = none;
      after = w.forest;
      rest = sym (append-nil (tags w.forest) ∙ w.spells);
      spells = w.spells;
      here = λ F _ _. rw (get_or-replicate {A = ℕ} n 0 identity 0 h) (over_identity F);
      outside = λ _ _ _. tt;
    }

module _ {base : ℕ} {table s o : List ℕ} {count i : ℕ} (k : RunsBefore base table s o count i) where
  -- a turn at a tag of code c
  module _ (h : i < length s) where
    abbrev b : ℕ
    b = get_or s i 0

    pub runs_opening : b < codes → count + 1 < length o → RunsBefore base table s (set o (count + 1) identity) (count + 1) (i + 1)
    runs_opening hb long =
        let n = opening_next k.after k.levels b (drop (i + 1) (word_of s)) (sym (from_opening s i h hb) ∙ k.rest) in
        let level : Level = record { before = k.before; code = b; after = n.after } in
        record {
          within = omega arith;
          levels = level ∷ k.levels;
          counted = omega (arith, k.counted);
          before = none;
          after = n.inside;
          rest = n.rest;
          spells = rw n.is at k.spells;
          here = λ F _ _. rw (get_or-set_same o (count + 1) identity 0 long) (over_identity F);
          outside = λ F l f. (
            rw (get_or-set_other o (count + 1) (length k.levels) identity 0 (λ e. omega (arith, k.counted)), k.counted) (k.here F l f),
            stacked_set F o (count + 1) identity k.levels (omega (arith, k.counted)) (k.outside F l f),
          );
        }

    pub runs_closing : codes ≤ b → {c : ℕ} → CodeIs b c → count < length o → {e m : ℕ} →
        ElementOf table base c (get_or o count 0) most_reply_states e →
        Composed (get_or o (count - 1) 0) e m → RunsBefore base table s (set o (count - 1) m) (count - 1) (i + 1)
    runs_closing hb {c} code long {e} {m} element composed =
        let n = closing_next k.after k.levels (b - codes) (drop (i + 1) (word_of s)) (sym (from_closing s i h hb) ∙ k.rest) in
        let outer : length n.outer ≡ count - 1 = omega (arith, ap length n.levels, k.counted) in
        let x = n.level in
        let is : x.code ≡ c = n.same ∙ sym (code.closing hb) in
        let same = closed k.levels x n.outer k.before k.after n.levels n.is in
        record {
          within = omega arith;
          levels = n.outer;
          counted = outer;
          before = joined x.before (elem x.code k.before none);
          after = x.after;
          rest = n.rest;
          spells = ap tags (sym same) ∙ k.spells;
          here = λ F l f.
              rw (get_or-set_same o (count - 1) m 0 (omega arith), is)
              (over_joined F f (rw outer at (rw n.levels at (k.outside F l f)).0)
              (over_element F f l code.small (k.here F l f) element) composed);
          outside = λ F l f. stacked_set F o (count - 1) m n.outer (omega arith) (rw n.levels at (k.outside F l f)).1;
        }

  -- at the end nothing is open
  pub runs_end : length s ≤ i → (F : Form) → TransitionsOf F base table → FewStates F → Relates F (word_of s) (get_or o 0 0)
  runs_end h F l f =
      let (is, levels) = nothing_next k.after k.levels (sym (word_of_end s i h) ∙ k.rest) in
      let none_open : count ≡ 0 = sym k.counted ∙ ap length levels in
      let spells : tags k.before ≡ word_of s = ap tags (sym (joined_none k.before)) ∙ rw (levels, is) at k.spells in
      let e = rw none_open at (k.here F l f) in
      record {
        exact = λ a t ha ht.
            let (to, from) = e.exact a t ha ht in
            (λ r. run_over F k.before spells (to r), λ r. from (over_run F k.before spells r));
      }
