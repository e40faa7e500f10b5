-- A reply form's run over forests, beside its run by steps. That each gives the other is proved in proofs/ForestRun.antt. It is how
-- lawfulness is decided, and what is proved of words with a run.
use Rattle.std.specs.Prelude.{◌≡◌, true, ℕ}
use mathlib.Core.List.{List, Memᴰ}
use Rattle.words.specs.Tag.{Word}
use Rattle.words.specs.Forest.{Forest, none, elem, WellNested}
use Rattle.automata.specs.declared.reply.FormRule.{FormRule}
use Rattle.automata.specs.Reply.{rule, Form, Run}

-- rules with the same parts are the same
pub same_rule : {x y : FormRule} → x.state ≡ y.state → x.code ≡ y.code → x.next ≡ y.next → x.kept ≡ y.kept → x ≡ y
same_rule a b c d i = record { state = a i; code = b i; next = c i; kept = d i }

-- a run over a forest leads from a state to a state: an element's rules share the kept state
pub data Over (F : Form) : ℕ → Forest → ℕ → Type 0 where
  over_none : {q : ℕ} → Over F q none q
  over_elem : {q c p k r s t : ℕ} {f g : Forest} → Memᴰ (rule q c p k) F.openings → Over F p f r →
      Memᴰ (rule r c s k) F.closings → Over F s g t → Over F q (elem c f g) t

module _ (F : Form) where
  -- the last part of a run over a forest followed by anything
  pub record Parts (q : ℕ) (ks : List ℕ) (f : Forest) (w : Word) (t : ℕ) (js : List ℕ) : Type 0 where
    pub mid : ℕ
    pub first : Over F q f mid
    pub rest : Run F mid ks w t js

  -- a lawful reply is the word of a forest with a run from the start to an accepting state
  pub record LawfulForest (w : Word) : Type 0 where
    pub nested : WellNested w
    pub last : ℕ
    pub ran : Over F F.start nested.forest last
    pub accepted : F.accepting last ≡ true
