-- The links as the code writes them: an opening rule has one with each closing rule that shares its code and its kept state.
use Rattle.std.specs.Prelude.{Bool, ◌&&◌, List, ℕ, ◌^◌, eqb}
use Rattle.automata.specs.declared.reply.FormRule.{FormRule}
use Rattle.automata.specs.ReplyBody.{closing_count}
use Rattle.automata.specs.Inner.Rules.{opening_rule, closing_rule}
use Rattle.automata.specs.Inner.MaskTable.{Plan, puts}
use Rattle.replies.specs.Inner.Links.{link_index}

-- whether an opening and a closing rule are linked, and where
abbrev pub sharing : FormRule → FormRule → Bool
sharing o d = eqb o.code d.code && eqb o.kept d.kept

abbrev pub shared_index : FormRule → FormRule → ℕ
shared_index o d = link_index o.code o.state o.next d.state

-- opening rule i with every closing rule: turn j
unfoldable pub linking : List ℕ → ℕ → Plan
linking b i =
    record {
      when = λ j. sharing (opening_rule b i) (closing_rule b j);
      at = λ j. shared_index (opening_rule b i) (closing_rule b j);
      mask = λ j. 2 ^ (closing_rule b j).next;
    }

-- every opening rule: turn i
unfoldable pub linkings : List ℕ → ℕ → List ℕ → List ℕ
linkings b i l = puts (linking b i) (closing_count b) l
