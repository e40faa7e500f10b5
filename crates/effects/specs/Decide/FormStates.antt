-- The states of a form in which a forest may begin or end, as a list. No promise to an outsider cites this file.
use Rattle.std.proofs.Math.Path.{refl}
use mathlib.Core.List.Memᴰ
use mathlib.Core.List.{List, ◌∷◌, ◌++◌, map, Memᴰ}
use Rattle.std.specs.Prelude.{ℕ}
use Rattle.words.specs.Forest.{Forest}
use Rattle.automata.specs.declared.reply.FormRule.{FormRule}
use Rattle.automata.specs.Reply.{Form}
use Rattle.automata.specs.Inner.ForestRun.{Over, over_none, over_elem}

abbrev leads_to : FormRule → ℕ
leads_to x = x.next

module _ (F : Form) where
  pub form_states : List ℕ
  form_states = F.start ∷ (map leads_to F.openings ++ map leads_to F.closings)

  pub start_state : Memᴰ F.start form_states
  unfolding form_states
  start_state = Memᴰ.head refl

  pub opened_state : {x : FormRule} → Memᴰ x F.openings → Memᴰ x.next form_states
  unfolding form_states
  opened_state m = Memᴰ.tail (Memᴰ.append_left (map leads_to F.closings) (Memᴰ.map leads_to m))

  pub closed_state : {x : FormRule} → Memᴰ x F.closings → Memᴰ x.next form_states
  unfolding form_states
  closed_state m = Memᴰ.tail (Memᴰ.append_right (map leads_to F.openings) (Memᴰ.map leads_to m))

  pub last_state : {p q : ℕ} {f : Forest} → Over F p f q → Memᴰ p form_states → Memᴰ q form_states
  last_state over_none m = m
  last_state (over_elem o u r v) m = last_state v (closed_state r)
