-- `lengths::search::find_lengths` meets its contract: the tables are begun, and then settled.
use mathlib.Core.Path.{refl, ◌∙◌, ap}
use Prim.Native.Nat.{ℕ}
use lib.ListN.{length, length-replicate}
use Rattle.automata.proofs.TargetTables.{few_target_states}
use Rattle.relaxation.specs.Inner.Lengths.{length_count, no_length}
use Rattle.relaxation.specs.Inner.Pairs.{pair_count}
use Rattle.relaxation.specs.Inner.PairSet.{mask_count}
use Rattle.lengths.proofs.BegunLaws.{no_length_lem, no_least, no_mask, searched_begun}
use Rattle.lengths.proofs.search.find_lengths.Goals as goal

pub settle-requires : goal.settle-requires
settle-requires c =
    let none = c.requires in
    let s = c.stay.ensures in
    let stayed = rw c.states.ensures.0 at s.stayed in
    let zeros = length-replicate {A = ℕ} mask_count 0 in
    searched_begun _ _ (few_target_states _ c.args.elements.target.valid) _ _ _ _ _ _ (no_length_lem _ none)
    (no_least _ s.others.0) (no_mask _ refl) (no_mask _ refl) (no_mask _ refl) (no_mask _ s.others.1) _ _ _ _ stayed
    (record {
      lengths = stayed.long ∙ ap length none ∙ length-replicate {A = ℕ} length_count no_length;
      least = ap length s.others.0 ∙ length-replicate {A = ℕ} pair_count no_length;
      known = stayed.knows.long ∙ zeros;
    })
    (stayed.settles.long ∙ zeros) (stayed.turns.long ∙ zeros) (ap length s.others.1 ∙ zeros) _ c.use_empty.ensures
