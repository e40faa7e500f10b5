use Rattle.std.proofs.Common.{ℕ, ◌<◌, List, length, ◌∙◌, arith}
use Rattle.std.proofs.lemmas.List.{length-set}
use Rattle.automata.specs.TargetBody.{target_of}
use Rattle.automata.specs.Reply.{Form}
use Rattle.automata.proofs.TargetTables.{target_closed, few_target_states, state_small}
use Rattle.shortest.specs.Inner.Wanted.{FormTables, Sought, Searchable}
use Rattle.shortest.proofs.SpellLaws.{Begun, spell_none, spell_inside, place_within, end_inside, spell_onward, spell_elem}
use Rattle.shortest.proofs.spell.+spell.Goals as goal
use Rattle.shortest.proofs.spell.+spell.Goals.{After-spell-inside}

-- what is wanted is sought
module _ {buffer target links rules lengths goals : List ℕ} {q at : ℕ}
    (p : Searchable target links rules lengths × Sought lengths goals q at (length buffer) × (q < (target_of target).states)) where
  begun : (F : Form) → FormTables (target_of target) F links rules lengths →
      Begun (target_of target) F links rules lengths goals q at buffer
  begun F tables =
      record {
        closed = target_closed target p.0.valid;
        few = few_target_states target p.0.valid;
        tables = tables;
        below = p.2;
        sought = p.1;
      }

  begun_some : Begun (target_of target) p.0.form links rules lengths goals q at buffer
  begun_some = begun p.0.form p.0.tables

-- the inside of the element was written: where it ends
ended : (t : ℕ) (c : After-spell-inside t) →
    (c.args.at < c.spell-inside.result.end) × (c.spell-inside.result.end < length c.args.buffer.now)
ended t c =
    end_inside (begun_some c.requires) c.in-Some.ensures c.open_to.ensures.is
    (c.spell-inside.ensures c.requires.0.form c.requires.0.tables)

pub invariant_of-search : goal.invariant_of-search
invariant_of-search t c = record { state = (c.requires.2, state_small _ c.requires.0.valid _ c.requires.2) }

pub returns-in_default : goal.returns-in_default
returns-in_default t c = λ F tables. spell_none (begun c.requires F tables) c.in_default.ensures

pub spell-inside-requires : goal.spell-inside-requires
spell-inside-requires t c =
    let k = begun_some c.requires in
    let long = length-set c.args.buffer.now c.args.at c.in-Some.c in (
      omega (arith, long, place_within k c.in-Some.ensures),
      (c.requires.0, rw long (spell_inside k c.in-Some.ensures c.open_to.ensures.is), c.open_to.ensures.one_of),
    )

pub bounds-buffer-last : goal.bounds-buffer-last
bounds-buffer-last t c =
    let (_, within) = ended t (goal.at.bounds-buffer-last t c).After-spell-inside in
    rw (c.spell-inside.auto.buffer ∙ length-set c.args.buffer.now c.args.at c.in-Some.c) within

pub spell-after-requires : goal.spell-after-requires
spell-after-requires t c =
    let p = c.requires in
    let r = c.spell-inside in
    let (after, within) = ended t (goal.at.spell-after-requires t c).After-spell-inside in
    let onward =
    spell_onward (begun_some p) c.in-Some.ensures c.open_to.ensures.is (r.ensures p.0.form p.0.tables)
    c.over_element-element.ensures c.close_to-t.ensures.is (rw c.new-next-2.ensures at c.find_onward.ensures) in
    let long =
    length-set r.new.buffer r.result.end c.closing_tag.result ∙ r.auto.buffer ∙ length-set c.args.buffer.now c.args.at c.in-Some.c in
    (omega (arith, long, after, within), (p.0, rw long onward, c.close_to-t.ensures.one_of))

pub returns : goal.returns
returns t c =
    λ F tables.
    spell_elem (begun c.requires F tables) c.in-Some.ensures c.open_to.ensures.is (c.spell-inside.ensures F tables)
    c.over_element-element.ensures c.close_to-t.ensures.is (rw c.new-next-2.ensures at c.find_onward.ensures) c.closing_tag.ensures.0
    (c.spell-after.ensures F tables) c.compose.ensures
