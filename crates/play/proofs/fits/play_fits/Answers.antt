-- `play::fits::play_fits` meets its contract: the first test that fails is of a part of the definition.
use mathlib.Core.Path.{◌≡◌, sym, ◌∙◌}
use mathlib.Core.Bool.{false, decide, false≢true}
use native.Mathlib.Omega.{arith}
use lib.ListN.{length-map}
use Rattle.words.specs.Tag.{Word, word_of, tag_of}
use Rattle.words.proofs.Decided.{decided_no}
use Rattle.automata.specs.Target.{Target}
use Rattle.automata.specs.TargetBody.{target_of}
use Rattle.play.specs.Play.{PlayFits}
use Rattle.play.specs.Decide.Play.{play_fits?}
use Rattle.play.specs.declared.Play.{Play}
use Rattle.words.proofs.OpenLaws.{open_few}
use Rattle.play.proofs.FitLaws.{last_test}
use Rattle.play.proofs.fits.play_fits.Goals as goal
use Rattle.play.proofs.fits.play_fits.Goals.{then-slots_ok, else-slots_ok}

refused : (A : Target) (w : Word) (p : Play) → ¬ PlayFits A w p → false ≡ decide (play_fits? A w p)
refused A w p n = sym (decided_no (play_fits? A w p) n)

pub returns-then-record-position : goal.returns-then-record-position
returns-then-record-position c =
    refused _ _ _ (λ f. let l = f.within in omega (arith, length-map c.args.«record».now tag_of))

pub returns-then-n-p : goal.returns-then-n-p
returns-then-n-p c = refused _ _ _ (λ f. let l = f.own_state in omega (arith, c.states-n.ensures.0))

pub returns-then-depth-open_at : goal.returns-then-depth-open_at
returns-then-depth-open_at c = refused _ _ _ (λ f. c.if-depth-open_at.true (f.as_many ∙ sym c.open_at.ensures))

pub rising-requires : goal.rising-requires
rising-requires c =
    omega (arith, c.if-depth-open_at.false ∙ c.open_at.ensures, open_few c.requires c.args.p.position)

pub returns-then-slots_ok-2 : goal.returns-then-slots_ok-2
returns-then-slots_ok-2 c =
    elim c.if-slots_ok.branch [
      | then-slots_ok w ↦
          last_test (target_of c.args.target.bytes.now) (word_of c.args.«record».now) _ _ c.states-n.ensures.0 (omega arith)
          (omega (arith, length-map c.args.«record».now tag_of))
          (omega arith)
          (c.if-depth-open_at.false ∙ c.open_at.ensures)
          (c.slots_ok.ensures.0 w.if-slots_ok.true)
          (w.slots_ok-then-slots_ok.ensures.0 (sym w.value-is ∙ c.if-slots_ok-2.true))
          _
          c.rising.ensures
      | else-slots_ok w ↦ absurd (false≢true (sym w.if-slots_ok.false ∙ sym w.value-is ∙ c.if-slots_ok-2.true))
    ]

pub returns-else-slots_ok-2 : goal.returns-else-slots_ok-2
returns-else-slots_ok-2 c =
    let states = c.states-n.ensures.0 in
    elim c.if-slots_ok.branch [
      | then-slots_ok w ↦
          c.if-slots_ok-2.false ∙
          refused _ _ _ (λ f.
          false≢true (sym (sym w.value-is ∙ c.if-slots_ok-2.false) ∙
          w.slots_ok-then-slots_ok.ensures.1 (λ i. (f.begins_below i, f.begins_unused i))))
      | else-slots_ok w ↦
          c.if-slots_ok-2.false ∙
          refused _ _ _ (λ f.
          false≢true (sym w.if-slots_ok.false ∙
          c.slots_ok.ensures.1 (λ i. (λ h. omega (arith, f.kept_states i h), f.kept_unused i))))
    ]
