use Rattle.std.proofs.Common.{refl, sym, ◌∙◌, arith}
use Rattle.std.proofs.Math.Bool.{false≢true}
use Rattle.shortest.proofs.InsideLaws.{row_more, row_without, row_beyond, row_long}
use Rattle.shortest.proofs.insides.Opening.open_row.Goals as goal
use Rattle.shortest.proofs.insides.Opening.open_row.Goals.{then-k-lt-LENGTH_CAP+then-has+then-some_element}
use Rattle.shortest.proofs.insides.Opening.open_row.Goals.{then-k-lt-LENGTH_CAP+else-has, else-k-lt-LENGTH_CAP}
use Rattle.shortest.proofs.insides.Opening.open_row.Goals.{else-has-via-then-has+else-some_element, else-has-via-else-has}

pub loop-r-preserved : goal.loop-r-preserved
loop-r-preserved c =
    let r = c.loop-r.r in
    let stops = c.args.self.stops.now in
    let o = c.open_to in
    let i = c.loop-r.invariant in
    elim c.if-k-lt-LENGTH_CAP.branch [
      | then-k-lt-LENGTH_CAP+then-has+then-some_element w ↦ rw w.inside-is (
          row_more _ _ _ stops.masks _ _ _ _ r o.result _ w.close_to-t.result
          (omega arith) o.ensures.is (sym c.between-k.ensures) w.close_to-t.ensures.is i (omega arith) w.if-k-lt-LENGTH_CAP.true
          (w.some_element.ensures.0 w.if-some_element.true) w.insert.ensures
          )
      | then-k-lt-LENGTH_CAP+else-has w ↦ rw w.inside-is (
          elim w.else-has.branch [
            | else-has-via-then-has+else-some_element v ↦
                row_without _ _ _ stops.masks _ _ _ _ r o.result _ w.close_to-t.result
                (omega arith) o.ensures.is (sym c.between-k.ensures) w.close_to-t.ensures.is i
                (λ e. false≢true (sym v.if-some_element.false ∙ v.some_element.ensures.1 e))
            | else-has-via-else-has v ↦
                row_beyond _ _ _ stops.masks _ _ _ _ r o.result _ w.close_to-t.result
                (omega arith) o.ensures.is (sym c.between-k.ensures) w.close_to-t.ensures.is i c.args.self.ends c.args.self.ends_of
                w.close_to-t.ensures.small
                (sym w.has.ensures ∙ v.if-has.false)
          ]
          )
      | else-k-lt-LENGTH_CAP w ↦ rw w.inside-is (
          row_long _ _ _ stops.masks _ _ _ _ r o.result _ _
          (omega arith) o.ensures.is (sym c.between-k.ensures) refl i w.if-k-lt-LENGTH_CAP.false
          )
    ]
