-- A reply form's run by steps and its run over forests: each gives the other, whatever is kept.
use Rattle.std.specs.Prelude.{◌≡◌, refl, true, ℕ}
use Rattle.std.proofs.Common.{sym, subst, ◌∙◌}
use mathlib.Core.List.{List, [], ◌∷◌, ◌++◌, Memᴰ, append_assoc, append-nil}
use Rattle.words.specs.Tag.{closing, Word}
use Rattle.words.specs.Forest.{Forest, none, elem, tags, Coded}
use Rattle.automata.specs.Reply.{rule, Form, Run, done, open_step, close_step, Lawful}
use Rattle.automata.specs.Inner.ForestRun.{Over, over_none, over_elem, Parts, LawfulForest}

module _ (F : Form) where
  pub stays : {q t : ℕ} → Over F q none t → q ≡ t
  stays over_none = refl

  pub over→run : {q r t : ℕ} {f : Forest} {ks js : List ℕ} {w : Word} → Over F q f r → Run F r ks w t js → Run F q ks (tags f ++ w) t js
  over→run over_none h = h
  over→run {q} {r} {t} {ks = ks} {js = js} {w = w} (over_elem {c = c} {p = p} {k = k} {f = f} {g = g} a o b o') h =
      let inside = over→run o (close_step b (over→run o' h)) in
      open_step a (subst (λ u. Run F p (k ∷ ks) u t js) (sym (append_assoc (tags f) (closing c ∷ tags g) w)) inside)

  closing_rule_lem : {r k c t : ℕ} {ks js : List ℕ} {w : Word} → Run F r (k ∷ ks) (closing c ∷ w) t js →
      (s : ℕ) × Memᴰ (rule r c s k) F.closings × Run F s ks w t js
  closing_rule_lem (close_step {x = x} b h) = (x.next, b, h)

  pub run→over : (f : Forest) {q t : ℕ} {ks js : List ℕ} (w : Word) → Run F q ks (tags f ++ w) t js → Parts F q ks f w t js
  run→over none {q} w h = record { mid = q; first = over_none; rest = h }
  run→over (elem c f g) {q} {t} {ks} {js} w (open_step {x = x} a h) =
      let inside = subst (λ u. Run F x.next (x.kept ∷ ks) u t js) (append_assoc (tags f) (closing c ∷ tags g) w) h in
      let i = run→over f (closing c ∷ (tags g ++ w)) inside in
      let b = closing_rule_lem i.rest in
      let o = run→over g w b.2 in
      record { mid = o.mid; first = over_elem a i.first b.1 o.first; rest = o.rest }

  nothing_left : {q t : ℕ} {js : List ℕ} → Run F q [] [] t js → q ≡ t
  nothing_left done = refl

  -- the runs over a well-nested word with nothing kept, and those over any forest that spells it
  pub run_over : {w : Word} {q t : ℕ} (f : Forest) → tags f ≡ w → Over F q f t → Run F q [] w t []
  run_over {w} {q} {t} f e o = subst (λ u. Run F q [] u t []) (append-nil (tags f) ∙ e) (over→run o done)

  pub over_run : {w : Word} {q t : ℕ} (f : Forest) → tags f ≡ w → Run F q [] w t [] → Over F q f t
  over_run {w} {q} {t} f e h =
      let p = run→over f [] (subst (λ u. Run F q [] u t []) (sym e ∙ sym (append-nil (tags f))) h) in
      subst (λ x. Over F q f x) (nothing_left p.rest) p.first

  pub lawful_forest : {w : Word} → Lawful F w → LawfulForest F w
  lawful_forest l =
      let n = l.nested in
      record { nested = n; last = l.last; ran = over_run n.forest n.spells l.ran; accepted = l.accepted }

  pub forest_lawful : (f : Forest) → Coded f → {t : ℕ} → Over F F.start f t → F.accepting t ≡ true → Lawful F (tags f)
  forest_lawful f cf {t} o a =
      record { nested = record { forest = f; coded = cf; spells = refl }; last = t; ran = run_over f refl o; accepted = a }
