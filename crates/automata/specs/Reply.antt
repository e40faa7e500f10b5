-- Reply forms and lawful replies (SPEC 2.5 to 2.10).
use Rattle.std.specs.Prelude.{◌≡◌, Bool, true, ℕ}
use mathlib.Core.List.{List, [], ◌∷◌, Memᴰ}
use Rattle.words.specs.Tag.{opening, closing, Word}
use Rattle.words.specs.Forest.{WellNested}
use Rattle.automata.specs.declared.reply.FormRule.{FormRule}

-- the rule of these parts, opening or closing (SPEC 2.6, 2.7)
abbrev pub rule : (state code next kept : ℕ) → FormRule
rule q c p k = record { state = q; code = c; next = p; kept = k }

-- a "reply form" (SPEC 2.5, 10.19: an NWA)
pub record Form : Type 0 where
  pub states : ℕ
  pub start : ℕ
  pub accepting : ℕ → Bool
  pub openings : List FormRule
  pub closings : List FormRule

-- A run by steps (SPEC 10.19): `Run F q ks w r js` leads from the configuration (q, ks) over w to (r, js). An opening rule
-- puts its kept state on the kept states, and a closing rule takes it off.
pub data Run (F : Form) : ℕ → List ℕ → Word → ℕ → List ℕ → Type 0 where
  done : {q : ℕ} {ks : List ℕ} → Run F q ks [] q ks
  open_step : {x : FormRule} {r : ℕ} {ks js : List ℕ} {w : Word} → Memᴰ x F.openings →
      Run F x.next (x.kept ∷ ks) w r js → Run F x.state ks (opening x.code ∷ w) r js
  close_step : {x : FormRule} {r : ℕ} {ks js : List ℕ} {w : Word} → Memᴰ x F.closings →
      Run F x.next ks w r js → Run F x.state (x.kept ∷ ks) (closing x.code ∷ w) r js

-- a "lawful reply" of a form: some run accepts it (SPEC 2.8)
pub record Lawful (F : Form) (w : Word) : Type 0 where
  pub nested : WellNested w
  pub last : ℕ
  pub ran : Run F F.start [] w last []
  pub accepted : F.accepting last ≡ true
