-- The rules of one number over the codes that have a form, as a loop over all codes asks them.
use mathlib.Core.Path.{◌≡◌, refl, sym, ◌∙◌, ap}
use mathlib.Core.Bool.{true}
use mathlib.Core.List.{List, [], ◌∷◌, map, Memᴰ}
use Prim.Native.Nat.{ℕ, ◌+◌, ◌<◌, ◌≤◌}
use native.Mathlib.Omega.{arith}
use native.Mathlib.Numerals.{add-one}
use lib.ListN.{length, drop, get_or, drop_of_length-le}
use lib.Seq.{drop-cons}
use Rattle.words.specs.Tag.{codes}
use Rattle.words.proofs.ListLaws.{in_picked, picked_passes}
use Rattle.contents.specs.Contents.{has_form, form_codes}
use Rattle.contents.proofs.ContentLaws.{form_code, form_list, form_list_is}
use Rattle.job.specs.Refusal.{RefusalRule, first_of}
use Rattle.job.specs.File.{form_rules}
use Rattle.job.proofs.Refusals.{EachRule, NoneBroken, first_broken, first_kept, passed_first}

module _ (f : ℕ → RefusalRule) where
  -- the rules of the codes from the i-th on
  unfoldable pub rules_from : ℕ → List RefusalRule
  rules_from i = map f (drop i form_list)

  -- the rules of the codes from the i-th on decide alone, since no rule of a code before it is broken
  abbrev pub DecidesForms : ℕ → Type 0
  DecidesForms i = first_of (form_rules f) ≡ first_of (rules_from i)

  pub decides_all : DecidesForms 0
  unfolding rules_from
  decides_all = ap (λ l. first_of (map f l)) (sym form_list_is)

  pub decides_none : {i : ℕ} → DecidesForms i → length form_list ≤ i → first_of (form_rules f) ≡ 0
  unfolding rules_from
  decides_none d h = d ∙ ap (λ l. first_of (map f l)) (drop_of_length-le form_list h) ∙ passed_first [] tt

  module _ {i : ℕ} (d : DecidesForms i) (h : i < length form_list) where
    abbrev code : ℕ
    code = get_or form_list i 0

    at_code : rules_from i ≡ f code ∷ rules_from (i + 1)
    unfolding rules_from
    at_code = ap (map f) (drop-cons form_list i 0 h ∙ ap (λ n. code ∷ drop n form_list) (sym (add-one i)))

    pub decides_more : ¬ (f code).Broken → DecidesForms (i + 1)
    decides_more n = d ∙ ap first_of at_code ∙ first_kept (f code) (rules_from (i + 1)) n

    pub decides_here : (f code).Broken → first_of (form_rules f) ≡ (f code).number
    decides_here b = d ∙ ap first_of at_code ∙ first_broken (f code) (rules_from (i + 1)) b

  -- what holds of the rule of each code that has a form
  module _ (P : RefusalRule → Type 0) where
    each_map : ((c : ℕ) → has_form c ≡ true → P (f c)) → (l : List ℕ) → ((c : ℕ) → Memᴰ c l → has_form c ≡ true) → EachRule P (map f l)
    each_map h [] m = tt
    each_map h (c ∷ l) m = (h c (m c (Memᴰ.head refl)), each_map h l (λ x i. m x (Memᴰ.tail i)))

    pub each_form_rule : ((c : ℕ) → has_form c ≡ true → P (f c)) → EachRule P (form_rules f)
    unfolding form_codes
    each_form_rule h = each_map h form_codes (λ c m. (picked_passes has_form 0 codes m).0)

  passed_at : (l : List ℕ) {c : ℕ} → NoneBroken (map f l) → Memᴰ c l → ¬ (f c).Broken
  passed_at [] p m = elim m [ ]
  passed_at (x ∷ l) {c} p (Memᴰ.head e) = rw e p.0
  passed_at (x ∷ l) p (Memᴰ.tail m) = passed_at l p.1 m

  listed_form : (c : ℕ) → has_form c ≡ true → Memᴰ c form_codes
  unfolding form_codes
  listed_form c t = let h = form_code c t in in_picked has_form 0 codes (omega arith) (omega arith) t

  -- what passes, passes at each code that has a form
  pub forms_passed : NoneBroken (form_rules f) → (c : ℕ) → has_form c ≡ true → ¬ (f c).Broken
  forms_passed p c t = passed_at form_codes p (listed_form c t)
