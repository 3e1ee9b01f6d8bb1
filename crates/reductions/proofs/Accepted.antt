-- A step is not refused exactly when it is accepted.
use Rattle.std.proofs.Common.{◌≡◌, ℕ, suc, ◌<◌, Bool, true, false, cond, not, ◌&&◌, ltb, leb, List, [], ◌∷◌, length, is_some, Some, None, Option, Ok, Err, Result, sym, refl, ap, ◌∙◌, ⊎_elim}
use Rattle.std.proofs.lemmas.Bool.{true≢false, not-false, not_from_true, leb-false, lt-leb, le-leb, le-ltb, lt-ltb, cases_lt}
use Rattle.tasks.specs.declared.refusal.Cause.{Cause}
use Rattle.tasks.specs.declared.refusal.Cause.TheVariants.{PileFull, NotLive, MergeUnfit, GeneraliseUnfit, VariableUnfit, ListUnfit, ActionUnfit, AbstractUnfit}
use Rattle.tasks.specs.declared.refusal.Refusal.{Refusal}
use Rattle.tasks.specs.Refusals.{refuse}
use Rattle.tasks.specs.Task.{Priced}
use Rattle.tasks.proofs.Refusing.{pass, pass_from}
use Rattle.reductions.specs.Steps.{Step, merge, generalise, variable, action, abstract, fits}
use Rattle.reductions.specs.Acceptance.{answer_of, listable, all_in, accepted, unless_fits, first_unlisted, list_refusal, refusal_of, adding_refusal}

-- each kind of step, by its tests
unfit_refused : (f : Bool) (cause : Cause) → is_some (unless_fits f cause) ≡ not f
unfit_refused true cause = refl
unfit_refused false cause = refl

merge_refused : (v x y a b f : Bool) → is_some (cond (not v) (refuse NotLive 0) (cond (not x) (refuse NotLive 1) (cond (not y) (refuse NotLive 2) (cond (not a) (refuse NotLive 3) (cond (not b) (refuse NotLive 4) (unless_fits f MergeUnfit)))))) ≡ not (v && x && y && a && b && f)
merge_refused true true true true true f = unfit_refused f MergeUnfit
merge_refused true true true true false f = refl
merge_refused true true true false b f = refl
merge_refused true true false a b f = refl
merge_refused true false y a b f = refl
merge_refused false x y a b f = refl

generalise_refused : (v a b f : Bool) → is_some (cond (not v) (refuse NotLive 0) (cond (not a) (refuse NotLive 1) (cond (not b) (refuse NotLive 2) (unless_fits f GeneraliseUnfit)))) ≡ not (v && a && b && f)
generalise_refused true true true f = unfit_refused f GeneraliseUnfit
generalise_refused true true false f = refl
generalise_refused true false b f = refl
generalise_refused false a b f = refl

variable_refused : (v f : Bool) (cause : Cause) → is_some (cond (not v) (refuse NotLive 0) (unless_fits f cause)) ≡ not (v && f)
variable_refused true f cause = unfit_refused f cause
variable_refused false f cause = refl

action_refused : (a few listed f : Bool) (rest : Option Refusal) → is_some rest ≡ not (listed && f) → is_some (cond (not a) (refuse NotLive 0) (cond (not few) (refuse ListUnfit 8) rest)) ≡ not (a && few && listed && f)
action_refused true true listed f rest h = h
action_refused true false listed f rest h = refl
action_refused false few listed f rest h = refl

-- the list of an action step
list_refused : (p : Priced) (a : ℕ) (by list : List ℕ) (i : ℕ) → is_some (list_refusal p a by (first_unlisted p.task a i list)) ≡ not (all_in (listable p.task a) list && fits p (action a by))
list_refused p a by [] i = unfit_refused (fits p (action a by)) ActionUnfit
list_refused p a by (c ∷ cs) i = go (listable p.task a c) (list_refused p a by cs (suc i))
  where
    go : (b : Bool) → is_some (list_refusal p a by (first_unlisted p.task a (suc i) cs)) ≡ not (all_in (listable p.task a) cs && fits p (action a by)) → is_some (list_refusal p a by (elim b [ true ↦ first_unlisted p.task a (suc i) cs | false ↦ Some i ])) ≡ not (b && all_in (listable p.task a) cs && fits p (action a by))
    go true more = more
    go false more = refl

over_limit : (m n : ℕ) → ltb m n ≡ not (leb n m)
over_limit m n = ⊎_elim (λ l. lt-ltb m n l ∙ sym (ap not (lt-leb n m l))) (λ l. le-ltb m n l ∙ sym (ap not (le-leb n m l))) (cases_lt m n)

-- there is a refusal exactly where the step is not accepted
refused_unless : (p : Priced) (s : Step) → is_some (refusal_of p s) ≡ not (accepted p s)
refused_unless p (merge v x y a b) = merge_refused (p.task.var_live v) (p.task.val_live v x) (p.task.val_live v y) (p.task.act_live a) (p.task.act_live b) (fits p (merge v x y a b))
refused_unless p (generalise v a b) = generalise_refused (p.task.var_live v) (p.task.act_live a) (p.task.act_live b) (fits p (generalise v a b))
refused_unless p (variable v) = variable_refused (p.task.var_live v) (fits p (variable v)) VariableUnfit
refused_unless p (action a list) = rw (over_limit 8 (length list)) (action_refused (p.task.act_live a) (leb (length list) 8) (all_in (listable p.task a) list) (fits p (action a list)) (list_refusal p a list (first_unlisted p.task a 0 list)) (list_refused p a list list 0))
refused_unless p (abstract v) = variable_refused (p.task.var_live v) (fits p (abstract v)) AbstractUnfit

pub accepted_at : (p : Priced) (s : Step) → refusal_of p s ≡ None → accepted p s ≡ true
accepted_at p s h = not-false (accepted p s) (sym (refused_unless p s) ∙ ap (λ (o : Option Refusal). is_some o) h)

pub accepted_from : (p : Priced) (s : Step) → accepted p s ≡ true → refusal_of p s ≡ None
accepted_from p s h = none (refusal_of p s) (refused_unless p s ∙ not_from_true (accepted p s) h)
  where
    none : (o : Option Refusal) → is_some o ≡ false → o ≡ None
    none None e = refl
    none (Some r) e = absurd (true≢false e)

-- the same on a pile on which so many steps stand
pub adding_at : (standing : ℕ) (p : Priced) (s : Step) → adding_refusal standing p s ≡ None → (standing < 128) × (accepted p s ≡ true)
adding_at standing p s h =
    let both = pass (leb 128 standing) (record { cause = PileFull; place = 0 }) (refusal_of p s) h in
    (leb-false 128 standing both.0, accepted_at p s both.1)

pub adding_from : (standing : ℕ) (p : Priced) (s : Step) → standing < 128 → accepted p s ≡ true → adding_refusal standing p s ≡ None
adding_from standing p s few h = pass_from (leb 128 standing) (record { cause = PileFull; place = 0 }) (refusal_of p s) (lt-leb 128 standing few) (accepted_from p s h)

-- what is answered well is not refused
pub answered_ok : (r : Result (Unit {0}) Refusal) (o : Option Refusal) (u : Unit {0}) → r ≡ Ok u → r ≡ answer_of o → o ≡ None
answered_ok r None u e is = refl
answered_ok r (Some x) u e is = let no : ◌≡◌ {A = Result (Unit {0}) Refusal} (Ok u) (Err x) = sym e ∙ is in cc
