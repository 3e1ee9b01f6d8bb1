-- When a step is accepted, and how it is refused.
use Rattle.std.specs.Prelude.{ℕ, suc, Bool, true, false, cond, not, ◌&&◌, List, [], ◌∷◌, length, Some, None, Option, Ok, Err, Result, ◌==◌, nat_le, nat_lt}
use Rattle.tasks.specs.declared.refusal.Cause.{Cause}
use Rattle.tasks.specs.declared.refusal.Cause.TheVariants.{PileFull, NotLive, MergeUnfit, GeneraliseUnfit, VariableUnfit, ListUnfit, ActionUnfit, AbstractUnfit}
use Rattle.tasks.specs.declared.refusal.Refusal.{Refusal}
use Rattle.tasks.specs.Refusals.{refuse}
use Rattle.tasks.specs.Task.{Task, Priced}
use Rattle.reductions.specs.Steps.{Step, merge, generalise, variable, action, abstract, fits}

-- an action that may stand in the list of an action step of a
abbrev pub listable : Task → ℕ → ℕ → Bool
listable t a c = t.act_live c && not (c == a)

abbrev pub all_in : (ℕ → Bool) → List ℕ → Bool
all_in p [] = true
all_in p (c ∷ cs) = p c && all_in p cs

-- the numbers that a step names are live; the list of an action step holds at most 8 live actions, and not the action
abbrev pub names_live : Task → Step → Bool
names_live t (merge v x y a b) = t.var_live v && t.val_live v x && t.val_live v y && t.act_live a && t.act_live b
names_live t (generalise v a b) = t.var_live v && t.act_live a && t.act_live b
names_live t (variable v) = t.var_live v
names_live t (action a list) = t.act_live a && nat_le (length list) 8 && all_in (listable t a) list
names_live t (abstract v) = t.var_live v

abbrev pub accepted : Priced → Step → Bool
accepted p s = names_live p.task s && fits p s

-- refused for a cause at place 0 unless the test passes
abbrev pub unless_fits : Bool → Cause → Option Refusal
unless_fits b cause = cond b None (refuse cause 0)

-- the first action of a list, numbered from i, that may not stand in it
abbrev pub first_unlisted : Task → ℕ → ℕ → List ℕ → Option ℕ
first_unlisted t a i [] = None
first_unlisted t a i (c ∷ cs) = elim (listable t a c) [ true ↦ first_unlisted t a (suc i) cs | false ↦ Some i ]

abbrev pub list_refusal : Priced → ℕ → List ℕ → Option ℕ → Option Refusal
list_refusal p a list (Some i) = refuse ListUnfit i
list_refusal p a list None = unless_fits (fits p (action a list)) ActionUnfit

-- The refusal of a step: a number that is not live, at its position; then what is wrong with a list; then the other conditions.
abbrev pub refusal_of : Priced → Step → Option Refusal
refusal_of p (merge v x y a b) =
    cond (not (p.task.var_live v)) (refuse NotLive 0)
    (cond (not (p.task.val_live v x)) (refuse NotLive 1)
    (cond (not (p.task.val_live v y)) (refuse NotLive 2)
    (cond (not (p.task.act_live a)) (refuse NotLive 3)
    (cond (not (p.task.act_live b)) (refuse NotLive 4)
    (unless_fits (fits p (merge v x y a b)) MergeUnfit)))))
refusal_of p (generalise v a b) =
    cond (not (p.task.var_live v)) (refuse NotLive 0)
    (cond (not (p.task.act_live a)) (refuse NotLive 1)
    (cond (not (p.task.act_live b)) (refuse NotLive 2)
    (unless_fits (fits p (generalise v a b)) GeneraliseUnfit)))
refusal_of p (variable v) = cond (not (p.task.var_live v)) (refuse NotLive 0) (unless_fits (fits p (variable v)) VariableUnfit)
refusal_of p (action a list) =
    cond (not (p.task.act_live a)) (refuse NotLive 0)
    (cond (nat_lt 8 (length list)) (refuse ListUnfit 8)
    (list_refusal p a list (first_unlisted p.task a 0 list)))
refusal_of p (abstract v) = cond (not (p.task.var_live v)) (refuse NotLive 0) (unless_fits (fits p (abstract v)) AbstractUnfit)

-- the same on a pile on which so many steps stand, 128 at most
abbrev pub adding_refusal : ℕ → Priced → Step → Option Refusal
adding_refusal standing p s = cond (nat_le 128 standing) (refuse PileFull 0) (refusal_of p s)

-- what is answered: nothing, or the refusal as an error
abbrev pub answer_of : Option Refusal → Result (Unit {0}) Refusal
answer_of None = Ok tt
answer_of (Some e) = Err e
