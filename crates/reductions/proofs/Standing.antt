-- Steps that stand: each is accepted in the task that those before it leave.
use Rattle.std.proofs.Common.{◌≡◌, ◌≤◌, true, List, [], ◌∷◌, ◌++◌, length, Some, None, Option, refl, inl, arith, length-append}
use Rattle.tasks.specs.declared.refusal.Refusal.{Refusal}
use Rattle.tasks.specs.Task.{Priced, Lawful}
use Rattle.tasks.specs.Plans.{Solvable}
use Rattle.tasks.specs.Measures.{CostAlgebra, CostLaws}
use Rattle.reductions.specs.Steps.{Step}
use Rattle.reductions.specs.Acceptance.{accepted, adding_refusal}
use Rattle.reductions.specs.Applying.{applied, reduced}
use Rattle.reductions.specs.Undoing.{undone}
use Rattle.reductions.specs.Histories.{Mode, History, created, then_add, then_take_back, then_close, then_reopen, then_extend, then_extend_otherwise, all_but_last, pushed, added, steps_after}
use Rattle.reductions.specs.StepLaws.{StepsKeepLawful, StepsKeepSolvable, ConnectedDecides, Stands, StandingKeeps}
use Rattle.reductions.proofs.Accepted.{adding_at}
use Rattle.reductions.proofs.StepUndone.{undoing_sound}

-- an accepted step keeps a plan
abbrev pub PlanKept : Type 0
PlanKept = (p : Priced) (s : Step) → Lawful p.task → accepted p s ≡ true → Solvable p.task → Solvable (applied p s).task

-- the steps stand, and a pile holds so many
abbrev pub Piled : Priced → List Step → Type 0
Piled p ss = Stands p ss × (length ss ≤ 128)

stands_pushed : (ss : List Step) (p : Priced) (s : Step) → Stands p ss → accepted (reduced p ss) s ≡ true → Stands p (ss ++ (s ∷ []))
stands_pushed [] p s h ok = (ok, tt)
stands_pushed (u ∷ ss) p s h ok = (h.0, stands_pushed ss (applied p u) s h.1 ok)

stands_front : (ss : List Step) (p : Priced) → Stands p ss → Stands p (all_but_last ss)
stands_front [] p h = tt
stands_front (s ∷ []) p h = tt
stands_front (s ∷ u ∷ ss) p h = (h.0, stands_front (u ∷ ss) (applied p s) h.1)

length_front : (ss : List Step) → length (all_but_last ss) ≤ length ss
length_front [] = omega arith
length_front (s ∷ []) = omega arith
length_front (s ∷ u ∷ ss) = let h = length_front (u ∷ ss) in omega arith

-- the steps before one of them, and that one
pub stands_split : (before : List Step) (p : Priced) (s : Step) (later : List Step) → Stands p (before ++ (s ∷ later)) → Stands p before × (accepted (reduced p before) s ≡ true)
stands_split [] p s later h = (tt, h.0)
stands_split (u ∷ before) p s later h = let more = stands_split before (applied p u) s later h.1 in ((h.0, more.0), more.1)

piled_added : (p : Priced) (ss : List Step) (s : Step) → Piled p ss → Piled p (added p ss s)
piled_added p ss s h = go (adding_refusal (length ss) (reduced p ss) s) refl
  where
    go : (o : Option Refusal) → adding_refusal (length ss) (reduced p ss) s ≡ o → Piled p (pushed ss s o)
    go None e =
        let ok = adding_at (length ss) (reduced p ss) s e in
        let few = ok.0 in
        let more = length-append ss (s ∷ []) in
        (stands_pushed ss p s h.0 ok.1, omega arith)
    go (Some r) e = h

pub piled_after : {S : Type 0} (b : Priced) {o : Mode} (cs : History S o) → Piled b (steps_after b cs)
piled_after b created = (tt, omega arith)
piled_after b (then_add cs s) = piled_added b (steps_after b cs) s (piled_after b cs)
piled_after b (then_take_back cs) =
    let h = piled_after b cs in
    let few = h.1 in
    let less = length_front (steps_after b cs) in
    (stands_front (steps_after b cs) b h.0, omega arith)
piled_after b (then_close cs) = piled_after b cs
piled_after b (then_reopen cs) = piled_after b cs
piled_after b (then_extend cs plan u) = piled_after b cs
piled_after b (then_extend_otherwise cs) = piled_after b cs

-- what is solvable is so in every measure; this one tells no totals apart
abbrev uncounted : CostAlgebra (Unit {0})
uncounted = record { nothing = tt; weight = λ n. tt; join = λ x y. tt; at_most = λ x y. true }

uncounted_laws : CostLaws uncounted
uncounted_laws = record {
  assoc = λ x y z. refl;
  comm = λ x y. refl;
  neutral = λ x. refl;
  either = λ x y. inl refl;
  trans = λ x y z h k. refl;
  antisym = λ x y h k. refl;
  least = λ x. refl;
  retains = λ x y z h. refl;
}

pub steps_keep_solvable : PlanKept → ConnectedDecides → StepsKeepSolvable
steps_keep_solvable plan_kept decides p s law ok = (
  λ plan. (undone uncounted p s plan.0, (undoing_sound uncounted decides uncounted_laws p s law ok plan.0 plan.1).is_a_plan),
  plan_kept p s law ok,
)

pub standing_keeps : StepsKeepLawful → PlanKept → ConnectedDecides → StandingKeeps
standing_keeps keep plan_kept decides p [] law stands = (law, (λ plan. plan, λ plan. plan))
standing_keeps keep plan_kept decides p (s ∷ ss) law stands =
    let step = steps_keep_solvable plan_kept decides p s law stands.0 in
    let more = standing_keeps keep plan_kept decides (applied p s) ss (keep p s law stands.0) stands.1 in
    (more.0, (λ plan. step.0 (more.1.0 plan), λ plan. more.1.1 (step.1 plan)))
