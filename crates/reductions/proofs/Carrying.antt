-- A plan of the reduced task, carried back through every step that stands.
use Rattle.std.proofs.Common.{◌≡◌, ℕ, true, List, [], ◌∷◌, length, sym, ap, ◌∙◌, add-zero, arith, length-append}
use Rattle.tasks.specs.Task.{Priced, Lawful}
use Rattle.tasks.specs.Plans.{is_plan}
use Rattle.tasks.specs.Measures.{CostAlgebra, CostLaws}
use Rattle.tasks.specs.Totals.{total}
use Rattle.tasks.proofs.Running.{AllLive, plan_all_live, all_live_append}
use Rattle.tasks.proofs.CostAlgebras.{join_nothing, total_append}
use Rattle.reductions.specs.Steps.{Step}
use Rattle.reductions.specs.Applying.{applied, reduced}
use Rattle.reductions.specs.Undoing.{undone, inserted}
use Rattle.reductions.specs.Extending.{extended, all_inserted}
use Rattle.reductions.specs.Histories.{SoundExtension}
use Rattle.reductions.specs.StepLaws.{StepsKeepLawful, ConnectedDecides, Stands, ExtendingSound}
use Rattle.reductions.proofs.StepUndone.{live_before, live_inserted, total_after, undoing_sound}

all_live_before : (p : Priced) (s : Step) (list : List ℕ) → AllLive (applied p s).task list → AllLive p.task list
all_live_before p s [] h = tt
all_live_before p s (a ∷ rest) h = ((live_before p s a h.0).0, all_live_before p s rest h.1)

module _ {S : Type 0} (m : CostAlgebra S) (keep : StepsKeepLawful) (decides : ConnectedDecides) (laws : CostLaws m) where
  -- and all that was inserted is live at the bottom, where its prices are read
  carried : (ss : List Step) (p : Priced) → Lawful p.task → Stands p ss → (plan : List ℕ) → is_plan (reduced p ss).task plan ≡ true → SoundExtension m p ss plan × AllLive p.task (all_inserted m p ss plan)
  carried [] p law stands plan h = (
    record {
      is_a_plan = h;
      joins = sym (join_nothing m laws (total m p plan));
      counts = sym (add-zero (length plan));
    },
    tt,
  )
  carried (s ∷ ss) p law stands plan h =
      let q = applied p s in
      let above = carried ss q (keep p s law stands.0) stands.1 plan h in
      let list = extended m q ss plan in
      let upper = all_inserted m q ss plan in
      let lower = inserted m p s list in
      let top = total m (reduced q ss) plan in
      let sound = undoing_sound m decides laws p s law stands.0 list above.0.is_a_plan in (
        record {
          is_a_plan = sound.is_a_plan;
          joins =
              sound.joins
              ∙ ap (λ k. m.join k (total m p lower)) above.0.joins
              ∙ laws.assoc top (total m q upper) (total m p lower)
              ∙ ap (λ k. m.join top (m.join k (total m p lower))) (sym (total_after m laws p s upper above.1))
              ∙ ap (m.join top) (sym (total_append m laws p upper lower));
          counts =
              let one = sound.counts in
              let more = above.0.counts in
              let both = length-append upper lower in
              omega arith;
        },
        all_live_append p.task upper lower (all_live_before p s upper above.1) (live_inserted m p.task p s list (plan_all_live p.task law (undone m p s list) sound.is_a_plan)),
      )

pub extending_sound : {S : Type 0} (m : CostAlgebra S) → StepsKeepLawful → ConnectedDecides → ExtendingSound m
extending_sound m keep decides laws p ss law stands plan h = (carried m keep decides laws ss p law stands plan h).0
