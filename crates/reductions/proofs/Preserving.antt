-- Every list of calls on a pile keeps what is promised of it.
use Rattle.std.proofs.Common.{subst}
use Rattle.std.proofs.lemmas.Bool.{and_parts}
use Rattle.tasks.specs.Task.{Priced, Lawful}
use Rattle.tasks.specs.Measures.{CostAlgebra, CostLaws}
use Rattle.reductions.specs.Reaching.{connected}
use Rattle.reductions.specs.Steps.{abstract}
use Rattle.reductions.specs.Applying.{reduced}
use Rattle.reductions.specs.Histories.{Mode, History, created, then_add, then_take_back, then_close, then_reopen, then_extend, then_extend_otherwise, steps_after, SoundExtendCalls, EveryHistoryPreserves}
use Rattle.reductions.specs.StepLaws.{StepsKeepLawful, ConnectedDecides, Stands}
use Rattle.reductions.proofs.Bringing.{least_detours}
use Rattle.reductions.proofs.Carrying.{extending_sound}
use Rattle.reductions.proofs.Standing.{PlanKept, stands_split, piled_after, standing_keeps}
use Rattle.reductions.proofs.ExtendCalls.{extend_call_sound}

module _ {S : Type 0} (m : CostAlgebra S) (keep : StepsKeepLawful) (decides : ConnectedDecides) (b : Priced) (law : Lawful b.task) (laws : CostLaws m) where
  extend_calls_sound : {o : Mode} (cs : History S o) → SoundExtendCalls m b cs
  extend_calls_sound created = tt
  extend_calls_sound (then_add cs s) = extend_calls_sound cs
  extend_calls_sound (then_take_back cs) = extend_calls_sound cs
  extend_calls_sound (then_close cs) = extend_calls_sound cs
  extend_calls_sound (then_reopen cs) = extend_calls_sound cs
  extend_calls_sound (then_extend cs plan u) = (
    λ h. extend_call_sound m b (steps_after b cs) plan u h (extending_sound m keep decides laws b (steps_after b cs) law (piled_after b cs).0 plan h),
    extend_calls_sound cs,
  )
  extend_calls_sound (then_extend_otherwise cs) = extend_calls_sound cs

pub every_history_preserves : {S : Type 0} (m : CostAlgebra S) → StepsKeepLawful → PlanKept → ConnectedDecides → (b : Priced) → EveryHistoryPreserves m b
every_history_preserves m keep plan_kept decides b law laws o cs =
    let piled = piled_after b cs in
    record {
      few = piled.1;
      solvable = (standing_keeps keep plan_kept decides b (steps_after b cs) law piled.0).1;
      extends = extend_calls_sound m keep decides b law laws cs;
      least = λ before v later e.
          let split = stands_split before b (abstract v) later (subst (Stands b) e piled.0) in
          let p = reduced b before in
          least_detours m decides laws p (standing_keeps keep plan_kept decides b before law split.0).0 v (and_parts (p.task.var_live v) (connected p.task v) split.1).1;
    }
