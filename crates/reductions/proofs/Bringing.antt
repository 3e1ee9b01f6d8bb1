-- The free actions of a connected variable bring it from each live value to every other, and a detour is a least way.
use Rattle.std.proofs.Common.{◌≡◌, ℕ, true, List, Option, sym, refl, ap, subst}
use Rattle.tasks.specs.Task.{Priced, Lawful}
use Rattle.tasks.specs.Measures.{CostAlgebra, CostLaws}
use Rattle.detours.specs.Detours.{Found}
use Rattle.detours.proofs.FreePaths.{FreePath, leads_path}
use Rattle.detours.proofs.Deciding.{reached}
use Rattle.reductions.specs.Reaching.{connected}
use Rattle.reductions.specs.Undoing.{actions_of, detour_connector}
use Rattle.reductions.specs.Histories.{LeastDetours}
use Rattle.reductions.specs.StepLaws.{ConnectedDecides}
use Rattle.reductions.proofs.Weaving.{Brings}

module _ {S : Type 0} (m : CostAlgebra S) (decides : ConnectedDecides) (laws : CostLaws m) (p : Priced) (law : Lawful p.task) (v : ℕ) (all : connected p.task v ≡ true) where
  pub least_detours : LeastDetours m p v
  least_detours c r live-c live-r =
      let way = (decides p v law).leads all c r live-c live-r in
      reached m laws p law v c r live-c way.0 (leads_path p.task law v way.0 (λ w. c) c r (way.1 (λ w. c) refl) refl)

  pub detours_bring : Brings p.task v (detour_connector m p v)
  detours_bring c r live-c live-r =
      let least = least_detours c r live-c live-r in
      let path = leads_path p.task law v least.0.actions (λ w. c) c r (least.2.leads (λ w. c) refl) refl in
      subst (λ (list : List ℕ). FreePath p.task v c list r) (sym (ap (λ (o : Option (Found S)). actions_of m o) least.1)) path
