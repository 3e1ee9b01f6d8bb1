-- A detour is a path of least total, and there is one where there is a path.
use Rattle.std.proofs.Common.{◌≡◌, ℕ, Bool, true, false, ◌&&◌, List, [], Some, None, Option, refl}
use Rattle.std.proofs.lemmas.Bool.{both_ways, and_parts, and_from}
use Rattle.tasks.specs.Task.{Priced, Lawful}
use Rattle.tasks.specs.Measures.{CostAlgebra, CostLaws}
use Rattle.tasks.specs.Totals.{total}
use Rattle.detours.specs.Detours.{most_values, Label, Found, settled, led_to, trace_back, read_off, detour}
use Rattle.detours.specs.DetourLaw.{LeastDetour, DetourDecides}
use Rattle.detours.proofs.FreePaths.{FreePath, value_few, path_leads, leads_path, path_live}
use Rattle.detours.proofs.Sums.{no_sum, within_at}
use Rattle.detours.proofs.Labels.{labels}
use Rattle.detours.proofs.Turns.{Finished, settled_finished}
use Rattle.detours.proofs.Tracing.{path_within, traced}

module _ {S : Type 0} (m : CostAlgebra S) (laws : CostLaws m) (p : Priced) (lawful : Lawful p.task) (v c r : ℕ) where
  -- what the labels at the end say of r
  reading : (es : List (Label S)) → Finished m p v c es → p.task.val_live v c ≡ true → (o : Option S) → (labels m es r).sum ≡ o → DetourDecides m p v c r (led_to m es c r o)
  unfolding most_values
  reading es h live None e = λ starts s at list leads.
      let w = path_within m laws p v c es h list r (leads_path p.task lawful v list s c r leads at) in
      no_sum (labels m es r).sum w.0 e w.1
  reading es h live (Some x) e =
      let back = traced m laws p v c es h r x e in
      record {
        starts = live;
        leads = λ s at. path_leads p.task lawful v (trace_back m es c 64 r []) s c r back.0 at;
        short = back.2;
        totals = back.1;
        least = λ s at list leads. within_at m laws (labels m es r).sum (total m p list) x (path_within m laws p v c es h list r (leads_path p.task lawful v list s c r leads at)) e;
      }

  pub detour_decides : DetourDecides m p v c r (detour m p v c r)
  detour_decides = go (p.task.val_live v c && p.task.val_live v r) refl
    where
      go : (b : Bool) → (p.task.val_live v c && p.task.val_live v r) ≡ b → DetourDecides m p v c r (elim b [ true ↦ read_off m (settled m p v c) c r | false ↦ None ])
      go true t =
          let live = (and_parts (p.task.val_live v c) (p.task.val_live v r) t).0 in
          reading (settled m p v c) (settled_finished m laws p lawful v c (value_few p.task lawful v c live)) live (labels m (settled m p v c) r).sum refl
      go false t = λ live s at list leads.
          let live-r = path_live p.task lawful v list c r (leads_path p.task lawful v list s c r leads at) live in
          both_ways (p.task.val_live v c && p.task.val_live v r) t (and_from (p.task.val_live v c) (p.task.val_live v r) live live-r)

  -- where a path leads from a live value there is a detour, and a least one
  pub reached : p.task.val_live v c ≡ true → (list : List ℕ) → FreePath p.task v c list r → (d : Found S) × (detour m p v c r ≡ Some d) × LeastDetour m p v c r d
  reached live list path = go (detour m p v c r) refl detour_decides
    where
      go : (o : Option (Found S)) → detour m p v c r ≡ o → DetourDecides m p v c r o → (d : Found S) × (detour m p v c r ≡ Some d) × LeastDetour m p v c r d
      go None e none = absurd (none live (λ k. c) refl list (path_leads p.task lawful v list (λ k. c) c r path refl))
      go (Some d) e least = (d, e, least)
