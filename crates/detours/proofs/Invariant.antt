-- What holds of the labels while values are settled and steps relaxed.
use Rattle.std.proofs.Common.{◌≡◌, ℕ, ◌<◌, true, false, Some, ◌∙◌}
use Rattle.tasks.specs.Task.{Priced}
use Rattle.tasks.specs.Measures.{CostAlgebra}
use Rattle.detours.specs.Detours.{Label}
use Rattle.detours.proofs.FreePaths.{FreeStep}
use Rattle.detours.proofs.Sums.{Within}
use Rattle.detours.proofs.Labels.{Labelling}

-- the total of one action more
abbrev pub further : {S : Type 0} → CostAlgebra S → Priced → S → ℕ → S
further m p x a = m.join x (m.weight (p.price a))

-- of u the actions below a, of other values every one
abbrev pub Tried : ℕ → ℕ → ℕ → ℕ → Type 0
Tried u a i b = i ≡ u → b < a

-- from f to g what is settled stays so, and totals only fall
pub record Onward {S : Type 0} (m : CostAlgebra S) (f g : Labelling S) : Type 0 where
  pub settled : (i : ℕ) → (f i).done ≡ true → ((g i).done ≡ true) × ((g i).sum ≡ (f i).sum)
  pub falls : (i : ℕ) (x : S) → Within m (f i).sum x → Within m (g i).sum x

module _ {S : Type 0} (m : CostAlgebra S) (p : Priced) (v : ℕ) where
  -- the total y of w is that of the settled value u and the action a
  pub record Parent (f : Labelling S) (u a w : ℕ) (y : S) : Type 0 where
    pub settled : (f u).done ≡ true
    pub step : FreeStep p.task v u a w
    pub base : S
    pub sums : (f u).sum ≡ Some base
    pub adds : y ≡ further m p base a

  pub parent_onward : (f g : Labelling S) (u a w : ℕ) (y : S) → Onward m f g → Parent f u a w y → Parent g u a w y
  parent_onward f g u a w y on q = record { settled = (on.settled u q.settled).0; step = q.step; base = q.base; sums = (on.settled u q.settled).1 ∙ q.sums; adds = q.adds }

  -- Of the label e of i: its total has a parent, but at the start c; settled totals are at most bar, others at least.
  pub record Sound (c : ℕ) (f : Labelling S) (bar : S) (i : ℕ) (e : Label S) : Type 0 where
    pub parent : (y : S) → (i ≡ c → ⊥) → e.sum ≡ Some y → Parent f e.from e.via i y
    pub below : e.done ≡ true → Within m e.sum bar
    pub above : (y : S) → e.done ≡ false → e.sum ≡ Some y → m.at_most bar y ≡ true

  -- The steps from settled values are relaxed, where P holds of the value and the action.
  pub record Invariant (c : ℕ) (f : Labelling S) (bar : S) (P : ℕ → ℕ → Type 0) : Type 0 where
    pub start : Within m (f c).sum m.nothing
    pub sound : (i : ℕ) → Sound c f bar i (f i)
    pub relaxed : (u a w : ℕ) (x : S) → (f u).done ≡ true → (f u).sum ≡ Some x → FreeStep p.task v u a w → P u a → Within m (f w).sum (further m p x a)
