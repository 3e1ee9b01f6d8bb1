-- The open value of least total is settled.
use Rattle.std.proofs.Common.{◌≡◌, ℕ, true, ◌⊎◌, sym, refl, ◌∙◌, inl, inr, ⊎_elim, arith}
use Rattle.std.proofs.lemmas.Bool.{true≢false}
use Rattle.tasks.specs.Task.{Priced}
use Rattle.tasks.specs.Measures.{CostAlgebra, CostLaws}
use Rattle.tasks.proofs.CostAlgebras.{at_most_same}
use Rattle.detours.specs.Detours.{closed}
use Rattle.detours.proofs.Sums.{within_more}
use Rattle.detours.proofs.Labels.{Labelling, Relabelled, relabelled_all}
use Rattle.detours.proofs.LeastOpen.{Open}
use Rattle.detours.proofs.Invariant.{further, Tried, Onward, parent_onward, Sound, Invariant}

module _ {S : Type 0} (m : CostAlgebra S) (f g : Labelling S) (u : ℕ) (put : Relabelled f g u (closed m (f u))) where
  sums_same : (i : ℕ) → (g i).sum ≡ (f i).sum
  sums_same = relabelled_all f g u (closed m (f u)) put (λ i e. e.sum ≡ (f i).sum) refl (λ i apart. refl)

  still_done : (i : ℕ) → (f i).done ≡ true → (g i).done ≡ true
  still_done = relabelled_all f g u (closed m (f u)) put (λ i e. (f i).done ≡ true → e.done ≡ true) (λ d. refl) (λ i apart d. d)

  now_done : (i : ℕ) → (g i).done ≡ true → (i ≡ u) ⊎ ((f i).done ≡ true)
  now_done = relabelled_all f g u (closed m (f u)) put (λ i e. e.done ≡ true → (i ≡ u) ⊎ ((f i).done ≡ true)) (λ d. inl refl) (λ i apart d. inr d)

  onward : Onward m f g
  onward = record { settled = λ i d. (still_done i d, sums_same i); falls = λ i y w. (w.0, sums_same i ∙ w.1, w.2) }

  module _ (laws : CostLaws m) (p : Priced) (v c : ℕ) (bar : S) (h : Invariant m p v c f bar (λ i b. Unit {0})) (x : S) (open-u : Open f u x) where
    -- no action from u is tried yet
    pub settling : ((j : ℕ) (y : S) → Open f j y → m.at_most x y ≡ true) → Invariant m p v c g x (Tried u 0)
    settling least = record {
      start = onward.falls c m.nothing h.start;
      sound = relabelled_all f g u (closed m (f u)) put (Sound m p v c g x)
          (record {
            parent = λ y apart e. parent_onward m p v f g (f u).from (f u).via u y onward ((h.sound u).parent y apart e);
            below = λ d. (x, open-u.sums, at_most_same m laws x);
            above = λ y d e. absurd (true≢false d);
          })
          (λ i other. record {
            parent = λ y apart e. parent_onward m p v f g (f i).from (f i).via i y onward ((h.sound i).parent y apart e);
            below = λ d. within_more m laws (f i).sum bar x ((h.sound i).below d) ((h.sound u).above x open-u.unsettled open-u.sums);
            above = λ y d e. least i y (record { unsettled = d; sums = e });
          });
      relaxed = λ i a w y d e step tried. ⊎_elim
          (λ same. let l = tried same in absurd (omega arith))
          (λ was. onward.falls w (further m p y a) (h.relaxed i a w y was (sym (sums_same i) ∙ e) step tt))
          (now_done i d);
    }
