-- The free actions from a settled value are tried, one after the other.
use Rattle.std.proofs.Common.{◌≡◌, ℕ, zero, suc, ◌+◌, Bool, true, false, not, ◌&&◌, List, length, set, Some, None, Option, sym, refl, ap, ◌∙◌, subst, ⊎_elim, arith}
use Rattle.std.proofs.lemmas.Bool.{false≢true, both_ways, cases_eq, and_parts, and_cases, and_from, not-true, not-false}
use Rattle.std.proofs.lemmas.List.{length-set}
use Rattle.tasks.specs.Task.{Priced, Lawful}
use Rattle.tasks.specs.Plans.{agrees}
use Rattle.tasks.specs.Measures.{CostAlgebra, CostLaws}
use Rattle.tasks.specs.Optional.{none_some, some_inj}
use Rattle.tasks.proofs.CostAlgebras.{at_most_same, join_grows}
use Rattle.detours.specs.Free.{is_free}
use Rattle.detours.specs.Detours.{Label, improves, relax, relax_all}
use Rattle.detours.proofs.FreePaths.{FreeStep, value_few}
use Rattle.detours.proofs.Sums.{same_sum, Within, within_more, improves_within, not_improves_within}
use Rattle.detours.proofs.Labels.{Labelling, labels, Relabelled, relabelled_set, relabelled_all, relabelled_open, SameSettled, same_settled_then}
use Rattle.detours.proofs.Invariant.{further, Tried, Onward, parent_onward, Sound, Invariant}

-- the label of a value to which the action a leads from u, whose total is x
abbrev led_from : {S : Type 0} → CostAlgebra S → Priced → ℕ → S → ℕ → Label S
led_from m p u x a = record { sum = Some (further m p x a); via = a; from = u; done = false }

module _ {S : Type 0} (m : CostAlgebra S) (laws : CostLaws m) (p : Priced) (v c u : ℕ) (x : S) where
  -- one action more is tried, where its step is relaxed
  tried_more : (f : Labelling S) (a : ℕ) → Invariant m p v c f x (Tried u a) → (f u).sum ≡ Some x → ((w : ℕ) → FreeStep p.task v u a w → Within m (f w).sum (further m p x a)) → Invariant m p v c f x (Tried u (suc a))
  tried_more f a h sum-u new = record {
    start = h.start;
    sound = h.sound;
    relaxed = λ i b w y d e step tried. ⊎_elim
        (λ same-i. ⊎_elim
        (λ same-b. here i b w y same-i same-b e step)
        (λ apart. h.relaxed i b w y d e step (λ same. let l = tried same in omega arith))
        (cases_eq b a))
        (λ apart. h.relaxed i b w y d e step (λ same. absurd (apart same)))
        (cases_eq i u);
  }
    where
      here : (i b w : ℕ) (y : S) → i ≡ u → b ≡ a → (f i).sum ≡ Some y → FreeStep p.task v i b w → Within m (f w).sum (further m p y b)
      here i b w y same-i same-b e step =
          let step-u = subst (λ k. FreeStep p.task v u k w) same-b (subst (λ k. FreeStep p.task v k b w) same-i step) in
          let same-y = same_sum (f u).sum x y sum-u (ap (λ k. (f k).sum) (sym same-i) ∙ e) in
          subst (λ k. Within m (f w).sum (further m p y k)) (sym same-b) (subst (λ k. Within m (f w).sum (further m p k a)) same-y (new w step-u))

  -- an action leads to one value only
  only_target : (f : Labelling S) (a w : ℕ) → FreeStep p.task v u a w → Within m (f w).sum (further m p x a) → (k : ℕ) → FreeStep p.task v u a k → Within m (f k).sum (further m p x a)
  only_target f a w step low k other = subst (λ i. Within m (f i).sum (further m p x a)) (some_inj w k (sym step.sets ∙ other.sets)) low

  -- a better total of w is taken
  improved : (f g : Labelling S) (a : ℕ) → Invariant m p v c f x (Tried u a) → (f u).done ≡ true → (f u).sum ≡ Some x → (w : ℕ) → FreeStep p.task v u a w → improves m (further m p x a) (f w).sum ≡ true → Relabelled f g w (led_from m p u x a) → SameSettled f g → Invariant m p v c g x (Tried u a)
  improved f g a h done-u sum-u w step better put same = record {
    start = onward.falls c m.nothing h.start;
    sound = relabelled_all f g w (led_from m p u x a) put (Sound m p v c g x)
        (record {
          parent = λ y apart e. record { settled = (onward.settled u done-u).0; step = step; base = x; sums = (onward.settled u done-u).1 ∙ sum-u; adds = same_sum (Some y) y (further m p x a) refl (sym e) };
          below = λ d. absurd (false≢true d);
          above = λ y d e. subst (λ k. m.at_most x k ≡ true) (same_sum (Some y) (further m p x a) y (sym e) refl) (join_grows m laws x (m.weight (p.price a)));
        })
        (λ i other. record {
          parent = λ y apart e. parent_onward m p v f g (f i).from (f i).via i y onward ((h.sound i).parent y apart e);
          below = (h.sound i).below;
          above = (h.sound i).above;
        });
    relaxed = λ i b k y d e other tried.
        let was = sym (same.dones i) ∙ d in
        onward.falls k (further m p y b) (h.relaxed i b k y was (sym (onward.settled i was).1 ∙ e) other tried);
  }
    where
      onward : Onward m f g
      onward = record {
        settled = λ i d. (same.dones i ∙ d, ap (λ e. e.sum) (same.kept i d));
        falls = relabelled_all f g w (led_from m p u x a) put (λ i e. (y : S) → Within m (f i).sum y → Within m e.sum y)
            (λ y q. (further m p x a, refl, improves_within m laws (further m p x a) y (f w).sum better q))
            (λ i apart y q. q);
      }

  -- the list es while the actions from u are tried, those below a being over; f has the labels before
  pub record Relaxing (f : Labelling S) (es : List (Label S)) (a : ℕ) : Type 0 where
    pub invariant : Invariant m p v c (labels m es) x (Tried u a)
    pub same : SameSettled f (labels m es)
    pub long : length es ≡ 64

  module _ (lawful : Lawful p.task) (f : Labelling S) (done-u : (f u).done ≡ true) (sum-u : (f u).sum ≡ Some x) where
    -- one action
    module _ (es : List (Label S)) (a : ℕ) (h : Relaxing f es a) where
      unchanged : ((w : ℕ) → FreeStep p.task v u a w → Within m (labels m es w).sum (further m p x a)) → Relaxing f es (suc a)
      unchanged new = record { invariant = tried_more (labels m es) a h.invariant (ap (λ e. e.sum) (h.same.kept u done-u) ∙ sum-u) new; same = h.same; long = h.long }

      changed : (w : ℕ) → FreeStep p.task v u a w → (labels m es w).done ≡ false → improves m (further m p x a) (labels m es w).sum ≡ true → Relaxing f (set es w (led_from m p u x a)) (suc a)
      changed w step open-w better =
          let g = labels m (set es w (led_from m p u x a)) in
          let long = h.long in
          let l = value_few p.task lawful v w (lawful.eff_val a v w step.sets) in
          let put = relabelled_set m es w (led_from m p u x a) (omega arith) in
          let same = relabelled_open (labels m es) g w (led_from m p u x a) put open-w refl in
          let then = same_settled_then f (labels m es) g h.same same in
          let sum-es = ap (λ e. e.sum) (h.same.kept u done-u) ∙ sum-u in
          let sum-g = ap (λ e. e.sum) (then.kept u done-u) ∙ sum-u in
          let low : Within m (g w).sum (further m p x a) = (further m p x a, ap (λ e. e.sum) put.here, at_most_same m laws (further m p x a)) in
          record {
            invariant = tried_more g a (improved (labels m es) g a h.invariant (h.same.dones u ∙ done-u) sum-es w step better put same) sum-g (only_target g a w step low);
            same = then;
            long = length-set es w (led_from m p u x a) ∙ h.long;
          }

      tested : (w : ℕ) → FreeStep p.task v u a w → (b : Bool) → (not (labels m es w).done && improves m (further m p x a) (labels m es w).sum) ≡ b → Relaxing f (elim b [ true ↦ set es w (led_from m p u x a) | false ↦ es ]) (suc a)
      tested w step true t =
          let parts = and_parts (not (labels m es w).done) (improves m (further m p x a) (labels m es w).sum) t in
          changed w step (not-true (labels m es w).done parts.0) parts.1
      tested w step false t = unchanged (only_target (labels m es) a w step low)
        where
          low : Within m (labels m es w).sum (further m p x a)
          low = ⊎_elim
              (λ d. within_more m laws (labels m es w).sum x (further m p x a) ((h.invariant.sound w).below (not-false (labels m es w).done d)) (join_grows m laws x (m.weight (p.price a))))
              (λ b. not_improves_within m laws (further m p x a) (labels m es w).sum b)
              (and_cases (not (labels m es w).done) (improves m (further m p x a) (labels m es w).sum) t)

      led : is_free p.task v a ≡ true → agrees (p.task.pre a v) u ≡ true → (o : Option ℕ) → p.task.eff a v ≡ o → Relaxing f (relax m es u a (further m p x a) o) (suc a)
      led free fits None e = unchanged (λ w step. none_some (p.task.eff a v) w e step.sets)
      led free fits (Some w) e = tested w (record { free = free; fits = fits; sets = e }) (not (labels m es w).done && improves m (further m p x a) (labels m es w).sum) refl

    pub relaxing_all : (n a : ℕ) (es : List (Label S)) → a + n ≡ p.task.acts → Relaxing f es a → Relaxing f (relax_all m p v u x n a es) p.task.acts
    relaxing_all zero a es e h = let all : a ≡ p.task.acts = omega arith in subst (Relaxing f es) all h
    relaxing_all (suc n) a es e h = go (is_free p.task v a && agrees (p.task.pre a v) u) refl (λ es2. relaxing_all n (suc a) es2 (omega arith))
      where
        go : (b : Bool) → (is_free p.task v a && agrees (p.task.pre a v) u) ≡ b
            → ((es2 : List (Label S)) → Relaxing f es2 (suc a) → Relaxing f (relax_all m p v u x n (suc a) es2) p.task.acts)
            → Relaxing f (elim b [ true ↦ relax_all m p v u x n (suc a) (relax m es u a (further m p x a) (p.task.eff a v)) | false ↦ relax_all m p v u x n (suc a) es ]) p.task.acts
        go true t rest =
            let q = and_parts (is_free p.task v a) (agrees (p.task.pre a v) u) t in
            rest (relax m es u a (further m p x a) (p.task.eff a v)) (led es a h q.0 q.1 (p.task.eff a v) refl)
        go false t rest = rest es (unchanged es a h (λ w step. absurd (both_ways (is_free p.task v a && agrees (p.task.pre a v) u) t (and_from (is_free p.task v a) (agrees (p.task.pre a v) u) step.free step.fits))))
