-- What the laws of a cost algebra give, for totals of lists.
use Rattle.std.proofs.Common.{fold, ◌≡◌, ℕ, true, false, List, [], ◌∷◌, ◌++◌, sym, refl, ap, ◌∙◌, subst, ap₂, ⊎_elim}
use Rattle.std.proofs.lemmas.Bool.{both_ways}
use Rattle.tasks.specs.Task.{Priced}
use Rattle.tasks.specs.Measures.{CostAlgebra, CostLaws}
use Rattle.tasks.specs.Totals.{total}
use Rattle.tasks.proofs.Running.{AllLive}

module _ {S : Type 0} (m : CostAlgebra S) (laws : CostLaws m) where
  pub at_most_same : (x : S) → m.at_most x x ≡ true
  at_most_same x = ⊎_elim (λ h. h) (λ h. h) (laws.either x x)

  pub at_most_other : (x y : S) → m.at_most x y ≡ false → m.at_most y x ≡ true
  at_most_other x y h = ⊎_elim (λ k. absurd (both_ways (m.at_most x y) h k)) (λ k. k) (laws.either x y)

  pub join_nothing : (x : S) → m.join x m.nothing ≡ x
  join_nothing x = laws.comm x m.nothing ∙ laws.neutral x

  pub join_swap : (x y z : S) → m.join x (m.join y z) ≡ m.join y (m.join x z)
  join_swap x y z = sym (laws.assoc x y z) ∙ ap (λ k. m.join k z) (laws.comm x y) ∙ laws.assoc y x z

  pub join_grows : (x y : S) → m.at_most x (m.join x y) ≡ true
  join_grows x y =
      let h : m.at_most (m.join m.nothing x) (m.join y x) ≡ true = laws.retains m.nothing y x (laws.least y) in
      subst (λ z. m.at_most z (m.join x y) ≡ true) (laws.neutral x) (subst (λ z. m.at_most (m.join m.nothing x) z ≡ true) (laws.comm y x) h)

  pub total_append : (p : Priced) (xs ys : List ℕ) → total m p (xs ++ ys) ≡ m.join (total m p xs) (total m p ys)
  total_append p [] ys = sym (laws.neutral (total m p ys))
  total_append p (x ∷ xs) ys = ap (m.join (m.weight (p.price x))) (total_append p xs ys) ∙ sym (laws.assoc (m.weight (p.price x)) (total m p xs) (total m p ys))

  -- one action more at the end
  pub total_push : (p : Priced) (xs : List ℕ) (a : ℕ) → total m p (xs ++ (a ∷ [])) ≡ m.join (total m p xs) (m.weight (p.price a))
  total_push p xs a = total_append p xs (a ∷ []) ∙ ap (m.join (total m p xs)) (join_nothing (m.weight (p.price a)))

  -- joined from the first on, with what was joined before
  total_from : (p : Priced) (x : S) (xs : List ℕ) → fold (λ sum a. m.join sum (m.weight (p.price a))) x xs ≡ m.join x (total m p xs)
  total_from p x [] = sym (join_nothing x)
  total_from p x (a ∷ xs) = total_from p (m.join x (m.weight (p.price a))) xs ∙ laws.assoc x (m.weight (p.price a)) (total m p xs)

  pub total_folded : (p : Priced) (xs : List ℕ) (init r : S) → r ≡ fold (λ sum a. m.join sum (m.weight (p.price a))) init xs → init ≡ m.nothing → r ≡ total m p xs
  total_folded p xs init r e nothing = e ∙ total_from p init xs ∙ ap (λ x. m.join x (total m p xs)) nothing ∙ laws.neutral (total m p xs)

  -- where live actions keep their price, so does a list of them
  pub total_priced : (p q : Priced) → ((a : ℕ) → q.task.act_live a ≡ true → p.price a ≡ q.price a) → (xs : List ℕ) → AllLive q.task xs → total m p xs ≡ total m q xs
  total_priced p q f [] h = refl
  total_priced p q f (x ∷ xs) h = ap₂ (λ k l. m.join (m.weight k) l) (f x h.0) (total_priced p q f xs h.1)
