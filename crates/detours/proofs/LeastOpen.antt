-- The search for the unsettled value of least total.
use Rattle.std.proofs.Common.{◌≡◌, ℕ, suc, ◌+◌, ◌-◌, ◌<◌, ◌≤◌, Bool, true, false, List, [], ◌∷◌, get_or, Some, None, Option, sym, refl, ap, ◌∙◌, subst, ⊎_elim, arith}
use Rattle.std.proofs.lemmas.Bool.{cases_eq, cases_lt, both_ways}
use Rattle.tasks.specs.Measures.{CostAlgebra, CostLaws}
use Rattle.detours.specs.Detours.{Label, unlabelled, improves, least_open}
use Rattle.detours.proofs.Sums.{no_sum, Within, within_at, within_same, within_more, improves_within, not_improves_within}
use Rattle.detours.proofs.Labels.{Labelling, labels}

-- u has the total x and is not settled
pub record Open {S : Type 0} (f : Labelling S) (u : ℕ) (x : S) : Type 0 where
  pub unsettled : (f u).done ≡ false
  pub sums : (f u).sum ≡ Some x

-- what an answer says: no value is open, or the one of least total
abbrev pub LeastOpen : {S : Type 0} → CostAlgebra S → Labelling S → Option ℕ → Type 0
LeastOpen {S} m f None = (j : ℕ) (y : S) → Open f j y → ⊥
LeastOpen {S} m f (Some u) = (x : S) × Open f u x × ((j : ℕ) (y : S) → Open f j y → m.at_most x y ≡ true)

module _ {S : Type 0} (m : CostAlgebra S) (laws : CostLaws m) (f : Labelling S) where
  abbrev Held : Option ℕ → Option S → Type 0
  Held None None = Unit {0}
  Held None (Some x) = ⊥
  Held (Some u) None = ⊥
  Held (Some u) (Some x) = Open f u x

  -- the best of the values below i, and its total
  record Best (i : ℕ) (at : Option ℕ) (best : Option S) : Type 0 where
    held : Held at best
    least : (j : ℕ) (y : S) → j < i → Open f j y → Within m best y

  -- the next value is taken, left or passed over
  next : (i : ℕ) (at : Option ℕ) (best : Option S) → Held at best → ((j : ℕ) (y : S) → j < i → Open f j y → Within m best y) → ((y : S) → Open f i y → Within m best y) → Best (suc i) at best
  next i at best held old new = record { held = held; least = λ j y l o. ⊎_elim (λ same. new y (subst (λ (k : ℕ). Open f k y) same o)) (λ apart. old j y (omega arith) o) (cases_eq j i) }

  take : (i : ℕ) (at : Option ℕ) (best : Option S) (x : S) → Open f i x → improves m x best ≡ true → Best i at best → Best (suc i) (Some i) (Some x)
  take i at best x o better b = next i (Some i) (Some x) o (λ j y l q. (x, refl, improves_within m laws x y best better (b.least j y l q))) (λ y q. (x, refl, within_same m laws (f i).sum x y o.sums q.sums))

  leave : (i : ℕ) (at : Option ℕ) (best : Option S) (x : S) → Open f i x → improves m x best ≡ false → Best i at best → Best (suc i) at best
  leave i at best x o worse b = next i at best b.held b.least (λ y q. within_more m laws best x y (not_improves_within m laws x best worse) (within_same m laws (f i).sum x y o.sums q.sums))

  pass : (i : ℕ) (at : Option ℕ) (best : Option S) → ((y : S) → Open f i y → ⊥) → Best i at best → Best (suc i) at best
  pass i at best shut b = next i at best b.held b.least (λ y o. absurd (shut y o))

  finish : (at : Option ℕ) (best : Option S) → Held at best → ((j : ℕ) (y : S) → Open f j y → Within m best y) → LeastOpen m f at
  finish None None held least = λ j y o. let h = least j y o in no_sum None h.0 refl h.1
  finish None (Some x) held least = absurd held
  finish (Some u) None held least = absurd held
  finish (Some u) (Some x) held least = (x, held, λ j y o. within_at m laws (Some x) y x (least j y o) refl)

  module _ (es : List (Label S)) (i : ℕ) (at : Option ℕ) (best : Option S) (b : Best i at best) (rest : (at2 : Option ℕ) (best2 : Option S) → Best (suc i) at2 best2 → LeastOpen m f (least_open m es (suc i) at2 best2)) where
    compared : (x : S) → Open f i x → (better : Bool) → improves m x best ≡ better → LeastOpen m f (elim better [ true ↦ least_open m es (suc i) (Some i) (Some x) | false ↦ least_open m es (suc i) at best ])
    compared x o true h = rest (Some i) (Some x) (take i at best x o h b)
    compared x o false h = rest at best (leave i at best x o h b)

    looked : (d : Bool) (s : Option S) → (f i).done ≡ d → (f i).sum ≡ s → LeastOpen m f (elim d [
      | true ↦ least_open m es (suc i) at best
      | false ↦ elim s [
        | None ↦ least_open m es (suc i) at best
        | Some x ↦ elim (improves m x best) [ true ↦ least_open m es (suc i) (Some i) (Some x) | false ↦ least_open m es (suc i) at best ]
      ]
    ])
    looked true s d e = rest at best (pass i at best (λ y o. both_ways (f i).done o.unsettled d) b)
    looked false None d e = rest at best (pass i at best (λ y o. no_sum (f i).sum y e o.sums) b)
    looked false (Some x) d e = compared x (record { unsettled = d; sums = e }) (improves m x best) refl

  -- from i on, where the list has the labels of the values from i on
  search_from : (es : List (Label S)) (i : ℕ) (at : Option ℕ) (best : Option S) → ((n : ℕ) → get_or es n (unlabelled m) ≡ f (i + n)) → Best i at best → LeastOpen m f (least_open m es i at best)
  search_from [] i at best same b = finish at best b.held (λ j y o. ⊎_elim (λ l. b.least j y l o) (λ l. past j y l o) (cases_lt j i))
    where
      past : (j : ℕ) (y : S) → i ≤ j → Open f j y → Within m best y
      past j y l o = let e : i + (j - i) ≡ j = omega arith in no_sum (f j).sum y (ap (λ k. (f k).sum) (sym e) ∙ ap (λ k. k.sum) (sym (same (j - i)))) o.sums
  search_from (e ∷ es) i at best same b =
      let here : f i ≡ e = let k : i ≡ i + 0 = omega arith in ap f k ∙ sym (same 0) in
      looked es i at best b (λ at2 best2. search_from es (suc i) at2 best2 (λ n. let k : i + suc n ≡ suc i + n = omega arith in same (suc n) ∙ ap f k)) e.done e.sum (ap (λ k. k.done) here) (ap (λ k. k.sum) here)

pub least_open_found : {S : Type 0} (m : CostAlgebra S) (laws : CostLaws m) (es : List (Label S)) → LeastOpen m (labels m es) (least_open m es 0 None None)
least_open_found m laws es = search_from m laws (labels m es) es 0 None None (λ n. let k : n ≡ 0 + n = omega arith in ap (labels m es) k) (record { held = tt; least = λ j y l o. absurd (omega arith) })
