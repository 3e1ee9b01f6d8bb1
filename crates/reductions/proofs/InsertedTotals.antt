-- Totals and lengths of a list with what was inserted in it.
use Rattle.std.proofs.Common.{◌≡◌, ℕ, suc, ◌+◌, cond, ◌&&◌, eqb, List, [], ◌∷◌, length, sym, refl, ap, ◌∙◌, ap₂, zero-add, arith, length-append}
use Rattle.std.proofs.lemmas.Bool.{cond_both, and_parts, eqb-true}
use Rattle.tasks.specs.Task.{Task, Priced}
use Rattle.tasks.specs.Plans.{over}
use Rattle.tasks.specs.Measures.{CostAlgebra, CostLaws}
use Rattle.tasks.specs.Totals.{total}
use Rattle.tasks.proofs.Running.{AllLive, all_live_append, all_live_parts}
use Rattle.tasks.proofs.CostAlgebras.{join_swap, total_append}
use Rattle.reductions.specs.Steps.{has_value}
use Rattle.reductions.specs.Undoing.{Connector, connect, refined, insertions, specialised}

module _ (bring : Connector) (t : Task) (v : ℕ) where
  pub total_refined : {S : Type 0} (m : CostAlgebra S) → CostLaws m → (p : Priced) (list : List ℕ) (c : ℕ) → total m p (refined bring t v c list) ≡ m.join (total m p list) (total m p (insertions bring t v c list))
  total_refined m laws p [] c = sym (laws.neutral (total m p (connect bring c (t.goal v))))
  total_refined m laws p (a ∷ rest) c =
      let next = over (t.eff a v) (over (t.pre a v) c) in
      let first = connect bring c (t.pre a v) in
      let more = insertions bring t v next rest in
      let weight = m.weight (p.price a) in
      total_append m laws p first (a ∷ refined bring t v next rest)
      ∙ ap (λ k. m.join (total m p first) (m.join weight k)) (total_refined m laws p rest next)
      ∙ join_swap m laws (total m p first) weight (m.join (total m p rest) (total m p more))
      ∙ ap (m.join weight) (join_swap m laws (total m p first) (total m p rest) (total m p more))
      ∙ sym (laws.assoc weight (total m p rest) (m.join (total m p first) (total m p more)))
      ∙ ap (m.join (m.join weight (total m p rest))) (sym (total_append m laws p first more))

  pub length_refined : (list : List ℕ) (c : ℕ) → length (refined bring t v c list) ≡ length list + length (insertions bring t v c list)
  length_refined [] c = sym (zero-add (length (connect bring c (t.goal v))))
  length_refined (a ∷ rest) c =
      let next = over (t.eff a v) (over (t.pre a v) c) in
      let first = connect bring c (t.pre a v) in
      let more = length_refined rest next in
      let whole = length-append first (a ∷ refined bring t v next rest) in
      let inserted = length-append first (insertions bring t v next rest) in
      omega arith

  -- what is inserted is live where the whole is
  pub live_insertions : (u : Task) (list : List ℕ) (c : ℕ) → AllLive u (refined bring t v c list) → AllLive u (insertions bring t v c list)
  live_insertions u [] c h = h
  live_insertions u (a ∷ rest) c h =
      let next = over (t.eff a v) (over (t.pre a v) c) in
      let first = connect bring c (t.pre a v) in
      let parts = all_live_parts u first (a ∷ refined bring t v next rest) h in
      all_live_append u first (insertions bring t v next rest) parts.0 (live_insertions u rest next parts.1.1)

-- an action is exchanged for one of the same price
module _ (t : Task) (v a b : ℕ) where
  pub total_specialised : {S : Type 0} (m : CostAlgebra S) (p : Priced) → p.price a ≡ p.price b → (list : List ℕ) (c : ℕ) → total m p (specialised t v a b c list) ≡ total m p list
  total_specialised m p e [] c = refl
  total_specialised m p e (d ∷ rest) c =
      let same : p.price (cond (eqb d a && has_value c (t.pre b v)) b d) ≡ p.price d = cond_both (eqb d a && has_value c (t.pre b v)) b d (λ k. p.price k ≡ p.price d)
      (λ h. sym e ∙ ap p.price (sym (eqb-true d a (and_parts (eqb d a) (has_value c (t.pre b v)) h).0)))
      (λ h. refl) in
      ap₂ (λ k l. m.join (m.weight k) l) same (total_specialised m p e rest (over (t.eff d v) c))

  pub length_specialised : (list : List ℕ) (c : ℕ) → length (specialised t v a b c list) ≡ length list
  length_specialised [] c = refl
  length_specialised (d ∷ rest) c = ap suc (length_specialised rest (over (t.eff d v) c))
