-- The turns in which values were settled: each came from one of an earlier turn.
use Rattle.std.proofs.Common.{◌≡◌, ℕ, suc, ◌<◌, true, false, cond, eqb, sym, refl, ap, ◌∙◌, subst, arith}
use Rattle.std.proofs.lemmas.Bool.{both_ways, eq-eqb, ne_eqb, cond-true, cond-false}
use Rattle.tasks.specs.Measures.{CostAlgebra}
use Rattle.detours.specs.Detours.{closed}
use Rattle.detours.proofs.Counting.{count, count_same, count_more}
use Rattle.detours.proofs.Labels.{Labelling, Relabelled, relabelled_all, SameSettled}

-- how many values are settled
abbrev pub settled_count : {S : Type 0} → Labelling S → ℕ
settled_count f = count (λ i. (f i).done) 64

-- rank gives the turn of each settled value; c is the start
pub record Ranked {S : Type 0} (c : ℕ) (f : Labelling S) (rank : ℕ → ℕ) : Type 0 where
  pub before : (i : ℕ) → (f i).done ≡ true → rank i < settled_count f
  pub falls : (i : ℕ) → (i ≡ c → ⊥) → (f i).done ≡ true → rank (f i).from < rank i

pub settled_same : {S : Type 0} (f g : Labelling S) → SameSettled f g → settled_count g ≡ settled_count f
settled_same f g same = count_same (λ i. (f i).done) (λ i. (g i).done) 64 (λ i l. same.dones i)

pub ranked_same : {S : Type 0} (c : ℕ) (f g : Labelling S) (rank : ℕ → ℕ) → SameSettled f g → Ranked c f rank → Ranked c g rank
ranked_same c f g rank same r = record {
  before = λ i d. subst (λ n. rank i < n) (sym (settled_same f g same)) (r.before i (sym (same.dones i) ∙ d));
  falls = λ i apart d. let was = sym (same.dones i) ∙ d in subst (λ k. rank k < rank i) (sym (ap (λ e. e.from) (same.kept i was))) (r.falls i apart was);
}

-- u takes the turn n
abbrev pub next_rank : (ℕ → ℕ) → ℕ → ℕ → ℕ → ℕ
next_rank rank u n i = cond (eqb i u) n (rank i)

-- u is settled
module _ {S : Type 0} (m : CostAlgebra S) (f g : Labelling S) (u : ℕ) (open-u : (f u).done ≡ false) (put : Relabelled f g u (closed m (f u))) (inside : u < 64) where
  pub settled_more : settled_count g ≡ suc (settled_count f)
  settled_more = count_more (λ i. (f i).done) (λ i. (g i).done) u 64 inside open-u (ap (λ e. e.done) put.here) (λ i apart. ap (λ e. e.done) (put.else i apart))

  module _ (c : ℕ) (rank : ℕ → ℕ) (r : Ranked c f rank) where
    rank_new : next_rank rank u (settled_count f) u ≡ settled_count f
    rank_new = cond-true (eqb u u) (settled_count f) (rank u) (eq-eqb u u refl)

    rank_old : (i : ℕ) → (f i).done ≡ true → next_rank rank u (settled_count f) i ≡ rank i
    rank_old i d = cond-false (eqb i u) (settled_count f) (rank i) (ne_eqb i u (λ same. both_ways (f u).done open-u (ap (λ k. (f k).done) (sym same) ∙ d)))

    -- where u came from is settled, and so is where a settled value came from
    pub ranked_more : ((u ≡ c → ⊥) → (f (f u).from).done ≡ true) → ((i : ℕ) → (i ≡ c → ⊥) → (f i).done ≡ true → (f (f i).from).done ≡ true) → Ranked c g (next_rank rank u (settled_count f))
    ranked_more from-u from_settled = record {
      before = relabelled_all f g u (closed m (f u)) put (λ i e. e.done ≡ true → next_rank rank u (settled_count f) i < settled_count g)
          (λ d. let n = settled_more in let k = rank_new in omega arith)
          (λ i other d. let n = settled_more in let k = rank_old i d in let b = r.before i d in omega arith);
      falls = relabelled_all f g u (closed m (f u)) put (λ i e. (i ≡ c → ⊥) → e.done ≡ true → next_rank rank u (settled_count f) e.from < next_rank rank u (settled_count f) i)
          (λ apart d. let k = rank_new in let j = rank_old (f u).from (from-u apart) in let b = r.before (f u).from (from-u apart) in omega arith)
          (λ i other apart d. let k = rank_old i d in let j = rank_old (f i).from (from_settled i apart d) in let l = r.falls i apart d in omega arith);
    }
