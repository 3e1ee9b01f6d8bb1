-- Turn after turn a value is settled, until none is open.
use Rattle.std.proofs.Common.{◌≡◌, ℕ, zero, suc, ◌+◌, ◌<◌, ◌≤◌, true, false, List, length, get_or, set, replicate, Some, None, Option, sym, refl, ap, ◌∙◌, subst, arith}
use Rattle.std.proofs.lemmas.Bool.{both_ways}
use Rattle.std.proofs.lemmas.List.{length-set, length-replicate}
use Rattle.tasks.specs.Task.{Priced, Lawful}
use Rattle.tasks.specs.Measures.{CostAlgebra, CostLaws}
use Rattle.tasks.proofs.CostAlgebras.{at_most_same}
use Rattle.detours.specs.Detours.{most_values, Label, unlabelled, closed, least_open, total_at, relax_all, settle, begun, settled}
use Rattle.detours.proofs.Counting.{count_all}
use Rattle.detours.proofs.FreePaths.{step_act}
use Rattle.detours.proofs.Sums.{no_sum}
use Rattle.detours.proofs.Labels.{labels, Relabelled, relabelled_set, relabelled_all, sum_inside}
use Rattle.detours.proofs.LeastOpen.{Open, LeastOpen, least_open_found}
use Rattle.detours.proofs.Ranks.{settled_count, Ranked, settled_same, ranked_same, next_rank, settled_more, ranked_more}
use Rattle.detours.proofs.Invariant.{Invariant}
use Rattle.detours.proofs.Settling.{settling}
use Rattle.detours.proofs.Relaxing.{Relaxing, relaxing_all}

getD_replicate_any : {A : Type 0} (n i : ℕ) (a : A) → get_or (replicate n a) i a ≡ a
getD_replicate_any zero i a = refl
getD_replicate_any (suc n) zero a = refl
getD_replicate_any (suc n) (suc i) a = getD_replicate_any n i a

module _ {S : Type 0} (m : CostAlgebra S) (p : Priced) (v c : ℕ) where
  -- the labels between two turns
  pub record Between (es : List (Label S)) : Type 0 where
    pub bar : S
    pub rank : ℕ → ℕ
    pub invariant : Invariant m p v c (labels m es) bar (λ i b. Unit {0})
    pub ranked : Ranked c (labels m es) rank
    pub long : length es ≡ 64

  -- the labels at the end
  pub record Finished (es : List (Label S)) : Type 0 where
    pub between : Between es
    pub none_open : (i : ℕ) (x : S) → Open (labels m es) i x → ⊥

module _ {S : Type 0} (m : CostAlgebra S) (laws : CostLaws m) (p : Priced) (lawful : Lawful p.task) (v c : ℕ) where
  module _ (es : List (Label S)) (h : Between m p v c es) (u : ℕ) (x : S) (open-u : Open (labels m es) u x) (least : (j : ℕ) (y : S) → Open (labels m es) j y → m.at_most x y ≡ true) where
    abbrev u_closed : List (Label S)
    u_closed = set es u (closed m (labels m es u))

    abbrev next : List (Label S)
    next = relax_all m p v u x p.task.acts 0 u_closed

    inside : u < 64
    inside = subst (λ n. u < n) h.long (sum_inside m es u x open-u.sums)

    put : Relabelled (labels m es) (labels m u_closed) u (closed m (labels m es u))
    put = relabelled_set m es u (closed m (labels m es u)) (sum_inside m es u x open-u.sums)

    relaxed : Relaxing m laws p v c u x (labels m u_closed) next p.task.acts
    relaxed = relaxing_all m laws p v c u x lawful (labels m u_closed) (ap (λ e. e.done) put.here) (ap (λ e. e.sum) put.here ∙ open-u.sums) p.task.acts 0 u_closed (omega arith) (record {
      invariant = settling m (labels m es) (labels m u_closed) u put laws p v c h.bar h.invariant x open-u least;
      same = record { kept = λ i d. refl; dones = λ i. refl };
      long = length-set es u (closed m (labels m es u)) ∙ h.long;
    })

    turn_ranks : Ranked c (labels m u_closed) (next_rank h.rank u (settled_count (labels m es)))
    turn_ranks = ranked_more m (labels m es) (labels m u_closed) u open-u.unsettled put inside c h.rank h.ranked
        (λ apart. ((h.invariant.sound u).parent x apart open-u.sums).settled)
        (λ i apart d. let w = (h.invariant.sound i).below d in ((h.invariant.sound i).parent w.0 apart w.1).settled)

    turn : Between m p v c next
    turn = record {
      bar = x;
      rank = next_rank h.rank u (settled_count (labels m es));
      invariant = record { start = relaxed.invariant.start; sound = relaxed.invariant.sound; relaxed = λ i a w y d e step all. relaxed.invariant.relaxed i a w y d e step (λ same. step_act p.task lawful v i a w step) };
      ranked = ranked_same c (labels m u_closed) (labels m next) (next_rank h.rank u (settled_count (labels m es))) relaxed.same turn_ranks;
      long = relaxed.long;
    }

    turn_settles : settled_count (labels m next) ≡ suc (settled_count (labels m es))
    turn_settles = settled_same (labels m u_closed) (labels m next) relaxed.same ∙ settled_more m (labels m es) (labels m u_closed) u open-u.unsettled put inside

  turns : (fuel : ℕ) (es : List (Label S)) → Between m p v c es → 64 ≤ fuel + settled_count (labels m es) → Finished m p v c (settle m p v fuel es)
  turns zero es h enough = record {
    between = h;
    none_open = λ i x o. both_ways (labels m es i).done o.unsettled (count_all (λ k. (labels m es k).done) 64 (omega arith) i (subst (λ n. i < n) h.long (sum_inside m es i x o.sums)));
  }
  turns (suc fuel) es h enough = go (least_open m es 0 None None) (least_open_found m laws es) (turns fuel)
    where
      go : (o : Option ℕ) → LeastOpen m (labels m es) o
          → ((es2 : List (Label S)) → Between m p v c es2 → 64 ≤ fuel + settled_count (labels m es2) → Finished m p v c (settle m p v fuel es2))
          → Finished m p v c (elim o [
            | None ↦ es
            | Some u ↦ settle m p v fuel (relax_all m p v u (total_at m (labels m es u).sum) p.task.acts 0 (set es u (closed m (labels m es u))))
          ])
      go None none rest = record { between = h; none_open = none }
      go (Some u) (x, open-u, least) rest =
          let more = turn_settles es h u x open-u least in
          subst (λ s. Finished m p v c (settle m p v fuel (relax_all m p v u s p.task.acts 0 (set es u (closed m (labels m es u)))))) (sym (ap (total_at m) open-u.sums))
          (rest (next es h u x open-u least) (turn es h u x open-u least) (omega arith))

  begun_between : c < 64 → Between m p v c (begun m c)
  begun_between l = record {
    bar = m.nothing;
    rank = λ i. 0;
    invariant = record {
      start = (m.nothing, ap (λ e. e.sum) put_c.here, at_most_same m laws m.nothing);
      sound = λ i. record {
        parent = λ y apart e. no_sum (labels m (begun m c) i).sum y (ap (λ k. k.sum) (blank_at i apart)) e;
        below = λ d. unsettled i d;
        above = λ y d e. laws.least y;
      };
      relaxed = λ u a w x d e step all. unsettled u d;
    };
    ranked = record { before = λ i d. unsettled i d; falls = λ i apart d. unsettled i d };
    long = length-set blank c first ∙ length-replicate 64 (unlabelled m);
  }
    where
      first : Label S
      first = record { sum = Some m.nothing; via = 0; from = 0; done = false }

      blank : List (Label S)
      blank = replicate 64 (unlabelled m)

      put_c : Relabelled (labels m blank) (labels m (begun m c)) c first
      put_c = relabelled_set m blank c first (subst (λ n. c < n) (sym (length-replicate 64 (unlabelled m))) l)

      blank_at : (i : ℕ) → (i ≡ c → ⊥) → labels m (begun m c) i ≡ unlabelled m
      blank_at i apart = put_c.else i apart ∙ getD_replicate_any 64 i (unlabelled m)

      unsettled : {A : Type 0} (i : ℕ) → (labels m (begun m c) i).done ≡ true → A
      unsettled i d = absurd (both_ways (labels m (begun m c) i).done (relabelled_all (labels m blank) (labels m (begun m c)) c first put_c (λ k e. e.done ≡ false) refl (λ k apart. ap (λ e. e.done) (getD_replicate_any 64 k (unlabelled m))) i) d)

  pub settled_finished : c < 64 → Finished m p v c (settled m p v c)
  unfolding most_values
  settled_finished l = turns 64 (begun m c) (begun_between l) (omega arith)
