-- The search over gathered edges is the search over all actions.
use Rattle.std.proofs.Common.{◌≡◌, ℕ, zero, suc, Bool, true, false, cond, ◌&&◌, List, ◌∷◌, get_or, set, Some, None, Option, sym, refl, ap, ◌∙◌, ap₂, arith}
use Rattle.std.proofs.lemmas.Bool.{and_from}
use Rattle.tasks.specs.Task.{Priced, Lawful}
use Rattle.tasks.specs.Plans.{agrees}
use Rattle.tasks.specs.Measures.{CostAlgebra}
use Rattle.detours.specs.declared.edges.Edge.{Edge}
use Rattle.detours.specs.Free.{is_free}
use Rattle.detours.specs.Edges.{put_first, free_edges, TargetsFit}
use Rattle.detours.specs.Detours.{Label, Found, unlabelled, most_values, least_open, relax, relax_all, total_at, closed, settle, begun, read_off, detour}
use Rattle.detours.specs.EdgeSearch.{relax_edges, settle_edges}
use Rattle.detours.proofs.FreePaths.{value_few}

edge_if : Priced → ℕ → ℕ → Bool → Option ℕ → Option Edge
edge_if p v a free None = None
edge_if p v a free (Some y) = cond free (Some (record { action = a; from = p.task.pre a v; to = y; price = p.price a })) None

-- an edge leads to a value that is live
pub targets_fit : (p : Priced) → Lawful p.task → (v n a : ℕ) → TargetsFit (free_edges p v n a)
unfolding edge_if
targets_fit p law v zero a k d l = absurd (omega arith)
targets_fit p law v (suc n) a k d l = go (p.task.eff a v) refl (is_free p.task v a) (targets_fit p law v n (suc a)) k d l
  where
    go : (o : Option ℕ) → p.task.eff a v ≡ o → (free : Bool) → TargetsFit (free_edges p v n (suc a)) → TargetsFit (put_first (edge_if p v a free o) (free_edges p v n (suc a)))
    go None e free rest = rest
    go (Some y) e false rest = rest
    go (Some y) e true rest = each
      where
        each : TargetsFit (record { action = a; from = p.task.pre a v; to = y; price = p.price a } ∷ free_edges p v n (suc a))
        each zero d l = value_few p.task law v y (law.eff_val a v y e)
        each (suc k) d l = rest k d (omega arith)

module _ {S : Type 0} (m : CostAlgebra S) (p : Priced) (v : ℕ) where
  relax_same : (u : ℕ) (x : S) (n a : ℕ) (es : List (Label S)) → relax_edges m u x (free_edges p v n a) es ≡ relax_all m p v u x n a es
  unfolding edge_if
  relax_same u x zero a es = refl
  relax_same u x (suc n) a es = go (p.task.eff a v) (is_free p.task v a) (agrees (p.task.pre a v) u) refl (relax_same u x n (suc a))
    where
      go : (o : Option ℕ) (free fits : Bool) → agrees (p.task.pre a v) u ≡ fits → ((es2 : List (Label S)) → relax_edges m u x (free_edges p v n (suc a)) es2 ≡ relax_all m p v u x n (suc a) es2)
          → ◌≡◌ {A = List (Label S)} (relax_edges m u x (put_first (edge_if p v a free o) (free_edges p v n (suc a))) es)
          (elim (free && fits) [ true ↦ relax_all m p v u x n (suc a) (relax m es u a (m.join x (m.weight (p.price a))) o) | false ↦ relax_all m p v u x n (suc a) es ])
      go None true true e on = on es
      go None true false e on = on es
      go None false fits e on = on es
      go (Some y) false fits e on = on es
      go (Some y) true true e on = ap (λ (b : Bool). elim b [ true ↦ relax_edges m u x (free_edges p v n (suc a)) (relax m es u a (m.join x (m.weight (p.price a))) (Some y)) | false ↦ relax_edges m u x (free_edges p v n (suc a)) es ]) e ∙ on (relax m es u a (m.join x (m.weight (p.price a))) (Some y))
      go (Some y) true false e on = ap (λ (b : Bool). elim b [ true ↦ relax_edges m u x (free_edges p v n (suc a)) (relax m es u a (m.join x (m.weight (p.price a))) (Some y)) | false ↦ relax_edges m u x (free_edges p v n (suc a)) es ]) e ∙ on es

  settle_same : (fuel : ℕ) (es : List (Label S)) → settle_edges m (free_edges p v p.task.acts 0) fuel es ≡ settle m p v fuel es
  settle_same zero es = refl
  settle_same (suc fuel) es = go (least_open m es 0 None None) (settle_same fuel)
    where
      go : (o : Option ℕ) → ((es2 : List (Label S)) → settle_edges m (free_edges p v p.task.acts 0) fuel es2 ≡ settle m p v fuel es2)
          → ◌≡◌ {A = List (Label S)} (elim o [ None ↦ es | Some u ↦ settle_edges m (free_edges p v p.task.acts 0) fuel (relax_edges m u (total_at m (get_or es u (unlabelled m)).sum) (free_edges p v p.task.acts 0) (set es u (closed m (get_or es u (unlabelled m))))) ])
          (elim o [ None ↦ es | Some u ↦ settle m p v fuel (relax_all m p v u (total_at m (get_or es u (unlabelled m)).sum) p.task.acts 0 (set es u (closed m (get_or es u (unlabelled m))))) ])
      go None on = refl
      go (Some u) on =
          ap (settle_edges m (free_edges p v p.task.acts 0) fuel) (relax_same u (total_at m (get_or es u (unlabelled m)).sum) p.task.acts 0 (set es u (closed m (get_or es u (unlabelled m)))))
          ∙ on (relax_all m p v u (total_at m (get_or es u (unlabelled m)).sum) p.task.acts 0 (set es u (closed m (get_or es u (unlabelled m)))))

  chosen : (c r : ℕ) → Bool → Option (Found S)
  chosen c r live = elim live [ true ↦ read_off m (settle m p v most_values (begun m c)) c r | false ↦ None ]

  -- what the search over gathered edges reads off is the detour
  pub found : (c r : ℕ) (edges : List Edge) (start es : List (Label S)) (answer : Option (Found S)) → p.task.val_live v c ≡ true → p.task.val_live v r ≡ true → edges ≡ free_edges p v p.task.acts 0 → start ≡ begun m c → es ≡ settle_edges m edges most_values start → answer ≡ read_off m es c r → answer ≡ detour m p v c r
  unfolding chosen
  found c r edges start es answer from-live to-live gathered starts settles reads =
      reads ∙ ap (λ (k : List (Label S)). read_off m k c r) (settles ∙ ap₂ (λ (e : List Edge) (s : List (Label S)). settle_edges m e most_values s) gathered starts ∙ settle_same most_values (begun m c))
      ∙ sym (ap (chosen c r) (and_from (p.task.val_live v c) (p.task.val_live v r) from-live to-live))
