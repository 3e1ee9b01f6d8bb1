-- The actions read back from the labels: a path of the label's total.
use Rattle.std.proofs.Common.{◌≡◌, ℕ, zero, suc, ◌+◌, ◌≤◌, Bool, true, false, eqb, List, [], ◌∷◌, length, Some, sym, refl, ap, ◌∙◌, subst, ⊎_elim, arith}
use Rattle.std.proofs.lemmas.Bool.{cases_eq, cases_Bool, eqb-true, eqb-false}
use Rattle.tasks.specs.Task.{Priced}
use Rattle.tasks.specs.Measures.{CostAlgebra, CostLaws}
use Rattle.tasks.specs.Totals.{total}
use Rattle.tasks.proofs.CostAlgebras.{join_nothing}
use Rattle.detours.specs.Detours.{Label, trace_back}
use Rattle.detours.proofs.Counting.{count_most}
use Rattle.detours.proofs.FreePaths.{FreePath}
use Rattle.detours.proofs.Sums.{Within, within_more, within_at}
use Rattle.detours.proofs.Labels.{labels}
use Rattle.detours.proofs.Turns.{Finished}

module _ {S : Type 0} (m : CostAlgebra S) (laws : CostLaws m) (p : Priced) (v c : ℕ) (es : List (Label S)) (h : Finished m p v c es) where
  settled_all : (i : ℕ) (x : S) → (labels m es i).sum ≡ Some x → (labels m es i).done ≡ true
  settled_all i x e = ⊎_elim (λ d. d) (λ d. absurd (h.none_open i x (record { unsettled = d; sums = e }))) (cases_Bool (labels m es i).done)

  path_from : (list : List ℕ) (u : ℕ) (x : S) (r : ℕ) → Within m (labels m es u).sum x → FreePath p.task v u list r → Within m (labels m es r).sum (m.join x (total m p list))
  path_from [] u x r w path = subst (λ y. Within m (labels m es r).sum y) (sym (join_nothing m laws x)) (subst (λ k. Within m (labels m es k).sum x) path w)
  path_from (a ∷ rest) u x r w path =
      let price = m.weight (p.price a) in
      let s = h.between.invariant.relaxed u a path.0 w.0 (settled_all u w.0 w.1) w.1 path.1 tt in
      let near = within_more m laws (labels m es path.0).sum (m.join w.0 price) (m.join x price) s (laws.retains w.0 x price w.2) in
      subst (λ y. Within m (labels m es r).sum y) (laws.assoc x price (total m p rest)) (path_from rest path.0 (m.join x price) r near path.2)

  -- what a path from c leads to has a total, and that is at most the path's
  pub path_within : (list : List ℕ) (r : ℕ) → FreePath p.task v c list r → Within m (labels m es r).sum (total m p list)
  path_within list r path = subst (λ y. Within m (labels m es r).sum y) (laws.neutral (total m p list)) (path_from list c m.nothing r h.between.invariant.start path)

  -- what is read back from r, whose total is x, in front of a list that leads on to z
  record Traced (r : ℕ) (x : S) (on : List ℕ) (z : ℕ) (list : List ℕ) : Type 0 where
    path : FreePath p.task v c list z
    totals : total m p list ≡ m.join x (total m p on)
    short : length list ≤ h.between.rank r + length on

  at_start : (r : ℕ) (x : S) (on : List ℕ) (z : ℕ) → r ≡ c → (labels m es r).sum ≡ Some x → FreePath p.task v r on z → Traced r x on z on
  at_start r x on z same e path =
      let low = within_at m laws (labels m es c).sum m.nothing x h.between.invariant.start (ap (λ k. (labels m es k).sum) (sym same) ∙ e) in
      let none : m.nothing ≡ x = laws.antisym m.nothing x (laws.least x) low in
      record { path = subst (λ k. FreePath p.task v k on z) same path; totals = sym (laws.neutral (total m p on)) ∙ ap (λ y. m.join y (total m p on)) none; short = omega arith }

  tracing : (fuel r : ℕ) (x : S) (on : List ℕ) (z : ℕ) → h.between.rank r ≤ fuel → (labels m es r).sum ≡ Some x → FreePath p.task v r on z → Traced r x on z (trace_back m es c fuel r on)
  tracing zero r x on z low e path = ⊎_elim (λ same. at_start r x on z same e path) (λ apart. let l = h.between.ranked.falls r apart (settled_all r x e) in absurd (omega arith)) (cases_eq r c)
  tracing (suc fuel) r x on z low e path = go (eqb r c) refl (tracing fuel)
    where
      go : (b : Bool) → eqb r c ≡ b
          → ((r2 : ℕ) (x2 : S) (on2 : List ℕ) (z2 : ℕ) → h.between.rank r2 ≤ fuel → (labels m es r2).sum ≡ Some x2 → FreePath p.task v r2 on2 z2 → Traced r2 x2 on2 z2 (trace_back m es c fuel r2 on2))
          → Traced r x on z (elim b [ true ↦ on | false ↦ trace_back m es c fuel (labels m es r).from ((labels m es r).via ∷ on) ])
      go true t back = at_start r x on z (eqb-true r c t) e path
      go false t back =
          let u = (labels m es r).from in
          let a = (labels m es r).via in
          let parent = (h.between.invariant.sound r).parent x (eqb-false r c t) e in
          let l = h.between.ranked.falls r (eqb-false r c t) (settled_all r x e) in
          let q = back u parent.base (a ∷ on) z (omega arith) parent.sums (r, parent.step, path) in
          let s = q.short in
          record { path = q.path; totals = q.totals ∙ sym (laws.assoc parent.base (m.weight (p.price a)) (total m p on)) ∙ ap (λ y. m.join y (total m p on)) (sym parent.adds); short = omega arith }

  pub traced : (r : ℕ) (x : S) → (labels m es r).sum ≡ Some x → FreePath p.task v c (trace_back m es c 64 r []) r × (x ≡ total m p (trace_back m es c 64 r [])) × (length (trace_back m es c 64 r []) ≤ 63)
  traced r x e =
      let few = h.between.ranked.before r (settled_all r x e) in
      let most = count_most (λ i. (labels m es i).done) 64 in
      let q = tracing 64 r x [] r (omega arith) e refl in
      let s = q.short in
      (q.path, sym (q.totals ∙ join_nothing m laws x), omega arith)
