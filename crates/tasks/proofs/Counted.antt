-- A chain over the numbers below a bound, read as a test of each of them.
use mathlib.Core.Path.{fun_ext}
use Rattle.std.proofs.Common.{[], ◌∷◌, length, filter, cond, not, ◌<◌, ◌≤◌, subst, ⊎_elim, slice_index_or, Bor, ◌≡◌, ℕ, zero, suc, ◌+◌, Bool, true, false, ◌&&◌, List, Option, None, Some, sym, refl, ap, ap₂, ◌∙◌, arith}
use Rattle.std.specs.declared.ops.Range.{Range}
use Rattle.std.specs.Array.{IsFromFnResult, IsFromFnResultFrom}
use Rattle.std.specs.Bool.{⊤}
use Rattle.std.specs.Fn.{Called, CalledAt}
use Rattle.std.proofs.lemmas.Bool.{cases_eq, cases_lt}
use Rattle.std.proofs.lemmas.List.{get_or_past}
use Rattle.std.proofs.lemmas.Iterator.Consumers.{count_from_yields_List, YieldsList-from_filter}
use Rattle.std.specs.Iterator.{Drains}
use Rattle.std.specs.Iterator.Adapters.{filter_steps, filter_source, filter_callee}
use Rattle.std.specs.declared.iter.Filter.{Filter}
use Rattle.std.specs.Iterator.{YieldsThen}
use Rattle.std.specs.List.{FoldsTo, list_all, range_with_len}
use Rattle.std.specs.Option.{MatchOption}
use Rattle.std.proofs.iter.Yields.{nat_range_steps}
use Rattle.std.proofs.lemmas.Iterator.{YieldsList-from_range, first_from_Range}
use Rattle.std.proofs.lemmas.Iterator.Search.{all_from_yields_List}
use denote.Param.Members.{Mut}
use Rattle.tasks.specs.Bounds.{count_below, all_below, first_failing}
use Rattle.tasks.proofs.Bounded.{below_from, passing_from, fails_at}

and_assoc : (a b c : Bool) → a && (b && c) ≡ (a && b) && c
and_assoc true b c = refl
and_assoc false b c = refl

and_true : (a : Bool) → true && a ≡ a && true
and_true true = refl
and_true false = refl

all_range_more : (p : ℕ → Bool) (a n : ℕ) → list_all p (range_with_len a (suc n)) ≡ (list_all p (range_with_len a n) && p (a + n))
all_range_more p a zero = let e : a + 0 ≡ a = omega arith in rw e (sym (and_true (p a)))
all_range_more p a (suc n) =
    let e : a + suc n ≡ a + 1 + n = omega arith in
    rw e (ap (λ b. p a && b) (all_range_more p (a + 1) n) ∙ and_assoc (p a) (list_all p (range_with_len (a + 1) n)) (p (a + 1 + n)))

pub all_range : (p : ℕ → Bool) (n : ℕ) → list_all p (range_with_len 0 n) ≡ all_below n p
all_range p zero = refl
all_range p (suc n) = let e : 0 + n ≡ n = omega arith in all_range_more p 0 n ∙ ap₂ (λ a b. a && b) (all_range p n) (ap p e)

-- what `all` answers over the numbers below n
pub all_from_range : {F : Type 0} {g : Mut F (ℕ × Unit {0}) Bool} {s : Range ℕ} (p : ℕ → Bool) (n : ℕ) (u : Range ℕ) (f : F) (r : Bool) → (xs : List ℕ) × (o : Option ℕ) × (j : F) × YieldsThen nat_range_steps s xs o u × FoldsTo (λ p x q. Called g p (x, tt) true q) f xs j × MatchOption o (r ≡ true) (λ x. (r ≡ false) × ((h : F) × Called g j (x, tt) false h)) → s ≡ record { start = 0; end = n } → ((x : ℕ) (b : Bool) (q : F) → Called g f (x, tt) b q → (q ≡ f) × (b ≡ p x)) → r ≡ all_below n p
all_from_range p n u f r ran e h = all_from_yields_List p u f r ran (YieldsList-from_range 0 n n e (omega arith)) h ∙ all_range p n

-- what `find` answers over the numbers below n, where it looks for one that fails the test
pub failing_from_range : {F : Type 0} {g : Mut F (Bor ℕ × Unit {0}) Bool} {s : Range ℕ} (p : ℕ → Bool) (n : ℕ) (u : Range ℕ) (f : F) (r : Option ℕ) → (xs : List ℕ) × (j : F) × YieldsThen nat_range_steps s xs r u × FoldsTo (λ p x q. CalledAt g p x false q) f xs j × MatchOption r ⊤ (λ x. (h : F) × CalledAt g j x true h) → s ≡ record { start = 0; end = n } → ((x : ℕ) (b : Bool) (q : F) → CalledAt g f x b q → (q ≡ f) × (b ≡ not (p x))) → r ≡ first_failing n p
failing_from_range {s = s} p n u f r ran e h =
    found r (subst (λ (k : Range ℕ). Found k r) e (first_from_Range s u f r (λ k. p k ≡ false) (λ k. p k ≡ true) ran (λ x q c. fails (p x) (h x true q c).1) (λ x q c. ((h x false q c).0, passes (p x) (h x false q c).1))))
  where
    Found : Range ℕ → Option ℕ → Type 0
    Found k o = MatchOption o ((i : ℕ) → k.start ≤ i → i < k.end → p i ≡ true) (λ i. (k.start ≤ i) × (i < k.end) × (p i ≡ false) × ((j : ℕ) → k.start ≤ j → j < i → p j ≡ true))

    fails : (b : Bool) → true ≡ not b → b ≡ false
    fails true e = cc
    fails false e = refl

    passes : (b : Bool) → false ≡ not b → b ≡ true
    passes true e = refl
    passes false e = cc

    found : (o : Option ℕ) → Found (record { start = 0; end = n }) o → o ≡ first_failing n p
    found None k = sym (passing_from p n (below_from n p (λ i l. k i (omega arith) l)))
    found (Some i) k = sym (fails_at p n i k.1 (passing_from p i (below_from i p (λ j l. k.3 j (omega arith) l))) k.2)

-- what holds of each element that `from_fn` makes
pub each_from_fn : {F B : Type 0} {g : Mut F (ℕ × Unit {0}) B} (P : ℕ → B → Type 0) (f : F) (ys : List B) (n : ℕ) → IsFromFnResult g f ys n → ((x : ℕ) (y : B) (q : F) → Called g f (x, tt) y q → (q ≡ f) × P x y) → (k : ℕ) (d : B) → k < n → P k (slice_index_or ys k d)
each_from_fn {F} {B} {g} P f ys n made gives k d l = go n 0 made.each k (omega arith) (omega arith)
  where
    go : (m i : ℕ) → IsFromFnResultFrom g f ys i m → (k : ℕ) → i ≤ k → k < i + m → P k (slice_index_or ys k d)
    go zero i each k a b = absurd (omega arith)
    go (suc m) i each k a b =
        let told = gives i each.1 each.0 each.3 in
        ⊎_elim
        (λ same. subst (λ (j : ℕ). P j (slice_index_or ys j d)) (sym same) (subst (P i) (sym (each.2.1 d)) told.1))
        (λ apart. go m (i + 1) (subst (λ (w : F). IsFromFnResultFrom g w ys (i + 1) m) told.0 each.4) k (omega arith) (omega arith))
        (cases_eq k i)

-- what `from_fn` fills at each number below n
pub filled_from_fn : {F B : Type 0} {g : Mut F (ℕ × Unit {0}) B} (h : ℕ → B) (f : F) (ys : List B) (n : ℕ) → IsFromFnResult g f ys n → ((x : ℕ) (y : B) (q : F) → Called g f (x, tt) y q → (q ≡ f) × (y ≡ h x)) → (k : ℕ) (d : B) → k < n → slice_index_or ys k d ≡ h k
filled_from_fn h = each_from_fn (λ k y. y ≡ h k)

-- the same of every number, where h is d from n on
module _ {F B : Type 0} {g : Mut F (ℕ × Unit {0}) B} (h : ℕ → B) (d : B) (f : F) (ys : List B) (n : ℕ) (made : IsFromFnResult g f ys n) (gives : (x : ℕ) (y : B) (q : F) → Called g f (x, tt) y q → (q ≡ f) × (y ≡ h x)) (past : (k : ℕ) → n ≤ k → h k ≡ d) where
  pub filled_at : (k : ℕ) → slice_index_or ys k d ≡ h k
  filled_at k = ⊎_elim (λ l. filled_from_fn h f ys n made gives k d l) (λ l. get_or_past ys k d (omega (arith, made.long)) ∙ sym (past k l)) (cases_lt k n)

  pub filled_reads : (λ k. slice_index_or ys k d) ≡ h
  filled_reads = fun_ext filled_at

length_kept : (p : ℕ → Bool) (k : ℕ) (rest : List ℕ) (b : Bool) → length (cond b (k ∷ rest) rest) ≡ cond b 1 0 + length rest
length_kept p k rest true = omega arith
length_kept p k rest false = omega arith

kept_range_more : (p : ℕ → Bool) (a n : ℕ) → length (filter p (range_with_len a (suc n))) ≡ cond (p (a + n)) 1 0 + length (filter p (range_with_len a n))
kept_range_more p a zero = let e : a + 0 ≡ a = omega arith in rw e (length_kept p a [] (p a))
kept_range_more p a (suc n) =
    let e : a + suc n ≡ a + 1 + n = omega arith in
    let more = kept_range_more p (a + 1) n in
    let first = length_kept p a (filter p (range_with_len (a + 1) (suc n))) (p a) in
    let fewer = length_kept p a (filter p (range_with_len (a + 1) n)) (p a) in
    rw e (omega arith)

kept_range : (p : ℕ → Bool) (n : ℕ) → length (filter p (range_with_len 0 n)) ≡ count_below n p
kept_range p zero = refl
kept_range p (suc n) = let e : 0 + n ≡ n = omega arith in kept_range_more p 0 n ∙ ap₂ (λ j k. cond (p j) 1 0 + k) e (kept_range p n)

-- what `count` answers after `filter` over the numbers below n
pub counted_from_range : {F : Type 0} {g : Mut F (Bor ℕ × Unit {0}) Bool} {s : Filter (Range ℕ) F} (p : ℕ → Bool) (n : ℕ) {f : F} (r : ℕ) → ((xs : List ℕ) × Drains (filter_steps nat_range_steps g) s xs × (r ≡ length xs)) → filter_source s ≡ record { start = 0; end = n } → filter_callee s ≡ f → ((x : ℕ) (b : Bool) (q : F) → CalledAt g f x b q → (q ≡ f) × (b ≡ p x)) → r ≡ count_below n p
counted_from_range {s = s} p n r ran source callee h = count_from_yields_List s r ran (YieldsList-from_filter _ p (YieldsList-from_range 0 n n source (omega arith)) callee h) ∙ kept_range p n
