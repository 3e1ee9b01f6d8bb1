-- Lists one behind the other, and the facts of an action, variables ascending.
use Rattle.std.proofs.Common.{◌≡◌, ℕ, zero, suc, ◌+◌, ◌*◌, ◌^◌, ◌<◌, ◌≤◌, cond, List, [], ◌++◌, length, is_some, Some, None, Option, sym, refl, ap, ◌∙◌, subst, ⊎_elim, arith}
use Rattle.std.proofs.lemmas.List.{append-nil, length-append}
use Rattle.std.proofs.lemmas.Bool.{cases_eq}
use Rattle.packed.specs.Packing.{bytes_of, in_turn, fact_bytes, facts_bytes, fact_count}

pub in_turn_same : (n : ℕ) (f g : ℕ → List ℕ) → ((v : ℕ) → v < n → f v ≡ g v) → in_turn n f ≡ in_turn n g
in_turn_same zero f g h = refl
in_turn_same (suc n) f g h = ap (λ (xs : List ℕ). xs ++ f n) (in_turn_same n f g (λ v l. h v (omega arith))) ∙ ap (λ (xs : List ℕ). in_turn n g ++ xs) (h n (omega arith))

-- lists of one length
pub length_in_turn : (n k : ℕ) (f : ℕ → List ℕ) → ((v : ℕ) → length (f v) ≡ k) → length (in_turn n f) ≡ k * n
length_in_turn zero k f h = omega arith
length_in_turn (suc n) k f h = length-append (in_turn n f) (f n) ∙ ap (λ (m : ℕ). m + length (f n)) (length_in_turn n k f h) ∙ ap (λ (m : ℕ). k * n + m) (h n) ∙ omega arith

pub facts_same : (n : ℕ) (f g : ℕ → Option ℕ) → ((v : ℕ) → v < n → f v ≡ g v) → facts_bytes n f ≡ facts_bytes n g
facts_same n f g h = in_turn_same n (λ v. fact_bytes v (f v)) (λ v. fact_bytes v (g v)) (λ v l. ap (fact_bytes v) (h v l))

one_if : Option ℕ → ℕ
one_if o = cond (is_some o) 1 0

pub count_same : (n : ℕ) (f g : ℕ → Option ℕ) → ((v : ℕ) → v < n → f v ≡ g v) → fact_count n f ≡ fact_count n g
unfolding one_if
count_same zero f g h = refl
count_same (suc n) f g h = ap (λ (m : ℕ). m + one_if (f n)) (count_same n f g (λ v l. h v (omega arith))) ∙ ap (λ (o : Option ℕ). fact_count n g + one_if o) (h n (omega arith))

-- a variable with no fact, and one with a fact
pub facts_skip : (n : ℕ) (f : ℕ → Option ℕ) → f n ≡ None → facts_bytes (suc n) f ≡ facts_bytes n f
facts_skip n f e = ap (λ (o : Option ℕ). facts_bytes n f ++ fact_bytes n o) e ∙ append-nil (facts_bytes n f)

pub count_skip : (n : ℕ) (f : ℕ → Option ℕ) → f n ≡ None → fact_count (suc n) f ≡ fact_count n f
unfolding one_if
count_skip n f e = ap (λ (o : Option ℕ). fact_count n f + one_if o) e ∙ omega arith

pub facts_one : (n x : ℕ) (f : ℕ → Option ℕ) → f n ≡ Some x → facts_bytes (suc n) f ≡ facts_bytes n f ++ bytes_of 2 (n * 2 ^ 11 + x * 2 ^ 5)
facts_one n x f e = ap (λ (o : Option ℕ). facts_bytes n f ++ fact_bytes n o) e

pub count_one : (n x : ℕ) (f : ℕ → Option ℕ) → f n ≡ Some x → fact_count (suc n) f ≡ fact_count n f + 1
unfolding one_if
count_one n x f e = ap (λ (o : Option ℕ). fact_count n f + one_if o) e

pub facts_none : (n : ℕ) (f : ℕ → Option ℕ) → ((v : ℕ) → f v ≡ None) → facts_bytes n f ≡ []
facts_none zero f h = refl
facts_none (suc n) f h = facts_skip n f (h n) ∙ facts_none n f h

pub count_none : (n : ℕ) (f : ℕ → Option ℕ) → ((v : ℕ) → f v ≡ None) → fact_count n f ≡ 0
count_none zero f h = refl
count_none (suc n) f h = count_skip n f (h n) ∙ count_none n f h

pub count_most : (n : ℕ) (f : ℕ → Option ℕ) → fact_count n f ≤ n
count_most zero f = omega arith
count_most (suc n) f = go (f n) refl (count_most n f)
  where
    go : (o : Option ℕ) → f n ≡ o → fact_count n f ≤ n → fact_count (suc n) f ≤ suc n
    go None e l = let c = count_skip n f e in omega (arith, c)
    go (Some x) e l = let c = count_one n x f e in omega (arith, c)

pub length_facts : (n : ℕ) (f : ℕ → Option ℕ) → length (facts_bytes n f) ≡ 2 * fact_count n f
length_facts zero f = refl
length_facts (suc n) f = go (f n) refl (length_facts n f)
  where
    go : (o : Option ℕ) → f n ≡ o → length (facts_bytes n f) ≡ 2 * fact_count n f → length (facts_bytes (suc n) f) ≡ 2 * fact_count (suc n) f
    go None e l = ap length (facts_skip n f e) ∙ l ∙ ap (λ (m : ℕ). 2 * m) (sym (count_skip n f e))
    go (Some x) e l =
        ap length (facts_one n x f e)
        ∙ length-append (facts_bytes n f) (bytes_of 2 (n * 2 ^ 11 + x * 2 ^ 5))
        ∙ ap (λ (m : ℕ). m + 2) l
        ∙ double (fact_count n f)
        ∙ ap (λ (m : ℕ). 2 * m) (sym (count_one n x f e))
      where
        double : (m : ℕ) → 2 * m + 2 ≡ 2 * (m + 1)
        double m = omega arith

-- g has the facts of f, and one more, of a variable past all of theirs
pub record OneMore (w x : ℕ) (f g : ℕ → Option ℕ) : Type 0 where
  pub here : g w ≡ Some x
  pub apart : (v : ℕ) → (v ≡ w → ⊥) → g v ≡ f v
  pub past : (v : ℕ) → w ≤ v → f v ≡ None

pub facts_more : (n w x : ℕ) (f g : ℕ → Option ℕ) → w < n → OneMore w x f g → facts_bytes n g ≡ facts_bytes n f ++ bytes_of 2 (w * 2 ^ 11 + x * 2 ^ 5)
facts_more zero w x f g l h = absurd (omega arith)
facts_more (suc n) w x f g l h =
    ⊎_elim
    (λ same.
    facts_one n x g (subst (λ (k : ℕ). g k ≡ Some x) same h.here)
    ∙ ap (λ (xs : List ℕ). xs ++ bytes_of 2 (n * 2 ^ 11 + x * 2 ^ 5)) (facts_same n g f (λ v k. h.apart v (λ e. omega arith)) ∙ sym (facts_skip n f (h.past n (omega arith))))
    ∙ ap (λ (k : ℕ). facts_bytes (suc n) f ++ bytes_of 2 (k * 2 ^ 11 + x * 2 ^ 5)) (sym same))
    (λ apart.
    facts_skip n g (h.apart n (λ e. omega arith) ∙ h.past n (omega arith))
    ∙ facts_more n w x f g (omega arith) h
    ∙ ap (λ (xs : List ℕ). xs ++ bytes_of 2 (w * 2 ^ 11 + x * 2 ^ 5)) (sym (facts_skip n f (h.past n (omega arith)))))
    (cases_eq w n)

pub count_more : (n w x : ℕ) (f g : ℕ → Option ℕ) → w < n → OneMore w x f g → fact_count n g ≡ fact_count n f + 1
count_more zero w x f g l h = absurd (omega arith)
count_more (suc n) w x f g l h =
    ⊎_elim
    (λ same.
    count_one n x g (subst (λ (k : ℕ). g k ≡ Some x) same h.here)
    ∙ ap (λ (k : ℕ). k + 1) (count_same n g f (λ v k. h.apart v (λ e. omega arith)) ∙ sym (count_skip n f (h.past n (omega arith)))))
    (λ apart.
    count_skip n g (h.apart n (λ e. omega arith) ∙ h.past n (omega arith))
    ∙ count_more n w x f g (omega arith) h
    ∙ ap (λ (k : ℕ). k + 1) (sym (count_skip n f (h.past n (omega arith)))))
    (cases_eq w n)
