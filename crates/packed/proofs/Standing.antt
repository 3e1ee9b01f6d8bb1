-- Bytes that stand at a place of a file, and the records that are read there.
use Rattle.std.proofs.Common.{◌≡◌, ℕ, zero, suc, ◌+◌, ◌*◌, ◌/◌, ◌%◌, ◌^◌, ◌<◌, ◌≤◌, true, List, [], ◌∷◌, ◌++◌, length, get_or, Some, None, Option, sym, refl, ap, ◌∙◌, subst, ⊎_elim, add_assoc, div-add-mod', zero-add, add-one, arith}
use Rattle.std.proofs.lemmas.List.{length-append, get_or_append_left, get_or-append-add}
use Rattle.std.proofs.lemmas.Bool.{lt-ltb, cases_eq}
use Rattle.packed.specs.Records.{word, fact_variable, fact_value, fact_spare}
use Rattle.packed.specs.Decoding.{fact_for, fact_record, looked_up, ascends}
use Rattle.packed.specs.Packing.{bytes_of, in_turn, fact_bytes, facts_bytes, fact_count}
use Rattle.tasks.proofs.Firsts.{or_skip}
use Rattle.packed.proofs.Words.{length_bytes, fact_fields}
use Rattle.packed.proofs.Turns.{count_skip, count_one, length_facts}
use Rattle.packed.proofs.Unpacking.{fact_for_here, fact_for_apart, or_last}

pub record Stands (bs : List ℕ) (place : ℕ) (seg : List ℕ) : Type 0 where
  pub fits : place + length seg ≤ length bs
  pub reads : (j : ℕ) → j < length seg → get_or bs (place + j) 0 ≡ get_or seg j 0

pub stands_all : (bs : List ℕ) → Stands bs 0 bs
stands_all bs = record { fits = omega arith; reads = λ j l. ap (λ (k : ℕ). get_or bs k 0) (zero-add j) }

pub stands_left : (bs : List ℕ) (place : ℕ) (xs ys : List ℕ) → Stands bs place (xs ++ ys) → Stands bs place xs
stands_left bs place xs ys h = record {
  fits = let e = length-append xs ys in let l = h.fits in omega (arith, e, l);
  reads = λ j l. h.reads j (let e = length-append xs ys in omega (arith, e)) ∙ get_or_append_left xs ys 0 j l;
}

pub stands_right : (bs : List ℕ) (place : ℕ) (xs ys : List ℕ) → Stands bs place (xs ++ ys) → Stands bs (place + length xs) ys
stands_right bs place xs ys h = record {
  fits = let e = length-append xs ys in let l = h.fits in omega (arith, e, l);
  reads = λ j l. ap (λ (k : ℕ). get_or bs k 0) (add_assoc place (length xs) j) ∙ h.reads (length xs + j) (let e = length-append xs ys in omega (arith, e)) ∙ get_or-append-add xs ys j 0;
}

pub stands_turn : (bs : List ℕ) (place n : ℕ) (f : ℕ → List ℕ) (i : ℕ) → i < n → Stands bs place (in_turn n f) → Stands bs (place + length (in_turn i f)) (f i)
stands_turn bs place zero f i l h = absurd (omega arith)
stands_turn bs place (suc n) f i l h =
    ⊎_elim
    (λ same. subst (λ (k : ℕ). Stands bs (place + length (in_turn k f)) (f k)) (sym same) (stands_right bs place (in_turn n f) (f n) h))
    (λ apart. stands_turn bs place n f i (omega arith) (stands_left bs place (in_turn n f) (f n) h))
    (cases_eq i n)

-- what is left of a number past k bytes
abbrev over : ℕ → ℕ → ℕ
over zero n = n
over (suc k) n = over k (n / 256)

word_back : (bs : List ℕ) (place k n : ℕ) → over k n ≡ 0 → Stands bs place (bytes_of k n) → word bs place k ≡ n
word_back bs place zero n e h = sym e
word_back bs place (suc k) n e h =
    ap (λ (m : ℕ). m * 256 + get_or bs (place + k) 0) (word_back bs place k (n / 256) e (stands_left bs place (bytes_of k (n / 256)) (n % 256 ∷ []) h))
    ∙ ap (λ (b : ℕ). n / 256 * 256 + b) (ap (λ (j : ℕ). get_or bs j 0) (there (length (bytes_of k (n / 256))) (length_bytes k (n / 256))) ∙ (stands_right bs place (bytes_of k (n / 256)) (n % 256 ∷ []) h).reads 0 (omega arith))
    ∙ div-add-mod' n 256
  where
    there : (m : ℕ) → m ≡ k → place + k ≡ place + m + 0
    there m e = omega arith

pub word_back_2 : (bs : List ℕ) (place n : ℕ) → n < 2 ^ 16 → Stands bs place (bytes_of 2 n) → word bs place 2 ≡ n
word_back_2 bs place n l h = word_back bs place 2 n (omega arith) h

pub word_back_3 : (bs : List ℕ) (place n : ℕ) → n < 2 ^ 24 → Stands bs place (bytes_of 3 n) → word bs place 3 ≡ n
word_back_3 bs place n l h = word_back bs place 3 n (omega arith) h

pub word_back_4 : (bs : List ℕ) (place n : ℕ) → n < 2 ^ 32 → Stands bs place (bytes_of 4 n) → word bs place 4 ≡ n
word_back_4 bs place n l h = word_back bs place 4 n (omega arith) h

-- fact k from a place on is one of f, of a variable below n
pub record FactStands (bs : List ℕ) (place n : ℕ) (f : ℕ → Option ℕ) (k : ℕ) : Type 0 where
  pub inside : place + 2 * k + 2 ≤ length bs
  pub spare : fact_spare (fact_record bs place k) ≡ 0
  pub below : fact_variable (fact_record bs place k) < n
  pub order : ascends bs place k ≡ true
  pub asked : f (fact_variable (fact_record bs place k)) ≡ Some (fact_value (fact_record bs place k))

-- and c facts from there on are all of them
pub record FactsStand (bs : List ℕ) (place n c : ℕ) (f : ℕ → Option ℕ) : Type 0 where
  pub found : (v : ℕ) → v < n → looked_up bs place c v ≡ f v
  pub missing : (v : ℕ) → n ≤ v → looked_up bs place c v ≡ None
  pub each : (k : ℕ) → k < c → FactStands bs place n f k

module _ (bs : List ℕ) (place n : ℕ) (f : ℕ → Option ℕ) where
  weaker : (k : ℕ) → FactStands bs place n f k → FactStands bs place (suc n) f k
  weaker k h = record { inside = h.inside; spare = h.spare; below = more _ h.below; order = h.order; asked = h.asked }
    where
      more : (m : ℕ) → m < n → m < suc n
      more m l = omega arith

  none_next : (c : ℕ) → f n ≡ None → FactsStand bs place n c f → FactsStand bs place (suc n) c f
  none_next c e h = record {
    found = λ v l. ⊎_elim (λ same. h.missing v (omega arith) ∙ sym (subst (λ (k : ℕ). f k ≡ None) (sym same) e)) (λ apart. h.found v (omega arith)) (cases_eq v n);
    missing = λ v l. h.missing v (omega arith);
    each = λ k l. weaker k (h.each k l);
  }

  some_next : (c x : ℕ) → n < 32 → x < 64 → f n ≡ Some x → Stands bs (place + 2 * c) (bytes_of 2 (n * 2 ^ 11 + x * 2 ^ 5)) → FactsStand bs place n c f → FactsStand bs place (suc n) (suc c) f
  some_next c x few small e s h = record {
    found = λ v l. ⊎_elim (here v) (λ apart. skip v apart ∙ h.found v (omega arith)) (cases_eq v n);
    missing = λ v l. skip v (λ same. omega arith) ∙ h.missing v (omega arith);
    each = λ k l. ⊎_elim (λ same. subst (λ (j : ℕ). FactStands bs place (suc n) f j) (sym same) new) (λ apart. weaker k (h.each k (omega arith))) (cases_eq k c);
  }
    where
      fields : (fact_variable (n * 2 ^ 11 + x * 2 ^ 5) ≡ n) × (fact_value (n * 2 ^ 11 + x * 2 ^ 5) ≡ x) × (fact_spare (n * 2 ^ 11 + x * 2 ^ 5) ≡ 0) × (n * 2 ^ 11 + x * 2 ^ 5 < 2 ^ 16)
      fields = fact_fields n x few small

      number : fact_record bs place c ≡ n * 2 ^ 11 + x * 2 ^ 5
      number = word_back_2 bs (place + 2 * c) (n * 2 ^ 11 + x * 2 ^ 5) fields.3 s

      variable : fact_variable (fact_record bs place c) ≡ n
      variable = ap fact_variable number ∙ fields.0

      value : fact_value (fact_record bs place c) ≡ x
      value = ap fact_value number ∙ fields.1

      skip : (v : ℕ) → (v ≡ n → ⊥) → looked_up bs place (suc c) v ≡ looked_up bs place c v
      skip v apart = or_last (looked_up bs place c v) (fact_for v (fact_record bs place c)) (fact_for_apart (fact_record bs place c) v (λ q. apart (sym q ∙ variable)))

      here : (v : ℕ) → v ≡ n → looked_up bs place (suc c) v ≡ f v
      here v same =
          or_skip (looked_up bs place c v) (fact_for v (fact_record bs place c)) (h.missing v (omega arith))
          ∙ fact_for_here (fact_record bs place c) v (variable ∙ sym same)
          ∙ ap (λ (y : ℕ). Some y) value
          ∙ sym e
          ∙ ap f (sym same)

      below : (m : ℕ) → m ≡ n → m < suc n
      below m d = omega arith

      ordered : (c : ℕ) → fact_variable (fact_record bs place c) ≡ n → ((k : ℕ) → k < c → fact_variable (fact_record bs place k) < n) → ascends bs place c ≡ true
      ordered zero d g = refl
      ordered (suc k) d g = lt-ltb (fact_variable (fact_record bs place k)) (fact_variable (fact_record bs place (suc k))) (subst (λ (m : ℕ). fact_variable (fact_record bs place k) < m) (sym d) (g k (omega arith)))

      new : FactStands bs place (suc n) f c
      new = record {
        inside = s.fits;
        spare = ap fact_spare number ∙ fields.2;
        below = below _ variable;
        order = ordered c variable (λ k l. (h.each k l).below);
        asked = ap f variable ∙ e ∙ ap (λ (y : ℕ). Some y) (sym value);
      }

pub facts_stand : (bs : List ℕ) (place n : ℕ) (f : ℕ → Option ℕ) → n ≤ 32 → ((v x : ℕ) → f v ≡ Some x → x < 64) → Stands bs place (facts_bytes n f) → FactsStand bs place n (fact_count n f) f
facts_stand bs place zero f few small s = record { found = λ v l. absurd (omega arith); missing = λ v l. refl; each = λ k l. absurd (omega arith) }
facts_stand bs place (suc n) f few small s =
    go (f n) refl (stands_right bs place (facts_bytes n f) (fact_bytes n (f n)) s) (facts_stand bs place n f (omega arith) small (stands_left bs place (facts_bytes n f) (fact_bytes n (f n)) s))
  where
    go : (o : Option ℕ) → f n ≡ o → Stands bs (place + length (facts_bytes n f)) (fact_bytes n o) → FactsStand bs place n (fact_count n f) f → FactsStand bs place (suc n) (fact_count (suc n) f) f
    go None e last h = subst (λ (c : ℕ). FactsStand bs place (suc n) c f) (sym (count_skip n f e)) (none_next bs place n f (fact_count n f) e h)
    go (Some x) e last h =
        subst (λ (c : ℕ). FactsStand bs place (suc n) c f) (sym (count_one n x f e ∙ add-one (fact_count n f)))
        (some_next bs place n f (fact_count n f) x (omega arith) (small n x e) e (subst (λ (m : ℕ). Stands bs (place + m) (bytes_of 2 (n * 2 ^ 11 + x * 2 ^ 5))) (length_facts n f) last) h)
