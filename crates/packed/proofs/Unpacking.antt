-- An accepted file is the packing of the task that it decodes to.
use Rattle.std.proofs.Common.{◌≡◌, ℕ, zero, suc, ◌+◌, ◌*◌, ◌<◌, ◌≤◌, true, eqb, ltb, List, ◌++◌, get_or, take, Some, None, Option, sym, refl, ap, ◌∙◌, subst, ⊎_elim, lt_trans, le_of_eq, le_refl, arith}
use native.Mathlib.Nat.{le_of_suc-le}
use Rattle.std.proofs.lemmas.List.{append-nil, append_assoc, take_all}
use Rattle.std.proofs.lemmas.Bool.{ltb-true, lt-ltb, le-ltb, eq-eqb, ne_eqb, cases_eq, cond-true, cond-false, cond_both}
use Rattle.packed.specs.Records.{word, size_of, initial_of, goal_of, price_of, precondition_count, effect_count, fact_variable, fact_value}
use Rattle.packed.specs.Decoding.{fact_for, header, variables, actions, variable_at, variable_record, size, effects_at, past_action, action_at, action_record, fact_record, looked_up, preconditions, effects, decoded_task, decoded}
use Rattle.packed.specs.Packing.{bytes_of, in_turn, header_number, variable_number, action_number, facts_bytes, fact_count, variable_bytes, action_bytes, packing, Packs}
use Rattle.tasks.proofs.Firsts.{or_else, or_skip, none_from}
use Rattle.packed.specs.Accepted.{AcceptedFact, AcceptedVariable, AcceptedAction, Accepted}
use Rattle.packed.specs.LawfulFile.{size_in, lawful_decoded}
use Rattle.packed.proofs.Words.{word_small_2, word_small_3, word_small_4, word_next, header_sum, action_sum, fact_sum, variable_sum}
use Rattle.packed.proofs.Turns.{facts_same, count_same, facts_none, count_none, OneMore, facts_more, count_more}

pub fact_for_here : (n v : ℕ) → fact_variable n ≡ v → fact_for v n ≡ Some (fact_value n)
fact_for_here n v e = cond-true (eqb (fact_variable n) v) (Some (fact_value n)) None (eq-eqb (fact_variable n) v e)

pub fact_for_apart : (n v : ℕ) → (fact_variable n ≡ v → ⊥) → fact_for v n ≡ None
fact_for_apart n v e = cond-false (eqb (fact_variable n) v) (Some (fact_value n)) None (ne_eqb (fact_variable n) v e)

pub or_last : (o p : Option ℕ) → p ≡ None → or_else o p ≡ o
or_last None p e = e
or_last (Some x) p e = refl

-- the variables of facts ascend
pub earlier_below : (bs : List ℕ) (place n : ℕ) → ((k : ℕ) → k < n → AcceptedFact bs place k) → (k j : ℕ) → k < n → j < k → fact_variable (fact_record bs place j) < fact_variable (fact_record bs place k)
earlier_below bs place n h zero j l b = absurd (omega arith)
earlier_below bs place n h (suc k) j l b =
    ⊎_elim
    (λ same. subst (λ (i : ℕ). fact_variable (fact_record bs place i) < fact_variable (fact_record bs place (suc k))) (sym same) step)
    (λ apart. lt_trans (earlier_below bs place n h k j (omega arith) (omega arith)) step)
    (cases_eq j k)
  where
    step : fact_variable (fact_record bs place k) < fact_variable (fact_record bs place (suc k))
    step = ltb-true (fact_variable (fact_record bs place k)) (fact_variable (fact_record bs place (suc k))) (h (suc k) l).order

-- one fact more
looked_up_more : (bs : List ℕ) (place n : ℕ) → ((k : ℕ) → k < suc n → AcceptedFact bs place k) → OneMore (fact_variable (fact_record bs place n)) (fact_value (fact_record bs place n)) (looked_up bs place n) (looked_up bs place (suc n))
looked_up_more bs place n h = record {
  here = or_skip (looked_up bs place n (fact_variable (fact_record bs place n))) _ (past (fact_variable (fact_record bs place n)) (le_refl _)) ∙ fact_for_here (fact_record bs place n) _ refl;
  apart = λ v e. or_last (looked_up bs place n v) (fact_for v (fact_record bs place n)) (fact_for_apart (fact_record bs place n) v (λ q. e (sym q)));
  past = past;
}
  where
    other : (x w v : ℕ) → x < w → w ≤ v → x ≡ v → ⊥
    other x w v p q e = omega arith

    past : (v : ℕ) → fact_variable (fact_record bs place n) ≤ v → looked_up bs place n v ≡ None
    past v l = none_from n (λ k. fact_for v (fact_record bs place k)) (λ k b. fact_for_apart (fact_record bs place k) v (other _ _ v (earlier_below bs place (suc n) h n k (omega arith) b) l))

module _ (bs : List ℕ) (small : (k : ℕ) → get_or bs k 0 < 256) where
  -- so many facts from a place on, as bytes and as a number
  facts_read : (place n : ℕ) → ((k : ℕ) → k < n → AcceptedFact bs place k) → take (place + 2 * n) bs ≡ take place bs ++ facts_bytes (variables bs) (looked_up bs place n)
  facts_read place zero h =
      ap (λ (m : ℕ). take m bs) (none place)
      ∙ sym (append-nil (take place bs))
      ∙ ap (λ (xs : List ℕ). take place bs ++ xs) (sym (facts_none (variables bs) (looked_up bs place 0) (λ v. refl)))
    where
      none : (p : ℕ) → p + 2 * 0 ≡ p
      none p = omega arith
  facts_read place (suc n) h =
      ap (λ (m : ℕ). take m bs) (two place)
      ∙ word_next bs small (place + 2 * n) 2 (h n (omega arith)).inside
      ∙ ap (λ (xs : List ℕ). xs ++ bytes_of 2 (fact_record bs place n)) (facts_read place n (λ k l. h k (omega arith)))
      ∙ append_assoc (take place bs) (facts_bytes (variables bs) (looked_up bs place n)) (bytes_of 2 (fact_record bs place n))
      ∙ ap (λ (m : ℕ). take place bs ++ (facts_bytes (variables bs) (looked_up bs place n) ++ bytes_of 2 m)) (sym (fact_sum (fact_record bs place n) (word_small_2 bs small (place + 2 * n)) (h n (omega arith)).spare))
      ∙ ap (λ (xs : List ℕ). take place bs ++ xs) (sym (facts_more (variables bs) _ _ (looked_up bs place n) (looked_up bs place (suc n)) (h n (omega arith)).variable (looked_up_more bs place n h)))
    where
      two : (p : ℕ) → p + 2 * suc n ≡ p + 2 * n + 2
      two p = omega arith

  facts_counted : (place n : ℕ) → ((k : ℕ) → k < n → AcceptedFact bs place k) → fact_count (variables bs) (looked_up bs place n) ≡ n
  facts_counted place zero h = count_none (variables bs) (looked_up bs place 0) (λ v. refl)
  facts_counted place (suc n) h =
      count_more (variables bs) _ _ (looked_up bs place n) (looked_up bs place (suc n)) (h n (omega arith)).variable (looked_up_more bs place n h)
      ∙ ap (λ (m : ℕ). m + 1) (facts_counted place n (λ k l. h k (omega arith)))
      ∙ omega arith

  -- an action
  action_read : (place : ℕ) → AcceptedAction bs place → take (past_action bs place) bs ≡ take place bs ++ (bytes_of 4 (word bs place 4) ++ (facts_bytes (variables bs) (looked_up bs (place + 4) (precondition_count (word bs place 4))) ++ facts_bytes (variables bs) (looked_up bs (effects_at bs place) (effect_count (word bs place 4)))))
  action_read place h =
      facts_read (effects_at bs place) (effect_count (word bs place 4)) h.effects
      ∙ ap (λ (xs : List ℕ). xs ++ eff) (facts_read (place + 4) (precondition_count (word bs place 4)) h.preconditions)
      ∙ ap (λ (xs : List ℕ). (xs ++ pre) ++ eff) (word_next bs small place 4 h.inside)
      ∙ regroup (take place bs) (bytes_of 4 (word bs place 4)) pre eff
    where
      pre : List ℕ
      pre = facts_bytes (variables bs) (looked_up bs (place + 4) (precondition_count (word bs place 4)))

      eff : List ℕ
      eff = facts_bytes (variables bs) (looked_up bs (effects_at bs place) (effect_count (word bs place 4)))

      regroup : (a b c d : List ℕ) → ((a ++ b) ++ c) ++ d ≡ a ++ (b ++ (c ++ d))
      regroup a b c d = simp append_assoc

  action_is : (a : ℕ) → a < actions bs → AcceptedAction bs (action_at bs a) → action_bytes (decoded bs) a ≡ bytes_of 4 (action_record bs a) ++ (facts_bytes (variables bs) (preconditions bs a) ++ facts_bytes (variables bs) (effects bs a))
  action_is a l h =
      ap (λ (n : ℕ). bytes_of 4 n ++ (facts_bytes (variables bs) ((decoded_task bs).pre a) ++ facts_bytes (variables bs) ((decoded_task bs).eff a)))
      (parts _ _ _ _ _ _
      (cond-true (ltb a (actions bs)) (price_of (action_record bs a)) 0 live)
      (count_same (variables bs) ((decoded_task bs).pre a) (preconditions bs a) (λ v k. pre v) ∙ facts_counted (action_at bs a + 4) (precondition_count (action_record bs a)) h.preconditions)
      (count_same (variables bs) ((decoded_task bs).eff a) (effects bs a) (λ v k. eff v) ∙ facts_counted (effects_at bs (action_at bs a)) (effect_count (action_record bs a)) h.effects)
      ∙ action_sum (action_record bs a) (word_small_4 bs small (action_at bs a)) h.spare)
      ∙ ap (λ (xs : List ℕ). bytes_of 4 (action_record bs a) ++ (xs ++ facts_bytes (variables bs) ((decoded_task bs).eff a))) (facts_same (variables bs) ((decoded_task bs).pre a) (preconditions bs a) (λ v k. pre v))
      ∙ ap (λ (xs : List ℕ). bytes_of 4 (action_record bs a) ++ (facts_bytes (variables bs) (preconditions bs a) ++ xs)) (facts_same (variables bs) ((decoded_task bs).eff a) (effects bs a) (λ v k. eff v))
    where
      live : ltb a (actions bs) ≡ true
      live = lt-ltb a (actions bs) l

      pre : (v : ℕ) → (decoded_task bs).pre a v ≡ preconditions bs a v
      pre v = cond-true (ltb a (actions bs)) (preconditions bs a v) None live

      eff : (v : ℕ) → (decoded_task bs).eff a v ≡ effects bs a v
      eff v = cond-true (ltb a (actions bs)) (effects bs a v) None live

      parts : (p m n p' m' n' : ℕ) → p ≡ p' → m ≡ m' → n ≡ n' → action_number p m n ≡ action_number p' m' n'
      parts p m n p' m' n' d e f = omega arith

  variable_is : (v : ℕ) → v < variables bs → AcceptedVariable bs v → variable_bytes (decoded_task bs) v ≡ bytes_of 3 (variable_record bs v)
  variable_is v l h =
      ap (bytes_of 3)
      (ap (λ (n : ℕ). variable_number n ((decoded_task bs).init v) ((decoded_task bs).goal v)) (size_in bs v live)
      ∙ ap (λ (n : ℕ). variable_number (size_of (variable_record bs v)) n ((decoded_task bs).goal v)) (cond-true (ltb v (variables bs)) (initial_of (variable_record bs v)) 0 live)
      ∙ ap (λ (o : Option ℕ). variable_number (size_of (variable_record bs v)) (initial_of (variable_record bs v)) o) (cond-true (ltb v (variables bs)) (goal_of (variable_record bs v)) None live)
      ∙ variable_sum (variable_record bs v) (word_small_3 bs small (variable_at bs v)) h.spare h.fits)
    where
      live : ltb v (variables bs) ≡ true
      live = lt-ltb v (variables bs) l

  -- the bytes so far, in the order of the file
  header_read : Accepted bs → take 4 bs ≡ bytes_of 4 (header_number (variables bs) (actions bs))
  header_read h = word_next bs small 0 4 h.long ∙ ap (bytes_of 4) (sym (header_sum (header bs) (word_small_4 bs small 0) h.layout_is h.spare))

  variables_read : Accepted bs → (n : ℕ) → n ≤ variables bs → take (variable_at bs n) bs ≡ bytes_of 4 (header_number (variables bs) (actions bs)) ++ in_turn n (variable_bytes (decoded_task bs))
  variables_read h zero l = header_read h ∙ sym (append-nil (bytes_of 4 (header_number (variables bs) (actions bs))))
  variables_read h (suc n) l =
      ap (λ (m : ℕ). take m bs) (three n)
      ∙ word_next bs small (variable_at bs n) 3 (h.variable n l).inside
      ∙ ap (λ (xs : List ℕ). xs ++ bytes_of 3 (variable_record bs n)) (variables_read h n (le_of_suc-le l))
      ∙ append_assoc (bytes_of 4 (header_number (variables bs) (actions bs))) (in_turn n (variable_bytes (decoded_task bs))) (bytes_of 3 (variable_record bs n))
      ∙ ap (λ (xs : List ℕ). bytes_of 4 (header_number (variables bs) (actions bs)) ++ (in_turn n (variable_bytes (decoded_task bs)) ++ xs)) (sym (variable_is n l (h.variable n l)))
    where
      three : (n : ℕ) → 4 + 3 * suc n ≡ 4 + 3 * n + 3
      three n = omega arith

  actions_read : Accepted bs → (n : ℕ) → n ≤ actions bs → take (action_at bs n) bs ≡ bytes_of 4 (header_number (variables bs) (actions bs)) ++ (in_turn (variables bs) (variable_bytes (decoded_task bs)) ++ in_turn n (action_bytes (decoded bs)))
  actions_read h zero l =
      variables_read h (variables bs) (le_refl (variables bs))
      ∙ ap (λ (xs : List ℕ). bytes_of 4 (header_number (variables bs) (actions bs)) ++ xs) (sym (append-nil (in_turn (variables bs) (variable_bytes (decoded_task bs)))))
  actions_read h (suc n) l =
      action_read (action_at bs n) (h.action n l)
      ∙ ap (λ (xs : List ℕ). take (action_at bs n) bs ++ xs) (sym (action_is n l (h.action n l)))
      ∙ ap (λ (xs : List ℕ). xs ++ action_bytes (decoded bs) n) (actions_read h n (le_of_suc-le l))
      ∙ regroup (bytes_of 4 (header_number (variables bs) (actions bs))) (in_turn (variables bs) (variable_bytes (decoded_task bs))) (in_turn n (action_bytes (decoded bs))) (action_bytes (decoded bs) n)
    where
      regroup : (a b c d : List ℕ) → (a ++ (b ++ c)) ++ d ≡ a ++ (b ++ (c ++ d))
      regroup a b c d = simp append_assoc

  bytes_decoded : Accepted bs → packing (decoded bs) ≡ bs
  bytes_decoded h = sym (actions_read h (actions bs) (le_refl (actions bs))) ∙ take_all (action_at bs (actions bs)) bs (le_of_eq (sym h.end))

  pub decoded_packs : Accepted bs → Packs (decoded bs) bs
  decoded_packs h = record {
    lawful = lawful_decoded bs h;
    all_live = record {
      variables = λ v l. lt-ltb v (variables bs) l;
      values = λ v x l. lt-ltb x (size bs v) l;
      actions = λ a l. lt-ltb a (actions bs) l;
    };
    prices = record {
      fit = λ a. cond_both (ltb a (actions bs)) (price_of (action_record bs a)) 0 (λ k. k < 65536) (λ e. price_most (action_record bs a)) (λ e. omega arith);
      none = λ a l. cond-false (ltb a (actions bs)) (price_of (action_record bs a)) 0 (le-ltb a (actions bs) l);
    };
    short = h.short;
    bytes_are = bytes_decoded h;
  }
    where
      price_most : (n : ℕ) → price_of n < 65536
      price_most n = omega arith
