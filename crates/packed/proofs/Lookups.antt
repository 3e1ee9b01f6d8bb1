-- What the facts of a file give to a variable, and where an accepted file has room.
use Rattle.std.proofs.Common.{◌≡◌, ℕ, zero, suc, ◌+◌, ◌≤◌, Bool, true, false, cond, eqb, ltb, List, [], ◌∷◌, ◌++◌, length, map, Some, None, Option, sym, refl, ap, ap₂, subst, ◌∙◌, arith, add-one}
use Rattle.std.specs.List.{find, range_with_len}
use Rattle.std.specs.Option.{IfSome, option_map, option_or}
use Rattle.std.proofs.lemmas.Bool.{ltb-true, cond-false, cond_both, ne_eqb}
use Rattle.std.proofs.lemmas.List.Folds.{find-append}
use Rattle.std.proofs.lemmas.List.FromFn.{map-range_with_len_more}
use Rattle.packed.specs.Records.{fact_variable, fact_value}
use Rattle.packed.specs.Decoding.{fact_for, fact_record, looked_up, actions, action_at, past_action}
use Rattle.packed.specs.Accepted.{Accepted}
use Rattle.tasks.proofs.Firsts.{or_else, none_more}

joined : (h : ℕ → ℕ) (o q : Option ℕ) → option_map h (option_or o q) ≡ or_else (option_map h o) (option_map h q)
joined h (Some x) q = refl
joined h None q = refl

chosen_value : (b : Bool) (h : ℕ → ℕ) (n : ℕ) → option_map h (cond b (Some n) None) ≡ cond b (Some (h n)) None
chosen_value true h n = refl
chosen_value false h n = refl

-- the value of the first of so many facts that is of the variable
pub found_fact : (bs : List ℕ) (place v count : ℕ) → option_map fact_value (find (λ n. eqb (fact_variable n) v) (map (fact_record bs place) (range_with_len 0 count))) ≡ looked_up bs place count v
found_fact bs place v zero = refl
found_fact bs place v (suc k) =
    let test = λ (n : ℕ). eqb (fact_variable n) v in
    let read = fact_record bs place in
    let more : map read (range_with_len 0 (suc k)) ≡ map read (range_with_len 0 k) ++ (read k ∷ []) = ap (λ (n : ℕ). map read (range_with_len 0 n)) (sym (add-one k)) ∙ map-range_with_len_more read 0 k k (omega arith) in
    ap (λ (ns : List ℕ). option_map fact_value (find test ns)) more
    ∙ ap (option_map fact_value) (find-append test (map read (range_with_len 0 k)) (read k ∷ []))
    ∙ joined fact_value (find test (map read (range_with_len 0 k))) (find test (read k ∷ []))
    ∙ ap₂ or_else (found_fact bs place v k) (chosen_value (test (read k)) fact_value (read k))

-- the records of an accepted file's actions end inside it
pub place_inside : (bs : List ℕ) → Accepted bs → (a : ℕ) (o : Option ℕ) → o ≡ cond (ltb a (actions bs)) (Some (action_at bs a)) None → IfSome o (λ p. past_action bs p ≤ length bs)
place_inside bs h a o e =
    subst (λ (q : Option ℕ). IfSome q (λ p. past_action bs p ≤ length bs)) (sym e)
    (cond_both (ltb a (actions bs)) (Some (action_at bs a)) None (λ q. IfSome q (λ p. past_action bs p ≤ length bs)) (λ t. (h.action a (ltb-true a (actions bs) t)).past) (λ f. tt))

-- a fact of another variable gives none
pub other_fact : (bs : List ℕ) (place k v bits : ℕ) → looked_up bs place k v ≡ None → bits ≡ fact_record bs place k → (fact_variable bits ≡ v → ⊥) → looked_up bs place (k + 1) v ≡ None
other_fact bs place k v bits so_far is h =
    none_more k (λ j. fact_for v (fact_record bs place j)) so_far (ap (fact_for v) (sym is) ∙ cond-false (eqb (fact_variable bits) v) (Some (fact_value bits)) None (ne_eqb (fact_variable bits) v h))
