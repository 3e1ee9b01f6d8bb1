-- What an accepted file shows, as facts and not as tests.
use Rattle.std.specs.Prelude.{◌≡◌, ℕ, zero, suc, ◌+◌, ◌*◌, ◌<◌, ◌≤◌, true, false, not, ◌&&◌, ◌||◌, List, length, is_some, Some, None, Option, ◌==◌, nat_lt, refl}
use Rattle.std.proofs.Common.{◌∙◌, arith}
use Rattle.std.proofs.lemmas.Bool.{true≢false, ltb-true, ltb-false, eqb-true, lt-ltb, le-ltb, eq-eqb, not-false, not_from_true, and_parts, and_from, or_parts, or_from}
use Rattle.tasks.specs.declared.refusal.Refusal.{Refusal}
use Rattle.tasks.proofs.Refusing.{pass, pass_from}
use Rattle.packed.specs.Records.{word, layout, header_spare, variable_spare, precondition_count, effect_count, action_spare, fact_variable, fact_value, fact_spare, values_fit}
use Rattle.tasks.specs.Bounds.{first_some}
use Rattle.packed.specs.Decoding.{header, variables, actions, variable_at, variable_record, size, effects_at, past_action, action_at, fact_record, header_refusal, variable_refusal, ascends, fact_refusal, facts_refusal, start_refusal, action_refusal, actions_refusal, refusal}
use Rattle.tasks.proofs.Firsts.{or_none, or_skip, none_at, none_from}

pub record AcceptedHeader (bs : List ℕ) : Type 0 where
  pub long : 4 ≤ length bs
  pub short : length bs ≤ 65536
  pub layout_is : layout (header bs) ≡ 1
  pub few_variables : variables bs ≤ 32
  pub few_actions : actions bs ≤ 512
  pub spare : header_spare (header bs) ≡ 0

pub record AcceptedVariable (bs : List ℕ) (v : ℕ) : Type 0 where
  pub inside : variable_at bs v + 3 ≤ length bs
  pub spare : variable_spare (variable_record bs v) ≡ 0
  pub fits : values_fit (variable_record bs v) ≡ true

pub record AcceptedFact (bs : List ℕ) (place k : ℕ) : Type 0 where
  pub inside : place + 2 * k + 2 ≤ length bs
  pub spare : fact_spare (fact_record bs place k) ≡ 0
  pub variable : fact_variable (fact_record bs place k) < variables bs
  pub order : ascends bs place k ≡ true
  pub value : fact_value (fact_record bs place k) < size bs (fact_variable (fact_record bs place k))

pub record AcceptedAction (bs : List ℕ) (place : ℕ) : Type 0 where
  pub inside : place + 4 ≤ length bs
  pub spare : action_spare (word bs place 4) ≡ 0
  pub preconditions : (k : ℕ) → k < precondition_count (word bs place 4) → AcceptedFact bs (place + 4) k
  pub effects : (k : ℕ) → k < effect_count (word bs place 4) → AcceptedFact bs (effects_at bs place) k
  pub past : past_action bs place ≤ length bs

pub record Accepted (bs : List ℕ) : Type 0 where
  pub long : 4 ≤ length bs
  pub short : length bs ≤ 65536
  pub layout_is : layout (header bs) ≡ 1
  pub few_variables : variables bs ≤ 32
  pub few_actions : actions bs ≤ 512
  pub spare : header_spare (header bs) ≡ 0
  pub variable : (v : ℕ) → v < variables bs → AcceptedVariable bs v
  pub action : (a : ℕ) → a < actions bs → AcceptedAction bs (action_at bs a)
  pub end : action_at bs (actions bs) ≡ length bs

pub header_accepted : (bs : List ℕ) → header_refusal bs ≡ None → AcceptedHeader bs
header_accepted bs h =
    let p = pass (nat_lt (length bs) 4 || nat_lt 65536 (length bs)) _ _ h in
    let q = pass (not (layout (header bs) == 1)) _ _ p.1 in
    let r = pass (nat_lt 32 (variables bs) || nat_lt 512 (actions bs)) _ _ q.1 in
    let s = pass (not (header_spare (header bs) == 0)) _ _ r.1 in
    let lengths = or_parts (nat_lt (length bs) 4) (nat_lt 65536 (length bs)) p.0 in
    let counts = or_parts (nat_lt 32 (variables bs)) (nat_lt 512 (actions bs)) r.0 in
    record {
      long = ltb-false (length bs) 4 lengths.0;
      short = ltb-false 65536 (length bs) lengths.1;
      layout_is = eqb-true (layout (header bs)) 1 (not-false _ q.0);
      few_variables = ltb-false 32 (variables bs) counts.0;
      few_actions = ltb-false 512 (actions bs) counts.1;
      spare = eqb-true (header_spare (header bs)) 0 (not-false _ s.0);
    }

pub variable_accepted : (bs : List ℕ) (v : ℕ) → variable_refusal bs v ≡ None → AcceptedVariable bs v
variable_accepted bs v h =
    let a = pass (nat_lt (length bs) (variable_at bs v + 3)) _ _ h in
    let b = pass (not (variable_spare (variable_record bs v) == 0)) _ _ a.1 in
    let c = pass (not (values_fit (variable_record bs v))) _ _ b.1 in
    record {
      inside = ltb-false (length bs) (variable_at bs v + 3) a.0;
      spare = eqb-true (variable_spare (variable_record bs v)) 0 (not-false _ b.0);
      fits = not-false _ c.0;
    }

variable_passes : (bs : List ℕ) (v : ℕ) → AcceptedVariable bs v → variable_refusal bs v ≡ None
variable_passes bs v h =
    pass_from (nat_lt (length bs) (variable_at bs v + 3)) _ _ (le-ltb (length bs) (variable_at bs v + 3) h.inside)
    (pass_from (not (variable_spare (variable_record bs v) == 0)) _ _ (not_from_true _ (eq-eqb (variable_spare (variable_record bs v)) 0 h.spare))
    (pass_from (not (values_fit (variable_record bs v))) _ _ (not_from_true _ h.fits) refl))

fact_accepted : (bs : List ℕ) (place k : ℕ) → fact_refusal bs place k ≡ None → AcceptedFact bs place k
fact_accepted bs place k h =
    let a = pass (nat_lt (length bs) (place + 2 * k + 2)) _ _ h in
    let b = pass (not (fact_spare (fact_record bs place k) == 0)) _ _ a.1 in
    let c = pass (not (nat_lt (fact_variable (fact_record bs place k)) (variables bs) && ascends bs place k)) _ _ b.1 in
    let d = pass (not (nat_lt (fact_value (fact_record bs place k)) (size bs (fact_variable (fact_record bs place k))))) _ _ c.1 in
    let both = and_parts (nat_lt (fact_variable (fact_record bs place k)) (variables bs)) (ascends bs place k) (not-false _ c.0) in
    record {
      inside = ltb-false (length bs) (place + 2 * k + 2) a.0;
      spare = eqb-true (fact_spare (fact_record bs place k)) 0 (not-false _ b.0);
      variable = ltb-true (fact_variable (fact_record bs place k)) (variables bs) both.0;
      order = both.1;
      value = ltb-true (fact_value (fact_record bs place k)) (size bs (fact_variable (fact_record bs place k))) (not-false _ d.0);
    }

fact_passes : (bs : List ℕ) (place k : ℕ) → AcceptedFact bs place k → fact_refusal bs place k ≡ None
fact_passes bs place k h =
    pass_from (nat_lt (length bs) (place + 2 * k + 2)) _ _ (le-ltb (length bs) (place + 2 * k + 2) h.inside)
    (pass_from (not (fact_spare (fact_record bs place k) == 0)) _ _ (not_from_true _ (eq-eqb (fact_spare (fact_record bs place k)) 0 h.spare))
    (pass_from (not (nat_lt (fact_variable (fact_record bs place k)) (variables bs) && ascends bs place k)) _ _ (not_from_true _ (and_from (nat_lt (fact_variable (fact_record bs place k)) (variables bs)) (ascends bs place k) (lt-ltb (fact_variable (fact_record bs place k)) (variables bs) h.variable) h.order))
    (pass_from (not (nat_lt (fact_value (fact_record bs place k)) (size bs (fact_variable (fact_record bs place k))))) _ _ (not_from_true _ (lt-ltb (fact_value (fact_record bs place k)) (size bs (fact_variable (fact_record bs place k))) h.value)) refl)))

-- so many facts from a place on end inside
facts_end : (bs : List ℕ) (place n : ℕ) → place ≤ length bs → ((k : ℕ) → k < n → AcceptedFact bs place k) → place + 2 * n ≤ length bs
facts_end bs place zero l h = omega arith
facts_end bs place (suc n) l h = let last : place + 2 * n + 2 ≤ length bs = (h n (omega arith)).inside in omega arith

pub start_accepted : (bs : List ℕ) (place : ℕ) → start_refusal bs place ≡ None → (place + 4 ≤ length bs) × (action_spare (word bs place 4) ≡ 0)
start_accepted bs place h =
    let a = pass (nat_lt (length bs) (place + 4)) _ _ h in
    let b = pass (not (action_spare (word bs place 4) == 0)) _ _ a.1 in
    (ltb-false (length bs) (place + 4) a.0, eqb-true (action_spare (word bs place 4)) 0 (not-false _ b.0))

start_passes : (bs : List ℕ) (place : ℕ) → place + 4 ≤ length bs → action_spare (word bs place 4) ≡ 0 → start_refusal bs place ≡ None
start_passes bs place l e =
    pass_from (nat_lt (length bs) (place + 4)) _ _ (le-ltb (length bs) (place + 4) l)
    (pass_from (not (action_spare (word bs place 4) == 0)) _ _ (not_from_true _ (eq-eqb (action_spare (word bs place 4)) 0 e)) refl)

-- an action's parts make the whole of it
pub action_of : (bs : List ℕ) (place : ℕ) → place + 4 ≤ length bs → action_spare (word bs place 4) ≡ 0 → ((k : ℕ) → k < precondition_count (word bs place 4) → AcceptedFact bs (place + 4) k) → ((k : ℕ) → k < effect_count (word bs place 4) → AcceptedFact bs (effects_at bs place) k) → AcceptedAction bs place
action_of bs place l e pre eff = record {
  inside = l;
  spare = e;
  preconditions = pre;
  effects = eff;
  past = facts_end bs (effects_at bs place) (effect_count (word bs place 4)) (facts_end bs (place + 4) (precondition_count (word bs place 4)) l pre) eff;
}

pub action_accepted : (bs : List ℕ) (place : ℕ) → action_refusal bs place ≡ None → AcceptedAction bs place
action_accepted bs place h =
    let a = or_none (start_refusal bs place) _ h in
    let b = or_none (facts_refusal bs (place + 4) (precondition_count (word bs place 4))) _ a.1 in
    let start = start_accepted bs place a.0 in
    action_of bs place start.0 start.1
    (λ k l. fact_accepted bs (place + 4) k (none_at (precondition_count (word bs place 4)) (fact_refusal bs (place + 4)) b.0 k l))
    (λ k l. fact_accepted bs (effects_at bs place) k (none_at (effect_count (word bs place 4)) (fact_refusal bs (effects_at bs place)) b.1 k l))

action_passes : (bs : List ℕ) (place : ℕ) → AcceptedAction bs place → action_refusal bs place ≡ None
action_passes bs place h =
    or_skip (start_refusal bs place) _ (start_passes bs place h.inside h.spare)
    ∙ or_skip (facts_refusal bs (place + 4) (precondition_count (word bs place 4))) _ (none_from (precondition_count (word bs place 4)) (fact_refusal bs (place + 4)) (λ k l. fact_passes bs (place + 4) k (h.preconditions k l)))
    ∙ none_from (effect_count (word bs place 4)) (fact_refusal bs (effects_at bs place)) (λ k l. fact_passes bs (effects_at bs place) k (h.effects k l))

pub variables_end : (bs : List ℕ) (n : ℕ) → 4 ≤ length bs → ((v : ℕ) → v < n → AcceptedVariable bs v) → 4 + 3 * n ≤ length bs
variables_end bs zero l h = omega arith
variables_end bs (suc n) l h = let last : 4 + 3 * n + 3 ≤ length bs = (h n (omega arith)).inside in omega arith

actions_end : (bs : List ℕ) (n : ℕ) → variable_at bs (variables bs) ≤ length bs → ((a : ℕ) → a < n → AcceptedAction bs (action_at bs a)) → action_at bs n ≤ length bs
actions_end bs zero l h = l
actions_end bs (suc n) l h = (h n (omega arith)).past

pub action_inside : (bs : List ℕ) → Accepted bs → (a : ℕ) → a ≤ actions bs → action_at bs a ≤ length bs
action_inside bs h a l = actions_end bs a (variables_end bs (variables bs) h.long h.variable) (λ b k. h.action b (below a b (actions bs) k l))
  where
    below : (a b n : ℕ) → b < a → a ≤ n → b < n
    below a b n k l = omega arith

-- the variables stand where the first record and each of them is accepted
pub variables_inside : (bs : List ℕ) → header_refusal bs ≡ None → first_some (variables bs) (variable_refusal bs) ≡ None → variable_at bs (variables bs) ≤ length bs
variables_inside bs h k = variables_end bs (variables bs) (header_accepted bs h).long (λ v l. variable_accepted bs v (none_at (variables bs) (variable_refusal bs) k v l))

pub accepted_at : (bs : List ℕ) → refusal bs ≡ None → Accepted bs
accepted_at bs h =
    let a = or_none (header_refusal bs) _ h in
    let b = or_none (first_some (variables bs) (variable_refusal bs)) _ a.1 in
    let c = or_none (actions_refusal bs) _ b.1 in
    let d = pass (nat_lt (action_at bs (actions bs)) (length bs)) _ _ c.1 in
    let front = header_accepted bs a.0 in
    let variable : (v : ℕ) → v < variables bs → AcceptedVariable bs v = λ v l. variable_accepted bs v (none_at (variables bs) (variable_refusal bs) b.0 v l) in
    let action : (k : ℕ) → k < actions bs → AcceptedAction bs (action_at bs k) = λ k l. action_accepted bs (action_at bs k) (none_at (actions bs) (λ j. action_refusal bs (action_at bs j)) c.0 k l) in
    record {
      long = front.long;
      short = front.short;
      layout_is = front.layout_is;
      few_variables = front.few_variables;
      few_actions = front.few_actions;
      spare = front.spare;
      variable = variable;
      action = action;
      end = same (action_at bs (actions bs)) (length bs) (actions_end bs (actions bs) (variables_end bs (variables bs) front.long variable) action) (ltb-false (action_at bs (actions bs)) (length bs) d.0);
    }
  where
    same : (m n : ℕ) → m ≤ n → n ≤ m → m ≡ n
    same m n k l = omega arith

-- an opened file keeps the test as a Bool
pub accepted_of : (bs : List ℕ) → is_some (refusal bs) ≡ false → Accepted bs
accepted_of bs h = go (refusal bs) refl h
  where
    go : (o : Option Refusal) → refusal bs ≡ o → is_some o ≡ false → Accepted bs
    go None e k = accepted_at bs e
    go (Some x) e k = absurd (true≢false k)

pub accepted_from : (bs : List ℕ) → Accepted bs → refusal bs ≡ None
accepted_from bs h =
    or_skip (header_refusal bs) _ head
    ∙ or_skip (first_some (variables bs) (variable_refusal bs)) _ (none_from (variables bs) (variable_refusal bs) (λ v l. variable_passes bs v (h.variable v l)))
    ∙ or_skip (actions_refusal bs) _ (none_from (actions bs) (λ k. action_refusal bs (action_at bs k)) (λ k l. action_passes bs (action_at bs k) (h.action k l)))
    ∙ pass_from (nat_lt (action_at bs (actions bs)) (length bs)) _ _ (le-ltb (action_at bs (actions bs)) (length bs) (least (action_at bs (actions bs)) (length bs) h.end)) refl
  where
    least : (m n : ℕ) → m ≡ n → n ≤ m
    least m n e = omega arith

    head : header_refusal bs ≡ None
    head =
        pass_from (nat_lt (length bs) 4 || nat_lt 65536 (length bs)) _ _ (or_from (nat_lt (length bs) 4) (nat_lt 65536 (length bs)) (le-ltb (length bs) 4 h.long) (le-ltb 65536 (length bs) h.short))
        (pass_from (not (layout (header bs) == 1)) _ _ (not_from_true _ (eq-eqb (layout (header bs)) 1 h.layout_is))
        (pass_from (nat_lt 32 (variables bs) || nat_lt 512 (actions bs)) _ _ (or_from (nat_lt 32 (variables bs)) (nat_lt 512 (actions bs)) (le-ltb 32 (variables bs) h.few_variables) (le-ltb 512 (actions bs) h.few_actions))
        (pass_from (not (header_spare (header bs) == 0)) _ _ (not_from_true _ (eq-eqb (header_spare (header bs)) 0 h.spare)) refl)))
