-- The bytes that pack a task are accepted, and decode to it.
use Rattle.std.proofs.Common.{◌≡◌, ℕ, zero, suc, ◌+◌, ◌*◌, ◌^◌, ◌<◌, ◌≤◌, true, false, ltb, List, ◌++◌, length, Some, None, Option, sym, refl, ap, ◌∙◌, subst, ⊎_elim, le_refl, lt_of_lt_of_le, le_of_lt, not-le_of_lt, arith}
use native.Mathlib.Nat.{le_of_suc-le}
use Rattle.std.proofs.lemmas.List.{length-append}
use Rattle.std.proofs.lemmas.Bool.{lt-ltb, le-ltb, cases_lt, cases_Bool, cond-true, cond-false}
use Rattle.tasks.specs.Task.{Priced, Lawful}
use Rattle.tasks.specs.Optional.{some_or_none}
use Rattle.tasks.proofs.Lawful.{pre_past, eff_past, var_past, goal_below}
use Rattle.packed.specs.Records.{word, layout, variable_count, action_count, header_spare, initial_of, goal_of, price_of, precondition_count, effect_count, action_spare, fact_variable, fact_value}
use Rattle.packed.specs.Decoding.{header, variables, actions, variable_record, size, effects_at, past_action, action_at, action_record, fact_record, looked_up, preconditions, effects, decoded_task, decoded}
use Rattle.packed.specs.Packing.{bytes_of, in_turn, header_number, variable_number, action_number, facts_bytes, fact_count, variable_bytes, action_bytes, packing, Packs}
use Rattle.packed.specs.Accepted.{AcceptedFact, AcceptedVariable, AcceptedAction, Accepted, action_of}
use Rattle.packed.specs.LawfulFile.{size_in, size_out}
use Rattle.packed.proofs.Words.{header_fields, action_fields, VariableFields, variable_fields}
use Rattle.packed.proofs.Turns.{length_in_turn, count_most, length_facts}
use Rattle.packed.proofs.Standing.{Stands, stands_all, stands_left, stands_right, stands_turn, word_back_3, word_back_4, FactStands, FactsStand, facts_stand}

-- an action of a task, whose bytes stand at a place
record ActionStands (q : Priced) (bs : List ℕ) (a place : ℕ) : Type 0 where
  inside : place + 4 ≤ length bs
  price_is : price_of (word bs place 4) ≡ q.price a
  spare_is : action_spare (word bs place 4) ≡ 0
  pre : FactsStand bs (place + 4) q.task.vars (precondition_count (word bs place 4)) (q.task.pre a)
  eff : FactsStand bs (effects_at bs place) q.task.vars (effect_count (word bs place 4)) (q.task.eff a)
  past : past_action bs place ≡ place + length (action_bytes q a)

module _ (q : Priced) (bs : List ℕ) (h : Packs q bs) where
  law : Lawful q.task
  law = h.lawful

  whole : Stands bs 0 (packing q)
  whole = subst (λ (xs : List ℕ). Stands bs 0 xs) (sym h.bytes_are) (stands_all bs)

  -- the first record
  head_fields : (layout (header_number q.task.vars q.task.acts) ≡ 1) × (variable_count (header_number q.task.vars q.task.acts) ≡ q.task.vars) × (action_count (header_number q.task.vars q.task.acts) ≡ q.task.acts) × (header_spare (header_number q.task.vars q.task.acts) ≡ 0) × (header_number q.task.vars q.task.acts < 2 ^ 32)
  head_fields = header_fields q.task.vars q.task.acts (few_vars q.task.vars law.few_vars) (few_acts q.task.acts law.few_acts)
    where
      few_vars : (n : ℕ) → n ≤ 32 → n < 64
      few_vars n l = omega arith

      few_acts : (n : ℕ) → n ≤ 512 → n < 1024
      few_acts n l = omega arith

  header_is : header bs ≡ header_number q.task.vars q.task.acts
  header_is = word_back_4 bs 0 (header_number q.task.vars q.task.acts) head_fields.4 (stands_left bs 0 (bytes_of 4 (header_number q.task.vars q.task.acts)) _ whole)

  variables_are : variables bs ≡ q.task.vars
  variables_are = ap variable_count header_is ∙ head_fields.1

  actions_are : actions bs ≡ q.task.acts
  actions_are = ap action_count header_is ∙ head_fields.2

  var_in : (v : ℕ) → v < q.task.vars → ltb v (variables bs) ≡ true
  var_in v l = lt-ltb v (variables bs) (subst (λ (n : ℕ). v < n) (sym variables_are) l)

  var_out : (v : ℕ) → q.task.vars ≤ v → ltb v (variables bs) ≡ false
  var_out v l = le-ltb v (variables bs) (subst (λ (n : ℕ). n ≤ v) (sym variables_are) l)

  act_in : (a : ℕ) → a < q.task.acts → ltb a (actions bs) ≡ true
  act_in a l = lt-ltb a (actions bs) (subst (λ (n : ℕ). a < n) (sym actions_are) l)

  act_out : (a : ℕ) → q.task.acts ≤ a → ltb a (actions bs) ≡ false
  act_out a l = le-ltb a (actions bs) (subst (λ (n : ℕ). n ≤ a) (sym actions_are) l)

  -- the variables
  rest : Stands bs 4 (in_turn q.task.vars (variable_bytes q.task) ++ in_turn q.task.acts (action_bytes q))
  rest = stands_right bs 0 (bytes_of 4 (header_number q.task.vars q.task.acts)) _ whole

  variable_stands : (v : ℕ) → v < q.task.vars → Stands bs (4 + 3 * v) (variable_bytes q.task v)
  variable_stands v l =
      subst (λ (m : ℕ). Stands bs (4 + m) (variable_bytes q.task v)) (length_in_turn v 3 (variable_bytes q.task) (λ w. refl))
      (stands_turn bs 4 q.task.vars (variable_bytes q.task) v l (stands_left bs 4 (in_turn q.task.vars (variable_bytes q.task)) _ rest))

  variable_read : (v : ℕ) → v < q.task.vars → VariableFields (q.task.size v) (q.task.init v) (q.task.goal v) (variable_record bs v)
  variable_read v l =
      subst (VariableFields (q.task.size v) (q.task.init v) (q.task.goal v)) (sym (word_back_3 bs (4 + 3 * v) _ fields.small (variable_stands v l))) fields
    where
      live : q.task.var_live v ≡ true
      live = h.all_live.variables v l

      fields : VariableFields (q.task.size v) (q.task.init v) (q.task.goal v) (variable_number (q.task.size v) (q.task.init v) (q.task.goal v))
      fields = variable_fields (q.task.size v) (q.task.init v) (q.task.goal v) (law.size_some v l) (law.size_most v) (law.val_in v _ (law.init_val v live)) (λ y e. law.val_in v y (law.goal_val v y e))

  size_is : (v : ℕ) → size bs v ≡ q.task.size v
  size_is v =
      ⊎_elim
      (λ l. size_in bs v (var_in v l) ∙ (variable_read v l).size_is)
      (λ l. size_out bs v (var_out v l) ∙ sym (law.size_none v l))
      (cases_lt v q.task.vars)

  variable_accepted : (v : ℕ) → v < q.task.vars → AcceptedVariable bs v
  variable_accepted v l = record {
    inside = (variable_stands v l).fits;
    spare = (variable_read v l).spare_is;
    fits = (variable_read v l).fits;
  }

  -- the actions
  action_place : ℕ → ℕ
  action_place a = 4 + 3 * q.task.vars + length (in_turn a (action_bytes q))

  bytes_stand : (a : ℕ) → a < q.task.acts → Stands bs (action_place a) (action_bytes q a)
  unfolding action_place
  bytes_stand a l =
      stands_turn bs (4 + 3 * q.task.vars) q.task.acts (action_bytes q) a l
      (subst (λ (m : ℕ). Stands bs (4 + m) (in_turn q.task.acts (action_bytes q))) (length_in_turn q.task.vars 3 (variable_bytes q.task) (λ w. refl))
      (stands_right bs 4 (in_turn q.task.vars (variable_bytes q.task)) (in_turn q.task.acts (action_bytes q)) rest))

  value_small : (v x : ℕ) → q.task.val_live v x ≡ true → x < 64
  value_small v x e = lt_of_lt_of_le (law.val_in v x e) (law.size_most v)

  count_small : (f : ℕ → Option ℕ) → fact_count q.task.vars f < 64
  count_small f = chain _ _ (count_most q.task.vars f) law.few_vars
    where
      chain : (c n : ℕ) → c ≤ n → n ≤ 32 → c < 64
      chain c n k l = omega arith

  action_stands : (a place : ℕ) → Stands bs place (action_bytes q a) → ActionStands q bs a place
  action_stands a place s = record {
    inside = first.fits;
    price_is = ap price_of number ∙ fields.0;
    spare_is = ap action_spare number ∙ fields.3;
    pre = subst (λ (c : ℕ). FactsStand bs (place + 4) q.task.vars c (q.task.pre a)) (sym pre_count) (facts_stand bs (place + 4) q.task.vars (q.task.pre a) law.few_vars (λ v x e. value_small v x (law.pre_val a v x e)) (stands_left bs (place + 4) pre_bytes eff_bytes facts));
    eff = subst (λ (c : ℕ). FactsStand bs (effects_at bs place) q.task.vars c (q.task.eff a)) (sym eff_count) (facts_stand bs (effects_at bs place) q.task.vars (q.task.eff a) law.few_vars (λ v x e. value_small v x (law.eff_val a v x e)) (subst (λ (m : ℕ). Stands bs (place + 4 + m) eff_bytes) (length_facts q.task.vars (q.task.pre a) ∙ ap (λ (m : ℕ). 2 * m) (sym pre_count)) (stands_right bs (place + 4) pre_bytes eff_bytes facts)));
    past = sums place _ _ _ _ _ _ _ pre_count eff_count (length_facts q.task.vars (q.task.pre a)) (length_facts q.task.vars (q.task.eff a)) (length-append pre_bytes eff_bytes) (length-append (bytes_of 4 numbered) (pre_bytes ++ eff_bytes));
  }
    where
      numbered : ℕ
      numbered = action_number (q.price a) (fact_count q.task.vars (q.task.pre a)) (fact_count q.task.vars (q.task.eff a))

      pre_bytes : List ℕ
      pre_bytes = facts_bytes q.task.vars (q.task.pre a)

      eff_bytes : List ℕ
      eff_bytes = facts_bytes q.task.vars (q.task.eff a)

      fields : (price_of numbered ≡ q.price a) × (precondition_count numbered ≡ fact_count q.task.vars (q.task.pre a)) × (effect_count numbered ≡ fact_count q.task.vars (q.task.eff a)) × (action_spare numbered ≡ 0) × (numbered < 2 ^ 32)
      fields = action_fields (q.price a) (fact_count q.task.vars (q.task.pre a)) (fact_count q.task.vars (q.task.eff a)) (h.prices.fit a) (count_small (q.task.pre a)) (count_small (q.task.eff a))

      first : Stands bs place (bytes_of 4 numbered)
      first = stands_left bs place (bytes_of 4 numbered) (pre_bytes ++ eff_bytes) s

      facts : Stands bs (place + 4) (pre_bytes ++ eff_bytes)
      facts = stands_right bs place (bytes_of 4 numbered) (pre_bytes ++ eff_bytes) s

      number : word bs place 4 ≡ numbered
      number = word_back_4 bs place numbered fields.4 first

      pre_count : precondition_count (word bs place 4) ≡ fact_count q.task.vars (q.task.pre a)
      pre_count = ap precondition_count number ∙ fields.1

      eff_count : effect_count (word bs place 4) ≡ fact_count q.task.vars (q.task.eff a)
      eff_count = ap effect_count number ∙ fields.2

      sums : (p m n c d i j k : ℕ) {l : ℕ} → m ≡ c → n ≡ d → i ≡ 2 * c → j ≡ 2 * d → k ≡ i + j → l ≡ 4 + k → p + 4 + 2 * m + 2 * n ≡ p + l
      sums p m n c d i j k {l} e f g o r s = omega arith

  place_is : (a : ℕ) → a ≤ q.task.acts → action_at bs a ≡ action_place a
  unfolding action_place
  place_is zero l = start (variables bs) q.task.vars variables_are
    where
      start : (m n : ℕ) → m ≡ n → 4 + 3 * m ≡ 4 + 3 * n + 0
      start m n e = omega arith
  place_is (suc a) l =
      ap (past_action bs) (place_is a (le_of_suc-le l))
      ∙ (action_stands a (action_place a) (bytes_stand a l)).past
      ∙ sums (4 + 3 * q.task.vars) _ _ _ (length-append (in_turn a (action_bytes q)) (action_bytes q a))
    where
      sums : (p i j k : ℕ) → k ≡ i + j → p + i + j ≡ p + k
      sums p i j k e = omega arith

  action_read : (a : ℕ) → a < q.task.acts → ActionStands q bs a (action_at bs a)
  action_read a l = action_stands a (action_at bs a) (subst (λ (m : ℕ). Stands bs m (action_bytes q a)) (sym (place_is a (le_of_lt l))) (bytes_stand a l))

  fact_accepted : (place : ℕ) (f : ℕ → Option ℕ) → ((v x : ℕ) → f v ≡ Some x → q.task.val_live v x ≡ true) → (k : ℕ) → FactStands bs place q.task.vars f k → AcceptedFact bs place k
  fact_accepted place f live k s = record {
    inside = s.inside;
    spare = s.spare;
    variable = subst (λ (n : ℕ). fact_variable (fact_record bs place k) < n) (sym variables_are) s.below;
    order = s.order;
    value = subst (λ (n : ℕ). fact_value (fact_record bs place k) < n) (sym (size_is _)) (law.val_in _ _ (live _ _ s.asked));
  }

  action_accepted : (a : ℕ) → a < q.task.acts → AcceptedAction bs (action_at bs a)
  action_accepted a l =
      let r = action_read a l in
      action_of bs (action_at bs a) r.inside r.spare_is
      (λ k b. fact_accepted (action_at bs a + 4) (q.task.pre a) (law.pre_val a) k (r.pre.each k b))
      (λ k b. fact_accepted (effects_at bs (action_at bs a)) (q.task.eff a) (law.eff_val a) k (r.eff.each k b))

  length_is : action_at bs (actions bs) ≡ length bs
  unfolding action_place
  length_is =
      ap (action_at bs) actions_are
      ∙ place_is q.task.acts (le_refl q.task.acts)
      ∙ sums _ _ _ _ (length_in_turn q.task.vars 3 (variable_bytes q.task) (λ w. refl)) (length-append (in_turn q.task.vars (variable_bytes q.task)) (in_turn q.task.acts (action_bytes q))) (length-append (bytes_of 4 (header_number q.task.vars q.task.acts)) _)
      ∙ ap length h.bytes_are
    where
      sums : (v i j k : ℕ) {l : ℕ} → i ≡ 3 * v → k ≡ i + j → l ≡ 4 + k → 4 + 3 * v + j ≡ l
      sums v i j k {l} e f g = omega arith

  pub packed_accepted : Accepted bs
  packed_accepted = record {
    long = four (length bs) _ rest.fits;
    short = h.short;
    layout_is = ap layout header_is ∙ head_fields.0;
    few_variables = subst (λ (n : ℕ). n ≤ 32) (sym variables_are) law.few_vars;
    few_actions = subst (λ (n : ℕ). n ≤ 512) (sym actions_are) law.few_acts;
    spare = ap header_spare header_is ∙ head_fields.3;
    variable = λ v l. variable_accepted v (subst (λ (n : ℕ). v < n) variables_are l);
    action = λ a l. action_accepted a (subst (λ (n : ℕ). a < n) actions_are l);
    end = length_is;
  }
    where
      four : (n m : ℕ) → 4 + m ≤ n → 4 ≤ n
      four n m l = omega arith

  -- every answer of the task is the decoded one
  var_live_is : (v : ℕ) → q.task.var_live v ≡ ltb v (variables bs)
  var_live_is v =
      ⊎_elim
      (λ l. h.all_live.variables v l ∙ sym (var_in v l))
      (λ l. var_past q.task law v l ∙ sym (var_out v l))
      (cases_lt v q.task.vars)

  val_live_is : (v x : ℕ) → q.task.val_live v x ≡ ltb x (size bs v)
  val_live_is v x =
      ⊎_elim
      (λ l. h.all_live.values v x l ∙ sym (lt-ltb x (size bs v) (subst (λ (n : ℕ). x < n) (sym (size_is v)) l)))
      (λ l. dead l ∙ sym (le-ltb x (size bs v) (subst (λ (n : ℕ). n ≤ x) (sym (size_is v)) l)))
      (cases_lt x (q.task.size v))
    where
      dead : q.task.size v ≤ x → q.task.val_live v x ≡ false
      dead l = ⊎_elim (λ e. absurd (not-le_of_lt (law.val_in v x e) l)) (λ e. e) (cases_Bool (q.task.val_live v x))

  act_past : (a : ℕ) → q.task.acts ≤ a → q.task.act_live a ≡ false
  act_past a l = ⊎_elim (λ e. absurd (not-le_of_lt (law.act_in a e) l)) (λ e. e) (cases_Bool (q.task.act_live a))

  act_live_is : (a : ℕ) → q.task.act_live a ≡ ltb a (actions bs)
  act_live_is a =
      ⊎_elim
      (λ l. h.all_live.actions a l ∙ sym (act_in a l))
      (λ l. act_past a l ∙ sym (act_out a l))
      (cases_lt a q.task.acts)

  -- an action out of range has no facts
  none_past : (a : ℕ) (o : Option ℕ) → q.task.acts ≤ a → ((x : ℕ) → o ≡ Some x → q.task.act_live a ≡ true) → o ≡ None
  none_past a o l live = ⊎_elim (λ s. absurd (not-le_of_lt (law.act_in a (live s.0 s.1)) l)) (λ e. e) (some_or_none o)

  facts_are : (place c : ℕ) (f : ℕ → Option ℕ) → ((v : ℕ) → q.task.vars ≤ v → f v ≡ None) → FactsStand bs place q.task.vars c f → (v : ℕ) → f v ≡ looked_up bs place c v
  facts_are place c f past s v = ⊎_elim (λ l. sym (s.found v l)) (λ l. past v l ∙ sym (s.missing v l)) (cases_lt v q.task.vars)

  pre_is : (a v : ℕ) → q.task.pre a v ≡ (decoded_task bs).pre a v
  pre_is a v =
      ⊎_elim
      (λ l. facts_are (action_at bs a + 4) (precondition_count (action_record bs a)) (q.task.pre a) (pre_past q.task law a) (action_read a l).pre v ∙ sym (cond-true (ltb a (actions bs)) (preconditions bs a v) None (act_in a l)))
      (λ l. none_past a (q.task.pre a v) l (law.pre_act a v) ∙ sym (cond-false (ltb a (actions bs)) (preconditions bs a v) None (act_out a l)))
      (cases_lt a q.task.acts)

  eff_is : (a v : ℕ) → q.task.eff a v ≡ (decoded_task bs).eff a v
  eff_is a v =
      ⊎_elim
      (λ l. facts_are (effects_at bs (action_at bs a)) (effect_count (action_record bs a)) (q.task.eff a) (eff_past q.task law a) (action_read a l).eff v ∙ sym (cond-true (ltb a (actions bs)) (effects bs a v) None (act_in a l)))
      (λ l. none_past a (q.task.eff a v) l (law.eff_act a v) ∙ sym (cond-false (ltb a (actions bs)) (effects bs a v) None (act_out a l)))
      (cases_lt a q.task.acts)

  init_is : (v : ℕ) → q.task.init v ≡ (decoded_task bs).init v
  init_is v =
      ⊎_elim
      (λ l. sym (variable_read v l).initial_is ∙ sym (cond-true (ltb v (variables bs)) (initial_of (variable_record bs v)) 0 (var_in v l)))
      (λ l. law.init_none v (var_past q.task law v l) ∙ sym (cond-false (ltb v (variables bs)) (initial_of (variable_record bs v)) 0 (var_out v l)))
      (cases_lt v q.task.vars)

  goal_is : (v : ℕ) → q.task.goal v ≡ (decoded_task bs).goal v
  goal_is v =
      ⊎_elim
      (λ l. sym (variable_read v l).goal_is ∙ sym (cond-true (ltb v (variables bs)) (goal_of (variable_record bs v)) None (var_in v l)))
      (λ l. past l ∙ sym (cond-false (ltb v (variables bs)) (goal_of (variable_record bs v)) None (var_out v l)))
      (cases_lt v q.task.vars)
    where
      past : q.task.vars ≤ v → q.task.goal v ≡ None
      past l = ⊎_elim (λ s. absurd (not-le_of_lt (goal_below q.task law v s.0 s.1) l)) (λ e. e) (some_or_none (q.task.goal v))

  price_is : (a : ℕ) → q.price a ≡ (decoded bs).price a
  price_is a =
      ⊎_elim
      (λ l. sym (action_read a l).price_is ∙ sym (cond-true (ltb a (actions bs)) (price_of (action_record bs a)) 0 (act_in a l)))
      (λ l. h.prices.none a l ∙ sym (cond-false (ltb a (actions bs)) (price_of (action_record bs a)) 0 (act_out a l)))
      (cases_lt a q.task.acts)

  pub packed_decodes : q ≡ decoded bs
  packed_decodes = λ i. record {
    task = record {
      vars = sym variables_are i;
      acts = sym actions_are i;
      size = λ v. sym (size_is v) i;
      var_live = λ v. var_live_is v i;
      val_live = λ v x. val_live_is v x i;
      act_live = λ a. act_live_is a i;
      pre = λ a v. pre_is a v i;
      eff = λ a v. eff_is a v i;
      init = λ v. init_is v i;
      goal = λ v. goal_is v i;
    };
    price = λ a. price_is a i;
  }

  pub packed_opens : Accepted bs × (q ≡ decoded bs)
  packed_opens = (packed_accepted, packed_decodes)
