-- Numbers and their bytes, and the fields of a record's number.
use Rattle.std.proofs.Common.{◌≡◌, ℕ, zero, suc, ◌+◌, ◌-◌, ◌*◌, ◌/◌, ◌%◌, ◌^◌, ◌<◌, ◌≤◌, true, false, cond, eqb, ltb, List, [], ◌∷◌, ◌++◌, length, get_or, take, Some, None, Option, sym, refl, ap, ◌∙◌, ⊎_elim, add-zero, div-add-mod', arith}
use native.Mathlib.Nat.{div-div-eq-div-mul}
use Rattle.std.proofs.lemmas.List.{append-nil, append_assoc, length-append, take_more}
use Rattle.std.proofs.lemmas.Bool.{eqb-true, eqb-false, ne_eqb, lt-ltb, eq-eqb, and_from, and_parts, cond-true, cond-false, cases_Bool}
use Rattle.packed.specs.Records.{values_fit, word, field, layout, variable_count, action_count, header_spare, size_of, initial_of, goal_bit, goal_value, goal_of, variable_spare, price_of, precondition_count, effect_count, action_spare, fact_variable, fact_value, fact_spare}
use Rattle.packed.specs.Packing.{bytes_of, header_number, variable_number, action_number}

-- a number and one more byte
upper : (n b : ℕ) → b < 256 → (n * 256 + b) / 256 ≡ n
upper n b l = omega arith

lower : (n b : ℕ) → b < 256 → (n * 256 + b) % 256 ≡ b
lower n b l = omega arith

pub length_bytes : (k n : ℕ) → length (bytes_of k n) ≡ k
length_bytes zero n = refl
length_bytes (suc k) n = length-append (bytes_of k (n / 256)) (n % 256 ∷ []) ∙ more (length (bytes_of k (n / 256))) (length_bytes k (n / 256))
  where
    more : (m : ℕ) → m ≡ k → m + 1 ≡ suc k
    more m e = omega arith

module _ (bs : List ℕ) (small : (k : ℕ) → get_or bs k 0 < 256) where
  pub word_small_2 : (place : ℕ) → word bs place 2 < 2 ^ 16
  word_small_2 place = omega (arith, small (place + 0), small (place + 1))

  pub word_small_3 : (place : ℕ) → word bs place 3 < 2 ^ 24
  word_small_3 place = omega (arith, small (place + 0), small (place + 1), small (place + 2))

  pub word_small_4 : (place : ℕ) → word bs place 4 < 2 ^ 32
  word_small_4 place = omega (arith, small (place + 0), small (place + 1), small (place + 2), small (place + 3))

  -- the bytes up to past a record are those before it and its own
  pub word_next : (place k : ℕ) → place + k ≤ length bs → take (place + k) bs ≡ take place bs ++ bytes_of k (word bs place k)
  word_next place zero l = ap (λ (n : ℕ). take n bs) (add-zero place) ∙ sym (append-nil (take place bs))
  word_next place (suc k) l =
      ap (λ (n : ℕ). take n bs) (past place)
      ∙ take_more bs (place + k) 0 (omega arith)
      ∙ ap (λ (xs : List ℕ). xs ++ (get_or bs (place + k) 0 ∷ [])) (word_next place k (omega arith))
      ∙ append_assoc (take place bs) (bytes_of k (word bs place k)) (get_or bs (place + k) 0 ∷ [])
      ∙ ap (λ (n : ℕ). take place bs ++ (bytes_of k n ++ (get_or bs (place + k) 0 ∷ []))) (sym (upper (word bs place k) (get_or bs (place + k) 0) (small (place + k))))
      ∙ ap (λ (b : ℕ). take place bs ++ (bytes_of k (word bs place (suc k) / 256) ++ (b ∷ []))) (sym (lower (word bs place k) (get_or bs (place + k) 0) (small (place + k))))
    where
      past : (p : ℕ) → p + suc k ≡ p + k + 1
      past p = omega arith

-- a number from a field up: what is above the field, and the field
from_field : (n low width high : ℕ) → 2 ^ low * 2 ^ width ≡ 2 ^ high → n / 2 ^ low ≡ n / 2 ^ high * 2 ^ width + field n low width
from_field n low width high e =
    sym (div-add-mod' (n / 2 ^ low) (2 ^ width)) ∙ ap (λ (k : ℕ). k * 2 ^ width + field n low width) (div-div-eq-div-mul n (2 ^ low) (2 ^ width) ∙ ap (λ (k : ℕ). n / k) e)

from_bottom : (n : ℕ) → n ≡ n / 2 ^ 0
from_bottom n = omega arith

-- a record's number is the sum of its fields
pub header_sum : (n : ℕ) → n < 2 ^ 32 → layout n ≡ 1 → header_spare n ≡ 0 → header_number (variable_count n) (action_count n) ≡ n
header_sum n l e s = sums n _ _ _ _ _ _ _ _ (from_bottom n) (from_field n 0 12 12 refl) (from_field n 12 10 22 refl) (from_field n 22 6 28 refl) top e s
  where
    top : n / 2 ^ 28 ≡ layout n
    top = omega arith

    sums : (n m p q r f0 f1 f2 f3 : ℕ) → n ≡ m → m ≡ p * 2 ^ 12 + f0 → p ≡ q * 2 ^ 10 + f1 → q ≡ r * 2 ^ 6 + f2 → r ≡ f3 → f3 ≡ 1 → f0 ≡ 0 → header_number f2 f1 ≡ n
    sums n m p q r f0 f1 f2 f3 o a b c d e s = omega arith

pub action_sum : (n : ℕ) → n < 2 ^ 32 → action_spare n ≡ 0 → action_number (price_of n) (precondition_count n) (effect_count n) ≡ n
action_sum n l s = sums n _ _ _ _ _ _ _ _ (from_bottom n) (from_field n 0 4 4 refl) (from_field n 4 6 10 refl) (from_field n 10 6 16 refl) top s
  where
    top : n / 2 ^ 16 ≡ price_of n
    top = omega arith

    sums : (n m p q r f0 f1 f2 f3 : ℕ) → n ≡ m → m ≡ p * 2 ^ 4 + f0 → p ≡ q * 2 ^ 6 + f1 → q ≡ r * 2 ^ 6 + f2 → r ≡ f3 → f0 ≡ 0 → action_number f3 f2 f1 ≡ n
    sums n m p q r f0 f1 f2 f3 o a b c d s = omega arith

pub fact_sum : (n : ℕ) → n < 2 ^ 16 → fact_spare n ≡ 0 → fact_variable n * 2 ^ 11 + fact_value n * 2 ^ 5 ≡ n
fact_sum n l s = sums n _ _ _ _ _ _ (from_bottom n) (from_field n 0 5 5 refl) (from_field n 5 6 11 refl) top s
  where
    top : n / 2 ^ 11 ≡ fact_variable n
    top = omega arith

    sums : (n m p q f0 f1 f2 : ℕ) → n ≡ m → m ≡ p * 2 ^ 5 + f0 → p ≡ q * 2 ^ 6 + f1 → q ≡ f2 → f0 ≡ 0 → f2 * 2 ^ 11 + f1 * 2 ^ 5 ≡ n
    sums n m p q f0 f1 f2 o a b c s = omega arith

goal_sum : (n : ℕ) → n < 2 ^ 24 → variable_spare n ≡ 0 → (size_of n - 1) * 2 ^ 18 + initial_of n * 2 ^ 12 + (goal_bit n * 2 ^ 11 + goal_value n * 2 ^ 5) ≡ n
goal_sum n l s = sums n _ _ _ _ _ _ _ _ _ _ (from_bottom n) (from_field n 0 5 5 refl) (from_field n 5 6 11 refl) (from_field n 11 1 12 refl) (from_field n 12 6 18 refl) top s
  where
    top : n / 2 ^ 18 ≡ field n 18 6
    top = omega arith

    sums : (n m p q r t f0 f1 f2 f3 f4 : ℕ) → n ≡ m → m ≡ p * 2 ^ 5 + f0 → p ≡ q * 2 ^ 6 + f1 → q ≡ r * 2 ^ 1 + f2 → r ≡ t * 2 ^ 6 + f3 → t ≡ f4 → f0 ≡ 0 → (f4 + 1 - 1) * 2 ^ 18 + f3 * 2 ^ 12 + (f2 * 2 ^ 11 + f1 * 2 ^ 5) ≡ n
    sums n m p q r t f0 f1 f2 f3 f4 o a b c d e s = omega arith

pub variable_sum : (n : ℕ) → n < 2 ^ 24 → variable_spare n ≡ 0 → values_fit n ≡ true → variable_number (size_of n) (initial_of n) (goal_of n) ≡ n
variable_sum n l s h =
    ⊎_elim
    (λ e. ap (λ (o : Option ℕ). variable_number (size_of n) (initial_of n) o) (cond-true (eqb (goal_bit n) 1) (Some (goal_value n)) None e) ∙ with_goal (eqb-true (goal_bit n) 1 e))
    (λ e. ap (λ (o : Option ℕ). variable_number (size_of n) (initial_of n) o) (cond-false (eqb (goal_bit n) 1) (Some (goal_value n)) None e) ∙ without (eqb-false (goal_bit n) 1 e) (eqb-true (goal_value n) 0 (sym (cond-false (eqb (goal_bit n) 1) (ltb (goal_value n) (size_of n)) (eqb (goal_value n) 0) e) ∙ rest)))
    (cases_Bool (eqb (goal_bit n) 1))
  where
    rest : cond (eqb (goal_bit n) 1) (ltb (goal_value n) (size_of n)) (eqb (goal_value n) 0) ≡ true
    rest = (and_parts (ltb (initial_of n) (size_of n)) (cond (eqb (goal_bit n) 1) (ltb (goal_value n) (size_of n)) (eqb (goal_value n) 0)) h).1

    with_goal : goal_bit n ≡ 1 → (size_of n - 1) * 2 ^ 18 + initial_of n * 2 ^ 12 + (1 * 2 ^ 11 + goal_value n * 2 ^ 5) ≡ n
    with_goal e = ap (λ (b : ℕ). (size_of n - 1) * 2 ^ 18 + initial_of n * 2 ^ 12 + (b * 2 ^ 11 + goal_value n * 2 ^ 5)) (sym e) ∙ goal_sum n l s

    zero_bit : (b : ℕ) → b < 2 → (b ≡ 1 → ⊥) → b ≡ 0
    zero_bit b l e = omega arith

    bit : goal_bit n < 2
    bit = omega arith

    nothing : (b x : ℕ) → b ≡ 0 → x ≡ 0 → 0 ≡ b * 2 ^ 11 + x * 2 ^ 5
    nothing b x d e = omega arith

    without : (goal_bit n ≡ 1 → ⊥) → goal_value n ≡ 0 → (size_of n - 1) * 2 ^ 18 + initial_of n * 2 ^ 12 + 0 ≡ n
    without e z = ap (λ (k : ℕ). (size_of n - 1) * 2 ^ 18 + initial_of n * 2 ^ 12 + k) (nothing (goal_bit n) (goal_value n) (zero_bit (goal_bit n) bit e) z) ∙ goal_sum n l s

-- the fields of a sum are its parts
pub header_fields : (v a : ℕ) → v < 64 → a < 1024 → (layout (header_number v a) ≡ 1) × (variable_count (header_number v a) ≡ v) × (action_count (header_number v a) ≡ a) × (header_spare (header_number v a) ≡ 0) × (header_number v a < 2 ^ 32)
header_fields v a k l = (omega arith, omega arith, omega arith, omega arith, omega arith)

pub action_fields : (p m n : ℕ) → p < 65536 → m < 64 → n < 64 → (price_of (action_number p m n) ≡ p) × (precondition_count (action_number p m n) ≡ m) × (effect_count (action_number p m n) ≡ n) × (action_spare (action_number p m n) ≡ 0) × (action_number p m n < 2 ^ 32)
action_fields p m n j k l = (omega arith, omega arith, omega arith, omega arith, omega arith)

pub fact_fields : (v x : ℕ) → v < 32 → x < 64 → (fact_variable (v * 2 ^ 11 + x * 2 ^ 5) ≡ v) × (fact_value (v * 2 ^ 11 + x * 2 ^ 5) ≡ x) × (fact_spare (v * 2 ^ 11 + x * 2 ^ 5) ≡ 0) × (v * 2 ^ 11 + x * 2 ^ 5 < 2 ^ 16)
fact_fields v x k l = (omega arith, omega arith, omega arith, omega arith)

pub record VariableFields (s x : ℕ) (g : Option ℕ) (n : ℕ) : Type 0 where
  pub size_is : size_of n ≡ s
  pub initial_is : initial_of n ≡ x
  pub goal_is : goal_of n ≡ g
  pub spare_is : variable_spare n ≡ 0
  pub fits : values_fit n ≡ true
  pub small : n < 2 ^ 24

pub variable_fields : (s x : ℕ) (g : Option ℕ) → 1 ≤ s → s ≤ 64 → x < s → ((y : ℕ) → g ≡ Some y → y < s) → VariableFields s x g (variable_number s x g)
variable_fields s x None j k l h = whole
  where
    size_part : size_of (variable_number s x None) ≡ s
    size_part = omega arith

    initial_part : initial_of (variable_number s x None) ≡ x
    initial_part = omega arith

    bit : goal_bit (variable_number s x None) ≡ 0
    bit = omega arith

    value : goal_value (variable_number s x None) ≡ 0
    value = omega arith

    not_one : (b : ℕ) → b ≡ 0 → eqb b 1 ≡ false
    not_one b e = ne_eqb b 1 (λ q. omega arith)

    below : (p q : ℕ) → p ≡ x → q ≡ s → p < q
    below p q d e = omega arith

    whole : VariableFields s x None (variable_number s x None)
    whole = record {
      size_is = size_part;
      initial_is = initial_part;
      goal_is = cond-false (eqb (goal_bit (variable_number s x None)) 1) (Some (goal_value (variable_number s x None))) None (not_one _ bit);
      spare_is = omega arith;
      fits = and_from (ltb (initial_of (variable_number s x None)) (size_of (variable_number s x None))) _ (lt-ltb _ _ (below _ _ initial_part size_part)) (cond-false (eqb (goal_bit (variable_number s x None)) 1) _ _ (not_one _ bit) ∙ eq-eqb _ 0 value);
      small = omega arith;
    }
variable_fields s x (Some y) j k l h = whole
  where
    in_range : y < s
    in_range = h y refl

    size_part : size_of (variable_number s x (Some y)) ≡ s
    size_part = omega (arith, in_range)

    initial_part : initial_of (variable_number s x (Some y)) ≡ x
    initial_part = omega (arith, in_range)

    bit : goal_bit (variable_number s x (Some y)) ≡ 1
    bit = omega (arith, in_range)

    value : goal_value (variable_number s x (Some y)) ≡ y
    value = omega (arith, in_range)

    below : (p q : ℕ) → p ≡ x → q ≡ s → p < q
    below p q d e = omega arith

    below_goal : (p q : ℕ) → p ≡ y → q ≡ s → p < q
    below_goal p q d e = omega (arith, in_range)

    is_one : eqb (goal_bit (variable_number s x (Some y))) 1 ≡ true
    is_one = eq-eqb _ 1 bit

    whole : VariableFields s x (Some y) (variable_number s x (Some y))
    whole = record {
      size_is = size_part;
      initial_is = initial_part;
      goal_is = cond-true (eqb (goal_bit (variable_number s x (Some y))) 1) (Some (goal_value (variable_number s x (Some y)))) None is_one ∙ ap (λ (z : ℕ). Some z) value;
      spare_is = omega arith;
      fits = and_from (ltb (initial_of (variable_number s x (Some y))) (size_of (variable_number s x (Some y)))) _ (lt-ltb _ _ (below _ _ initial_part size_part)) (cond-true (eqb (goal_bit (variable_number s x (Some y))) 1) _ _ is_one ∙ lt-ltb _ _ (below_goal _ _ value size_part));
      small = omega (arith, in_range);
    }
