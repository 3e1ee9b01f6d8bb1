-- A plan's file is read as the plan that it spells.
use Rattle.std.proofs.Common.{◌≡◌, ℕ, zero, suc, ◌+◌, ◌*◌, ◌/◌, ◌%◌, ◌<◌, Bool, true, false, cond, not, ◌||◌, eqb, ltb, List, [], ◌∷◌, ◌++◌, length, get_or, Ok, Err, Result, sym, refl, ap, ◌∙◌, subst, ap₂, arith}
use Rattle.std.proofs.lemmas.Bool.{eqb-true, eq-eqb, ltb-false, le-ltb, not-false, not_from_true, or_parts, or_from, cond-false}
use Rattle.tasks.specs.declared.refusal.Cause.TheVariants.{PlanFile}
use Rattle.tasks.specs.declared.refusal.Refusal.{Refusal}
use Rattle.packed.specs.Records.{word}
use Rattle.packed.specs.Packing.{bytes_of}
use Rattle.job.specs.Jobs.{action_numbers, plan_read}
use Rattle.job.specs.JobLaw.{plan_bytes, Spells}

module _ (b c : ℕ) (rest : List ℕ) where
  -- the first action, and those behind it
  word_first : word (b ∷ c ∷ rest) 0 2 ≡ b * 256 + c
  word_first = omega arith

  word_behind : (n : ℕ) → word (b ∷ c ∷ rest) (2 * suc n) 2 ≡ word rest (2 * n) 2
  word_behind n =
      let first : 2 * suc n + 0 ≡ suc (suc (2 * n + 0)) = omega arith in
      let second : 2 * suc n + 1 ≡ suc (suc (2 * n + 1)) = omega arith in
      ap₂ (λ (i j : ℕ). (0 + get_or (b ∷ c ∷ rest) i 0) * 256 + get_or (b ∷ c ∷ rest) j 0) first second

  pub numbers_first : (n : ℕ) → action_numbers (b ∷ c ∷ rest) (suc n) ≡ (b * 256 + c) ∷ action_numbers rest n
  numbers_first zero = ap (λ (x : ℕ). x ∷ []) word_first
  numbers_first (suc n) = ap₂ (λ (xs : List ℕ) (x : ℕ). xs ++ (x ∷ [])) (numbers_first n) (word_behind n)

two_bytes : (a b c : ℕ) → b < 256 → c < 256 → a ≡ b * 256 + c → bytes_of 2 a ≡ b ∷ c ∷ []
two_bytes a b c k l e = let high : a / 256 % 256 ≡ b = omega arith in let low : a % 256 ≡ c = omega arith in ap₂ (λ (x y : ℕ). x ∷ y ∷ []) high low

pub record Spelled (plan bytes : List ℕ) (n : ℕ) : Type 0 where
  pub small : (k : ℕ) → get_or plan k 0 < 65536
  pub long : length plan ≡ n
  pub bytes_are : plan_bytes plan ≡ bytes

-- what is read spells the bytes
read_spells : (n : ℕ) (bytes : List ℕ) → ((k : ℕ) → get_or bytes k 0 < 256) → length bytes ≡ 2 * n → Spelled (action_numbers bytes n) bytes n
read_spells zero [] small e = record { small = λ k. omega arith; long = refl; bytes_are = refl }
read_spells zero (b ∷ rest) small e = absurd (omega arith)
read_spells (suc n) [] small e = absurd (omega arith)
read_spells (suc n) (b ∷ []) small e = absurd (omega arith)
read_spells (suc n) (b ∷ c ∷ rest) small e =
    let more = read_spells n rest (λ k. small (suc (suc k))) (omega arith) in
    subst (λ (plan : List ℕ). Spelled plan (b ∷ c ∷ rest) (suc n)) (sym (numbers_first b c rest n)) (record {
      small = each more.small;
      long = ap suc more.long;
      bytes_are = ap₂ (λ (xs ys : List ℕ). xs ++ ys) (two_bytes (b * 256 + c) b c (small 0) (small 1) refl) more.bytes_are;
    })
  where
    each : ((k : ℕ) → get_or (action_numbers rest n) k 0 < 65536) → (k : ℕ) → get_or ((b * 256 + c) ∷ action_numbers rest n) k 0 < 65536
    each h zero = omega (arith, small 0, small 1)
    each h (suc k) = h k

-- what is spelled is read
spelled_reads : (plan : List ℕ) → ((k : ℕ) → get_or plan k 0 < 65536) → (action_numbers (plan_bytes plan) (length plan) ≡ plan) × (length (plan_bytes plan) ≡ 2 * length plan)
spelled_reads [] small = (refl, refl)
spelled_reads (a ∷ rest) small =
    let more = spelled_reads rest (λ k. small (suc k)) in
    let first = small 0 in
    let whole : a / 256 % 256 * 256 + a % 256 ≡ a = omega arith in (
      numbers_first (a / 256 % 256) (a % 256) (plan_bytes rest) (length rest) ∙ ap₂ (λ (x : ℕ) (xs : List ℕ). x ∷ xs) whole more.0,
      omega (arith, more.1),
    )

module _ (bytes : List ℕ) where
  too_long : Bool
  too_long = not (eqb (length bytes % 2) 0) || ltb 32768 (length bytes)

  pub reads_spell : (plan : List ℕ) → ((k : ℕ) → get_or bytes k 0 < 256) → plan_read bytes ≡ Ok plan → Spells plan bytes
  unfolding too_long
  reads_spell plan small e = go too_long refl e
    where
      go : (b : Bool) → too_long ≡ b → cond {A = Result (List ℕ) Refusal} b (Err (record { cause = PlanFile; place = 0 })) (Ok (action_numbers bytes (length bytes / 2))) ≡ Ok plan → Spells plan bytes
      go true q h = let z : ◌≡◌ {A = ℕ} 0 1 = cc in absurd (omega arith)
      go false q h =
          let both = or_parts (not (eqb (length bytes % 2) 0)) (ltb 32768 (length bytes)) q in
          let even = eqb-true (length bytes % 2) 0 (not-false _ both.0) in
          let few = ltb-false 32768 (length bytes) both.1 in
          let is : action_numbers bytes (length bytes / 2) ≡ plan = cc in
          let s = subst (λ (xs : List ℕ). Spelled xs bytes (length bytes / 2)) is (read_spells (length bytes / 2) bytes small (omega arith)) in
          let long = s.long in
          record { small = s.small; few = omega arith; bytes_are = s.bytes_are }

  pub spells_read : (plan : List ℕ) → Spells plan bytes → plan_read bytes ≡ Ok plan
  spells_read plan s =
      let reads = spelled_reads plan s.small in
      let long : length bytes ≡ 2 * length plan = ap length (sym s.bytes_are) ∙ reads.1 in
      let few = s.few in
      let half : length bytes / 2 ≡ length plan = omega arith in
      cond-false (not (eqb (length bytes % 2) 0) || ltb 32768 (length bytes)) _ _ (or_from (not (eqb (length bytes % 2) 0)) (ltb 32768 (length bytes)) (not_from_true _ (eq-eqb (length bytes % 2) 0 (omega arith))) (le-ltb 32768 (length bytes) (omega arith)))
      ∙ ap (λ (xs : List ℕ). Ok xs) (ap₂ action_numbers (sym s.bytes_are) half ∙ reads.0)
