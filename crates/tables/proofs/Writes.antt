-- What an array says after one entry is changed. Where the default stays the default, its length does not matter.
use Rattle.std.proofs.Common.{◌≡◌, ℕ, ◌<◌, Bool, true, false, cond, not, ◌&&◌, eqb, List, [], length, get_or, set, sym, refl, ap, ◌∙◌, subst, ⊎_elim, arith, length-set, get_or-set_other, get_or-set_same}
use Rattle.std.proofs.lemmas.List.{get_or_past}
use Rattle.std.proofs.lemmas.Bool.{cases_lt, cases_eq, cond-true, cond-false, eq-eqb, ne_eqb, false≢true}

module _ {A : Type 0} (f : A → A) (d : A) (stays : f d ≡ d) where
  pub changed_here : (xs : List A) (i : ℕ) → get_or (set xs i (f (get_or xs i d))) i d ≡ f (get_or xs i d)
  changed_here xs i =
      ⊎_elim
      (λ within. get_or-set_same xs i (f (get_or xs i d)) d within)
      (λ past. get_or_past (set xs i (f (get_or xs i d))) i d (omega (arith, length-set xs i (f (get_or xs i d)))) ∙ sym (ap f (get_or_past xs i d past) ∙ stays))
      (cases_lt i (length xs))

  pub changed : (xs : List A) (i k : ℕ) → get_or (set xs i (f (get_or xs i d))) k d ≡ cond (eqb k i) (f (get_or xs k d)) (get_or xs k d)
  changed xs i k =
      ⊎_elim
      (λ same. subst (λ (n : ℕ). get_or (set xs i (f (get_or xs i d))) n d ≡ cond (eqb n i) (f (get_or xs n d)) (get_or xs n d)) (sym same) (changed_here xs i ∙ sym (cond-true (eqb i i) (f (get_or xs i d)) (get_or xs i d) (eq-eqb i i refl))))
      (λ apart. get_or-set_other xs i k (f (get_or xs i d)) d apart ∙ sym (cond-false (eqb k i) (f (get_or xs k d)) (get_or xs k d) (ne_eqb k i apart)))
      (cases_eq k i)

pub changed_in : {A : Type 0} (f : A → A) (d : A) → f d ≡ d → (rows : List (List A)) (i j k w : ℕ) → get_or (get_or (set rows i (set (get_or rows i []) j (f (get_or (get_or rows i []) j d)))) k []) w d ≡ cond (eqb k i && eqb w j) (f (get_or (get_or rows k []) w d)) (get_or (get_or rows k []) w d)
changed_in {A} f d stays rows i j k w =
    ap (λ (row : List A). get_or row w d) (changed {A = List A} (λ row. set row j (f (get_or row j d))) [] refl rows i k) ∙ go (eqb k i)
  where
    row : List A
    row = get_or rows k []

    go : (b : Bool) → get_or (cond b (set row j (f (get_or row j d))) row) w d ≡ cond (b && eqb w j) (f (get_or row w d)) (get_or row w d)
    go true = changed f d stays row j w
    go false = refl

and_not : (b c : Bool) → cond c false b ≡ (b && not c)
and_not true true = refl
and_not true false = refl
and_not false true = refl
and_not false false = refl

pub cleared : (xs : List Bool) (i k : ℕ) → get_or (set xs i false) k false ≡ (get_or xs k false && not (eqb k i))
cleared xs i k = changed (λ b. false) false refl xs i k ∙ and_not (get_or xs k false) (eqb k i)

pub cleared_in : (rows : List (List Bool)) (i j k w : ℕ) → get_or (get_or (set rows i (set (get_or rows i []) j false)) k []) w false ≡ (get_or (get_or rows k []) w false && not (eqb k i && eqb w j))
cleared_in rows i j k w = changed_in (λ b. false) false refl rows i j k w ∙ and_not (get_or (get_or rows k []) w false) (eqb k i && eqb w j)

-- an entry that is true lies within
pub true_within : (xs : List Bool) (i : ℕ) → get_or xs i false ≡ true → i < length xs
true_within xs i e = ⊎_elim (λ within. within) (λ past. absurd (false≢true (sym (get_or_past xs i false past) ∙ e))) (cases_lt i (length xs))
