-- A number that is read from bytes, the most significant first.
use Rattle.std.proofs.Common.{◌≡◌, ℕ, zero, suc, ◌+◌, ◌-◌, ◌*◌, ◌%◌, ◌^◌, ◌<◌, ◌≤◌, List, [], ◌∷◌, ◌++◌, length, get_or, take, drop, sym, ap, ap₂, ◌∙◌, subst, arith}
use Rattle.std.specs.Int.RustNames.{bit_or}
use Rattle.std.proofs.lemmas.List.{length-append, get_or_append_left, get_or-append-add, get_or-take, get_or-drop, length-take, length-drop}
use Rattle.std.proofs.lemmas.Nat.{or_shifted}
use Rattle.packed.specs.Records.{word}

-- a number shifted by a byte, and a byte
shifted : (n b : ℕ) → n < 2 ^ 24 → b < 2 ^ 8 → bit_or ((n * 2 ^ 8) % 2 ^ 32) b ≡ n * 256 + b
shifted n b l k = let whole : (n * 2 ^ 8) % 2 ^ 32 ≡ n * 2 ^ 8 = omega arith in ap (λ (m : ℕ). bit_or m b) whole ∙ or_shifted n 8 b k

module _ (bs : List ℕ) (small : (k : ℕ) → get_or bs k 0 < 256) (place : ℕ) where
  few_bytes : (k : ℕ) → k ≤ 3 → word bs place k < 2 ^ 24
  few_bytes zero l = omega arith
  few_bytes (suc zero) l = omega (arith, small (place + 0))
  few_bytes (suc (suc zero)) l = omega (arith, small (place + 0), small (place + 1))
  few_bytes (suc (suc (suc zero))) l = omega (arith, small (place + 0), small (place + 1), small (place + 2))
  few_bytes (suc (suc (suc (suc k)))) l = absurd (omega arith)

  -- a number is that of bytes, where they are the first ones from the place on
  abbrev pub Read : List ℕ → ℕ → Type 0
  Read ys n = length ys ≤ 4 → ((k : ℕ) → k < length ys → get_or ys k 0 ≡ get_or bs (place + k) 0) → n ≡ word bs place (length ys)

  pub read_more : (ys : List ℕ) (a x b : ℕ) → Read ys a → b ≡ bit_or ((a * 2 ^ 8) % 2 ^ 32) x → Read (ys ++ (x ∷ [])) b
  read_more ys a x b h e most same =
      let m : length (ys ++ (x ∷ [])) ≡ suc (length ys) = length-append ys (x ∷ []) ∙ omega arith in
      let last : x ≡ get_or bs (place + length ys) 0 = sym (get_or-append-add ys (x ∷ []) 0 0) ∙ ap (λ (k : ℕ). get_or (ys ++ (x ∷ [])) k 0) (here (length ys)) ∙ same (length ys) (omega arith) in
      let first : a ≡ word bs place (length ys) = h (omega arith) (λ k l. sym (get_or_append_left ys (x ∷ []) 0 k l) ∙ same k (omega arith)) in
      let few : a < 2 ^ 24 = subst (λ (n : ℕ). n < 2 ^ 24) (sym first) (few_bytes (length ys) (omega arith)) in
      let byte : x < 2 ^ 8 = subst (λ (n : ℕ). n < 2 ^ 8) (sym last) (small (place + length ys)) in
      e ∙ shifted a x few byte ∙ ap₂ (λ (p q : ℕ). p * 256 + q) first last ∙ sym (ap (word bs place) m)
    where
      here : (m : ℕ) → m + 0 ≡ m
      here m = omega arith

  -- and of all of them
  pub read_all : (ys : List ℕ) (k n : ℕ) → ys ≡ take (place + k - place) (drop place bs) → place + k ≤ length bs → k ≤ 4 → Read ys n → n ≡ word bs place k
  read_all ys k n e fits few h =
      let long : length ys ≡ k = omega (arith, ap length e, length-take (place + k - place) (drop place bs), length-drop place bs) in
      h (omega arith) (λ j l. ap (λ (zs : List ℕ). get_or zs j 0) e ∙ get_or-take (place + k - place) (drop place bs) j 0 (omega arith) ∙ get_or-drop place bs j 0) ∙ ap (word bs place) long
