-- One action number more.
use Rattle.std.proofs.Common.{◌≡◌, ℕ, zero, suc, ◌+◌, ◌*◌, ◌<◌, List, [], ◌∷◌, ◌++◌, length, get_or, take, drop, w16, lit<, sym, refl, ap, ◌∙◌, ap₂, add-zero, zero-add, add-one, arith}
use Rattle.std.proofs.lemmas.List.{get_or-take, get_or-drop, drop-drop}
use Rattle.std.specs.Int.{from_be_bytes}
use Rattle.std.specs.Simd.{first_chunks}
use Rattle.packed.specs.Records.{word}
use Rattle.job.specs.Jobs.{action_numbers}

word_two : (bytes : List ℕ) (place : ℕ) → word bytes place 2 ≡ get_or bytes place 0 * 256 + get_or bytes (place + 1) 0
word_two bytes place = ap (λ (b : ℕ). b * 256 + get_or bytes (place + 1) 0) (zero-add (get_or bytes (place + 0) 0) ∙ ap (λ (p : ℕ). get_or bytes p 0) (add-zero place))

read_two : (bytes : List ℕ) (place : ℕ) → from_be_bytes w16 (take 2 (drop place bytes)) ≡ get_or bytes place 0 * 256 + get_or bytes (place + 1) 0
read_two bytes place =
    ap₂ (λ (h l : ℕ). h * 256 + l) (get_or-take 2 (drop place bytes) 0 0 (lit< tt) ∙ get_or-drop place bytes 0 0 ∙ ap (λ (p : ℕ). get_or bytes p 0) (add-zero place)) (get_or-take 2 (drop place bytes) 1 0 (lit< tt) ∙ get_or-drop place bytes 1 0)

pair : (count n : ℕ) (bytes d : List ℕ) → n < count → get_or (first_chunks 2 count bytes) n d ≡ take 2 (drop (2 * n) bytes)
pair zero n bytes d l = absurd (omega arith)
pair (suc count) zero bytes d l = refl
pair (suc count) (suc n) bytes d l =
    let less : n < count = omega arith in
    let next : 2 + 2 * n ≡ 2 * suc n = omega arith in
    pair count n (drop 2 bytes) d less ∙ ap (take 2) (drop-drop (2 * n) 2 bytes ∙ ap (λ (p : ℕ). drop p bytes) next)

pub numbers_more : (bytes numbers after d : List ℕ) (actions : List (List ℕ)) (count n x : ℕ) → actions ≡ first_chunks 2 count bytes → length actions ≡ count → n < length actions → numbers ≡ action_numbers bytes n → x ≡ from_be_bytes w16 (get_or actions n d) → after ≡ numbers ++ (x ∷ []) → after ≡ action_numbers bytes (n + 1)
numbers_more bytes numbers after d actions count n x are many l so_far is e =
    let number = is ∙ ap (λ (cs : List (List ℕ)). from_be_bytes w16 (get_or cs n d)) are ∙ ap (from_be_bytes w16) (pair count n bytes d (rw many at l)) ∙ read_two bytes (2 * n) ∙ sym (word_two bytes (2 * n)) in
    e ∙ ap₂ (λ (xs : List ℕ) (y : ℕ). xs ++ (y ∷ [])) so_far number ∙ sym (ap (action_numbers bytes) (add-one n))
