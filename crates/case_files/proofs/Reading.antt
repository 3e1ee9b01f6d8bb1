-- Numbers that are read one after another.
use Rattle.std.proofs.Common.{◌≡◌, List, [], ◌∷◌, ◌++◌, map}
use Rattle.std.specs.List.{AllZip}

pub push : {A B : Type 0} (R : A → B → Type 0) (xs : List A) (ys zs : List B) (x : A) (y : B) → AllZip R xs ys → R x y → zs ≡ ys ++ y ∷ [] → AllZip R (xs ++ x ∷ []) zs
push {A} {B} R xs ys zs x y so_far is e = rw e (behind xs ys so_far)
  where
    behind : (xs : List A) (ys : List B) → AllZip R xs ys → AllZip R (xs ++ x ∷ []) (ys ++ y ∷ [])
    behind [] [] h = (is, tt)
    behind [] (b ∷ ys) h = elim h [ ]
    behind (a ∷ xs) [] h = elim h [ ]
    behind (a ∷ xs) (b ∷ ys) h = (h.0, behind xs ys h.1)

pub of_map : {A B C : Type 0} (R : B → C → Type 0) (f : A → B) (xs : List A) (ys : List C) → AllZip (λ x y. R (f x) y) xs ys → AllZip R (map f xs) ys
of_map R f [] [] h = h
of_map R f [] (y ∷ ys) h = h
of_map R f (x ∷ xs) [] h = h
of_map R f (x ∷ xs) (y ∷ ys) h = (h.0, of_map R f xs ys h.1)
