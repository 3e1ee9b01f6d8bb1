-- What the marks and the caller's totals say of each value.
use Rattle.std.specs.Prelude.{ℕ, zero, suc, Bool, true, false, List, [], ◌∷◌, Some, None, Option, ◌==◌, slice_index_or}
use Rattle.detours.specs.declared.marks.Origin.{Origin}
use Rattle.detours.specs.declared.marks.Mark.{Mark}
use Rattle.detours.specs.declared.marks.Mark.TheVariants.{Unreached, Open, Settled}
use Rattle.detours.specs.Detours.{Label}

-- what led to a value; what stands here for one that is not reached is never read
abbrev pub origin_of : Mark → Origin
origin_of Unreached = record { via = 0; from = 0 }
origin_of (Open o) = o
origin_of (Settled o) = o

abbrev pub settled_of : Mark → Mark
settled_of Unreached = Unreached
settled_of (Open o) = Settled o
settled_of (Settled o) = Settled o

abbrev pub is_open : Mark → Bool
is_open Unreached = false
is_open (Open o) = true
is_open (Settled o) = false

-- a total counts where the value is reached
abbrev pub label_of : {S : Type 0} → Mark → S → Label S
label_of Unreached x = record { sum = None; via = 0; from = 0; done = false }
label_of (Open o) x = record { sum = Some x; via = o.via; from = o.from; done = false }
label_of (Settled o) x = record { sum = Some x; via = o.via; from = o.from; done = true }

abbrev pub labels : {S : Type 0} → List Mark → List S → List (Label S)
labels [] xs = []
labels (k ∷ ks) [] = []
labels (k ∷ ks) (x ∷ xs) = label_of k x ∷ labels ks xs

-- and past the last
abbrev pub origin_at : List Mark → ℕ → Origin
origin_at ks i = origin_of (slice_index_or ks i Unreached)

-- the actions leading back from r to c, read forward, by the marks alone
abbrev pub trace_marks : List Mark → ℕ → ℕ → ℕ → List ℕ → List ℕ
trace_marks ks c zero r acc = acc
trace_marks ks c (suc fuel) r acc =
    elim (r == c) [ true ↦ acc | false ↦ let o = origin_at ks r in trace_marks ks c fuel o.from (o.via ∷ acc) ]

-- the best value so far, and its total
abbrev pub place_of : {S : Type 0} → Option (ℕ × S) → Option ℕ
place_of None = None
place_of (Some p) = Some p.0

abbrev pub total_of : {S : Type 0} → Option (ℕ × S) → Option S
total_of None = None
total_of (Some p) = Some p.1
