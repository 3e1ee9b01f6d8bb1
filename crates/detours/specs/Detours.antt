-- How a detour is found: values are settled in the order of their totals, and the actions are read back from the wanted one.
use Rattle.std.specs.Prelude.{ℕ, zero, suc, Bool, true, false, not, ◌&&◌, List, [], ◌∷◌, set, replicate, Some, None, Option, ◌==◌, slice_index_or, slice_set}
use Rattle.tasks.specs.Task.{Priced}
use Rattle.tasks.specs.Plans.{agrees}
use Rattle.tasks.specs.Measures.{CostAlgebra}
use Rattle.detours.specs.Free.{is_free}

-- The most values that a variable has: so many turns suffice. It is no abbreviation, so that no proof computes them.
unfoldable pub most_values : ℕ
most_values = 64

-- What is known of a value: its total if it has one, the action and the value that gave it, and whether it is settled.
-- A value without a total, and the one where the detour starts, came from nowhere: what stands there is never read.
pub record Label (S : Type 0) : Type 0 where
  pub sum : Option S
  pub via : ℕ
  pub from : ℕ
  pub done : Bool

-- a list of actions and what it costs
pub record Found (S : Type 0) : Type 0 where
  pub actions : List ℕ
  pub total : S

module _ {S : Type 0} (m : CostAlgebra S) where
  abbrev pub unlabelled : Label S
  unlabelled = record { sum = None; via = 0; from = 0; done = false }

  -- there was no total, or a strictly greater one
  abbrev pub improves : S → Option S → Bool
  improves x None = true
  improves x (Some y) = not (m.at_most y x)

  -- the unsettled value of least total, the lower number at a tie
  abbrev pub least_open : List (Label S) → ℕ → Option ℕ → Option S → Option ℕ
  least_open [] i at best = at
  least_open (e ∷ es) i at best =
      elim e.done [
        | true ↦ least_open es (suc i) at best
        | false ↦ elim e.sum [
          | None ↦ least_open es (suc i) at best
          | Some x ↦ elim (improves x best) [ true ↦ least_open es (suc i) (Some i) (Some x) | false ↦ least_open es (suc i) at best ]
        ]
      ]

  -- action a leads from u to a target at the total x: one that is not settled takes both if that improves it
  abbrev pub relax : List (Label S) → ℕ → ℕ → S → Option ℕ → List (Label S)
  relax es u a x None = es
  relax es u a x (Some y) =
      let e = slice_index_or es y unlabelled in
      elim (not e.done && improves x e.sum) [ true ↦ set es y (record { sum = Some x; via = a; from = u; done = false }) | false ↦ es ]

  -- the free actions that lead from u, whose total is x, in ascending number: n of them from a on
  abbrev pub relax_all : Priced → ℕ → ℕ → S → ℕ → ℕ → List (Label S) → List (Label S)
  relax_all p v u x zero a es = es
  relax_all p v u x (suc n) a es =
      elim (is_free p.task v a && agrees (p.task.pre a v) u) [
        | true ↦ relax_all p v u x n (suc a) (relax es u a (m.join x (m.weight (p.price a))) (p.task.eff a v))
        | false ↦ relax_all p v u x n (suc a) es
      ]

  abbrev pub total_at : Option S → S
  total_at None = m.nothing
  total_at (Some x) = x

  abbrev pub closed : Label S → Label S
  closed e = record { sum = e.sum; via = e.via; from = e.from; done = true }

  -- value after value is settled and its free actions are tried, until no value can be settled
  abbrev pub settle : Priced → ℕ → ℕ → List (Label S) → List (Label S)
  settle p v zero es = es
  settle p v (suc fuel) es =
      elim (least_open es 0 None None) [
        | None ↦ es
        | Some u ↦
            let e = slice_index_or es u unlabelled in
            settle p v fuel (relax_all p v u (total_at e.sum) p.task.acts 0 (slice_set es u (closed e)))
      ]

  -- c has the total of nothing and the others have none yet
  abbrev pub begun : ℕ → List (Label S)
  begun c = slice_set (replicate 64 unlabelled) c (record { sum = Some m.nothing; via = 0; from = 0; done = false })

  abbrev pub settled : Priced → ℕ → ℕ → List (Label S)
  settled p v c = settle p v most_values (begun c)

  -- the actions leading back from r to c, read forward
  abbrev pub trace_back : List (Label S) → ℕ → ℕ → ℕ → List ℕ → List ℕ
  trace_back es c zero r acc = acc
  trace_back es c (suc fuel) r acc =
      elim (r == c) [ true ↦ acc | false ↦ let e = slice_index_or es r unlabelled in trace_back es c fuel e.from (e.via ∷ acc) ]

  abbrev pub led_to : List (Label S) → ℕ → ℕ → Option S → Option (Found S)
  led_to es c r None = None
  led_to es c r (Some x) = Some (record { actions = trace_back es c most_values r []; total = x })

  abbrev pub read_off : List (Label S) → ℕ → ℕ → Option (Found S)
  read_off es c r = led_to es c r (slice_index_or es r unlabelled).sum

  -- the detour of v from c to r: none where one of them is not live or r cannot be reached
  abbrev pub detour : Priced → ℕ → ℕ → ℕ → Option (Found S)
  detour p v c r = elim (p.task.val_live v c && p.task.val_live v r) [ true ↦ read_off (settled p v c) c r | false ↦ None ]
