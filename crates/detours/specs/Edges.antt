-- The free actions of a variable as the edges of a graph over its values.
use Rattle.std.specs.Prelude.{ℕ, zero, suc, ◌<◌, cond, List, [], ◌∷◌, length, Some, None, Option, slice_index_or}
use Rattle.tasks.specs.Task.{Priced}
use Rattle.detours.specs.declared.edges.Edge.{Edge}
use Rattle.detours.specs.declared.edges.Edges.{Edges}
use Rattle.detours.specs.Free.{is_free}

-- the edge of action a, which sets v as given, if it is free
abbrev pub edge_to : Priced → ℕ → ℕ → Option ℕ → Option Edge
edge_to p v a None = None
edge_to p v a (Some y) = cond (is_free p.task v a) (Some (record { action = a; from = p.task.pre a v; to = y; price = p.price a })) None

abbrev pub edge_of : Priced → ℕ → ℕ → Option Edge
edge_of p v a = edge_to p v a (p.task.eff a v)

abbrev pub put_first : Option Edge → List Edge → List Edge
put_first None rest = rest
put_first (Some e) rest = e ∷ rest

-- those of n actions from a on, in ascending number
abbrev pub free_edges : Priced → ℕ → ℕ → ℕ → List Edge
free_edges p v zero a = []
free_edges p v (suc n) a = put_first (edge_of p v a) (free_edges p v n (suc a))

-- what was gathered
abbrev pub edges_in : Edges → List Edge
edges_in e = e.list.items

-- every edge leads to a value below 64, the most that a variable has
abbrev pub TargetsFit : List Edge → Type 0
TargetsFit es = (k : ℕ) (d : Edge) → k < length es → (slice_index_or es k d).to < 64
