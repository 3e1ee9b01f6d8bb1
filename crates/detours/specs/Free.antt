-- The free actions of a variable.
use Rattle.std.specs.Prelude.{ℕ, Bool, true, false, not, ◌&&◌, ◌||◌, Some, None, Option, ◌==◌}
use Rattle.tasks.specs.Bounds.{all_below}
use Rattle.tasks.specs.Task.{Task}

abbrev pub absent : Option ℕ → Bool
absent None = true
absent (Some x) = false

-- action a names no value of variable w
abbrev pub unmentioned : Task → ℕ → ℕ → Bool
unmentioned t a w = absent (t.pre a w) && absent (t.eff a w)

-- A free action of v has an effect on v and mentions no other live variable; one that is not live no action mentions.
abbrev pub is_free : Task → ℕ → ℕ → Bool
is_free t v a = t.act_live a && not (absent (t.eff a v)) && all_below t.vars (λ w. (w == v) || unmentioned t a w)
