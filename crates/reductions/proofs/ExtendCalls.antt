-- A call of extending, handed a plan, comes to one of three things.
use Rattle.std.proofs.Common.{◌≡◌, ℕ, Bool, true, false, List, [], length, is_ok, Ok, Err, Result, refl, ap, ◌∙◌}
use Rattle.std.proofs.lemmas.Bool.{false≢true, le-leb, lt-leb}
use Rattle.tasks.specs.declared.refusal.Cause.TheVariants.{BufferSizes, BufferShort}
use Rattle.tasks.specs.declared.refusal.Refusal.{Refusal}
use Rattle.tasks.specs.Task.{Task, Priced}
use Rattle.tasks.specs.Plans.{State, is_plan, checked}
use Rattle.tasks.specs.Measures.{CostAlgebra}
use Rattle.tasks.proofs.Checking.{accepted_is_plan}
use Rattle.reductions.specs.Steps.{Step}
use Rattle.reductions.specs.Applying.{reduced}
use Rattle.reductions.specs.Extending.{Buffers, Outcome, extended, ill_sized, answer, written, extend, extend_checked, extend_fitting}
use Rattle.reductions.specs.Histories.{SoundExtension, SoundExtendCall}

plan_passes : (t : Task) (plan : List ℕ) → is_plan t plan ≡ true → (s : State) × (checked t plan ≡ Ok s)
plan_passes t plan h = go (checked t plan) (accepted_is_plan t plan t.init 0 ∙ h)
  where
    go : (r : Result State Refusal) → is_ok r ≡ true → (s : State) × (r ≡ Ok s)
    go (Ok s) e = (s, refl)
    go (Err x) e = absurd (false≢true e)

module _ {S : Type 0} (m : CostAlgebra S) (b : Priced) (ss : List Step) (plan : List ℕ) (u : Buffers S) where
  -- the call by its two tests and by what the check answers
  by_size : Bool → Result State Refusal → Outcome S
  by_size ill r = elim ill [ true ↦ record { said = Err (record { cause = BufferSizes; place = 0 }); left = u } | false ↦ extend_checked m b ss plan u r ]

  by_length : Bool → Outcome S
  by_length fits = elim fits [ true ↦ record { said = Ok (answer m b ss plan); left = written m (extended m b ss plan) u } | false ↦ record { said = Err (record { cause = BufferShort; place = 0 }); left = written m [] u } ]

  passes : is_plan (reduced b ss).task plan ≡ true → ill_sized m u ≡ false → extend m b ss plan u ≡ extend_fitting m b ss plan u
  unfolding by_size
  passes h sized = ap (λ (ill : Bool). by_size ill (checked (reduced b ss).task plan)) sized ∙ ap (by_size false) (plan_passes (reduced b ss).task plan h).1

  pub extend_call_sound : is_plan (reduced b ss).task plan ≡ true → SoundExtension m b ss plan → SoundExtendCall m b ss plan u
  unfolding by_size by_length
  extend_call_sound h sound = record {
    ill = λ e. ap (λ (ill : Bool). by_size ill (checked (reduced b ss).task plan)) e;
    short = λ sized l. passes h sized ∙ ap by_length (lt-leb (length (extended m b ss plan)) (length u.first) l);
    fitting = λ sized l. passes h sized ∙ ap by_length (le-leb (length (extended m b ss plan)) (length u.first) l);
    carried = sound;
  }
