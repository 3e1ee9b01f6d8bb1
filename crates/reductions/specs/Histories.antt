-- Every list of calls that can be made on a pile, from its making on, and what is promised after it.
use Rattle.std.specs.Prelude.{◌≡◌, ℕ, ◌+◌, ◌<◌, ◌≤◌, true, false, List, [], ◌∷◌, ◌++◌, length, Some, None, Ok, Err, Option}
use Rattle.tasks.specs.declared.refusal.Cause.TheVariants.{BufferSizes, BufferShort}
use Rattle.tasks.specs.declared.refusal.Refusal.{Refusal}
use Rattle.tasks.specs.Task.{Priced, Lawful}
use Rattle.tasks.specs.Plans.{is_plan, Solvable}
use Rattle.tasks.specs.Measures.{CostAlgebra, CostLaws}
use Rattle.tasks.specs.Totals.{total}
use Rattle.detours.specs.Detours.{Found, detour}
use Rattle.detours.specs.DetourLaw.{LeastDetour}
use Rattle.reductions.specs.Steps.{Step, abstract}
use Rattle.reductions.specs.Acceptance.{adding_refusal}
use Rattle.reductions.specs.Applying.{reduced}
use Rattle.reductions.specs.Extending.{Buffers, extended, all_inserted, ill_sized, answer, written, extend}

pub data Mode : Type 0 where
  open_pile closed_pile : Mode

-- The lists of calls that the type check lets through, each call with any arguments. S is the kind of total of the measure
-- spoken of; an extending in another measure leaves the pile alone.
pub data History (S : Type 0) : Mode → Type 0 where
  created : History S open_pile
  then_add : History S open_pile → Step → History S open_pile
  then_take_back : History S open_pile → History S open_pile
  then_close : History S open_pile → History S closed_pile
  then_reopen : History S closed_pile → History S open_pile
  then_extend : History S closed_pile → List ℕ → Buffers S → History S closed_pile
  then_extend_otherwise : History S closed_pile → History S closed_pile

abbrev pub all_but_last : List Step → List Step
all_but_last [] = []
all_but_last (s ∷ []) = []
all_but_last (s ∷ u ∷ ss) = s ∷ all_but_last (u ∷ ss)

abbrev pub pushed : List Step → Step → Option Refusal → List Step
pushed ss s None = ss ++ (s ∷ [])
pushed ss s (Some e) = ss

-- a step that is not refused is added at the end
abbrev pub added : Priced → List Step → Step → List Step
added b ss s = pushed ss s (adding_refusal (length ss) (reduced b ss) s)

abbrev pub steps_after : {S : Type 0} → Priced → {o : Mode} → History S o → List Step
steps_after b created = []
steps_after b (then_add cs s) = added b (steps_after b cs) s
steps_after b (then_take_back cs) = all_but_last (steps_after b cs)
steps_after b (then_close cs) = steps_after b cs
steps_after b (then_reopen cs) = steps_after b cs
steps_after b (then_extend cs plan u) = steps_after b cs
steps_after b (then_extend_otherwise cs) = steps_after b cs

abbrev pub EquallySolvable : Priced → Priced → Type 0
EquallySolvable p q = (Solvable p.task → Solvable q.task) × (Solvable q.task → Solvable p.task)

module _ {S : Type 0} (m : CostAlgebra S) where
  -- what is promised of extending a plan of the task in which ss stand
  pub record SoundExtension (b : Priced) (ss : List Step) (plan : List ℕ) : Type 0 where
    pub is_a_plan : is_plan b.task (extended m b ss plan) ≡ true
    pub joins : total m b (extended m b ss plan) ≡ m.join (total m (reduced b ss) plan) (total m b (all_inserted m b ss plan))
    pub counts : length (extended m b ss plan) ≡ length plan + length (all_inserted m b ss plan)

  -- what a call of extending comes to, handed a plan of the pile: refused for its buffers, refused for its length, or written; nothing else
  pub record SoundExtendCall (b : Priced) (ss : List Step) (plan : List ℕ) (u : Buffers S) : Type 0 where
    pub ill : ill_sized m u ≡ true → extend m b ss plan u ≡ record { said = Err (record { cause = BufferSizes; place = 0 }); left = u }
    pub short : ill_sized m u ≡ false → length u.first < length (extended m b ss plan) → extend m b ss plan u ≡ record { said = Err (record { cause = BufferShort; place = 0 }); left = written m [] u }
    pub fitting : ill_sized m u ≡ false → length (extended m b ss plan) ≤ length u.first → extend m b ss plan u ≡ record { said = Ok (answer m b ss plan); left = written m (extended m b ss plan) u }
    pub carried : SoundExtension b ss plan

  -- each extending in the list of calls was such, as the pile then stood
  abbrev pub SoundExtendCalls : Priced → {o : Mode} → History S o → Type 0
  SoundExtendCalls b created = Unit {0}
  SoundExtendCalls b (then_add cs s) = SoundExtendCalls b cs
  SoundExtendCalls b (then_take_back cs) = SoundExtendCalls b cs
  SoundExtendCalls b (then_close cs) = SoundExtendCalls b cs
  SoundExtendCalls b (then_reopen cs) = SoundExtendCalls b cs
  SoundExtendCalls b (then_extend cs plan u) = (is_plan (reduced b (steps_after b cs)).task plan ≡ true → SoundExtendCall b (steps_after b cs) plan u) × SoundExtendCalls b cs
  SoundExtendCalls b (then_extend_otherwise cs) = SoundExtendCalls b cs

  -- between any two live values of v there is a detour, and no list of free actions that leads the same way totals less
  abbrev pub LeastDetours : Priced → ℕ → Type 0
  LeastDetours p v = (c r : ℕ) → p.task.val_live v c ≡ true → p.task.val_live v r ≡ true → (d : Found S) × (detour m p v c r ≡ Some d) × LeastDetour m p v c r d

  pub record Preserved (b : Priced) {o : Mode} (cs : History S o) : Type 0 where
    pub few : length (steps_after b cs) ≤ 128
    pub solvable : EquallySolvable (reduced b (steps_after b cs)) b
    pub extends : SoundExtendCalls b cs
    pub least : (before : List Step) (v : ℕ) (later : List Step) → steps_after b cs ≡ before ++ (abstract v ∷ later) → LeastDetours (reduced b before) v

  -- the whole promise of a pile over b
  abbrev pub EveryHistoryPreserves : Priced → Type 0
  EveryHistoryPreserves b = Lawful b.task → CostLaws m → (o : Mode) (cs : History S o) → Preserved b cs
