-- What a step of the code says.
use Rattle.reductions.specs.declared.step.Merge.{Merge as WrittenMerge}
use Rattle.reductions.specs.declared.step.Generalise.{Generalise as WrittenGeneralise}
use Rattle.reductions.specs.declared.step.Step.{Step as Written}
use Rattle.reductions.specs.declared.step.Step.TheVariants.{Merge, Generalise, Variable, Action, Abstract}
use Rattle.reductions.specs.Steps.{Step, merge, generalise, variable, action, abstract}

abbrev pub merge_of : WrittenMerge → Step
merge_of m = merge m.variable m.from m.to m.forward m.back

abbrev pub generalise_of : WrittenGeneralise → Step
generalise_of g = generalise g.variable g.action g.twin

abbrev pub step_of : Written → Step
step_of (Merge m) = merge_of m
step_of (Generalise g) = generalise_of g
step_of (Variable v) = variable v
step_of (Action a list) = action a list.now
step_of (Abstract v) = abstract v
