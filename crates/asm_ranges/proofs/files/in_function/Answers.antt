use Rattle.std.proofs.Common.{refl}
use Rattle.asm_ranges.proofs.files.in_function.Goals as goal

pub returns-in-Range : goal.returns-in-Range
returns-in-Range c = rw c.in-Range.is refl

pub returns-in-List : goal.returns-in-List
returns-in-List c = rw c.in-List.is refl

pub returns-in-Function : goal.returns-in-Function
returns-in-Function c = rw c.in-Function.is c.function.ensures

pub returns-in-Rule : goal.returns-in-Rule
returns-in-Rule c = rw c.in-Rule.is refl

pub returns-in-Invariant : goal.returns-in-Invariant
returns-in-Invariant c = rw c.in-Invariant.is refl
