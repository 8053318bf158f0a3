-- Document 01, "Refusals": the order of the tests.
use Rattle.std.specs.Prelude.{Bool, cond, List, [], ◌∷◌, Result}
use Rattle.matching.specs.Refusals.{none_bad}
use Rattle.matching.specs.declared.refusals.Refusal.{Refusal}
use Rattle.matching.specs.declared.refusals.BadArgument.{BadArgument}

-- a test that a call makes as it begins, and the refusal that it gives where the test is not passed
pub record Condition : Type 0 where
  pub passed : Bool
  pub refusal : Refusal

-- ARG_INVALID, unless no argument of the call is bad
abbrev pub good_arguments : Result Unit BadArgument → Condition
good_arguments tested = record { passed = none_bad tested; refusal = Refusal.ArgInvalid }

-- "Tested in this order. Each returns its number only and changes nothing.": the first refusal of a test that is not passed, or
-- else what the call does
abbrev pub unless_refused : {R : Type 0} → (Refusal → R) → List Condition → R → R
unless_refused refuse [] does = does
unless_refused refuse (c ∷ cs) does = cond c.passed (unless_refused refuse cs does) (refuse c.refusal)
