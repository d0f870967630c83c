-- Contexts, by what they are made of.
use Rattle.std.proofs.Common.{◌≡◌, refl}
use Rattle.eval_contexts.specs.declared.context.Context.{Context}
use Rattle.eval_contexts.specs.Contexts.{context_in}
use Rattle.eval_procedures.specs.Shown.{scope_in}
use Rattle.eval_values.specs.Values.{terms_in}

pub depth_is : (c : Context) → (context_in c).depth ≡ c.depth
depth_is c = refl

pub number_is : (c : Context) → (context_in c).number ≡ c.number
number_is c = refl

pub bound_is : (c : Context) → (context_in c).bound ≡ terms_in c.bound.now
bound_is c = refl

pub scope_is : (c : Context) → (context_in c).scope ≡ scope_in c.scope
scope_is c = refl

pub ruleset contexts = (depth_is, number_is, bound_is, scope_is)
