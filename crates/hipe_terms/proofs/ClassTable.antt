-- The classes of what is raised, on a table by hand. Each line is checked by computing its left side.
use Rattle.std.specs.Prelude.{◌≡◌, Some, None, refl, codes}
use Rattle.hipe_terms.specs.Classes.{class_named, class_numbered}
use Rattle.hipe_terms.specs.declared.class.Class.TheVariants.{Error, Exit, Throw}

named-1 : class_named (codes "error") ≡ Some Error
named-1 = refl

named-2 : class_named (codes "exit") ≡ Some Exit
named-2 = refl

named-3 : class_named (codes "throw") ≡ Some Throw
named-3 = refl

named-4 : class_named (codes "exits") ≡ None
named-4 = refl

numbered-1 : class_numbered 1 ≡ Some Error
numbered-1 = refl

numbered-2 : class_numbered 2 ≡ Some Exit
numbered-2 = refl

numbered-3 : class_numbered 3 ≡ Some Throw
numbered-3 = refl

numbered-0 : class_numbered 0 ≡ None
numbered-0 = refl

numbered-4 : class_numbered 4 ≡ None
numbered-4 = refl
