-- What the code's types stand for in the definitions.
use Rattle.std.specs.Prelude.{ℕ, List, map, Option, Some, None}
use Rattle.heap_terms.specs.declared.symbols.Symbols.{Symbols as SymbolTable}
use Rattle.heap_terms.specs.declared.symbols.DefinitionName.{DefinitionName}
use Rattle.heap_terms.specs.declared.shape.Reference.{Reference as AReference}
use Rattle.heap_terms.specs.declared.shape.Shape.{Shape as AShape}
use Rattle.heap_terms.specs.declared.shape.Shape.TheVariants as shapes
use Rattle.heap_terms.specs.Shapes.{Symbols, Reference, Shape, Integer, Atom, Nil, Cons, Tuple, Fun, parts}

abbrev pub name_of : DefinitionName → List ℕ × ℕ
name_of d = (d.name, d.arity)

abbrev pub symbols_of : SymbolTable → Symbols
symbols_of s = record { atoms = s.atoms.items; definitions = map name_of s.definitions.items; functions = s.functions }

abbrev pub reference_of : AReference → Reference
reference_of r = record { below = r.below; word = r.word }

abbrev pub one_seen : AShape → Shape Reference
one_seen (shapes.Integer value) = Integer value
one_seen (shapes.Atom name) = Atom name.now
one_seen shapes.Nil = Nil
one_seen (shapes.Cons head tail) = Cons (reference_of head) (reference_of tail)
one_seen (shapes.Tuple below elements) = Tuple (parts below elements.now)
one_seen (shapes.Fun number below captured) = Fun number (parts below captured.now)

abbrev pub shape_seen : Option AShape → Option (Shape Reference)
shape_seen None = None
shape_seen (Some s) = Some (one_seen s)
