-- Objects behind the words that are used.
use Rattle.heap_terms_laws.specs.Objects.{CellsStand, TuplesStand, FunsStand}
use Rattle.heap_terms_laws.proofs.Lists.{cell_stands, tuple_stands, fun_stands}

pub cells_stand : CellsStand
cells_stand symbols begin used t u head tail h k = (cell_stands symbols begin t u head (tail, used) h k).1

pub tuples_stand : TuplesStand
tuples_stand symbols begin used ts ws h = (tuple_stands symbols begin used ts ws h).1

pub funs_stand : FunsStand
funs_stand symbols begin used f ts ws l h = fun_stands symbols begin used f ts ws l h
